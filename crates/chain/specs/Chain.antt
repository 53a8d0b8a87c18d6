-- Two calls in a row: the first's output shares go straight into the second. Here are the second's case, the refusals in their order, and
-- what a chained call hands back and leaves. A refused one leaves all as it was.
use Rattle.std.specs.Prelude.{not, List, [], ◌∷◌, ◌++◌, ℕ, zero, suc, eqb}
use Rattle.refusals.specs.Checks.{Check, ◌when◌, first_of}
use Rattle.refusals.specs.Left.{left}
use Rattle.buffers.specs.Written.{in_front}
use Rattle.lookup.specs.declared.Case.{Case}
use Rattle.lookup.specs.Call.{answer, scratch_after, log_of, log_length}
use Rattle.lookup.specs.Refusals.{box_checks, other_checks}
use Rattle.chain.specs.declared.Second.{Second}
use Rattle.chain.specs.Chained.{Chained}
use Rattle.chain.specs.Lent.{Lent}

-- the second call's case, where the first has answered with this share: the share is its x0, and the first's s1 and s2 are its r1 and r2
unfoldable pub second_case : (first : Case) → (second : Second) → (share : ℕ) → Case
second_case first second share =
    record {
      method = second.method;
      n = second.n;
      m = second.m;
      x0 = share;
      r1 = first.s1;
      r2 = first.s2;
      s1 = second.s1;
      s2 = second.s2;
      r3 = second.r3;
      b = second.b;
    }

-- the same with the answer that the first gives
unfoldable pub following : (first : Case) → (second : Second) → (first_table : List ℕ) → Case
following first second table = second_case first second (answer first table)

-- both tables' 2 to 7, the first before the second; 18, the first m is not the second n; the first call's other checks, then the second's
unfoldable pub chain_checks : (first : Case) → (second : Second) → Lent → List Check
chain_checks first second l =
    box_checks first l.first_table
    ++ box_checks (following first second l.first_table) l.second_table
    ++ (18 when (not (eqb first.m second.n)) ∷ [])
    ++ other_checks first l.first_scratch l.first_log
    ++ other_checks (following first second l.first_table) l.second_scratch l.second_log

unfoldable pub chain_refusal : (first : Case) → (second : Second) → Lent → ℕ
chain_refusal first second l = first_of (chain_checks first second l)

-- the second share and both counts where nothing is refused, and zeros beside the number of a refusal
unfoldable pub chained : (refusal share first_count second_count : ℕ) → Chained
chained zero share first_count second_count =
    record { refusal = 0; share = share; first_count = first_count; second_count = second_count }
chained (suc k) share first_count second_count = record { refusal = suc k; share = 0; first_count = 0; second_count = 0 }

unfoldable pub chain_reply : (first : Case) → (second : Second) → Lent → Chained
chain_reply first second l =
    chained (chain_refusal first second l) (answer (following first second l.first_table) l.second_table)
    (log_length first.method first.n) (log_length second.method second.n)

-- both scratches and both logs after the call
unfoldable pub chain_first_scratch : (first : Case) → (second : Second) → Lent → List ℕ
chain_first_scratch first second l =
    left (chain_refusal first second l) (scratch_after first l.first_table l.first_scratch) l.first_scratch

unfoldable pub chain_second_scratch : (first : Case) → (second : Second) → Lent → List ℕ
chain_second_scratch first second l =
    left (chain_refusal first second l)
    (scratch_after (following first second l.first_table) l.second_table l.second_scratch) l.second_scratch

unfoldable pub chain_first_log : (first : Case) → (second : Second) → Lent → List ℕ
chain_first_log first second l =
    left (chain_refusal first second l) (in_front (log_of first l.first_table) l.first_log) l.first_log

unfoldable pub chain_second_log : (first : Case) → (second : Second) → Lent → List ℕ
chain_second_log first second l =
    left (chain_refusal first second l)
    (in_front (log_of (following first second l.first_table) l.second_table) l.second_log) l.second_log
