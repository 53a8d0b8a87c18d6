-- The count of a chain: over all choices of both calls' masks, how many put two given values at two given entries, of one of the two logs or
-- one of each; of the logs as they are defined, and of those that the chained call leaves.
use Rattle.std.specs.Prelude.{cond, ◌&&◌, List, ◌++◌, ℕ, eqb, drop}
use Rattle.counting.specs.Choice.{over}
use Rattle.lookup.specs.declared.Case.{Case}
use Rattle.lookup.specs.Call.{log_of, log_length}
use Rattle.secrecy.specs.Count.{MaskPlaces, single, chosen_case, mask_widths, value_at}
use Rattle.chain.specs.declared.Second.{Second}
use Rattle.chain.specs.Lent.{Lent}
use Rattle.chain.specs.Chain.{following, chain_first_log, chain_second_log}

-- the two calls' methods, and the widths of the first's input, of what goes from the first to the second, and of the second's output
pub record Boxes : Type 0 where
  pub first_method : ℕ
  pub second_method : ℕ
  pub input : ℕ
  pub between : ℕ
  pub output : ℕ

abbrev pub boxes : (first_method second_method input between output : ℕ) → Boxes
boxes first_method second_method input between output =
    record { first_method = first_method; second_method = second_method; input = input; between = between; output = output }

abbrev pub boxes_of : Case → Second → Boxes
boxes_of first second = boxes first.method second.method first.n first.m second.m

-- one of the two calls
pub data Which : Type 0 where
  first second : Which

-- the entries that each of them logs
unfoldable pub entries : Boxes → Which → ℕ
entries k first = log_length k.first_method k.input
entries k second = log_length k.second_method k.between

-- A choice fixes the first call's r1, r2, r3, s1, s2 and b, as a single call's does, and behind them the second's r3, s1, s2 and b: its r1 and
-- r2 are the first's s1 and s2, and are not drawn again.
abbrev pub behind : MaskPlaces
behind = record { r1 = 3; r2 = 4; r3 = 6; s1 = 7; s2 = 8; b = 9 }

unfoldable pub chain_widths : Boxes → List ℕ
chain_widths k = mask_widths k.first_method k.input k.between ++ drop 2 (mask_widths k.second_method k.between k.output)

-- the first call's case of an input and a choice, and what the second has of its own
unfoldable pub first_case : Boxes → (x : ℕ) → (choice : ℕ → ℕ) → Case
first_case k x c = chosen_case single k.first_method k.input k.between x c

unfoldable pub second_own : Boxes → (choice : ℕ → ℕ) → Second
second_own k c =
    record {
      method = k.second_method;
      n = k.between;
      m = k.output;
      s1 = c behind.s1;
      s2 = c behind.s2;
      r3 = c behind.r3;
      b = c behind.b;
    }

-- the two logs of an input and a choice, as they are defined
unfoldable pub defined_logs : (first_table second_table : List ℕ) → Boxes → (x : ℕ) → (choice : ℕ → ℕ) → Which → List ℕ
defined_logs S T k x c first = log_of (first_case k x c) S
defined_logs S T k x c second = log_of (following (first_case k x c) (second_own k c) S) T

-- and as the chained call leaves them
unfoldable pub left_logs : Lent → Boxes → (x : ℕ) → (choice : ℕ → ℕ) → Which → List ℕ
left_logs l k x c first = chain_first_log (first_case k x c) (second_own k c) l
left_logs l k x c second = chain_second_log (first_case k x c) (second_own k c) l

-- how many choices put value u in entry i of log w and value v in entry j of log w'; `logs` makes the two logs of a choice
unfoldable pub count_by : (logs : (choice : ℕ → ℕ) → Which → List ℕ) → Boxes → (w w' : Which) → (i j u v : ℕ) → ℕ
count_by logs k w w' i j u v = over (chain_widths k) (λ c. cond (eqb (value_at (logs c w) i) u && eqb (value_at (logs c w') j) v) 1 0)

unfoldable pub chain_count : (first_table second_table : List ℕ) → Boxes → (x : ℕ) → (w w' : Which) → (i j u v : ℕ) → ℕ
chain_count S T k x = count_by (defined_logs S T k x) k

unfoldable pub chain_call_count : Lent → Boxes → (x : ℕ) → (w w' : Which) → (i j u v : ℕ) → ℕ
chain_call_count l k x = count_by (left_logs l k x) k
