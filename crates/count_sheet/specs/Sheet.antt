-- What the count sheet holds, and what the call leaves in the lent sheet, scratch and log: refused, it leaves all as it was.
use Rattle.std.specs.Prelude.{List, ℕ, ◌*◌, ◌/◌, ◌%◌, ◌^◌, replicate}
use Rattle.refusals.specs.Left.{left}
use Rattle.buffers.specs.Written.{in_front}
use Rattle.table.specs.Tabulate.{tabulate}
use Rattle.lookup.specs.Call.{log_length, scratch_length}
use Rattle.secrecy.specs.Count.{count}
use Rattle.count_sheet.specs.declared.ProbePair.{ProbePair}
use Rattle.count_sheet.specs.Refusals.{value_width, count_refusal}

-- how many choices of all masks put u at the first position and v at the second: the count of the third demand
unfoldable pub count_for : (table : List ℕ) → ProbePair → (u v : ℕ) → ℕ
count_for table p u v = count table p.method p.n p.m p.secret p.first p.second u v

-- the counts, 2^(2k) of them: that of u and v stands at u * 2^k + v
unfoldable pub counts : (table : List ℕ) → ProbePair → List ℕ
counts table p = tabulate (2 ^ (2 * value_width p)) (λ e. count_for table p (e / 2 ^ value_width p) (e % 2 ^ value_width p))

-- the sheet has them in front
unfoldable pub sheet_left : ProbePair → (table scratch log sheet : List ℕ) → List ℕ
sheet_left p table scratch log sheet = left (count_refusal p table scratch log sheet) (in_front (counts table p) sheet) sheet

-- as many bytes of the scratch as the runs needed, 2^n under methods 2 and 3 and twice as many under method 5, are zero
unfoldable pub scratch_left : ProbePair → (table scratch log sheet : List ℕ) → List ℕ
scratch_left p table scratch log sheet =
    left (count_refusal p table scratch log sheet) (in_front (replicate (scratch_length p.method p.n) 0) scratch) scratch

-- and so is the log below its length
unfoldable pub log_left : ProbePair → (table scratch log sheet : List ℕ) → List ℕ
log_left p table scratch log sheet =
    left (count_refusal p table scratch log sheet) (in_front (replicate (log_length p.method p.n) 0) log) log
