-- A layer: several logged calls under method 2 on one table, each with masks of its own. The count: over all choices of all masks, how many
-- put two given values at two given entries, of one call's log or of two calls'.
use Rattle.std.specs.Prelude.{◌≡◌, false, cond, ◌&&◌, ℕ, ◌+◌, ◌*◌, ◌^◌, ◌≤◌, ◌<◌, eqb, length, replicate}
use mathlib.Core.List.{List, flatten}
use Rattle.counting.specs.Choice.{over}
use Rattle.lookup.specs.declared.Case.{Case}
use Rattle.lookup.specs.Call.{log_of, log_length, scratch_length}
use Rattle.lookup.specs.Refusals.{dirty}
use Rattle.calls.specs.Reply.{logged_log}
use Rattle.secrecy.specs.Count.{MaskPlaces, chosen_case, mask_widths, value_at}

-- each call's input has the table's width
abbrev pub InputsFit : (calls n : ℕ) → (state : ℕ → ℕ) → Type 0
InputsFit calls n x = (k : ℕ) → k < calls → x k < 2 ^ n

-- each call is lent scratch and a log that are long enough, and the scratch is clean
abbrev pub LentFit : (calls n : ℕ) → (scratch lent : (call : ℕ) → List ℕ) → Type 0
LentFit calls n scratch lent =
    (k : ℕ) → k < calls → (scratch_length 2 n ≤ length (scratch k)) × (dirty (scratch_length 2 n) (scratch k) ≡ false)
    × (log_length 2 n ≤ length (lent k))

-- the widths of all masks: a single call's, once for each call
unfoldable pub layer_widths : (calls n m : ℕ) → List ℕ
layer_widths calls n m = flatten (replicate calls (mask_widths 2 n m))

-- where call k's masks stand among all: each call has six
unfoldable pub places : (call : ℕ) → MaskPlaces
places k = record { r1 = 6 * k + 0; r2 = 6 * k + 1; r3 = 6 * k + 2; s1 = 6 * k + 3; s2 = 6 * k + 4; b = 6 * k + 5 }

-- call k's case
unfoldable pub call_case : (n m : ℕ) → (state choice : ℕ → ℕ) → (call : ℕ) → Case
call_case n m x c k = chosen_case (places k) 2 n m (x k) c

-- how many choices put value u in entry i of call a's log and value v in entry j of call b's; `log` makes call k's log of its case
unfoldable pub count_by : (log : (call : ℕ) → Case → List ℕ) → (calls n m : ℕ) → (state : ℕ → ℕ) → (a b i j u v : ℕ) → ℕ
count_by log calls n m x a b i j u v =
    over (layer_widths calls n m)
    (λ c. cond (eqb (value_at (log a (call_case n m x c a)) i) u && eqb (value_at (log b (call_case n m x c b)) j) v) 1 0)

-- the count of the logs as they are defined
unfoldable pub layer_count : (table : List ℕ) → (calls n m : ℕ) → (state : ℕ → ℕ) → (a b i j u v : ℕ) → ℕ
layer_count table = count_by (λ k case. log_of case table)

-- the count of the logs that the logged calls leave, each on the scratch and in the log that are lent to it
unfoldable pub layer_call_count : (table : List ℕ) → (scratch lent : (call : ℕ) → List ℕ) → (calls n m : ℕ) → (state : ℕ → ℕ)
    → (a b i j u v : ℕ) → ℕ
layer_call_count table scratch lent = count_by (λ k case. logged_log case table (scratch k) (lent k))
