-- The third demand (docs/ARCHITECTURE.md says which that is), of the log as it is defined and of the logged call itself. Each statement is
-- a type; the proofs stand in proofs/Promises.antt, Lent.antt, Unfit.antt and NarrowCount.antt.
use Rattle.std.specs.Prelude.{◌≡◌, true, false, List, ℕ, ◌+◌, ◌*◌, ◌^◌, ◌≤◌, ◌<◌, length}
use Rattle.bits.specs.Xor.{◌⊕◌}
use Rattle.counting.specs.Choice.{over, Within}
use Rattle.table.specs.Balanced.{at}
use Rattle.table.specs.Fit.{fit}
use Rattle.table.specs.Even.{Even}
use Rattle.table.specs.Refusals.{table_refusal}
use Rattle.lookup.specs.declared.Case.{Case}
use Rattle.lookup.specs.Methods.{known}
use Rattle.lookup.specs.Call.{log_of, log_length, scratch_length}
use Rattle.lookup.specs.Refusals.{dirty, logged_refusal}
use Rattle.calls.specs.Reply.{logged_log}
use Rattle.secrecy.specs.Count.{single, chosen_case, mask_widths, count, call_count}
use Rattle.secrecy.specs.NarrowCount.{narrow_count}

-- two positions show any two values equally often for any two inputs
abbrev pub AlikeAt : (table : List ℕ) → (method n m i j : ℕ) → Type 0
AlikeAt table method n m i j =
    (x y u v : ℕ) → x < 2 ^ n → y < 2 ^ n → count table method n m x i j u v ≡ count table method n m y i j u v

-- for every fit table, balanced ones among them (`BalancedFit` of `table`), each method (2, 3 and 5: `MethodsKnown` of `lookup`), any two
-- positions, the same one twice included, any two values and any two inputs: as many choices of all masks put those values there for the one input as
-- for the other
unfoldable pub TellsNothing : Type 0
TellsNothing =
    (table : List ℕ) (method n m x y i j u v : ℕ) → fit n m table ≡ true → known method ≡ true → x < 2 ^ n → y < 2 ^ n →
    count table method n m x i j u v ≡ count table method n m y i j u v

-- and no other table does: one that is refused with 7 tells something under each method, by the twice masked entry of turn 0, under method 5 of
-- the second pass, and the answer: they do not count equally for all inputs. So no table that is safe is refused with 7
unfoldable pub UnfitTells : Type 0
UnfitTells =
    (table : List ℕ) (n m : ℕ) → table_refusal n m table ≡ 7 →
    (AlikeAt table 2 n m 13 (9 + 6 * 2 ^ n) → ⊥) × (AlikeAt table 3 n m 16 (9 + 9 * 2 ^ n) → ⊥)
    × (AlikeAt table 5 n m (8 + 4 * 2 ^ n) (6 + 8 * 2 ^ n) → ⊥)

-- the same for every even table with entries of the output's width
unfoldable pub EvenTellsNothing : Type 0
EvenTellsNothing =
    (table : List ℕ) (method n m x y i j u v : ℕ) → Even n (at table) → ((z : ℕ) → at table z < 2 ^ m) → known method ≡ true →
    x < 2 ^ n → y < 2 ^ n → count table method n m x i j u v ≡ count table method n m y i j u v

-- of a table that is accepted, these are the counts of the narrow entries that logs had before: the demand is the one that it was (method 5 came
-- later; its rows are packed the same way)
unfoldable pub CountsAsNarrow : Type 0
CountsAsNarrow =
    (table : List ℕ) (method n m x i j u v : ℕ) → table_refusal n m table ≡ 0 → known method ≡ true → x < 2 ^ n →
    count table method n m x i j u v ≡ narrow_count table method n m x i j u v

-- how many choices there are: 2^(3n + 2m) under method 2, twice as many under method 3, and 2^(2n + 2m) under method 5
unfoldable pub ChoicesCounted : Type 0
ChoicesCounted =
    (n m : ℕ) → (over (mask_widths 2 n m) (λ c. 1) ≡ 2 ^ (3 * n + 2 * m)) × (over (mask_widths 3 n m) (λ c. 1) ≡ 2 * 2 ^ (3 * n + 2 * m))
    × (over (mask_widths 5 n m) (λ c. 1) ≡ 2 ^ (2 * n + 2 * m))

-- every one of them is accepted by the logged call, where the table is, where scratch and log are long enough, and the scratch is clean
unfoldable pub ChoicesAccepted : Type 0
ChoicesAccepted =
    (table scratch lent : List ℕ) (method n m x : ℕ) (choice : ℕ → ℕ) → table_refusal n m table ≡ 0 → known method ≡ true
    → x < 2 ^ n →
    Within (mask_widths method n m) choice → scratch_length method n ≤ length scratch → dirty (scratch_length method n) scratch ≡ false →
    log_length method n ≤ length lent →
    logged_refusal (chosen_case single method n m x choice) table scratch lent ≡ 0

-- and there is a choice for each case that the call accepts, so that none is left out
unfoldable pub AcceptedChosen : Type 0
AcceptedChosen =
    (table scratch lent : List ℕ) (c : Case) → logged_refusal c table scratch lent ≡ 0 →
    (choice : ℕ → ℕ) × Within (mask_widths c.method c.n c.m) choice
    × (chosen_case single c.method c.n c.m (c.x0 ⊕ c.r1 ⊕ c.r2) choice ≡ c)

-- for every input and choice, and whatever scratch and log are lent as the call accepts them: each entry below the log's length is the
-- counted one
unfoldable pub LentLogCounted : Type 0
LentLogCounted =
    (table scratch lent : List ℕ) (method n m x : ℕ) (choice : ℕ → ℕ) (i : ℕ)
    → logged_refusal (chosen_case single method n m x choice) table scratch lent ≡ 0 →
    i < log_length method n →
    at (logged_log (chosen_case single method n m x choice) table scratch lent) i ≡ at (log_of (chosen_case single method n m x choice) table) i

-- the third demand of the call itself, whatever scratch and log are lent, the same for every choice, refused ones too: what it leaves in the
-- log shows two values at two positions equally often for any two inputs
unfoldable pub CallTellsNothing : Type 0
CallTellsNothing =
    (table scratch lent : List ℕ) (method n m x y i j u v : ℕ) → table_refusal n m table ≡ 0 → known method ≡ true → x < 2 ^ n
    → y < 2 ^ n → i < log_length method n → j < log_length method n →
    call_count table scratch lent method n m x i j u v ≡ call_count table scratch lent method n m y i j u v
