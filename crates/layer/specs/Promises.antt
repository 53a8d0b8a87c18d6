-- What two entries of a layer's logs tell: nothing; and that these are the logs that the calls leave. Each statement is a type; the proofs
-- stand in proofs/Promises.antt and proofs/Counts.antt.
use Rattle.std.specs.Prelude.{◌≡◌, true, List, [], ◌∷◌, ℕ, ◌+◌, ◌*◌, ◌^◌, ◌<◌}
use Rattle.counting.specs.Choice.{over, Within}
use Rattle.table.specs.Fit.{fit}
use Rattle.table.specs.Refusals.{table_refusal}
use Rattle.sbox.specs.Sbox.{sbox}
use Rattle.lookup.specs.Call.{log_length}
use Rattle.lookup.specs.Refusals.{logged_refusal}
use Rattle.layer.specs.Layer.{InputsFit, LentFit, layer_widths, call_case, layer_count, layer_call_count}

-- for every fit table, balanced ones among them (`BalancedFit` of `table`), so many calls, any two entries, of one call's log or of two
-- calls', any two values and any two states: as many choices of all masks put those values there for the one state as for the other
unfoldable pub LogsTellNothing : (calls : ℕ) → Type 0
LogsTellNothing calls =
    (table : List ℕ) (n m : ℕ) (x y : ℕ → ℕ) (a b i j u v : ℕ) → fit n m table ≡ true → InputsFit calls n x → InputsFit calls n y →
    a < calls → b < calls → layer_count table calls n m x a b i j u v ≡ layer_count table calls n m y a b i j u v

-- a layer is sixteen calls
unfoldable pub LayerTellsNothing : Type 0
LayerTellsNothing = LogsTellNothing 16

-- so is AES's, of sixteen bytes looked up in the S-box
unfoldable pub SboxLayerTellsNothing : Type 0
SboxLayerTellsNothing =
    (x y : ℕ → ℕ) (a b i j u v : ℕ) → InputsFit 16 8 x → InputsFit 16 8 y → a < 16 → b < 16 →
    layer_count sbox 16 8 8 x a b i j u v ≡ layer_count sbox 16 8 8 y a b i j u v

-- the same of what the calls leave, whatever scratch and logs are lent, the same ones for every choice, refused ones too
unfoldable pub LayerCallsTellNothing : Type 0
LayerCallsTellNothing =
    (table : List ℕ) (scratch lent : ℕ → List ℕ) (n m : ℕ) (x y : ℕ → ℕ) (a b i j u v : ℕ) → table_refusal n m table ≡ 0 →
    InputsFit 16 n x → InputsFit 16 n y → a < 16 → b < 16 → i < log_length 2 n → j < log_length 2 n →
    layer_call_count table scratch lent 16 n m x a b i j u v ≡ layer_call_count table scratch lent 16 n m y a b i j u v

-- where the table is accepted, scratch and logs are long enough and the scratch is clean, no call is refused, whatever masks are chosen
unfoldable pub LayerChoicesAccepted : Type 0
LayerChoicesAccepted =
    (table : List ℕ) (scratch lent : ℕ → List ℕ) (n m : ℕ) (x choice : ℕ → ℕ) (k : ℕ) → table_refusal n m table ≡ 0 → InputsFit 16 n x →
    LentFit 16 n scratch lent → Within (layer_widths 16 n m) choice → k < 16 →
    logged_refusal (call_case n m x choice k) table (scratch k) (lent k) ≡ 0

-- and the count of the logs that the calls leave is the count of the logs as they are defined
unfoldable pub LayerCallsCounted : Type 0
LayerCallsCounted =
    (table : List ℕ) (scratch lent : ℕ → List ℕ) (n m : ℕ) (x : ℕ → ℕ) (a b i j u v : ℕ) → table_refusal n m table ≡ 0 → InputsFit 16 n x →
    LentFit 16 n scratch lent → a < 16 → b < 16 → i < log_length 2 n → j < log_length 2 n →
    layer_call_count table scratch lent 16 n m x a b i j u v ≡ layer_count table 16 n m x a b i j u v

-- how many choices there are: 2^(3n + 2m) for each call
unfoldable pub ChoicesCounted : Type 0
ChoicesCounted = (n m : ℕ) → over (layer_widths 16 n m) (λ c. 1) ≡ 2 ^ (16 * (3 * n + 2 * m))

-- the count in numbers. Two calls on the table 1, 0 have 1024 choices: r1 is 0 in call 0's log and 1 in the same log for none of them, and 1 in
-- call 1's for 256. One call on the table 0, 0, 0, 1, which is not fit, has 256: the masked entry of turn 0 and the answer are both 0
-- for 96 of them where the input is 0, and for 32 where it is 3
unfoldable pub CountsComputed : Type 0
CountsComputed =
    layer_count (1 ∷ 0 ∷ []) 2 1 1 (λ k. k) 0 0 1 1 0 1
    ∷ layer_count (1 ∷ 0 ∷ []) 2 1 1 (λ k. k) 0 1 1 1 0 1
    ∷ layer_count (0 ∷ 0 ∷ 0 ∷ 1 ∷ []) 1 2 1 (λ k. 0) 0 0 13 33 0 0
    ∷ layer_count (0 ∷ 0 ∷ 0 ∷ 1 ∷ []) 1 2 1 (λ k. 3) 0 0 13 33 0 0
    ∷ []
    ≡ 0 ∷ 256 ∷ 96 ∷ 32 ∷ []
