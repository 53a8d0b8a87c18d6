-- The third demand of a chain, of the logs as they are defined and of the chained call itself. Each statement is a type; the proofs stand in
-- proofs/Promises.antt, proofs/Lent.antt and proofs/Counts.antt.
use Rattle.std.specs.Prelude.{◌≡◌, true, false, List, [], ◌∷◌, map, ℕ, ◌+◌, ◌*◌, ◌^◌, ◌≤◌, ◌<◌, length}
use Rattle.bits.specs.Xor.{◌⊕◌}
use Rattle.counting.specs.Choice.{over, Within}
use Rattle.table.specs.Balanced.{at}
use Rattle.table.specs.Fit.{fit}
use Rattle.table.specs.Even.{Even}
use Rattle.table.specs.Refusals.{table_refusal}
use Rattle.lookup.specs.declared.Case.{Case}
use Rattle.lookup.specs.Methods.{known}
use Rattle.lookup.specs.Call.{scratch_length}
use Rattle.lookup.specs.Refusals.{dirty}
use Rattle.chain.specs.declared.Second.{Second}
use Rattle.chain.specs.Lent.{Lent}
use Rattle.chain.specs.Chain.{chain_refusal}
use Rattle.chain_secrecy.specs.Count.{Boxes, boxes, boxes_of, Which, first, second, entries, chain_widths, first_case, second_own}
use Rattle.chain_secrecy.specs.Count.{defined_logs, left_logs, chain_count, chain_call_count}

-- all nine pairings of the methods 2, 3 and 5 (`MethodsKnown` of `lookup`)
abbrev pub Paired : Boxes → Type 0
Paired k = (known k.first_method ≡ true) × (known k.second_method ≡ true)

-- for every two fit tables, balanced ones among them (`BalancedFit` of `table`), each pairing of methods, any two entries, of one log or of
-- two, the same one twice included, any two values and any two inputs of the first table: as many choices of all masks put those values there
-- for the one input as for the other
unfoldable pub ChainTellsNothing : Type 0
ChainTellsNothing =
    (S T : List ℕ) (k : Boxes) (x y : ℕ) (w w' : Which) (i j u v : ℕ) → fit k.input k.between S ≡ true
    → fit k.between k.output T ≡ true → Paired k → x < 2 ^ k.input → y < 2 ^ k.input →
    chain_count S T k x w w' i j u v ≡ chain_count S T k y w w' i j u v

-- the same for every two even tables with entries of their output's width
unfoldable pub EvenChainTellsNothing : Type 0
EvenChainTellsNothing =
    (S T : List ℕ) (k : Boxes) (x y : ℕ) (w w' : Which) (i j u v : ℕ) → Even k.input (at S) → ((z : ℕ) → at S z < 2 ^ k.between)
    → Even k.between (at T) → ((z : ℕ) → at T z < 2 ^ k.output) → Paired k → x < 2 ^ k.input → y < 2 ^ k.input →
    chain_count S T k x w w' i j u v ≡ chain_count S T k y w w' i j u v

-- the same of the logs that the chained call leaves, whatever scratches and logs are lent, those that are refused too; the same ones are lent
-- for every choice
unfoldable pub ChainedCallTellsNothing : Type 0
ChainedCallTellsNothing =
    (l : Lent) (k : Boxes) (x y : ℕ) (w w' : Which) (i j u v : ℕ) → table_refusal k.input k.between l.first_table ≡ 0
    → table_refusal k.between k.output l.second_table ≡ 0 → Paired k → x < 2 ^ k.input → y < 2 ^ k.input
    → i < entries k w → j < entries k w' →
    chain_call_count l k x w w' i j u v ≡ chain_call_count l k y w w' i j u v

-- both calls are lent scratch and a log that are long enough, and the scratches are clean
abbrev pub LentFit : Boxes → Lent → Type 0
LentFit k l =
    (scratch_length k.first_method k.input ≤ length l.first_scratch)
    × (dirty (scratch_length k.first_method k.input) l.first_scratch ≡ false)
    × (entries k first ≤ length l.first_log)
    × (scratch_length k.second_method k.between ≤ length l.second_scratch)
    × (dirty (scratch_length k.second_method k.between) l.second_scratch ≡ false)
    × (entries k second ≤ length l.second_log)

-- then every choice that is counted is accepted, where both tables are
unfoldable pub ChainChoicesAccepted : Type 0
ChainChoicesAccepted =
    (l : Lent) (k : Boxes) (x : ℕ) (choice : ℕ → ℕ) → table_refusal k.input k.between l.first_table ≡ 0
    → table_refusal k.between k.output l.second_table ≡ 0 → Paired k → x < 2 ^ k.input → Within (chain_widths k) choice
    → LentFit k l →
    chain_refusal (first_case k x choice) (second_own k choice) l ≡ 0

-- and there is a choice for each chain that the call accepts, so that none is left out
unfoldable pub AcceptedChainChosen : Type 0
AcceptedChainChosen =
    (l : Lent) (c : Case) (d : Second) → chain_refusal c d l ≡ 0 →
    (choice : ℕ → ℕ) × Within (chain_widths (boxes_of c d)) choice
    × (first_case (boxes_of c d) (c.x0 ⊕ c.r1 ⊕ c.r2) choice ≡ c) × (second_own (boxes_of c d) choice ≡ d)

-- and for every accepted choice, each entry below a log's length that the chained call leaves is the counted one
unfoldable pub LeftLogsCounted : Type 0
LeftLogsCounted =
    (l : Lent) (k : Boxes) (x : ℕ) (choice : ℕ → ℕ) (w : Which) (i : ℕ) → i < entries k w
    → chain_refusal (first_case k x choice) (second_own k choice) l ≡ 0 →
    at (left_logs l k x choice w) i ≡ at (defined_logs l.first_table l.second_table k x choice w) i

-- so the count of the logs that the call leaves is that of the logs as they are defined
unfoldable pub ChainedCallCounted : Type 0
ChainedCallCounted =
    (l : Lent) (k : Boxes) (x : ℕ) (w w' : Which) (i j u v : ℕ) → table_refusal k.input k.between l.first_table ≡ 0
    → table_refusal k.between k.output l.second_table ≡ 0 → Paired k → x < 2 ^ k.input → LentFit k l
    → i < entries k w → j < entries k w' →
    chain_call_count l k x w w' i j u v ≡ chain_count l.first_table l.second_table k x w w' i j u v

-- whether a chained call is refused, and by what, depends neither on its input nor on its masks, where these have their widths
unfoldable pub RefusalsAlike : Type 0
RefusalsAlike =
    (l : Lent) (k : Boxes) (x y : ℕ) (choice other : ℕ → ℕ) → table_refusal k.input k.between l.first_table ≡ 0
    → table_refusal k.between k.output l.second_table ≡ 0 → Paired k → x < 2 ^ k.input → y < 2 ^ k.input
    → Within (chain_widths k) choice → Within (chain_widths k) other →
    chain_refusal (first_case k x choice) (second_own k choice) l ≡ chain_refusal (first_case k y other) (second_own k other) l

-- how many choices there are: the first call's, 2^(3n + 2m) under method 2, twice as many under method 3 and 2^(2n + 2m) under method 5, times
-- those that the second draws besides, 2^(m + 2m'), twice as many, and 2^(2m')
unfoldable pub ChoicesCounted : Type 0
ChoicesCounted =
    (n m m' : ℕ) →
    map (λ f. map (λ g. over (chain_widths (boxes f g n m m')) (λ c. 1)) (2 ∷ 3 ∷ 5 ∷ [])) (2 ∷ 3 ∷ 5 ∷ [])
    ≡ map (λ first. map (λ second. first * second) (2 ^ (m + 2 * m') ∷ 2 * 2 ^ (m + 2 * m') ∷ 2 ^ (2 * m') ∷ []))
    (2 ^ (3 * n + 2 * m) ∷ 2 * 2 ^ (3 * n + 2 * m) ∷ 2 ^ (2 * n + 2 * m) ∷ [])

-- The count in numbers, with the table 1, 0 second, and first unless another is named. Under method 2 twice there are 256 choices: none shows
-- the first's answer as 0 and the second's x0, which is the same share, as 1; 64 show the first's r1 as 0 and the second's r1, which is the
-- first's s1, as 0. Under method 3 twice there are 1024: 256 show the second's b and its comparison of turn 0 as 0. With the table 0, 1, 1, 0
-- first there are 2048: 256 show the first's x0 as 3 and the second's answer as 1. With 0, 0, 0, 1 first, which is not fit, the masked entry
-- of turn 0 and the second's x0 are both 0 for 768 of as many where the input is 0, and for 256 where it is 3. With 0, 3 first, one bit in and
-- two out, there are 2048 too: with 0, 1, 1, 0 second 256 show the masked entry of turn 0 as 3 and the second's x0 as 0, for either input; with
-- 0, 0, 0, 1 second its masked entry of turn 0 and its answer are both 0 for 768 where the input is 0, and for 256 where it is 1. Under method 5
-- twice there are 64: none shows the first's answer as 0 and the second's x0 as 1; 32 show the first's s1 and the second's r1 as 0. With
-- 0, 0, 0, 1 first there are 256: kind 12 of turn 0 and the second's x0 are both 0 for 96 where the input is 0, and for 32 where it is 3; with
-- method 2 second there are 512, and these are 192 and 64
unfoldable pub CountsComputed : Type 0
CountsComputed =
    chain_count (1 ∷ 0 ∷ []) (1 ∷ 0 ∷ []) (boxes 2 2 1 1 1) 0 first second 21 0 0 1
    ∷ chain_count (1 ∷ 0 ∷ []) (1 ∷ 0 ∷ []) (boxes 2 2 1 1 1) 0 first second 1 1 0 0
    ∷ chain_count (1 ∷ 0 ∷ []) (1 ∷ 0 ∷ []) (boxes 3 3 1 1 1) 1 second second 5 12 0 0
    ∷ chain_count (0 ∷ 1 ∷ 1 ∷ 0 ∷ []) (1 ∷ 0 ∷ []) (boxes 2 2 2 1 1) 1 first second 0 21 3 1
    ∷ chain_count (0 ∷ 0 ∷ 0 ∷ 1 ∷ []) (1 ∷ 0 ∷ []) (boxes 2 2 2 1 1) 0 first second 13 0 0 0
    ∷ chain_count (0 ∷ 0 ∷ 0 ∷ 1 ∷ []) (1 ∷ 0 ∷ []) (boxes 2 2 2 1 1) 3 first second 13 0 0 0
    ∷ chain_count (0 ∷ 3 ∷ []) (0 ∷ 1 ∷ 1 ∷ 0 ∷ []) (boxes 2 2 1 2 1) 0 first second 13 0 3 0
    ∷ chain_count (0 ∷ 3 ∷ []) (0 ∷ 1 ∷ 1 ∷ 0 ∷ []) (boxes 2 2 1 2 1) 1 first second 13 0 3 0
    ∷ chain_count (0 ∷ 3 ∷ []) (0 ∷ 0 ∷ 0 ∷ 1 ∷ []) (boxes 2 2 1 2 1) 0 second second 13 33 0 0
    ∷ chain_count (0 ∷ 3 ∷ []) (0 ∷ 0 ∷ 0 ∷ 1 ∷ []) (boxes 2 2 1 2 1) 1 second second 13 33 0 0
    ∷ chain_count (1 ∷ 0 ∷ []) (1 ∷ 0 ∷ []) (boxes 5 5 1 1 1) 0 first second 22 0 0 1
    ∷ chain_count (1 ∷ 0 ∷ []) (1 ∷ 0 ∷ []) (boxes 5 5 1 1 1) 0 first second 3 1 0 0
    ∷ chain_count (0 ∷ 0 ∷ 0 ∷ 1 ∷ []) (1 ∷ 0 ∷ []) (boxes 5 5 2 1 1) 0 first second 24 0 0 0
    ∷ chain_count (0 ∷ 0 ∷ 0 ∷ 1 ∷ []) (1 ∷ 0 ∷ []) (boxes 5 5 2 1 1) 3 first second 24 0 0 0
    ∷ chain_count (0 ∷ 0 ∷ 0 ∷ 1 ∷ []) (1 ∷ 0 ∷ []) (boxes 5 2 2 1 1) 0 first second 24 0 0 0
    ∷ chain_count (0 ∷ 0 ∷ 0 ∷ 1 ∷ []) (1 ∷ 0 ∷ []) (boxes 5 2 2 1 1) 3 first second 24 0 0 0
    ∷ []
    ≡ 0 ∷ 64 ∷ 256 ∷ 256 ∷ 768 ∷ 256 ∷ 256 ∷ 256 ∷ 768 ∷ 256 ∷ 0 ∷ 32 ∷ 96 ∷ 32 ∷ 192 ∷ 64 ∷ []
