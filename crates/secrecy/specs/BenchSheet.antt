-- The bench sheet: P1 to P12, worked cases that were given with the product's requirements, P5 as it reads since a table's m may be above its
-- n; and beside them method 5, fit tables, 19 and some counts. On each line stand what the definitions come to, and what the sheet says.
use Rattle.std.specs.Prelude.{◌≡◌, List, [], ◌∷◌, ◌++◌, map, ℕ, suc, set, replicate}
use Rattle.counting.specs.Choice.{over}
use Rattle.shares.specs.Shares.{join}
use Rattle.linear.specs.Layer.{layer}
use Rattle.lookup.specs.declared.Case.{Case}
use Rattle.lookup.specs.Entry.{kind_of, value_of}
use Rattle.lookup.specs.Call.{answer, scratch_after, log_of}
use Rattle.lookup.specs.Refusals.{logged_refusal}
use Rattle.calls.specs.Reply.{case_from}
use Rattle.secrecy.specs.Count.{single, chosen_case, mask_widths, count}

pub record Line : Type 0 where
  pub comes_to : List ℕ
  pub given : List ℕ

infix 68 ◌says◌
abbrev pub ◌says◌ : (comes_to given : List ℕ) → Line
found says figures = record { comes_to = found; given = figures }

-- table A, and the call of P2
abbrev A : List ℕ
A = 2 ∷ 0 ∷ 3 ∷ 1 ∷ []

abbrev P2 : Case
P2 = case_from 2 2 2 0 1 2 3 0 2 0

-- the calls of P1 and P2 under method 5, which takes no r3 and no b
abbrev P1By5 : Case
P1By5 = case_from 5 1 1 0 1 0 0 1 0 0

abbrev P2By5 : Case
P2By5 = case_from 5 2 2 0 1 2 3 0 0 0

-- the logged call's number, by the lengths of the lent scratch and log; all begin with zeros
abbrev refused : Case → (table : List ℕ) → (scratch log : ℕ) → ℕ
refused c table scratch log = logged_refusal c table (replicate scratch 0) (replicate log 0)

-- the number where one byte of the scratch is not zero, of P2 and of P2 under method 5
abbrev dirty : Case → (scratch place log : ℕ) → ℕ
dirty c scratch place log = logged_refusal c A (set (replicate scratch 0) place 1) (replicate log 0)

-- every input with every choice of masks in their widths: the logged call's numbers, added up
abbrev all_masks : (method n m : ℕ) → (table : List ℕ) → (scratch log : ℕ) → ℕ
all_masks method n m table scratch log =
    over (n ∷ mask_widths method n m) (λ c. refused (chosen_case single method n m (c 0) (λ i. c (suc i))) table scratch log)

-- the counts of the four pairs of bits
abbrev pairs : (table : List ℕ) → (method n m x i j : ℕ) → List ℕ
pairs table method n m x i j =
    map (λ v. count table method n m x i j 0 v) (0 ∷ 1 ∷ []) ++ map (λ v. count table method n m x i j 1 v) (0 ∷ 1 ∷ [])

unfoldable pub sheet : List Line
sheet =
    -- P1 (examples/p1.sheet): answer 1
    (refused (case_from 2 1 1 0 1 0 0 1 1 0) (1 ∷ 0 ∷ []) 2 22 ∷ answer (case_from 2 1 1 0 1 0 0 1 1 0) (1 ∷ 0 ∷ []) ∷ []) says (0 ∷ 1 ∷ [])
    -- P2: scratch 3, 1, 2, 0, answer 2
    ∷ scratch_after P2 A (replicate 4 0) says (3 ∷ 1 ∷ 2 ∷ 0 ∷ [])
    ∷ (refused P2 A 4 34 ∷ answer P2 A ∷ []) says (0 ∷ 2 ∷ [])
    -- P3: the same under method 3 with b = 1: scratch 0, 0, 1, 0, answer 2
    ∷ scratch_after (case_from 3 2 2 0 1 2 3 0 2 1) A (replicate 4 0) says (0 ∷ 0 ∷ 1 ∷ 0 ∷ [])
    ∷ (refused (case_from 3 2 2 0 1 2 3 0 2 1) A 4 46 ∷ answer (case_from 3 2 2 0 1 2 3 0 2 1) A ∷ []) says (0 ∷ 2 ∷ [])
    -- P2 under method 5: scratch 3, 1, 2, 0 and behind it 2, 0, 3, 1, answer 2
    ∷ scratch_after P2By5 A (replicate 8 0) says (3 ∷ 1 ∷ 2 ∷ 0 ∷ 2 ∷ 0 ∷ 3 ∷ 1 ∷ [])
    ∷ (refused P2By5 A 8 39 ∷ answer P2By5 A ∷ []) says (0 ∷ 2 ∷ [])
    -- P1 under method 5: the whole log, its kinds and its values
    ∷ map kind_of (log_of P1By5 (1 ∷ 0 ∷ []))
    says (1 ∷ 2 ∷ 3 ∷ 4 ∷ 5 ∷ 6 ∷ 7 ∷ 8 ∷ 9 ∷ 6 ∷ 7 ∷ 8 ∷ 9 ∷ 6 ∷ 10 ∷ 11 ∷ 12 ∷ 6 ∷ 10 ∷ 11 ∷ 12 ∷ 1 ∷ 13 ∷ [])
    ∷ map value_of (log_of P1By5 (1 ∷ 0 ∷ []))
    says (0 ∷ 1 ∷ 0 ∷ 0 ∷ 1 ∷ 0 ∷ 1 ∷ 0 ∷ 0 ∷ 1 ∷ 0 ∷ 1 ∷ 1 ∷ 0 ∷ 0 ∷ 0 ∷ 1 ∷ 1 ∷ 1 ∷ 1 ∷ 0 ∷ 0 ∷ 1 ∷ [])
    -- P4: x0 = 4: 10; x0 = 3 is accepted
    ∷ (refused (case_from 2 2 2 4 1 2 3 0 2 0) A 4 34 ∷ refused (case_from 2 2 2 3 1 2 3 0 2 0) A 4 34 ∷ []) says (10 ∷ 0 ∷ [])
    -- P5 with P2's other arguments: n = 2, m = 3 is accepted, since a table's m may be above its n; m = 9 is 4
    ∷ (refused (case_from 2 2 3 0 1 2 3 0 2 0) A 4 34 ∷ refused (case_from 2 2 9 0 1 2 3 0 2 0) A 4 34 ∷ []) says (0 ∷ 4 ∷ [])
    -- the linear layer keeps the old 4, m above n: n = 2 with three rows; with two accepted
    ∷ ((layer 2 3 (1 ∷ 2 ∷ 3 ∷ []) 0 0 0 0).refusal ∷ (layer 2 2 (1 ∷ 2 ∷ []) 0 0 0 0).refusal ∷ []) says (4 ∷ 0 ∷ [])
    -- 0, 3, one bit in and two out, which is fit and not balanced (examples/valve.sheet): x = 1, answer 3 ⊕ 3 ⊕ 1 under each method
    ∷ (refused (case_from 2 1 2 0 1 0 3 1 1 0) (0 ∷ 3 ∷ []) 2 22 ∷ answer (case_from 2 1 2 0 1 0 3 1 1 0) (0 ∷ 3 ∷ []) ∷ []) says (0 ∷ 1 ∷ [])
    ∷ (refused (case_from 3 1 2 0 1 0 3 1 1 1) (0 ∷ 3 ∷ []) 2 28 ∷ answer (case_from 3 1 2 0 1 0 3 1 1 1) (0 ∷ 3 ∷ []) ∷ []) says (0 ∷ 1 ∷ [])
    ∷ (refused (case_from 5 1 2 0 1 0 3 1 0 0) (0 ∷ 3 ∷ []) 4 23 ∷ answer (case_from 5 1 2 0 1 0 3 1 0 0) (0 ∷ 3 ∷ []) ∷ []) says (0 ∷ 1 ∷ [])
    -- fit too: 1, 2, though 1 ⊕ 2 does not occur; and a constant table, 0, 0, with one bit out and with two
    ∷ (refused (case_from 2 1 2 0 1 0 3 1 1 0) (1 ∷ 2 ∷ []) 2 22 ∷ refused (case_from 2 1 1 0 1 0 0 1 1 0) (0 ∷ 0 ∷ []) 2 22
    ∷ refused (case_from 2 1 2 0 1 0 3 1 1 0) (0 ∷ 0 ∷ []) 2 22 ∷ []) says (0 ∷ 0 ∷ 0 ∷ [])
    -- n = 2, m = 3, table 0, 1, 2, 4: 7, since 0 ⊕ 1 ⊕ 2 = 3 does not occur; and 6 comes before 7: 0, 1, 2, 8
    ∷ (refused (case_from 2 2 3 0 1 2 3 0 2 0) (0 ∷ 1 ∷ 2 ∷ 4 ∷ []) 4 34 ∷ refused (case_from 2 2 3 0 1 2 3 0 2 0) (0 ∷ 1 ∷ 2 ∷ 8 ∷ []) 4 34
    ∷ []) says (7 ∷ 6 ∷ [])
    -- P6: n = 2, m = 1, table 0, 0, 0, 1: 7; table 0, 1, 1, 0, with every mask in its width, is accepted
    ∷ (refused (case_from 2 2 1 0 1 2 1 0 2 0) (0 ∷ 0 ∷ 0 ∷ 1 ∷ []) 4 34 ∷ refused (case_from 3 2 1 0 1 2 1 0 2 1)
    (0 ∷ 0 ∷ 0 ∷ 1 ∷ []) 4 46 ∷ []) says (7 ∷ 7 ∷ [])
    ∷ (all_masks 2 2 1 (0 ∷ 1 ∷ 1 ∷ 0 ∷ []) 4 34 ∷ all_masks 3 2 1 (0 ∷ 1 ∷ 1 ∷ 0 ∷ []) 4 46 ∷ all_masks 5 2 1 (0 ∷ 1 ∷ 1 ∷ 0 ∷ []) 8 39 ∷ [])
    says (0 ∷ 0 ∷ 0 ∷ [])
    -- P7: scratch of 3 bytes: 13; with 4 accepted. Under method 5 7 bytes are 13, and 8 accepted
    ∷ (refused P2 A 3 34 ∷ refused P2 A 4 34 ∷ refused P2By5 A 7 39 ∷ refused P2By5 A 8 39 ∷ []) says (13 ∷ 0 ∷ 13 ∷ 0 ∷ [])
    -- P2 with a nonzero byte in the scratch: the first, the last of 2^n: 19; the one behind them: accepted
    ∷ (dirty P2 4 0 34 ∷ dirty P2 4 3 34 ∷ dirty P2 5 4 34 ∷ []) says (19 ∷ 19 ∷ 0 ∷ [])
    -- under method 5 in either half, the first's first, the second's first and last: 19; the one behind them: accepted
    ∷ (dirty P2By5 8 0 39 ∷ dirty P2By5 8 4 39 ∷ dirty P2By5 8 7 39 ∷ dirty P2By5 9 8 39 ∷ []) says (19 ∷ 19 ∷ 19 ∷ 0 ∷ [])
    -- 13 comes before 19, and 19 before 14
    ∷ (dirty P2 3 0 34 ∷ dirty P2 4 0 33 ∷ dirty P2By5 7 4 39 ∷ dirty P2By5 8 4 38 ∷ []) says (13 ∷ 19 ∷ 13 ∷ 19 ∷ [])
    -- P8: a log of 33: 14; with 34 accepted. Under method 5 38 entries are 14, and 39 accepted
    ∷ (refused P2 A 4 33 ∷ refused P2 A 4 34 ∷ refused P2By5 A 8 38 ∷ refused P2By5 A 8 39 ∷ []) says (14 ∷ 0 ∷ 14 ∷ 0 ∷ [])
    -- P9: method 2 with b = 1: 12; method 3 with b = 2: 12
    ∷ (refused (case_from 2 2 2 0 1 2 3 0 2 1) A 4 34 ∷ refused (case_from 3 2 2 0 1 2 3 0 2 2) A 4 46 ∷ []) says (12 ∷ 12 ∷ [])
    -- method 5 with r3 = 1: 12, with b = 1: 12; r3 = 3 is the largest that is 12, r3 = 4 is 10
    ∷ (refused (case_from 5 2 2 0 1 2 3 0 1 0) A 8 39 ∷ refused (case_from 5 2 2 0 1 2 3 0 0 1) A 8 39
    ∷ refused (case_from 5 2 2 0 1 2 3 0 3 0) A 8 39 ∷ refused (case_from 5 2 2 0 1 2 3 0 4 0) A 8 39 ∷ []) says (12 ∷ 12 ∷ 12 ∷ 10 ∷ [])
    -- P10: method 4 and n = 9 together: 2
    ∷ (refused (case_from 4 9 2 0 1 2 3 0 2 0) A 4 34 ∷ []) says (2 ∷ [])
    -- P11: n = m = 3, rows 3, 6, 5, constant 1, shares 7, 1, 3: result 1, 5, 6, which join to 2
    ∷ ((layer 3 3 (3 ∷ 6 ∷ 5 ∷ []) 1 7 1 3).refusal ∷ (layer 3 3 (3 ∷ 6 ∷ 5 ∷ []) 1 7 1 3).first ∷ (layer 3 3 (3 ∷ 6 ∷ 5 ∷ []) 1 7 1 3).second
    ∷ (layer 3 3 (3 ∷ 6 ∷ 5 ∷ []) 1 7 1 3).third ∷ (join 3 1 5 6).secret ∷ []) says (0 ∷ 1 ∷ 5 ∷ 6 ∷ 2 ∷ [])
    -- P12: table 1, 0, method 2, positions 0 and 21: each of the four pairs has 8 of 32 choices, for both inputs
    ∷ pairs (1 ∷ 0 ∷ []) 2 1 1 0 0 21 says (8 ∷ 8 ∷ 8 ∷ 8 ∷ [])
    ∷ pairs (1 ∷ 0 ∷ []) 2 1 1 1 0 21 says (8 ∷ 8 ∷ 8 ∷ 8 ∷ [])
    ∷ (over (mask_widths 2 1 1) (λ c. 1) ∷ []) says (32 ∷ [])
    -- the same under method 5, positions 0 and 22: 4 of 16 choices
    ∷ pairs (1 ∷ 0 ∷ []) 5 1 1 0 0 22 says (4 ∷ 4 ∷ 4 ∷ 4 ∷ [])
    ∷ pairs (1 ∷ 0 ∷ []) 5 1 1 1 0 22 says (4 ∷ 4 ∷ 4 ∷ 4 ∷ [])
    ∷ (over (mask_widths 5 1 1) (λ c. 1) ∷ []) says (16 ∷ [])
    -- P6's refused table leaks: kind 14 at a = 0 and the answer are both 0 for 96 of 256 choices where x = 0, and for 32 where x = 3
    ∷ (count (0 ∷ 0 ∷ 0 ∷ 1 ∷ []) 2 2 1 0 13 33 0 0 ∷ count (0 ∷ 0 ∷ 0 ∷ 1 ∷ []) 2 2 1 3 13 33 0 0 ∷ []) says (96 ∷ 32 ∷ [])
    ∷ (over (mask_widths 2 2 1) (λ c. 1) ∷ []) says (256 ∷ [])
    -- under method 5 by kind 12 at a = 0 and the answer: 24 of 64 choices where x = 0, and 8 where x = 3
    ∷ (count (0 ∷ 0 ∷ 0 ∷ 1 ∷ []) 5 2 1 0 24 38 0 0 ∷ count (0 ∷ 0 ∷ 0 ∷ 1 ∷ []) 5 2 1 3 24 38 0 0 ∷ []) says (24 ∷ 8 ∷ [])
    ∷ (over (mask_widths 5 2 1) (λ c. 1) ∷ []) says (64 ∷ [])
    -- the table 0, 3 does not: the same pair of positions, 13 and 21 here, is 3 and 0 for 16 of 128 choices, for both inputs
    ∷ (count (0 ∷ 3 ∷ []) 2 1 2 0 13 21 3 0 ∷ count (0 ∷ 3 ∷ []) 2 1 2 1 13 21 3 0 ∷ []) says (16 ∷ 16 ∷ [])
    ∷ (over (mask_widths 2 1 2) (λ c. 1) ∷ []) says (128 ∷ [])
    -- values above 1, which no line above counts: x0 = 3 and the answer 2 with table A, a sixteenth of the choices for every input
    ∷ (count A 2 2 2 0 0 33 3 2 ∷ count A 2 2 2 3 0 33 3 2 ∷ []) says (64 ∷ 64 ∷ [])
    ∷ (over (mask_widths 2 2 2) (λ c. 1) ∷ []) says (1024 ∷ [])
    ∷ []

-- the definitions come to what the sheet says
unfoldable pub SheetRight : Type 0
SheetRight = map (λ l. l.comes_to) sheet ≡ map (λ l. l.given) sheet
