-- Pairs that leak, and that the leak test therefore must not pass: one at least for each part of the test that keeps it sound.
-- Each is at most of three steps, and is shown to leak by the counts of the two values 0 and 0 for two lists of secrets.
use mathlib.Core.Path.{◌≡◌, refl}
use mathlib.Core.Bool.{Bool, true, cond, not, ◌&&◌}
use mathlib.Core.List.{List, [], ◌∷◌}
use Prim.Native.Nat.{ℕ, zero, suc, ◌*◌, ◌%◌, ◌^◌}
use lib.Dec.{eqb, ltb}
use lib.ListN.{get_or}
use Rattle.bits.specs.Xor.{◌⊕◌}
use Rattle.counting.specs.Sum.{sum}
use Rattle.counting.specs.Choice.{over, ◌▸◌}
use Rattle.probing.specs.Expression.{Expression, secret, mask, number, ◌⊞◌, lookup, differ, System, Setting, value}
use Rattle.probing.specs.Alike.{seen}
use Rattle.probing.specs.Search.{every}
use Rattle.probing.specs.Test.{fine}

-- the classes' widths, a comparison's class, and the two secrets that are both 0 before
pub record Leak : Type 0 where
  pub widths : List ℕ
  pub flag : ℕ
  pub input : ℕ
  pub answer : ℕ
  pub one : Expression
  pub other : Expression

abbrev leak : (w0 w1 w2 w3 flag input answer : ℕ) → (one other : Expression) → Leak
leak w0 w1 w2 w3 flag input answer one other =
    record { widths = w0 ∷ w1 ∷ w2 ∷ w3 ∷ []; flag = flag; input = input; answer = answer; one = one; other = other }

-- three masks for an input, two for an answer and one of a class of its own; the input and the answer, its entry in the one table, are secret;
-- there are no halves
abbrev pub system : (flag : ℕ) → System
system flag =
    record {
      masks = 0 ∷ 0 ∷ 0 ∷ 1 ∷ 1 ∷ 2 ∷ [];
      secrets = 0 ∷ 1 ∷ [];
      tables = record { from = 0; to = 1; output = 1 } ∷ [];
      flag = flag;
      word = 4;
      part = 4;
      bit = 2;
    }

-- an even table, 0 past its end; a table that is not among the system's may hold anything, here 2z
entry_of : (widths : List ℕ) → (table z : ℕ) → ℕ
entry_of ws zero z = cond (ltb z (2 ^ get_or ws 0 0)) (z % 2 ^ get_or ws 1 0) 0
entry_of ws (suc t) z = 2 * z

abbrev setting : List ℕ → Setting
setting ws = record { width = λ class. get_or ws class 0; tables = entry_of ws }

-- how many choices of the masks make both values 0
shown : Leak → (input answer : ℕ) → ℕ
shown l input answer =
    seen (system l.flag) (setting l.widths) (input ▸ answer ▸ (λ j. 0)) (λ u v. cond (eqb u 0 && eqb v 0) 1 0) l.one l.other

tells : Leak → Bool
tells l = not (eqb (shown l 0 0) (shown l l.input l.answer))

missed : Leak → Bool
missed l = fine (system l.flag) l.one l.other

-- whether a is what the input is masked by
abbrev compared : Expression
compared = differ (mask 0 ⊞ mask 2 ⊞ mask 1 ⊞ number 0 0) (mask 2)

leaking : List Leak
leaking =
    -- a secret bare, beside its masks, beside an entry at its mask; an entry beside its mask, or beside the answer
    leak 1 1 1 1 3 0 1 (secret 1) (mask 1)
    ∷ leak 1 1 1 1 3 1 0 (secret 0 ⊞ mask 0 ⊞ mask 1) (mask 0 ⊞ mask 1)
    ∷ leak 1 1 1 1 3 0 1 (secret 1 ⊞ mask 3 ⊞ mask 4) (mask 3 ⊞ mask 4)
    ∷ leak 1 1 1 1 3 1 0 (secret 0 ⊞ mask 0) (lookup 0 (mask 0))
    ∷ leak 1 1 1 1 3 1 0 (lookup 0 (secret 0 ⊞ number 0 0) ⊞ mask 3) (mask 3)
    ∷ leak 1 1 1 1 2 0 1 (lookup 0 (mask 1)) (secret 1)
    -- a lookup or a comparison that can't be told, inside a lookup, a sum or a comparison
    ∷ leak 1 1 1 1 3 1 0 (lookup 0 (lookup 0 (secret 0))) (mask 2)
    ∷ leak 1 1 0 1 3 1 0 (mask 5 ⊞ lookup 0 (secret 0)) (mask 4)
    ∷ leak 1 1 1 1 2 0 1 (differ (lookup 0 (secret 1)) (mask 4)) (mask 4)
    ∷ leak 1 1 1 1 2 0 1 (differ (mask 4) (lookup 0 (secret 1))) (mask 4)
    ∷ leak 1 1 1 1 2 1 0 compared (secret 0 ⊞ mask 0 ⊞ mask 1)
    -- a mask of another class: of a secret, of a comparison, of another mask, in a comparison, on either side of a sum
    ∷ leak 2 1 1 1 3 2 0 (secret 0 ⊞ mask 3) (number 0 0)
    ∷ leak 2 1 1 1 3 2 0 (mask 3 ⊞ secret 0) (mask 2)
    ∷ leak 1 1 0 1 3 1 0 (compared ⊞ mask 5) (secret 0 ⊞ mask 0 ⊞ mask 1)
    ∷ leak 2 1 1 1 3 2 0 (secret 0 ⊞ mask 2) (mask 2 ⊞ mask 3)
    ∷ leak 2 1 1 1 2 2 0 (differ (mask 5) (secret 0)) (mask 3)
    -- an index of another class, by a number or by a mask
    ∷ leak 1 1 1 2 3 0 1 (secret 1 ⊞ lookup 0 (mask 0 ⊞ number 3 2)) (mask 2)
    ∷ leak 1 2 1 1 2 0 1 (secret 1 ⊞ lookup 0 (mask 0 ⊞ mask 3)) (mask 1)
    ∷ leak 1 1 2 1 2 0 1 (secret 1 ⊞ lookup 0 (mask 5)) (mask 2)
    -- a table of another secret, one that is not there, and a lookup in a lookup
    ∷ leak 2 1 1 1 3 2 0 (lookup 0 (mask 0) ⊞ secret 0) (number 0 0)
    ∷ leak 1 1 1 1 3 0 1 (mask 0 ⊞ lookup 1 (secret 1)) (mask 2)
    ∷ leak 1 1 1 1 2 1 0 (secret 0 ⊞ lookup 1 (mask 2)) (mask 0)
    ∷ leak 1 1 1 1 2 0 1 (secret 1 ⊞ lookup 1 (lookup 0 (mask 2))) (mask 0)
    -- a mask that is there: in the other summand, on either side of a comparison, twice in one sum
    ∷ leak 2 1 1 1 2 2 0 (mask 2 ⊞ secret 0) (mask 3 ⊞ mask 2)
    ∷ leak 2 1 1 1 2 2 0 (differ (mask 4) (mask 2)) (mask 2 ⊞ secret 0)
    ∷ leak 2 1 1 1 2 2 0 (differ (mask 2) (mask 4)) (mask 2 ⊞ secret 0)
    ∷ leak 1 1 1 1 3 0 1 (mask 3 ⊞ (mask 3 ⊞ secret 1)) (mask 4)
    ∷ []

-- the test passes none of them
none_missed : every (λ l. not (missed l)) leaking ≡ true
unfolding missed leaking fine every
none_missed = refl

-- and each of them leaks
each_tells : every tells leaking ≡ true
unfolding tells shown leaking every entry_of value over sum ◌⊕◌
each_tells = refl
