-- Pairs with a secret bit and halves of words that leak, and that the leak test therefore must not pass: one at least for each clause about
-- halves and the exchange that, left out, lets such a pair through. Each is shown to leak by the counts of the two values 0 and 0 for two
-- lists of secrets.
use mathlib.Core.Path.{◌≡◌, refl}
use mathlib.Core.Bool.{Bool, true, cond, not, ◌&&◌}
use mathlib.Core.List.{List, [], ◌∷◌}
use Prim.Native.Nat.{ℕ}
use lib.Dec.{eqb}
use lib.ListN.{get_or}
use Rattle.bits.specs.Xor.{◌⊕◌}
use Rattle.counting.specs.Sum.{sum}
use Rattle.counting.specs.Choice.{over, ◌▸◌}
use Rattle.probing.specs.Expression.{Expression, secret, mask, number, ◌⊞◌, lookup, differ, half, System, Setting, value}
use Rattle.probing.specs.Alike.{seen}
use Rattle.probing.specs.Search.{every}
use Rattle.probing.specs.Test.{fine}

-- the widths of the classes, the class of halves, and the two secrets, which are both 0 before
pub record Leak : Type 0 where
  pub widths : List ℕ
  pub part : ℕ
  pub word : ℕ
  pub bit : ℕ
  pub one : Expression
  pub other : Expression

-- two words, two bits, two halves and one number of a class of its own are masks; a word and a bit are secret
abbrev system : (part : ℕ) → System
system part =
    record { masks = 0 ∷ 0 ∷ 1 ∷ 1 ∷ 2 ∷ 2 ∷ 3 ∷ []; secrets = 0 ∷ 1 ∷ []; tables = []; flag = 1; word = 0; part = part; bit = 1 }

-- halves of one bit, and those of two; the last class has 0 bits or 3
abbrev small : (last : ℕ) → List ℕ
small last = 2 ∷ 1 ∷ 1 ∷ last ∷ []

abbrev large : List ℕ
large = 4 ∷ 1 ∷ 2 ∷ 0 ∷ []

-- tables that are not among the system's may hold anything, here 1 and the index itself
abbrev setting : List ℕ → Setting
setting ws = record { width = λ class. get_or ws class 0; tables = λ t z. cond (eqb t 0) 1 z }

abbrev leak : (widths : List ℕ) → (part word bit : ℕ) → (one other : Expression) → Leak
leak ws part word bit one other = record { widths = ws; part = part; word = word; bit = bit; one = one; other = other }

-- how many choices of the masks make both values 0
shown : Leak → (word bit : ℕ) → ℕ
shown l word bit =
    seen (system l.part) (setting l.widths) (word ▸ bit ▸ (λ j. 0)) (λ u v. cond (eqb u 0 && eqb v 0) 1 0) l.one l.other

tells : Leak → Bool
tells l = not (eqb (shown l 0 0) (shown l l.word l.bit))

missed : Leak → Bool
missed l = fine (system l.part) l.one l.other

-- the half of a masked word that the secret bit chooses, and the high half
abbrev chosen : Expression
chosen = half 2 (secret 1) (mask 0)

abbrev highest : Expression → Expression
highest word = half 2 (number 1 0) word

leaking : List Leak
leaking =
    -- the bit bare, looked up, compared, or beside its mask
    leak (small 0) 2 0 1 (secret 1) (mask 4)
    ∷ leak (small 0) 2 0 1 (lookup 1 (secret 1)) (mask 4)
    ∷ leak (small 0) 2 0 1 (differ (secret 1) (number 1 0)) (mask 4)
    ∷ leak (small 0) 2 0 1 (differ (number 1 0) (secret 1)) (mask 4)
    ∷ leak (small 0) 2 0 1 (mask 4 ⊞ secret 1) (mask 4)
    -- a chosen half beside its word, beside the high half, and beside the low one chosen by a number above 1
    ∷ leak (small 0) 2 0 1 chosen (mask 0 ⊞ number 0 1)
    ∷ leak (small 0) 2 0 1 chosen (number 0 1 ⊞ mask 0)
    ∷ leak (small 0) 2 0 1 chosen (highest (mask 0))
    ∷ leak large 2 0 1 chosen (half 2 (secret 1 ⊞ number 2 2) (mask 0))
    -- chosen by a half of the same word, by a comparison of it, or of the bit
    ∷ leak (small 0) 1 0 1 (half 1 (secret 1 ⊞ half 1 (number 1 0) (mask 0)) (mask 0)) (mask 4)
    ∷ leak (small 0) 2 0 1 (half 2 (secret 1 ⊞ differ (mask 0) (number 0 1)) (mask 0)) (mask 4)
    ∷ leak (small 0) 2 0 1 (half 2 (secret 1 ⊞ differ (number 0 1) (mask 0)) (mask 0)) (mask 4)
    ∷ leak (small 0) 2 0 1 (half 2 (differ (mask 0) (number 0 1) ⊞ secret 1) (mask 0)) (mask 4)
    ∷ leak (small 0) 2 0 1 (half 2 (secret 1 ⊞ differ (secret 1) (number 1 0)) (mask 0)) chosen
    -- of a word that is public or in part, an entry, a comparison, itself a half, or of another class; and a half of another width
    ∷ leak (small 0) 2 0 1 (half 2 (secret 1) (number 0 1)) (mask 4)
    ∷ leak (small 0) 2 0 1 (half 2 (secret 1) (mask 0 ⊞ number 0 1)) chosen
    ∷ leak (small 0) 2 0 1 (half 2 (secret 1) (number 0 1 ⊞ mask 0)) chosen
    ∷ leak (small 0) 2 0 1 (half 2 (secret 1) (lookup 0 (mask 0))) (mask 4)
    ∷ leak (small 0) 2 0 1 (half 2 (secret 1) (differ (mask 4) (mask 5))) (mask 2)
    ∷ leak (small 0) 2 0 1 (half 2 (secret 1) (highest (mask 0))) (mask 4)
    ∷ leak (small 0) 2 0 1 (half 2 (secret 1) (mask 4)) (mask 5)
    ∷ leak (small 0) 2 0 1 (half 0 (secret 1) (mask 0)) (mask 4)
    -- a shift that moves the bit, or the word; a half of which that can't be told, as a bit or as a word
    ∷ leak (small 0) 2 0 1 (half 2 (secret 1 ⊞ mask 2) (mask 0)) (half 2 (mask 2) (mask 0))
    ∷ leak (small 0) 2 2 0 (highest (secret 0 ⊞ mask 0)) (highest (mask 0))
    ∷ leak (small 0) 2 0 1 (half 2 chosen (number 0 1)) (mask 0 ⊞ number 0 1)
    ∷ leak (small 0) 2 0 1 (half 2 (number 1 1) chosen) (mask 0 ⊞ number 0 1)
    -- a mask that is narrower than the half: one bit, under a half of a wider word, or of another class
    ∷ leak large 2 0 1 (chosen ⊞ mask 2) (highest (mask 0))
    ∷ leak (small 3) 2 0 1 (half 2 (secret 1) (number 3 6) ⊞ mask 4) (mask 1)
    ∷ leak (small 0) 2 0 1 (half 3 (secret 1) (mask 0) ⊞ mask 6) (mask 1)
    -- a mask that is there, in the word or in the bit
    ∷ leak (small 0) 2 2 0 (secret 0 ⊞ mask 0) (highest (mask 0))
    ∷ leak (small 0) 2 0 1 (secret 1 ⊞ mask 2) (half 2 (mask 2) (number 0 1))
    ∷ []

-- the test passes none of them
none_missed : every (λ l. not (missed l)) leaking ≡ true
unfolding missed leaking fine every
none_missed = refl

-- and each of them leaks
each_tells : every tells leaking ≡ true
unfolding tells shown leaking every value over sum ◌⊕◌
each_tells = refl
