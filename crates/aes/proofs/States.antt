-- States by their bytes: rules that agree make equal states, and a rule of bytes makes a state of bytes.
use mathlib.Core.Path.{◌≡◌}
use mathlib.Core.List.{[]}
use Prim.Native.Nat.{ℕ, zero, suc, ◌<◌}
use lib.Dec.{lit<}
use lib.ListN.{get_or}
use Rattle.table.specs.Balanced.{at}
use Rattle.aes.specs.State.{Word, four, column, byte, state_of}

pub four_equal : {A : Type 0} (f g : ℕ → A) → ((i : ℕ) → f i ≡ g i) → four f ≡ four g
unfolding four
four_equal f g h = rw (h 0, h 1, h 2, h 3)

pub equal_states : (f g : ℕ → ℕ → ℕ) → ((r c : ℕ) → f r c ≡ g r c) → state_of f ≡ state_of g
unfolding state_of
equal_states f g h = four_equal (λ c. four (λ r. f r c)) (λ c. four (λ r. g r c)) (λ c. four_equal (λ r. f r c) (λ r. g r c) (λ r. h r c))

-- what holds of each of four and past them holds at any place
pub four_each : {A : Type 0} (P : A → Type 0) (f : ℕ → A) (past : A) → ((i : ℕ) → P (f i)) → P past → (i : ℕ) → P (get_or (four f) i past)
unfolding four
four_each P f past h p zero = h 0
four_each P f past h p (suc zero) = h 1
four_each P f past h p (suc (suc zero)) = h 2
four_each P f past h p (suc (suc (suc zero))) = h 3
four_each P f past h p (suc (suc (suc (suc i)))) = p

pub word_bytes : (rule : ℕ → ℕ) → ((r : ℕ) → rule r < 256) → (r : ℕ) → at (four rule) r < 256
unfolding at
word_bytes rule h = four_each (λ b. b < 256) rule 0 h (lit< tt)

pub state_bytes : (rule : ℕ → ℕ → ℕ) → ((r c : ℕ) → rule r c < 256) → (r c : ℕ) → byte (state_of rule) r c < 256
unfolding byte column state_of at
state_bytes rule h r c =
    four_each (λ (w : Word). at w r < 256) (λ c. four (λ r. rule r c)) [] (λ c. word_bytes (λ r. rule r c) (λ r. h r c) r) (lit< tt) c
