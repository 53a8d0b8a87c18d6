-- What holds of every element of a list.
use mathlib.Core.List.{List, [], ◌∷◌, ◌++◌, map}
use Prim.Native.Nat.{ℕ, zero, suc}
use lib.ListN.{get_or}

module _ {A : Type 0} where
  pub data Each (P : A → Type 0) : List A → Type 0 where
    none : Each P []
    more : {x : A} {xs : List A} → P x → Each P xs → Each P (x ∷ xs)

  pub each_append : {P : A → Type 0} {xs ys : List A} → Each P xs → Each P ys → Each P (xs ++ ys)
  each_append none e = e
  each_append (more p d) e = more p (each_append d e)

  pub each_first : {P : A → Type 0} {x : A} {xs : List A} → Each P (x ∷ xs) → P x
  each_first (more p e) = p

  pub each_rest : {P : A → Type 0} {x : A} {xs : List A} → Each P (x ∷ xs) → Each P xs
  each_rest (more p e) = e

  pub each_split : {P : A → Type 0} (xs : List A) {ys : List A} → Each P (xs ++ ys) → Each P xs × Each P ys
  each_split [] e = (none, e)
  each_split (x ∷ xs) e = (more (each_first e) (each_split xs (each_rest e)).0, (each_split xs (each_rest e)).1)

  pub each_all : {P : ℕ → A → Type 0} (xs : List A) → ((a : ℕ) → Each (P a) xs) → Each (λ x. (a : ℕ) → P a x) xs
  each_all [] h = none
  each_all (x ∷ xs) h = more (λ a. each_first (h a)) (each_all xs (λ a. each_rest (h a)))

  pub each_map : {P R : A → Type 0} {xs : List A} → ((x : A) → P x → R x) → Each P xs → Each R xs
  each_map f none = none
  each_map f (more p e) = more (f _ p) (each_map f e)

  pub each_of : {P : A → Type 0} (xs : List A) → ((x : A) → P x) → Each P xs
  each_of [] h = none
  each_of (x ∷ xs) h = more (h x) (each_of xs h)

  pub each_at : {P : A → Type 0} {xs : List A} (d : A) (i : ℕ) → P d → Each P xs → P (get_or xs i d)
  each_at d i p none = p
  each_at d zero p (more q e) = q
  each_at d (suc i) p (more q e) = each_at d i p e

-- of the image, what holds of each element under the map
pub each_image : {A B : Type 0} {P : B → Type 0} (f : A → B) {xs : List A} → Each (λ x. P (f x)) xs → Each P (map f xs)
each_image f none = none
each_image f (more p e) = more p (each_image f e)

pub each_source : {A B : Type 0} {P : B → Type 0} (f : A → B) (xs : List A) → Each P (map f xs) → Each (λ x. P (f x)) xs
each_source f [] e = none
each_source f (x ∷ xs) e = more (each_first e) (each_source f xs (each_rest e))
