-- An expression of a class is a number of that class's width.
use mathlib.Core.Bool.{Bool, true, false, cond, ◌&&◌}
use mathlib.Core.List.{List, [], ◌∷◌}
use Prim.Native.Nat.{ℕ, zero, suc, ◌+◌, ◌/◌, ◌%◌, ◌^◌, ◌≤◌, ◌<◌}
use native.Mathlib.Nat.{mod-lt, le_trans}
use mir.Facts.{and_yes}
use lib.Dec.{T, eqb, ltb, eqb→eq, ltb→lt}
use lib.ListN.{length, get_or}
use lib.Pow.{pow_pos, pow_mono, shr_lt}
use Rattle.bits.proofs.Xor.{below}
use Rattle.counting.specs.Choice.{width}
use Rattle.counting.proofs.Choice.{within_rest}
use Rattle.probing.specs.Expression.{Expression, secret, mask, number, ◌⊞◌, lookup, differ, half, System, Setting, table, value}
use Rattle.probing.specs.Alike.{Valid, Known}
use Rattle.probing.specs.Test.{of_class}

-- the number at a place whose class is the class; past the list it is 0, which is of every class
named : (setting : Setting) (classes : List ℕ) {numbers : ℕ → ℕ} (i class : ℕ) → Valid setting classes numbers
    → T (eqb (get_or classes i class) class)
    → numbers i < 2 ^ setting.width class
unfolding width
named setting [] i class h t = le_trans (h.each i) (pow_pos _)
named setting (k ∷ ks) zero class h t = rw (← eqb→eq k class t) (h.each 0)
named setting (k ∷ ks) (suc i) class h t = named setting ks i class (within_rest h) t

flag_below : (same : Bool) (w : ℕ) → 1 ≤ w → cond same 0 1 < 2 ^ w
flag_below true w h = pow_pos w
flag_below false w h = pow_mono h

-- a half of a word that is twice as wide
half_below : (high : Bool) (l w : ℕ) → w < 2 ^ (l + l) → cond high (w / 2 ^ l) (w % 2 ^ l) < 2 ^ l
half_below true l w h = shr_lt l l h
half_below false l w h = mod-lt w (pow_pos l)

module _ (system : System) (setting : Setting) {hs ts : ℕ → ℕ} (known : Known system setting hs ts) {vs c : ℕ → ℕ}
    (valid : Valid setting system.secrets vs) (within : Valid setting system.masks c) where
  pub class_below : (class : ℕ) (e : Expression) → T (of_class system class e) → value setting vs c e < 2 ^ setting.width class
  unfolding value of_class
  class_below class (secret j) t = named setting system.secrets j class valid t
  class_below class (mask i) t = named setting system.masks i class within t
  class_below class (number k a) t = rw (eqb→eq k class t) (mod-lt a (pow_pos _))
  class_below class (e ⊞ f) t =
      let both = and_yes (of_class system class e) (of_class system class f) t in
      below _ (class_below class e both.0) (class_below class f both.1)
  class_below class (lookup n e) t =
      let both = and_yes (ltb n (length system.tables)) (eqb (table system n).to class) t in
      rw (eqb→eq (table system n).to class both.1) at (known.entries n (ltb→lt _ _ both.0) (value setting vs c e))
  class_below class (differ e f) t =
      rw (← eqb→eq system.flag class t) (flag_below (eqb (value setting vs c e) (value setting vs c f)) _ known.flag)
  class_below class (half k s w) t =
      let both = and_yes (eqb k class) (eqb system.part k && of_class system system.word w) t in
      let parts = and_yes (eqb system.part k) (of_class system system.word w) both.1 in
      rw (← eqb→eq k class both.0, ← eqb→eq system.part k parts.0)
      (half_below (eqb (value setting vs c s) 0) (setting.width system.part) (value setting vs c w)
      (rw known.halves at (class_below system.word w parts.1)))
