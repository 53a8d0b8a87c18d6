-- What a turn reads in a scratch that begins with the comparison table.
use mathlib.Core.Path.{◌≡◌, sym, ap, ◌∙◌}
use mathlib.Core.List.{List}
use Prim.Native.Nat.{ℕ, ◌^◌, ◌<◌}
use native.Mathlib.Omega.{arith}
use lib.ListN.{length, get_or, take, length-take}
use lib.Seq.{get_or-take}
use Rattle.table.specs.Balanced.{at}
use Rattle.lookup.specs.declared.Case.{Case}
use Rattle.lookup.specs.Case.{Q}
use Rattle.lookup.specs.Bounded.{Bounded}
use Rattle.lookup.specs.Method3.{comparison_table, place_3, compared}
use Rattle.lookup.proofs.Third.{comparison_long, place_below, compared_small}

module _ (c : Case) (scratch : List ℕ) (a : ℕ) (k : Bounded c) (h : a < 2 ^ c.n) where
  small : place_3 c a < 2 ^ c.n
  unfolding Q
  small = place_below c scratch a h k.r1 k.r2 k.r3

  -- a turn's place is in the scratch, and the byte there is what the definition compares, a bit
  pub in_scratch : take (Q c) scratch ≡ comparison_table c → place_3 c a < length scratch
  unfolding Q
  in_scratch f =
      let long = sym (length-take (2 ^ c.n) scratch) ∙ ap length f ∙ comparison_long c scratch in
      omega (arith, small, long)

  pub byte_is : take (Q c) scratch ≡ comparison_table c → get_or scratch (place_3 c a) 0 ≡ compared c a
  unfolding Q compared at
  byte_is f = sym (get_or-take (2 ^ c.n) scratch (place_3 c a) 0 small) ∙ ap (λ l. get_or l (place_3 c a) 0) f

  pub bit : compared c a < 2
  unfolding Q
  bit = compared_small c scratch a k.b k.r1 k.r2 k.r3 h
