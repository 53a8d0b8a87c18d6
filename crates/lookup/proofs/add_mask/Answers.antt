-- `lookup::add_mask` meets its contract: the part from `zero` on is the whole.
use mathlib.Core.Path.{◌≡◌, ◌∙◌}
use mathlib.Core.List.{List}
use Prim.Native.Nat.{ℕ, ◌+◌, ◌-◌, ◌<◌}
use native.Mathlib.Omega.{arith}
use borrow.Rule.Slice.PartMut.{put_mid, set_mid_at}
use lib.Bits.{bit_xor}
use lib.ListN.{length, get_or, set, take, drop, length-set}
use lib.Seq.{take_all}
use Rattle.bits.specs.Xor.{◌⊕◌}
use Rattle.lookup.proofs.add_mask.Goals as goal

-- the bytes from z on
abbrev from : (z : ℕ) (bytes : List ℕ) → List ℕ
from z bytes = take (length bytes - z) (drop z bytes)

module _ (z to mask : ℕ) (bytes : List ℕ) where
  whole : z ≡ 0 → from z bytes ≡ bytes
  whole e = rw e (take_all (length bytes - 0) bytes (omega arith))

  inside : z ≡ 0 → to < length bytes → to < length (from z bytes)
  inside e h = rw (whole e) h

  added : z ≡ 0 → to < length bytes
      → put_mid z (length bytes - z) bytes (set (from z bytes) to (bit_xor (get_or (from z bytes) to 0) mask))
      ≡ set bytes to (get_or bytes to 0 ⊕ mask)
  unfolding ◌⊕◌
  added e h =
      let place : z + to ≡ to = omega (arith, e) in
      set_mid_at z (length bytes - z) to bytes _ (inside e h) ∙ rw (place, whole e)

  long : z ≡ 0 → to < length bytes
      → length (put_mid z (length bytes - z) bytes (set (from z bytes) to (bit_xor (get_or (from z bytes) to 0) mask))) ≡ length bytes
  long e h = rw (added e h) (length-set bytes to _)

pub returns : goal.returns
returns c = search added
