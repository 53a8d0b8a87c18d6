-- How spaces are printed.
use mathlib.Core.Path.{◌≡◌, sym}
use mathlib.Core.List.{List, append_assoc}
use Prim.Native.Nat.{ℕ, ◌+◌, ◌-◌, ◌≤◌}
use native.Mathlib.Omega.{arith}
use lib.ListN.{length, take, drop, replicate, length-replicate, length-drop}
use lib.Seq.{drop-drop, length-take-le}
use Rattle.buffers.specs.Written.{written}
use borrow.Rule.Slice.PartMut.{put_mid}
use Rattle.log_page.specs.Page.{blanks}

pub blanks_long : (count : ℕ) → length (blanks count) ≡ count
blanks_long count = length-replicate {A = ℕ} count 32

-- a part of the output filled with spaces
pub spaces_left : (at count : ℕ) (before part : List ℕ) → at + count ≤ length before
    → part ≡ replicate (length (take (at + count - at) (drop at before))) 32
    → put_mid at (at + count - at) before part ≡ written before at (blanks count)
unfolding written
spaces_left at count before part room e =
    let less : at + count - at ≡ count = omega arith in
    let long : length (take count (drop at before)) ≡ count = length-take-le count (drop at before) (omega (arith, length-drop at before)) in
    rw (e, less, long, blanks_long count, drop-drop count at before) (sym (append_assoc (take at before) (blanks count) _))
