-- A log entry gives back its kind and its value, and fits its bits; so does a narrow one.
use mathlib.Core.Path.{◌≡◌, refl}
use mathlib.Core.Bool.{false}
use mathlib.Core.List.{List}
use Prim.Native.Nat.{ℕ, ◌<◌}
use native.Mathlib.Omega.{arith}
use Rattle.refusals.specs.Tests.{any_from}
use Rattle.refusals.proofs.Tests.{one_below, none_below}
use Rattle.lookup.specs.Entry.{entry, kind_of, value_of}
use Rattle.lookup.specs.NarrowEntry.{narrow_entry, narrow_kind_of, narrow_value_of}
use Rattle.lookup.proofs.Each.{Each, none, more}

-- whatever is packed, its value is taken modulo the value's range
pub entry_value : (kind value : ℕ) → value_of (entry kind value) ≡ value_of value
unfolding entry value_of
entry_value kind value = omega arith

pub value_zero : value_of 0 ≡ 0
unfolding value_of
value_zero = refl

pub value_fits : (entry : ℕ) → value_of entry < 65536
unfolding value_of
value_fits e = omega arith

pub value_kept : {value : ℕ} → value < 65536 → value_of value ≡ value
unfolding value_of
value_kept h = omega arith

pub entry_kind : {kind value : ℕ} → value < 65536 → kind_of (entry kind value) ≡ kind
unfolding entry kind_of
entry_kind h = omega arith

pub entry_small : {kind value : ℕ} → kind < 65536 → value < 65536 → entry kind value < 4294967296
unfolding entry
entry_small h k = omega arith

-- a byte has room where sixteen bits are
pub byte_fits : {number : ℕ} → number < 256 → number < 65536
byte_fits h = omega arith

pub narrow_kind : {kind value : ℕ} → value < 256 → narrow_kind_of (narrow_entry kind value) ≡ kind
unfolding narrow_entry narrow_kind_of
narrow_kind h = omega arith

pub narrow_value : (kind : ℕ) {value : ℕ} → value < 256 → narrow_value_of (narrow_entry kind value) ≡ value
unfolding narrow_entry narrow_value_of
narrow_value kind h = omega arith

pub narrow_small : {kind value : ℕ} → kind < 256 → value < 256 → narrow_entry kind value < 65536
unfolding narrow_entry
narrow_small h k = omega arith

pub none_large : (limit : ℕ) {es : List ℕ} → Each (λ e. e < limit) es → any_from limit es ≡ false
none_large limit none = none_below limit
none_large limit (more p d) = one_below limit _ _ p (none_large limit d)
