-- How the loop writes entries one after the other.
use mathlib.Core.Path.{◌≡◌, refl, sym, ap, ◌∙◌}
use mathlib.Core.List.{List, [], ◌∷◌}
use Prim.Native.Nat.{ℕ, zero, suc, ◌+◌, ◌≤◌, ◌<◌}
use native.Mathlib.Nat.{le_of_suc-le-suc, not-suc-le-zero}
use native.Mathlib.Omega.{arith}
use lib.ListN.{length, get_or, set}
use Rattle.lookup.specs.Entry.{entry}
use Rattle.buffers.specs.Written.{written}
use Rattle.buffers.proofs.Pasting.{Pasting, pasting_turns, pasting_ends}
use Rattle.log_entries.specs.Entries.{entries}

pub entries_long : (ks vs : List ℕ) → length ks ≡ length vs → length (entries ks vs) ≡ length ks
unfolding entries
entries_long [] vs e = refl
entries_long (k ∷ ks) [] e = absurd (omega arith)
entries_long (k ∷ ks) (v ∷ vs) e = ap suc (entries_long ks vs (omega arith))

entries_at : (ks vs : List ℕ) (i : ℕ) → length ks ≡ length vs → i < length ks → get_or (entries ks vs) i 0 ≡ entry (get_or ks i 0) (get_or vs i 0)
unfolding entries
entries_at [] vs i e h = absurd (not-suc-le-zero h)
entries_at (k ∷ ks) [] i e h = absurd (omega arith)
entries_at (k ∷ ks) (v ∷ vs) zero e h = refl
entries_at (k ∷ ks) (v ∷ vs) (suc i) e h = entries_at ks vs i (omega arith) (le_of_suc-le-suc h)

-- the log after the first i entries
abbrev pub Putting : (before now : List ℕ) → (position : ℕ) → (kinds values : List ℕ) → (i : ℕ) → Type 0
Putting before now position kinds values i = Pasting before now position (entries kinds values) i

pub putting_turns : (before now : List ℕ) (position : ℕ) (kinds values : List ℕ) (i value e : ℕ) → length kinds ≡ length values
    → position + length kinds ≤ length before
    → i < length kinds → Putting before now position kinds values i → value ≡ get_or values i 0 → e ≡ entry (get_or kinds i 0) value
    → Putting before (set now (position + i) e) position kinds values (i + 1)
putting_turns before now position kinds values i value e same room h p v is =
    let count = entries_long kinds values same in
    pasting_turns before position (entries kinds values) now i e (omega (arith, count)) (omega (arith, count))
    (is ∙ rw v (sym (entries_at kinds values i same h))) p

pub putting_ends : (before now : List ℕ) (position : ℕ) (kinds values : List ℕ) (i : ℕ) → length kinds ≡ length values → length kinds ≤ i
    → Putting before now position kinds values i → now ≡ written before position (entries kinds values)
putting_ends before now position kinds values i same h p =
    pasting_ends before position (entries kinds values) now i (omega (arith, entries_long kinds values same)) p
