-- The laws of written lists: how one write follows another.
use mathlib.Core.Path.{◌≡◌, sym, ap, ◌∙◌}
use mathlib.Core.List.{List, [], ◌∷◌, ◌++◌, append_assoc, append-nil}
use Prim.Native.Nat.{ℕ, ◌+◌, ◌≤◌, ◌<◌}
use native.Mathlib.Nat.{zero-add, add-zero}
use native.Mathlib.Numerals.{add-one}
use native.Mathlib.Omega.{arith}
use lib.ListN.{length, get_or, set, take, drop, get_or-append, length-append, length-drop, take-append-drop}
use lib.Seq.{drop_at, drop-drop, length-take-le, set_split, take_at}
use Rattle.buffers.specs.Written.{written, in_front}

pub written_none : (log : List ℕ) (position : ℕ) → written log position [] ≡ log
unfolding written
written_none log position = rw (add-zero, append-nil) (take-append-drop position log)

-- entries written behind entries
pub written_more : (log : List ℕ) (position k : ℕ) (es fs : List ℕ) → position + length es ≡ k → k + length fs ≤ length log
    → written (written log position es) k fs ≡ written log position (es ++ fs)
unfolding written
written_more log position k es fs e h =
    let before = take position log ++ es in
    let long : length before ≡ k
    = length-append (take position log) es ∙ ap (λ n. n + length es) (length-take-le position log (omega arith)) ∙ e in
    let sizes : position + length es + length fs ≡ position + length (es ++ fs) = omega (arith, length-append es fs) in
    let rest : drop (k + length fs) (before ++ drop (position + length es) log) ≡ drop (position + length (es ++ fs)) log
    = sym (drop-drop (length fs) k _) ∙ rw (drop_at before _ k long) (drop-drop (length fs) _ log ∙ ap (λ n. drop n log) sizes) in
    rw (take_at before (drop (position + length es) log) k long, rest) (simp append_assoc)

pub written_long : (log : List ℕ) (position : ℕ) (es : List ℕ) → position + length es ≤ length log
    → length (written log position es) ≡ length log
unfolding written
written_long log position es h =
    simp (length-append, length-drop) (omega (arith, length-take-le position log (omega arith)))

pub written_front : (log es : List ℕ) → written log 0 es ≡ in_front es log
unfolding written in_front
written_front log es = rw zero-add

-- what stands in front, and what stands behind it
pub in_front_take : (new old : List ℕ) (k : ℕ) → length new ≡ k → take k (in_front new old) ≡ new
unfolding in_front
in_front_take new old k e = take_at new _ k e

pub in_front_drop : (new old : List ℕ) (k : ℕ) → length new ≡ k → drop k (in_front new old) ≡ drop k old
unfolding in_front
in_front_drop new old k e = drop_at new _ k e ∙ ap (λ n. drop n old) e

pub in_front_at : (new old : List ℕ) (i : ℕ) → i < length new → get_or (in_front new old) i 0 ≡ get_or new i 0
unfolding in_front
in_front_at new old i h = get_or-append new (drop (length new) old) 0 i h

-- a byte that is set is written
pub set_written : (old : List ℕ) (i byte : ℕ) → i < length old → set old i byte ≡ written old i (byte ∷ [])
unfolding written
set_written old i byte h = set_split old i byte h ∙ rw (add-one i) (simp append_assoc)
