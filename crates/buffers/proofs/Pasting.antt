-- What a loop keeps that writes a list to a buffer, element by element, from a position on.
use mathlib.Core.Path.{◌≡◌, refl, ap, ap₂, ◌∙◌}
use mathlib.Core.List.{List, ◌++◌, append_assoc}
use Prim.Native.Nat.{ℕ, ◌+◌, ◌≤◌, ◌<◌}
use native.Mathlib.Numerals.{add-one}
use native.Mathlib.Omega.{arith}
use lib.ListN.{length, get_or, set, take, drop, length-set, get_or-append}
use lib.Seq.{paste, paste-zero, paste-suc, take-length, length-take-le, get_or-take}
use Rattle.buffers.specs.Written.{written}

-- the first i elements stand there, and all else is as it was
pub record Pasting (before now : List ℕ) (start : ℕ) (new : List ℕ) (i : ℕ) : Type 0 where
  pub pasted : now ≡ paste before start new i
  pub within : i ≤ length new
  pub long : length now ≡ length before

module _ (before : List ℕ) (start : ℕ) (new : List ℕ) where
  pub pasting_begins : Pasting before before start new 0
  pasting_begins = record { pasted = paste-zero before start new; within = omega arith; long = refl }

  pub pasting_turns : (now : List ℕ) (i value : ℕ) → start + length new ≤ length before → i < length new → value ≡ get_or new i 0
      → Pasting before now start new i → Pasting before (set now (start + i) value) start new (i + 1)
  pasting_turns now i value room h e p =
      record {
        pasted = ap₂ (λ l v. set l (start + i) v) p.pasted e ∙ paste-suc before start new i 0 (omega arith) (omega arith) ∙ rw add-one;
        within = omega arith;
        long = simp length-set p.long;
      }

  pub pasting_ends : (now : List ℕ) (i : ℕ) → length new ≤ i → Pasting before now start new i → now ≡ written before start new
  unfolding written
  pasting_ends now i h p =
      let whole : i ≡ length new = omega (arith, p.within) in
      p.pasted ∙ rw (whole, take-length)

  -- what stands in front of the position is as it was
  pub pasting_keeps : (now : List ℕ) (i j : ℕ) → start ≤ length before → j < start → Pasting before now start new i
      → get_or now j 0 ≡ get_or before j 0
  pasting_keeps now i j room h p =
      let front = take start before in
      let behind = take i new ++ drop (start + i) before in
      ap (λ l. get_or l j 0) (p.pasted ∙ append_assoc front (take i new) (drop (start + i) before))
      ∙ get_or-append front behind 0 j (rw (length-take-le start before room) h)
      ∙ get_or-take start before j 0 h
