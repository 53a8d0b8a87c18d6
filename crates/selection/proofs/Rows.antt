-- The log's kinds and values, row by row: no value is cut, and the values are the source's Table 3.
use mathlib.Core.Path.{◌≡◌, refl, ap, ap₂, ◌∙◌}
use mathlib.Core.List.{List, [], ◌∷◌, ◌++◌, map}
use Prim.Native.Nat.{ℕ, ◌-◌, ◌*◌, ◌^◌, ◌<◌}
use native.Mathlib.Nat.{lt_of_lt_of_le}
use native.Mathlib.Omega.{arith}
use lib.ListN.{length}
use Rattle.bits.specs.Xor.{◌⊕◌}
use Rattle.bits.proofs.Xor.{below, other_bit}
use Rattle.lookup.specs.Entry.{kind_of, value_of}
use Rattle.lookup.proofs.Entry.{entry_value, value_kept, entry_kind}
use Rattle.lookup.proofs.Each.{Each, none, more}
use Rattle.log_entries.specs.Entries.{entries}
use Rattle.halves.specs.declared.Selection.{Selection}
use Rattle.halves.specs.Bounded.{Bounded}
use Rattle.halves.specs.Halves.{c3, masked, share}
use Rattle.selection.specs.Log.{bit_values, half_values}
use Rattle.selection.specs.Log.{input_entries, half_entries, share_entries, log_of}
use Rattle.selection.specs.Promises.{table_3}
use Rattle.halves.proofs.Bounds.{bits_below, c3_below}
use Rattle.halves.proofs.Shares.{half_below, masked_below, share_chosen, bounded_share}

-- every value has room in its entry
abbrev Room : List ℕ → Type 0
Room values = Each (λ v. v < 65536) values

-- entries give back their kinds and their values
pub record ReadBack (entries kinds values : List ℕ) : Type 0 where
  pub kinds_are : map kind_of entries ≡ kinds
  pub values_are : map value_of entries ≡ values

entries_read : (ks vs : List ℕ) → length ks ≡ length vs → Room vs → ReadBack (entries ks vs) ks vs
unfolding entries
entries_read [] [] e none = record { kinds_are = refl; values_are = refl }
entries_read [] (v ∷ vs) e d = absurd (omega arith)
entries_read (k ∷ ks) [] e d = absurd (omega arith)
entries_read (k ∷ ks) (v ∷ vs) e (more h d) =
    let rest = entries_read ks vs (omega arith) d in
    record {
      kinds_are = ap₂ (λ x xs. x ∷ xs) (entry_kind h) rest.kinds_are;
      values_are = ap₂ (λ x xs. x ∷ xs) (entry_value k v ∙ value_kept h) rest.values_are;
    }

map_both : (f : ℕ → ℕ) (xs ys : List ℕ) → map f (xs ++ ys) ≡ map f xs ++ map f ys
map_both f [] ys = refl
map_both f (x ∷ xs) ys = ap (λ zs. f x ∷ zs) (map_both f xs ys)

both_read : {es fs ks ls vs ws : List ℕ} → ReadBack es ks vs → ReadBack fs ls ws → ReadBack (es ++ fs) (ks ++ ls) (vs ++ ws)
both_read {es} {fs} p q =
    record {
      kinds_are = map_both kind_of es fs ∙ ap₂ ◌++◌ p.kinds_are q.kinds_are;
      values_are = map_both value_of es fs ∙ ap₂ ◌++◌ p.values_are q.values_are;
    }

-- all that the log shows, in its order
abbrev pub all_values : Selection → List ℕ
all_values s = s.z0 ∷ s.z1 ∷ s.z2 ∷ bit_values s ++ (half_values s s.c0 ++ half_values s (1 - s.c0)) ++ share 0 s ∷ share 1 s ∷ share 2 s ∷ []

module _ (s : Selection) (k : Bounded s) where
  word_room : {v : ℕ} → v < 2 ^ (2 * s.width) → v < 65536
  word_room h = lt_of_lt_of_le h k.words_most

  half_room : {v : ℕ} → v < 2 ^ s.width → v < 65536
  half_room h = omega (arith, lt_of_lt_of_le h k.halves_most)

  bit_room : {v : ℕ} → v < 2 → v < 65536
  bit_room h = omega arith

  bit_values_room : Room (bit_values s)
  unfolding bit_values ◌⊕◌
  bit_values_room =
      more (bit_room k.c0) (more (bit_room k.c1) (more (bit_room k.c2) (more (half_room k.t1) (more (half_room k.t2)
      (more (bit_room k.b) (more (bit_room (bits_below k.c1 k.b)) (more (bit_room (c3_below s k.c1 k.c2 k.b)) none)))))))

  half_values_room : (bit : ℕ) → Room (half_values s bit)
  unfolding half_values
  half_values_room bit =
      more (half_room (half_below _ bit _ k.z0)) (more (half_room (masked_below s 0 bit k))
      (more (half_room (half_below _ bit _ k.z1)) (more (half_room (masked_below s 1 bit k))
      (more (half_room (half_below _ bit _ k.z2)) (more (half_room (below _ (half_below _ bit _ k.z2) k.t1))
      (more (half_room (masked_below s 2 bit k)) none))))))

  share_room : (register : ℕ) → share register s < 65536
  share_room register = half_room (rw (bounded_share s register k) (masked_below s register _ k))

  inputs_read : ReadBack (input_entries s) (1 ∷ 2 ∷ 3 ∷ 11 ∷ 4 ∷ 5 ∷ 6 ∷ 7 ∷ 8 ∷ 9 ∷ 10 ∷ []) (s.z0 ∷ s.z1 ∷ s.z2 ∷ bit_values s)
  unfolding input_entries bit_values
  inputs_read =
      both_read
      (entries_read (1 ∷ 2 ∷ 3 ∷ []) (s.z0 ∷ s.z1 ∷ s.z2 ∷ []) refl
      (more (word_room k.z0) (more (word_room k.z1) (more (word_room k.z2) none))))
      (entries_read (11 ∷ 4 ∷ 5 ∷ 6 ∷ 7 ∷ 8 ∷ 9 ∷ 10 ∷ []) (bit_values s) refl bit_values_room)

  halves_read : ReadBack (half_entries s) (12 ∷ 13 ∷ 14 ∷ 15 ∷ 16 ∷ 17 ∷ 18 ∷ 19 ∷ 20 ∷ 21 ∷ 22 ∷ 23 ∷ 25 ∷ 26 ∷ [])
      (half_values s s.c0 ++ half_values s (1 - s.c0))
  unfolding half_entries half_values
  halves_read =
      both_read (entries_read (12 ∷ 13 ∷ 14 ∷ 15 ∷ 16 ∷ 17 ∷ 18 ∷ []) (half_values s s.c0) refl (half_values_room s.c0))
      (entries_read (19 ∷ 20 ∷ 21 ∷ 22 ∷ 23 ∷ 25 ∷ 26 ∷ []) (half_values s (1 - s.c0)) refl (half_values_room (1 - s.c0)))

  shares_read : ReadBack (share_entries s) (27 ∷ 28 ∷ 29 ∷ []) (share 0 s ∷ share 1 s ∷ share 2 s ∷ [])
  unfolding share_entries
  shares_read =
      entries_read (27 ∷ 28 ∷ 29 ∷ []) (share 0 s ∷ share 1 s ∷ share 2 s ∷ []) refl
      (more (share_room 0) (more (share_room 1) (more (share_room 2) none)))

  pub log_read : ReadBack (log_of s)
      (1 ∷ 2 ∷ 3 ∷ 11 ∷ 4 ∷ 5 ∷ 6 ∷ 7 ∷ 8 ∷ 9 ∷ 10 ∷ 12 ∷ 13 ∷ 14 ∷ 15 ∷ 16 ∷ 17 ∷ 18 ∷ 19 ∷ 20 ∷ 21 ∷ 22 ∷ 23 ∷ 25 ∷ 26 ∷ 27 ∷ 28 ∷ 29 ∷ [])
      (all_values s)
  unfolding log_of
  log_read = both_read (both_read inputs_read halves_read) shares_read

pub values_in_table : (s : Selection) → s.c0 < 2 → s.c1 < 2 → s.c2 < 2 → s.b < 2 → all_values s ≡ table_3 s (s.c0 ⊕ s.c1 ⊕ s.c2)
unfolding bit_values half_values masked c3
values_in_table s h0 h1 h2 h =
    rw (share_chosen s 0 h0 h1 h2 h, share_chosen s 1 h0 h1 h2 h, share_chosen s 2 h0 h1 h2 h, ← other_bit s.c0 h0)

-- whatever the values are, what is read of an entry is read of its value
pub log_shown : (s : Selection) → map value_of (log_of s) ≡ map value_of (all_values s)
unfolding log_of input_entries half_entries share_entries bit_values half_values entries
log_shown s = simp entry_value
