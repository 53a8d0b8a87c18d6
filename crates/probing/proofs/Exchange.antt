-- The exchange rule is sound: where a bit is flipped and the halves of every word are exchanged, two expressions that pass keep their values,
-- and the words are changed back by shifts.
use mathlib.Core.Path.{◌≡◌, refl, sym, ap, ap₂, fun_ext, ◌∙◌}
use mathlib.Core.Bool.{Bool, true, false, cond, not, ◌&&◌, ◌||◌}
use mathlib.Core.Logic.{◌⊎◌, inl, inr}
use mathlib.Core.List.{List, [], ◌∷◌}
use Prim.Native.Nat.{ℕ, zero, suc, ◌+◌, ◌/◌, ◌%◌, ◌^◌, ◌<◌}
use native.Mathlib.Omega.{arith}
use borrow.Author.Tests.{eqb-true, eqb-false}
use mir.Facts.{and_yes, or_yes}
use lib.Dec.{T, eqb, eqb→eq}
use Rattle.bits.specs.Xor.{◌⊕◌}
use Rattle.bits.proofs.Xor.{below, zero_r, different_bits}
use Rattle.counting.specs.Sum.{sum}
use Rattle.counting.specs.Choice.{width, change}
use Rattle.counting.proofs.Choice.{change_same}
use Rattle.counting.proofs.Exchange.{exchanged, exchanged_high, exchanged_low, exchanged_below, exchanged_sum, exchange}
use Rattle.counting.proofs.Over.{Reorders, over_ext, over_reordered}
use Rattle.probing.specs.Expression.{Expression, secret, mask, number, ◌⊞◌, lookup, differ, half, System, Setting, value}
use Rattle.probing.specs.Alike.{widths, Valid, Alike, Known}
use Rattle.probing.specs.Search.{each_place}
use Rattle.probing.specs.Test.{off_by, shiftable, of_class, is_word, reads_no_word, sum_of_words, flipped, kept_by_exchange, exchangeable}
use Rattle.probing.proofs.Bool.{not_false}
use Rattle.probing.proofs.Change.{changed, within_change}
use Rattle.probing.proofs.Offset.{shifting, off_by_value}
use Rattle.probing.proofs.Class.{class_below}
use Rattle.probing.proofs.Search.{each_place_passes}
use Rattle.probing.proofs.Shift.{kept}
use Rattle.probing.proofs.Places.{by_places}

-- what a test that passed says
true_of : (b : Bool) → T b → b ≡ true
true_of true t = refl
true_of false t = absurd t

-- a flipped bit chooses of an exchanged word what the bit chose of the word
same_half : (l s w : ℕ) → s < 2 → w < 2 ^ (l + l)
    → cond (eqb (s ⊕ 1) 0) (exchanged l w / 2 ^ l) (exchanged l w % 2 ^ l) ≡ cond (eqb s 0) (w / 2 ^ l) (w % 2 ^ l)
unfolding ◌⊕◌
same_half l zero w h k = exchanged_low l w k
same_half l (suc zero) w h k = exchanged_high l w k
same_half l (suc (suc s)) w h k = absurd (omega arith)

module _ (system : System) (setting : Setting) where
  word_wide : (classes : List ℕ) (i : ℕ) → T (is_word system classes i) → width (widths setting classes) i ≡ setting.width system.word
  unfolding is_word width
  word_wide [] i t = absurd t
  word_wide (k ∷ ks) zero t = ap setting.width (eqb→eq k system.word t)
  word_wide (k ∷ ks) (suc i) t = word_wide ks i t

  abbrev l : ℕ
  l = setting.width system.part

  -- what the number at a place becomes
  unfoldable moved_at : (classes : List ℕ) → (i r : ℕ) → ℕ
  moved_at classes i r = cond (is_word system classes i) (exchanged l r) r

  moved_word : (classes : List ℕ) (i r : ℕ) → T (is_word system classes i) → moved_at classes i r ≡ exchanged l r
  unfolding moved_at
  moved_word classes i r t = rw (true_of (is_word system classes i) t)

  moved_other : (classes : List ℕ) (i r : ℕ) → T (not (is_word system classes i)) → moved_at classes i r ≡ r
  unfolding moved_at
  moved_other classes i r t = rw (not_false (is_word system classes i) t)

  module _ (double : setting.width system.word ≡ l + l) where
    word_below : (classes : List ℕ) (numbers : ℕ → ℕ) → Valid setting classes numbers → (i : ℕ) → T (is_word system classes i)
        → numbers i < 2 ^ (l + l)
    word_below classes numbers valid i t = rw (word_wide classes i t, double) at (valid.each i)

    reorders : (classes : List ℕ) (i : ℕ) → Reorders (width (widths setting classes) i) (moved_at classes i)
    unfolding moved_at
    reorders classes i g = reorders_by_cases (is_word system classes i) refl
      where
        reorders_by_cases : (word : Bool) → is_word system classes i ≡ word
            → sum (2 ^ width (widths setting classes) i) (λ r. g (cond word (exchanged l r) r)) ≡ sum (2 ^ width (widths setting classes) i) g
        reorders_by_cases true e = rw (word_wide classes i (rw e tt), double) (exchange l g)
        reorders_by_cases false e = refl

-- the secret at place j, a bit, is changed from vs j to v, which is another
module _ (system : System) (setting : Setting) {hs ts : ℕ → ℕ} (known : Known system setting hs ts) {vs : ℕ → ℕ}
    (valid : Valid setting system.secrets vs) (j v : ℕ) (small : v < 2 ^ width (widths setting system.secrets) j) where
  abbrev words : List ℕ
  words = system.secrets

  -- all words with their halves exchanged, and the bit flipped
  us : ℕ → ℕ
  us = change j v (λ k. moved_at system setting words k (vs k))

  us_at : (k : ℕ) → us k ≡ cond (eqb k j) v (moved_at system setting words k (vs k))
  unfolding us
  us_at k = changed j v _ k

  moved_below : (k : ℕ) → moved_at system setting words k (vs k) < 2 ^ width (widths setting words) k
  unfolding moved_at
  moved_below k = moved_below_by_cases (is_word system words k) refl
    where
      moved_below_by_cases : (word : Bool) → is_word system words k ≡ word
          → cond word (exchanged (l system setting) (vs k)) (vs k) < 2 ^ width (widths setting words) k
      moved_below_by_cases true e =
          let t : T (is_word system words k) = rw e tt in
          rw (word_wide system setting words k t, known.halves)
          (exchanged_below (l system setting) (vs k) (word_below system setting known.halves words vs valid k t))
      moved_below_by_cases false e = valid.each k

  us_valid : Valid setting words us
  unfolding us
  us_valid = within_change j small (record { each = moved_below })

  module _ (c : ℕ → ℕ) (within : Valid setting system.masks c) where
    abbrev moved_masks : ℕ → ℕ
    moved_masks i = moved_at system setting system.masks i (c i)

    -- what reads no word sees only the bit
    unread_value : (e : Expression) → T (reads_no_word system j e) → value setting us moved_masks e ≡ value setting (change j v vs) c e
    unfolding value reads_no_word
    unread_value (secret k) t =
        us_at k ∙ unread_by_cases (eqb k j) (or_yes (eqb k j) (not (is_word system words k)) t) ∙ sym (changed j v vs k)
      where
        unread_by_cases : (same : Bool) → T same ⊎ T (not (is_word system words k))
            → cond same v (moved_at system setting words k (vs k)) ≡ cond same v (vs k)
        unread_by_cases true h = refl
        unread_by_cases false (inl h) = absurd h
        unread_by_cases false (inr h) = moved_other system setting words k (vs k) h
    unread_value (mask i) t = moved_other system setting system.masks i (c i) t
    unread_value (number class a) t = refl
    unread_value (e ⊞ f) t =
        let both = and_yes (reads_no_word system j e) (reads_no_word system j f) t in
        ap₂ ◌⊕◌ (unread_value e both.0) (unread_value f both.1)
    unread_value (lookup n e) t = ap (setting.tables n) (unread_value e t)
    unread_value (differ e f) t =
        let both = and_yes (reads_no_word system j e) (reads_no_word system j f) t in
        ap₂ (λ a b. cond (eqb a b) 0 1) (unread_value e both.0) (unread_value f both.1)
    unread_value (half k s w) t = absurd t

    -- a sum of words has its halves exchanged
    sum_value : (e : Expression) → T (sum_of_words system j e)
        → (value setting us moved_masks e ≡ exchanged (l system setting) (value setting vs c e))
        × (value setting vs c e < 2 ^ (l system setting + l system setting))
    unfolding value sum_of_words
    sum_value (secret k) t =
        let both = and_yes (not (eqb k j)) (is_word system words k) t in (
          us_at k ∙ rw (not_false (eqb k j) both.0) (moved_word system setting words k (vs k) both.1),
          word_below system setting known.halves words vs valid k both.1,
        )
    sum_value (mask i) t =
        (moved_word system setting system.masks i (c i) t, word_below system setting known.halves system.masks c within i t)
    sum_value (number class a) t = absurd t
    sum_value (e ⊞ f) t =
        let both = and_yes (sum_of_words system j e) (sum_of_words system j f) t in
        let first = sum_value e both.0 in
        let second = sum_value f both.1 in
        (rw (first.0, second.0) (sym (exchanged_sum (l system setting) _ _)), below _ first.1 second.1)
    sum_value (lookup n e) t = absurd t
    sum_value (differ e f) t = absurd t
    sum_value (half k s w) t = absurd t

    module _ (flips : vs j ⊕ v ≡ 1) where
      flipped_value : (s : Expression) → T (flipped system j s)
          → (value setting us moved_masks s ≡ value setting vs c s ⊕ 1) × (value setting vs c s < 2)
      unfolding flipped
      flipped_value s t =
          let all = and_yes (reads_no_word system j s && off_by j [] true s) (of_class system system.bit s) t in
          let both = and_yes (reads_no_word system j s) (off_by j [] true s) all.0 in
          let unshifted : (λ i. c i ⊕ shifting [] (vs j ⊕ v) i) ≡ c = fun_ext (λ i. zero_r (c i)) in (
            unread_value s both.0
                ∙ (rw (unshifted, flips) at (off_by_value setting j [] vs v c true s both.1)),
            rw known.bit at (class_below system setting known valid within system.bit s all.1),
          )

      kept_value : (e : Expression) → T (kept_by_exchange system j e) → value setting us moved_masks e ≡ value setting vs c e
      unfolding value kept_by_exchange
      kept_value (secret k) t =
          let both = and_yes (not (eqb k j)) (not (is_word system words k)) t in
          us_at k ∙ rw (not_false (eqb k j) both.0) (moved_other system setting words k (vs k) both.1)
      kept_value (mask i) t = moved_other system setting system.masks i (c i) t
      kept_value (number class a) t = refl
      kept_value (e ⊞ f) t =
          let both = and_yes (kept_by_exchange system j e) (kept_by_exchange system j f) t in
          ap₂ ◌⊕◌ (kept_value e both.0) (kept_value f both.1)
      kept_value (lookup n e) t = ap (setting.tables n) (kept_value e t)
      kept_value (differ e f) t =
          let both = and_yes (kept_by_exchange system j e) (kept_by_exchange system j f) t in
          ap₂ (λ a b. cond (eqb a b) 0 1) (kept_value e both.0) (kept_value f both.1)
      kept_value (half k s w) t =
          let all = and_yes (eqb k system.part && flipped system j s) (sum_of_words system j w) t in
          let both = and_yes (eqb k system.part) (flipped system j s) all.0 in
          let bit = flipped_value s both.1 in
          let word = sum_value w all.1 in
          rw (eqb→eq k system.part both.0, bit.0, word.0) (same_half (l system setting) _ _ bit.1 word.1)

  -- both keep their values, over all choices
  kept_alike : vs j ⊕ v ≡ 1 → (e f : Expression) → T (kept_by_exchange system j e) → T (kept_by_exchange system j f) → Alike system setting vs us e f
  kept_alike flips e f t u g =
      sym
      (sym
      (over_reordered (widths setting system.masks) (λ c. g (value setting us c e) (value setting us c f))
      (moved_at system setting system.masks) (reorders system setting known.halves system.masks))
      ∙ over_ext _ (λ c within. ap₂ g (kept_value c within flips e t) (kept_value c within flips f u)))

  -- a place whose halves were not exchanged is as it was; the others are changed back
  back : (e f : Expression) → T (each_place words (λ k class. not (is_word system words k) || shiftable system k class false e f))
      → Alike system setting us (change j v vs) e f
  back e f t =
      by_places system setting us_valid (within_change j small valid) e f
      (λ n h ws here same.
      let at = each_place_passes setting words _ t n h in
      elim (or_yes (not (is_word system words n)) (shiftable system n at.0 false e f) at.2) [
        | inl k ↦
            let as_it_was : ws n ≡ change j v vs n
            = same ∙ us_at n ∙ rw (moved_other system setting words n (vs n) k) (sym (changed j v vs n)) in
            λ g. rw (← as_it_was, change_same n ws)
        | inr k ↦ kept system setting here n at.0 at.1 (change j v vs n) ((within_change j small valid).each n) e f k
      ])

pub exchanged_alike : (system : System) (setting : Setting) {hs ts : ℕ → ℕ} (known : Known system setting hs ts) {vs : ℕ → ℕ}
    (valid : Valid setting system.secrets vs) (j class : ℕ) (size : width (widths setting system.secrets) j ≡ setting.width class)
    (v : ℕ) (small : v < 2 ^ width (widths setting system.secrets) j) (e f : Expression) → T (exchangeable system j class e f)
    → Alike system setting vs (change j v vs) e f
unfolding exchangeable
exchanged_alike system setting known {vs} valid j class size v small e f t =
    let words_back = each_place system.secrets
    (λ k c. not (is_word system system.secrets k) || shiftable system k c false e f) in
    let all = and_yes (eqb class system.bit && kept_by_exchange system j e && kept_by_exchange system j f) words_back t in
    let both = and_yes (eqb class system.bit && kept_by_exchange system j e) (kept_by_exchange system j f) all.0 in
    let first = and_yes (eqb class system.bit) (kept_by_exchange system j e) both.0 in
    let wide : width (widths setting system.secrets) j ≡ 1 = size ∙ ap setting.width (eqb→eq class system.bit first.0) ∙ known.bit in
    by_cases (eqb (vs j) v) refl (rw wide at (valid.each j)) (rw wide at small) first.1 both.1 all.1
  where
    by_cases : (same : Bool) → eqb (vs j) v ≡ same → vs j < 2 → v < 2 → T (kept_by_exchange system j e) → T (kept_by_exchange system j f)
        → T (each_place system.secrets (λ k c. not (is_word system system.secrets k) || shiftable system k c false e f))
        → Alike system setting vs (change j v vs) e f
    by_cases true same h k t u b g = rw (← eqb-true (vs j) v same, change_same j vs)
    by_cases false other h k t u b g =
        kept_alike system setting known valid j v small (different_bits (vs j) v h k (eqb-false (vs j) v other)) e f t u g
        ∙ back system setting known valid j v small e f b g
