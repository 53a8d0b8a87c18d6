-- What is promised of splitting, joining and key addition holds.
use mathlib.Core.Path.{◌≡◌, refl, sym, ◌∙◌}
use mathlib.Core.Bool.{false}
use mathlib.Core.List.{List, [], ◌∷◌}
use Prim.Native.Nat.{ℕ, zero, suc, ◌^◌, ◌<◌}
use Rattle.bits.specs.Xor.{◌⊕◌}
use Rattle.bits.proofs.Xor.{xors, below}
use Rattle.refusals.specs.Tests.{outside, any_from}
use Rattle.refusals.proofs.Checks.{goes, none_applies, passed}
use Rattle.refusals.proofs.Tests.{all_below, one_below, none_below}
use Rattle.shares.specs.Shares.{width_refusal, reply, secret_reply, split, join, add_key}
use Rattle.shares.specs.Promises.{SplitJoins, KeyAdds}

-- what an accepted call knows of its width and of the first three of its numbers
record Three (n a b c : ℕ) (rest : List ℕ) : Type 0 where
  width : outside 1 8 n ≡ false
  first : a < 2 ^ n
  second : b < 2 ^ n
  third : c < 2 ^ n
  others : any_from (2 ^ n) rest ≡ false

three : (n a b c : ℕ) (rest : List ℕ) → outside 1 8 n ≡ false → any_from (2 ^ n) (a ∷ b ∷ c ∷ rest) ≡ false → Three n a b c rest
three n a b c rest w e =
    let p = all_below _ a _ e in
    let q = all_below _ b _ p.1 in
    let r = all_below _ c _ q.1 in
    record { width = w; first = p.0; second = q.0; third = r.0; others = r.1 }

numbers : (n a b c : ℕ) (rest : List ℕ) → width_refusal n (a ∷ b ∷ c ∷ rest) ≡ 0 → Three n a b c rest
unfolding width_refusal
numbers n a b c rest e =
    let p = passed _ 2 _ e in
    three n a b c rest p.0 (passed _ 9 _ p.1).0

pub refusal_of : (k a b c : ℕ) → (reply k a b c).refusal ≡ k
unfolding reply
refusal_of zero a b c = refl
refusal_of (suc k) a b c = refl

-- three numbers of the width join
pub joins : (n a b c : ℕ) → outside 1 8 n ≡ false → a < 2 ^ n → b < 2 ^ n → c < 2 ^ n
    → join n a b c ≡ record { refusal = 0; secret = a ⊕ b ⊕ c }
unfolding join secret_reply width_refusal
joins n a b c w ha hb hc =
    let small = one_below _ a _ ha (one_below _ b _ hb (one_below _ c _ hc (none_below _))) in
    rw (← goes 3 _ w (goes 10 _ small none_applies))

pub split_joins : SplitJoins
unfolding SplitJoins split reply
split_joins n x r1 r2 e =
    let k = sym (refusal_of _ _ _ _) ∙ e in
    let t = numbers n x r1 r2 [] k in
    rw k (joins n _ r1 r2 t.width (below n (below n t.first t.second) t.third) t.second t.third ∙ simp xors)

pub key_adds : KeyAdds
unfolding KeyAdds add_key reply
key_adds n a b c k1 k2 k3 e =
    let k = sym (refusal_of _ _ _ _) ∙ e in
    let s = numbers n a b c (k1 ∷ k2 ∷ k3 ∷ []) k in
    let t = three n k1 k2 k3 [] s.width s.others in
    rw (k, joins n a b c s.width s.first s.second s.third, joins n k1 k2 k3 s.width t.first t.second t.third)
    (joins n _ _ _ s.width (below n s.first t.first) (below n s.second t.second) (below n s.third t.third) ∙ simp xors)
