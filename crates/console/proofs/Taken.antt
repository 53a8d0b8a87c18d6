-- What several reads take of an input together, and where it then stands.
use Rattle.std.proofs.Common.{◌≡◌, ℕ, ◌+◌, ◌≤◌, List, [], ◌++◌, Option, None, Some, sym, ap, ◌∙◌, append_assoc, length, take, drop, drop_at, length-take-le, le_refl}
use Rattle.std.proofs.lemmas.Slice.{take-put_mid_below}
use borrow.Rule.Slice.PartMut.{put_mid, post_of}
use lib.Seq.{take-add, take-append-le}
use Rattle.std.specs.Io.KnownBytes.{Consumes, Keeps}

-- a read that failed took nothing
pub Consumes-none : (a b : Option (List ℕ)) → Keeps a b → Consumes a b []
Consumes-none None b p = tt
Consumes-none (Some x) None p = absurd p
Consumes-none (Some x) (Some y) p = sym p

-- one read after another took both their bytes
pub Consumes-both : (a b c : Option (List ℕ)) (bs cs : List ℕ) → Consumes a b bs → Consumes b c cs → Consumes a c (bs ++ cs)
Consumes-both None b c bs cs p q = tt
Consumes-both (Some x) None c bs cs p q = absurd p
Consumes-both (Some x) (Some y) None bs cs p q = absurd q
Consumes-both (Some x) (Some y) (Some z) bs cs p q = p ∙ ap (λ l. bs ++ l) q ∙ sym (append_assoc bs cs z)

-- what a part of a space that begins at a has in front stands behind the space's first a bytes
pub take-put_mid_front : (a n k : ℕ) (xs ys : List ℕ) → a ≤ length xs → n ≤ length ys → take (a + n) (put_mid a k xs ys) ≡ take a xs ++ take n ys
take-put_mid_front a n k xs ys within fits =
    let first = take-put_mid_below a k xs ys a (le_refl a) within in
    let behind = ap (take n) (drop_at (take a xs) (ys ++ post_of a k xs) a (length-take-le a xs within)) ∙ take-append-le n ys (post_of a k xs) fits in
    take-add a n (put_mid a k xs ys) ∙ ap (λ l. l ++ take n (drop a (put_mid a k xs ys))) first ∙ ap (λ l. take a xs ++ l) behind
