-- What stays of the scratch: the first 256 bytes are cleared again and again, and nothing behind them is touched. And what a lookup leaves.
use mathlib.Core.Path.{◌≡◌, sym, ap, ◌∙◌}
use mathlib.Core.List.{List, ◌++◌}
use Prim.Native.Nat.{ℕ, ◌+◌, ◌^◌, ◌≤◌}
use native.Mathlib.Nat.{le_refl}
use lib.ListN.{length, get_or, take, drop, replicate, length-replicate}
use lib.Seq.{drop_at, length-take-le}
use Rattle.table.specs.Balanced.{at}
use Rattle.sbox.specs.Sbox.{sbox}
use Rattle.lookup.specs.declared.Case.{Case}
use Rattle.lookup.specs.Case.{Q}
use Rattle.lookup.specs.Bounded.{Bounded}
use Rattle.lookup.specs.Method2.{scratch_2}
use Rattle.lookup.proofs.Second.{beyond, r_prime_below}
use Rattle.frame_lookups.specs.Scratch.{cleared}
use Rattle.frame_lookups.specs.Lookups.{case_2, case_at, filled}

-- what is cleared is the part of the first 256 bytes
pub part_cleared : (part scratch : List ℕ) → 256 ≤ length scratch → part ≡ replicate (length (take 256 scratch)) 0
    → part ++ drop 256 scratch ≡ cleared scratch
unfolding cleared
part_cleared part scratch room e = ap (λ (xs : List ℕ). xs ++ drop 256 scratch) (e ∙ ap (λ k. replicate k 0) (length-take-le 256 scratch room))

pub cleared_again : (scratch : List ℕ) → cleared (cleared scratch) ≡ cleared scratch
unfolding cleared
cleared_again scratch =
    let zeros : List ℕ = replicate 256 0 in
    ap (λ (rest : List ℕ). zeros ++ rest) (drop_at zeros (drop 256 scratch) 256 (length-replicate {A = ℕ} 256 0))

-- scratch that was clean, run upon and cleared is as it was
pub cleared_after : (c : Case) (table before after : List ℕ) → Bounded c → 2 ^ c.n ≡ 256 → before ≡ cleared before
    → after ≡ scratch_2 (Q c) c table before → cleared after ≡ before
unfolding cleared Q
cleared_after c table before after k size clean e =
    let rest : drop (2 ^ c.n) after ≡ drop (2 ^ c.n) before
    = ap (drop (2 ^ c.n)) e ∙ beyond c table (2 ^ c.n) before (r_prime_below c k.r1 k.r2 k.r3) (le_refl _) in
    ap (λ (xs : List ℕ). replicate 256 0 ++ xs) (rw size at rest) ∙ sym clean

-- what was just cleared is clean
pub now_clean : (before now : List ℕ) → now ≡ cleared before → now ≡ cleared now
now_clean before now e = e ∙ sym (cleared_again before) ∙ ap cleared (sym e)

-- one lookup: cleared, then run
pub lookup_clears : (before cleared_first after : List ℕ) → cleared_first ≡ cleared before → cleared after ≡ cleared_first
    → cleared after ≡ cleared before
lookup_clears before cleared_first after e f = f ∙ e

-- four lookups or words, one after the other
pub four_clear : (s0 s1 s2 s3 s4 : List ℕ) → cleared s1 ≡ cleared s0 → cleared s2 ≡ cleared s1 → cleared s3 ≡ cleared s2
    → cleared s4 ≡ cleared s3 → cleared s4 ≡ cleared s0
four_clear s0 s1 s2 s3 s4 e f g h = h ∙ g ∙ f ∙ e

-- cleared after the last lookup
pub last_clears : (before after cleared_last : List ℕ) → cleared after ≡ cleared before → cleared_last ≡ cleared after
    → cleared_last ≡ cleared before
last_clears before after cleared_last e f = f ∙ e

-- what a lookup leaves
pub scratch_of : (c : Case) (table before after : List ℕ) → table ≡ sbox → 2 ^ c.n ≡ 256 → after ≡ scratch_2 (Q c) c table before
    → after ≡ scratch_2 256 c sbox before
unfolding Q
scratch_of c table before after e size a =
    a ∙ ap (λ k. scratch_2 k c table before) size ∙ ap (λ (t : List ℕ). scratch_2 256 c t before) e

pub filled_by : (random : List ℕ) (p x0 r1 r2 : ℕ) (before clean after : List ℕ) (c : Case)
    → c ≡ case_2 x0 r1 r2 (get_or random p 0) (get_or random (p + 1) 0) (get_or random (p + 2) 0) → clean ≡ cleared before
    → after ≡ scratch_2 256 c sbox clean → after ≡ filled random p x0 r1 r2 before
unfolding filled case_at at
filled_by random p x0 r1 r2 before clean after c e f a =
    a ∙ ap (λ (k : Case). scratch_2 256 k sbox clean) e ∙ ap (scratch_2 256 _ sbox) f
