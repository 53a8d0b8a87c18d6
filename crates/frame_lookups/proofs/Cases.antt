-- What a case of bytes and the S-box give the method's run.
use mathlib.Core.Path.{◌≡◌, ap, ◌∙◌}
use mathlib.Core.List.{List}
use Prim.Native.Nat.{ℕ, ◌+◌, ◌^◌, ◌<◌}
use lib.Dec.{lit<, lit≤}
use lib.ListN.{length, get_or}
use Rattle.table.specs.Balanced.{at}
use Rattle.sbox.specs.Sbox.{sbox}
use Rattle.sbox.proofs.Sbox.{length_sbox}
use Rattle.lookup.specs.declared.Case.{Case}
use Rattle.lookup.specs.Bounded.{Bounded}
use Rattle.lookup.specs.Method2.{answer_2}
use Rattle.frame_lookups.specs.Lookups.{case_2, case_at, answered}

pub bytes_bounded : (x0 r1 r2 s1 s2 r3 : ℕ) → x0 < 256 → r1 < 256 → r2 < 256 → s1 < 256 → s2 < 256 → r3 < 256
    → Bounded (case_2 x0 r1 r2 s1 s2 r3)
unfolding case_2
bytes_bounded x0 r1 r2 s1 s2 r3 h1 h2 h3 h4 h5 h6 =
    record { width = lit≤ tt; size = lit≤ tt; x0 = h1; r1 = h2; r2 = h3; r3 = h6; s1 = h4; s2 = h5; b = lit< tt }

pub table_long : (table : List ℕ) (n : ℕ) → table ≡ sbox → 2 ^ n ≡ 256 → length table ≡ 2 ^ n
table_long table n e size = ap (λ (xs : List ℕ). length xs) e ∙ length_sbox ∙ rw size

pub answer_of : (c : Case) (table : List ℕ) (answer : ℕ) → table ≡ sbox → answer ≡ answer_2 c table → answer ≡ answer_2 c sbox
answer_of c table answer e a = a ∙ ap (answer_2 c) e

pub answered_by : (random : List ℕ) (p x0 r1 r2 answer : ℕ) (c : Case)
    → c ≡ case_2 x0 r1 r2 (get_or random p 0) (get_or random (p + 1) 0) (get_or random (p + 2) 0) → answer ≡ answer_2 c sbox
    → answer ≡ answered random p x0 r1 r2
unfolding answered case_at at
answered_by random p x0 r1 r2 answer c e a = a ∙ ap (λ (k : Case). answer_2 k sbox) e
