-- The places of a sheet: how many there are, and where a pair of values is counted.
use mathlib.Core.Path.{◌≡◌, ap, ◌∙◌}
use mathlib.Core.List.{List}
use Prim.Native.Nat.{ℕ, max, ◌+◌, ◌*◌, ◌^◌, ◌≤◌, ◌<◌}
use native.Mathlib.Nat.{two-mul}
use native.Mathlib.Omega.{arith}
use lib.ListN.{get_or}
use lib.Pow.{pow-add}
use Rattle.table.specs.Balanced.{at}
use Rattle.lookup.specs.Entry.{value_of}
use Rattle.secrecy.specs.Count.{value_at}
use Rattle.count_sheet.specs.declared.ProbePair.{ProbePair}
use Rattle.count_sheet.specs.Refusals.{value_width}
use Rattle.count_sheet.specs.Runs.{place_of}

-- a sheet has as many counts as its side squared
pub squared : (k : ℕ) → 2 ^ (2 * k) ≡ 2 ^ k * 2 ^ k
squared k = ap (λ w. 2 ^ w) (two-mul k) ∙ pow-add 2 k k

pub width_told : (p : ProbePair) (k : ℕ) → value_width p ≤ 3 → k ≡ max p.n p.m → k < 32
unfolding value_width
width_told p k h e = omega arith

pub place_told : (p : ProbePair) (log : List ℕ) (k side first second place : ℕ) → k ≡ max p.n p.m → side ≡ 2 ^ k
    → first ≡ value_of (get_or log p.first 0) → second ≡ value_of (get_or log p.second 0) → place ≡ first * side + second
    → place ≡ place_of p log
unfolding place_of value_at at value_width
place_told p log k side first second place e f u v r = rw (r, u, v, f, e)
