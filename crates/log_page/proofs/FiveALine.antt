-- How the entry lines are printed, one below the other.
use mathlib.Core.Path.{◌≡◌, refl, sym, ap, ◌∙◌}
use mathlib.Core.Bool.{Bool, true, false}
use mathlib.Core.List.{List, [], ◌∷◌, ◌++◌, append-nil}
use Rattle.std.specs.Int.{div_ceil}
use Prim.Native.Nat.{ℕ, min, ◌+◌, ◌*◌, ◌-◌, ◌≤◌, ◌<◌}
use native.Mathlib.Omega.{arith}
use borrow.Author.Tests.{leb-true, leb-false}
use lib.Dec.{leb}
use lib.ListN.{length, take, drop, length-append, length-take, length-drop, drop_of_length-le}
use lib.Seq.{take_all, take_at, drop_at, drop-drop}
use Rattle.buffers.specs.Written.{written}
use Rattle.buffers.proofs.Blocks.{blocks, blocks_long, Stacking, stacking_begins, stacking_turns, stacking_ends}
use Rattle.log_page.specs.Page.{side_by_side, filled, lines_of_five, lines_needed}
use Rattle.log_page.proofs.Rising.{rising_blocks}
use Rattle.log_page.proofs.SideBySide.{side_long, filled_long}

-- a line of entries
abbrev pub line_at : List ℕ → ℕ → List ℕ
line_at log k = filled 80 (side_by_side (5 * k) (take 5 (drop (5 * k) log)))

pub lines_blocks : (k : ℕ) (log : List ℕ) → lines_of_five k log ≡ blocks (line_at log) k
unfolding lines_of_five
lines_blocks k log = rising_blocks (line_at log) k

pub five_most : (log : List ℕ) (k : ℕ) → length (side_by_side (5 * k) (take 5 (drop (5 * k) log))) ≤ 80
five_most log k = omega (arith, side_long (5 * k) (take 5 (drop (5 * k) log)), length-take 5 (drop (5 * k) log))

line_long : (log : List ℕ) (k : ℕ) → length (line_at log k) ≡ 81
line_long log k = filled_long 80 _ (five_most log k)

pub lines_long : (k : ℕ) (log : List ℕ) → length (lines_of_five k log) ≡ k * 81
lines_long k log = ap length (lines_blocks k log) ∙ blocks_long 81 (line_at log) k (λ i h. line_long log i)

length_zero : (l : List ℕ) → length l ≡ 0 → l ≡ []
length_zero [] z = refl
length_zero (x ∷ l) z = absurd (omega arith)

-- five of what is left of the log, or all where fewer are left
cut_off : (rest five left : List ℕ) → rest ≡ five ++ left → length five ≡ min 5 (length rest) → (five ≡ take 5 rest) × (left ≡ drop 5 rest)
cut_off rest five left e l = cut_off_by_cases (leb 5 (length rest)) refl
  where
    both : length rest ≡ length five + length left
    both = ap length e ∙ length-append five left

    cut_off_by_cases : (t : Bool) → leb 5 (length rest) ≡ t → (five ≡ take 5 rest) × (left ≡ drop 5 rest)
    cut_off_by_cases true q =
        let long : length five ≡ 5 = omega (arith, leb-true 5 (length rest) q) in
        (rw e (sym (take_at five left 5 long)), rw e (sym (drop_at five left 5 long)))
    cut_off_by_cases false q =
        let short : length rest < 5 = leb-false 5 (length rest) q in
        let none : left ≡ [] = length_zero left (omega (arith, both)) in
        let all : rest ≡ five = e ∙ rw none (append-nil five) in
        (sym all ∙ sym (take_all 5 rest (omega arith)), none ∙ sym (drop_of_length-le rest {i = 5} (omega arith)))

-- the first k lines are printed, and what is left of the log is still to be
pub record Lined (log before now rest : List ℕ) (size k : ℕ) : Type 0 where
  pub stack : Stacking 0 81 (lines_needed (length log)) (line_at log) before now k
  pub left : rest ≡ drop (5 * k) log
  pub five : size ≡ 5

module _ (log before : List ℕ) where
  pub lined_begins : (rest : List ℕ) (size k : ℕ) → rest ≡ log → size ≡ 5 → k ≡ 0 → Lined log before before rest size k
  lined_begins rest size k e f z = rw z (record { stack = stacking_begins 0 81 _ (line_at log) before; left = e; five = f })

  module _ (now rest : List ℕ) (size k : ℕ) (s : Lined log before now rest size k) where
    sizes : length rest ≡ length log - 5 * k
    sizes = ap length s.left ∙ length-drop (5 * k) log

    pub lined_turns : (chunk left next : List ℕ) (same turn count : ℕ) → 17 * length log + 600 ≤ length before → rest ≡ chunk ++ left
        → length chunk ≡ min size (length rest) → 0 < length rest → same ≡ size → turn ≡ k → count ≡ k + 1
        → next ≡ written now (81 * turn) (filled 80 (side_by_side (5 * turn) chunk))
        → Lined log before next left same count
    lined_turns chunk left next same turn count room e l some f t c w =
        let parts = cut_off rest chunk left e (l ∙ ap (λ n. min n (length rest)) s.five) in
        let told : next ≡ written now (81 * k) (line_at log k) = w ∙ rw (t, parts.0, s.left) in
        let more : 5 * k + 5 ≡ 5 * (k + 1) = omega arith in
        rw c (record {
          stack =
              stacking_turns 0 81 _ (line_at log) before now k s.stack next (81 * k) (λ i h. line_long log i)
              (omega (arith, sizes)) (omega arith) (omega arith) told;
          left = parts.1 ∙ rw s.left (drop-drop 5 (5 * k) log ∙ ap (λ n. drop n log) more);
          five = f ∙ s.five;
        })

    pub lined_left : length rest ≡ 0 → now ≡ written before 0 (lines_of_five (lines_needed (length log)) log)
    lined_left z =
        stacking_ends 0 81 _ (line_at log) before now k s.stack (omega (arith, sizes))
        ∙ ap (written before 0) (sym (lines_blocks (lines_needed (length log)) log))

-- how long they are
pub lined_long : (log : List ℕ) (lines : ℕ) → lines ≡ div_ceil (length log) 5 → 81 * lines ≡ length (lines_of_five (lines_needed (length log)) log)
lined_long log lines e = omega (arith, lines_long (lines_needed (length log)) log)
