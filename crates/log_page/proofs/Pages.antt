-- A page, put together from its three parts.
use mathlib.Core.Path.{◌≡◌, ◌∙◌}
use mathlib.Core.Bool.{false}
use mathlib.Core.List.{List, ◌++◌, map}
use Prim.Native.Nat.{ℕ, ◌+◌, ◌*◌, ◌/◌, ◌^◌, ◌≤◌, ◌<◌}
use native.Mathlib.Omega.{arith}
use mir.Syntax.{w64}
use mir.Val.{Fits}
use lib.ListN.{length, length-append}
use Rattle.buffers.specs.Written.{written, in_front}
use Rattle.buffers.proofs.Written.{written_more, written_front}
use Rattle.refusals.specs.Tests.{any_from}
use Rattle.lookup.specs.Entry.{kind_of, kind_limit}
use Rattle.log_page.specs.Page.{lines_of_five, lines_needed, often, kind_line, kind_lines, total_line, page_of}
use Rattle.log_page.proofs.Rising.{rising_past, rising_most_but_0}
use Rattle.log_page.proofs.FiveALine.{lines_long}
use Rattle.log_page.proofs.KindLines.{kind_most, kinds_most, no_line, total_long}

module _ (log before : List ℕ) (room : 17 * length log + 600 ≤ length before) where
  entries : List ℕ
  entries = lines_of_five (lines_needed (length log)) log

  -- the entry lines leave room
  entries_few : length entries + 527 ≤ length before
  unfolding entries
  entries_few = omega (arith, lines_long ((length log + 4) / 5) log)

  module _ (kinds : ℕ) (e : kinds ≡ length (lines_of_five (lines_needed (length log)) log)) where
    pub kinds_room : (now : List ℕ) → length now ≡ length before → kinds + 510 ≤ length now
    unfolding entries
    kinds_room now l = omega (arith, entries_few)

    module _ (total : ℕ) (f : total ≡ kinds + length (kind_lines kind_limit log)) where
      pub total_room : (first now : List ℕ) → length first ≡ length before → length now ≡ length first → total + 17 ≤ length now
      unfolding entries
      total_room first now k l = omega (arith, entries_few, kinds_most kind_limit log)

      pub total_fits : length before < 2 ^ 64 → Fits w64 (total + 17)
      unfolding entries
      total_fits l = record { fits = omega (arith, entries_few, kinds_most kind_limit log) }

      pub page_left : (first second third : List ℕ) → first ≡ written before 0 (lines_of_five (lines_needed (length log)) log)
          → second ≡ written first kinds (kind_lines kind_limit log) → third ≡ written second total (total_line (length log))
          → third ≡ in_front (page_of log) before
      unfolding page_of entries
      page_left first second third a b c =
          let lines = lines_of_five (lines_needed (length log)) log in
          let most = kinds_most kind_limit log in
          let two : second ≡ written before 0 (lines ++ kind_lines kind_limit log)
          = b ∙ rw a (written_more before 0 kinds lines _ (omega arith) (omega (arith, entries_few))) in
          c
          ∙ rw two (written_more before 0 total (lines ++ kind_lines kind_limit log) _
          (omega (arith, length-append lines (kind_lines kind_limit log))) (omega (arith, total_long (length log), entries_few)))
          ∙ written_front before _

      pub page_long : total + 17 ≡ length (page_of log)
      unfolding page_of
      page_long =
          omega (
            arith,
            length-append (lines_of_five (lines_needed (length log)) log ++ kind_lines kind_limit log) (total_line (length log)),
            length-append (lines_of_five (lines_needed (length log)) log) (kind_lines kind_limit log),
            total_long (length log),
          )

-- the longest page of a lookup's log, whose kinds are 1 to 18
kinds_few : (log : List ℕ) → any_from 19 (map kind_of log) ≡ false → often 0 log ≡ 0 → length (kind_lines kind_limit log) ≤ 306
unfolding kind_lines kind_line
kinds_few log known none =
    let lines : ℕ → List ℕ = λ kind. kind_line kind (often kind log) in
    rw (rising_past 19 lines (no_line 19 log known) 11)
    (rising_most_but_0 17 lines (λ kind. kind_most kind (often kind log)) (rw none) 18)

pub page_few : (log : List ℕ) → length log ≤ 2314 → any_from 19 (map kind_of log) ≡ false → often 0 log ≡ 0 → length (page_of log) ≤ 37826
unfolding page_of
page_few log few known none =
    let lines = lines_of_five (lines_needed (length log)) log in
    omega (
      arith,
      length-append (lines ++ kind_lines kind_limit log) (total_line (length log)),
      length-append lines (kind_lines kind_limit log),
      lines_long (lines_needed (length log)) log,
      kinds_few log known none,
      total_long (length log),
    )
