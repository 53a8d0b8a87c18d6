-- What is read of a page: promises of specs/Promises.antt, proved.
use mathlib.Core.Path.{◌≡◌, refl, sym, ap, ◌∙◌}
use mathlib.Core.Bool.{Bool, true, false, cond, true≢false}
use mathlib.Core.List.{List, [], ◌∷◌, ◌++◌, map, map-append, append_assoc, append-nil}
use Prim.Native.Nat.{ℕ, zero, suc, ◌+◌, ◌*◌, ◌-◌, ◌^◌, ◌≤◌, ◌<◌}
use native.Mathlib.Nat.{zero-add, add-zero, div-add-mod'}
use native.Mathlib.Omega.{arith}
use lib.Dec.{eqb}
use lib.ListN.{length, take, drop, length-take, length-append, length-map}
use lib.Seq.{length-take-le, take-add, take_all}
use Rattle.buffers.proofs.Blocks.{blocks_long}
use Rattle.counting.proofs.Sum.{sum_ext}
use Rattle.refusals.specs.Tests.{any_from}
use Rattle.refusals.proofs.Tests.{any_less}
use Rattle.table.specs.Balanced.{count_of}
use Rattle.table.proofs.Counts.{count_within}
use Rattle.table.proofs.Often.{counts_sum, count_past}
use Rattle.field.specs.Printed.{printed}
use Rattle.field.proofs.Printing.{printed_long}
use Rattle.lookup.specs.Entry.{entry, kind_of, value_of, kind_limit}
use Rattle.log_page.specs.Page.{entry_columns, side_by_side, blanks, rising, lines_needed, often, page_of}
use Rattle.log_page.specs.Reading.{text_lines, ended, entry_text, Blank, showing, entries_read}
use Rattle.log_page.specs.Reading.{figure, figures_read, shown_from, number_of, log_shown, has_number, times_shown}
use Rattle.log_page.specs.Reading.{kind_figure, every_kind, figures_of}
use Rattle.log_page.specs.Promises.{LinesEnded, FiveALine, HasRoom, EntriesShown, LogBack, FiguresRight, FiguresAddUp}
use Rattle.log_page.proofs.Rising.{rising_blocks, rising_past, rising_map, rising_same}
use Rattle.log_page.proofs.Blanks.{blanks_long}
use Rattle.log_page.proofs.SideBySide.{side_long}
use Rattle.log_page.proofs.Splitting.{whole_split}
use Rattle.log_page.proofs.ReadBack.{cell_back, cell_blank, text_shown, figure_back}
use Rattle.log_page.proofs.PageLines.{five, entry_body, figure_body, kind_bodies, below_bodies, page_whole, body_wide, parts}

pub lines_ended : LinesEnded
unfolding LinesEnded
lines_ended log = ap ended (whole_split (page_whole log)) ∙ (page_whole log).joined

pub five_a_line : FiveALine
unfolding FiveALine
five_a_line log =
    ap length ((parts log).0 ∙ rising_blocks (entry_body log) (lines_needed (length log)))
    ∙ blocks_long 80 (entry_body log) (lines_needed (length log)) (λ k h. body_wide log k) ∙ omega arith

-- ENTRIES
side_both : (position : ℕ) (xs ys : List ℕ) → side_by_side position (xs ++ ys) ≡ side_by_side position xs ++ side_by_side (position + length xs) ys
unfolding side_by_side
side_both position [] ys = rw (add-zero position)
side_both position (x ∷ xs) ys =
    let one_on : position + 1 + length xs ≡ position + suc (length xs) = omega arith in
    rw (side_both (position + 1) xs ys, one_on) (sym (append_assoc (entry_columns position x) (side_by_side (position + 1) xs) _))

-- the lines so far, side by side, are the entries so far, and spaces behind them where the last line is short
entry_lines : (log : List ℕ) (k : ℕ) → 5 * k ≤ length log + 4
    → rising k (entry_body log) ≡ side_by_side 0 (take (5 * k) log) ++ blanks (80 * k - 16 * length (take (5 * k) log))
unfolding rising side_by_side entry_body five
entry_lines log zero h = refl
entry_lines log (suc k) h =
    let now = take (5 * k) log in
    let next = take 5 (drop (5 * k) log) in
    let more_of : 5 * suc k ≡ 5 * k + 5 = omega arith in
    let passed : length now ≡ 5 * k = length-take-le (5 * k) log (omega arith) in
    let full : 80 * k - 16 * length now ≡ 0 = omega arith in
    let both : take (5 * suc k) log ≡ now ++ next = rw more_of (take-add (5 * k) 5 log) in
    let sides : side_by_side 0 (now ++ next) ≡ side_by_side 0 now ++ side_by_side (5 * k) next
    = side_both 0 now next ∙ rw (passed, zero-add) in
    let long = length-append now next in
    let gap : 80 - length (side_by_side (5 * k) next) ≡ 80 * suc k - 16 * length (now ++ next)
    = omega (arith, side_long (5 * k) next, length-take 5 (drop (5 * k) log)) in
    rw (entry_lines log k (omega arith), full, both, sides, gap)
    (rw (append-nil (side_by_side 0 now)) (sym (append_assoc (side_by_side 0 now) (side_by_side (5 * k) next) _)))

pub entries_shown : EntriesShown
unfolding EntriesShown entries_read
entries_shown log room =
    let lines = lines_needed (length log) in
    let whole : take (5 * lines) log ≡ log = take_all (5 * lines) log (omega arith) in
    let gap = 80 * lines - 16 * length log in
    let text : entry_text (text_lines (page_of log)) ≡ side_by_side 0 log ++ blanks gap
    = (parts log).0 ∙ rw whole at (entry_lines log lines (omega arith)) in
    let long = length-append (side_by_side 0 log) (blanks gap) in
    rw text (text_shown (length (side_by_side 0 log ++ blanks gap)) 0 log gap (omega (arith, long, side_long 0 log))
    (omega (arith, room.few)) room.known)

entry_back : (position : ℕ) (log : List ℕ) → log_shown (shown_from position log) ≡ log
unfolding log_shown shown_from number_of entry kind_of value_of
entry_back position [] = refl
entry_back position (e ∷ es) = rw (div-add-mod' e 65536) (ap (λ l. e ∷ l) (entry_back (position + 1) es))

pub log_back : LogBack
unfolding LogBack EntriesShown
log_back log room = rw (entries_shown log room) (entry_back 0 log)

-- FIGURES
times_often : (kind position : ℕ) (log : List ℕ) → times_shown kind (shown_from position log) ≡ often kind log
unfolding times_shown shown_from has_number often count_of
times_often kind position [] = refl
times_often kind position (e ∷ es) = ap (λ n. cond (eqb (kind_of e) kind) 1 0 + n) (times_often kind (position + 1) es)

often_few : (kind : ℕ) (log : List ℕ) → often kind log ≤ length log
unfolding often
often_few kind log = omega (arith, count_within kind (map kind_of log), length-map log kind_of)

shown_long : (position : ℕ) (log : List ℕ) → length (shown_from position log) ≡ length log
unfolding shown_from
shown_long position [] = refl
shown_long position (e ∷ es) = ap suc (shown_long (position + 1) es)

-- the lines of a kind and of the total are read back
kind_back : (kind times : ℕ) → kind < 10 ^ 6 → times < 10 ^ 10 → map figure (kind_bodies kind times) ≡ kind_figure kind times
unfolding kind_bodies kind_figure figure_body
kind_back kind zero h k = refl
kind_back kind (suc t) h k = rw (figure_back (printed 6 kind) (suc t) (printed_long 6 kind) k, cell_back 5 kind h)

total_back : (total : ℕ) → total < 10 ^ 10 → figure (figure_body (blanks 6) total) ≡ record { kind = Blank; times = showing total }
unfolding figure_body
total_back total h = figure_back (blanks 6) total (blanks_long 6) h ∙ rw (cell_blank 6 6)

module _ (log : List ℕ) (room : HasRoom log) where
  -- a kind from the limit on has no figure
  no_figure : (kind : ℕ) → kind_limit ≤ kind → kind_figure kind (often kind log) ≡ []
  unfolding kind_figure often
  no_figure kind h = rw (count_past kind_limit (map kind_of log) room.known kind h)

  kinds_back : map figure (rising kind_limit (λ kind. kind_bodies kind (often kind log)))
      ≡ rising every_kind (λ kind. kind_figure kind (often kind log))
  kinds_back =
      let enough : every_kind ≡ kind_limit + 9970 = refl in
      rising_map figure (λ kind. kind_bodies kind (often kind log)) kind_limit
      ∙ rising_same _ (λ kind. kind_figure kind (often kind log)) kind_limit
      (λ kind h. kind_back kind (often kind log) (omega arith) (omega (arith, room.few, often_few kind log)))
      ∙ sym (rw enough (rising_past kind_limit (λ kind. kind_figure kind (often kind log)) no_figure 9970))

  figures_are : figures_read (text_lines (page_of log)) ≡ figures_of (shown_from 0 log)
  unfolding figures_read figures_of below_bodies
  figures_are =
      ap (map figure) (parts log).1
      ∙ map-append figure (rising kind_limit (λ kind. kind_bodies kind (often kind log))) (figure_body (blanks 6) (length log) ∷ [])
      ∙ rw (kinds_back, total_back (length log) (omega (arith, room.few)), shown_long 0 log)
      (ap (λ l. l ++ (record { kind = Blank; times = showing (length log) } ∷ []))
      (rising_same _ _ every_kind (λ kind h. ap (kind_figure kind) (sym (times_often kind 0 log)))))

pub figures_right : FiguresRight
unfolding FiguresRight EntriesShown
figures_right log room = rw (entries_shown log room) (figures_are log room)

pub figures_add_up : FiguresAddUp
unfolding FiguresAddUp EntriesShown often
figures_add_up log room =
    let known : any_from every_kind (map kind_of log) ≡ false = all_known (any_from every_kind (map kind_of log)) refl in
    rw (entries_shown log room)
    (sum_ext every_kind (λ kind h. times_often kind 0 log) ∙ counts_sum every_kind (map kind_of log) known ∙ length-map log kind_of
    ∙ sym (shown_long 0 log))
  where
    all_known : (t : Bool) → any_from every_kind (map kind_of log) ≡ t → t ≡ false
    all_known false e = refl
    all_known true e = absurd (true≢false (sym (any_less every_kind kind_limit (map kind_of log) (omega arith) e) ∙ room.known))
