-- How the kinds of a log are counted, and how their lines are printed.
use mathlib.Core.Path.{◌≡◌, refl, sym, ap, ◌∙◌}
use mathlib.Core.Bool.{false}
use mathlib.Core.List.{List, [], ◌∷◌, ◌++◌, map}
use Prim.Native.Nat.{ℕ, zero, suc, ◌+◌, ◌*◌, ◌≤◌, ◌<◌}
use native.Mathlib.Nat.{add_assoc, add-zero, zero-add}
use native.Mathlib.Numerals.{add-one}
use native.Mathlib.Omega.{arith}
use mir.Syntax.{w32}
use mir.Val.{Fits}
use lib.ListN.{length, get_or, set, drop, replicate, length-append, length-map, length-set, length-replicate, get_or-replicate, drop_of_length-le}
use lib.Seq.{drop-cons}
use Rattle.buffers.specs.Written.{written}
use Rattle.buffers.proofs.Written.{written_none, written_more, written_long}
use Rattle.refusals.specs.Tests.{any_from}
use Rattle.table.specs.Balanced.{at, count_of}
use Rattle.table.proofs.Balanced.{at_below}
use Rattle.table.proofs.Counts.{one_more, count_within}
use Rattle.table.proofs.Often.{count_past}
use Rattle.field.specs.Printed.{printed}
use Rattle.field.proofs.Printing.{printed_long}
use Rattle.lookup.specs.Entry.{kind_of, kind_limit}
use Rattle.lookup.proofs.Layouts.{at_map}
use Rattle.log_print.specs.Lines.{line_of}
use Rattle.log_print.proofs.Lines.{line_long}
use Rattle.log_page.specs.Page.{rising, often, blanks, kind_line, kind_lines, total_line, KindsCounted}
use Rattle.log_page.proofs.Blanks.{blanks_long}
use Rattle.log_page.proofs.Rising.{rising_more, rising_most}

-- COUNTS
kind_at : (log : List ℕ) (i : ℕ) → get_or (map kind_of log) i 0 ≡ kind_of (get_or log i 0)
unfolding at kind_of
kind_at log i = at_map kind_of 0 refl log i

-- a kind of the log is below the limit
pub kind_known : (log : List ℕ) (i kind : ℕ) → any_from kind_limit (map kind_of log) ≡ false → kind ≡ kind_of (get_or log i 0) → kind < 30
unfolding at
kind_known log i kind known e =
    let below : get_or (map kind_of log) i 0 < 30 = at_below kind_limit (map kind_of log) (omega arith) known i in
    omega (arith, kind_at log i)

-- the first i entries are counted, and the others still to be
pub record Counting (log counts : List ℕ) (i : ℕ) : Type 0 where
  pub long : length counts ≡ 30
  pub counted : (k : ℕ) → k < 30 → at counts k + count_of k (drop i (map kind_of log)) ≡ count_of k (map kind_of log)

pub counting_begins : (log counts : List ℕ) → counts ≡ replicate 30 0 → Counting log counts 0
unfolding at
counting_begins log counts e = rw e (record {
  long = length-replicate {A = ℕ} 30 0;
  counted = λ k h. rw (get_or-replicate {A = ℕ} 30 k 0 0 h) (zero-add _);
})

module _ (log counts : List ℕ) (i : ℕ) (s : Counting log counts i) where
  rest : i < length log → drop i (map kind_of log) ≡ kind_of (get_or log i 0) ∷ drop (suc i) (map kind_of log)
  rest h = drop-cons (map kind_of log) i 0 (rw (length-map log kind_of) h) ∙ rw (kind_at log i)

  module _ (kind : ℕ) (known : any_from kind_limit (map kind_of log) ≡ false) (e : kind ≡ kind_of (get_or log i 0)) where
    counter_there : kind < length counts
    counter_there = omega (arith, s.long, kind_known log i kind known e)

    pub counter_fits : i < length log → length log ≤ 2400 → Fits w32 (get_or counts kind 0 + 1)
    unfolding at
    counter_fits h few =
        record {
          fits =
              omega (
                arith,
                s.counted kind (kind_known log i kind known e),
                count_within kind (map kind_of log),
                length-map log kind_of,
              );
        }

    pub counting_turns : i < length log → Counting log (set counts kind (get_or counts kind 0 + 1)) (i + 1)
    unfolding count_of
    counting_turns h =
        rw (add-one i)
        (record {
          long = length-set counts _ _ ∙ s.long;
          counted =
              λ k l. rw (one_more counts kind k counter_there) (add_assoc _ _ _ ∙ (rw (rest h, ← e) at (s.counted k l)));
        })

  pub counting_ends : length log ≤ i → KindsCounted log counts
  unfolding often count_of at
  counting_ends h =
      record {
        counted =
            λ k l. sym (add-zero _) ∙ (rw (drop_of_length-le (map kind_of log) {i = i} (omega (arith, length-map log kind_of))) at (s.counted k l));
      }

-- LINES OF 16 COLUMNS
-- six columns, and a number in ten
figure_left : (before first second head : List ℕ) (at number : ℕ) → length head ≡ 6 → at + 17 ≤ length before
    → first ≡ written before at head → second ≡ written first (at + 6) (line_of 10 (number ∷ []))
    → second ≡ written before at (head ++ line_of 10 (number ∷ []))
figure_left before first second head at number six room e f =
    f ∙ rw e (written_more before at (at + 6) head _ (omega arith) (omega (arith, line_long 10 (number ∷ []))))

figure_long : (head : List ℕ) (number : ℕ) → length head ≡ 6 → length (head ++ line_of 10 (number ∷ [])) ≡ 17
figure_long head number six = length-append head _ ∙ omega (arith, line_long 10 (number ∷ []))

pub total_left : (before first second : List ℕ) (at total : ℕ) → at + 17 ≤ length before → first ≡ written before at (blanks 6)
    → second ≡ written first (at + 6) (line_of 10 (total ∷ [])) → second ≡ written before at (total_line total)
unfolding total_line
total_left before first second at total room e f = figure_left before first second (blanks 6) at total (blanks_long 6) room e f

pub total_long : (total : ℕ) → length (total_line total) ≡ 17
unfolding total_line
total_long total = figure_long (blanks 6) total (blanks_long 6)

-- a kind that does not occur has no line
pub none_long : (at kind times : ℕ) → times ≡ 0 → at ≡ at + length (kind_line kind times)
unfolding kind_line
none_long at kind times z = rw z (sym (add-zero at))

pub none_left : (before : List ℕ) (at kind times : ℕ) → times ≡ 0 → before ≡ written before at (kind_line kind times)
unfolding kind_line
none_left before at kind times z = rw z (sym (written_none before at))

pub kind_long : (at kind times : ℕ) → (times ≡ 0 → ⊥) → at + 17 ≡ at + length (kind_line kind times)
unfolding kind_line
kind_long at kind zero h = absurd (h refl)
kind_long at kind (suc k) h = ap (λ n. at + n) (sym (figure_long (printed 6 kind) (suc k) (printed_long 6 kind)))

pub kind_left : (before first second : List ℕ) (at kind times : ℕ) → (times ≡ 0 → ⊥) → at + 17 ≤ length before
    → first ≡ written before at (printed 6 kind) → second ≡ written first (at + 6) (line_of 10 (times ∷ []))
    → second ≡ written before at (kind_line kind times)
unfolding kind_line
kind_left before first second at kind zero h room e f = absurd (h refl)
kind_left before first second at kind (suc k) h room e f =
    figure_left before first second (printed 6 kind) at (suc k) (printed_long 6 kind) room e f

pub kind_most : (kind times : ℕ) → length (kind_line kind times) ≤ 17
unfolding kind_line
kind_most kind zero = omega arith
kind_most kind (suc k) = omega (arith, figure_long (printed 6 kind) (suc k) (printed_long 6 kind))

-- one more kind
kinds_more : (k : ℕ) (log : List ℕ) → kind_lines (suc k) log ≡ kind_lines k log ++ kind_line k (often k log)
unfolding kind_lines
kinds_more k log = rising_more (λ kind. kind_line kind (often kind log)) k

pub kinds_most : (k : ℕ) (log : List ℕ) → length (kind_lines k log) ≤ k * 17
unfolding kind_lines
kinds_most k log = rising_most 17 (λ kind. kind_line kind (often kind log)) (λ kind. kind_most kind (often kind log)) k

-- a kind from a limit on that no kind reaches has no line
pub no_line : (limit : ℕ) (log : List ℕ) → any_from limit (map kind_of log) ≡ false → (kind : ℕ) → limit ≤ kind
    → kind_line kind (often kind log) ≡ []
unfolding kind_line often
no_line limit log known kind h = rw (count_past limit (map kind_of log) known kind h)

-- the lines of the first kinds are printed, up to a position
pub record Listing (at : ℕ) (log before now : List ℕ) (next kind : ℕ) : Type 0 where
  pub listed : now ≡ written before at (kind_lines kind log)
  pub place : next ≡ at + length (kind_lines kind log)
  pub within : kind ≤ 30
  pub long : length now ≡ length before

module _ (at : ℕ) (log before : List ℕ) where
  pub listing_begins : Listing at log before before at 0
  unfolding kind_lines rising
  listing_begins = record { listed = sym (written_none before at); place = sym (add-zero at); within = omega arith; long = refl }

  module _ (now : List ℕ) (next kind : ℕ) (room : at + 510 ≤ length before) (s : Listing at log before now next kind) where
    pub listing_room : kind < 30 → next + 17 ≤ length now
    listing_room h = omega (arith, s.long, s.place, kinds_most kind log)

    pub listing_turns : (counts after : List ℕ) (end : ℕ) → KindsCounted log counts → kind < 30
        → end ≡ next + length (kind_line kind (get_or counts kind 0)) → after ≡ written now next (kind_line kind (get_or counts kind 0))
        → Listing at log before after end (kind + 1)
    listing_turns counts after end c h e f =
        let same = c.counted kind h in
        let line = kind_line kind (often kind log) in
        let most = kind_most kind (often kind log) in
        let end_is : end ≡ next + length line = e ∙ rw same in
        rw (add-one kind)
        (record {
          listed =
              f ∙ rw (same, s.listed, kinds_more kind log)
              (written_more before at next (kind_lines kind log) line (sym s.place) (omega (arith, s.place, kinds_most kind log)));
          place = rw (kinds_more kind log) (omega (arith, s.place, length-append (kind_lines kind log) line));
          within = omega arith;
          long =
              ap length f ∙ written_long now next _ (rw same (omega (arith, s.long, s.place, kinds_most kind log))) ∙ s.long;
        })
