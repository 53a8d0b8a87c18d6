-- What a sheet is, as the code reads it, and what is known of one that was read.
use mathlib.Core.Path.{◌≡◌, refl, sym, ap, ap₂, ◌∙◌}
use mathlib.Core.Bool.{Bool, true, false, ◌&&◌, cond, and-eq-true_iff}
use mathlib.Core.List.{List, [], append-nil}
use Prim.Native.Nat.{ℕ, zero, suc, ◌+◌, ◌*◌, ◌-◌, ◌≤◌, ◌<◌}
use native.Mathlib.Omega.{arith}
use borrow.Author.Tests.{eqb-true, leb-true}
use lib.Dec.{eqb, leb}
use lib.ListN.{length, take, drop, replicate, length-drop, length-take, drop_of_length-le, get_or-eq_default}
use lib.Seq.{take_all, take_at}
use Rattle.buffers.specs.Written.{in_front}
use Rattle.std.specs.Prelude.{Option, Some, None}
use Rattle.case_sheet.specs.declared.Edition.{Edition}
use Rattle.case_sheet.specs.declared.Sheet.{Sheet}
use Rattle.lookup.specs.declared.Case.{Case}
use Rattle.case_sheet.specs.Sheet.{item, before, leading, numbers_of, table_of, complete, well_formed, lines_of}
use Rattle.case_sheet.specs.Edition.{six_columns}
use Rattle.case_sheet.specs.Sheet.{case_read, sheet_of}

before_most : (found : Option ℕ) (values : List ℕ) (k : ℕ) → length values ≤ k → length (before found values) ≤ suc k
unfolding before
before_most (Some v) values k h = omega arith
before_most None values k h = omega arith

-- no more numbers are found than there is room for
pub leading_most : (edition : Edition) (line : Bool) (at_most : ℕ) (bytes : List ℕ) → length (leading edition line at_most bytes) ≤ at_most
unfolding leading
leading_most edition line zero bytes = omega arith
leading_most edition line (suc k) bytes = before_most (item edition line bytes) _ k (leading_most edition line k _)

no_lines : (edition : Edition) → leading edition true 256 [] ≡ []
unfolding leading before item
no_lines edition = refl

module _ (edition : Edition) (fields : ℕ) (input : List ℕ) where
  -- INPUT WITHOUT A CASE LINE
  pub short_other : length input < edition.columns * fields + 1 → well_formed edition fields input ≡ false
  unfolding well_formed complete
  short_other h =
      rw (get_or-eq_default input 0 {n = edition.columns * fields} (omega arith))
      (short_other_by_cases (eqb (length (numbers_of edition fields input)) fields))
    where
      short_other_by_cases : (t : Bool)
          → (t && false && eqb (edition.columns * fields + 1 + (edition.columns + 1) * length (table_of edition fields input))
          (length input)) ≡ false
      short_other_by_cases true = refl
      short_other_by_cases false = refl

  pub short_refused : length input < edition.columns * fields + 1 → None ≡ lines_of edition fields input
  unfolding lines_of
  short_refused h = rw (short_other h)

  pub short_table : (table : List ℕ) → length input < edition.columns * fields + 1 → table ≡ in_front (table_of edition fields input) table
  unfolding in_front table_of
  short_table table h = rw (drop_of_length-le input {i = edition.columns * fields + 1} (omega arith), no_lines)

  -- INPUT WITH A CASE LINE
  pub numbers_left : (numbers now : List ℕ) → now ≡ in_front (leading edition false fields input) numbers
      → now ≡ in_front (numbers_of edition fields input) numbers
  unfolding numbers_of
  numbers_left numbers now e = e

  -- the table's lines, as the code lends them
  rest_table : leading edition true 256 (take (length input - (edition.columns * fields + 1)) (drop (edition.columns * fields + 1) input))
      ≡ table_of edition fields input
  unfolding table_of
  rest_table =
      ap (leading edition true 256)
      (take_all (length input - (edition.columns * fields + 1)) (drop (edition.columns * fields + 1) input)
      (omega (arith, length-drop (edition.columns * fields + 1) input)))

  pub table_left : (table now : List ℕ) → length table ≡ 256
      → now ≡ in_front
      (leading edition true (length table) (take (length input - (edition.columns * fields + 1)) (drop (edition.columns * fields + 1) input)))
      table
      → now ≡ in_front (table_of edition fields input) table
  table_left table now l e = e ∙ rw l (ap (λ es. in_front es table) rest_table)

  module _ (t : Bool) (numbers entries room : ℕ) (l : room ≡ 256) (f : numbers ≡ length (leading edition false fields input))
      (e : entries
      ≡ length (leading edition true room (take (length input - (edition.columns * fields + 1)) (drop (edition.columns * fields + 1) input))))
      (c : t ≡ complete edition fields numbers entries input) where
    same_entries : entries ≡ length (table_of edition fields input)
    same_entries = e ∙ rw l (ap length rest_table)

    told : well_formed edition fields input ≡ t
    unfolding well_formed numbers_of
    told = sym (c ∙ ap₂ (λ a b. complete edition fields a b input) f same_entries)

    pub other_refused : t ≡ false → None ≡ lines_of edition fields input
    unfolding lines_of
    other_refused n = rw (told ∙ n)

    pub lines_taken : t ≡ true → Some entries ≡ lines_of edition fields input
    unfolding lines_of
    lines_taken n = rw (told ∙ n, same_entries)

  -- A SHEET THAT WAS READ
  pub every_number : well_formed edition fields input ≡ true → length (numbers_of edition fields input) ≡ fields
  unfolding well_formed complete
  every_number e = eqb-true _ fields ((and-eq-true_iff _ _).0 ((and-eq-true_iff _ _).0 e).0).0

  -- as many numbers leave nothing of what stood there
  pub numbers_read : (old now : List ℕ) → length old ≡ fields → well_formed edition fields input ≡ true
      → now ≡ in_front (numbers_of edition fields input) old → now ≡ numbers_of edition fields input
  unfolding in_front
  numbers_read old now l w e =
      let none : drop (length (numbers_of edition fields input)) old ≡ []
      = drop_of_length-le old {i = length (numbers_of edition fields input)} (omega (arith, every_number w)) in
      e ∙ rw none (append-nil (numbers_of edition fields input))

  module _ (s : Option ℕ) (told : s ≡ lines_of edition fields input) where
    pub read_malformed : s ≡ None → well_formed edition fields input ≡ false
    unfolding lines_of
    read_malformed m = read_malformed_by_cases (well_formed edition fields input) (sym told ∙ m)
      where
        read_malformed_by_cases : (t : Bool) → cond t (Some (length (table_of edition fields input))) None ≡ None → t ≡ false
        read_malformed_by_cases false e = refl
        read_malformed_by_cases true e = let z : ◌≡◌ {A = ℕ} 0 1 = cc in absurd (omega arith)

    pub read_formed : {entries : ℕ} → s ≡ Some entries
        → (well_formed edition fields input ≡ true) × (entries ≡ length (table_of edition fields input))
    unfolding lines_of
    read_formed {entries} m = read_formed_by_cases (well_formed edition fields input) (sym told ∙ m)
      where
        read_formed_by_cases : (t : Bool) → cond t (Some (length (table_of edition fields input))) None ≡ Some entries
            → (t ≡ true) × (entries ≡ length (table_of edition fields input))
        read_formed_by_cases true e = (refl, cc)
        read_formed_by_cases false e = let z : ◌≡◌ {A = ℕ} 0 1 = cc in absurd (omega arith)

  -- the table's entries in front of the table
  module _ (old table : List ℕ) (left : table ≡ in_front (table_of edition fields input) old) (entries : ℕ)
      (told : entries ≡ length (table_of edition fields input)) where
    pub table_lent : take entries table ≡ table_of edition fields input
    unfolding in_front
    table_lent = rw (told, left) (take_at (table_of edition fields input) _ _ refl)

    pub entries_lent : entries ≡ length (take entries table)
    entries_lent = told ∙ sym (ap length table_lent)

    pub entries_few : entries ≤ 256
    unfolding table_of
    entries_few = rw told (leading_most edition true 256 _)

    pub entries_within : entries ≤ length table
    entries_within = omega (arith, entries_lent, length-take entries table)

pub few_entries : (edition : Edition) (rest : List ℕ) (room entries : ℕ) → room ≡ 256 → entries ≡ length (leading edition true room rest)
    → entries ≤ 256
few_entries edition rest room entries l e = omega (arith, leading_most edition true room rest)

-- the columns of an edition that a call handed back are few
pub few_columns : (edition named : Edition) (most : ℕ) → edition ≡ named → leb named.columns most ≡ true → edition.columns ≤ most
few_columns edition named most e h = rw e (leb-true _ _ h)

pub some_columns : (edition named : Edition) → edition ≡ named → leb 1 named.columns ≡ true → 0 < edition.columns
some_columns edition named e h = rw e (leb-true _ _ h)

-- THE BENCH'S SHEET
module _ (edition : Edition) (told : edition ≡ six_columns) where
  module _ (s : Option ℕ) (input : List ℕ) (lines : s ≡ lines_of edition 10 input) where
    six_lines : s ≡ lines_of six_columns 10 input
    six_lines = lines ∙ rw told

    pub sheet_refused : s ≡ None → None ≡ sheet_of input
    unfolding sheet_of
    sheet_refused m = rw (read_malformed six_columns 10 input s six_lines m)

    pub sheet_taken : (numbers : List ℕ) (case : Case) (entries : ℕ) → numbers ≡ in_front (numbers_of edition 10 input) (replicate 10 0)
        → case ≡ case_read numbers → s ≡ Some entries → Some (record { case = case; entries = entries }) ≡ sheet_of input
    unfolding sheet_of
    sheet_taken numbers case entries left e m =
        let known = read_formed six_columns 10 input s six_lines m in
        rw (e, known.0, known.1, numbers_read six_columns 10 input (replicate 10 0) numbers refl known.0 (left ∙ rw told))

-- what is known of the bench's sheet where there is one, and where there is none
module _ {r : Option Sheet} (input : List ℕ) (told : r ≡ sheet_of input) where
  sheet_there : Sheet
  sheet_there = record { case = case_read (numbers_of six_columns 10 input); entries = length (table_of six_columns 10 input) }

  pub sheet_missing : r ≡ None → well_formed six_columns 10 input ≡ false
  unfolding sheet_of sheet_there
  sheet_missing none = sheet_missing_by_cases (well_formed six_columns 10 input) (sym told ∙ none)
    where
      sheet_missing_by_cases : (t : Bool) → cond t (Some sheet_there) None ≡ None → t ≡ false
      sheet_missing_by_cases false e = refl
      sheet_missing_by_cases true e = let z : ◌≡◌ {A = ℕ} 0 1 = cc in absurd (omega arith)

  pub sheet_parts : (s : Sheet) → r ≡ Some s
      → (well_formed six_columns 10 input ≡ true)
      × (s.case ≡ case_read (numbers_of six_columns 10 input))
      × (s.entries ≡ length (table_of six_columns 10 input))
  unfolding sheet_of sheet_there
  sheet_parts s is = sheet_parts_by_cases (well_formed six_columns 10 input) (sym told ∙ is)
    where
      sheet_parts_by_cases : (t : Bool) → cond t (Some sheet_there) None ≡ Some s
          → (t ≡ true) × (s.case ≡ case_read (numbers_of six_columns 10 input)) × (s.entries ≡ length (table_of six_columns 10 input))
      sheet_parts_by_cases false e = let z : ◌≡◌ {A = ℕ} 0 1 = cc in absurd (omega arith)
      sheet_parts_by_cases true e =
          let same : s ≡ sheet_there = cc in
          (refl, ap (λ x. x.case) same, ap (λ x. x.entries) same)
