-- A sheet is the lines of its numbers, and of its lines these numbers are read.
use mathlib.Core.Path.{◌≡◌, refl, sym, ap, ap₂, ◌∙◌}
use mathlib.Core.Bool.{Bool, true, false, not, cond, true≢false, and-eq-true_iff}
use mathlib.Core.List.{List, [], ◌∷◌, ◌++◌, append_assoc}
use Prim.Native.Nat.{ℕ, zero, suc, ◌+◌, ◌*◌, ◌≤◌}
use native.Mathlib.Nat.{mul-zero, mul-suc, mul_comm, add_comm}
use native.Mathlib.Numerals.{add-one}
use native.Mathlib.Omega.{arith}
use borrow.Author.Tests.{eq-eqb, eqb-true}
use lib.Dec.{eqb}
use lib.ListN.{length, get_or, take, drop, length-append, length-drop, take-append-drop}
use lib.Seq.{take-add, take_all, take-suc, take_at, drop_at, get_or_at, get_or-append-add}
use Rattle.refusals.specs.Tests.{any_from}
use Rattle.refusals.proofs.Tests.{all_below}
use Rattle.std.specs.Prelude.{Option, Some, None}
use Rattle.field.specs.Field.{field_of}
use Rattle.field.specs.Printed.{printed}
use Rattle.field.specs.Promises.{ReadBack, WrittenOnce}
use Rattle.field.proofs.Printing.{printed_long}
use Rattle.field.proofs.Promises.{read_back}
use Rattle.field.proofs.Once.{written_once}
use Rattle.case_sheet.specs.declared.Edition.{Edition}
use Rattle.case_sheet.specs.Sheet.{item, size, before, leading, numbers_of, table_of, complete, well_formed}
use Rattle.case_sheet.proofs.Items.{feed_there}
use Rattle.log_print.specs.Lines.{line_of, column_of}
use Rattle.log_print.proofs.Lines.{line_long}
use Rattle.log_print.proofs.Columns.{column_long}
use Rattle.conversion.specs.Conversion.{sheet_lines}
use Rattle.conversion.specs.Promises.{Legible}

-- A SHEET IS ITS LINES
module _ (edition : Edition) where
  -- a field that was read is what is printed of its number
  item_printed : (line : Bool) (bytes : List ℕ) (value : ℕ) → item edition line bytes ≡ Some value
      → (printed edition.columns value ≡ take edition.columns bytes) × (line ≡ true → get_or bytes edition.columns 0 ≡ 10)
  unfolding item WrittenOnce
  item_printed false bytes value e =
      (written_once edition.columns edition.most value (take edition.columns bytes) e, λ h. absurd (true≢false (sym h)))
  item_printed true bytes value e = item_printed_by_cases (eqb (get_or bytes edition.columns 0) 10) refl e
    where
      item_printed_by_cases : (t : Bool) → eqb (get_or bytes edition.columns 0) 10 ≡ t
          → cond (not t) None (field_of edition.columns edition.most (take edition.columns bytes)) ≡ Some value
          → (printed edition.columns value ≡ take edition.columns bytes) × (true ≡ true → get_or bytes edition.columns 0 ≡ 10)
      item_printed_by_cases false q e = let z : ◌≡◌ {A = ℕ} 0 1 = cc in absurd (omega arith)
      item_printed_by_cases true q e =
          (written_once edition.columns edition.most value (take edition.columns bytes) e, λ h. eqb-true _ _ q)

  -- so many fields
  fields_written : (k : ℕ) (bytes : List ℕ) → length (leading edition false k bytes) ≡ k
      → line_of edition.columns (leading edition false k bytes) ≡ take (edition.columns * k) bytes ++ (10 ∷ [])
  unfolding leading before size line_of
  fields_written zero bytes e = rw (mul-zero edition.columns)
  fields_written (suc k) bytes e = fields_by_cases (item edition false bytes) refl e (fields_written k (drop edition.columns bytes))
    where
      fields_by_cases : (found : Option ℕ) → item edition false bytes ≡ found
          → length (before found (leading edition false k (drop edition.columns bytes))) ≡ suc k
          → (length (leading edition false k (drop edition.columns bytes)) ≡ k
          → line_of edition.columns (leading edition false k (drop edition.columns bytes))
          ≡ take (edition.columns * k) (drop edition.columns bytes) ++ (10 ∷ []))
          → line_of edition.columns (before found (leading edition false k (drop edition.columns bytes)))
          ≡ take (edition.columns * suc k) bytes ++ (10 ∷ [])
      fields_by_cases None q e more = absurd (omega arith)
      fields_by_cases (Some value) q e more =
          let columns : edition.columns * suc k ≡ edition.columns + edition.columns * k = mul-suc edition.columns k ∙ add_comm _ _ in
          rw (columns, take-add edition.columns (edition.columns * k) bytes, append_assoc)
          (ap₂ ◌++◌ (item_printed false bytes value q).0 (more (omega arith)))

  -- the lines of a table
  line_written : (bytes : List ℕ) (value : ℕ) → item edition true bytes ≡ Some value
      → line_of edition.columns (value ∷ []) ≡ take (edition.columns + 1) bytes
  unfolding line_of
  line_written bytes value e =
      let both = item_printed true bytes value e in
      let feed = both.1 refl in
      let there : take (edition.columns + 1) bytes ≡ take edition.columns bytes ++ (get_or bytes edition.columns 0 ∷ [])
      = rw add-one (take-suc bytes edition.columns 0 (feed_there bytes edition.columns feed)) in
      rw both.0 (sym (there ∙ rw feed))

  lines_written : (k : ℕ) (bytes : List ℕ)
      → column_of edition.columns (leading edition true k bytes)
      ≡ take ((edition.columns + 1) * length (leading edition true k bytes)) bytes
  unfolding leading before size column_of
  lines_written zero bytes = rw (mul-zero (edition.columns + 1))
  lines_written (suc k) bytes = lines_by_cases (item edition true bytes) refl (lines_written k (drop (edition.columns + 1) bytes))
    where
      lines_by_cases : (found : Option ℕ) → item edition true bytes ≡ found
          → column_of edition.columns (leading edition true k (drop (edition.columns + 1) bytes))
          ≡ take ((edition.columns + 1) * length (leading edition true k (drop (edition.columns + 1) bytes)))
          (drop (edition.columns + 1) bytes)
          → column_of edition.columns (before found (leading edition true k (drop (edition.columns + 1) bytes)))
          ≡ take ((edition.columns + 1) * length (before found (leading edition true k (drop (edition.columns + 1) bytes)))) bytes
      lines_by_cases None q more = rw (mul-zero (edition.columns + 1))
      lines_by_cases (Some value) q more =
          let rest = leading edition true k (drop (edition.columns + 1) bytes) in
          let sizes : (edition.columns + 1) * suc (length rest) ≡ edition.columns + 1 + (edition.columns + 1) * length rest
          = mul-suc (edition.columns + 1) (length rest) ∙ add_comm _ _ in
          rw (sizes, take-add (edition.columns + 1) ((edition.columns + 1) * length rest) bytes) (ap₂ ◌++◌ (line_written bytes value q) more)

  pub sheet_is_lines : (fields : ℕ) (input : List ℕ) → well_formed edition fields input ≡ true
      → sheet_lines edition.columns (numbers_of edition fields input) (table_of edition fields input) ≡ input
  unfolding well_formed complete numbers_of table_of sheet_lines
  sheet_is_lines fields input w =
      let end = edition.columns * fields in
      let entries = length (leading edition true 256 (drop (end + 1) input)) in
      let parts = (and-eq-true_iff _ _).0 w in
      let front = (and-eq-true_iff _ _).0 parts.0 in
      let count : length (leading edition false fields input) ≡ fields = eqb-true _ _ front.0 in
      let feed : get_or input end 0 ≡ 10 = eqb-true _ _ front.1 in
      let long : end + 1 + (edition.columns + 1) * entries ≡ length input = eqb-true _ _ parts.1 in
      let ended : take (end + 1) input ≡ take end input ++ (get_or input end 0 ∷ [])
      = rw add-one (take-suc input end 0 (feed_there input end feed)) in
      let case_line : take (end + 1) input ≡ take end input ++ (10 ∷ []) = ended ∙ rw feed in
      let all : take ((edition.columns + 1) * entries) (drop (end + 1) input) ≡ drop (end + 1) input
      = take_all ((edition.columns + 1) * entries) (drop (end + 1) input) (omega (arith, length-drop (end + 1) input, long)) in
      ap₂ ◌++◌ (fields_written fields input count ∙ sym case_line) (lines_written 256 (drop (end + 1) input) ∙ all)
      ∙ take-append-drop (end + 1) input

-- ITS LINES ARE READ BACK
-- a case line ends in its line feed
pub line_ended : (columns : ℕ) (numbers rest : List ℕ) → get_or (line_of columns numbers ++ rest) (columns * length numbers) 0 ≡ 10
unfolding line_of
line_ended columns [] rest = rw (mul-zero columns)
line_ended columns (value ∷ numbers) rest =
    let place : columns * suc (length numbers) ≡ length (printed columns value) + columns * length numbers
    = mul-suc columns (length numbers) ∙ omega (arith, printed_long columns value) in
    rw (
      place,
      append_assoc (printed columns value) (line_of columns numbers) rest,
      get_or-append-add (printed columns value) (line_of columns numbers ++ rest) (columns * length numbers) 0,
    )
    (line_ended columns numbers rest)

-- in an edition whose largest number has room in its columns
module _ (edition : Edition) (legible : Legible edition) where
  field_read : (value : ℕ) (rest : List ℕ) → value ≤ edition.most
      → field_of edition.columns edition.most (take edition.columns (printed edition.columns value ++ rest)) ≡ Some value
  unfolding ReadBack
  field_read value rest h =
      ap (field_of edition.columns edition.most)
      (take_at (printed edition.columns value) rest edition.columns (printed_long edition.columns value))
      ∙ read_back edition.columns edition.most value legible.some (omega (arith, legible.room)) h

  behind_field : (value : ℕ) (rest : List ℕ) → drop edition.columns (printed edition.columns value ++ rest) ≡ rest
  behind_field value rest = drop_at (printed edition.columns value) rest edition.columns (printed_long edition.columns value)

  fields_read : (numbers rest : List ℕ) → any_from (edition.most + 1) numbers ≡ false
      → leading edition false (length numbers) (line_of edition.columns numbers ++ rest) ≡ numbers
  unfolding leading before item size line_of
  fields_read [] rest h = refl
  fields_read (value ∷ numbers) rest h =
      let small = all_below (edition.most + 1) value numbers h in
      let onwards = line_of edition.columns numbers ++ rest in
      rw (
        append_assoc (printed edition.columns value) (line_of edition.columns numbers) rest,
        field_read value onwards (omega (arith, small.0)),
        behind_field value onwards,
      )
      (ap (λ l. value ∷ l) (fields_read numbers rest small.1))

  -- a line of a table
  line_read : (value : ℕ) (rest : List ℕ) → value ≤ edition.most
      → item edition true (line_of edition.columns (value ∷ []) ++ rest) ≡ Some value
  unfolding item line_of
  line_read value rest h =
      let field = printed edition.columns value in
      let feed : get_or (field ++ (10 ∷ rest)) edition.columns 0 ≡ 10
      = get_or_at field 10 rest 0 edition.columns (printed_long edition.columns value) in
      rw (append_assoc field (10 ∷ []) rest, feed) (field_read value (10 ∷ rest) h)

  behind_line : (value : ℕ) (rest : List ℕ) → drop (edition.columns + 1) (line_of edition.columns (value ∷ []) ++ rest) ≡ rest
  behind_line value rest =
      drop_at (line_of edition.columns (value ∷ [])) rest (edition.columns + 1) (line_long edition.columns (value ∷ []) ∙ omega arith)

  no_lines : (k : ℕ) → leading edition true k [] ≡ []
  unfolding leading before item
  no_lines zero = refl
  no_lines (suc k) = refl

  lines_read : (k : ℕ) (table : List ℕ) → length table ≤ k → any_from (edition.most + 1) table ≡ false
      → leading edition true k (column_of edition.columns table) ≡ table
  unfolding leading before size column_of
  lines_read k [] l h = no_lines k
  lines_read zero (value ∷ table) l h = absurd (omega arith)
  lines_read (suc k) (value ∷ table) l h =
      let small = all_below (edition.most + 1) value table h in
      let onwards = column_of edition.columns table in
      rw (line_read value onwards (omega (arith, small.0)), behind_line value onwards)
      (ap (λ l. value ∷ l) (lines_read k table (omega arith) small.1))

  -- the whole sheet
  module _ (numbers table : List ℕ) (few : length table ≤ 256) (small : any_from (edition.most + 1) numbers ≡ false)
      (small_table : any_from (edition.most + 1) table ≡ false) where
    case_long : length (line_of edition.columns numbers) ≡ edition.columns * length numbers + 1
    case_long = line_long edition.columns numbers ∙ ap (λ k. k + 1) (mul_comm _ _)

    pub numbers_back : numbers_of edition (length numbers) (sheet_lines edition.columns numbers table) ≡ numbers
    unfolding numbers_of sheet_lines
    numbers_back = fields_read numbers (column_of edition.columns table) small

    pub table_back : table_of edition (length numbers) (sheet_lines edition.columns numbers table) ≡ table
    unfolding table_of sheet_lines
    table_back =
        rw (drop_at (line_of edition.columns numbers) (column_of edition.columns table) (edition.columns * length numbers + 1) case_long)
        (lines_read 256 table few small_table)

    feed : get_or (sheet_lines edition.columns numbers table) (edition.columns * length numbers) 0 ≡ 10
    unfolding sheet_lines
    feed = line_ended edition.columns numbers (column_of edition.columns table)

    long : edition.columns * length numbers + 1 + (edition.columns + 1) * length table ≡ length (sheet_lines edition.columns numbers table)
    unfolding sheet_lines
    long =
        sym
        (length-append (line_of edition.columns numbers) _
        ∙ omega (arith, case_long, column_long edition.columns table, mul_comm (length table) (edition.columns + 1)))

    pub formed_back : well_formed edition (length numbers) (sheet_lines edition.columns numbers table) ≡ true
    unfolding well_formed complete
    formed_back =
        rw (numbers_back, table_back, eq-eqb (length numbers) (length numbers) refl, feed, eq-eqb _ _ long)
