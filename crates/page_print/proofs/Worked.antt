-- P1's page, computed: a promise of specs/Worked.antt, proved.
use mathlib.Core.Path.{refl}
use Rattle.bits.specs.Xor.{◌⊕◌}
use Rattle.refusals.specs.Checks.{first_of}
use Rattle.refusals.specs.Tests.{outside, any_from}
use Rattle.table.specs.Balanced.{at, count_of}
use Rattle.table.specs.Fit.{occurs, each_value, equally_often, closed, fit}
use Rattle.table.specs.Refusals.{table_checks}
use Rattle.field.specs.Field.{digit, decimal, number, spaces, up_to, field_of}
use Rattle.field.specs.Printed.{mark, front, printed}
use Rattle.lookup.specs.Case.{Q}
use Rattle.lookup.specs.Entry.{entry, kind_of, value_of}
use Rattle.lookup.specs.Row.{masked}
use Rattle.lookup.specs.Layout.{pass_lines, passes_lines, lines}
use Rattle.lookup.specs.Method2.{r_prime, scratch_2, answer_2}
use Rattle.lookup.specs.Methods.{among, found, known, method_of}
use Rattle.lookup.specs.Refusals.{case_refusal, case_checks, box_checks, method_checks, mask_checks, untaken}
use Rattle.lookup.specs.Call.{log_of}
use Rattle.case_sheet.specs.Sheet.{item, size, before, leading, numbers_of, table_of, complete, well_formed, case_read}
use Rattle.log_print.specs.Lines.{line_of, unless_refused}
use Rattle.log_page.specs.Page.{entry_columns, side_by_side, filled, rising, lines_of_five, often, kind_line, kind_lines, total_line, page_of}
use Rattle.log_page.specs.Text.{bytes, text}
use Rattle.sheet_call.specs.Call.{sheet_case, sheet_refusal, sheet_log}
use Rattle.page_print.specs.Print.{page}
use Rattle.page_print.specs.Worked.{PageWorked}

pub page_worked : PageWorked
unfolding PageWorked page text bytes unless_refused sheet_refusal sheet_case sheet_log well_formed complete numbers_of table_of leading item size
    before case_read field_of up_to number decimal digit spaces case_refusal case_checks box_checks method_checks mask_checks untaken first_of
    outside any_from at count_of occurs each_value equally_often closed fit table_checks Q among found known method_of ◌⊕◌ log_of lines
    pass_lines passes_lines masked r_prime scratch_2 answer_2 entry kind_of value_of page_of lines_of_five rising filled side_by_side entry_columns printed front mark
    often kind_line kind_lines total_line line_of
page_worked = refl
