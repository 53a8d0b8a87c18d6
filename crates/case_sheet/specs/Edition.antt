-- The editions of the sheets: how many columns a number has, and the largest number.
use Rattle.case_sheet.specs.declared.Edition.{Edition}

-- the old edition
abbrev pub four_columns : Edition
four_columns = record { columns = 4; most = 255 }

-- today's edition
abbrev pub six_columns : Edition
six_columns = record { columns = 6; most = 65535 }
