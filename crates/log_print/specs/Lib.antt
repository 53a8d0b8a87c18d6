-- Printed lines: of a log, of a refusal, of a count sheet.
pub mod Lines
