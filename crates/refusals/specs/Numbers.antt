-- The number of each refusal.
use Rattle.std.specs.Prelude.{ℕ, Result, Ok, Err}
use Rattle.refusals.specs.declared.Refusal.{Refusal}
use Rattle.refusals.specs.declared.Refusal.TheVariants.{MalformedInput, UnknownMethod, InputWidth, OutputWidth, TableLength, TableEntry, UnfitTable, RowCount, RowOrConstant, Input, OutputMask, UntakenMask, ShortScratch, ShortLog, LargeWidth, Position, ShortSheet, UnequalWidths, DirtyScratch, SelectionWidth, SelectionInput, LargeNumber, RandomLength, FaultyRandom}

abbrev pub number_of : Refusal → ℕ
number_of MalformedInput = 1
number_of UnknownMethod = 2
number_of InputWidth = 3
number_of OutputWidth = 4
number_of TableLength = 5
number_of TableEntry = 6
number_of UnfitTable = 7
number_of RowCount = 8
number_of RowOrConstant = 9
number_of Input = 10
number_of OutputMask = 11
number_of UntakenMask = 12
number_of ShortScratch = 13
number_of ShortLog = 14
number_of LargeWidth = 15
number_of Position = 16
number_of ShortSheet = 17
number_of UnequalWidths = 18
number_of DirtyScratch = 19
number_of SelectionWidth = 20
number_of SelectionInput = 21
number_of LargeNumber = 22
number_of RandomLength = 26
number_of FaultyRandom = 27

-- what a call's checks hand back: the number of the refusal, or 0 where there is none
abbrev pub refusal_of : {A : Type 0} → Result A Refusal → ℕ
refusal_of (Ok _) = 0
refusal_of (Err refusal) = number_of refusal
