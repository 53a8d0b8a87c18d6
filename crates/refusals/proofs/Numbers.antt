-- The laws of the numbers of refusals.
use mathlib.Core.Path.{◌≡◌, ap}
use Prim.Native.Nat.{◌<◌}
use native.Mathlib.Omega.{arith}
use Rattle.std.specs.Prelude.{Result, Ok, Err}
use Rattle.std.specs.Result.{IsErrAnd}
use Rattle.refusals.specs.declared.Refusal.{Refusal}
use Rattle.refusals.specs.declared.Refusal.TheVariants.{MalformedInput, UnknownMethod, InputWidth, OutputWidth, TableLength, TableEntry, UnfitTable, RowCount, RowOrConstant, Input, OutputMask, UntakenMask, ShortScratch, ShortLog, LargeWidth, Position, ShortSheet, UnequalWidths, DirtyScratch, SelectionWidth, SelectionInput, LargeNumber, RandomLength, FaultyRandom}
use Rattle.refusals.specs.Numbers.{number_of}

-- none is 0, which means that nothing is refused
pub positive : (refusal : Refusal) → 0 < number_of refusal
positive MalformedInput = omega arith
positive UnknownMethod = omega arith
positive InputWidth = omega arith
positive OutputWidth = omega arith
positive TableLength = omega arith
positive TableEntry = omega arith
positive UnfitTable = omega arith
positive RowCount = omega arith
positive RowOrConstant = omega arith
positive Input = omega arith
positive OutputMask = omega arith
positive UntakenMask = omega arith
positive ShortScratch = omega arith
positive ShortLog = omega arith
positive LargeWidth = omega arith
positive Position = omega arith
positive ShortSheet = omega arith
positive UnequalWidths = omega arith
positive DirtyScratch = omega arith
positive SelectionWidth = omega arith
positive SelectionInput = omega arith
positive LargeNumber = omega arith
positive RandomLength = omega arith
positive FaultyRandom = omega arith

pub not_zero : (refusal : Refusal) → number_of refusal ≡ 0 → ⊥
not_zero refusal e = omega (arith, positive refusal)

-- what `?` hands on of a refusal is the refusal
pub handed_on : {A : Type 0} (r : Result A Refusal) (refusal : Refusal) → IsErrAnd r (λ other. other ≡ refusal) → r ≡ Err refusal
handed_on (Ok _) refusal h = absurd h
handed_on (Err other) refusal h = ap Err h
