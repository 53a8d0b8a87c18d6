-- What is promised of the screening of a run. Each is a type; its proof stands in proofs/Promises.antt.
use Rattle.std.specs.Prelude.{◌≡◌, true, false, Option, Some, None, List, [], ◌++◌, ℕ, ◌+◌, ◌-◌, ◌≤◌, ◌<◌, length, take, drop, replicate}
use Rattle.table.specs.Balanced.{at, count_of}
use Rattle.screening.specs.Report.{window, windows, faulty, faulty_run, report}
use Rattle.screening.specs.Window.{after, Holds}

-- a window is faulty just if some byte value stands in it more than 20 times
unfoldable pub FaultRight : Type 0
FaultRight =
    (bytes : List ℕ) → (faulty bytes ≡ true → (value : ℕ) × (value < 256) × (20 < count_of value bytes))
    × ((value : ℕ) → value < 256 → 20 < count_of value bytes → faulty bytes ≡ true)

-- an empty run has no window, one of up to 512 bytes is one window, and a longer one has one of 512 bytes at each start with 512 bytes from
-- there on; a window's bytes are those of the run from its start on
unfoldable pub WindowsRight : Type 0
WindowsRight =
    (windows [] ≡ 0) × ((run : List ℕ) → 0 < length run → length run ≤ 512 → (windows run ≡ 1) × (window run 0 ≡ run))
    × ((run : List ℕ) → 512 ≤ length run
    → (windows run ≡ length run - 512 + 1) × ((start : ℕ) → start < windows run → length (window run start) ≡ 512))
    × ((run : List ℕ) (start i : ℕ) → i < 512 → at (window run start) i ≡ at run (start + i))

-- a run is faulty just if some byte value stands more than 20 times in 512 consecutive bytes, or in fewer
unfoldable pub RunRight : Type 0
RunRight =
    (run : List ℕ)
    → (faulty_run run ≡ true → (start : ℕ) × (value : ℕ) × (value < 256) × (20 < count_of value (take 512 (drop start run))))
    × ((start value : ℕ) → value < 256 → 20 < count_of value (take 512 (drop start run)) → faulty_run run ≡ true)

-- what a report says of a run: that a window is faulty and none before it, or that none is
unfoldable pub Says : (run : List ℕ) → Option ℕ → Type 0
Says run (Some start) =
    (start < windows run) × (faulty (window run start) ≡ true) × ((earlier : ℕ) → earlier < start → faulty (window run earlier) ≡ false)
Says run None = (start : ℕ) → start < windows run → faulty (window run start) ≡ false

-- the report says what is so, and nothing else says it; it gives a start just if the run is faulty
unfoldable pub ReportRight : Type 0
ReportRight =
    (run : List ℕ) → Says run (report run) × ((other : Option ℕ) → Says run other → other ≡ report run)
    × ((start : ℕ) → report run ≡ Some start → faulty_run run ≡ true) × (report run ≡ None → faulty_run run ≡ false)

-- an empty run is not faulty
unfoldable pub EmptyRight : Type 0
EmptyRight = (report [] ≡ None) × (faulty_run [] ≡ false)

-- a source that sticks for 21 bytes, wherever in a run, is noticed; one that is stuck from its first byte on, in its first window
unfoldable pub StuckNoticed : Type 0
StuckNoticed =
    ((before rest : List ℕ) (value : ℕ) → value < 256 → faulty_run (before ++ (replicate 21 value ++ rest)) ≡ true)
    × ((rest : List ℕ) (value : ℕ) → value < 256 → report (replicate 21 value ++ rest) ≡ Some 0)

-- a run in which no value stands more than 20 times is not faulty, however long it is
unfoldable pub FewPasses : Type 0
FewPasses = (run : List ℕ) → ((value : ℕ) → value < 256 → count_of value run ≤ 20) → report run ≡ None

-- after each byte the window of the code holds the bytes that have come
unfoldable pub WindowRight : Type 0
WindowRight = (run : List ℕ) → ((i : ℕ) → at run i < 256) → (i : ℕ) → i ≤ length run → Holds (take i run) (after run i)
