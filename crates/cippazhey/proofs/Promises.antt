-- What is promised of what C gets of a frame and of a report holds.
use mathlib.Core.Path.{◌≡◌, refl, ap}
use mathlib.Core.List.{List}
use Prim.Native.Nat.{ℕ, ◌^◌, ◌<◌}
use native.Mathlib.Omega.{arith}
use lib.ListN.{length}
use Rattle.std.specs.Prelude.{Option, Some, None}
use Rattle.refusals.specs.Left.{left}
use Rattle.frame.specs.Frame.{encrypted, frame_reply}
use Rattle.frame.specs.Promises.{ciphertext, FrameRight}
use Rattle.frame.proofs.Promises.{frame_right}
use Rattle.screening.specs.Report.{report}
use Rattle.screening.specs.Promises.{Says, ReportRight}
use Rattle.screening.proofs.Promises.{report_right}
use Rattle.screening.proofs.Reports.{windows_most}
use Rattle.cippazhey.specs.Export.{exported_share, no_fault, exported_report}
use Rattle.cippazhey.specs.Promises.{ExportedRight, ReportTold}

pub exported_right : ExportedRight
unfolding ExportedRight exported_share FrameRight ciphertext frame_reply encrypted left
exported_right p k1 k2 k3 random scratch old1 old2 old3 hp h1 h2 h3 small e =
    rw e (rw e at (frame_right p k1 k2 k3 random scratch hp h1 h2 h3 small e))

pub report_told : ReportTold
unfolding ReportTold ReportRight Says exported_report no_fault
report_told = (refl, λ run h. by_cases run h (report run) (report_right run).0)
  where
    by_cases : (run : List ℕ) → length run < 2 ^ 64 → (r : Option ℕ) → Says run r
        → (exported_report r ≡ no_fault → r ≡ None) × ((start : ℕ) → exported_report r ≡ start → start < no_fault → r ≡ Some start)
    by_cases run h (Some k) s = (λ e. absurd (omega (arith, s.0, windows_most run)), λ start e l. ap Some e)
    by_cases run h None s = (λ e. refl, λ start e l. absurd (omega arith))
