-- What is promised of what C gets of a frame and of a report. Each is a type; its proof stands in proofs/Promises.antt.
use Rattle.std.specs.Prelude.{◌≡◌, Some, None, List, [], ◌∷◌, ℕ, ◌+◌, ◌^◌, ◌<◌, length}
use Rattle.bits.specs.Xor.{◌⊕◌}
use Rattle.table.specs.Balanced.{at}
use Rattle.table.specs.Tabulate.{tabulate}
use Rattle.aes.specs.State.{State, Bytes}
use Rattle.aes.specs.Cipher.{cipher}
use Rattle.frame_lookups.specs.Shares.{joined}
use Rattle.frame.specs.Frame.{frame_refusal, flat}
use Rattle.screening.specs.Report.{report}
use Rattle.cippazhey.specs.Export.{exported_share, no_fault, exported_report}

-- whatever the three lent places held: in every accepted frame they then join to FIPS 197's ciphertext of the plaintext under the joined key
unfoldable pub ExportedRight : Type 0
ExportedRight =
    (p k1 k2 k3 : State) (random scratch old1 old2 old3 : List ℕ) → Bytes p → Bytes k1 → Bytes k2 → Bytes k3 → ((i : ℕ) → at random i < 256) →
    frame_refusal random scratch ≡ 0 →
    tabulate 16
    (λ i. at (exported_share 0 p k1 k2 k3 random scratch old1) i ⊕ at (exported_share 1 p k1 k2 k3 random scratch old2) i
    ⊕ at (exported_share 2 p k1 k2 k3 random scratch old3) i)
    ≡ flat (cipher p (joined (k1 ∷ k2 ∷ k3 ∷ [])))

-- the number for none is 64 ones, and a start is never that, so the number tells which report it is: no run in memory has 2^64 bytes
unfoldable pub ReportTold : Type 0
ReportTold =
    (no_fault + 1 ≡ 2 ^ 64)
    × ((run : List ℕ) → length run < 2 ^ 64
    → (exported_report (report run) ≡ no_fault → report run ≡ None)
    × ((start : ℕ) → exported_report (report run) ≡ start → start < no_fault → report run ≡ Some start))
