-- What the C host gets: of the plain call one 16-bit number, refusal × 256 + share, of a frame its three shares, and of a report one 64-bit
-- number.
use Rattle.std.specs.Prelude.{Option, Some, None, List, [], ◌∷◌, ℕ, ◌+◌, ◌-◌, ◌*◌, ◌^◌}
use Rattle.refusals.specs.Left.{left}
use Rattle.lookup.specs.Called.{Called}
use Rattle.aes.specs.State.{State}
use Rattle.frame_lookups.specs.Shares.{share}
use Rattle.frame_rounds.specs.Rounds.{frame_shares}
use Rattle.frame.specs.Frame.{frame_refusal, flat}

unfoldable pub exported : Called → ℕ
exported r = r.refusal * 256 + r.share

-- one of a frame's shares where nothing is refused, else what the lent place held
unfoldable pub exported_share : (number : ℕ) → (plaintext key1 key2 key3 : State) → (random scratch : List ℕ) → (old : List ℕ) → List ℕ
exported_share number p k1 k2 k3 random scratch old =
    left (frame_refusal random scratch) (flat (share (frame_shares random p (k1 ∷ k2 ∷ k3 ∷ [])) number)) old

-- all ones, for a run without a fault
unfoldable pub no_fault : ℕ
no_fault = 2 ^ 64 - 1

-- the first faulty window's start, or that number
unfoldable pub exported_report : Option ℕ → ℕ
exported_report (Some start) = start
exported_report None = no_fault
