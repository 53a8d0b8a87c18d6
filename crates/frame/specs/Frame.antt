-- The call: its refusals, what it hands back, and what it leaves in the lent scratch.
use Rattle.std.specs.Prelude.{not, List, [], ◌∷◌, ℕ, eqb, ltb, length, replicate}
use Rattle.refusals.specs.Checks.{Check, ◌when◌, first_of}
use Rattle.refusals.specs.Left.{left}
use Rattle.aes.specs.State.{State, byte}
use Rattle.screening.specs.Report.{faulty_run}
use Rattle.frame.specs.Encrypted.{Encrypted}
use Rattle.frame_lookups.specs.Scratch.{cleared}
use Rattle.frame_lookups.specs.Shares.{Shares, share}
use Rattle.frame_rounds.specs.Rounds.{frame_shares}

-- 26, 27, 13
unfoldable pub frame_checks : (random scratch : List ℕ) → List Check
frame_checks random scratch =
    26 when (not (eqb (length random) 632)) ∷ 27 when (faulty_run random) ∷ 13 when (ltb (length scratch) 256) ∷ []

unfoldable pub frame_refusal : (random scratch : List ℕ) → ℕ
frame_refusal random scratch = first_of (frame_checks random scratch)

-- a state's sixteen bytes, column by column
unfoldable pub flat : State → List ℕ
flat s =
    byte s 0 0 ∷ byte s 1 0 ∷ byte s 2 0 ∷ byte s 3 0 ∷ byte s 0 1 ∷ byte s 1 1 ∷ byte s 2 1 ∷ byte s 3 1
    ∷ byte s 0 2 ∷ byte s 1 2 ∷ byte s 2 2 ∷ byte s 3 2 ∷ byte s 0 3 ∷ byte s 1 3 ∷ byte s 2 3 ∷ byte s 3 3 ∷ []

-- what is handed back: the three shares where nothing is refused, and zeros beside the number of a refusal
unfoldable pub encrypted : (refusal : ℕ) → Shares → Encrypted
encrypted refusal s =
    let zeros : List ℕ = replicate 16 0 in
    record {
      refusal = refusal;
      share1 = left refusal (flat (share s 0)) zeros;
      share2 = left refusal (flat (share s 1)) zeros;
      share3 = left refusal (flat (share s 2)) zeros;
    }

unfoldable pub frame_reply : (plaintext key1 key2 key3 : State) → (random scratch : List ℕ) → Encrypted
frame_reply p k1 k2 k3 random scratch = encrypted (frame_refusal random scratch) (frame_shares random p (k1 ∷ k2 ∷ k3 ∷ []))

unfoldable pub frame_scratch : (random scratch : List ℕ) → List ℕ
frame_scratch random scratch = left (frame_refusal random scratch) (cleared scratch) scratch
