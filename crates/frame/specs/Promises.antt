-- What is promised of a frame. Each is a type; its proof stands in proofs/Promises.antt.
use Rattle.std.specs.Prelude.{◌≡◌, true, false, List, [], ◌∷◌, ◌++◌, ℕ, ◌+◌, ◌*◌, ◌/◌, ◌%◌, ◌≤◌, ◌<◌, length, take, drop, replicate}
use Rattle.bits.specs.Xor.{◌⊕◌}
use Rattle.table.specs.Balanced.{at, count_of}
use Rattle.table.specs.Tabulate.{tabulate}
use Rattle.aes.specs.State.{State, state_from, Bytes}
use Rattle.aes.specs.Cipher.{cipher}
use Rattle.screening.specs.Report.{faulty_run}
use Rattle.frame.specs.Encrypted.{Encrypted}
use Rattle.frame_lookups.specs.Shares.{joined}
use Rattle.frame_lookups.specs.Lookups.{position}
use Rattle.frame.specs.Frame.{frame_refusal, flat, frame_reply, frame_scratch}

-- the sixteen bytes that the three shares join to
unfoldable pub ciphertext : Encrypted → List ℕ
ciphertext e = tabulate 16 (λ i. at e.share1 i ⊕ at e.share2 i ⊕ at e.share3 i)

-- in every accepted frame the three shares join to FIPS 197's ciphertext of the plaintext under the joined key
unfoldable pub FrameRight : Type 0
FrameRight =
    (p k1 k2 k3 : State) (random scratch : List ℕ) → Bytes p → Bytes k1 → Bytes k2 → Bytes k3 → ((i : ℕ) → at random i < 256) →
    frame_refusal random scratch ≡ 0 →
    ciphertext (frame_reply p k1 k2 k3 random scratch) ≡ flat (cipher p (joined (k1 ∷ k2 ∷ k3 ∷ [])))

-- the refusals in their order: 26 for any number of random bytes but 632; then 27 for a faulty run of them, whatever the scratch; then 13
-- for fewer than 256 bytes of scratch; and nothing else
unfoldable pub RefusalsRight : Type 0
RefusalsRight =
    (random scratch : List ℕ) → ((length random ≡ 632 → ⊥) → frame_refusal random scratch ≡ 26)
    × (length random ≡ 632 → faulty_run random ≡ true → frame_refusal random scratch ≡ 27)
    × (length random ≡ 632 → faulty_run random ≡ false → length scratch < 256 → frame_refusal random scratch ≡ 13)
    × (length random ≡ 632 → faulty_run random ≡ false → 256 ≤ length scratch → frame_refusal random scratch ≡ 0)

-- the random bytes of a source that sticks for 21 of them are refused; those among which no value stands more than 20 times are taken
unfoldable pub StuckRefused : Type 0
StuckRefused =
    ((before rest scratch : List ℕ) (value : ℕ) → value < 256 → length (before ++ (replicate 21 value ++ rest)) ≡ 632
    → frame_refusal (before ++ (replicate 21 value ++ rest)) scratch ≡ 27)
    × ((random scratch : List ℕ) → length random ≡ 632 → ((value : ℕ) → value < 256 → count_of value random ≤ 20) → 256 ≤ length scratch
    → frame_refusal random scratch ≡ 0)

-- after it the first 256 bytes of the scratch are 0, and those behind them are unchanged
unfoldable pub ScratchCleared : Type 0
ScratchCleared =
    (random scratch : List ℕ) → frame_refusal random scratch ≡ 0 →
    (take 256 (frame_scratch random scratch) ≡ replicate 256 0) × (drop 256 (frame_scratch random scratch) ≡ drop 256 scratch)

-- the random bytes of the 200 lookups begin at 32, 35, .., 629, round by round, so none is used twice
unfoldable pub PositionsRight : Type 0
PositionsRight = tabulate 200 (λ q. position (q / 20) (q % 20)) ≡ tabulate 200 (λ q. 32 + 3 * q)

-- bytes are handed out in the order in which a state is read: byte r + 4c is that of row r and column c
unfoldable pub OrderRight : Type 0
OrderRight = (bytes : List ℕ) → flat (state_from bytes 0) ≡ tabulate 16 (at bytes)
