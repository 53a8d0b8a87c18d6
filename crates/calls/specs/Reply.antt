-- What the logged and the plain call hand back, and what they leave in the lent scratch and log: refused calls leave all as it was.
use Rattle.std.specs.Prelude.{List, ℕ, zero, suc}
use Rattle.refusals.specs.Left.{left}
use Rattle.buffers.specs.Written.{in_front}
use Rattle.lookup.specs.declared.Case.{Case}
use Rattle.lookup.specs.Called.{Called}
use Rattle.lookup.specs.Call.{answer, scratch_after, log_of, log_length}
use Rattle.lookup.specs.Refusals.{plain_refusal, logged_refusal}

-- a call's numbers as a case
abbrev pub case_from : (method n m x0 r1 r2 s1 s2 r3 b : ℕ) → Case
case_from method n m x0 r1 r2 s1 s2 r3 b =
    record { method = method; n = n; m = m; x0 = x0; r1 = r1; r2 = r2; s1 = s1; s2 = s2; r3 = r3; b = b }

-- the share and the count where nothing is refused, and zeros beside the number of a refusal
unfoldable pub called : (refusal share count : ℕ) → Called
called zero share count = record { refusal = 0; share = share; count = count }
called (suc k) share count = record { refusal = suc k; share = 0; count = 0 }

-- the plain call
unfoldable pub plain_reply : Case → (table scratch : List ℕ) → Called
plain_reply c table scratch = called (plain_refusal c table scratch) (answer c table) 0

unfoldable pub plain_scratch : Case → (table scratch : List ℕ) → List ℕ
plain_scratch c table scratch = left (plain_refusal c table scratch) (scratch_after c table scratch) scratch

-- the logged call
unfoldable pub logged_reply : Case → (table scratch lent : List ℕ) → Called
logged_reply c table scratch lent = called (logged_refusal c table scratch lent) (answer c table) (log_length c.method c.n)

unfoldable pub logged_scratch : Case → (table scratch lent : List ℕ) → List ℕ
logged_scratch c table scratch lent = left (logged_refusal c table scratch lent) (scratch_after c table scratch) scratch

unfoldable pub logged_log : Case → (table scratch lent : List ℕ) → List ℕ
logged_log c table scratch lent = left (logged_refusal c table scratch lent) (in_front (log_of c table) lent) lent
