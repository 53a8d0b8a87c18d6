-- What a count's runs ask of its probes and table, which the call makes sure of by its checks, and what each run counts.
use Rattle.std.specs.Prelude.{◌≡◌, true, List, ℕ, ◌+◌, ◌*◌, ◌^◌, ◌≤◌, ◌<◌, set}
use Rattle.counting.specs.Numbered.{numbered, choice_of}
use Rattle.table.specs.Balanced.{at}
use Rattle.table.specs.Refusals.{table_refusal}
use Rattle.lookup.specs.declared.Case.{Case}
use Rattle.lookup.specs.Methods.{known}
use Rattle.lookup.specs.Call.{log_length}
use Rattle.secrecy.specs.Count.{single, chosen_case, mask_widths, value_at}
use Rattle.count_sheet.specs.declared.ProbePair.{ProbePair}
use Rattle.count_sheet.specs.Refusals.{value_width}

pub record Countable (p : ProbePair) (xs : List ℕ) : Type 0 where
  pub method : known p.method ≡ true
  pub table : table_refusal p.n p.m xs ≡ 0
  pub secret : p.secret < 2 ^ p.n
  pub input : p.n ≤ 3
  pub output : p.m ≤ 3
  pub first : p.first < log_length p.method p.n
  pub second : p.second < log_length p.method p.n

-- the case of a choice's number
unfoldable pub numbered_case : ProbePair → (number : ℕ) → Case
numbered_case p k =
    chosen_case single p.method p.n p.m p.secret (choice_of (numbered (mask_widths p.method p.n p.m) k))

-- where the pair of values that a log shows is counted
unfoldable pub place_of : ProbePair → (log : List ℕ) → ℕ
place_of p log = value_at log p.first * 2 ^ value_width p + value_at log p.second

-- a sheet with one more counted there
unfoldable pub one_more : (place : ℕ) → (sheet : List ℕ) → List ℕ
one_more place sheet = set sheet place (at sheet place + 1)
