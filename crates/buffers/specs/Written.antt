-- A list with a part of it written anew.
use Rattle.std.specs.Prelude.{List, ◌++◌, ℕ, ◌+◌, length, take, drop}

-- these from a position on
unfoldable pub written : (list : List ℕ) → (position : ℕ) → (new : List ℕ) → List ℕ
written list position new = take position list ++ new ++ drop (position + length new) list

-- these in front, and what stood behind them
unfoldable pub in_front : (new old : List ℕ) → List ℕ
in_front new old = new ++ drop (length new) old
