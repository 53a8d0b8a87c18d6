-- What a frame leaves in the lent scratch.
use Rattle.std.specs.Prelude.{List, ◌++◌, ℕ, replicate, drop}

-- the first 256 bytes are 0, and those behind them stay
unfoldable pub cleared : (scratch : List ℕ) → List ℕ
cleared scratch = replicate 256 0 ++ drop 256 scratch
