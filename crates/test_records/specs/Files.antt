-- What holds of what the system answers: an opened file, and a record that was read.
use Rattle.std.specs.Prelude.{◌≡◌, ◌≤ℤ◌, Bool, true, List, ℕ, pos, length, Result, Ok, IfOk}
use Rattle.std.specs.Fd.{file_raw_fd}
use Rattle.std.specs.declared.fs.File.{File}
use Rattle.std.specs.declared.io.Error.{Error}

-- a file's descriptor is 0 or more; an error says that there is none
abbrev pub Opened : Result File Error → Type 0
Opened r = IfOk r (λ file. pos 0 ≤ℤ file_raw_fd file)

-- the space keeps its length, and a space of no bytes is always filled
pub record Filled (before after : List ℕ) (whole : Result Bool Error) : Type 0 where
  pub long : length after ≡ length before
  pub empty : length before ≡ 0 → whole ≡ Ok true
