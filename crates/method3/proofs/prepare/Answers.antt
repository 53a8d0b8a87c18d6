use mathlib.Core.Path.{◌≡◌}
use mathlib.Core.List.{List}
use Prim.Native.Nat.{ℕ, ◌^◌, ◌≤◌}
use lib.ListN.{length}
use Rattle.buffers.proofs.Front.{front_turns}
use Rattle.method3.proofs.Prepared.{prepared_ends, prepared_compares}
use Rattle.method3.proofs.prepare.Goals as goal

-- as many bytes as `power` told are there
room : (size n : ℕ) (scratch : List ℕ) → size ≡ 2 ^ n → 2 ^ n ≤ length scratch → size ≤ length scratch
room size n scratch s h = rw s h

pub loop-i-preserved : goal.loop-i-preserved
loop-i-preserved c = search (front_turns, room)

pub returns-clause-scratch_after : goal.returns-clause-scratch_after
returns-clause-scratch_after c = search prepared_ends

pub returns-clause-scratch_after_2 : goal.returns-clause-scratch_after_2
returns-clause-scratch_after_2 c = search prepared_compares
