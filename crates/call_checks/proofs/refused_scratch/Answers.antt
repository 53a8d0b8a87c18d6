-- `call_checks::refused_scratch` meets its contract.
use Rattle.call_checks.proofs.Scratch.{at_13, at_19, at_clean}
use Rattle.call_checks.proofs.refused_scratch.Goals as goal

pub returns-then-scratch-size : goal.returns-then-scratch-size
returns-then-scratch-size c = search at_13

pub returns-then-dirty : goal.returns-then-dirty
returns-then-dirty c = search at_19

pub returns : goal.returns
returns c = search at_clean
