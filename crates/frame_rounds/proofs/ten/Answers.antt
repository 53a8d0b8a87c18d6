use borrow.Author.Rules.{rules}
use Rattle.frame_rounds.proofs.Turning.{turning_begins, turning_turns, turning_ends, turning_kept, turning_room}
use Rattle.frame_rounds.proofs.ten.Goals as goal

pub loop-i-init : goal.loop-i-init
loop-i-init c = search turning_begins

pub next_key-next-requires-clause-in_bounds : goal.next_key-next-requires-clause-in_bounds
next_key-next-requires-clause-in_bounds c = search turning_room

pub loop-i-preserved : goal.loop-i-preserved
loop-i-preserved c =
    turning_turns _ _ _ _ _ _ _ _ _ _ _ _ (search rules) c.next_key-next.ensures.value c.next_key-next.ensures.scratch_unchanged (search rules)
    c.mix-mixed.ensures.value c.mix-mixed.ensures.scratch_unchanged (search rules) c.loop-i.invariant

pub next_key-last-requires-clause-in_bounds : goal.next_key-last-requires-clause-in_bounds
next_key-last-requires-clause-in_bounds c = search turning_room

pub returns-clause-value : goal.returns-clause-value
returns-clause-value c = search turning_ends

pub returns-clause-scratch_unchanged : goal.returns-clause-scratch_unchanged
returns-clause-scratch_unchanged c = search turning_kept
