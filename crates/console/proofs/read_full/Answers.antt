-- A read that took more bytes put them behind those that had been taken.
use Rattle.std.proofs.Common.{rules, sym, subst}
use Rattle.std.specs.Io.KnownBytes.{Consumes}
use Rattle.console.proofs.Taken.{Consumes-both, take-put_mid_front}
use Rattle.console.proofs.read_full.Goals as goal

pub loop-done-preserved : goal.loop-done-preserved
loop-done-preserved g c =
    let before = c.loop-done.invariant in
    let read = c.read_once-got.ensures in
    let joined = take-put_mid_front c.loop-done.done c.read_once-got.result _ c.loop-done.space c.read_once-got.new.space before.within read.within in
    record {
      within = search rules;
      bytes = subst (Consumes _ _) (sym joined) (Consumes-both _ _ _ _ _ before.bytes read.bytes);
    }
