-- `log_page::put_entry_lines` meets its contract. The invariant is `Lined`.
use Rattle.std.specs.Iterator.Adapters.{enumerate_source, enumerate_count}
use Rattle.std.specs.Slice.Iter.{chunks_rest, chunks_size}
use Rattle.log_page.proofs.FiveALine.{Lined}
use Rattle.log_page.proofs.put_entry_lines.Given as goal

abbrev pub invariant-loop-k : goal.invariant-loop-k
invariant-loop-k l =
    let chunks = enumerate_source l.k-iterator in
    Lined l.log l.initial.output l.output (chunks_rest chunks) (chunks_size chunks) (enumerate_count l.k-iterator)
