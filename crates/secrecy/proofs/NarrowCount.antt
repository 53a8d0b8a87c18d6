-- What is counted is what narrow entries show: every choice is accepted, and then each value is the same.
use Rattle.counting.proofs.Over.{over_ext}
use Rattle.lookup.specs.Entry.{value_of}
use Rattle.lookup.specs.NarrowEntry.{narrow_value_of}
use Rattle.lookup.specs.Promises.{WideAsNarrow}
use Rattle.lookup.proofs.Promises.{wide_as_narrow}
use Rattle.lookup.proofs.Accepted.{not_refused}
use Rattle.secrecy.specs.Count.{single, chosen_case, mask_widths, value_at, shows, count}
use Rattle.secrecy.specs.NarrowCount.{narrow_shows, narrow_count}
use Rattle.secrecy.specs.Promises.{CountsAsNarrow}
use Rattle.secrecy.proofs.Lent.{choice_taken}

pub counts_as_narrow : CountsAsNarrow
unfolding CountsAsNarrow WideAsNarrow count narrow_count shows narrow_shows value_at value_of narrow_value_of
counts_as_narrow table method n m x i j u v e k h =
    over_ext (mask_widths method n m)
    (λ c inside.
    let case = chosen_case single method n m x c in
    let taken = choice_taken table method n m x c e k h inside in
    let same = (wide_as_narrow table case (not_refused case table taken)).2 in
    rw ((same i).1, (same j).1))
