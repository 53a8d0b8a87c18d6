-- What is lent to a chained call: a table, a scratch and a log for each of the two calls.
use Rattle.std.specs.Prelude.{List, ℕ}

pub record Lent : Type 0 where
  pub first_table : List ℕ
  pub second_table : List ℕ
  pub first_scratch : List ℕ
  pub second_scratch : List ℕ
  pub first_log : List ℕ
  pub second_log : List ℕ

abbrev pub lent : (first_table second_table first_scratch second_scratch first_log second_log : List ℕ) → Lent
lent first_table second_table first_scratch second_scratch first_log second_log =
    record {
      first_table = first_table;
      second_table = second_table;
      first_scratch = first_scratch;
      second_scratch = second_scratch;
      first_log = first_log;
      second_log = second_log;
    }
