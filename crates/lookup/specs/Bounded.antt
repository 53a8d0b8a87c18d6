-- What a run of any method asks of its case's numbers: the calls make sure of it by their checks.
use Rattle.std.specs.Prelude.{◌^◌, ◌≤◌, ◌<◌}
use Rattle.lookup.specs.declared.Case.{Case}

pub record Bounded (c : Case) : Type 0 where
  pub width : c.n ≤ 8
  pub size : 2 ^ c.n ≤ 256
  pub x0 : c.x0 < 2 ^ c.n
  pub r1 : c.r1 < 2 ^ c.n
  pub r2 : c.r2 < 2 ^ c.n
  pub r3 : c.r3 < 2 ^ c.n
  pub s1 : c.s1 < 256
  pub s2 : c.s2 < 256
  pub b : c.b < 2
