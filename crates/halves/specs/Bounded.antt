-- What the checks leave of a selection's numbers: the bounds that its runs need.
use Rattle.std.specs.Prelude.{◌*◌, ◌^◌, ◌≤◌, ◌<◌}
use Rattle.halves.specs.declared.Selection.{Selection}

pub record Bounded (s : Selection) : Type 0 where
  pub width_most : s.width ≤ 8
  pub halves_most : 2 ^ s.width ≤ 256
  pub words_most : 2 ^ (2 * s.width) ≤ 65536
  pub z0 : s.z0 < 2 ^ (2 * s.width)
  pub z1 : s.z1 < 2 ^ (2 * s.width)
  pub z2 : s.z2 < 2 ^ (2 * s.width)
  pub c0 : s.c0 < 2
  pub c1 : s.c1 < 2
  pub c2 : s.c2 < 2
  pub b : s.b < 2
  pub t1 : s.t1 < 2 ^ s.width
  pub t2 : s.t2 < 2 ^ s.width
