-- `missing_points::missing_in` meets its contract: rows that cover every point leave none missing. Assumes nothing.
use mathlib.Core.Path.{sym}
use native.Mathlib.Omega.{arith}
use Rattle.block.specs.Words.{rows_of}
use Rattle.pair_laws.specs.Theorem.{covered-shift}
use Rattle.missing_points.proofs.missing_in.Goals as goal

pub returns-then-covered_of-power : goal.returns-then-covered_of-power
returns-then-covered_of-power c =
    let a = c.args in
    let rs = rows_of a.masks.now a.values.now a.words.now in
    λ t h.
    sym
    (covered-shift a.n rs c.requires.disjoint (omega (arith, c.if-covered_of-power.true, c.covered_of.ensures, c.power.ensures)) a.missing t h)
