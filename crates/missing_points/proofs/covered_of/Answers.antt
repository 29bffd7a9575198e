use mathlib.Core.Path.{sym}
use native.Mathlib.Omega.{arith}
use lib.Pow.{pow_mono}
use Rattle.sums.specs.Laws.{sum-zero}
use Rattle.block.specs.Limits.{list_inputs}
use Rattle.pair_laws.specs.Theorem.{covered_le}
use Rattle.missing_points.specs.Rows.{mask-fixed, summed-more, summed-whole, summed-small}
use Rattle.missing_points.proofs.covered_of.Invariants.{points_under}
use Rattle.missing_points.proofs.covered_of.Goals as goal

pub loop-i-init : goal.loop-i-init
loop-i-init c = sym (sum-zero _)

pub row_points-sum-requires : goal.row_points-sum-requires
row_points-sum-requires c =
    (c.requires.n_le_list_inputs.0, mask-fixed c.args.n c.requires.n_le_list_inputs.1 c.requires.disjoint.sound _ (omega arith))

pub overflow_add-sum : goal.overflow_add-sum
overflow_add-sum c =
    let o = c.loop-i in
    omega (
      arith,
      summed-more c.args.n c.requires.n_le_list_inputs.1 (points_under c.args.n) o.i _ _ (omega arith) o.invariant c.row_points-sum.ensures,
      summed-small c.args.n c.requires.n_le_list_inputs.1 (points_under c.args.n) o.i (omega arith),
      covered_le c.args.n _ c.requires.disjoint,
      pow_mono {j = list_inputs} c.requires.n_le_list_inputs.0,
    )

pub loop-i-preserved : goal.loop-i-preserved
loop-i-preserved c =
    let o = c.loop-i in
    summed-more c.args.n c.requires.n_le_list_inputs.1 (points_under c.args.n) o.i _ _ (omega arith) o.invariant c.row_points-sum.ensures

pub returns : goal.returns
returns c =
    summed-whole c.args.n c.requires.n_le_list_inputs.1 (points_under c.args.n) _ _ (omega arith) c.loop-i.invariant
