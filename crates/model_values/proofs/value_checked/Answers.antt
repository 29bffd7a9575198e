-- `model_values::value_checked` meets its contract: its checks step by step. Assumes nothing.
use lib.ListN.{length}
use Rattle.block.specs.ModelRead.{patterns_flat}
use Rattle.model_values.specs.Checks.{told, whole-inputs, matrix-inputs, checked-verdict}
use Rattle.model_values.proofs.value_checked.Goals as goal

pub then_matrix-matrix-requires : goal.then_matrix-matrix-requires
then_matrix-matrix-requires c =
    let a = c.args in
    whole-inputs a.n a.k a.x _ a.sigma.now a.counts.now (patterns_flat a.masks.now a.values.now)
    c.size_of-size.ensures _ (told a.counts.now (length a.sigma.now) a.n a.k _ _ c.pattern_count-count.ensures c.is_unfit-unfit.ensures) _ _ _ c.sizes-sizes.ensures c.then_where-point.ensures c.then_where-whole.ensures

pub then_patterns-requires : goal.then_patterns-requires
then_patterns-requires c =
    let a = c.args in (
      matrix-inputs a.n a.k a.x _ a.sigma.now a.counts.now (patterns_flat a.masks.now a.values.now)
          c.size_of-size.ensures _ (told a.counts.now (length a.sigma.now) a.n a.k _ _ c.pattern_count-count.ensures c.is_unfit-unfit.ensures) _ _ _ c.sizes-sizes.ensures c.then_where-point.ensures
          c.then_where-whole.ensures _ c.then_matrix-matrix.ensures,
      c.pattern_count-count.ensures,
    )

pub returns : goal.returns
returns c =
    let a = c.args in
    checked-verdict a.n a.k a.x _ a.sigma.now a.counts.now (patterns_flat a.masks.now a.values.now)
    c.size_of-size.ensures _ (told a.counts.now (length a.sigma.now) a.n a.k _ _ c.pattern_count-count.ensures c.is_unfit-unfit.ensures) _ _ _ c.sizes-sizes.ensures c.then_where-point.ensures
    c.then_where-whole.ensures _ c.then_matrix-matrix.ensures _ c.then_patterns.ensures
