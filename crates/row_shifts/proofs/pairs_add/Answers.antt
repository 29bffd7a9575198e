use mathlib.Core.Path.{sym, ap, ◌∙◌}
use native.Mathlib.Omega.{arith}
use Rattle.block.specs.Limits.{list_inputs}
use Rattle.pair_laws.specs.Symmetric.{added, added_none, cubes-none}
use Rattle.missing_points.specs.Rows.{mask-fixed}
use Rattle.missing_points.specs.Looped.{cubes-pass, sum-put, sum-small, row_done, rows-done}
use borrow.Author.Rules.{rules}
use Rattle.row_shifts.proofs.pairs_add.Goals as goal
use Rattle.row_shifts.proofs.pairs_add.Goals.{then-times-gt0, else-times-gt0}

pub loop-i-init : goal.loop-i-init
loop-i-init c = rw (cubes-none _ _ _) (sym (added_none c.args.t))

pub pair_adds-sum-requires : goal.pair_adds-sum-requires
pair_adds-sum-requires c =
    let l = c.requires.n_le_list_inputs.3 in
    let below = mask-fixed c.args.n l c.requires.disjoint.sound in
    record {
      n_le_list_inputs = (search rules, search rules, search rules, l.values-too);
      i_bound = (below _ (omega arith), below _ (omega arith), search rules);
    }

pub overflow_add-sum : goal.overflow_add-sum
overflow_add-sum c =
    let o = c.loop-j in
    let i = c.loop-i.i in
    let a = c.args in
    let l = c.requires.n_le_list_inputs.3 in
    omega (
      arith,
      sum-put a.missing a.more a.n l i o.j (omega arith) (omega arith) (omega arith)
          _ c.times_of-times.ensures.value c.if-times-gt0.true a.t _ _ o.invariant c.pair_adds-sum.ensures,
      sum-small a.missing a.more a.n l i o.j (omega arith) (omega arith) c.requires.disjoint c.requires.n_le_list_inputs.2
          list_inputs a.t c.requires.n_le_list_inputs.1 c.requires.n_le_list_inputs.0,
    )

pub loop-j-preserved : goal.loop-j-preserved
loop-j-preserved c =
    let o = c.loop-j in
    let i = c.loop-i.i in
    let a = c.args in
    let l = c.requires.n_le_list_inputs.3 in
    let times = c.times_of-times in
    elim c.if-times-gt0.branch [
      | then-times-gt0 w ↦
          w.sum-is
          ∙ sum-put a.missing a.more a.n l i o.j (omega arith) (omega arith) (omega arith)
          _ times.ensures.value w.if-times-gt0.true a.t _ _ o.invariant w.pair_adds-sum.ensures
      | else-times-gt0 w ↦
          w.sum-is ∙ o.invariant
          ∙ ap (added a.t) (sym (cubes-pass a.missing a.more a.n l i o.j (omega arith) (omega arith) _ times.ensures.value w.if-times-gt0.false))
    ]

pub loop-i-preserved : goal.loop-i-preserved
loop-i-preserved c =
    rw (row_done c.args.missing c.args.more c.args.n c.requires.n_le_list_inputs.3 c.loop-i.i c.loop-j.j (omega arith)) c.loop-j.invariant

pub returns : goal.returns
returns c =
    c.loop-i.invariant
    ∙ ap (added c.args.t) (sym (rows-done c.args.missing c.args.more c.args.n c.requires.n_le_list_inputs.3 c.loop-i.i (omega arith)))
