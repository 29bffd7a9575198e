use mathlib.Core.Path.{◌∙◌}
use Prim.Native.Nat.{◌<◌, ◌+◌, ◌*◌}
use native.Mathlib.Omega.{arith}
use lib.ListN.{length}
use Rattle.block.specs.Words.{rows_of}
use Rattle.pair_laws.specs.Theorem.{often}
use Rattle.pair_laws.specs.Symmetric.{cubes-none}
use Rattle.pair_weights.specs.Places.{cube_of}
use Rattle.missing_points.specs.Rows.{mask-fixed}
use Rattle.missing_points.specs.Looped.{cubes-put, cubes-pass, cubes-fit, cubes-number, row_done, rows-done}
use Rattle.row_shifts.specs.Stored.{cubes-at-none, grown-more, grown-same}
use borrow.Author.Rules.{rules}
use Rattle.row_shifts.proofs.put_cubes.Goals as goal
use Rattle.row_shifts.proofs.put_cubes.Goals.{then-times-gt0, else-times-gt0}
use Rattle.row_shifts.proofs.put_cubes.Goals.{In-loop-j}

-- one cube more has room
fits : (c : goal.In-loop-j) → c.loop-j.count * 2 < length c.args.masks.now * (length c.args.masks.now + 1)
fits c =
    omega (arith, cubes-fit c.args.missing c.args.more c.args.n c.requires.n_le_list_inputs.2 c.loop-i.i c.loop-j.j (omega arith) (omega arith))

pub loop-i-init : goal.loop-i-init
loop-i-init c =
    let a = c.args in
    rw (cubes-none (often a.missing a.more) a.n (rows_of a.masks.now a.values.now a.words.now))
    (cubes-at-none a.cube_masks.now a.cube_values.now a.cube_weights.now)

pub put_cube-requires : goal.put_cube-requires
put_cube-requires c =
    let small = fits (goal.at.put_cube-requires c).In-loop-j in
    let below = mask-fixed c.args.n c.requires.n_le_list_inputs.2 c.requires.every in record {
      n_le_list_inputs = (search rules, search rules, search rules, search rules);
      i_bound = (below _ (omega arith), below _ (omega arith), search rules);
      place_in_bounds = (omega arith, omega arith, omega arith);
    }

pub overflow_add-count : goal.overflow_add-count
overflow_add-count c =
    omega (arith, fits (goal.at.overflow_add-count c).In-loop-j, cubes-number c.requires.n_le_list_inputs.2)

pub loop-j-preserved : goal.loop-j-preserved
loop-j-preserved c =
    let o = c.loop-j in
    let i = c.loop-i.i in
    let a = c.args in
    let l = c.requires.n_le_list_inputs.2 in
    let small = fits (goal.at.loop-j-preserved c).In-loop-j in
    let times = c.times_of-times in
    elim c.if-times-gt0.branch [
      | then-times-gt0 w ↦
          grown-more _ _ _ _ _ _ _ _ _ _ _ _ _ _ _ o.invariant
          (cube_of a.n times.result a.masks.now a.values.now i o.j)
          (omega arith) (omega arith) (omega arith)
          (cubes-put a.missing a.more a.n l i o.j (omega arith) (omega arith) (omega arith) _ times.ensures.value w.if-times-gt0.true)
          (w.cube_masks-is ∙ w.put_cube.ensures.cube_masks_after) (w.cube_values-is ∙ w.put_cube.ensures.cube_values_after) (w.cube_weights-is ∙ w.put_cube.ensures.cube_weights_after) w.count-is
      | else-times-gt0 w ↦
          grown-same _ _ _ _ _ _ _ _ _ _ _ _ _ _ _ o.invariant
          (cubes-pass a.missing a.more a.n l i o.j (omega arith) (omega arith) _ times.ensures.value w.if-times-gt0.false)
          w.cube_masks-is w.cube_values-is w.cube_weights-is w.count-is
    ]

pub loop-i-preserved : goal.loop-i-preserved
loop-i-preserved c =
    let o = c.loop-i in
    rw (row_done c.args.missing c.args.more c.args.n c.requires.n_le_list_inputs.2 o.i c.loop-j.j (omega arith))
    (c.loop-j.invariant.lie _ _ _ o.auto.cube_masks o.auto.cube_values o.auto.cube_weights o.invariant)

pub returns : goal.returns
returns c =
    rw (rows-done c.args.missing c.args.more c.args.n c.requires.n_le_list_inputs.2 c.loop-i.i (omega arith)) c.loop-i.invariant
