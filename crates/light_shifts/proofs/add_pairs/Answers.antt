use mathlib.Core.Path.{sym, ap, ◌∙◌}
use mathlib.Core.List.{List}
use Prim.Native.Nat.{ℕ, ◌+◌}
use native.Mathlib.Omega.{arith}
use Rattle.block.specs.Limits.{list_inputs}
use Rattle.block.specs.Words.{rows_of}
use Rattle.pair_laws.specs.Theorem.{often}
use Rattle.pair_laws.specs.Symmetric.{Cube, cubes_to, cubes-none}
use Rattle.pair_weights.specs.Places.{cube_of}
use Rattle.missing_points.specs.Rows.{counted, mask-fixed}
use Rattle.missing_points.specs.Looped.{cubes-put, cubes-pass, row_done, rows-done}
use Rattle.light_shifts.specs.Adding.{light_sums, light-length, light-none, light-more, light-small}
use borrow.Author.Rules.{rules}
use Rattle.light_shifts.proofs.add_pairs.Goals as goal
use Rattle.light_shifts.proofs.add_pairs.Goals.{then-times-gt0, else-times-gt0}

pub loop-i-init : goal.loop-i-init
loop-i-init c =
    let a = c.args in
    light-none a.n a.w a.acc.now c.requires.acc_len.0 c.requires.acc_len.1
    ∙ ap (light_sums a.n a.w) (sym (cubes-none (often a.missing a.more) a.n (rows_of a.masks.now a.values.now a.words.now)))

pub add_pair-requires : goal.add_pair-requires
add_pair-requires c =
    let a = c.args in
    let l = c.requires.n_le_list_inputs.3 in
    let rs = rows_of a.masks.now a.values.now a.words.now in
    let p = counted a.n l in
    let o = c.loop-j in
    let met = cubes_to (often a.missing a.more) a.n rs c.loop-i.i o.j in
    let below = mask-fixed a.n l c.requires.disjoint.sound in
    let small = light-small a.n a.w a.missing a.more rs c.requires.disjoint c.requires.n_le_list_inputs.2 list_inputs c.requires.n_le_list_inputs.0 c.loop-i.i o.j
    (omega arith) (omega arith) o.acc o.invariant in record {
      n_le_list_inputs = (c.requires.n_le_list_inputs.0, c.requires.n_le_list_inputs.1, omega arith, omega arith, l.values-too);
      i_bound = (below _ (omega arith), below _ (omega arith), search rules);
      acc_len = (light-length a.n a.w met o.acc o.invariant, λ t h. omega (arith, small t h));
    }

pub loop-j-preserved : goal.loop-j-preserved
loop-j-preserved c =
    let o = c.loop-j in
    let i = c.loop-i.i in
    let a = c.args in
    let l = c.requires.n_le_list_inputs.3 in
    let met : ℕ → List Cube = λ k. cubes_to (often a.missing a.more) a.n (rows_of a.masks.now a.values.now a.words.now) i k in
    let times = c.times_of-times in
    elim c.if-times-gt0.branch [
      | then-times-gt0 w ↦
          w.acc-is
          ∙ light-more a.n a.w (met o.j) (met (o.j + 1)) (cube_of a.n times.result a.masks.now a.values.now i o.j) o.acc _ o.invariant
          (cubes-put a.missing a.more a.n l i o.j (omega arith) (omega arith) (omega arith) _ times.ensures.value w.if-times-gt0.true)
          w.add_pair.ensures
      | else-times-gt0 w ↦
          w.acc-is ∙ o.invariant
          ∙ ap (light_sums a.n a.w)
          (sym (cubes-pass a.missing a.more a.n l i o.j (omega arith) (omega arith) _ times.ensures.value w.if-times-gt0.false))
    ]

pub loop-i-preserved : goal.loop-i-preserved
loop-i-preserved c =
    let a = c.args in
    rw (row_done a.missing a.more a.n c.requires.n_le_list_inputs.3 c.loop-i.i c.loop-j.j (omega arith)) c.loop-j.invariant

pub returns : goal.returns
returns c =
    let a = c.args in
    c.loop-i.invariant
    ∙ ap (light_sums a.n a.w) (sym (rows-done a.missing a.more a.n c.requires.n_le_list_inputs.3 c.loop-i.i (omega arith)))
