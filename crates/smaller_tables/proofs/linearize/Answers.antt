-- `smaller_tables::linearize` meets its contract: R at the numbers of few one-bits, laid by the places of the walk, the choice by it,
-- and the smaller table are the work. Assumes nothing.
use Prim.Native.Nat.{◌^◌}
use native.Mathlib.Omega.{arith}
use lib.ListN.{replicate}
use lib.Pow.{pow_mono}
use Rattle.block.specs.Limits.{table_inputs}
use Rattle.block.specs.Words.{of_table}
use Rattle.block.specs.Measure.{shift}
use Rattle.choice_laws.specs.Chosen.{Agree}
use Rattle.walks.specs.Walk.{Walked, value_at, walked, walked-lt, walk-below}
use Rattle.smaller_tables.specs.Work.{laid-agree, column-lt, worked}
use borrow.Author.Rules.{rules}
use Rattle.smaller_tables.proofs.linearize.Goals as goal
use Rattle.smaller_tables.proofs.linearize.Goals.{After-put_values, After-put_walk-count}

-- the walk that was put
laid : (c : goal.After-put_walk-count) → Walked c.args.n c.args.w c.put_walk-count.new.out c.put_walk-count.result
laid c =
    let a = c.args in
    walked a.n a.w (replicate (2 ^ table_inputs) 0) _ _ c.put_walk-count.ensures.out_after c.put_walk-count.ensures.value

-- the values that were put agree with R
agree : (c : goal.After-put_values) → Agree (value_at c.put_walk-count.new.out c.put_values.new.out c.put_walk-count.result)
    (shift (of_table c.args.table.now) c.args.n)
    c.args.n c.args.w
agree c =
    let a = c.args in
    laid-agree (of_table a.table.now) a.n a.w _ _ _ _ _ c.shifts_of.ensures (walked a.n a.w (replicate (2 ^ table_inputs) 0) _ _ c.put_walk-count.ensures.out_after c.put_walk-count.ensures.value)
    c.put_values.ensures

pub shifts_of-requires : goal.shifts_of-requires
shifts_of-requires c = (c.requires.0, c.requires.1, pow_mono c.requires.1, c.requires.7)

pub put_walk-count-requires : goal.put_walk-count-requires
put_walk-count-requires c = (omega (arith, walk-below c.args.n c.args.w, pow_mono c.requires.1), omega arith, c.requires.3)

pub put_values-requires : goal.put_values-requires
put_values-requires c =
    let e = c.put_walk-count.auto.out in
    let d = c.shifts_of.auto.out in
    let h = laid (goal.at.put_values-requires c).After-put_walk-count in
    let small = pow_mono c.requires.1 in
    (omega (arith, e, h.short, small), omega (arith, h.short, small), λ i b. omega (arith, walked-lt _ _ _ _ h i b, d, small))

pub choose_basis-measures-requires : goal.choose_basis-measures-requires
choose_basis-measures-requires c =
    let e = c.put_walk-count.auto.out in
    let d = c.put_values.auto.out in
    let count = c.put_walk-count.ensures.value in
    let below = walk-below c.args.n c.args.w in
    let small = pow_mono c.requires.1 in record {
      count_in_bounds = (omega (arith, e, count, below, small), omega (arith, d, count, below, small), search rules, search rules, search rules, c.requires.2);
      walked = laid (goal.at.choose_basis-measures-requires c).After-put_walk-count;
    }

pub put_through-requires : goal.put_through-requires
put_through-requires c =
    let a = c.args in (
      c.requires.0,
      c.requires.1,
      search rules,
      search rules,
      column-lt (of_table a.table.now) a.n a.w c.requires.2 _ (agree (goal.at.put_through-requires c).After-put_values) _ _ c.choose_basis-measures.ensures.basis,
    )

pub returns : goal.returns
returns c =
    let a = c.args in
    worked (of_table a.table.now) a.n a.w c.requires.2 _ (agree (goal.at.returns c).After-put_values) _ _ _ _ _ _ _ c.choose_basis-measures.ensures
    c.put_through.ensures
