use mathlib.Core.Path.{◌≡◌, sym, ◌∙◌}
use Prim.Native.Nat.{◌-◌, ◌/◌, ◌^◌}
use native.Mathlib.Omega.{arith}
use lib.ListN.{length}
use lib.Pow.{pow_mono}
use Rattle.sums.specs.Laws.{sum-zero, sum_more}
use Rattle.table_words.specs.Matching.{pair_adds, number-of-blocks}
use Rattle.table_shifts.specs.Blocks.{shift-blocks, pairs_small}
use Rattle.table_shifts.proofs.shift_by_blocks.Goals as goal
use Rattle.table_shifts.proofs.shift_by_blocks.Goals.{At-loop-b}

number : (c : goal.At-loop-b) → length c.args.table.now / 64 ≡ 2 ^ (c.args.n - 6)
number c =
    let h = c.requires.0.full in
    number-of-blocks _ _ h.least h.entries

pub loop-b-init : goal.loop-b-init
loop-b-init c = sym (sum-zero _)

pub blocks_add-r-requires : goal.blocks_add-r-requires
blocks_add-r-requires c =
    let h = c.requires in
    (h.0.full.entries, h.0.full.least, h.0.room, h.1, omega (arith, number (goal.at.blocks_add-r-requires c).At-loop-b))

pub overflow_add-r : goal.overflow_add-r
overflow_add-r c =
    let f = pair_adds c.args.table.now c.args.copy.now c.args.high in
    let b = c.loop-b.b in
    omega (
      arith,
      sum_more f b,
      pairs_small _ _ _ _ _ c.requires.0 c.requires.1 b (omega (arith, number (goal.at.overflow_add-r c).At-loop-b)),
      c.blocks_add-r.ensures,
      pow_mono c.requires.0.full.most,
    )

pub loop-b-preserved : goal.loop-b-preserved
loop-b-preserved c =
    rw sum_more (omega (arith, c.blocks_add-r.ensures))

pub returns : goal.returns
returns c =
    let end : c.loop-b.b ≡ 2 ^ (c.args.n - 6) = omega (arith, number (goal.at.returns c).At-loop-b) in
    (rw end at c.loop-b.invariant) ∙ sym (shift-blocks _ _ _ _ _ c.requires.0 c.requires.1)
