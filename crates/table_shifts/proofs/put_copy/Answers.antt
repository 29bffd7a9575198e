use mathlib.Core.Path.{◌≡◌}
use Prim.Native.Nat.{ℕ, ◌<◌, ◌^◌}
use native.Mathlib.Omega.{arith}
use lib.Bits.{bit_xor, xor_lt}
use Rattle.slices.specs.Places.{at}
use Rattle.slices.specs.Filled.{over_none, over-more}
use Rattle.table_words.specs.Matching.{marked}
use Rattle.table_shifts.proofs.put_copy.Goals as goal
use Rattle.table_shifts.proofs.put_copy.Goals.{In-loop-y}

-- the place read lies in the table
within : (c : goal.In-loop-y) → bit_xor c.loop-y.y c.args.low < 2 ^ c.args.n
within c =
    xor_lt c.args.n c.loop-y.y c.args.low (omega arith) c.requires.1

pub loop-y-init : goal.loop-y-init
loop-y-init c = over_none _ _

pub offset_bounds-table-y : goal.offset_bounds-table-y
offset_bounds-table-y c = omega (arith, within (goal.at.offset_bounds-table-y c).In-loop-y)

pub bounds-table-y : goal.bounds-table-y
bounds-table-y c = omega (arith, within (goal.at.bounds-table-y c).In-loop-y)

pub loop-y-preserved : goal.loop-y-preserved
loop-y-preserved c =
    let a = c.args in
    over-more _ (λ (y : ℕ). marked (at a.table.now (bit_xor y a.low))) _ _ _ c.loop-y.invariant c.mark.ensures (omega arith)

pub returns : goal.returns
returns c =
    let end : c.loop-y.y ≡ 2 ^ c.args.n = omega arith in
    rw end at c.loop-y.invariant
