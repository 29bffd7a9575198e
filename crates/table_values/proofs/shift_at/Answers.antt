use mathlib.Core.Path.{◌≡◌, sym, ap, ◌∙◌}
use Prim.Native.Nat.{ℕ, ◌<◌, ◌+◌, ◌^◌}
use native.Mathlib.Nat.{add-zero}
use native.Mathlib.Omega.{arith}
use lib.Bits.{bit_xor, xor_lt}
use lib.ListN.{length}
use lib.Pow.{pow_mono}
use Rattle.sums.specs.Sums.{one, count}
use Rattle.sums.specs.Laws.{count-zero, count-more, count-le}
use Rattle.block.specs.Words.{of_table}
use Rattle.block.specs.Measure.{same, shift}
use Rattle.table_values.specs.Points.{same-hole, same-miss, same-hit}
use Rattle.table_values.proofs.shift_at.Goals as goal
use Rattle.table_values.proofs.shift_at.Goals.{In-loop-x, then-w+then-table-x, else-w, else-w-via-then-w+else-table-x, else-w-via-else-w}

-- x XOR t is a point too
within : (c : goal.In-loop-x) → bit_xor c.loop-x.x c.args.t < 2 ^ c.args.n
within c =
    xor_lt c.args.n c.loop-x.x c.args.t (omega arith) c.requires.1

here : (c : goal.In-loop-x) → c.loop-x.x < length c.args.table.now
here c =
    omega arith

near : (c : goal.In-loop-x) → bit_xor c.loop-x.x c.args.t < length c.args.table.now
near c =
    omega (arith, within c)

-- a turn that adds v, the count's own step
turn : (c : goal.In-loop-x) (r v : ℕ)
    → one (same (of_table c.args.table.now) c.args.t c.loop-x.x) ≡ v
    → r ≡ c.loop-x.r + v
    → r ≡ count (same (of_table c.args.table.now) c.args.t) (c.loop-x.x + 1)
turn c r v h e =
    rw count-more (omega (arith, h))

pub loop-x-init : goal.loop-x-init
loop-x-init c = sym (count-zero _)

pub bounds-table-x-then-w : goal.bounds-table-x-then-w
bounds-table-x-then-w c = omega (arith, within (goal.at.bounds-table-x-then-w c).In-loop-x)

pub overflow_add-r : goal.overflow_add-r
overflow_add-r c =
    omega (
      arith,
      count-le (same (of_table c.args.table.now) c.args.t) c.loop-x.x,
      pow_mono c.requires.2,
    )

pub loop-x-preserved : goal.loop-x-preserved
loop-x-preserved c =
    let l = c.args.table.now in
    let t = c.args.t in
    let x = c.loop-x.x in
    let here : x < length l = omega arith in
    let near : bit_xor x t < length l = near (goal.at.loop-x-preserved c).In-loop-x in
    elim c.if-w.branch [
      | then-w+then-table-x w ↦ turn (goal.at.loop-x-preserved c).In-loop-x _ 1 (same-hit l t x here near w.if-w.true w.if-table-x.true) w.r-is
      | else-w w ↦
          turn (goal.at.loop-x-preserved c).In-loop-x _ 0
          (elim w.else-w.branch [
            | else-w-via-then-w+else-table-x v ↦ same-miss l t x here near v.if-table-x.false
            | else-w-via-else-w v ↦ same-hole l t x here v.if-w.false
          ])
          (w.r-is ∙ sym (add-zero _))
    ]

pub returns : goal.returns
unfolding shift
returns c = c.loop-x.invariant ∙ ap (count (same _ _)) (omega arith)
