use mathlib.Core.Path.{◌≡◌, sym, ◌∙◌}
use Prim.Native.Nat.{◌<◌, ◌-◌, ◌+◌, ◌*◌, ◌/◌, ◌^◌}
use native.Mathlib.Omega.{arith}
use lib.ListN.{length, replicate}
use lib.Pow.{pow_mono}
use Rattle.block.specs.Limits.{table_inputs}
use Rattle.table_words.specs.Matching.{number-of-blocks, point-lt, whole}
use Rattle.table_shifts.specs.Blocks.{copy-made}
use Rattle.table_shifts.specs.Light.{low-none, low-more, low-skip}
use Rattle.table_shifts.proofs.shifts_at_low.Goals as goal
use Rattle.table_shifts.proofs.shifts_at_low.Goals.{At-loop-high, In-loop-high, then-has_few, else-has_few}

number : (c : goal.At-loop-high) → length c.args.table.now / 64 ≡ 2 ^ (c.args.n - 6)
number c =
    number-of-blocks _ _ c.requires.0.least c.requires.0.entries

-- the place written is one of the table's points
within : (c : goal.In-loop-high) → c.loop-high.high * 64 + c.args.low < 2 ^ c.args.n
within c =
    point-lt c.args.n c.loop-high.high c.args.low c.requires.0.least (omega (arith, (let it : length c.args.table.now / 64 ≡ 2 ^ (c.args.n - 6) = number-of-blocks _ _ c.requires.0.least c.requires.0.entries in it))) c.requires.1

pub put_copy-requires : goal.put_copy-requires
put_copy-requires c =
    let h = c.requires in
    (h.0.entries, omega (arith, pow_mono h.0.least), pow_mono h.0.most)

pub loop-high-init : goal.loop-high-init
loop-high-init c = low-none _ _ _ _

pub overflow_mul-t : goal.overflow_mul-t
overflow_mul-t c = omega (arith, within (goal.at.overflow_mul-t c).In-loop-high)

pub overflow_add-t : goal.overflow_add-t
overflow_add-t c = omega (arith, within (goal.at.overflow_add-t c).In-loop-high)

pub has_few-requires : goal.has_few-requires
has_few-requires c = omega (arith, within (goal.at.has_few-requires c).In-loop-high, pow_mono c.requires.0.most)

pub shift_by_blocks-requires : goal.shift_by_blocks-requires
shift_by_blocks-requires c = (
  copy-made _ _ (replicate (2 ^ table_inputs) 0) _ _ c.requires.0 c.requires.1 (pow_mono c.requires.0.most) c.put_copy.ensures,
  omega (arith, number (goal.at.shift_by_blocks-requires c).At-loop-high),
)

pub offset_bounds-out-t : goal.offset_bounds-out-t
offset_bounds-out-t c = omega (arith, within (goal.at.offset_bounds-out-t c).In-loop-high)

pub bounds-out-t : goal.bounds-out-t
bounds-out-t c = omega (arith, within (goal.at.bounds-out-t c).In-loop-high, c.loop-high.invariant.size)

pub loop-high-preserved : goal.loop-high-preserved
loop-high-preserved c =
    let o = c.loop-high in
    (let near : o.high * 64 + c.args.low < 2 ^ c.args.n = within (goal.at.loop-high-preserved c).In-loop-high in
    elim c.if-has_few.branch [
      | then-has_few a ↦
          low-more _ c.args.w c.args.low o.high _ _ _ c.requires.1 o.invariant _ (omega (arith, near)) a.shift_by_blocks.ensures a.out-is
      | else-has_few a ↦ low-skip _ c.args.w c.args.low o.high _ _ _ c.requires.1 o.invariant (sym c.has_few.ensures ∙ a.if-has_few.false) a.out-is
    ])

pub shape_of-out : goal.shape_of-out
shape_of-out c = c.loop-high.invariant.size

pub returns : goal.returns
returns c =
    let end : c.loop-high.high * 64 ≡ 2 ^ c.args.n =
    omega (arith, number (goal.at.returns c).At-loop-high, whole c.args.n c.requires.0.least) in
    rw end at c.loop-high.invariant
