use mathlib.Core.Path.{◌≡◌, ap, ◌∙◌}
use Prim.Native.Nat.{◌<◌, ◌^◌}
use native.Mathlib.Omega.{arith}
use lib.ListN.{get_or}
use Rattle.slices.specs.Places.{tab, over}
use Rattle.slices.specs.Filled.{over_none, over-more, over-over}
use Rattle.block.specs.Words.{of_table}
use Rattle.block.specs.Basis.{columns, smaller}
use Rattle.block.specs.Symmetric.{gray_column}
use Rattle.symmetric_work.specs.Points.{laid-images, still, point-lt, entry_at}
use Rattle.symmetric_work.proofs.put_gray.Goals as goal
use Rattle.symmetric_work.proofs.put_gray.Goals.{In-loop-z}

pub loop-z-init : goal.loop-z-init
loop-z-init c = over_none _ _

-- what is read is T z, a point of the table
point : (c : goal.In-loop-z) → get_or c.loop-z.out c.loop-z.z 0
    ≡ columns gray_column c.args.n c.loop-z.z
point c =
    let l = c.loop-z in
    still _ _ _ l.z l.z _ l.out (laid-images c.args.n _ _ _ c.put_points.ensures) l.invariant (omega arith) (omega (arith, c.requires.0))

within : (c : goal.In-loop-z) → get_or c.loop-z.out c.loop-z.z 0 < 2 ^ c.args.n
within c =
    point-lt _ _ _ (point c)

pub bounds-table-out : goal.bounds-table-out
bounds-table-out c = omega (arith, within (goal.at.bounds-table-out c).In-loop-z, c.requires.0)

pub loop-z-preserved : goal.loop-z-preserved
loop-z-preserved c =
    let l = c.loop-z in
    over-more _ (smaller (of_table c.args.table.now) gray_column c.args.n) _ _ _ l.invariant
    (entry_at c.args.table.now c.args.n l.z _ c.requires.0 (point (goal.at.loop-z-preserved c).In-loop-z)) (omega arith)

pub returns : goal.returns
returns c =
    let end : c.loop-z.z ≡ 2 ^ c.args.n = omega (arith, c.requires.0) in
    rw end at c.loop-z.invariant
    ∙ ap (over (tab (2 ^ c.args.n) (smaller (of_table c.args.table.now) gray_column c.args.n))) c.put_points.ensures
    ∙ over-over (2 ^ c.args.n) _ _ c.args.out.now
