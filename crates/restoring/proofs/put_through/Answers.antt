use mathlib.Core.Path.{◌≡◌, ap, ◌∙◌}
use Prim.Native.Nat.{ℕ, ◌<◌, ◌^◌}
use native.Mathlib.Omega.{arith}
use lib.Pow.{pow_mono}
use Rattle.slices.specs.Places.{at}
use Rattle.slices.specs.Filled.{over_none, over-more, get_d_any}
use Rattle.block.specs.Words.{none, of_table}
use Rattle.block.specs.Basis.{columns}
use Rattle.matrix_laws.specs.Linear.{columns-lt}
use borrow.Author.Rules.{rules}
use Rattle.restoring.proofs.put_through.Goals as goal
use Rattle.restoring.proofs.put_through.Goals.{In-loop-z}

-- the place read: the matrix's value at z, which lies in the table
value : (c : goal.In-loop-z) → c.loop-z.z < 2 ^ c.args.n
    → at c.put_images.new.images c.loop-z.z
    ≡ columns (at c.args.by_columns.now) c.args.n c.loop-z.z
value c h =
    c.put_images.ensures.each c.loop-z.z h

within : (c : goal.In-loop-z) → c.loop-z.z < 2 ^ c.args.n
    → at c.put_images.new.images c.loop-z.z < 2 ^ c.args.n
within c h =
    rw (value c h) (columns-lt _ _ _ _ c.requires.4)

pub put_images-requires : goal.put_images-requires
put_images-requires c = (search rules, search rules, pow_mono c.requires.1)

pub loop-z-init : goal.loop-z-init
loop-z-init c = over_none _ _

pub bounds-images-z : goal.bounds-images-z
bounds-images-z c = omega (arith, pow_mono c.requires.1)

pub bounds-table-images : goal.bounds-table-images
bounds-table-images c = omega (arith, within (goal.at.bounds-table-images c).In-loop-z (omega arith))

pub loop-z-preserved : goal.loop-z-preserved
loop-z-preserved c =
    over-more _ (λ (z : ℕ). of_table c.args.table.now (columns (at c.args.by_columns.now) c.args.n z)) _ _ _ c.loop-z.invariant
    (get_d_any c.args.table.now 0 none _ (omega (arith, within (goal.at.loop-z-preserved c).In-loop-z (omega arith))) ∙ ap (of_table c.args.table.now) (value (goal.at.loop-z-preserved c).In-loop-z (omega arith))) (omega arith)
