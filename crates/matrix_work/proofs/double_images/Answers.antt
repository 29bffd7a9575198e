use mathlib.Core.Path.{◌≡◌, refl}
use Prim.Native.Nat.{suc, ◌+◌, ◌≤◌, ◌^◌}
use native.Mathlib.Omega.{arith}
use lib.Pow.{pow_mono}
use Rattle.matrix_laws.specs.Images.{images-more}
use borrow.Author.Rules.{rules}
use Rattle.matrix_work.proofs.double_images.Goals as goal

pub loop-z-init : goal.loop-z-init
loop-z-init c =
    let e = c.size-size.ensures in
    let none : 2 ^ c.args.i + 0 ≡ 2 ^ c.args.i = omega arith in
    let twice : 2 ^ suc c.args.i ≤ 2 ^ c.args.n = pow_mono (omega arith) in
    (omega arith, rw none c.requires.images)

pub loop-z-preserved : goal.loop-z-preserved
loop-z-preserved c =
    let i = c.loop-z.invariant in (
      search rules,
      rw c.size-size.ensures (images-more _ _ c.args.i _ _ _ (omega arith) (omega arith) i.1 (omega arith) refl),
    )
