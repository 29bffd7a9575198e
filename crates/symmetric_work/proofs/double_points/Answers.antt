use mathlib.Core.Path.{◌≡◌}
use Prim.Native.Nat.{suc, ◌+◌, ◌≤◌, ◌^◌}
use native.Mathlib.Omega.{arith}
use lib.Pow.{pow_mono}
use Rattle.slices.specs.Filled.{over-more}
use Rattle.block.specs.Basis.{columns}
use Rattle.block.specs.Symmetric.{gray_column}
use Rattle.symmetric_work.specs.Points.{laid-images, laid-held, next-value}
use Rattle.symmetric_work.proofs.double_points.Goals as goal

pub loop-z-init : goal.loop-z-init
loop-z-init c =
    let e = c.size-size.ensures in
    let none : 2 ^ c.args.i + 0 ≡ 2 ^ c.args.i = omega arith in
    let twice : 2 ^ suc c.args.i ≤ 2 ^ c.args.n = pow_mono (omega arith) in
    rw none (laid-held c.args.n _ _ (omega arith) c.requires.4)

pub bounds-out-z : goal.bounds-out-z
bounds-out-z c =
    let twice : 2 ^ suc c.args.i ≤ 2 ^ c.args.n = pow_mono (omega arith) in
    omega (arith, c.size-size.ensures)

pub bounds-out-size : goal.bounds-out-size
bounds-out-size c =
    let twice : 2 ^ suc c.args.i ≤ 2 ^ c.args.n = pow_mono (omega arith) in
    omega (arith, c.size-size.ensures)

pub loop-z-preserved : goal.loop-z-preserved
loop-z-preserved c =
    let l = c.loop-z in
    let size = c.size-size.ensures in
    let twice : 2 ^ suc c.args.i ≤ 2 ^ c.args.n = pow_mono (omega arith) in
    let more : 2 ^ c.args.i + l.z + 1 ≡ 2 ^ c.args.i + (l.z + 1) = omega arith in
    rw size
    (rw more at
    (over-more (2 ^ c.args.i + l.z) (columns gray_column c.args.n) c.args.out.now l.out _ l.invariant
    (next-value c.args.n c.args.i l.z _ _ (omega arith) (omega arith)
    ((laid-images c.args.n _ c.args.out.now l.out l.invariant).each l.z (omega arith)) c.requires.3) (omega arith)))
