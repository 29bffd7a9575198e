use mathlib.Core.Path.{◌≡◌, refl}
use Prim.Native.Nat.{◌+◌, ◌≤◌, ◌<◌, ◌^◌}
use native.Mathlib.Omega.{arith}
use lib.ListN.{length, length-set}
use lib.Pow.{pow_pos, pow_mono}
use Rattle.block.specs.Basis.{columns}
use Rattle.block.specs.Symmetric.{gray_column}
use Rattle.matrix_laws.specs.Images.{images-first}
use Rattle.symmetric_work.specs.Points.{laid-images, laid-held, laid-again, laid-first, column-of}
use borrow.Author.Rules.{rules}
use Rattle.symmetric_work.proofs.put_points.Goals as goal

pub loop-i-init : goal.loop-i-init
loop-i-init c =
    let l = c.args.out.now in
    let b : 0 < length l = omega (arith, pow_pos c.args.n) in
    laid-held c.args.n 1 _ (omega (arith, length-set l 0 0)) (images-first _ _ _ l b refl)

pub double_points-requires : goal.double_points-requires
double_points-requires c =
    let e = length-set c.args.out.now 0 0 in (
      search rules,
      c.requires.0,
      omega arith,
      column-of _ _ c.gray_columns-by_columns.ensures (omega arith),
      laid-images c.args.n _ _ _ c.loop-i.invariant,
    )

pub loop-i-preserved : goal.loop-i-preserved
loop-i-preserved c =
    let l = c.loop-i in
    let e = length-set c.args.out.now 0 0 in
    let more : 2 ^ l.i ≤ 2 ^ (l.i + 1) = pow_mono (omega arith) in
    let most : 2 ^ (l.i + 1) ≤ 2 ^ c.args.n = pow_mono (omega arith) in
    laid-again (columns gray_column c.args.n) _ _ _ l.out _ more (omega arith) l.invariant c.double_points.ensures

pub returns : goal.returns
returns c =
    let l = c.args.out.now in
    let end : c.loop-i.i ≡ c.args.n = omega arith in
    let b : 0 < length l = omega (arith, pow_pos c.args.n) in
    laid-again (columns gray_column c.args.n) 1 _ l _ _ (omega (arith, pow_pos c.args.n)) c.requires.1 (laid-first c.args.n 0 l b refl) (rw end at c.loop-i.invariant)
