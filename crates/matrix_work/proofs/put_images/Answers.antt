use mathlib.Core.Path.{refl}
use native.Mathlib.Omega.{arith}
use lib.Pow.{pow_pos}
use Rattle.matrix_laws.specs.Images.{images-first}
use Rattle.matrix_work.proofs.put_images.Goals as goal

pub loop-i-init : goal.loop-i-init
loop-i-init c =
    images-first _ _ _ c.args.images.now (omega (arith, pow_pos c.args.n)) refl
