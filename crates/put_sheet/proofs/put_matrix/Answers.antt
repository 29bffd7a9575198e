use Rattle.std.proofs.Common.{◌≡◌, length, arith}
use Rattle.std.proofs.Math.Seq.{take-length}
use Rattle.put_bytes.specs.Puts.{then, none-put}
use Rattle.put_sheet.specs.Length.{line-within}
use Rattle.put_sheet.specs.Lines.{matrix-none, matrix-more}
use Rattle.put_sheet.proofs.put_matrix.Goals as goal

pub loop-number-init : goal.loop-number-init
loop-number-init c = rw matrix-none (none-put _ _)

pub put_matrix_line-to-requires : goal.put_matrix_line-to-requires
put_matrix_line-to-requires c =
    let a = c.args in
    omega (arith, line-within a.n c.loop-number.number-index a.numbers.now (omega arith))

pub loop-number-preserved : goal.loop-number-preserved
loop-number-preserved c =
    let a = c.args in
    rw (matrix-more a.n c.loop-number.number-index a.numbers.now (omega arith)) (then c.loop-number.invariant c.put_matrix_line-to.ensures)

pub returns : goal.returns
returns c =
    let e : c.loop-number.number-index ≡ length c.args.numbers.now = omega arith in
    rw (e, take-length) at c.loop-number.invariant
