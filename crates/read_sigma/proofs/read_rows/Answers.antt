use native.Mathlib.Omega.{arith}
use Rattle.std.proofs.lemmas.Result.{err_from_is_err_and}
use Rattle.read_sigma.specs.Rows.{Rows, rows-first, rows-stop, rows_more, rows_all}
use Rattle.read_sigma.proofs.read_rows.Goals as goal

pub loop-i-init : goal.loop-i-init
loop-i-init c = let a = c.args in rows-first a.text.now a.n a.at a.sigma.now (omega arith)

pub returns-in_err-row : goal.returns-in_err-row
unfolding Rows
returns-in_err-row c =
    let p = err_from_is_err_and c.from_residual.result c.from_residual.ensures.1 in
    rw (p.1, p.2) (rows-stop c.loop-i.invariant (omega arith) _ c.in_err-row.ensures)

pub loop-i-preserved : goal.loop-i-preserved
loop-i-preserved c = rows_more c.loop-i.invariant (omega arith) c.in_ok-row.row c.in_ok-row.next c.in_ok-row.ensures _ c.store.ensures

pub returns : goal.returns
unfolding Rows
returns c = rows_all c.loop-i.invariant (omega arith)
