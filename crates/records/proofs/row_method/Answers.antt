-- `records::row_method` meets its contract: what the arrays give, the records give, and the arrays are copied in as records. Assumes nothing.
use Rattle.std.proofs.Common.{arith}
use Rattle.record_copies.specs.Flat.{gathered-sized}
use Rattle.records.specs.Records.{method-records}
use Rattle.records.proofs.row_method.Goals as goal

pub method_of-done-requires : goal.method_of-done-requires
method_of-done-requires c = (gathered-sized c.gather-flat.ensures, omega arith)

pub scatter-requires : goal.scatter-requires
scatter-requires c = (c.method_of-done.ensures.smaller.within, omega (arith, c.method_of-done.ensures.smaller.most))

pub returns : goal.returns
returns c =
    method-records c.args.rows.now c.fits-m.ensures c.gather-flat.ensures c.args.smaller.now _ c.scatter.ensures c.method_of-done.ensures
