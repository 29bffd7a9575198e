-- `records::join_rows` meets its contract: what the arrays give, the records give, and the arrays are copied in as records. Assumes nothing.
use Rattle.std.proofs.Common.{arith}
use Rattle.record_copies.specs.Flat.{gathered-sized}
use Rattle.records.specs.Records.{join-records}
use Rattle.records.proofs.join_rows.Goals as goal

pub join_of-done-requires : goal.join_of-done-requires
join_of-done-requires c = (gathered-sized c.gather-flat.ensures, omega arith)

pub scatter-requires : goal.scatter-requires
scatter-requires c = (c.join_of-done.ensures.rows.within, omega (arith, c.join_of-done.ensures.rows.most))

pub returns : goal.returns
returns c =
    join-records c.args.rows.now _ c.fits-m.ensures c.gather-flat.ensures c.scatter.ensures c.join_of-done.ensures
