-- `records::disjoin_rows` meets its contract: what the arrays give, the records give, and the arrays are copied in as records. Assumes nothing.
use Rattle.std.proofs.Common.{arith}
use Rattle.record_copies.specs.Flat.{gathered-sized}
use Rattle.records.specs.Records.{disjoin-records}
use Rattle.records.proofs.disjoin_rows.Goals as goal

pub disjoin_of-done-requires : goal.disjoin_of-done-requires
disjoin_of-done-requires c = (gathered-sized c.gather-flat.ensures, omega arith)

pub scatter-requires : goal.scatter-requires
scatter-requires c = (c.disjoin_of-done.ensures.rows.within, omega (arith, c.disjoin_of-done.ensures.rows.most))

pub returns : goal.returns
returns c =
    disjoin-records c.args.rows.now c.fits-m.ensures c.gather-flat.ensures c.args.disjoint.now _ c.scatter.ensures c.disjoin_of-done.ensures
