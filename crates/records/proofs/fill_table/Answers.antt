-- `records::fill_table` meets its contract: what the arrays give, the records give. Assumes nothing.
use Rattle.std.proofs.Common.{arith}
use Rattle.record_copies.specs.Flat.{gathered-sized}
use Rattle.records.specs.Records.{fill-records}
use Rattle.records.proofs.fill_table.Goals as goal

pub fill_of-requires : goal.fill_of-requires
fill_of-requires c = (gathered-sized c.gather-flat.ensures, omega arith)

pub returns : goal.returns
returns c =
    fill-records c.args.rows.now c.fits-m.ensures c.gather-flat.ensures c.fill_of.ensures
