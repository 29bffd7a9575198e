-- `records::row_value` meets its contract: what the arrays give, the records give. Assumes nothing.
use Rattle.std.proofs.Common.{arith}
use Rattle.record_copies.specs.Flat.{gathered-sized}
use Rattle.records.specs.Records.{value-records}
use Rattle.records.proofs.row_value.Goals as goal

pub value_of-requires : goal.value_of-requires
value_of-requires c = (gathered-sized c.gather-flat.ensures, omega arith)

pub returns : goal.returns
returns c =
    value-records c.args.rows.now c.fits-m.ensures c.gather-flat.ensures c.value_of.ensures
