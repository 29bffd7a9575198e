-- `records::sheet` meets its contract: what the arrays give, the records give. Assumes nothing.
use Rattle.std.proofs.Common.{arith}
use Rattle.record_copies.specs.Flat.{gathered-sized}
use Rattle.records.specs.Records.{sheet-records}
use Rattle.records.proofs.sheet.Goals as goal

pub sheet_of-requires : goal.sheet_of-requires
sheet_of-requires c = (gathered-sized c.gather-flat.ensures, omega arith)

pub returns : goal.returns
returns c =
    sheet-records c.args.rows.now c.fits-m.ensures c.gather-flat.ensures c.sheet_of.ensures
