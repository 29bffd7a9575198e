-- `records::write_text` meets its contract: what the arrays give, the records give. Assumes nothing.
use Rattle.std.proofs.Common.{arith}
use Rattle.record_copies.specs.Flat.{gathered-sized}
use Rattle.records.specs.Records.{write-records}
use Rattle.records.proofs.write_text.Goals as goal

pub write_of-requires : goal.write_of-requires
write_of-requires c = (gathered-sized c.gather-flat.ensures, omega arith)

pub returns : goal.returns
returns c =
    write-records c.args.rows.now c.fits-m.ensures c.gather-flat.ensures c.write_of.ensures
