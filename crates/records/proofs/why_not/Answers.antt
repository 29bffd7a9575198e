-- `records::why_not` meets its contract: what the arrays give, the records give. Assumes nothing.
use Rattle.std.proofs.Common.{arith}
use Rattle.record_copies.specs.Flat.{gathered-sized}
use Rattle.records.specs.Records.{why-records}
use Rattle.records.proofs.why_not.Goals as goal

pub why_of-requires : goal.why_of-requires
why_of-requires c = (gathered-sized c.gather-flat.ensures, omega arith)

pub returns : goal.returns
returns c =
    why-records c.args.rows.now c.fits-m.ensures c.gather-flat.ensures c.why_of.ensures
