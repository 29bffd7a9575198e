-- `records::read_text` meets its contract: the arrays are copied in as records. Assumes nothing.
use Rattle.std.proofs.Common.{arith}
use Rattle.records.specs.Records.{read-records}
use Rattle.records.proofs.read_text.Goals as goal

pub scatter-requires : goal.scatter-requires
scatter-requires c = (c.read_of-read.ensures.rows.within, omega (arith, c.read_of-read.ensures.rows.most))

pub returns : goal.returns
returns c =
    read-records c.args.rows.now _ c.scatter.ensures c.read_of-read.ensures
