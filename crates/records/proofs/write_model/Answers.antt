-- `records::write_model` meets its contract: what the arrays give, the records give. Assumes nothing.
use Rattle.std.proofs.Common.{arith}
use Rattle.record_copies.specs.Flat.{gathered-sized}
use Rattle.records.specs.Records.{model-records}
use Rattle.records.proofs.write_model.Goals as goal

pub model_of-requires : goal.model_of-requires
model_of-requires c = (gathered-sized c.gather-flat.ensures, omega arith)

pub returns : goal.returns
returns c =
    model-records c.args.rows.now c.fits-m.ensures c.gather-flat.ensures c.model_of.ensures
