-- `put_names::emit_part` meets its contract: the row's name, an underscore, and the number of the part. Assumes nothing.
use Rattle.put_names.specs.Fitting.{next}
use Rattle.put_names.proofs.emit_part.Goals as goal

pub returns-clause-fitted : goal.returns-clause-fitted
returns-clause-fitted c = next c.emit_name-a.ensures.fitted (next c.emit-b.ensures.fitted c.emit_number.ensures.fitted)
