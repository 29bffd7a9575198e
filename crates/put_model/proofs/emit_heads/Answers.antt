-- `put_model::emit_heads` meets its contract: the five pieces, one after the other, are the three lines. Assumes nothing.
use Rattle.put_names.specs.Fitting.{next}
use Rattle.put_model.proofs.emit_heads.Goals as goal

pub returns-clause-fitted : goal.returns-clause-fitted
returns-clause-fitted c =
    next c.emit_bytes-a.ensures.fitted
    (next c.emit_names-b.ensures.fitted
    (next c.emit_bytes-c.ensures.fitted (next c.emit_names-d.ensures.fitted c.emit.ensures.fitted)))
