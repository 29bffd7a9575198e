-- `put_outputs::emit_output` meets its contract: the six pieces, one after the other, are the cover. Assumes nothing.
use Rattle.put_names.specs.Fitting.{next}
use Rattle.put_outputs.specs.Outputs.{output-text}
use Rattle.put_outputs.proofs.emit_output.Goals as goal

pub returns-clause-fact : goal.returns-clause-fact
returns-clause-fact c =
    rw output-text
    (next c.emit_bytes-a.ensures.fitted
    (next c.emit_names-b.ensures.fitted
    (next c.emit-c.ensures.fitted
    (next c.emit_name-d.ensures.fitted (next c.emit-e.ensures.fitted c.emit_patterns.ensures.fact)))))
