-- `put_model::emit_model` meets its contract: the first lines, the rows of sigma, the outputs and the last line are the model. Assumes
-- nothing.
use Rattle.put_names.specs.Fitting.{next}
use Rattle.put_model.specs.Whole.{model-text}
use Rattle.put_model.proofs.emit_model.Goals as goal

pub returns : goal.returns
returns c =
    rw model-text
    (next c.emit_heads-a.ensures.fitted
    (next c.emit_front-b.ensures.fitted (next c.emit_back-c.ensures.fact c.emit_bytes.ensures.fitted)))
