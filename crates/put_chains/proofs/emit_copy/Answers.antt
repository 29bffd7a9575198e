-- `put_chains::emit_copy` meets its contract: the five pieces, one after the other, are the cover. Assumes nothing.
use Rattle.put_names.specs.Fitting.{next}
use Rattle.put_chains.specs.Texts.{copy-text}
use Rattle.put_chains.proofs.emit_copy.Goals as goal

pub returns-clause-fitted : goal.returns-clause-fitted
returns-clause-fitted c =
    rw copy-text
    (next c.emit_bytes-s.ensures.fitted
    (next c.emit_name-t.ensures.fitted
    (next c.emit-u.ensures.fitted (next c.emit_name-v.ensures.fitted c.emit_bytes.ensures.fitted))))
