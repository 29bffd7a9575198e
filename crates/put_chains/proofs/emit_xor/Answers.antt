-- `put_chains::emit_xor` meets its contract: the seven pieces, one after the other, are the cover. Assumes nothing.
use Rattle.put_names.specs.Fitting.{next}
use Rattle.put_chains.specs.Texts.{xor-text}
use Rattle.put_chains.proofs.emit_xor.Goals as goal

pub returns-clause-fitted : goal.returns-clause-fitted
returns-clause-fitted c =
    rw xor-text
    (next c.emit_bytes-s.ensures.fitted
    (next c.emit_from-t.ensures.fitted
    (next c.emit-u.ensures.fitted
    (next c.emit_name-v.ensures.fitted
    (next c.emit-w.ensures.fitted (next c.emit_to-x.ensures.fitted c.emit_bytes.ensures.fitted))))))
