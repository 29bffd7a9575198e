-- `read_names::meet_byte` meets its contract: the byte stands at the place, another one does, or the text has ended. Assumes nothing.
use mathlib.Core.Path.{sym, ◌∙◌}
use Rattle.read_names.specs.Met.{lost-is, byte-met, byte-other, byte_past}
use Rattle.read_names.proofs.meet_byte.Goals as goal
use Rattle.read_names.proofs.meet_byte.Goals.{else-at-text-via-then-at-text+else-text-at, else-at-text-via-else-at-text}

pub returns-then-text-at : goal.returns-then-text-at
returns-then-text-at c = let a = c.args in sym (byte-met a.text.now a.at a.b c.if-at-text.true c.if-text-at.true)

pub returns-else-at-text : goal.returns-else-at-text
returns-else-at-text c =
    let a = c.args in
    elim c.else-at-text.branch [
      | else-at-text-via-then-at-text+else-text-at w ↦ sym (byte-other a.text.now a.at a.b w.if-at-text.true w.if-text-at.false ∙ lost-is)
      | else-at-text-via-else-at-text w ↦ sym (byte_past a.text.now a.at a.b w.if-at-text.false ∙ lost-is)
    ]
