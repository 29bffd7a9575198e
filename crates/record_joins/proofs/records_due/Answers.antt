-- `record_joins::records_due` meets its contract, in its two branches. Assumes nothing.
use borrow.Author.Tests.{eq-eqb, ne_eqb}
use Rattle.record_joins.proofs.records_due.Goals as goal

pub returns-then-answer-eq0 : goal.returns-then-answer-eq0
returns-then-answer-eq0 c = rw (eq-eqb _ _ c.if-answer-eq0.true)

pub returns-else-answer-eq0 : goal.returns-else-answer-eq0
returns-else-answer-eq0 c = rw (ne_eqb _ _ c.if-answer-eq0.false)
