-- `put_chains::emit_link` meets its contract: a row's first input brings a copy where it is the last too, and else nothing yet; any other
-- brings a XOR. Assumes nothing.
use Rattle.std.proofs.Common.{eq-eqb}
use Rattle.put_names.specs.Fitting.{none-fitted}
use Rattle.put_chains.specs.Texts.{no_text}
use Rattle.put_chains.proofs.emit_link.Goals as goal

pub returns-then-q-eq0-clause-fitted : goal.returns-then-q-eq0-clause-fitted
returns-then-q-eq0-clause-fitted c = rw (eq-eqb c.args.q 0 c.if-q-eq0.true, c.if-last.false, no_text) (none-fitted _ _)
