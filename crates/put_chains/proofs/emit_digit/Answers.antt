-- `put_chains::emit_digit` meets its contract: a digit of 0 is no input, and one of 1 brings its cover. Assumes nothing.
use Rattle.std.proofs.Common.{◌%◌, eq-eqb}
use Rattle.put_names.specs.Fitting.{none-fitted}
use Rattle.put_chains.specs.Texts.{no_text}
use Rattle.put_chains.proofs.emit_digit.Goals as goal

pub returns-then-rest-eq0-clause-fitted : goal.returns-then-rest-eq0-clause-fitted
returns-then-rest-eq0-clause-fitted c = rw (eq-eqb (c.args.rest % 2) 0 c.if-rest-eq0.true, no_text) (none-fitted _ _)
