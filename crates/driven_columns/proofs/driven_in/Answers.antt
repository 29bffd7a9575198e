use mathlib.Core.Path.{refl}
use native.Mathlib.Omega.{arith}
use Rattle.driven_columns.specs.Columns.{gathered_none, gathered-more, gathered-all}
use Rattle.driven_columns.proofs.driven_in.Goals as goal

pub loop-word-init : goal.loop-word-init
loop-word-init c = gathered_none _ 0 refl

pub loop-word-preserved : goal.loop-word-preserved
loop-word-preserved c = gathered-more c.args.words.now c.loop-word.word-index _ c.loop-word.all (omega arith) c.loop-word.invariant

pub returns : goal.returns
returns c = gathered-all c.args.words.now _ c.loop-word.all (omega arith) c.loop-word.invariant
