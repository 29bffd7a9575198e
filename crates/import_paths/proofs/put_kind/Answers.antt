-- `import_paths::put_kind` meets its contract: the bytes of either kind, by cases. Assumes nothing.
use native.Mathlib.Omega.{arith}
use Rattle.import_paths.specs.Path.{kind_of}
use borrow.Author.Rules.{rules}
use Rattle.import_paths.proofs.put_kind.Goals as goal

pub put_bytes-requires : goal.put_bytes-requires
unfolding kind_of
put_bytes-requires c = omega (arith, rw c.if-model.true at c.requires)

pub returns-then-model : goal.returns-then-model
unfolding kind_of
returns-then-model c = rw c.if-model.true c.put_bytes.ensures

pub put_bytes-requires-2 : goal.put_bytes-requires-2
unfolding kind_of
put_bytes-requires-2 c = omega (arith, rw c.if-model.false at c.requires)

pub returns : goal.returns
unfolding kind_of
returns c = rw c.if-model.false c.put_bytes-2.ensures
