-- `import_paths::put_count` meets its contract: nothing is put for the first name. Assumes nothing.
use borrow.Author.Tests.{lt-ltb, le-ltb}
use native.Mathlib.Omega.{arith}
use Rattle.put_bytes.specs.Puts.{none-put}
use Rattle.import_paths.specs.Path.{counted}
use borrow.Author.Rules.{rules}
use Rattle.import_paths.proofs.put_count.Goals as goal

pub returns-then-k-lt2 : goal.returns-then-k-lt2
unfolding counted
returns-then-k-lt2 c = rw (lt-ltb _ 2 c.if-k-lt2.true) (none-put _ _)

pub put_decimal-requires : goal.put_decimal-requires
unfolding counted
put_decimal-requires c = omega (arith, rw (le-ltb _ 2 c.if-k-lt2.false) at c.requires)

pub returns : goal.returns
unfolding counted
returns c = rw (le-ltb _ 2 c.if-k-lt2.false) c.put_decimal.ensures
