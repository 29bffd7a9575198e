-- `restoring::put_restored` meets its contract: the smaller table, read through the columns of sigma, is the restored table.
-- Assumes nothing.
use Rattle.restoring.specs.Through.{laid-lt, restored-through}
use borrow.Author.Rules.{rules}
use Rattle.restoring.proofs.put_restored.Goals as goal

pub put_through-requires : goal.put_through-requires
put_through-requires c = (
  c.requires.0,
  c.requires.1,
  search rules,
  c.requires.3,
  laid-lt c.args.n c.args.sigma.now _ _ c.put_columns.ensures,
)

pub returns : goal.returns
returns c =
    restored-through c.args.n c.args.sigma.now _ _ c.put_columns.ensures
    c.args.table.now _ _ c.put_through.ensures
