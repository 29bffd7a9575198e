use mathlib.Core.Path.{sym}
use Prim.Native.Nat.{◌-◌}
use native.Mathlib.Omega.{arith}
use lib.ListN.{length}
use Rattle.block.specs.Limits.{smaller_rows}
use Rattle.filling.specs.Points.{table_none, table-all, sound-row, table-row}
use Rattle.flat_rows.specs.Listing.{rows-count}
use borrow.Author.Rules.{rules}
use Rattle.filling.proofs.fill_rows.Goals as goal

pub loop-i-init : goal.loop-i-init
loop-i-init c =
    let l = c.requires.n_le_table_inputs.2 in
    table_none _ _ _ _ (length c.args.masks.now) _ _ c.size.ensures (sym (rows-count c.args.masks.now c.args.values.now c.args.words.now l.values-too l.words-too))
    c.clear.ensures

pub put_row-requires : goal.put_row-requires
put_row-requires c =
    (search rules, search rules, sound-row c.args.n smaller_rows c.args.masks.now c.args.values.now c.args.words.now c.requires.n_le_table_inputs.2 _ (omega arith) c.requires.every)

pub loop-i-preserved : goal.loop-i-preserved
loop-i-preserved c =
    let l = c.loop-i in
    table-row c.args.n smaller_rows c.args.masks.now c.args.values.now c.args.words.now c.requires.n_le_table_inputs.2 (l.i - 1) (omega arith)
    c.args.missing l.i _ _ _ (omega arith) (search rules) l.invariant c.put_row.ensures

pub returns : goal.returns
returns c = table-all _ _ _ _ c.loop-i.i _ _ _ c.size.ensures (omega arith) c.clear.ensures c.loop-i.invariant
