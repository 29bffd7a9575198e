-- `spectrum_work::put_shifts` meets its contract: the work is done on the fronts of both rooms. Assumes nothing.
use Prim.Native.Nat.{◌^◌}
use lib.IntN.{pos}
use lib.ListN.{length}
use Rattle.block.specs.Words.{of_table}
use Rattle.block.specs.Measure.{shift}
use Rattle.block.specs.Tables.{shift_values, working_end}
use Rattle.slices.specs.Filled.{over-part}
use Rattle.spectrum_work.proofs.put_shifts.Goals as goal

pub returns : goal.returns
unfolding shift_values working_end
returns c =
    let e = c.add_words.ensures in (
      over-part (2 ^ c.args.n) (length c.args.table.now) (shift (of_table c.args.table.now) c.args.n) _ c.args.values.now e.1 c.requires.0,
      over-part (2 ^ c.args.n) (length c.args.table.now) (λ _. pos 0) _ c.args.working.now e.0 c.requires.0,
    )
