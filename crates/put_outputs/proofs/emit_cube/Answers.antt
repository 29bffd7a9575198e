-- `put_outputs::emit_cube` meets its contract: the symbols and " 1" are put where the line fits, and else it passes the end.
-- Assumes nothing.
use Rattle.std.proofs.Common.{arith}
use Rattle.block.specs.Model.{pattern}
use Rattle.put_bytes.specs.Puts.{then}
use Rattle.put_names.specs.Fitting.{put-fitted, past_end}
use Rattle.put_outputs.specs.Patterns.{length-cube}
use Rattle.put_outputs.proofs.emit_cube.Goals as goal

pub returns-then-end-out-clause-fitted : goal.returns-then-end-out-clause-fitted
returns-then-end-out-clause-fitted c = put-fitted (then c.put_cube-a.ensures.put c.put_bytes.ensures)

pub returns-clause-fitted : goal.returns-clause-fitted
returns-clause-fitted c =
    let a = c.args in
    past_end (omega (arith, length-cube a.n (pattern a.mask a.values))) (omega arith)
