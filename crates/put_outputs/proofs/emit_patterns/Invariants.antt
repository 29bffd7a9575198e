-- `put_outputs::emit_patterns` meets its contract. The loop's invariant: the lines that the first i rows bring are put. Assumes nothing.
use Rattle.std.proofs.Common.{◌+◌, ◌*◌, ◌≤◌}
use Rattle.block.specs.Model.{patterns_of}
use Rattle.flat_rows.specs.Listing.{rows_from}
use Rattle.put_names.specs.Fitting.{Fitted}
use Rattle.put_outputs.specs.Patterns.{pattern_text}
use Rattle.put_outputs.proofs.emit_patterns.Given as goal

abbrev pub invariant-loop-i : goal.invariant-loop-i
invariant-loop-i l = (l.to ≤ l.at + l.i * 103)
    × Fitted l.initial.out l.at (pattern_text l.n (patterns_of l.j (rows_from l.i l.masks l.values l.words))) l.out l.to
