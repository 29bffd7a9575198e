-- `put_sheet::put_matrix` meets its contract. The loop's invariant: the lines of the numbers so far are put. Assumes nothing.
use Rattle.std.proofs.Common.{take}
use Rattle.block.specs.Sheet.{matrix_lines}
use Rattle.put_bytes.specs.Puts.{Put}
use Rattle.put_sheet.proofs.put_matrix.Given as goal

abbrev pub invariant-loop-number : goal.invariant-loop-number
invariant-loop-number l = Put l.initial.out l.at (matrix_lines l.n (take l.number-index l.numbers)) l.out l.to
