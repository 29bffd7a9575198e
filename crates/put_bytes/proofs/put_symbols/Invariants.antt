-- `put_bytes::put_symbols` meets its contract. The loop's invariant: the symbols that are left, stored in what is there, give what all
-- symbols, stored at entry, give. Assumes nothing.
use mathlib.Core.Path.{◌≡◌}
use lib.Seq.{sets}
use Rattle.block.specs.Text.{symbols}
use Rattle.put_bytes.proofs.put_symbols.Given as goal

abbrev pub invariant-loop-i : goal.invariant-loop-i
invariant-loop-i l = sets l.initial.out l.at (symbols l.n l.mask l.values) ≡ sets l.out l.at (symbols l.i l.m l.v)
