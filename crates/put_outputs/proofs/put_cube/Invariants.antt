-- `put_outputs::put_cube` meets its contract. The loop's invariant: the first i symbols are put, and m and v are the mask and the values
-- without as many of their lowest digits. Assumes nothing.
use Rattle.std.proofs.Common.{◌≡◌, ◌/◌, ◌^◌}
use Rattle.put_outputs.specs.Patterns.{symbols_put}
use Rattle.put_outputs.proofs.put_cube.Given as goal

abbrev pub invariant-loop-i : goal.invariant-loop-i
invariant-loop-i l = (l.m ≡ l.mask / 2 ^ l.i) × (l.v ≡ l.values / 2 ^ l.i) × (l.out ≡ symbols_put l.initial.out l.at l.mask l.values l.i)
