-- No position from m on has a one, so the highest below n is the highest below m.
use Rattle.std.proofs.Common.{◌≡◌}
use Rattle.block.specs.Rows.{highest}
use Rattle.exchanges.proofs.highest_bit.Given as goal

abbrev pub invariant-loop-m : goal.invariant-loop-m
invariant-loop-m l = highest l.m l.y ≡ highest l.n l.y
