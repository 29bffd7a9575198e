-- `walsh::transform` meets its contract. The loop's invariant: two stages a turn are done. Where one stage is left after the loop, its block
-- is the whole slice. Assumes nothing.
use mathlib.Core.Path.{◌≡◌}
use Prim.Native.Nat.{◌*◌, ◌^◌}
use lib.IntN.{nat_abs}
use Rattle.walsh_laws.specs.Passes.{val, Stage}
use Rattle.walsh.proofs.transform.Given as goal

abbrev pub invariant-loop : goal.invariant-loop
invariant-loop l = (l.h ≡ 2 ^ (2 * l.counter)) × Stage (λ x. nat_abs (val l.initial.s x)) l.n (2 * l.counter) l.s
