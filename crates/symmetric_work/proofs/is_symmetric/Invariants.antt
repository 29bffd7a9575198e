-- `symmetric_work::is_symmetric` meets its contract. The loop's invariant: no entry whose lowest zero stands before k is unlike. Assumes nothing.
use Rattle.std.proofs.Common.{ℕ, ◌<◌}
use Rattle.symmetric_work.specs.Looks.{Repeated}
use Rattle.symmetric_work.proofs.is_symmetric.Given as goal

abbrev pub invariant-loop-k : goal.invariant-loop-k
invariant-loop-k l = (j : ℕ) → j < l.k → (a : ℕ) → Repeated l.table l.n j a
