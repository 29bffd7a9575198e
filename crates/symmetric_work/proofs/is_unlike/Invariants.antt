-- `symmetric_work::is_unlike` meets its contract. The loop's invariant: it has come to the number with as many above its zero as there were
-- turns, and no entry with less above its zero is unlike. Assumes nothing.
use Rattle.std.proofs.Common.{ℕ, ◌≡◌, ◌+◌, ◌-◌, ◌*◌, ◌<◌}
use Rattle.symmetric_work.specs.Looks.{Repeated}
use Rattle.symmetric_work.proofs.is_unlike.Given as goal

abbrev pub invariant-loop : goal.invariant-loop
invariant-loop l = (l.with ≡ l.counter * (l.step + l.step) + (l.step - 1)) × (l.without ≡ l.counter * l.step + (l.step - 1)) × ((a : ℕ) → a < l.counter → Repeated l.table l.n l.k a)
