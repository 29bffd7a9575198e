-- `read_model::named` meets its contract. The loop's invariant: no number of names passed stands there. Assumes nothing.
use mathlib.Core.Path.{◌≡◌}
use mathlib.Core.Bool.{false}
use Prim.Native.Nat.{ℕ, ◌<◌}
use Rattle.read_model.specs.Whole.{named_at}
use Rattle.read_model.proofs.named.Given as goal

abbrev pub invariant-loop-n : goal.invariant-loop-n
invariant-loop-n l = (j : ℕ) → j < l.n → named_at l.text l.at l.word l.letter j ≡ false
