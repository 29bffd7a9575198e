-- `pair_weights::takes_of` meets its contract: the row's points are what it weighs with itself. Assumes nothing.
use mathlib.Core.Path.{ap, ◌∙◌}
use Prim.Native.Nat.{ℕ, ◌*◌, ◌-◌, ◌^◌}
use native.Mathlib.Nat.{mul-one, one-mul}
use lib.Bits.{or_self}
use lib.Count.{ones}
use borrow.Author.Tests.{ne_eqb}
use Rattle.pair_weights.proofs.takes_of.Goals as goal

pub returns : goal.returns
returns c =
    let a = c.args in
    let m = c.missing_counts in
    rw (ne_eqb a.word a.missing c.if-word-missing.false, one-mul, ← m.ensures)
    (c.weight_of.ensures
    ∙ ap (λ (x : ℕ). x * (2 * m.result)) (mul-one _ ∙ ap (λ (x : ℕ). 2 ^ (a.n - ones x)) (or_self a.mask)))
