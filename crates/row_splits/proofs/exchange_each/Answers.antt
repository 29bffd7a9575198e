use mathlib.Core.Path.{◌≡◌, ap, ◌∙◌}
use mathlib.Core.List.{List}
use Prim.Native.Nat.{ℕ}
use native.Mathlib.Omega.{arith}
use Rattle.slices.specs.Places.{at, tab, over}
use Rattle.slices.specs.Filled.{over_none, over-more, over-beyond}
use Rattle.block.specs.Rows.{exchange}
use Rattle.row_splits.proofs.exchange_each.Goals as goal

-- a turn's number is still as it was
turn : (l s : List ℕ) (k h i : ℕ) (f : ℕ → ℕ) → s ≡ over (tab i f) l → exchange k h (at s i) ≡ exchange k h (at l i)
turn l s k h i f e = ap (λ (y : List ℕ). exchange k h (at y i)) e ∙ ap (exchange k h) (over-beyond i f l 0 i (omega arith))

pub loop-i-init : goal.loop-i-init
loop-i-init c = over_none _ _

pub loop-i-preserved : goal.loop-i-preserved
loop-i-preserved c =
    let i = c.loop-i.invariant in
    let a = c.args in
    over-more _ (λ j. exchange a.k a.h (at a.numbers.now j)) _ _ _ i (c.exchange_bits.ensures ∙ turn a.numbers.now _ a.k a.h _ _ i) (omega arith)
