use mathlib.Core.Path.{◌≡◌, refl, ap, ap₂, ◌∙◌}
use mathlib.Core.List.{List}
use Prim.Native.Nat.{ℕ, ◌*◌}
use native.Mathlib.Omega.{arith}
use lib.Bits.{bit_xor}
use Rattle.bits.specs.Digits.{bit}
use Rattle.slices.specs.Places.{at, tab, over}
use Rattle.slices.specs.Filled.{over_none, over-more, over-beyond}
use Rattle.matrix_laws.specs.Reach.{shear_rows}
use Rattle.matrix_work.proofs.shear_rows.Goals as goal

-- a turn's value: row j is still as it was
turn : (l s : List ℕ) (k v j r d : ℕ) → s ≡ over (tab j (shear_rows k v (at l))) l → r ≡ at l k → d ≡ bit v j
    → bit_xor (at s j) (r * d) ≡ shear_rows k v (at l) j
unfolding shear_rows
turn l s k v j r d e f g =
    ap₂ bit_xor (ap (λ t. at t j) e ∙ over-beyond j (shear_rows k v (at l)) l 0 j (omega arith)) (ap₂ ◌*◌ f g)

pub loop-j-init : goal.loop-j-init
loop-j-init c = over_none _ _

pub loop-j-preserved : goal.loop-j-preserved
loop-j-preserved c =
    let i = c.loop-j.invariant in
    over-more _ (shear_rows c.args.k c.args.v (at c.args.s.now)) _ _ _ i
    (c.xor_where.ensures ∙ turn c.args.s.now _ c.args.k c.args.v c.loop-j.j _ _ i refl c.bit_of.ensures) (omega arith)
