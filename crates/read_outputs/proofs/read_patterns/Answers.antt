use mathlib.Core.Bool.{false}
use mathlib.Core.List.{List}
use mathlib.Core.Path.{◌≡◌, refl}
use Prim.Native.Nat.{ℕ}
use native.Mathlib.Omega.{arith}
use lib.ListN.{drop}
use Rattle.block.specs.ModelRead.{pattern_form}
use Rattle.read_laws.specs.Front.{front}
use Rattle.std.specs.Prelude.{Option, Some, None}
use Rattle.read_outputs.specs.Cubes.{Cubed}
use Rattle.read_outputs.specs.Outputs.{patterns-none, patterns-more}
use Rattle.read_outputs.proofs.read_patterns.Goals as goal

-- where no pattern was found the line is of none
no_pattern : (text : List ℕ) (n from : ℕ) (r : Option (ℕ × ℕ × ℕ)) → ((x : ℕ × ℕ × ℕ) → r ≡ Some x → ⊥) → Cubed text n from r
    → pattern_form n (front (drop from text)) ≡ false
unfolding Cubed
no_pattern text n from None d h = h
no_pattern text n from (Some (m, v, to)) d h = absurd (d (m, v, to) refl)

pub loop-m-init : goal.loop-m-init
loop-m-init c =
    let a = c.args in
    patterns-none a.text.now a.n a.at a.count a.masks.now a.values.now (omega arith) (omega arith)

pub loop-m-smaller : goal.loop-m-smaller
unfolding Cubed
loop-m-smaller c =
    let q = c.in-Some.ensures in
    omega (arith, q.longer, q.within)

pub loop-m-preserved : goal.loop-m-preserved
unfolding Cubed
loop-m-preserved c =
    patterns-more c.loop-m.invariant c.in-Some.m c.in-Some.v c.in-Some.next c.in-Some.ensures _ _ c.store.ensures c.store-in-Some.ensures

pub returns-clause-text_value : goal.returns-clause-text_value
returns-clause-text_value c = no_pattern c.args.text.now c.args.n c.loop-m.to c.read_cube.result c.in_default.not-Some c.read_cube.ensures
