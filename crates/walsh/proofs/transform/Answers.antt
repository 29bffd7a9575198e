use mathlib.Core.Path.{◌≡◌, ◌∙◌, sym}
use mathlib.Core.List.{List}
use Prim.Native.Nat.{ℕ, suc, ◌*◌, ◌+◌, ◌≤◌, ◌^◌}
use native.Mathlib.Omega.{arith}
use lib.IntN.{ℤ, nat_abs}
use lib.Pow.{pow_mono}
use Rattle.slices.specs.Places.{tab}
use Rattle.slices.specs.Filled.{tab-cong}
use Rattle.walsh_laws.specs.Walsh.{walsh}
use Rattle.walsh_laws.specs.Sums.{walsh-cong}
use Rattle.walsh_laws.specs.Passes.{val, Stage, stage-none, stage-small, stage-last, turn-blocks, turn-next, turn_last}
use Rattle.walsh.specs.Numbers.{Ready}
use borrow.Author.Rules.{rules}
use Rattle.walsh.proofs.transform.Goals as goal
use Rattle.walsh.proofs.transform.Goals.{At-loop}

-- all stages are the transform
whole : (l m : List ℤ) (n : ℕ) → Ready l n → Stage (λ x. nat_abs (val l x)) n n m → m ≡ tab (2 ^ n) (walsh (val l) n)
whole l m n r s = stage-last _ n m s ∙ tab-cong (2 ^ n) _ _ (λ w h. walsh-cong _ _ n w (λ x b. sym (r.whole x b)))

pub loop-init : goal.loop-init
loop-init c = (search rules, stage-none _ _ _ c.requires.long c.requires.whole)

pub two_stages-requires : goal.two_stages-requires
two_stages-requires c =
    let a = c.args in
    let i = c.loop.invariant in (
      turn-blocks a.n (2 * c.loop.counter) c.loop.h _ i.0 c.requires.long (omega arith) ∙ c.requires.long ∙ sym i.1.long,
      stage-small (λ x. nat_abs (val a.s.now x)) a.n (2 * c.loop.counter) _ (omega arith) c.requires.within i.1,
    )

pub loop-preserved : goal.loop-preserved
loop-preserved c =
    let i = c.loop.invariant in
    let next : 2 * (c.loop.counter + 1) ≡ 2 * c.loop.counter + 2 = omega arith in
    rw next (turn-next _ (2 * c.loop.counter) _ _ i.0 c.requires.long (omega arith) _ _ _ i.1 c.two_stages.ensures)

pub cross_block-requires : goal.cross_block-requires
cross_block-requires c =
    let a = c.args in
    let i = c.loop.invariant in
    let left : suc (2 * c.loop.counter) ≤ a.n = omega arith in (
      omega (arith, pow_mono left, i.1.long),
      stage-small (λ x. nat_abs (val a.s.now x)) a.n (2 * c.loop.counter) _ (omega arith) c.requires.within i.1,
    )

pub returns-then-n-eq1 : goal.returns-then-n-eq1
returns-then-n-eq1 c =
    whole _ _ c.args.n c.requires
    (turn_last _ c.args.n (2 * c.loop.counter) _ _ _ c.loop.invariant.0 (omega arith) (omega arith) c.loop.invariant.1 c.cross_block.ensures)

pub returns-else-n-eq1 : goal.returns-else-n-eq1
returns-else-n-eq1 c =
    let end : 2 * c.loop.counter ≡ c.args.n = omega arith in
    whole _ _ c.args.n c.requires (rw end at c.loop.invariant.1)
