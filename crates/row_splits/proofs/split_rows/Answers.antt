use mathlib.Core.Path.{◌≡◌, refl, ◌∙◌}
use mathlib.Core.List.{[]}
use native.Mathlib.Nat.{zero-add}
use Prim.Native.Nat.{◌+◌}
use native.Mathlib.Omega.{arith}
use Rattle.row_adding.specs.Held.{added_none, held_none}
use Rattle.row_splits.specs.Split.{split-none, split-bound, split-added}
use Rattle.row_splits.proofs.split_rows.Goals as goal

pub loop-i-init : goal.loop-i-init
loop-i-init c =
    (omega arith, rw split-none (added_none 0 _ _ _))

pub loop-i-preserved : goal.loop-i-preserved
loop-i-preserved c =
    let a = c.args in
    let l = c.loop-i in
    let next = split-added a.k a.v a.masks.now a.values.now a.words.now l.i l.invariant.1 c.add_split-count.ensures in
    (omega (arith, next.longer, split-bound a.k a.v a.masks.now a.values.now a.words.now (l.i + 1)), next)

pub returns : goal.returns
returns c =
    let a = c.args in
    let end : c.loop-i.i ≡ a.p = omega arith in
    let all = rw end at c.loop-i.invariant.1 in
    record {
      value = all.longer ∙ zero-add _;
      held = all.added [] refl (held_none _ _ _);
    }
