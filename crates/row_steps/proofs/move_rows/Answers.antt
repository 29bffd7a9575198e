use mathlib.Core.Path.{◌≡◌, refl, sym, ap, ◌∙◌}
use mathlib.Core.List.{List}
use Prim.Native.Nat.{suc, ◌<◌}
use native.Mathlib.Numerals.{add-one}
use native.Mathlib.Omega.{arith}
use lib.ListN.{length}
use Rattle.slices.specs.Places.{at}
use Rattle.slices.specs.Filled.{length-tab}
use Rattle.block.specs.Rows.{moved}
use Rattle.block.specs.declared.Row.{Row}
use Rattle.flat_rows.specs.Listing.{rows_from}
use Rattle.step_laws.specs.Step.{step_rows}
use Rattle.step_laws.specs.Moved.{moved_none}
use Rattle.matrix_steps.specs.Steps.{partner-lt, reach-start, reach-turn}
use Rattle.row_steps.specs.Passed.{step-held, replay-stopped, replay-done}
use borrow.Author.Rules.{rules}
use Rattle.row_steps.proofs.move_rows.Goals as goal
use Rattle.row_steps.proofs.move_rows.Goals.{After-step_rows-count}

-- the rows after one step more
abbrev after : goal.After-step_rows-count → List Row
after c =
    let a = c.args in
    moved a.n (at a.basis.now) (suc c.loop-k.k) (rows_from a.p a.masks.now a.values.now a.words.now)

-- what a step makes of the rows of the turn
stepped : (c : goal.After-step_rows-count) → step_rows c.loop-k.k c.advance-m.result.partner c.advance-m.result.rest
    (rows_from c.loop-k.count c.loop-k.masks c.loop-k.values c.loop-k.words)
    ≡ after c
stepped c =
    let a = c.args in
    let l = c.loop-k in
    let made = c.advance-m.ensures in
    step-held a.n (at a.basis.now) (rows_from a.p a.masks.now a.values.now a.words.now) l.k _ _ _ l.s _
    (omega arith) c.requires.n_le_list_inputs.3 l.invariant.1 made.exchanged made.flipped l.invariant.2

-- how many there are
counted : (c : goal.After-step_rows-count) → c.step_rows-count.result ≡ length (after c)
counted c =
    c.step_rows-count.ensures.value ∙ ap length (stepped c)

pub loop-k-init : goal.loop-k-init
loop-k-init c =
    let a = c.args in (
      search rules,
      reach-start a.n (at a.basis.now) _ _ c.put_units.ensures,
      sym (moved_none a.n (at a.basis.now) _),
    )

pub step_rows-count-requires : goal.step_rows-count-requires
step_rows-count-requires c =
    let made = c.advance-m in
    let n = c.args.n in
    let near : made.result.partner < n = rw made.ensures.exchanged (partner-lt _ _ _ (omega arith)) in
    search rules

pub returns-then-count-gt-SMALLER_ROWS : goal.returns-then-count-gt-SMALLER_ROWS
returns-then-count-gt-SMALLER_ROWS c =
    let a = c.args in
    let l = c.loop-k in
    let e = counted (goal.at.returns-then-count-gt-SMALLER_ROWS c).After-step_rows-count in
    let m = sym (length-tab l.count _) ∙ ap length l.invariant.2 in
    replay-stopped a.n (at a.basis.now) _ l.k _ _ _ (omega arith) (omega arith) (omega arith)

pub loop-k-preserved : goal.loop-k-preserved
loop-k-preserved c =
    let a = c.args in
    let l = c.loop-k in
    let n = counted (goal.at.loop-k-preserved c).After-step_rows-count in (
      search rules,
      reach-turn a.n (at a.basis.now) l.k _ _ l.s _ (omega arith) l.invariant.1 refl c.advance-m.ensures.rows,
      rw (n, add-one l.k) ((rw (stepped (goal.at.loop-k-preserved c).After-step_rows-count) at c.step_rows-count.ensures.held).front (omega arith)),
    )

pub returns : goal.returns
returns c =
    let a = c.args in
    let l = c.loop-k in
    let end : l.k ≡ a.n = omega arith in
    replay-done a.n (at a.basis.now) _ l.count _ _ _ (omega arith) (rw end at l.invariant.2)
