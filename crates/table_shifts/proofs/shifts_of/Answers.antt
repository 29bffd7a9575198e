use mathlib.Core.Path.{sym, ◌∙◌}
use native.Mathlib.Omega.{arith}
use Rattle.block.specs.Words.{of_table}
use Rattle.block.specs.Measure.{shift}
use Rattle.table_shifts.specs.Light.{light-each, below_more, below-skip, below_all}
use borrow.Author.Rules.{rules}
use Rattle.table_shifts.proofs.shifts_of.Goals as goal
use Rattle.table_shifts.proofs.shifts_of.Goals.{then-has_few, else-has_few}

pub returns-then-n-lt6 : goal.returns-then-n-lt6
returns-then-n-lt6 c = light-each _ _ _ _ _ c.small_shifts.ensures

pub loop-low-init : goal.loop-low-init
loop-low-init c = λ t b h o. absurd (omega arith)

pub shifts_at_low-requires : goal.shifts_at_low-requires
shifts_at_low-requires c = (
  record { entries = c.requires.0; least = omega arith; most = c.requires.1; unmarked = c.requires.3 },
  search rules,
  search rules,
)

pub loop-low-preserved : goal.loop-low-preserved
loop-low-preserved c =
    let o = c.loop-low in
    let f = shift (of_table c.args.table.now) c.args.n in
    elim c.if-has_few.branch [
      | then-has_few a ↦ below_more f c.args.w o.low _ o.out c.if-has_few.out o.invariant (rw a.out-is a.shifts_at_low.ensures)
      | else-has_few a ↦ below-skip f c.args.w o.low _ o.out c.if-has_few.out o.invariant (sym c.has_few.ensures ∙ a.if-has_few.false) a.out-is
    ]

pub returns : goal.returns
returns c = below_all _ _ c.loop-low.low _ _ (omega arith) c.loop-low.invariant
