use mathlib.Core.Path.{◌≡◌, sym, ap, ◌∙◌}
use Prim.Native.Nat.{ℕ, ◌+◌, ◌*◌}
use native.Mathlib.Nat.{add-zero}
use native.Mathlib.Omega.{arith}
use borrow.Author.Tests.{eq-eqb, ne_eqb}
use lib.Dec.{eqb}
use Rattle.slices.specs.Places.{at}
use Rattle.sums.specs.Sums.{one, count}
use Rattle.sums.specs.Laws.{count-zero, count-more, count-le}
use Rattle.table_words.specs.Matching.{matching}
use Rattle.table_words.proofs.matches.Goals as goal
use Rattle.table_words.proofs.matches.Goals.{In-loop-i, then-table-x, else-table-x}

-- a turn that adds v, the count's own step
turn : (c : goal.In-loop-i) (r v : ℕ)
    → one (eqb (at c.args.table.now (c.args.b * 64 + c.loop-i.i))
    (at c.args.copy.now (c.args.c * 64 + c.loop-i.i))) ≡ v
    → r ≡ c.loop-i.m + v
    → r ≡ count (λ i. eqb (at c.args.table.now (c.args.b * 64 + i))
    (at c.args.copy.now (c.args.c * 64 + i))) (c.loop-i.i + 1)
turn c r v h e =
    rw count-more (omega (arith, h))

pub loop-i-init : goal.loop-i-init
loop-i-init c = sym (count-zero _)

pub overflow_add-m : goal.overflow_add-m
overflow_add-m c =
    let a = c.args in
    omega (
      arith,
      count-le (λ i. eqb (at a.table.now (a.b * 64 + i)) (at a.copy.now (a.c * 64 + i))) c.loop-i.i,
    )

pub loop-i-preserved : goal.loop-i-preserved
loop-i-preserved c =
    elim c.if-table-x.branch [
      | then-table-x w ↦ turn (goal.at.loop-i-preserved c).In-loop-i _ 1 (ap one (eq-eqb _ _ w.if-table-x.true)) w.m-is
      | else-table-x w ↦ turn (goal.at.loop-i-preserved c).In-loop-i _ 0 (ap one (ne_eqb _ _ w.if-table-x.false)) (w.m-is ∙ sym (add-zero _))
    ]

pub returns : goal.returns
unfolding matching
returns c = c.loop-i.invariant ∙ ap (count _) (omega arith)
