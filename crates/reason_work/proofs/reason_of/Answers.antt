-- `reason_work::reason_of` meets its contract: the reasons are tried in their order. Assumes nothing.
use mathlib.Core.Path.{ap, ◌∙◌}
use native.Mathlib.Omega.{arith}
use borrow.Author.Tests.{eq-eqb, ne_eqb, lt-ltb, le-ltb}
use lib.Count.{ones-le}
use Rattle.block.specs.Reasons.{reason}
use Rattle.block.specs.declared.Reason.TheVariants.{Taken, Xor}
use Rattle.reason_work.proofs.reason_of.Goals as goal

pub returns-then-t-eq0 : goal.returns-then-t-eq0
unfolding reason
returns-then-t-eq0 c = rw (eq-eqb _ _ c.if-t-eq0.true)

pub overflow_cast-t : goal.overflow_cast-t
overflow_cast-t c =
    omega (arith, c.requires.n_le_list_inputs.0, ones-le c.args.n c.args.t c.requires.n_le_list_inputs.3)

pub returns-then-w-t : goal.returns-then-w-t
unfolding reason
returns-then-w-t c = rw (ne_eqb _ _ c.if-t-eq0.false, lt-ltb _ _ c.if-w-t.true)

pub returns-then-place-n : goal.returns-then-place-n
unfolding reason
returns-then-place-n c =
    rw (
      ne_eqb _ _ c.if-t-eq0.false,
      le-ltb _ _ c.if-w-t.false,
      ← c.place_of-place.ensures,
      lt-ltb _ _ c.if-place-n.true,
    )
    (ap Taken (omega arith))

pub returns : goal.returns
unfolding reason
returns c =
    rw (
      ne_eqb _ _ c.if-t-eq0.false,
      le-ltb _ _ c.if-w-t.false,
      ← c.place_of-place.ensures,
      le-ltb _ _ c.if-place-n.false,
    )
    (ap Xor (c.apply_rows.ensures ∙ c.requires.t_value))
