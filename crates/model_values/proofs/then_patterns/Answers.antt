-- `model_values::then_patterns` meets its contract: the earlier refusal, or one check. Assumes nothing.
use native.Mathlib.Omega.{arith}
use Rattle.model_values.specs.Checks.{flat-rooms, patterns-asked}
use Rattle.model_values.proofs.then_patterns.Goals as goal

pub first_bad_pattern-i-requires : goal.first_bad_pattern-i-requires
first_bad_pattern-i-requires c =
    let r = flat-rooms c.args.masks.now c.args.values.now in
    (c.requires.0 c.if-v-ne0.false, omega (arith, c.requires.1, r.0), omega (arith, c.requires.1, r.1))

pub returns : goal.returns
returns c =
    let a = c.args in
    patterns-asked a.v _ _ _ a.n a.masks.now a.values.now c.if-v-ne0.false c.requires.1 c.first_bad_pattern-i.ensures c.refuse_where.ensures
