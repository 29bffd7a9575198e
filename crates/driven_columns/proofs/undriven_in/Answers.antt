use mathlib.Core.Path.{sym, ◌∙◌}
use native.Mathlib.Omega.{arith}
use Rattle.driven_columns.specs.Columns.{lowest-undriven}
use Rattle.driven_columns.proofs.undriven_in.Goals as goal

pub returns-then-bit_of-eq0 : goal.returns-then-bit_of-eq0
returns-then-bit_of-eq0 c =
    let g = c.driven_in-all in
    lowest-undriven c.args.k c.args.words.now g.result c.loop-j.j g.ensures (omega arith) c.loop-j.invariant
    (λ h. sym c.bit_of.ensures ∙ c.if-bit_of-eq0.true)

pub returns : goal.returns
returns c =
    let g = c.driven_in-all in
    lowest-undriven c.args.k c.args.words.now g.result c.args.k g.ensures (omega arith) (λ i h. c.loop-j.invariant i (omega arith))
    (λ h. absurd (omega arith))
