-- `model_reading::rest_answer` meets its contract: 5, then 8, then none. Assumes nothing.
use mathlib.Core.Path.{sym, ◌∙◌}
use native.Mathlib.Omega.{arith}
use Rattle.model_reading.specs.Reading.{short-told, dependent-told, whole-told}
use Rattle.model_reading.proofs.rest_answer.Goals as goal

pub returns-then-is_short : goal.returns-then-is_short
returns-then-is_short c =
    let a = c.args in
    short-told a.matrix_room a.counts_room a.patterns_room a.n a.k a.patterns a.rows.now (sym c.is_short.ensures ∙ c.if-is_short.true)

pub first_dependent-j-requires : goal.first_dependent-j-requires
first_dependent-j-requires c = let p = c.requires in (p.1, omega arith, p.0, p.2)

pub returns-then-j-n : goal.returns-then-j-n
returns-then-j-n c =
    let a = c.args in
    dependent-told a.matrix_room a.counts_room a.patterns_room a.n a.k a.patterns a.rows.now (sym c.is_short.ensures ∙ c.if-is_short.false)
    c.first_dependent-j.result c.first_dependent-j.ensures c.if-j-n.true

pub returns : goal.returns
returns c =
    let a = c.args in
    whole-told a.matrix_room a.counts_room a.patterns_room a.n a.k a.patterns a.rows.now (sym c.is_short.ensures ∙ c.if-is_short.false)
    c.first_dependent-j.result c.first_dependent-j.ensures c.if-j-n.false
