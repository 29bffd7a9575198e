use mathlib.Core.Path.{◌≡◌, sym, ◌∙◌}
use native.Mathlib.Omega.{arith}
use lib.ListN.{length}
use Rattle.read_laws.specs.TypeLines.{stands-all, stands-not}
use Rattle.read_headings.proofs.stands_at.Goals as goal

pub returns-then-byte-from : goal.returns-then-byte-from
returns-then-byte-from c =
    let a = c.args in
    sym (stands-not a.s.now a.from a.line.now c.loop-i.i (omega arith) (λ e. c.if-byte-from.true (c.byte.ensures.value ∙ e ∙ sym c.from.ensures)))

pub returns : goal.returns
returns c =
    let l = c.loop-i in
    let a = c.args in
    let e : l.i ≡ length a.line.now = omega arith in
    sym (stands-all a.s.now a.from a.line.now (rw e at l.invariant))
