use mathlib.Core.Path.{◌≡◌, sym, ap, ◌∙◌}
use native.Mathlib.Omega.{arith}
use lib.ListN.{length}
use lib.Seq.{take-length}
use Rattle.read_names.specs.Met.{met_at, met-none, met-more}
use Rattle.read_names.proofs.meet_bytes.Goals as goal

pub loop-b-init : goal.loop-b-init
loop-b-init c = sym (met-none _ _)

pub loop-b-preserved : goal.loop-b-preserved
loop-b-preserved c =
    let l = c.loop-b in
    let a = c.args in
    c.meet_byte-to.ensures ∙ rw l.invariant (met-more a.text.now (omega arith) a.at l.b-index a.s.now (omega arith))

pub returns : goal.returns
returns c =
    let l = c.loop-b in
    let a = c.args in
    let e : l.b-index ≡ length a.s.now = omega arith in
    l.invariant ∙ ap (met_at a.text.now a.at) (rw e (take-length a.s.now))
