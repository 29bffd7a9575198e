use mathlib.Core.List.{[], ◌∷◌}
use mathlib.Core.Path.{◌≡◌, sym}
use native.Mathlib.Omega.{arith}
use Rattle.slices.specs.Places.{tab}
use Rattle.block.specs.Model.{spaced}
use Rattle.model_laws.specs.Spaced.{lettered, names_more, names-none}
use Rattle.read_names.specs.Met.{met-none, met-and}
use Rattle.read_names.proofs.meet_names.Goals as goal

pub loop-i-init : goal.loop-i-init
loop-i-init c = sym (rw (names-none c.args.letter) (met-none c.args.text.now c.args.at))

pub loop-i-preserved : goal.loop-i-preserved
loop-i-preserved c =
    let l = c.loop-i in
    let a = c.args in
    let t = a.text.now in
    rw (names_more a.letter l.i)
    (met-and t (omega arith) a.at (spaced (tab l.i (lettered a.letter))) (32 ∷ lettered a.letter l.i) l.invariant
    (met-and t (omega arith) l.to (32 ∷ []) (lettered a.letter l.i) c.meet_byte-gap.ensures c.meet_name-to.ensures))

pub returns : goal.returns
returns c =
    let l = c.loop-i in
    let e : l.i ≡ c.args.n = omega arith in
    rw e at l.invariant
