-- `put_model::put_model` meets its contract: what is put into no room tells the length, and where the room is so long the model lies
-- over it. Assumes nothing.
use Rattle.std.proofs.Common.{◌≤◌, length, arith, le-ltb}
use Rattle.put_model.specs.Whole.{whole-over}
use Rattle.put_model.proofs.put_model.Goals as goal

pub returns-clause-out_after : goal.returns-clause-out_after
returns-clause-out_after c =
    let o = c.args.out.now in
    let p = c.emit_model.ensures in
    let e : c.emit_model.result ≤ length o = omega (arith, p.place, c.emit_model-need.ensures.place) in
    rw (le-ltb (length o) c.emit_model.result e) (whole-over _ _ _ _ p e)
