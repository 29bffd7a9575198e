-- `put_chains::emit_row` meets its contract. The loop's invariant: what is put and what the digits left will bring are the row's covers
-- (`RowPut`). Assumes nothing.
use Rattle.std.proofs.Common.{◌+◌, ◌-◌, ◌*◌, ◌^◌, ◌≤◌, ◌<◌}
use Rattle.put_chains.specs.Rows.{RowPut}
use Rattle.put_chains.proofs.emit_row.Given as goal

abbrev pub invariant-loop-b : goal.invariant-loop-b
invariant-loop-b l = (l.a < 100) × (l.q ≤ l.b) × (l.to ≤ l.at + l.b * 40) × (l.rest < 2 ^ (l.n - l.b))
    × RowPut l.initial.out l.at l.i l.n l.v l.a l.q (l.n - l.b) l.rest l.out l.to
