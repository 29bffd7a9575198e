-- `lists::row_method` meets its contract: the row method, with its room asked of the lengths of what was lent. Assumes nothing.
use mathlib.Core.Path.{sym, ap, ◌∙◌}
use mathlib.Core.Bool.{◌||◌}
use Prim.Native.Nat.{ℕ}
use native.Mathlib.Omega.{arith}
use lib.Dec.{ltb}
use lib.ListN.{length}
use Rattle.block.specs.Limits.{smaller_rows}
use Rattle.block.specs.Words.{rows_of}
use Rattle.promises.specs.Lent.{shortest}
use Rattle.row_work.specs.Method.{method-by-rooms, rooms}
use Rattle.lists.proofs.row_method.Goals as goal

pub method_rows-requires : goal.method_rows-requires
method_rows-requires c =
    let a = c.args in
    let room = c.least_room-room in
    λ e i.
    let p = rooms a.n (length a.basis.now) (length a.sigma.now) room.result (sym c.is_short-short.ensures ∙ e) in
    (p.0, p.1, omega (arith, p.2, room.ensures), omega (arith, p.2, room.ensures), omega (arith, p.2, room.ensures))

pub returns : goal.returns
returns c =
    let a = c.args in
    let roomT = length a.basis.now in
    let roomSigma = length a.sigma.now in
    let roomRows = shortest a.smaller_masks.now a.smaller_values.now a.smaller_words.now in
    let m = method-by-rooms a.n a.k a.block_type a.w (rows_of a.masks.now a.values.now a.words.now) _ roomT roomSigma roomRows
    a.basis.now a.sigma.now a.smaller_masks.now a.smaller_values.now a.smaller_words.now _ _ _ _ _ _
    (c.is_short-short.ensures ∙ ap (λ (x : ℕ). ltb roomT a.n || (ltb roomSigma a.n || ltb x smaller_rows)) c.least_room-room.ensures)
    c.method_rows.ensures in
    record {
      answer = m.0;
      basis = m.1.0;
      sigma = m.1.1.0;
      smaller = record { masks = m.1.1.1.0; values = m.1.1.1.1.0; words = m.1.1.1.1.1 };
    }
