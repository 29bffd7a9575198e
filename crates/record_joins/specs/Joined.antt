-- Joining in the first places of three arrays: as many records are to be copied in as there were, freed ones among them, or with a refusal none.
-- So what `join_of` promises follows from the promise of the operation on flat slices. Assumes nothing.
use Rattle.std.specs.Prelude.{◌≡◌, cond, List, ℕ, ◌≤◌, eqb, length, take}
use Rattle.std.proofs.Common.{sym, ap, ◌∙◌, arith, length-take-le}
use Rattle.block.specs.Refusals.{carried}
use Rattle.block.specs.Joins.{join_verdict, join, joined_room}
use Rattle.block.specs.declared.Row.{Row}
use Rattle.block.specs.declared.JoinAnswer.{JoinAnswer}
use Rattle.flat_rows.specs.Listing.{rows-count}
use Rattle.join_laws.specs.Room.{room-length}
use Rattle.promises.specs.Lent.{lent_flat}
use Rattle.promises.specs.Joins.{JoinPromise}
use Rattle.record_copies.specs.declared.FlatRows.{FlatRows}
use Rattle.record_copies.specs.Flat.{held_rows, Sized, listed}
use Rattle.record_copies.specs.Yielded.{lent_arrays, stores, yields}

-- how many of m records an answer writes
abbrev pub due : JoinAnswer → ℕ → ℕ
due r m = cond (eqb r.number 0) m 0

-- the arrays hold m rows
listed-length : (f : FlatRows) (m : ℕ) → Sized f → m ≤ held_rows → length (listed f m) ≡ m
listed-length f m z h =
    let a = length-take-le m f.masks (omega (arith, z.masks)) in
    rows-count (take m f.masks) (take m f.values) (take m f.words)
    (length-take-le m f.values (omega (arith, z.values)) ∙ sym a) (length-take-le m f.words (omega (arith, z.words)) ∙ sym a)
    ∙ a

pub join-yields : (n k m : ℕ) (f : FlatRows) (masks values words : List ℕ) (r : JoinAnswer) (count : ℕ) → Sized f → m ≤ held_rows → count ≡ due r m
    → JoinPromise n k (listed f m) (lent_flat (take m f.masks) (take m f.values) (take m f.words) masks values words) r
    → JoinPromise n k (listed f m) (lent_arrays m (stores m f masks values words) count) r
unfolding join
join-yields n k m f masks values words r count z h e p =
    let rs : List Row = listed f m in
    let long : length (joined_room rs) ≡ m = room-length rs ∙ listed-length f m z h in
    record {
      answer = p.answer;
      rows =
          yields (join_verdict n k rs) (joined_room rs) m count f masks values words z h
          (e ∙ ap (λ (x : JoinAnswer). due x m) p.answer ∙ ap (carried (join_verdict n k rs)) (sym long)) (λ _. omega (arith, long)) p.rows;
    }
