-- What lies in the list's own place after joining, row by row: as many records as the list had, the joined rows first, and each freed record
-- all zeros. Assumes nothing.
use Rattle.std.specs.Prelude.{◌≡◌, List, ◌++◌, ℕ, ◌+◌, ◌-◌, ◌≤◌, ◌<◌}
use Rattle.std.proofs.Math.Path.{ap}
use Rattle.std.proofs.Common.{◌∙◌, ext_get_or}
use native.Mathlib.Omega.{arith}
use Rattle.std.proofs.Math.ListN.{length, length-append, get_or-append}
use Rattle.std.proofs.Math.Seq.{get_or-append-add}
use Rattle.slices.specs.Places.{tab}
use Rattle.slices.specs.Filled.{length-tab, tab-at}
use Rattle.block.specs.Words.{row}
use Rattle.block.specs.Refusals.{row_at}
use Rattle.block.specs.Joins.{joined, joined_room}
use Rattle.block.specs.declared.Row.{Row}
use Rattle.join_laws.specs.Joined.{joined_length}

module _ (rs : List Row) where
  pub room-length : length (joined_room rs) ≡ length rs
  unfolding joined_room
  room-length =
      omega (
        arith,
        length-append (joined rs) (tab (length rs - length (joined rs)) (λ _. row 0 0 0)),
        length-tab (length rs - length (joined rs)) (λ (_ : ℕ). row 0 0 0),
        joined_length rs,
      )

  pub room_row : (i : ℕ) → i < length (joined rs) → row_at (joined_room rs) i ≡ row_at (joined rs) i
  unfolding joined_room
  room_row i h = get_or-append (joined rs) (tab (length rs - length (joined rs)) (λ _. row 0 0 0)) (row 0 0 0) i h

  pub room-freed : (i : ℕ) → length (joined rs) ≤ i → i < length rs → row_at (joined_room rs) i ≡ row 0 0 0
  unfolding joined_room
  room-freed i h l =
      let e : i ≡ length (joined rs) + (i - length (joined rs)) = omega arith in
      ap (row_at (joined rs ++ tab (length rs - length (joined rs)) (λ _. row 0 0 0))) e
      ∙ get_or-append-add (joined rs) (tab (length rs - length (joined rs)) (λ _. row 0 0 0)) (i - length (joined rs)) (row 0 0 0)
      ∙ tab-at (length rs - length (joined rs)) (λ _. row 0 0 0) (row 0 0 0) (i - length (joined rs)) (omega arith)

  -- where nothing is joined the room is the list
  pub room_whole : joined rs ≡ rs → joined_room rs ≡ rs
  room_whole e =
      ext_get_or (row 0 0 0) (joined_room rs) rs room-length
      (λ i h. room_row i (omega (arith, room-length, ap length e)) ∙ ap (λ (l : List Row). row_at l i) e)
