-- `row_shifts::shifts_of_rows` meets its contract: the word that it hands on gives the same R. Assumes nothing.
use mathlib.Core.Path.{ap, ◌∙◌}
use mathlib.Core.List.{List}
use Prim.Native.Nat.{ℕ}
use Rattle.slices.specs.Places.{at, over}
use Rattle.slices.specs.Filled.{tab-cong}
use Rattle.row_shifts.proofs.shifts_of_rows.Goals as goal

pub returns : goal.returns
returns c =
    let a = c.args in
    c.shifts_by_room.ensures
    ∙ ap (λ (l : List ℕ). over l a.out.now)
    (tab-cong a.places _ _ (λ i h. c.missing_in-word.ensures (at a.ts.now i) (c.requires.places_in_bounds.2 i h)))
