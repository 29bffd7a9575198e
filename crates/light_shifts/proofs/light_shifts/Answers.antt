-- `light_shifts::light_shifts` meets its contract: the array is one of zeros, with a place for each number, and the word that goes on gives
-- the same R. Assumes nothing.
use mathlib.Core.Path.{ap, ◌∙◌}
use mathlib.Core.List.{List}
use Prim.Native.Nat.{ℕ, ◌≤◌}
use native.Mathlib.Omega.{arith}
use lib.Pow.{pow_mono}
use Rattle.slices.specs.Places.{at, over}
use Rattle.slices.specs.Filled.{tab-cong}
use Rattle.block.specs.Limits.{list_inputs}
use Rattle.light_shifts.specs.Adding.{zeros-at, zeros-length}
use Rattle.light_shifts.proofs.light_shifts.Goals as goal
use Rattle.light_shifts.proofs.light_shifts.Goals.{After-size-size}

-- the array has a place for each number
fits : (c : goal.After-size-size) → c.size-size.result ≤ 65536
fits c =
    omega (arith, c.size-size.ensures, pow_mono {j = list_inputs} c.requires.n_le_list_inputs.0)

pub shifts_in-requires : goal.shifts_in-requires
shifts_in-requires c = record {
  n_le_list_inputs = c.requires.n_le_list_inputs;
  disjoint = c.requires.disjoint;
  acc_len =
      (zeros-length c.size-size.result 65536 (fits (goal.at.shifts_in-requires c).After-size-size) ∙ c.size-size.ensures, zeros-at c.size-size.result 65536);
  places_in_bounds = c.requires.places_in_bounds;
  by_index = c.requires.by_index;
}

pub returns : goal.returns
returns c =
    let a = c.args in
    c.shifts_in.ensures
    ∙ ap (λ (l : List ℕ). over l a.out.now)
    (tab-cong a.places _ _ (λ i h. c.missing_in-word.ensures (at a.ts.now i) (c.requires.places_in_bounds.2 i h)))
