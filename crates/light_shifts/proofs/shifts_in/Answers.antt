-- `light_shifts::shifts_in` meets its contract: what the points add, and what the array has at a light number, is R with what the rows take.
-- Assumes nothing.
use mathlib.Core.Path.{◌≡◌, ap, ◌∙◌}
use mathlib.Core.List.{List}
use Prim.Native.Nat.{ℕ, ◌+◌, ◌*◌, ◌^◌, ◌≤◌, ◌<◌}
use native.Mathlib.Nat.{mul-le-mul}
use native.Mathlib.Omega.{arith}
use lib.Pow.{pow_mono}
use Rattle.slices.specs.Places.{at, over}
use Rattle.slices.specs.Filled.{tab-cong}
use Rattle.block.specs.Limits.{list_inputs}
use Rattle.block.specs.Words.{of_rows, rows_of}
use Rattle.block.specs.Measure.{shift}
use Rattle.pair_laws.specs.Theorem.{counts, counts-le}
use Rattle.light_shifts.specs.Adding.{light-whole, light-parts}
use Rattle.light_shifts.proofs.shifts_in.Goals as goal
use Rattle.light_shifts.proofs.shifts_in.Goals.{After-add_pairs, After-taken_of-less}

-- missing points count at most once
once : (c : goal.After-taken_of-less) → c.missing_counts-more.result ≤ 1
once c =
    omega (arith, c.missing_counts-more.ensures, counts-le c.args.missing)

-- what stands at a number
held : (c : goal.After-add_pairs) (t : ℕ) → t < 2 ^ c.args.n → at c.add_pairs.new.acc t ≤ 2 ^ list_inputs * 2
held c =
    let a = c.args in
    let once : c.missing_counts-more.result ≤ 1 = omega (arith, c.missing_counts-more.ensures, counts-le c.args.missing) in
    light-whole a.n a.w a.missing c.missing_counts-more.result (rows_of a.masks.now a.values.now a.words.now)
    c.requires.disjoint once list_inputs c.requires.n_le_list_inputs.0 _ c.add_pairs.ensures

-- with what the points add it is R, with what the rows take
sums : (c : goal.After-add_pairs) (i : ℕ) → i < c.args.places
    → c.points_of-points.result + at c.add_pairs.new.acc (at c.args.ts.now i)
    ≡ shift
    (of_rows c.args.missing
    (rows_of c.args.masks.now c.args.values.now c.args.words.now))
    c.args.n (at c.args.ts.now i)
    + c.taken_of-less.result
sums c i h =
    let a = c.args in
    let once : c.missing_counts-more.result ≤ 1 = omega (arith, c.missing_counts-more.ensures, counts-le c.args.missing) in
    light-parts a.n a.w a.missing c.missing_counts-more.result (rows_of a.masks.now a.values.now a.words.now)
    c.requires.disjoint once list_inputs c.requires.n_le_list_inputs.0 _ c.add_pairs.ensures (at a.ts.now i) (c.requires.places_in_bounds.2 i h) (c.requires.by_index i h)
    c.missing_counts-more.ensures _ _ c.points_of-points.ensures c.taken_of-less.ensures

pub put_at-requires : goal.put_at-requires
put_at-requires c =
    let a = c.args in
    let p = c.requires.places_in_bounds in
    let all : 2 ^ a.n * counts a.missing ≤ 2 ^ list_inputs * 1 = mul-le-mul (pow_mono c.requires.n_le_list_inputs.0) (counts-le a.missing) in
    let size = c.add_pairs.auto.acc in record {
      places_in_bounds = (p.0, p.1, omega (arith, c.points_of-points.ensures, all));
      by_index = λ i h. omega (arith, size, c.requires.acc_len.0, p.2 i h);
      by_index_2 = λ i h. held (goal.at.put_at-requires c).After-add_pairs (at a.ts.now i) (p.2 i h);
      by_index_3 = λ i h. omega (arith, sums (goal.at.put_at-requires c).After-add_pairs i h);
    }

pub returns : goal.returns
returns c =
    let a = c.args in
    c.put_at.ensures
    ∙ ap (λ (l : List ℕ). over l a.out.now) (tab-cong a.places _ _ (λ i h. omega (arith, sums (goal.at.returns c).After-add_pairs i h)))
