-- The cubes of a list of rows in flat slices, as two nested loops over the pairs i ≤ j meet them: whether a pair has one, how many
-- there can be, and what those met so far add at t, which is never more than the points twice; and R by its parts, what the points add and
-- what the pairs do. Not here: cubes that are stored (row_shifts, `Stored`). Assumes nothing.
use Rattle.std.specs.Prelude.{◌≡◌, List, [], ◌∷◌, ◌++◌, ℕ, ◌+◌, ◌*◌, ◌^◌, ◌≤◌, ◌<◌, length}
use Rattle.std.proofs.Common.{sym, ap, ◌∙◌, mul-le-mul, arith, pow_mono}
use Rattle.slices.specs.Places.{at}
use Rattle.block.specs.Words.{rows_of, of_rows}
use Rattle.block.specs.Measure.{shift}
use Rattle.block.specs.declared.Row.{Row}
use Rattle.pair_laws.specs.Theorem.{Disjoint, counts, often, often-weight, often-le, taken}
use Rattle.pair_laws.specs.Symmetric.{Cube, hit, added, cube_at, times_at, cubes_to, cubes_of, cubes-more, cubes-skip, cubes-next, cubes-whole, cubes-room, cubes-length, shift-cubes, added-push, added-fewer, added-small}
use Rattle.pair_weights.specs.Places.{cube_of}
use Rattle.flat_rows.specs.Listing.{Listed, row-at}
use Rattle.missing_points.specs.Rows.{counted}

-- R with what the rows take, by its parts: what the points add, and what the pairs do
pub shift-parts : (m n : ℕ) (rs : List Row) → Disjoint n rs → (t : ℕ) → t < 2 ^ n → (e points less pairs : ℕ) → e ≡ counts m
    → points ≡ 2 ^ n * counts m → less ≡ taken m n rs → pairs ≡ added t (cubes_of (often m e) n rs)
    → points + pairs ≡ shift (of_rows m rs) n t + less
shift-parts m n rs d t h e points less pairs a b c f = rw (f, c, b, a) (sym (shift-cubes m n rs t d h))

-- a list of at most so many rows has no more pairs than one of so many
pub cubes-number : {most : ℕ} {masks values words : List ℕ} → Listed most masks values words
    → length masks * (length masks + 1) ≤ most * (most + 1)
cubes-number l =
    let h = l.few in
    mul-le-mul h (omega arith)

module _ (m e n : ℕ) {most : ℕ} {masks values words : List ℕ} (l : Listed most masks values words) where
  -- the cubes before i, j
  abbrev pub cubes_met : ℕ → ℕ → List Cube
  cubes_met i j = cubes_to (often m e) n (rows_of masks values words) i j

  module _ (i j : ℕ) (hi : i < length masks) (hj : j < length masks) where
    -- how often the points of the pair count
    abbrev times : ℕ
    times = often m e (at words i) (at words j)

    cube-by : cube_at (often m e) n (rows_of masks values words) i j ≡ cube_of n times masks values i j
    cube-by =
        rw (
          row-at masks values words l.values-too l.words-too i hi,
          row-at masks values words l.values-too l.words-too j hj,
        )

    times-by : times_at (often m e) (rows_of masks values words) i j ≡ times
    times-by =
        rw (
          row-at masks values words l.values-too l.words-too i hi,
          row-at masks values words l.values-too l.words-too j hj,
        )

    -- a pair that counts has a cube
    pub cubes-put : i ≤ j → (x : ℕ) → x ≡ times → 0 < x → cubes_met i (j + 1) ≡ cubes_met i j ++ (cube_of n x masks values i j ∷ [])
    cubes-put h x d c =
        cubes-more (often m e) n (rows_of masks values words) i j h (omega (arith, times-by))
        ∙ ap (λ (q : Cube). cubes_met i j ++ (q ∷ [])) (cube-by ∙ ap (λ (y : ℕ). cube_of n y masks values i j) (sym d))

    -- any other pair has none
    pub cubes-pass : (x : ℕ) → x ≡ times → x ≤ 0 → cubes_met i (j + 1) ≡ cubes_met i j
    cubes-pass x d c = cubes-skip (often m e) n (rows_of masks values words) i j (omega (arith, times-by))

    -- what the pair adds comes to the sum
    pub sum-put : i ≤ j → (x : ℕ) → x ≡ times → 0 < x → (t s y : ℕ) → s ≡ added t (cubes_met i j)
        → y ≡ hit t (cube_of n x masks values i j) → s + y ≡ added t (cubes_met i (j + 1))
    sum-put h x d c t s y a b =
        rw (a, b) (sym (ap (added t) (cubes-put h x d c) ∙ added-push t (cubes_met i j) (cube_of n x masks values i j)))

    -- the sum with this pair is at most the points twice
    pub sum-small : Disjoint n (rows_of masks values words) → e ≤ 1 → (bound t : ℕ) → t < 2 ^ n → n ≤ bound
        → added t (cubes_met i (j + 1)) ≤ 2 ^ bound * 2
    sum-small d q bound t h b =
        let p = counted n l in
        omega (
          arith,
          added-fewer (often m e) n (rows_of masks values words) t i (j + 1) (omega arith) (omega arith),
          added-small m n (rows_of masks values words) t d h (often m e) (often-weight m e) 2 (λ a b. omega (arith, often-le m e a b)),
          pow_mono b,
        )

  -- before any pair there are fewer cubes than there is room for
  pub cubes-fit : (i j : ℕ) → i ≤ j → j < length masks → length (cubes_met i j) * 2 < length masks * (length masks + 1)
  cubes-fit i j h k =
      let p = counted n l in
      cubes-room (often m e) n (rows_of masks values words) i j (length masks) h (omega arith) (omega arith)

  -- and of all pairs no more
  pub cubes-few : length (cubes_of (often m e) n (rows_of masks values words)) * 2 ≤ length masks * (length masks + 1)
  cubes-few =
      let p = counted n l in
      cubes-length (often m e) n (rows_of masks values words) (length masks) (omega arith)

  -- past the last row the next begins
  pub row_done : (i j : ℕ) → j ≡ length masks → cubes_met (i + 1) (i + 1) ≡ cubes_met i j
  row_done i j h = cubes-next (often m e) n (rows_of masks values words) i ∙ ap (cubes_met i) (counted n l ∙ sym h)

  -- past the last row all are there
  pub rows-done : (i : ℕ) → i ≡ length masks → cubes_of (often m e) n (rows_of masks values words) ≡ cubes_met i i
  rows-done i h = sym (cubes-whole (often m e) n (rows_of masks values words)) ∙ ap (λ (k : ℕ). cubes_met k k) (counted n l ∙ sym h)
