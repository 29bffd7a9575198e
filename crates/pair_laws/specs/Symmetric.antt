-- What disjoint rows add by unordered pairs, where the points of a pair count g times, by its words, in either order: one cube (mask,
-- value, weight) for each pair i ≤ j that counts, in the order of two nested loops, its weight doubled where i < j. Then the list of cubes
-- as such loops build it, how long it can be, that its sum is the one over ordered pairs, the sum as the loops reach it, R by cubes,
-- and the sum as a loop over three stored lists has it. Not here: the sum over ordered pairs
-- (`Theorem`). Assumes nothing.
use Rattle.std.specs.Prelude.{◌≡◌, refl, Bool, true, false, ◌&&◌, eqb, leb, ltb, get_or}
use Rattle.std.proofs.Math.Path.{sym, ap, ap₂}
use Rattle.std.proofs.Common.{◌∙◌, mul-le-mul, mul-zero, zero-mul, add-zero, add-suc, add-one, lt-ltb, le-leb, leb-true, length-append}
use Rattle.std.proofs.Math.Bool.{cond, and-false}
use mathlib.Core.List.{List, [], ◌∷◌, ◌++◌, map, append_assoc, append-nil}
use Prim.Native.Nat.{ℕ, zero, suc, ◌+◌, ◌-◌, ◌*◌, ◌^◌, ◌≤◌, ◌<◌}
use native.Mathlib.Omega.{arith}
use Rattle.std.proofs.lemmas.Bool.{lt-leb}
use Rattle.std.specs.Int.Bits.{bit_and}
use Rattle.std.proofs.Math.ListN.{length}
use Rattle.slices.specs.Places.{at, over}
use Rattle.slices.specs.Filled.{over-map-at}
use Rattle.sums.specs.Sums.{sum}
use Rattle.sums.specs.Laws.{sum-cong, sum-append, sum-square, sum-zero, sum-suc}
use Rattle.block.specs.Words.{of_rows}
use Rattle.block.specs.Measure.{shift}
use Rattle.block.specs.Refusals.{row_at}
use Rattle.block.specs.declared.Row.{Row}
use Rattle.pair_laws.specs.Cube.{Sound}
use Rattle.pair_laws.specs.Closed.{fixed_both, demanded, free_both, pair-closed, pair_turn}
use Rattle.pair_laws.specs.Theorem.{Every, Disjoint, Weight, counts, often, taken, pair_at, pairs_add, often-weight, pairs-le, shift-pairs}

-- where t, under the mask, has the value, the cube adds its weight to R(t)
pub record Cube : Type 0 where
  pub mask : ℕ
  pub value : ℕ
  pub weight : ℕ

-- a cube by its parts
abbrev pub cube : ℕ → ℕ → ℕ → Cube
cube m v w = record { mask = m; value = v; weight = w }

-- what a cube adds to R(t)
abbrev pub hit : ℕ → Cube → ℕ
hit t c = cond (eqb (bit_and t c.mask) c.value) c.weight 0

-- what a list of cubes adds
abbrev pub added : ℕ → List Cube → ℕ
added t cs = sum (λ q. hit t (get_or cs q (cube 0 0 0))) (length cs)

-- how often the points of a pair of rows count, by their words
abbrev Times : Type 0
Times = ℕ → ℕ → ℕ

-- the same of the rows i and j
abbrev pub times_at : Times → List Row → ℕ → ℕ → ℕ
times_at g rs i j = g (row_at rs i).word (row_at rs j).word

-- the cube of the rows i ≤ j
abbrev pub cube_at : Times → ℕ → List Row → ℕ → ℕ → Cube
cube_at g n rs i j =
    cube (fixed_both (row_at rs i) (row_at rs j)) (demanded (row_at rs i) (row_at rs j))
    (2 ^ free_both n (row_at rs i) (row_at rs j) * cond (eqb i j) 1 2 * times_at g rs i j)

-- the pair i, j has a cube
abbrev listed : Times → List Row → ℕ → ℕ → Bool
listed g rs i j = leb i j && ltb 0 (times_at g rs i j)

-- the cubes of row i with the rows below j
row_cubes : Times → ℕ → List Row → ℕ → ℕ → List Cube
row_cubes g n rs i zero = []
row_cubes g n rs i (suc j) = row_cubes g n rs i j ++ cond (listed g rs i j) (cube_at g n rs i j ∷ []) []

-- the cubes of the rows below i with all
cubes_below : Times → ℕ → List Row → ℕ → List Cube
cubes_below g n rs zero = []
cubes_below g n rs (suc i) = cubes_below g n rs i ++ row_cubes g n rs i (length rs)

-- the cubes of the pairs that come before i, j
pub cubes_to : Times → ℕ → List Row → ℕ → ℕ → List Cube
cubes_to g n rs i j = cubes_below g n rs i ++ row_cubes g n rs i j

-- the cubes of all pairs
pub cubes_of : Times → ℕ → List Row → List Cube
cubes_of g n rs = cubes_to g n rs (length rs) (length rs)

-- ---- the list as two nested loops build it

-- no pair comes before the first
pub cubes-none : (g : Times) (n : ℕ) (rs : List Row) → cubes_to g n rs 0 0 ≡ []
unfolding cubes_to cubes_below row_cubes
cubes-none g n rs = refl

-- a pair that counts has a cube
pub cubes-more : (g : Times) (n : ℕ) (rs : List Row) (i j : ℕ) → i ≤ j → 0 < times_at g rs i j
    → cubes_to g n rs i (j + 1) ≡ cubes_to g n rs i j ++ (cube_at g n rs i j ∷ [])
unfolding cubes_to row_cubes
cubes-more g n rs i j h e =
    rw (add-one j, le-leb i j h, lt-ltb 0 (times_at g rs i j) e)
    (sym (append_assoc (cubes_below g n rs i) (row_cubes g n rs i j) (cube_at g n rs i j ∷ [])))

-- any other pair has none
pub cubes-skip : (g : Times) (n : ℕ) (rs : List Row) (i j : ℕ) → times_at g rs i j ≡ 0 → cubes_to g n rs i (j + 1) ≡ cubes_to g n rs i j
unfolding cubes_to row_cubes
cubes-skip g n rs i j e =
    rw (add-one j, e, and-false) (ap (λ l. cubes_below g n rs i ++ l) (append-nil (row_cubes g n rs i j)))

row-cubes-none : (g : Times) (n : ℕ) (rs : List Row) (i j : ℕ) → j ≤ i → row_cubes g n rs i j ≡ []
unfolding row_cubes
row-cubes-none g n rs i zero h = refl
row-cubes-none g n rs i (suc j) h = rw (lt-leb i j (omega arith), row-cubes-none g n rs i j (omega arith))

-- the next row begins at itself
pub cubes-next : (g : Times) (n : ℕ) (rs : List Row) (i : ℕ) → cubes_to g n rs (i + 1) (i + 1) ≡ cubes_to g n rs i (length rs)
unfolding cubes_to cubes_below
cubes-next g n rs i =
    rw (row-cubes-none g n rs (i + 1) (i + 1) (omega arith), add-one i) (append-nil (cubes_below g n rs i ++ row_cubes g n rs i (length rs)))

-- past the last row the list is whole
pub cubes-whole : (g : Times) (n : ℕ) (rs : List Row) → cubes_to g n rs (length rs) (length rs) ≡ cubes_of g n rs
unfolding cubes_of
cubes-whole g n rs = refl

-- ---- how long it can be

length_last : (b : Bool) (c : Cube) → length (cond b (c ∷ []) []) ≤ 1
length_last true c = omega arith
length_last false c = omega arith

-- row i has no cube with a row before it
row-length : (g : Times) (n : ℕ) (rs : List Row) (i j : ℕ) → length (row_cubes g n rs i j) ≤ j - i
unfolding row_cubes
row-length g n rs i zero = omega arith
row-length g n rs i (suc j) = go (leb i j) refl (row-length g n rs i j)
  where
    go : (b : Bool) → leb i j ≡ b → length (row_cubes g n rs i j) ≤ j - i
        → length (row_cubes g n rs i j ++ cond (listed g rs i j) (cube_at g n rs i j ∷ []) []) ≤ suc j - i
    go true e h =
        rw (length-append (row_cubes g n rs i j) (cond (listed g rs i j) (cube_at g n rs i j ∷ []) []))
        (omega (arith, leb-true i j e, length_last (listed g rs i j) (cube_at g n rs i j)))
    go false e h = rw (e, append-nil (row_cubes g n rs i j)) (omega arith)

below_length : (g : Times) (n : ℕ) (rs : List Row) (i d : ℕ) → i + d ≡ length rs
    → length (cubes_below g n rs i) * 2 + d * (d + 1) ≤ length rs * (length rs + 1)
unfolding cubes_below
below_length g n rs zero d h = rw (← h) (omega arith)
below_length g n rs (suc i) d h =
    rw (length-append (cubes_below g n rs i) (row_cubes g n rs i (length rs)))
    (omega (arith, below_length g n rs i (suc d) (omega arith), row-length g n rs i (length rs)))

square_le : (p m : ℕ) → p ≤ m → p * (p + 1) ≤ m * (m + 1)
square_le p m h = mul-le-mul h (omega arith)

-- before any pair i ≤ j of at most m rows there are fewer than m (m + 1) / 2 cubes
pub cubes-room : (g : Times) (n : ℕ) (rs : List Row) (i j m : ℕ) → i ≤ j → j < length rs → length rs ≤ m
    → length (cubes_to g n rs i j) * 2 < m * (m + 1)
unfolding cubes_to
cubes-room g n rs i j m h l k =
    let e : ℕ = length rs - suc i in
    rw (length-append (cubes_below g n rs i) (row_cubes g n rs i j))
    (omega (arith, below_length g n rs i (suc e) (omega arith), row-length g n rs i j, square_le (length rs) m k))

-- and of all pairs there are no more than that
pub cubes-length : (g : Times) (n : ℕ) (rs : List Row) (m : ℕ) → length rs ≤ m → length (cubes_of g n rs) * 2 ≤ m * (m + 1)
unfolding cubes_of cubes_to
cubes-length g n rs m k =
    rw (length-append (cubes_below g n rs (length rs)) (row_cubes g n rs (length rs) (length rs)))
    (omega (arith, below_length g n rs (length rs) 0 (omega arith), row-length g n rs (length rs) (length rs), square_le (length rs) m k))

-- ---- the sum over the cubes

module _ (t : ℕ) where
  pub added_none : added t [] ≡ 0
  added_none = sum-zero (λ q. hit t (get_or [] q (cube 0 0 0)))

  added-append : (cs ds : List Cube) → added t (cs ++ ds) ≡ added t cs + added t ds
  added-append cs ds = sum-append (hit t) (cube 0 0 0) cs ds

  added-alone : (c : Cube) → added t (c ∷ []) ≡ hit t c
  added-alone c = sum-suc (λ q. hit t (get_or (c ∷ []) q (cube 0 0 0))) 0 ∙ omega (arith, sum-zero (λ q. hit t (get_or (c ∷ []) q (cube 0 0 0))))

  added-last : (b : Bool) (c : Cube) → added t (cond b (c ∷ []) []) ≡ cond b (hit t c) 0
  added-last true c = added-alone c
  added-last false c = added_none

  -- one cube more
  pub added-push : (cs : List Cube) (c : Cube) → added t (cs ++ (c ∷ [])) ≡ added t cs + hit t c
  added-push cs c = added-append cs (c ∷ []) ∙ ap (λ (x : ℕ). added t cs + x) (added-alone c)

module _ (g : Times) (n : ℕ) (rs : List Row) (t : ℕ) where
  -- what the pair i, j adds if only pairs i ≤ j are counted
  abbrev portion : ℕ → ℕ → ℕ
  portion i j = cond (leb i j) (pair_at g n rs t i j * cond (eqb i j) 1 2) 0

  conds : (a e : Bool) (w d o : ℕ) → cond (a && ltb 0 o) (cond e (w * d * o) 0) 0 ≡ cond a (cond e w 0 * o * d) 0
  conds true true w d zero = rw (mul-zero w, zero-mul d)
  conds true true w d (suc o) = rw (lt-ltb 0 (suc o) (omega arith)) (swap w d (suc o))
    where
      swap : (w d o : ℕ) → w * d * o ≡ w * o * d
      swap w d o = omega arith
  conds true false w d zero = sym (zero-mul d)
  conds true false w d (suc o) = rw (lt-ltb 0 (suc o) (omega arith)) (sym (ap (λ (x : ℕ). x * d) (zero-mul (suc o)) ∙ zero-mul d))
  conds false e w d o = refl

  row-added : Every (Sound n) rs → (i j : ℕ) → i < length rs → j ≤ length rs → added t (row_cubes g n rs i j) ≡ sum (portion i) j
  unfolding row_cubes
  row-added s i zero hi hj = added_none t ∙ sym (sum-zero (portion i))
  row-added s i (suc j) hi hj =
      added-append t (row_cubes g n rs i j) (cond (listed g rs i j) (cube_at g n rs i j ∷ []) [])
      ∙ ap₂ ◌+◌ (row-added s i j hi (omega arith))
      (added-last t (listed g rs i j) (cube_at g n rs i j)
      ∙ conds (leb i j) (eqb (bit_and t (fixed_both (row_at rs i) (row_at rs j))) (demanded (row_at rs i) (row_at rs j)))
      (2 ^ free_both n (row_at rs i) (row_at rs j)) (cond (eqb i j) 1 2) (times_at g rs i j)
      ∙ ap (λ (x : ℕ). cond (leb i j) (x * times_at g rs i j * cond (eqb i j) 1 2) 0)
      (sym (pair-closed n (row_at rs i) (row_at rs j) t (s i hi) (s j (omega arith)))))
      ∙ sym (sum-suc (portion i) j)

  below-added : Every (Sound n) rs → (i : ℕ) → i ≤ length rs → added t (cubes_below g n rs i) ≡ sum (λ i. sum (portion i) (length rs)) i
  unfolding cubes_below
  below-added s zero h = added_none t ∙ sym (sum-zero (λ i. sum (portion i) (length rs)))
  below-added s (suc i) h =
      added-append t (cubes_below g n rs i) (row_cubes g n rs i (length rs))
      ∙ ap₂ ◌+◌ (below-added s i (omega arith)) (row-added s i (length rs) (omega arith) (omega arith))
      ∙ sym (sum-suc (λ i. sum (portion i) (length rs)) i)

  row-fewer : (i j d : ℕ) → added t (row_cubes g n rs i j) ≤ added t (row_cubes g n rs i (j + d))
  unfolding row_cubes
  row-fewer i j zero = rw (add-zero j) (omega arith)
  row-fewer i j (suc d) =
      rw (add-suc j d)
      (omega (
        arith,
        row-fewer i j d,
        added-append t (row_cubes g n rs i (j + d)) (cond (listed g rs i (j + d)) (cube_at g n rs i (j + d) ∷ []) []),
      ))

  below-fewer : (i d : ℕ) → added t (cubes_below g n rs i) ≤ added t (cubes_below g n rs (i + d))
  unfolding cubes_below
  below-fewer i zero = rw (add-zero i) (omega arith)
  below-fewer i (suc d) =
      rw (add-suc i d)
      (omega (arith, below-fewer i d, added-append t (cubes_below g n rs (i + d)) (row_cubes g n rs (i + d) (length rs))))

  -- the pairs before i, j add no more than all
  pub added-fewer : (i j : ℕ) → i < length rs → j ≤ length rs → added t (cubes_to g n rs i j) ≤ added t (cubes_of g n rs)
  unfolding cubes_of cubes_to cubes_below
  added-fewer i j hi hj =
      let p : ℕ = length rs in
      let last : j + (p - j) ≡ p = omega arith in
      let row : added t (row_cubes g n rs i j) ≤ added t (row_cubes g n rs i p) = rw last at (row-fewer i j (p - j)) in
      let end : suc i + (p - suc i) ≡ p = omega arith in
      let below : added t (cubes_below g n rs (suc i)) ≤ added t (cubes_below g n rs p) = rw end at (below-fewer (suc i) (p - suc i)) in
      omega (
        arith,
        row,
        below,
        added-append t (cubes_below g n rs i) (row_cubes g n rs i j),
        added-append t (cubes_below g n rs i) (row_cubes g n rs i p),
        added-append t (cubes_below g n rs p) (row_cubes g n rs p p),
      )

  -- what the cubes add is what the ordered pairs do
  pub added-pairs : Every (Sound n) rs → ((a b : ℕ) → g a b ≡ g b a) → added t (cubes_of g n rs) ≡ pairs_add g n rs t
  unfolding cubes_of cubes_to
  added-pairs s turn =
      ap (added t)
      (ap (λ l. cubes_below g n rs (length rs) ++ l) (row-cubes-none g n rs (length rs) (length rs) (omega arith))
      ∙ append-nil (cubes_below g n rs (length rs)))
      ∙ below-added s (length rs) (omega arith)
      ∙ sym
      (sum-square (pair_at g n rs t) (length rs)
      (λ i j hi hj.
      ap₂ ◌*◌ (pair_turn n (row_at rs i) (row_at rs j) t (s i hi) (s j hj)) (turn (row_at rs i).word (row_at rs j).word)))

module _ (m n : ℕ) (rs : List Row) (t : ℕ) (d : Disjoint n rs) (h : t < 2 ^ n) where
  -- no sum on the way passes the number of points, as often as one can count
  pub added-small : (g : Times) → Weight m g → (most : ℕ) → ((a b : ℕ) → g a b ≤ most) → added t (cubes_of g n rs) ≤ 2 ^ n * most
  added-small g w most l = rw (added-pairs g n rs t d.sound w.turn) (pairs-le m n rs t d h g w most l)

  -- R(t), with what the rows take, is what the points and the cubes of all pairs add
  pub shift-cubes : shift (of_rows m rs) n t + taken m n rs ≡ 2 ^ n * counts m + added t (cubes_of (often m (counts m)) n rs)
  shift-cubes =
      shift-pairs m n rs t d h
      ∙ ap (λ (x : ℕ). 2 ^ n * counts m + x) (sym (added-pairs (often m (counts m)) n rs t d.sound (often-weight m (counts m)).turn))

-- the same sum over cubes whose parts lie at the front of three lists
pub added-stored : (t : ℕ) (cs : List Cube) (masks values weights : List ℕ)
    → sum
    (λ q.
    hit t
    (cube (at (over (map (λ c. c.mask) cs) masks) q) (at (over (map (λ c. c.value) cs) values) q)
    (at (over (map (λ c. c.weight) cs) weights) q)))
    (length cs)
    ≡ added t cs
added-stored t cs masks values weights =
    sum-cong _ _ (length cs)
    (λ q h.
    rw (
      over-map-at (λ (c : Cube). c.mask) cs masks (cube 0 0 0) q h,
      over-map-at (λ (c : Cube). c.value) cs values (cube 0 0 0) q h,
      over-map-at (λ (c : Cube). c.weight) cs weights (cube 0 0 0) q h,
    ))
