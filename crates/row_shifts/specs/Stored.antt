-- Cubes whose parts lie at the front of three lent lists: the room for them, none, one more, and what they add to R(t). Not here: which cubes
-- a list of rows has, and that they add up to R (`pair_laws`), and how two loops come by them (missing_points, `Looped`). Assumes nothing.
use Rattle.std.specs.Prelude.{◌≡◌, refl, List, [], ◌∷◌, ◌++◌, map, ℕ, ◌+◌, ◌*◌, ◌^◌, ◌≤◌, ◌<◌, length, set}
use Rattle.std.proofs.Common.{sym, ap, ◌∙◌, mul-le-mul, arith, length-set, length-append, pow_mono}
use Rattle.slices.specs.Places.{at, over}
use Rattle.slices.specs.Filled.{over-push}
use Rattle.sums.specs.Sums.{sum}
use Rattle.sums.specs.Laws.{sum_mono, sum_more}
use Rattle.block.specs.declared.Row.{Row}
use Rattle.pair_laws.specs.Theorem.{Disjoint, Weight}
use Rattle.pair_laws.specs.Symmetric.{Cube, cube, hit, added, cubes_of, added-small, added-stored}

-- room for the cubes of so many rows, one for each pair i ≤ j, in each of three lists
abbrev pub Roomy : ℕ → ℕ → ℕ → ℕ → Type 0
Roomy rows masks values weights = (rows * (rows + 1) ≤ masks * 2) × (rows * (rows + 1) ≤ values * 2) × (rows * (rows + 1) ≤ weights * 2)

-- for the longest list that they are room for
pub roomy-few : (rows most masks values weights : ℕ) → rows ≤ most → Roomy most masks values weights → Roomy rows masks values weights
roomy-few rows most masks values weights h r =
    let l : rows * (rows + 1) ≤ most * (most + 1) = mul-le-mul h (omega arith) in
    (omega (arith, r.0), omega (arith, r.1), omega (arith, r.2))

-- the parts of the cubes lie at the front of three lists, which hold beyond them what they held, and r is how many there are
pub record CubesAt (cs : List Cube) (m₀ v₀ w₀ m v w : List ℕ) (r : ℕ) : Type 0 where
  pub count : r ≡ length cs
  pub masks : m ≡ over (map (λ c. c.mask) cs) m₀
  pub values : v ≡ over (map (λ c. c.value) cs) v₀
  pub weights : w ≡ over (map (λ c. c.weight) cs) w₀

-- what the cube at q adds to R(t)
abbrev pub hit_at : List ℕ → List ℕ → List ℕ → ℕ → ℕ → ℕ
hit_at m v w t q = hit t (cube (at m q) (at v q) (at w q))

-- what the first r cubes add to R(t)
abbrev pub added_by : List ℕ → List ℕ → List ℕ → ℕ → ℕ → ℕ
added_by m v w r t = sum (hit_at m v w t) r

pub cubes-at-none : (m v w : List ℕ) → CubesAt [] m v w m v w 0
cubes-at-none m v w = record { count = refl; masks = refl; values = refl; weights = refl }

-- one cube more
pub cubes-at-more : (cs : List Cube) (q : Cube) (m₀ v₀ w₀ m v w : List ℕ) (r : ℕ) → CubesAt cs m₀ v₀ w₀ m v w r
    → r < length m₀ → r < length v₀ → r < length w₀
    → CubesAt (cs ++ (q ∷ [])) m₀ v₀ w₀ (set m r q.mask) (set v r q.value) (set w r q.weight) (r + 1)
cubes-at-more cs q m₀ v₀ w₀ m v w r s hm hv hw =
    let e = s.count in
    record {
      count = rw (length-append cs (q ∷ [])) (omega arith);
      masks = rw (s.masks, e) (over-push (λ (c : Cube). c.mask) cs q m₀ (omega arith));
      values = rw (s.values, e) (over-push (λ (c : Cube). c.value) cs q v₀ (omega arith));
      weights = rw (s.weights, e) (over-push (λ (c : Cube). c.weight) cs q w₀ (omega arith));
    }

module _ (g : ℕ → ℕ → ℕ) (n : ℕ) (rs : List Row) (m₀ v₀ w₀ m v w : List ℕ) (r : ℕ) (s : CubesAt (cubes_of g n rs) m₀ v₀ w₀ m v w r) where
  -- what the stored cubes of a list of rows add
  pub cubes-added : (t : ℕ) → added_by m v w r t ≡ added t (cubes_of g n rs)
  cubes-added t = rw (s.masks, s.values, s.weights, s.count) (added-stored t (cubes_of g n rs) m₀ v₀ w₀)

  -- with disjoint rows, and points that count at most twice, that is small
  pub cubes-small : (o : ℕ) → Weight o g → ((a b : ℕ) → g a b ≤ 2) → Disjoint n rs → (most t : ℕ) → t < 2 ^ n → n ≤ most
      → added_by m v w r t ≤ 2 ^ most * 2
  cubes-small o q k d most t h l = omega (arith, cubes-added t, added-small o n rs t d h g q 2 k, pow_mono l)

-- ---- the sum as a loop over the cubes has it

pub added_more : (m v w : List ℕ) (t q x : ℕ) → x ≡ added_by m v w q t + hit_at m v w t q → x ≡ added_by m v w (q + 1) t
added_more m v w t q x e = e ∙ sym (sum_more (hit_at m v w t) q)

-- one cube more is at most all of them
pub added-step : (m v w : List ℕ) (r t q : ℕ) → q < r → added_by m v w q t + hit_at m v w t q ≤ added_by m v w r t
added-step m v w r t q h = omega (arith, sum_more (hit_at m v w t) q, sum_mono (hit_at m v w t) (q + 1) r (omega arith))

-- ---- one cube more, as two nested loops put them

-- lists that held the cubes cs, whatever they held before, hold the cubes ds, r of them
pub record Grown (cs ds : List Cube) (m₁ v₁ w₁ : List ℕ) (r₁ : ℕ) (m v w : List ℕ) (r : ℕ) : Type 0 where
  pub masks : length m ≡ length m₁
  pub values : length v ≡ length v₁
  pub weights : length w ≡ length w₁
  pub count : r ≡ length ds
  pub lie :
      (m₀ v₀ w₀ : List ℕ) → length m₁ ≡ length m₀ → length v₁ ≡ length v₀ → length w₁ ≡ length w₀
      → CubesAt cs m₀ v₀ w₀ m₁ v₁ w₁ r₁ → CubesAt ds m₀ v₀ w₀ m v w r

module _ (cs ds es : List Cube) (m₁ v₁ w₁ : List ℕ) (r₁ : ℕ) (m v w : List ℕ) (r : ℕ) (m' v' w' : List ℕ) (r' : ℕ)
    (g : Grown cs ds m₁ v₁ w₁ r₁ m v w r) where
  -- one cube more
  pub grown-more : (q : Cube) → r < length m₁ → r < length v₁ → r < length w₁ → es ≡ ds ++ (q ∷ [])
      → m' ≡ set m r q.mask → v' ≡ set v r q.value → w' ≡ set w r q.weight → r' ≡ r + 1
      → Grown cs es m₁ v₁ w₁ r₁ m' v' w' r'
  grown-more q hm hv hw e em ev ew er =
      record {
        masks = ap length em ∙ length-set m r q.mask ∙ g.masks;
        values = ap length ev ∙ length-set v r q.value ∙ g.values;
        weights = ap length ew ∙ length-set w r q.weight ∙ g.weights;
        count = rw (e, length-append ds (q ∷ [])) (omega (arith, g.count));
        lie =
            λ m₀ v₀ w₀ a b c s.
            rw (e, em, ev, ew, er)
            (cubes-at-more ds q m₀ v₀ w₀ m v w r (g.lie m₀ v₀ w₀ a b c s) (omega arith) (omega arith) (omega arith));
      }

  -- the same cubes
  pub grown-same : es ≡ ds → m' ≡ m → v' ≡ v → w' ≡ w → r' ≡ r → Grown cs es m₁ v₁ w₁ r₁ m' v' w' r'
  grown-same e em ev ew er = rw (e, em, ev, ew, er) g
