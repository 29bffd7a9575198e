-- What cubes add at the light numbers, in an array by number: none, one cube more, how much it can be, and R from it. Not here: which cubes a
-- list of rows has, and that they add up to R (`pair_laws`). Assumes nothing.
use Rattle.std.specs.Prelude.{◌≡◌, refl, Bool, true, false, cond, List, [], ◌∷◌, ◌++◌, ℕ, zero, suc, ◌+◌, ◌-◌, ◌*◌, ◌^◌, ◌≤◌, ◌<◌, leb, length, take, replicate}
use Rattle.std.proofs.Common.{sym, ap, ◌∙◌, arith, le-leb, pow_mono, ext_get_or, length-take-le}
use Rattle.std.specs.Int.Bits.{bit_and}
use Rattle.std.proofs.lemmas.Nat.{and_comm}
use Rattle.std.specs.Int.Count.{ones}
use Rattle.std.proofs.lemmas.List.{length-replicate}
use Rattle.bits.specs.Xor.{and_again}
use Rattle.slices.specs.Places.{at, tab}
use Rattle.slices.specs.Filled.{length-tab, tab-at, tab-cong}
use Rattle.block.specs.Limits.{list_inputs}
use Rattle.block.specs.Words.{of_rows}
use Rattle.block.specs.Measure.{shift}
use Rattle.block.specs.declared.Row.{Row}
use Rattle.pair_laws.specs.Theorem.{Disjoint, counts, often, often-weight, often-le, taken}
use Rattle.pair_laws.specs.Symmetric.{Cube, hit, added, cubes_to, cubes_of, added_none, added-push, added-fewer, added-small}
use Rattle.pair_weights.specs.Places.{weight-small}
use Rattle.missing_points.specs.Looped.{shift-parts}
use Rattle.light_laws.specs.Ways.{lit}
use Rattle.light_adding.specs.Raised.{most_weight, Below}

-- what cubes add at each light number below 2^n, and 0 at any other
abbrev pub light_sums : ℕ → ℕ → List Cube → List ℕ
light_sums n w cs = tab (2 ^ n) (λ t. lit w t (added t cs))

-- ---- at one number

lit-more : (w t x y : ℕ) → lit w t x + lit w t y ≡ lit w t (x + y)
lit-more w t x y = go (leb (ones t) w)
  where
    go : (b : Bool) → cond b x 0 + cond b y 0 ≡ cond b (x + y) 0
    go true = refl
    go false = refl

lit-le : (w t x : ℕ) → lit w t x ≤ x
lit-le w t x = go (leb (ones t) w)
  where
    go : (b : Bool) → cond b x 0 ≤ x
    go true = omega arith
    go false = omega arith

lit-none : (w t : ℕ) → lit w t 0 ≡ 0
lit-none w t = omega (arith, lit-le w t 0)

-- a part of a mask lies under it
pub part-again : (m x : ℕ) → bit_and (bit_and m x) m ≡ bit_and m x
part-again m x = and_comm (bit_and m x) m ∙ and_again m x

-- what a pair of rows weighs, in either order or in both
pub weight-most : (n o times : ℕ) (b : Bool) → n ≤ list_inputs → times ≤ 2 → 2 ^ (n - o) * cond b 1 2 * times ≤ most_weight
weight-most n o times true h l = omega (arith, weight-small n o times list_inputs h l)
weight-most n o times false h l = omega (arith, weight-small n o times list_inputs h l)

-- the first of an array's zeros
pub zeros-at : (k m t : ℕ) → at (take k (replicate m 0)) t ≡ 0
zeros-at zero m t = refl
zeros-at (suc k) zero t = refl
zeros-at (suc k) (suc m) zero = refl
zeros-at (suc k) (suc m) (suc t) = zeros-at k m t

pub zeros-length : (k m : ℕ) → k ≤ m → length (take k (replicate {A = ℕ} m 0)) ≡ k
zeros-length k m h = length-take-le k (replicate m 0) (omega (arith, length-replicate {A = ℕ} m 0))

module _ (n w : ℕ) where
  -- the array has an entry for each number
  pub light-length : (cs : List Cube) (l : List ℕ) → l ≡ light_sums n w cs → length l ≡ 2 ^ n
  light-length cs l e = ap length e ∙ length-tab (2 ^ n) (λ t. lit w t (added t cs))

  light-at : (cs : List Cube) (l : List ℕ) → l ≡ light_sums n w cs → (t : ℕ) → t < 2 ^ n → at l t ≡ lit w t (added t cs)
  light-at cs l e t h = ap (λ (x : List ℕ). at x t) e ∙ tab-at (2 ^ n) (λ t. lit w t (added t cs)) 0 t h

  -- no cube adds anything
  pub light-none : (l : List ℕ) → length l ≡ 2 ^ n → ((t : ℕ) → at l t ≡ 0) → l ≡ light_sums n w []
  light-none l e z =
      ext_get_or 0 l (light_sums n w []) (e ∙ sym (length-tab (2 ^ n) _))
      (λ t h. z t ∙ sym (tab-at (2 ^ n) (λ t. lit w t (added t [])) 0 t (omega arith) ∙ ap (lit w t) (added_none t) ∙ lit-none w t))

  -- one cube more
  pub light-more : (cs ds : List Cube) (q : Cube) (l k : List ℕ) → l ≡ light_sums n w cs → ds ≡ cs ++ (q ∷ [])
      → k ≡ tab (2 ^ n) (λ t. at l t + lit w t (hit t q)) → k ≡ light_sums n w ds
  light-more cs ds q l k e d h =
      h
      ∙ tab-cong (2 ^ n) _ _
      (λ t b.
      ap (λ (x : ℕ). x + lit w t (hit t q)) (light-at cs l e t b)
      ∙ lit-more w t (added t cs) (hit t q)
      ∙ ap (lit w t) (sym (ap (added t) d ∙ added-push t cs q)))

module _ (n w m e : ℕ) (rs : List Row) (d : Disjoint n rs) (once : e ≤ 1) (bound : ℕ) (few : n ≤ bound) where
  all_small : (t : ℕ) → t < 2 ^ n → added t (cubes_of (often m e) n rs) ≤ 2 ^ bound * 2
  all_small t h =
      omega (
        arith,
        added-small m n rs t d h (often m e) (often-weight m e) 2 (λ a b. omega (arith, often-le m e a b)),
        pow_mono {j = bound} few,
      )

  -- what the pairs before i, j add is at most the points twice
  pub light-small : (i j : ℕ) → i < length rs → j ≤ length rs → (l : List ℕ) → l ≡ light_sums n w (cubes_to (often m e) n rs i j)
      → Below (2 ^ bound * 2) l
  light-small i j hi hj l s t h =
      let below : t < 2 ^ n = omega (arith, light-length n w (cubes_to (often m e) n rs i j) l s) in
      omega (
        arith,
        light-at n w (cubes_to (often m e) n rs i j) l s t below,
        lit-le w t (added t (cubes_to (often m e) n rs i j)),
        added-fewer (often m e) n rs t i j hi hj,
        all_small t below,
      )

  module _ (l : List ℕ) (s : l ≡ light_sums n w (cubes_of (often m e) n rs)) (t : ℕ) (h : t < 2 ^ n) where
    -- and so is what all do
    pub light-whole : at l t ≤ 2 ^ bound * 2
    light-whole =
        omega (arith, light-at n w (cubes_of (often m e) n rs) l s t h, lit-le w t (added t (cubes_of (often m e) n rs)), all_small t h)

    -- R at a light number, with what the rows take, is what the points add, and what stands at the number
    pub light-parts : ones t ≤ w → e ≡ counts m → (points less : ℕ) → points ≡ 2 ^ n * counts m → less ≡ taken m n rs
        → points + at l t ≡ shift (of_rows m rs) n t + less
    light-parts o q points less a b =
        shift-parts m n rs d t h e points less (at l t) q a b
        (light-at n w (cubes_of (often m e) n rs) l s t h ∙ ap (λ (b : Bool). cond b (added t (cubes_of (often m e) n rs)) 0) (le-leb (ones t) w o))
