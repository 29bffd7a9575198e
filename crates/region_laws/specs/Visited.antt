-- The regions that are visited: each lies in the region that it comes from, none is visited twice, and each that is halved leads to a row, so that
-- there are no more than twice as many as inputs for each row that comes out, and one. Assumes nothing.
use Rattle.std.specs.Prelude.{◌≡◌, true, false, List, [], ◌∷◌, ◌++◌, ◌⊎◌, ℕ, suc, ◌+◌, ◌*◌, ◌≤◌, ◌<◌, length}
use Rattle.std.proofs.Common.{sym, ap, ◌∙◌, subst, inl, inr, mul-add, arith, eq-eqb, length-append}
use Rattle.std.specs.Int.Bits.{bit_and}
use Rattle.bits.specs.Digits.{bit}
use Rattle.slices.specs.Tests.{and_both}
use Rattle.sums.specs.Sums.{one}
use Rattle.sums.specs.Laws.{one-le}
use Rattle.block.specs.Words.{under}
use Rattle.block.specs.Rows.{half}
use Rattle.block.specs.Refusals.{row_at, bad_row}
use Rattle.block.specs.Overlaps.{cut, whole_space, free_inputs, region_rows, disjoined}
use Rattle.block.specs.declared.Row.{Row}
use Rattle.pair_laws.specs.Cube.{Sound}
use Rattle.pair_laws.specs.Theorem.{Every, every-cons}
use Rattle.step_laws.specs.Shear.{under-half}
use Rattle.step_laws.specs.Hits.{every-tail, every_append, halves}
use Rattle.region_laws.specs.Free.{free-half, free_all, by-halves}
use Rattle.region_laws.specs.Pieces.{visited, Unmet, Single, Halved, region-cases}
use Rattle.region_laws.specs.Disjoined.{rows-sound, whole-sound, region-some}

-- ---- each lies in the region that it comes from

-- the region s lies in q, has a point, and no more free inputs
pub record Within (n : ℕ) (q s : Row) : Type 0 where
  pub point : under s s.values ≡ true
  pub inside : (x : ℕ) → under s x ≡ true → under q x ≡ true
  pub fewer : free_inputs n s ≤ free_inputs n q

every-imp : (P Q : Row → Type 0) → ((r : Row) → P r → Q r) → (rs : List Row) → Every P rs → Every Q rs
every-imp P Q f rs e i h = f (row_at rs i) (e i h)

within-self : (n : ℕ) (q : Row) → Sound n q → Within n q q
within-self n q a =
    record { point = eq-eqb (bit_and q.mask q.values) q.values a.inside; inside = λ x u. u; fewer = omega arith }

within-half : (n h d : ℕ) (q : Row) → h < n → d < 2 → Sound n q → bit q.mask h ≡ 0 → (s : Row) → Within n (half h d q) s → Within n q s
within-half n h d q l k a free s w =
    record {
      point = w.point;
      inside = λ x u. (and_both (under q x) _ (sym (under-half n h d q x k a free) ∙ w.inside x u)).0;
      fewer = omega (arith, w.fewer, free-half n h d q l free);
    }

-- ---- none is visited twice

-- no region of the list is one of those behind it
unfoldable pub Distinct : List Row → Type 0
Distinct [] = Unit
Distinct (r ∷ rs) = Every (λ s. s ≡ r → ⊥) rs × Distinct rs

distinct_append : (s t : List Row) → Distinct s → Distinct t → Every (λ r. Every (λ u. u ≡ r → ⊥) t) s → Distinct (s ++ t)
unfolding Distinct
distinct_append [] t d e f = e
distinct_append (r ∷ s) t d e f = (
  every_append (λ u. u ≡ r → ⊥) s t d.0 (f 0 (omega arith)),
  distinct_append s t d.1 e (every-tail (λ r. Every (λ u. u ≡ r → ⊥) t) r s f),
)

-- the regions visited from q on
pub record Once (n : ℕ) (q : Row) (vs : List Row) : Type 0 where
  pub within : Every (Within n q) vs
  pub distinct : Distinct vs

once-self : (n : ℕ) (q : Row) → Sound n q → Once n q (q ∷ [])
unfolding Distinct
once-self n q a =
    record {
      within = every-cons (Within n q) q [] (within-self n q a) (λ i h. absurd (omega arith));
      distinct = ((λ i h. absurd (omega arith)), tt);
    }

-- a region that lies in both halves has no point
no-common : (n h : ℕ) (q : Row) → Sound n q → bit q.mask h ≡ 0 → (r u : Row) → Within n (half h 0 q) r → Within n (half h 1 q) u → u ≡ r → ⊥
no-common n h q a free r u v w e =
    let x : ℕ = u.values in
    let low : under (half h 0 q) x ≡ true = v.inside x (subst (λ (s : Row). under s x ≡ true) e w.point) in
    let high : under (half h 1 q) x ≡ true = w.inside x w.point in
    omega (arith, halves n h q x a free, ap one low, ap one high, one-le (under q x))

once-two : (n h : ℕ) (q : Row) (s t : List Row) → h < n → Sound n q → bit q.mask h ≡ 0
    → Once n (half h 0 q) s → Once n (half h 1 q) t → Once n q (q ∷ s ++ t)
unfolding Distinct
once-two n h q s t l a free c d =
    record {
      within =
          every-cons (Within n q) q (s ++ t) (within-self n q a)
          (every_append (Within n q) s t
          (every-imp (Within n (half h 0 q)) (Within n q) (within-half n h 0 q l (omega arith) a free) s c.within)
          (every-imp (Within n (half h 1 q)) (Within n q) (within-half n h 1 q l (omega arith) a free) t d.within));
      distinct = (
        every_append (λ u. u ≡ q → ⊥) s t (every-imp (Within n (half h 0 q)) (λ u. u ≡ q → ⊥) (other 0) s c.within)
            (every-imp (Within n (half h 1 q)) (λ u. u ≡ q → ⊥) (other 1) t d.within),
        distinct_append s t c.distinct d.distinct
            (every-imp (Within n (half h 0 q)) (λ r. Every (λ u. u ≡ r → ⊥) t)
            (λ r v. every-imp (Within n (half h 1 q)) (λ u. u ≡ r → ⊥) (λ u w. no-common n h q a free r u v w) t d.within) s c.within),
      );
    }
  where
    other : (e : ℕ) (u : Row) → Within n (half h e q) u → u ≡ q → ⊥
    other e u w p = omega (arith, w.fewer, free-half n h e q l free, ap (free_inputs n) p)

module _ (n : ℕ) (rs : List Row) (sound : Every (Sound n) rs) where
  pub region-once : (q : Row) → Sound n q → Once n q (visited n rs q)
  region-once = by-halves n (λ q. Once n q (visited n rs q)) (λ q a ih. step q a ih (region-cases n rs sound q a))
    where
      step : (q : Row) → Sound n q
          → ((h d : ℕ) → h < n → d < 2 → bit q.mask h ≡ 0 → Once n (half h d q) (visited n rs (half h d q)))
          → Unmet n rs q ⊎ (Single n rs q ⊎ Halved n rs q) → Once n q (visited n rs q)
      step q a ih (inl c) = rw c.regions (once-self n q a)
      step q a ih (inr (inl c)) = rw c.regions (once-self n q a)
      step q a ih (inr (inr c)) =
          rw c.regions
          (once-two n (cut n rs q) q (visited n rs (half (cut n rs q) 0 q)) (visited n rs (half (cut n rs q) 1 q)) c.place a c.free
          (ih (cut n rs q) 0 c.place (omega arith) c.free) (ih (cut n rs q) 1 c.place (omega arith) c.free))

-- ---- how many there are

-- one, and twice the region's free inputs for each row
abbrev pub Few : ℕ → Row → List Row → List Row → Type 0
Few n q out vs = length vs ≤ 1 + 2 * (free_inputs n q * length out)

few-two : (n h : ℕ) (q : Row) (o p s t : List Row) → h < n → bit q.mask h ≡ 0 → 1 ≤ length (o ++ p)
    → Few n (half h 0 q) o s → Few n (half h 1 q) p t → Few n q (o ++ p) (q ∷ s ++ t)
few-two n h q o p s t l free some c d =
    let f : ℕ = free_inputs n (half h 0 q) in
    let low : free_inputs n q ≡ suc f = free-half n h 0 q l free in
    let same : free_inputs n (half h 1 q) ≡ f = omega (arith, low, free-half n h 1 q l free) in
    let right : length t ≤ 1 + 2 * (f * length p) = subst (λ (g : ℕ). length t ≤ 1 + 2 * (g * length p)) same d in
    let sum : free_inputs n q * length (o ++ p) ≡ f * length o + f * length p + length (o ++ p)
    = rw (low, length-append o p) (spread f (length o) (length p)) in
    omega (arith, length-append s t, c, right, sum, some)
  where
    spread : (f a b : ℕ) → suc f * (a + b) ≡ f * a + f * b + (a + b)
    spread f a b = omega (arith, mul-add f a b)

module _ (n k : ℕ) (rs : List Row) (good : Every (λ r. bad_row n k r ≡ false) rs) where
  region-few : (q : Row) → Sound n q → Few n q (region_rows n rs q) (visited n rs q)
  region-few = by-halves n (λ q. Few n q (region_rows n rs q) (visited n rs q)) (λ q a ih. step q a ih (region-cases n rs (rows-sound n k rs good) q a))
    where
      step : (q : Row) → Sound n q
          → ((h d : ℕ) → h < n → d < 2 → bit q.mask h ≡ 0
          → Few n (half h d q) (region_rows n rs (half h d q)) (visited n rs (half h d q)))
          → Unmet n rs q ⊎ (Single n rs q ⊎ Halved n rs q) → Few n q (region_rows n rs q) (visited n rs q)
      step q a ih (inl c) = omega (arith, ap length c.regions)
      step q a ih (inr (inl c)) = omega (arith, ap length c.regions)
      step q a ih (inr (inr c)) =
          let some = region-some n k rs good q a c.some-row in
          rw (c.rows, c.regions)
          (few-two n (cut n rs q) q (region_rows n rs (half (cut n rs q) 0 q)) (region_rows n rs (half (cut n rs q) 1 q))
          (visited n rs (half (cut n rs q) 0 q)) (visited n rs (half (cut n rs q) 1 q)) c.place c.free (rw c.rows at some)
          (ih (cut n rs q) 0 c.place (omega arith) c.free) (ih (cut n rs q) 1 c.place (omega arith) c.free))

  -- ---- from the whole space on

  pub visited-distinct : Distinct (visited n rs whole_space)
  visited-distinct = (region-once n rs (rows-sound n k rs good) whole_space (whole-sound n)).distinct

  pub visited-few : length (visited n rs whole_space) ≤ 1 + 2 * (n * length (disjoined n rs))
  unfolding disjoined
  visited-few = rw (free_all n) at (region-few whole_space (whole-sound n))
