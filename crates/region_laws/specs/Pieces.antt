-- The rule of Ticket 10 without the number of free inputs: what a region gives, and which regions are visited, where no row meets it, where it
-- lies inside every row that does, and where it is halved; and that these are all cases. Assumes nothing.
use Rattle.std.specs.Prelude.{◌≡◌, true, false, not, cond, ◌&&◌, ◌⊎◌, eqb}
use Rattle.std.proofs.Math.Path.{refl, ap}
use Rattle.std.proofs.Common.{sym, ◌∙◌, inl, inr, arith, eq-eqb, ne_eqb}
use mathlib.Core.List.{List, [], ◌∷◌, ◌++◌}
use Prim.Native.Nat.{ℕ, zero, suc, ◌<◌}
use Rattle.std.proofs.Math.Decide.{ℕ_discrete}
use Rattle.bits.specs.Digits.{bit}
use Rattle.block.specs.Words.{row}
use Rattle.block.specs.Rows.{highest, half}
use Rattle.block.specs.Overlaps.{met, crossed, met_word, cut, pieces, free_inputs, region_rows}
use Rattle.block.specs.declared.Row.{Row}
use Rattle.pair_laws.specs.Cube.{Sound}
use Rattle.pair_laws.specs.Theorem.{Every}
use Rattle.region_laws.specs.Open.{open_inputs, cut-highest, cut-open, cut-free, crossed-open}
use Rattle.region_laws.specs.Free.{free-half}

-- the regions that are visited from one with f free inputs on: itself, and where it is halved those of its halves
unfoldable pub visits : ℕ → List Row → ℕ → Row → List Row
visits n rs zero q = q ∷ []
visits n rs (suc f) q =
    q ∷ cond (not (eqb (met n rs q) 0) && not (eqb (crossed n rs q) 0))
    (visits n rs f (half (cut n rs q) 0 q) ++ visits n rs f (half (cut n rs q) 1 q)) []

unfoldable pub visited : ℕ → List Row → Row → List Row
visited n rs q = visits n rs (free_inputs n q) q

module _ (n : ℕ) (rs : List Row) where
  -- ---- no row meets the region

  module _ (q : Row) (e : met n rs q ≡ 0) where
    pub region-none : region_rows n rs q ≡ []
    unfolding region_rows pieces
    region-none = go (free_inputs n q)
      where
        go : (f : ℕ) → pieces n rs f q ≡ []
        go zero = rw (eq-eqb (met n rs q) 0 e)
        go (suc f) = rw (eq-eqb (met n rs q) 0 e)

    visited-none : visited n rs q ≡ q ∷ []
    unfolding visited visits
    visited-none = go (free_inputs n q)
      where
        go : (f : ℕ) → visits n rs f q ≡ q ∷ []
        go zero = refl
        go (suc f) = rw (eq-eqb (met n rs q) 0 e)

  module _ (sound : Every (Sound n) rs) (q : Row) (a : Sound n q) (some-row : met n rs q ≡ 0 → ⊥) where
    -- ---- it lies inside every row that meets it

    module _ (e : open_inputs n rs q ≡ 0) where
      inside-each : eqb (crossed n rs q) 0 ≡ true
      inside-each = crossed-open n rs sound q a ∙ eq-eqb (open_inputs n rs q) 0 e

      pub region-one : region_rows n rs q ≡ row q.mask q.values (met_word n rs q) ∷ []
      unfolding region_rows pieces
      region-one = go (free_inputs n q)
        where
          go : (f : ℕ) → pieces n rs f q ≡ row q.mask q.values (met_word n rs q) ∷ []
          go zero = rw (ne_eqb (met n rs q) 0 some-row, inside-each)
          go (suc f) = rw (ne_eqb (met n rs q) 0 some-row, inside-each)

      visited-one : visited n rs q ≡ q ∷ []
      unfolding visited visits
      visited-one = go (free_inputs n q)
        where
          go : (f : ℕ) → visits n rs f q ≡ q ∷ []
          go zero = refl
          go (suc f) = rw (ne_eqb (met n rs q) 0 some-row, inside-each)

    -- ---- any other is halved

    module _ (e : open_inputs n rs q ≡ 0 → ⊥) where
      not-inside : eqb (crossed n rs q) 0 ≡ false
      not-inside = crossed-open n rs sound q a ∙ ne_eqb (open_inputs n rs q) 0 e

      abbrev low : Row
      low = half (cut n rs q) 0 q

      abbrev high : Row
      high = half (cut n rs q) 1 q

      fewer : (d : ℕ) → free_inputs n q ≡ suc (free_inputs n (half (cut n rs q) d q))
      fewer d = free-half n (cut n rs q) d q (cut-open n rs sound q a e).0 (cut-free n rs sound q a e)

      same : free_inputs n low ≡ free_inputs n high
      same = omega (arith, fewer 0, fewer 1)

      halves-rows : region_rows n rs q ≡ region_rows n rs low ++ region_rows n rs high
      unfolding region_rows pieces
      halves-rows =
          ap (λ (f : ℕ). pieces n rs f q) (fewer 0)
          ∙ rw (ne_eqb (met n rs q) 0 some-row, not-inside)
          (ap (λ (f : ℕ). pieces n rs (free_inputs n low) low ++ pieces n rs f high) same)

      halves-visited : visited n rs q ≡ q ∷ visited n rs low ++ visited n rs high
      unfolding visited visits
      halves-visited =
          ap (λ (f : ℕ). visits n rs f q) (fewer 0)
          ∙ rw (ne_eqb (met n rs q) 0 some-row, not-inside)
          (ap (λ (f : ℕ). q ∷ visits n rs (free_inputs n low) low ++ visits n rs f high) same)

      -- by masks
      pub region-two : region_rows n rs q
          ≡ region_rows n rs (half (highest n (open_inputs n rs q)) 0 q) ++ region_rows n rs (half (highest n (open_inputs n rs q)) 1 q)
      region-two = rw (sym (cut-highest n rs q)) halves-rows

-- ---- one of the three

pub record Unmet (n : ℕ) (rs : List Row) (q : Row) : Type 0 where
  pub unmet : met n rs q ≡ 0
  pub rows : region_rows n rs q ≡ []
  pub regions : visited n rs q ≡ q ∷ []

pub record Single (n : ℕ) (rs : List Row) (q : Row) : Type 0 where
  pub some-row : met n rs q ≡ 0 → ⊥
  pub decided : open_inputs n rs q ≡ 0
  pub rows : region_rows n rs q ≡ row q.mask q.values (met_word n rs q) ∷ []
  pub regions : visited n rs q ≡ q ∷ []

pub record Halved (n : ℕ) (rs : List Row) (q : Row) : Type 0 where
  pub some-row : met n rs q ≡ 0 → ⊥
  pub place : cut n rs q < n
  pub free : bit q.mask (cut n rs q) ≡ 0
  pub rows : region_rows n rs q ≡ region_rows n rs (half (cut n rs q) 0 q) ++ region_rows n rs (half (cut n rs q) 1 q)
  pub regions : visited n rs q ≡ q ∷ visited n rs (half (cut n rs q) 0 q) ++ visited n rs (half (cut n rs q) 1 q)

pub region-cases : (n : ℕ) (rs : List Row) → Every (Sound n) rs → (q : Row) → Sound n q → Unmet n rs q ⊎ (Single n rs q ⊎ Halved n rs q)
region-cases n rs sound q a = go (ℕ_discrete (met n rs q) 0) (ℕ_discrete (open_inputs n rs q) 0)
  where
    go : Dec (met n rs q ≡ 0) → Dec (open_inputs n rs q ≡ 0) → Unmet n rs q ⊎ (Single n rs q ⊎ Halved n rs q)
    go (yes z) e = inl (record { unmet = z; rows = region-none n rs q z; regions = visited-none n rs q z })
    go (no z) (yes e) =
        inr
        (inl
        (record {
          some-row = z;
          decided = e;
          rows = region-one n rs sound q a z e;
          regions = visited-one n rs sound q a z e;
        }))
    go (no z) (no e) =
        inr
        (inr
        (record {
          some-row = z;
          place = (cut-open n rs sound q a e).0;
          free = cut-free n rs sound q a e;
          rows = halves-rows n rs sound q a z e;
          regions = halves-visited n rs sound q a z e;
        }))
