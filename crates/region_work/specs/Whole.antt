-- The disjoint list of the whole space in three lent slices, where it has no more than `given_rows` rows. Assumes nothing.
use Rattle.std.specs.Prelude.{◌≡◌, ℕ, suc, ◌≤◌, ◌<◌, min, length}
use Rattle.std.proofs.Math.Path.{refl}
use Rattle.std.proofs.Common.{ap, ◌∙◌, arith}
use mathlib.Core.List.{List, []}
use Rattle.block.specs.Limits.{given_rows}
use Rattle.block.specs.Overlaps.{whole_space, region_rows, disjoined}
use Rattle.block.specs.declared.Row.{Row}
use Rattle.flat_rows.specs.Listing.{rows_from}
use Rattle.moved_rows.specs.Put.{ListPut}
use Rattle.region_work.specs.Put.{Put, lies-none}

-- the disjoint list lies at the front of the slices, or they hold what they held
pub record DisjointPut (n : ℕ) (rs : List Row) (m v w m' v' w' : List ℕ) (r : ℕ) : Type 0 where
  pub counted : r ≡ min (length (disjoined n rs)) (suc given_rows)
  pub list : length (disjoined n rs) ≤ given_rows → ListPut (disjoined n rs) m v w m' v' w'
  pub kept : given_rows < length (disjoined n rs) → (m' ≡ m) × (v' ≡ v) × (w' ≡ w)

-- what the whole space gives, put into the working slices
module _ (n : ℕ) (rs : List Row) {a b c a' b' c' : List ℕ} {count : ℕ} (p : Put 0 (region_rows n rs whole_space) a b c a' b' c' count) where
  counts : count ≡ min (length (disjoined n rs)) (suc given_rows)
  unfolding disjoined
  counts = omega (arith, p.longer)

  lies : length (disjoined n rs) ≤ given_rows → rows_from (length (disjoined n rs)) a' b' c' ≡ disjoined n rs
  unfolding disjoined
  lies h = (p.added [] refl (lies-none a b c)).front h

  -- too many rows
  pub too_many : (m v w : List ℕ) → given_rows < count → DisjointPut n rs m v w m v w count
  too_many m v w h =
      record { counted = counts; list = λ l. absurd (omega (arith, counts)); kept = λ l. (refl, refl, refl) }

  -- all rows copied
  pub all-put : (m v w m' v' w' : List ℕ) → count ≤ given_rows → ListPut (rows_from count a' b' c') m v w m' v' w'
      → DisjointPut n rs m v w m' v' w' count
  all-put m v w m' v' w' h put =
      let same : count ≡ length (disjoined n rs) = omega (arith, counts) in
      record {
        counted = counts;
        list = λ l. rw (ap (λ (i : ℕ). rows_from i a' b' c') same ∙ lies l) at put;
        kept = λ l. absurd (omega (arith, counts));
      }
