-- The cube of two rows that lie in flat slices, by their places, and what a cube adds to R(t) as a test on t has it. Not here: which pairs
-- have a cube, and that the cubes add up to R (`pair_laws`). Assumes nothing.
use Rattle.std.specs.Prelude.{◌≡◌, cond, List, ℕ, ◌*◌, ◌-◌, ◌^◌, ◌≤◌, eqb}
use Rattle.std.proofs.Common.{mul-le-mul, arith, eq-eqb, ne_eqb, pow_mono}
use Rattle.std.specs.Int.Bits.{bit_and, bit_xor, bit_or}
use Rattle.std.specs.Int.Count.{ones}
use Rattle.slices.specs.Places.{at}
use Rattle.pair_laws.specs.Symmetric.{Cube, cube, hit}

-- the cube of the rows i and j, whose points count so many times
abbrev pub cube_of : ℕ → ℕ → List ℕ → List ℕ → ℕ → ℕ → Cube
cube_of n times masks values i j =
    cube (bit_and (at masks i) (at masks j)) (bit_and (bit_and (at masks i) (at masks j)) (bit_xor (at values i) (at values j)))
    (2 ^ (n - ones (bit_or (at masks i) (at masks j))) * cond (eqb i j) 1 2 * times)

-- with at most `most` inputs, the points that two rows leave free, as often as they count
pub weight-small : (n o times most : ℕ) → n ≤ most → times ≤ 2 → 2 ^ (n - o) * times ≤ 2 ^ most * 2
weight-small n o times most h l = mul-le-mul (pow_mono {i = n - o} {j = most} (omega arith)) l

-- t lies in the cube
pub hit-taken : (t : ℕ) (q : Cube) → bit_and t q.mask ≡ q.value → hit t q ≡ q.weight
hit-taken t q h = rw (eq-eqb (bit_and t q.mask) q.value h)

-- and where it does not
pub hit-left : (t : ℕ) (q : Cube) → (bit_and t q.mask ≡ q.value → ⊥) → hit t q ≡ 0
hit-left t q h = rw (ne_eqb (bit_and t q.mask) q.value h)
