-- Demand 2, the matrix and its inverse: T is nonsingular, sigma is its inverse on both sides, and no other matrix is. For any block f
-- with n inputs, and any weight limit w from 1 on. Assumes nothing.
use Rattle.std.specs.Prelude.{◌≡◌, ℕ, ◌^◌, ◌≤◌, ◌<◌, length}
use Rattle.slices.specs.Places.{at}
use Rattle.block.specs.Basis.{columns, apply, basis_of, sigma_of}
use Rattle.block.specs.Refusals.{dependent}
use Rattle.matrix_laws.specs.Candidate.{basis-independent}
use Rattle.matrix_laws.specs.Inverse.{
  length-sigma,
  columns-kernel,
  inverse-lt,
  sigma-columns,
  columns-sigma,
  inverse-unique,
  inverse-unique-right,
  inverse-independent,
}

module _ (f : ℕ → ℕ) (n w : ℕ) (hw : 1 ≤ w) where
  -- T is nonsingular: it sends only 0 to 0
  pub basis-nonsingular : (z : ℕ) → z < 2 ^ n → columns (at (basis_of f n w)) n z ≡ 0 → z ≡ 0
  basis-nonsingular = columns-kernel (at (basis_of f n w)) n (basis-independent f n w hw)

  -- sigma has n rows of n bits
  pub sigma-length : length (sigma_of f n w) ≡ n
  sigma-length = length-sigma f n w

  pub sigma-lt : (j : ℕ) → j < n → at (sigma_of f n w) j < 2 ^ n
  unfolding sigma_of
  sigma-lt = inverse-lt (at (basis_of f n w)) n (basis-independent f n w hw)

  -- sigma after T changes no point
  pub sigma-after-basis : (z : ℕ) → z < 2 ^ n → apply (at (sigma_of f n w)) n (columns (at (basis_of f n w)) n z) ≡ z
  unfolding sigma_of
  sigma-after-basis = sigma-columns (at (basis_of f n w)) n (basis-independent f n w hw)

  -- T after sigma changes no point
  pub basis-after-sigma : (x : ℕ) → x < 2 ^ n → columns (at (basis_of f n w)) n (apply (at (sigma_of f n w)) n x) ≡ x
  unfolding sigma_of
  basis-after-sigma = columns-sigma (at (basis_of f n w)) n (basis-independent f n w hw)

  -- rows that undo T before or after it are sigma
  pub sigma-only : (s : ℕ → ℕ) → ((j : ℕ) → j < n → s j < 2 ^ n) → ((z : ℕ) → z < 2 ^ n → apply s n (columns (at (basis_of f n w)) n z) ≡ z)
      → (j : ℕ) → j < n → s j ≡ at (sigma_of f n w) j
  unfolding sigma_of
  sigma-only = inverse-unique (at (basis_of f n w)) n (basis-independent f n w hw)

  pub sigma-only-right : (s : ℕ → ℕ) → ((j : ℕ) → j < n → s j < 2 ^ n)
      → ((x : ℕ) → x < 2 ^ n → columns (at (basis_of f n w)) n (apply s n x) ≡ x) → (j : ℕ) → j < n → s j ≡ at (sigma_of f n w) j
  unfolding sigma_of
  sigma-only-right = inverse-unique-right (at (basis_of f n w)) n (basis-independent f n w hw)

  -- no row of sigma is the XOR of some set of earlier rows: restoring never answers 8 to it
  pub sigma-independent : dependent n (at (sigma_of f n w)) ≡ n
  unfolding sigma_of
  sigma-independent = inverse-independent (at (basis_of f n w)) n (basis-independent f n w hw)
