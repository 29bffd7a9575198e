-- A table and a marked copy of it, compared by blocks of 64 points: the definitions, the number of blocks, and what a pair of blocks adds.
-- Not here: that the pairs add up to R (table_shifts). Assumes nothing.
use Rattle.std.specs.Prelude.{◌≡◌, cond, List, ℕ, ◌+◌, ◌*◌, ◌-◌, ◌/◌, ◌^◌, ◌≤◌, ◌<◌, eqb, leb}
use Rattle.std.proofs.Common.{sym, ap, ◌∙◌, arith, mul-one, pow-add}
use borrow.Author.Tests.{eq-eqb, ne_eqb, lt-leb, le-leb}
use Rattle.std.specs.Int.Bits.{bit_xor}
use Rattle.slices.specs.Places.{at}
use Rattle.sums.specs.Sums.{count}
use Rattle.block.specs.Words.{none}

-- the mark for no output in the copy, which no entry is
abbrev pub hole : ℕ
hole = 65534

-- an entry as the copy holds it
abbrev pub marked : ℕ → ℕ
marked w = cond (eqb w none) hole w

-- how many of the 64 points of block b hold in a what the same points of block c hold in p
unfoldable pub matching : List ℕ → List ℕ → ℕ → ℕ → ℕ
matching a p b c = count (λ i. eqb (at a (b * 64 + i)) (at p (c * 64 + i))) 64

-- what the blocks b and b XOR high add to R together, counted at the smaller of the two
unfoldable pub pair_adds : List ℕ → List ℕ → ℕ → ℕ → ℕ
pair_adds a p high b = cond (leb b (bit_xor b high)) (matching a p b (bit_xor b high) * cond (eqb b (bit_xor b high)) 1 2) 0

-- 2^(n-6) blocks
pub whole : (n : ℕ) → 6 ≤ n → 2 ^ n ≡ 2 ^ (n - 6) * 64
whole n h = ap (λ (k : ℕ). 2 ^ k) (omega arith) ∙ pow-add 2 (n - 6) 6

pub number-of-blocks : (n size : ℕ) → 6 ≤ n → size ≡ 2 ^ n → size / 64 ≡ 2 ^ (n - 6)
number-of-blocks n size h e = omega (arith, whole n h)

pub block-le : (n b : ℕ) → 6 ≤ n → b < 2 ^ (n - 6) → b * 64 + 64 ≤ 2 ^ n
block-le n b h hb = omega (arith, whole n h)

-- a point of a block
pub point-lt : (n b i : ℕ) → 6 ≤ n → b < 2 ^ (n - 6) → i < 64 → b * 64 + i < 2 ^ n
point-lt n b i h hb hi = omega (arith, whole n h)

-- what a pair adds, by which block is the smaller
module _ (a p : List ℕ) (high b : ℕ) where
  pub pair-counted : bit_xor b high < b → 0 ≡ pair_adds a p high b
  unfolding pair_adds
  pair-counted h = rw (lt-leb b (bit_xor b high) h)

  pub pair-alone : b ≡ bit_xor b high → matching a p b (bit_xor b high) ≡ pair_adds a p high b
  unfolding pair_adds
  pair-alone e = rw (le-leb b (bit_xor b high) (omega arith), eq-eqb b (bit_xor b high) e) (sym (mul-one _))

  pub pair-both : b ≤ bit_xor b high → (b ≡ bit_xor b high → ⊥) → matching a p b (bit_xor b high) * 2 ≡ pair_adds a p high b
  unfolding pair_adds
  pair-both h n = rw (le-leb b (bit_xor b high) h, ne_eqb b (bit_xor b high) n)
