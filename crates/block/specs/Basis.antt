-- The candidates, their order and the choice; T, sigma and the smaller block (01, The basis and the matrix). A matrix is a function
-- of the index, c by columns and s by rows. Not here: that the choice is the rule, and that sigma is the inverse, which are laws.
-- Assumes nothing.
use Rattle.std.specs.Prelude.{Bool, not, cond, ◌&&◌, ◌||◌, List, [], ◌∷◌, ◌++◌, ℕ, zero, suc, ◌*◌, ◌^◌, eqb, ltb, leb}
use Rattle.std.specs.Int.Bits.{bit_and, bit_xor}
use Rattle.std.specs.Int.Count.{ones}
use Rattle.bits.specs.Digits.{bit, parity}
use Rattle.slices.specs.Places.{at, tab, first}
use Rattle.sums.specs.Sums.{sum}
use Rattle.block.specs.Measure.{shift}

-- t is an XOR of some set of c 0 .. c (k - 1); 0 is the XOR of none
unfoldable pub span : (ℕ → ℕ) → ℕ → ℕ → Bool
span c zero t = eqb t 0
span c (suc k) t = span c k t || span c k (bit_xor t (c k))

-- t, below 2^n, is a candidate after c 0 .. c (k - 1): 1 to w one-bits, and no XOR of some set of those
unfoldable pub candidate : ℕ → (ℕ → ℕ) → ℕ → ℕ → Bool
candidate w c k t = leb 1 (ones t) && (leb (ones t) w && not (span c k t))

-- the order of candidates (02, Ticket 1: "Among candidates with equal R the one with fewer one-bits is now taken, then the smaller
-- number"): a stands before b where its R is greater; at equal R where it has fewer one-bits; at as many where it is the smaller number
unfoldable pub before : (ℕ → ℕ) → ℕ → ℕ → Bool
before r a b = ltb (r b) (r a) || (eqb (r a) (r b) && (ltb (ones a) (ones b) || (eqb (ones a) (ones b) && ltb a b)))

-- of b, the best so far or 0 for none, and t, the one to keep under an order
unfoldable pub better : (ℕ → ℕ → Bool) → (ℕ → Bool) → ℕ → ℕ → ℕ
better order ok b t = cond (ok t && (eqb b 0 || order t b)) t b

-- of the numbers below m that pass, the one that stands before the others; 0 where none passes
unfoldable pub best : (ℕ → ℕ → Bool) → (ℕ → Bool) → ℕ → ℕ
best order ok zero = 0
best order ok (suc m) = better order ok (best order ok m) m

-- the number taken after those of cs, of which there are k: r is R of the original block
unfoldable pub next : (ℕ → ℕ) → ℕ → ℕ → ℕ → List ℕ → ℕ
next r n w k cs = best (before r) (candidate w (at cs) k) (2 ^ n)

-- the numbers chosen at the first k steps
unfoldable pub chosen : (ℕ → ℕ) → ℕ → ℕ → ℕ → List ℕ
chosen r n w zero = []
chosen r n w (suc k) = let cs : List ℕ = chosen r n w k in cs ++ (next r n w k cs ∷ [])

-- T z: the XOR of the columns at the one-bits of z
unfoldable pub columns : (ℕ → ℕ) → ℕ → ℕ → ℕ
columns c zero z = 0
columns c (suc n) z = bit_xor (c n * bit z n) (columns c n z)

-- sigma x, of a matrix by rows: bit j is the parity of (row j AND x)
unfoldable pub apply : (ℕ → ℕ) → ℕ → ℕ → ℕ
apply s n x = sum (λ j. parity (bit_and (s j) x) * 2 ^ j) n

-- the inverse of the matrix with columns c, by rows: bit i of row j is bit j of the z that T sends to 2^i
unfoldable pub inverse : (ℕ → ℕ) → ℕ → List ℕ
inverse c n = tab n (λ j. sum (λ i. bit (first (2 ^ n) (λ z. eqb (columns c n z) (2 ^ i))) j * 2 ^ i) n)

-- the smaller block at z is the block at T z
abbrev pub smaller : (ℕ → ℕ) → (ℕ → ℕ) → ℕ → ℕ → ℕ
smaller f c n z = f (columns c n z)

-- ---- of a block f with n inputs and the weight limit w

-- T by columns
unfoldable pub basis_of : (ℕ → ℕ) → ℕ → ℕ → List ℕ
basis_of f n w = chosen (shift f n) n w n

-- sigma by rows
unfoldable pub sigma_of : (ℕ → ℕ) → ℕ → ℕ → List ℕ
sigma_of f n w = inverse (at (basis_of f n w)) n

-- the smaller block
unfoldable pub smaller_of : (ℕ → ℕ) → ℕ → ℕ → ℕ → ℕ
smaller_of f n w = smaller f (at (basis_of f n w)) n
