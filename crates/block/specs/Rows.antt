-- How rows are transformed (01, the section of that name): n steps, each an exchange of two positions and then the flips and splits
-- of v. Not here: that each step keeps the block, which is a law. Assumes nothing.
use Rattle.std.specs.Prelude.{Bool, cond, List, [], ◌∷◌, ◌++◌, map, ℕ, zero, suc, ◌+◌, ◌*◌, ◌%◌, ◌^◌, eqb}
use Rattle.std.specs.Int.Bits.{bit_and, bit_xor}
use Rattle.bits.specs.Digits.{bit}
use Rattle.block.specs.Words.{row}
use Rattle.block.specs.declared.Row.{Row}

-- the position of the highest one-bit of y below m
unfoldable pub highest : ℕ → ℕ → ℕ
highest zero y = 0
highest (suc m) y = cond (eqb (bit y m) 1) m (highest m y)

-- the position that step k + 1 exchanges with k, for the chosen number y in the coordinates reached: k itself where y has bit k
unfoldable pub partner : ℕ → ℕ → ℕ → ℕ
partner n k y = cond (eqb (bit y k) 1) k (highest n y)

-- positions k and h exchanged
unfoldable pub exchange : ℕ → ℕ → ℕ → ℕ
exchange k h y = bit_xor y (bit_xor (2 ^ k) (2 ^ h) * ((bit y k + bit y h) % 2))

-- the chosen number after the exchange, without bit k
unfoldable pub rest : ℕ → ℕ → ℕ → ℕ
rest n k y = bit_xor (exchange k (partner n k y) y) (2 ^ k)

-- a point after the flips of v: its bits change where v has a one, if it has bit k
unfoldable pub shear : ℕ → ℕ → ℕ → ℕ
shear k v x = bit_xor x (v * bit x k)

-- the coordinates of x after k steps, in which c 0 .. c (k - 1) were chosen
unfoldable pub reached : ℕ → (ℕ → ℕ) → ℕ → ℕ → ℕ
reached n c zero x = x
reached n c (suc k) x =
    let y : ℕ = reached n c k (c k) in
    shear k (rest n k y) (exchange k (partner n k y) (reached n c k x))

abbrev pub exchange_row : ℕ → ℕ → Row → Row
exchange_row k h r = row (exchange k h r.mask) (exchange k h r.values) r.word

-- a row that is fixed at k: with 0 there it stays, with 1 each fixed symbol is flipped where v has a one
abbrev pub flip_row : ℕ → ℕ → Row → Row
flip_row k v r = row r.mask (bit_xor r.values (bit_and r.mask v * bit r.values k)) r.word

-- the half of a row, free at k, that has d there: mask and values have a 0 at k, so XOR sets it
abbrev pub half : ℕ → ℕ → Row → Row
half k d r = row (bit_xor r.mask (2 ^ k)) (bit_xor r.values (2 ^ k * d)) r.word

-- what becomes of a row: flipped where it is fixed at k; else one row if it is free wherever v has a one, or its two halves
unfoldable pub split_row : ℕ → ℕ → Row → List Row
split_row k v r =
    cond (eqb (bit r.mask k) 1) (flip_row k v r ∷ [])
    (cond (eqb (bit_and r.mask v) 0) (r ∷ [])
    (flip_row k v (half k 0 r) ∷ flip_row k v (half k 1 r) ∷ []))

unfoldable pub split_rows : ℕ → ℕ → List Row → List Row
split_rows k v [] = []
split_rows k v (r ∷ rs) = split_row k v r ++ split_rows k v rs

-- the rows after k steps
unfoldable pub moved : ℕ → (ℕ → ℕ) → ℕ → List Row → List Row
moved n c zero rs = rs
moved n c (suc k) rs =
    let y : ℕ = reached n c k (c k) in
    split_rows k (rest n k y) (map (exchange_row k (partner n k y)) (moved n c k rs))
