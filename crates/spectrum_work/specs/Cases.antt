-- Case a of 01, by computation: the table 0, 1, 1, 0, and its R 4, 0, 0, 4. Assumes nothing.
use Rattle.std.specs.Prelude.{◌≡◌, refl, [], ◌∷◌, ℕ, ◌+◌, pos, negsuc}
use Rattle.std.specs.Int.Count.{ones, ones_in}
use Rattle.bits.specs.Digits.{parity}
use Rattle.slices.specs.Places.{at, tab}
use Rattle.sums.specs.Sums.{sum}
use Rattle.walsh_laws.specs.Walsh.{total, sign, walsh, spectrum, power, auto}
use Rattle.spectrum_words.specs.Words.{marks}

word : ℕ → ℕ → ℕ
word u = marks (at (0 ∷ 1 ∷ 1 ∷ 0 ∷ [])) u

-- the spectrum of word 1's points: 2, 0, 0, -2
spectrum-1 : tab 4 (spectrum (word 1) 2) ≡ pos 2 ∷ pos 0 ∷ pos 0 ∷ negsuc 1 ∷ []
unfolding word tab walsh total sign parity ones ones_in
spectrum-1 = refl

-- its squares transformed again: 8, 0, 0, 8, which is 4 times 2, 0, 0, 2
back-1 : tab 4 (spectrum (power (word 1) 2) 2) ≡ pos 8 ∷ pos 0 ∷ pos 0 ∷ pos 8 ∷ []
unfolding word tab walsh total sign parity ones ones_in
back-1 = refl

-- R, the sum over both words
sums : tab 4 (λ t. auto (word 0) 2 t + auto (word 1) 2 t) ≡ 4 ∷ 0 ∷ 0 ∷ 4 ∷ []
unfolding word tab auto sum
sums = refl
