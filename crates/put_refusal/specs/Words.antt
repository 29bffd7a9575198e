-- A word and three numbers, as the programs print them beside sheets. Assumes nothing.
use Rattle.std.specs.Prelude.{List, ◌∷◌, ◌++◌, ℕ}
use Rattle.block.specs.Text.{decimal}

-- the word, which ends in a space, and the numbers with spaces between
abbrev pub three : List ℕ → ℕ → ℕ → ℕ → List ℕ
three word x y z = word ++ decimal x ++ (32 ∷ decimal y) ++ (32 ∷ decimal z)
