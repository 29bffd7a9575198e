-- The names beside a list's file. Assumes nothing.
use Rattle.std.specs.Prelude.{Bool, cond, List, [], ◌∷◌, ◌++◌, ℕ, ltb}
use Rattle.block.specs.Text.{decimal}

-- what a model's name adds to its list's, .blif, and a sheet's, .sheet
unfoldable pub kind_of : Bool → List ℕ
kind_of model = cond model (46 ∷ 98 ∷ 108 ∷ 105 ∷ 102 ∷ []) (46 ∷ 115 ∷ 104 ∷ 101 ∷ 101 ∷ 116 ∷ [])

-- the number of the k-th name tried: none for the first, then 2, 3 and so on
unfoldable pub counted : ℕ → List ℕ
counted k = cond (ltb k 2) [] (decimal k)

-- the list's name, one of those two, an ending and that number
unfoldable pub path_of : List ℕ → Bool → List ℕ → ℕ → List ℕ
path_of name model ending k = name ++ kind_of model ++ ending ++ counted k
