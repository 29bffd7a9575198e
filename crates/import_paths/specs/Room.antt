-- The rooms for names, which src/lib.rt has as constants of the code, and the number of a name, which fits its room. Assumes nothing.
use Rattle.std.specs.Prelude.{Bool, true, false, cond, [], ℕ, ◌≤◌, ltb, length}
use Rattle.std.proofs.Common.{arith}
use Rattle.block.specs.Text.{decimal}
use Rattle.put_bytes.specs.Digits.{decimal-most}
use Rattle.import_paths.specs.Path.{kind_of, counted}

-- a path, with the 0 after it
abbrev pub path_room : ℕ
path_room = 4096

-- the longest name of a list: with any ending and number it is still a path
abbrev pub name_most : ℕ
name_most = 4060

-- what tells a sheet's name or a model's from its list's
abbrev pub kind_most : ℕ
kind_most = 6

-- the longest ending of such a name, with which it and its number are still a path
abbrev pub ending_most : ℕ
ending_most = 7

-- the number of a name, whichever it is
abbrev pub count_room : ℕ
count_room = 20

pub kind-le : (model : Bool) → length (kind_of model) ≤ kind_most
unfolding kind_of
kind-le true = omega arith
kind-le false = omega arith

pub counted-le : (k : ℕ) → length (counted k) ≤ count_room
unfolding counted
counted-le k = go (ltb k 2)
  where
    go : (b : Bool) → length (cond b [] (decimal k)) ≤ count_room
    go true = omega arith
    go false = decimal-most k
