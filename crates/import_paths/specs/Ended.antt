-- A path with a 0 in the last of its 4,096 places: whoever reads it up to a 0 stays within it. Assumes nothing.
use Rattle.std.specs.Prelude.{◌≡◌, List, ℕ, slice_index_or}

-- the last of a path's 4,096 bytes is 0
abbrev pub Ended : List ℕ → Type 0
Ended bytes = slice_index_or bytes 4095 1 ≡ 0
