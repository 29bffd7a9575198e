-- The weight of a candidate. Assumes nothing.
use Rattle.std.specs.Prelude.{Bool, ◌&&◌, ℕ, leb}
use Rattle.std.specs.Int.Count.{ones}

-- t has 1 to w one-bits
unfoldable pub light : ℕ → ℕ → Bool
light w t = leb 1 (ones t) && leb (ones t) w
