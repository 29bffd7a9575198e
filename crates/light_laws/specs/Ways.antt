-- A cube has a mask of fixed inputs and a value there. Its light numbers are the value with a few of the free inputs flipped: `ways` counts how
-- often a loop over at most d of them comes to t, as nested loops do, `frees` lists what is flipped. Assumes nothing.
use Rattle.std.specs.Prelude.{cond, List, [], ◌∷◌, ◌++◌, ℕ, zero, suc, ◌+◌, ◌^◌, eqb, leb}
use Rattle.std.specs.Int.Bits.{bit_xor}
use Rattle.std.specs.Int.Count.{ones}
use Rattle.bits.specs.Digits.{bit}
use Rattle.slices.specs.Places.{at}
use Rattle.sums.specs.Sums.{one}

-- how often t comes out where at most d of the first `top` numbers of ps, each at most once and the later ones first, are XORed on b
unfoldable pub ways : ℕ → List ℕ → ℕ → ℕ → ℕ → ℕ
ways d ps zero b t = one (eqb t b)
ways zero ps (suc top) b t = one (eqb t b)
ways (suc d) ps (suc top) b t = ways (suc d) ps top b t + ways d ps top (bit_xor b (at ps top)) t

-- 2^i for each input i below n that a mask leaves free
unfoldable pub frees : ℕ → ℕ → List ℕ
frees mask zero = []
frees mask (suc n) = frees mask n ++ cond (eqb (bit mask n) 0) (2 ^ n ∷ []) []

-- x where t is light, and else 0
abbrev pub lit : ℕ → ℕ → ℕ → ℕ
lit w t x = cond (leb (ones t) w) x 0
