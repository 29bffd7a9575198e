-- The free inputs of a mask, as a loop puts them at the front of a lent list. Assumes nothing.
use Rattle.std.specs.Prelude.{◌≡◌, List, ℕ, ◌+◌, ◌^◌, ◌≤◌, ◌<◌, length, set}
use Rattle.std.proofs.Common.{arith}
use Rattle.bits.specs.Digits.{bit}
use Rattle.slices.specs.Laid.{Laid, laid_none, laid_more}
use Rattle.light_laws.specs.Ways.{frees}
use Rattle.light_laws.specs.Free.{frees-zero, frees-free, frees-fixed, frees-length}

-- the loop begins
pub put-none : (mask : ℕ) (l : List ℕ) → Laid (frees mask 0) l l 0
put-none mask l = rw frees-zero (laid_none l)

-- a free input more, and a fixed one
pub put-free : (mask i count x count' : ℕ) (l m m' : List ℕ) → i < length l → bit mask i ≡ 0 → x ≡ 2 ^ i → m' ≡ set m count x
    → count' ≡ count + 1 → Laid (frees mask i) l m count → Laid (frees mask (i + 1)) l m' count'
put-free mask i count x count' l m m' h e d f g p =
    rw (frees-free mask i e, ← d) (laid_more (frees mask i) l m m' count count' x p (omega (arith, p.counted, frees-length mask i)) f g)

pub put-fixed : (mask i count count' : ℕ) (l m m' : List ℕ) → (bit mask i ≡ 0 → ⊥) → m' ≡ m → count' ≡ count
    → Laid (frees mask i) l m count → Laid (frees mask (i + 1)) l m' count'
put-fixed mask i count count' l m m' e f g p = rw (frees-fixed mask i e, f, g) p

-- no more are put than were looked at
pub put-room : (mask i count : ℕ) (l m : List ℕ) → Laid (frees mask i) l m count → count ≤ i
put-room mask i count l m p = omega (arith, p.counted, frees-length mask i)
