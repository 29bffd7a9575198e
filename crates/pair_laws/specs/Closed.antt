-- What a pair of rows adds, by masks and a count of bits; and what that gives for a row with itself and for the two orders of a
-- pair. Not here: that it is a count of points (`Cube`). Assumes nothing.
use Rattle.std.specs.Prelude.{◌≡◌, Bool, true, false, cond, ℕ, zero, suc, ◌+◌, ◌-◌, ◌*◌, ◌/◌, ◌%◌, ◌^◌, ◌<◌, min, max, eqb}
use Rattle.std.proofs.Common.{sym, ap, ap₂, ◌∙◌, zero-mul, one-mul, arith, eqb→eq, pow-add}
use Rattle.std.proofs.Math.Arith.{lt-one}
use Rattle.std.specs.Int.Bits.{bit_and, bit_xor, bit_or, or_step, or_self, and_zero_r, xor_self}
use Rattle.std.proofs.lemmas.Nat.{or_shr, or_lt, or_comm, and_comm, xor_comm, ones-le}
use Rattle.std.specs.Int.Count.{ones, ones_step}
use Rattle.bits.specs.Xor.{xor-half, and-half, xor-odd, and-odd, and_xor, eqb-xor, eqb-turn}
use Rattle.sums.specs.Sums.{one}
use Rattle.sums.specs.Laws.{one-and}
use Rattle.block.specs.declared.Row.{Row}
use Rattle.pair_laws.specs.Cube.{Sound, position, positions, pair, eqb-dig, all2-five, mul4}

-- the inputs that both rows fix
abbrev pub fixed_both : Row → Row → ℕ
fixed_both r s = bit_and r.mask s.mask

-- what t must be there: a 0 for equal values, a 1 for unequal ones
abbrev pub demanded : Row → Row → ℕ
demanded r s = bit_and (fixed_both r s) (bit_xor r.values s.values)

-- how many inputs are free in both
abbrev pub free_both : ℕ → Row → Row → ℕ
free_both n r s = n - ones (bit_or r.mask s.mask)

or-half : (a b : ℕ) → bit_or a b / 2 ≡ bit_or (a / 2) (b / 2)
or-half a b = or_shr a b 1

or-odd : (a b : ℕ) → bit_or a b % 2 ≡ max (a % 2) (b % 2)
or-odd a b = omega (arith, or_step a b)

position-test : ℕ → ℕ → ℕ → ℕ → ℕ → Bool
position-test m₁ v₁ m₂ v₂ t =
    eqb (position m₁ v₁ m₂ v₂ t) (one (eqb (min (min m₁ m₂) (((v₁ + v₂) % 2 + t) % 2)) 0) * 2 ^ (1 - max m₁ m₂))

position-closed : (m₁ v₁ m₂ v₂ t : ℕ) → m₁ < 2 → v₁ < 2 → m₂ < 2 → v₂ < 2 → t < 2
    → position m₁ v₁ m₂ v₂ t ≡ one (eqb (min (min m₁ m₂) (((v₁ + v₂) % 2 + t) % 2)) 0) * 2 ^ (1 - max m₁ m₂)
unfolding position-test
position-closed m₁ v₁ m₂ v₂ t a b c d e = eqb→eq _ _ (all2-five position-test tt m₁ v₁ m₂ v₂ t a b c d e)

-- the powers of two of a count, by its lowest digit
free-suc : (n o : ℕ) → o < 2 ^ suc n → 2 ^ (suc n - ones o) ≡ 2 ^ (n - ones (o / 2)) * 2 ^ (1 - o % 2)
free-suc n o h =
    rw (ones_step o)
    (ap (λ (x : ℕ). 2 ^ x) (omega (arith, ones-le n (o / 2) (omega arith)))
    ∙ pow-add 2 (n - ones (o / 2)) (1 - o % 2))

-- the demands that t breaks
abbrev broken : ℕ → ℕ → ℕ → ℕ → ℕ → ℕ
broken m₁ v₁ m₂ v₂ t = bit_and (bit_and m₁ m₂) (bit_xor (bit_xor v₁ v₂) t)

positions-closed : (n m₁ v₁ m₂ v₂ t : ℕ) → m₁ < 2 ^ n → m₂ < 2 ^ n
    → positions n m₁ v₁ m₂ v₂ t ≡ one (eqb (broken m₁ v₁ m₂ v₂ t) 0) * 2 ^ (n - ones (bit_or m₁ m₂))
unfolding positions ones
positions-closed zero m₁ v₁ m₂ v₂ t a b = rw (lt-one a, lt-one b)
positions-closed (suc n) m₁ v₁ m₂ v₂ t a b =
    ap₂ ◌*◌ (positions-closed n (m₁ / 2) (v₁ / 2) (m₂ / 2) (v₂ / 2) (t / 2) (omega arith) (omega arith))
    (position-closed (m₁ % 2) (v₁ % 2) (m₂ % 2) (v₂ % 2) (t % 2) (omega arith) (omega arith) (omega arith) (omega arith)
    (omega arith))
    ∙ mul4 _ _ _ _
    ∙ rw (free-suc n (bit_or m₁ m₂) (or_lt (suc n) m₁ m₂ a b), or-half, or-odd, eqb-dig (broken m₁ v₁ m₂ v₂ t) 0)
    (simp (one-and, and-half, xor-half, and-odd, xor-odd))

-- t breaks no demand exactly where it is what is demanded
unbroken : (m d t : ℕ) → eqb (bit_and m (bit_xor d t)) 0 ≡ eqb (bit_and t m) (bit_and m d)
unbroken m d t =
    rw (and_xor m d t, and_comm t m)
    (ap (λ (z : ℕ). eqb (bit_xor (bit_and m d) (bit_and m t)) z) (sym (xor_self (bit_and m t)))
    ∙ eqb-xor (bit_and m d) (bit_and m t) (bit_and m t) ∙ eqb-turn (bit_and m d) (bit_and m t))

one-cond : (b : Bool) (x : ℕ) → one b * x ≡ cond b x 0
one-cond true x = one-mul x
one-cond false x = zero-mul x

-- where t meets every demand a pair adds 2 to the number of inputs free in both, and else nothing
pub pair-closed : (n : ℕ) (r s : Row) (t : ℕ) → Sound n r → Sound n s
    → pair n r s t ≡ cond (eqb (bit_and t (fixed_both r s)) (demanded r s)) (2 ^ free_both n r s) 0
pair-closed n r s t a b =
    positions-closed n r.mask r.values s.mask s.values t a.fixed b.fixed
    ∙ rw (unbroken (fixed_both r s) (bit_xor r.values s.values) t)
    (one-cond (eqb (bit_and t (fixed_both r s)) (demanded r s)) (2 ^ free_both n r s))

-- a row with itself, at t = 0: 2 to the number of its free symbols
pub pair-self : (n : ℕ) (r : Row) → Sound n r → pair n r r 0 ≡ 2 ^ (n - ones r.mask)
pair-self n r a =
    pair-closed n r r 0 a a
    ∙ rw (xor_self r.values, and_zero_r, or_self r.mask)

-- the two orders of a pair add the same
pub pair_turn : (n : ℕ) (r s : Row) (t : ℕ) → Sound n r → Sound n s → pair n r s t ≡ pair n s r t
pair_turn n r s t a b =
    pair-closed n r s t a b
    ∙ rw (and_comm r.mask s.mask, xor_comm r.values s.values, or_comm r.mask s.mask) (sym (pair-closed n s r t b a))
