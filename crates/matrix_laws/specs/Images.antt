-- A matrix's values at every z, listed by doubling: its value at 2^i + z, for z below 2^i, is its value at z XOR column i. And a matrix
-- by rows has columns, its values at the powers of two. Assumes nothing.
use Rattle.std.specs.Prelude.{◌≡◌, List, ℕ, ◌+◌, ◌*◌, ◌^◌, ◌<◌, length, set}
use Rattle.std.proofs.Common.{sym, ap, ◌∙◌, mod-eq_of_lt, add-one, arith, get_or-set_same, get_or-set_other}
use Rattle.std.proofs.Math.Decide.{ℕ_discrete}
use Rattle.std.specs.Int.Bits.{bit_xor, xor_shifted}
use Rattle.std.proofs.lemmas.Nat.{xor_comm}
use Rattle.slices.specs.Places.{at}
use Rattle.block.specs.Basis.{columns, apply}
use Rattle.matrix_laws.specs.Linear.{apply-xor, columns-xor, columns-unit, columns-units, linear-zero, linear-columns}

-- the list holds the matrix's values at each z below m
pub record Images (c : ℕ → ℕ) (n m : ℕ) (l : List ℕ) : Type 0 where
  pub each : (z : ℕ) → z < m → at l z ≡ columns c n z

-- at 0 it is 0
pub columns-zero : (c : ℕ → ℕ) (n : ℕ) → columns c n 0 ≡ 0
columns-zero c n = linear-zero (columns c n) (columns-xor c n)

pub images-first : (c : ℕ → ℕ) (n x : ℕ) (l : List ℕ) → 0 < length l → x ≡ 0 → Images c n 1 (set l 0 x)
images-first c n x l h e =
    record { each = λ z b. let d : z ≡ 0 = omega arith in rw d (get_or-set_same l 0 x 0 h ∙ e ∙ sym (columns-zero c n)) }

-- a value from another
pub image-next : (c : ℕ → ℕ) (n i z : ℕ) → i < n → z < 2 ^ i → columns c n (2 ^ i + z) ≡ bit_xor (columns c n z) (c i)
image-next c n i z h b =
    let e : 2 ^ i + z ≡ 1 * 2 ^ i + z = omega arith in
    let d : 1 * 2 ^ i ≡ 2 ^ i = omega arith in
    ap (columns c n) (e ∙ sym (xor_shifted 1 i z b) ∙ ap (λ (y : ℕ). bit_xor y z) d)
    ∙ columns-xor c n (2 ^ i) z
    ∙ ap (λ (y : ℕ). bit_xor y (columns c n z)) (columns-unit c n i h)
    ∙ xor_comm (c i) (columns c n z)

-- one value more, as a loop has it
pub images-more : (c : ℕ → ℕ) (n i z x : ℕ) (l : List ℕ) → i < n → z < 2 ^ i → Images c n (2 ^ i + z) l → 2 ^ i + z < length l
    → x ≡ bit_xor (at l z) (c i) → Images c n (2 ^ i + (z + 1)) (set l (2 ^ i + z) x)
images-more c n i z x l h b s k e = record { each = λ y d. go y d (ℕ_discrete y (2 ^ i + z)) }
  where
    go : (y : ℕ) → y < 2 ^ i + (z + 1) → Dec (y ≡ 2 ^ i + z) → at (set l (2 ^ i + z) x) y ≡ columns c n y
    go y d (yes g) =
        rw g
        (get_or-set_same l (2 ^ i + z) x 0 k
        ∙ e
        ∙ ap (λ (v : ℕ). bit_xor v (c i)) (s.each z (omega arith))
        ∙ sym (image-next c n i z h b))
    go y d (no g) = get_or-set_other l (2 ^ i + z) y x 0 g ∙ s.each y (omega arith)

-- twice as many
pub images-doubled : (c : ℕ → ℕ) (n i z : ℕ) (l : List ℕ) → z ≡ 2 ^ i → Images c n (2 ^ i + z) l → Images c n (2 ^ (i + 1)) l
images-doubled c n i z l e s = rw add-one (record { each = λ y b. s.each y (omega arith) })

-- a matrix by rows at x, from its values at the powers of two
pub apply-columns : (s : ℕ → ℕ) (n x : ℕ) → x < 2 ^ n → columns (λ j. apply s n (2 ^ j)) n x ≡ apply s n x
apply-columns s n x h =
    sym (linear-columns (apply s n) (apply-xor s n) (λ j. 2 ^ j) n x)
    ∙ ap (apply s n) (columns-units n x ∙ mod-eq_of_lt h)
