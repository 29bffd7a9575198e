-- The flips of v, which has no bit k, in a row: a row flipped, kept or split has the flipped points of the row before, each in one
-- row only, and such rows stay well formed. Not here: the flips of a point (crate matrix_laws, `Steps`), lists of rows (`Step`).
-- Assumes nothing.
use Rattle.std.specs.Prelude.{◌≡◌, false, ◌&&◌, ℕ, ◌*◌, ◌^◌, ◌<◌, eqb}
use Rattle.std.proofs.Common.{sym, ap, ap₂, ◌∙◌, zero-mul, arith, eq-eqb, ne_eqb}
use Rattle.std.proofs.Math.Bool.{and-true, and-false}
use Rattle.std.proofs.Math.Decide.{ℕ_discrete}
use Rattle.std.specs.Int.Bits.{bit_and, bit_xor, xor_zero_r}
use Rattle.std.proofs.lemmas.Nat.{xor_lt, and_comm}
use Rattle.std.proofs.Math.Pow.{pow-lt}
use Rattle.bits.specs.Digits.{bit}
use Rattle.bits.specs.Xor.{and_xor, and-times, and_again, eqb-xor}
use Rattle.bits.specs.Bit.{bit-lt, bit-xor, bit-and, bit-times, bit-pow-same, and_pow}
use Rattle.block.specs.Words.{under}
use Rattle.block.specs.Rows.{shear, flip_row, half}
use Rattle.block.specs.declared.Row.{Row}
use Rattle.pair_laws.specs.Cube.{Sound}

-- ---- rows that are kept or flipped

and-shear : (k v m x : ℕ) → bit_and m (shear k v x) ≡ bit_xor (bit_and m x) (bit_and m v * bit x k)
unfolding shear
and-shear k v m x = and_xor m x (v * bit x k) ∙ ap (bit_xor (bit_and m x)) (and-times m v (bit x k) (bit-lt x k))

-- a row that is free wherever v has a one has the flipped points too
pub under-keep : (k v : ℕ) (r : Row) (x : ℕ) → bit_and r.mask v ≡ 0 → under r (shear k v x) ≡ under r x
under-keep k v r x h =
    ap (λ (y : ℕ). eqb y r.values) (and-shear k v r.mask x ∙ rw (h, zero-mul (bit x k)) (xor_zero_r (bit_and r.mask x)))

-- two numbers that differ in bit k
apart : (k a b : ℕ) → (bit a k ≡ bit b k → ⊥) → eqb a b ≡ false
apart k a b n = ne_eqb a b (λ e. n (ap (λ (y : ℕ). bit y k) e))

-- a row that is fixed at k
pub under_flip : (k v : ℕ) (r : Row) (x : ℕ) → bit r.mask k ≡ 1 → bit v k ≡ 0 → under (flip_row k v r) (shear k v x) ≡ under r x
under_flip k v r x hm hv = go (ℕ_discrete (bit x k) (bit r.values k))
  where
    w : ℕ
    w = bit_and r.mask v

    off : bit w k ≡ 0
    off = bit-and r.mask v k ∙ omega (arith, hv)

    bit-w : (y d : ℕ) → d < 2 → bit (bit_xor y (w * d)) k ≡ bit y k
    bit-w y d h =
        bit-xor y (w * d) k
        ∙ rw (bit-times w d k h, off) (omega (arith, bit-lt y k))

    bit-m : bit (bit_and r.mask x) k ≡ bit x k
    bit-m = bit-and r.mask x k ∙ rw hm (omega (arith, bit-lt x k))

    go : Dec (bit x k ≡ bit r.values k) → under (flip_row k v r) (shear k v x) ≡ under r x
    go (yes e) = rw (and-shear k v r.mask x, e) (eqb-xor (bit_and r.mask x) r.values (w * bit r.values k))
    go (no n) =
        rw (
          and-shear k v r.mask x,
          apart k (bit_and r.mask x) r.values (λ e. n (sym bit-m ∙ e)),
          apart k (bit_xor (bit_and r.mask x) (w * bit x k)) (bit_xor r.values (w * bit r.values k))
              (λ e.
              n (sym (bit-w (bit_and r.mask x) (bit x k) (bit-lt x k) ∙ bit-m) ∙ e
              ∙ bit-w r.values (bit r.values k) (bit-lt r.values k))),
        )

-- a flipped row stays well formed
pub sound-flip : (n k v : ℕ) (r : Row) → Sound n r → Sound n (flip_row k v r)
sound-flip n k v r s =
    record {
      fixed = s.fixed;
      inside =
          and_xor r.mask r.values (bit_and r.mask v * bit r.values k)
          ∙ ap₂ bit_xor s.inside
          (and-times r.mask (bit_and r.mask v) (bit r.values k) (bit-lt r.values k)
          ∙ rw (and_again r.mask v));
    }

-- ---- the halves of a row that is free at k

and-fixed : (k m x : ℕ) → bit_and (bit_xor m (2 ^ k)) x ≡ bit_xor (bit_and m x) (2 ^ k * bit x k)
and-fixed k m x =
    and_comm (bit_xor m (2 ^ k)) x ∙ and_xor x m (2 ^ k) ∙ ap₂ bit_xor (and_comm x m) (and_comm x (2 ^ k) ∙ and_pow k x)

-- a half is fixed at k
pub half-fixed : (k d : ℕ) (r : Row) → bit r.mask k ≡ 0 → bit (half k d r).mask k ≡ 1
half-fixed k d r h = bit-xor r.mask (2 ^ k) k ∙ rw (h, bit-pow-same k)

free-values : (n k : ℕ) (r : Row) → Sound n r → bit r.mask k ≡ 0 → bit r.values k ≡ 0
free-values n k r s h = ap (λ (y : ℕ). bit y k) (sym s.inside) ∙ bit-and r.mask r.values k ∙ omega (arith, h)

-- bit k of a number that has none, XOR a digit there
bit-there : (k y d : ℕ) → d < 2 → bit y k ≡ 0 → bit (bit_xor y (2 ^ k * d)) k ≡ d
bit-there k y d h e = bit-xor y (2 ^ k * d) k ∙ rw (e, bit-times (2 ^ k) d k h, bit-pow-same k) (omega arith)

-- under the half that has d at k lie the row's points that have d there
pub under-half : (n k d : ℕ) (r : Row) (x : ℕ) → d < 2 → Sound n r → bit r.mask k ≡ 0
    → under (half k d r) x ≡ under r x && eqb (bit x k) d
under-half n k d r x hd s h = rw (and-fixed k r.mask x) (go (ℕ_discrete (bit x k) d))
  where
    off : bit (bit_and r.mask x) k ≡ 0
    off = bit-and r.mask x k ∙ omega (arith, h)

    go : Dec (bit x k ≡ d)
        → eqb (bit_xor (bit_and r.mask x) (2 ^ k * bit x k)) (bit_xor r.values (2 ^ k * d)) ≡ under r x && eqb (bit x k) d
    go (yes e) =
        rw (eq-eqb (bit x k) d e, and-true, e) (eqb-xor (bit_and r.mask x) r.values (2 ^ k * d))
    go (no m) =
        rw (
          ne_eqb (bit x k) d m,
          and-false,
          apart k (bit_xor (bit_and r.mask x) (2 ^ k * bit x k)) (bit_xor r.values (2 ^ k * d))
              (λ e. m (sym (bit-there k (bit_and r.mask x) (bit x k) (bit-lt x k) off) ∙ e
              ∙ bit-there k r.values d hd (free-values n k r s h))),
        )

-- a half stays well formed
pub sound-half : (n k d : ℕ) (r : Row) → k < n → d < 2 → Sound n r → bit r.mask k ≡ 0 → Sound n (half k d r)
sound-half n k d r hk hd s h =
    record {
      fixed = xor_lt n r.mask (2 ^ k) s.fixed (pow-lt hk);
      inside =
          and-fixed k r.mask (bit_xor r.values (2 ^ k * d))
          ∙ ap₂ bit_xor
          (and_xor r.mask r.values (2 ^ k * d)
          ∙ ap₂ bit_xor s.inside
          (and-times r.mask (2 ^ k) d hd
          ∙ rw (and_comm r.mask (2 ^ k), and_pow k r.mask, h) (omega arith))
          ∙ xor_zero_r r.values)
          (ap (λ (y : ℕ). 2 ^ k * y) (bit-there k r.values d hd (free-values n k r s h)));
    }
