-- Two rows that are written as one are the halves of the joined row: it has the points of both, and is well formed. Which of the two is
-- named first does not matter, and no row is written as one with itself. Assumes nothing.
use Rattle.std.specs.Prelude.{◌≡◌, true, false, ◌&&◌, ℕ, zero, suc, ◌+◌, ◌*◌, ◌/◌, ◌%◌, ◌^◌, ◌<◌, eqb}
use Rattle.std.proofs.Math.Path.{sym, ap, ap₂}
use Rattle.std.proofs.Common.{◌∙◌, arith, eqb-true}
use Rattle.std.proofs.Math.Bool.{and-false}
use Rattle.std.proofs.Math.Decide.{ℕ_discrete}
use Rattle.std.proofs.Math.Nat.{mul-zero, mul-one, add_comm}
use Rattle.std.specs.Int.Bits.{bit_and, bit_xor, and_self, xor_zero_r, xor_self}
use Rattle.std.proofs.lemmas.Nat.{and_comm, xor_lt, xor_comm}
use Rattle.std.specs.Int.Count.{ones, ones_step}
use Rattle.std.proofs.Math.Pow.{pow-lt}
use Rattle.bits.specs.Digits.{bit}
use Rattle.bits.specs.Ones.{ones-zero}
use Rattle.bits.specs.Xor.{xor-cancel, xor-cancel-r, and_xor, eqb-turn}
use Rattle.bits.specs.Bit.{bit-lt, bit-xor, bit-and, bit-pow-same, and_pow}
use Rattle.slices.specs.Tests.{and_both}
use Rattle.sums.specs.Sums.{one}
use Rattle.block.specs.Words.{row, under}
use Rattle.block.specs.declared.Row.{Row}
use Rattle.pair_laws.specs.Cube.{Sound, sound-values}
use Rattle.step_laws.specs.Hits.{halves}
use Rattle.block.specs.Joins.{joins, joined_row}

-- which of the two is named first does not matter
pub joins-turn : (r s : Row) → joins r s ≡ joins s r
unfolding joins
joins-turn r s = rw (eqb-turn r.word s.word, eqb-turn r.mask s.mask, xor_comm r.values s.values)

-- and no row is written as one with itself
pub joins-self : (r : Row) → joins r r ≡ false
unfolding joins
joins-self r = rw (xor_self r.values, ones-zero, and-false, and-false)

-- a number with a single one-bit is a power of two
ones_none : (n d : ℕ) → d < 2 ^ n → ones d ≡ 0 → d ≡ 0
ones_none zero d h e = omega arith
ones_none (suc n) d h e =
    omega (arith, ones_none n (d / 2) (omega arith) (omega (arith, ones_step d, e)), ones_step d, e)

pub ones-single : (n d : ℕ) → d < 2 ^ n → ones d ≡ 1 → (h : ℕ) × (h < n) × (d ≡ 2 ^ h)
unfolding ones
ones-single zero d h e =
    let z : d ≡ 0 = omega arith in
    absurd (omega (arith, sym (ap ones z) ∙ e))
ones-single (suc n) d h e = go (ℕ_discrete (d % 2) 1) (λ a. ones-single n (d / 2) (omega arith) a)
  where
    go : Dec (d % 2 ≡ 1) → (ones (d / 2) ≡ 1 → (h : ℕ) × (h < n) × (d / 2 ≡ 2 ^ h)) → (h : ℕ) × (h < suc n) × (d ≡ 2 ^ h)
    go (yes o) ih = (0, omega arith, omega (arith, o, ones_none n (d / 2) (omega arith) (omega (arith, ones_step d, e, o))))
    go (no o) ih =
        let w = ih (omega (arith, ones_step d, e, o)) in
        (suc w.0, omega (arith, w.1), omega (arith, w.2, o))

-- the halves of the row that z, which has 0 at h, becomes when it is free there
module _ (n h : ℕ) (z : Row) (a : Sound n z) (l : h < n) (off : bit z.values h ≡ 0) where
  pub freed-sound : Sound n (row (bit_xor z.mask (2 ^ h)) z.values z.word)
  freed-sound =
      record {
        fixed = xor_lt n z.mask (2 ^ h) a.fixed (pow-lt l);
        inside =
            and_comm (bit_xor z.mask (2 ^ h)) z.values ∙ and_xor z.values z.mask (2 ^ h)
            ∙ ap₂ bit_xor (and_comm z.values z.mask ∙ a.inside)
            (and_comm z.values (2 ^ h) ∙ and_pow h z.values ∙ rw (off, mul-zero (2 ^ h)))
            ∙ xor_zero_r z.values;
      }

  pub freed-points : (o : Row) (x : ℕ) → bit z.mask h ≡ 1 → o.mask ≡ z.mask → o.values ≡ bit_xor z.values (2 ^ h)
      → one (under z x) + one (under o x) ≡ one (under (row (bit_xor z.mask (2 ^ h)) z.values z.word) x)
  freed-points o x on em ev =
      rw (em, ev)
      (ap₂ (λ (m v : ℕ). one (eqb (bit_and m x) v) + one (eqb (bit_and m x) (bit_xor z.values (2 ^ h)))) (sym (xor-cancel-r z.mask (2 ^ h)))
      (sym (rw (mul-zero (2 ^ h)) (xor_zero_r z.values)))
      ∙ ap (λ (v : ℕ). one (eqb (bit_and (bit_xor (bit_xor z.mask (2 ^ h)) (2 ^ h)) x) (bit_xor z.values (2 ^ h * 0)))
      + one (eqb (bit_and (bit_xor (bit_xor z.mask (2 ^ h)) (2 ^ h)) x) v)) (ap (bit_xor z.values) (sym (mul-one (2 ^ h))))
      ∙ halves n h (row (bit_xor z.mask (2 ^ h)) z.values z.word) x freed-sound
      (bit-xor z.mask (2 ^ h) h ∙ rw (on, bit-pow-same h)))

-- what the test says
pub record Alike (n : ℕ) (r s : Row) : Type 0 where
  pub words : r.word ≡ s.word
  pub masks : s.mask ≡ r.mask
  pub place : ℕ
  pub below : place < n
  pub differ : bit_xor r.values s.values ≡ 2 ^ place

pub joins-alike : (n : ℕ) (r s : Row) → Sound n r → Sound n s → joins r s ≡ true → Alike n r s
unfolding joins
joins-alike n r s a b e =
    let p = and_both (eqb r.word s.word) (eqb r.mask s.mask && eqb (ones (bit_xor r.values s.values)) 1) e in
    let q = and_both (eqb r.mask s.mask) (eqb (ones (bit_xor r.values s.values)) 1) p.1 in
    let w = ones-single n (bit_xor r.values s.values)
    (xor_lt n r.values s.values (sound-values n r a) (sound-values n s b)) (eqb-true _ 1 q.1) in
    record {
      words = eqb-true _ _ p.0;
      masks = sym (eqb-true r.mask s.mask q.0);
      place = w.0;
      below = w.1;
      differ = w.2;
    }

-- a value's bit is fixed
within : (n h : ℕ) (r : Row) → Sound n r → bit r.values h ≡ 1 → bit r.mask h ≡ 1
within n h r a e =
    omega (arith, bit-and r.mask r.values h, ap (λ (y : ℕ). bit y h) a.inside, e, bit-lt r.mask h)

module _ (n : ℕ) (r s : Row) (a : Sound n r) (b : Sound n s) (t : Alike n r s) where
  h : ℕ
  h = t.place

  second-values : s.values ≡ bit_xor r.values (2 ^ h)
  unfolding h
  second-values = sym (xor-cancel r.values s.values) ∙ ap (bit_xor r.values) t.differ

  both_values : bit_and r.values s.values ≡ bit_xor r.values (2 ^ h * bit r.values h)
  both_values =
      ap (bit_and r.values) second-values ∙ and_xor r.values r.values (2 ^ h)
      ∙ ap₂ bit_xor (and_self r.values) (and_comm r.values (2 ^ h) ∙ and_pow h r.values)

  other-bit : bit s.values h ≡ (bit r.values h + 1) % 2
  other-bit = ap (λ (y : ℕ). bit y h) second-values ∙ bit-xor r.values (2 ^ h) h ∙ ap (λ (y : ℕ). (bit r.values h + y) % 2) (bit-pow-same h)

  -- the joined row is well formed, and its points are those of the two
  pub record Union : Type 0 where
    pub sound : Sound n (joined_row r s)
    pub points : (x : ℕ) → one (under (joined_row r s) x) ≡ one (under r x) + one (under s x)

  pub union : Union
  unfolding h
  union = go (ℕ_discrete (bit r.values h) 0)
    where
      go : Dec (bit r.values h ≡ 0) → Union
      go (yes z) =
          let v : bit_and r.values s.values ≡ r.values
          = both_values ∙ rw (z, mul-zero (2 ^ h)) (xor_zero_r r.values) in
          let on : bit r.mask h ≡ 1
          = ap (λ (m : ℕ). bit m h) (sym t.masks) ∙ within n h s b (other-bit ∙ rw z) in
          record {
            sound = rw (t.differ, v) (freed-sound n h r a t.below z);
            points = λ x. rw (t.differ, v) (sym (freed-points n h r a t.below z s x on t.masks second-values));
          }
      go (no z) =
          let o : bit r.values h ≡ 1 = omega (arith, z, bit-lt r.values h) in
          let v : bit_and r.values s.values ≡ s.values
          = both_values ∙ rw (o, mul-one (2 ^ h)) (sym second-values) in
          let off : bit s.values h ≡ 0 = other-bit ∙ rw o in
          let on : bit s.mask h ≡ 1
          = ap (λ (m : ℕ). bit m h) t.masks ∙ within n h r a o in
          let back : r.values ≡ bit_xor s.values (2 ^ h)
          = sym (ap (λ (y : ℕ). bit_xor y (2 ^ h)) second-values ∙ xor-cancel-r r.values (2 ^ h)) in
          let f = freed-sound n h s b t.below off in
          record {
            sound = rw (t.differ, v, sym t.masks) (record { fixed = f.fixed; inside = f.inside });
            points = λ x.
                ap₂ (λ (m v : ℕ). one (eqb (bit_and m x) v)) (ap₂ bit_xor (sym t.masks) t.differ) v
                ∙ sym (freed-points n h s b t.below off r x on (sym t.masks) back)
                ∙ add_comm (one (under s x)) (one (under r x));
          }
