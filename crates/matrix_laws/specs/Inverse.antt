-- Sigma is the inverse of T, and the only one: for n independent columns the inverse by rows is the matrix that the n steps reach,
-- it undoes T and T undoes it, any rows that do either are these, and none of them is an XOR of earlier ones. Not here: the block at T z
-- (`Smaller`). Assumes nothing.
use Rattle.std.specs.Prelude.{◌≡◌, refl, Bool, true, false, ◌||◌, length}
use Rattle.std.proofs.Common.{sym, ap, ◌∙◌, arith, eqb-true, eq-eqb, ne_eqb}
use Rattle.std.proofs.lemmas.Bool.{false≢true}
use Prim.Native.Nat.{ℕ, zero, suc, ◌*◌, ◌^◌, ◌≤◌, ◌<◌}
use Rattle.std.specs.Int.Bits.{bit_and, bit_xor}
use Rattle.std.proofs.Math.Dec.{eqb}
use Rattle.std.proofs.Math.Pow.{pow-lt}
use Rattle.bits.specs.Digits.{bit, parity}
use Rattle.bits.specs.Parity.{parity-0, parity-xor-and, parity-lt}
use Rattle.bits.specs.Bit.{bit-lt, bit-ext, bit-pow-same, bit-pow-other}
use Rattle.sums.specs.Sums.{sum}
use Rattle.slices.specs.Places.{at, tab, first}
use Rattle.slices.specs.Filled.{length-tab, tab-at, tab-cong}
use Rattle.slices.specs.Least.{first-is}
use Rattle.block.specs.Measure.{shift}
use Rattle.block.specs.Basis.{span, columns, apply, inverse, basis_of, sigma_of}
use Rattle.block.specs.Rows.{reached}
use Rattle.block.specs.Refusals.{dependent}
use Rattle.choice_laws.specs.Chosen.{pick, basis-at, length-chosen}
use Rattle.matrix_laws.specs.Linear.{digits-below, digits-bit, linear-zero, linear-undoes, apply-lt, apply-bit, apply-cong, apply-unit, rows-unique, columns-lt}
use Rattle.matrix_laws.specs.Reached.{Independent, Coordinates, reached-linear, returned, reaches}
use Rattle.matrix_laws.specs.Reach.{reach_rows, reach-apply, reach-cong, reach-lt}
use Rattle.matrix_laws.specs.Candidate.{basis-independent}

-- the inverse has n rows
pub length-inverse : (c : ℕ → ℕ) (n : ℕ) → length (inverse c n) ≡ n
unfolding inverse
length-inverse c n = length-tab n _

-- the basis of a block has n numbers, and so has sigma
pub length-basis : (f : ℕ → ℕ) (n w : ℕ) → length (basis_of f n w) ≡ n
unfolding basis_of
length-basis f n w = length-chosen (shift f n) n w n

pub length-sigma : (f : ℕ → ℕ) (n w : ℕ) → length (sigma_of f n w) ≡ n
unfolding sigma_of
length-sigma f n w = length-inverse (at (basis_of f n w)) n

-- a row that is an XOR of earlier rows has parity 0 wherever they all have
span-parity : (s : ℕ → ℕ) (k t x : ℕ) → span s k t ≡ true → ((i : ℕ) → i < k → parity (bit_and (s i) x) ≡ 0) → parity (bit_and t x) ≡ 0
unfolding span
span-parity s zero t x e h = ap (λ (y : ℕ). parity (bit_and y x)) (eqb-true t 0 e) ∙ parity-0
span-parity s (suc k) t x e h =
    go (span s k t) (span s k (bit_xor t (s k))) e
    (λ d. span-parity s k t x d (λ i l. h i (omega arith)))
    (λ d. span-parity s k (bit_xor t (s k)) x d (λ i l. h i (omega arith)))
  where
    both : parity (bit_and (bit_xor t (s k)) x) ≡ 0 → parity (bit_and t x) ≡ 0
    both z = omega (arith, parity-xor-and t (s k) x, h k (omega arith), parity-lt (bit_and t x))

    go : (p q : Bool) → p || q ≡ true → (p ≡ true → parity (bit_and t x) ≡ 0)
        → (q ≡ true → parity (bit_and (bit_xor t (s k)) x) ≡ 0) → parity (bit_and t x) ≡ 0
    go true q e a b = a refl
    go false true e a b = both (b refl)
    go false false e a b = absurd (false≢true e)

module _ (c : ℕ → ℕ) (n : ℕ) (i : Independent c n n) where
  all : Coordinates n c n
  all = reaches n c n (omega arith) i

  -- the coordinates reached undo T
  pub reached-columns : (z : ℕ) → z < 2 ^ n → reached n c n (columns c n z) ≡ z
  reached-columns z h = linear-undoes (reached n c n) (reached-linear n c n) c n z all.sends h

  -- and T undoes them
  pub columns-reached : (x : ℕ) → x < 2 ^ n → columns c n (reached n c n x) ≡ x
  columns-reached x h =
      sym (all.back (columns c n (reached n c n x)))
      ∙ ap (returned n c n) (reached-columns (reached n c n x) (all.keeps x h))
      ∙ all.back x

  -- T sends only 0 to 0
  pub columns-kernel : (z : ℕ) → z < 2 ^ n → columns c n z ≡ 0 → z ≡ 0
  columns-kernel z h e =
      sym (reached-columns z h) ∙ ap (reached n c n) e ∙ linear-zero (reached n c n) (reached-linear n c n)

  -- the z that T sends to x
  found : (x : ℕ) → x < 2 ^ n → first (2 ^ n) (λ z. eqb (columns c n z) x) ≡ reached n c n x
  found x h =
      let l : reached n c n x < 2 ^ n = all.keeps x h in
      first-is (2 ^ n) (λ z. eqb (columns c n z) x) (reached n c n x) (omega arith)
      (λ z u. ne_eqb (columns c n z) x (λ e. apart z u (sym (reached-columns z (omega arith)) ∙ ap (reached n c n) e)))
      (λ u. eq-eqb (columns c n (reached n c n x)) x (columns-reached x h))
    where
      apart : (z : ℕ) → z < reached n c n x → z ≡ reached n c n x → ⊥
      apart z u e = omega arith

  -- the inverse by rows is the matrix that the steps reach
  pub inverse-reach : inverse c n ≡ tab n (reach_rows n c n)
  unfolding inverse
  inverse-reach = tab-cong n _ (reach_rows n c n) row
    where
      d : ℕ → ℕ → ℕ
      d j i = bit (first (2 ^ n) (λ z. eqb (columns c n z) (2 ^ i))) j

      d-lt : (j i : ℕ) → d j i < 2
      d-lt j i = bit-lt (first (2 ^ n) (λ z. eqb (columns c n z) (2 ^ i))) j

      row : (j : ℕ) → j < n → sum (λ i. d j i * 2 ^ i) n ≡ reach_rows n c n j
      row j h =
          bit-ext n (sum (λ i. d j i * 2 ^ i) n) (reach_rows n c n j) (digits-below (d j) (d-lt j) n) (reach-lt n c n (omega arith) i j h)
          (λ b l.
          digits-bit (d j) (d-lt j) n b l
          ∙ ap (λ (z : ℕ). bit z j) (found (2 ^ b) (pow-lt l) ∙ sym (reach-apply n c n (omega arith) i (2 ^ b) (pow-lt l)))
          ∙ apply-unit (reach_rows n c n) n b j h)

  -- row j
  pub inverse-at : (j : ℕ) → j < n → at (inverse c n) j ≡ reach_rows n c n j
  inverse-at j h = ap (λ l. at l j) inverse-reach ∙ tab-at n (reach_rows n c n) 0 j h

  -- its rows have n bits
  pub inverse-lt : (j : ℕ) → j < n → at (inverse c n) j < 2 ^ n
  inverse-lt j h = rw (inverse-at j h) (reach-lt n c n (omega arith) i j h)

  -- sigma gives the coordinates reached
  pub sigma-reached : (x : ℕ) → x < 2 ^ n → apply (at (inverse c n)) n x ≡ reached n c n x
  sigma-reached x h = apply-cong (at (inverse c n)) (reach_rows n c n) n x inverse-at ∙ reach-apply n c n (omega arith) i x h

  -- sigma undoes T
  pub sigma-columns : (z : ℕ) → z < 2 ^ n → apply (at (inverse c n)) n (columns c n z) ≡ z
  sigma-columns z h = sigma-reached (columns c n z) (columns-lt c n n z i.below) ∙ reached-columns z h

  -- T undoes sigma
  pub columns-sigma : (x : ℕ) → x < 2 ^ n → columns c n (apply (at (inverse c n)) n x) ≡ x
  columns-sigma x h = ap (columns c n) (sigma-reached x h) ∙ columns-reached x h

  -- rows that undo T are those of the inverse
  pub inverse-unique : (s : ℕ → ℕ) → ((j : ℕ) → j < n → s j < 2 ^ n) → ((z : ℕ) → z < 2 ^ n → apply s n (columns c n z) ≡ z)
      → (j : ℕ) → j < n → s j ≡ at (inverse c n) j
  inverse-unique s hs h =
      rows-unique s (at (inverse c n)) n hs inverse-lt
      (λ x l.
      ap (apply s n) (sym (columns-sigma x l))
      ∙ h (apply (at (inverse c n)) n x) (apply-lt (at (inverse c n)) n x))

  -- and so are rows that T undoes
  pub inverse-unique-right : (s : ℕ → ℕ) → ((j : ℕ) → j < n → s j < 2 ^ n) → ((x : ℕ) → x < 2 ^ n → columns c n (apply s n x) ≡ x)
      → (j : ℕ) → j < n → s j ≡ at (inverse c n) j
  inverse-unique-right s hs h =
      rows-unique s (at (inverse c n)) n hs inverse-lt
      (λ x l.
      sym (sigma-columns (apply s n x) (apply-lt s n x)) ∙ ap (apply (at (inverse c n)) n) (h x l))

  -- no row of the inverse is the XOR of some set of earlier rows
  pub inverse-independent : dependent n (at (inverse c n)) ≡ n
  unfolding dependent
  inverse-independent =
      first-is n _ n (omega arith) (λ j l. go j l (span s j (s j)) refl) (λ l. absurd (omega arith))
    where
      s : ℕ → ℕ
      s = at (inverse c n)

      -- the point that sigma sends to 2^j
      x : ℕ → ℕ
      x j = columns c n (2 ^ j)

      row : (j h : ℕ) → j < n → h < n → parity (bit_and (s h) (x j)) ≡ bit (2 ^ j) h
      row j h l m = sym (apply-bit s n (x j) h m) ∙ ap (λ (y : ℕ). bit y h) (sigma-columns (2 ^ j) (pow-lt l))

      go : (j : ℕ) → j < n → (b : Bool) → span s j (s j) ≡ b → span s j (s j) ≡ false
      go j l true e =
          absurd
          (omega (
            arith,
            row j j l l,
            bit-pow-same j,
            span-parity s j (s j) (x j) e (λ h m. row j h l (omega arith) ∙ bit-pow-other j h (λ d. omega arith)),
          ))
      go j l false e = e

-- sigma of a block lists the rows that the steps reach with its chosen numbers
pub sigma-tab : (f : ℕ → ℕ) (n w : ℕ) → 1 ≤ w → sigma_of f n w ≡ tab n (reach_rows n (pick (shift f n) n w) n)
unfolding sigma_of
sigma-tab f n w h =
    inverse-reach (at (basis_of f n w)) n (basis-independent f n w h)
    ∙ tab-cong n (reach_rows n (at (basis_of f n w)) n) (reach_rows n (pick (shift f n) n w) n)
    (λ j l. reach-cong n (at (basis_of f n w)) (pick (shift f n) n w) n (basis-at f n w) j)
