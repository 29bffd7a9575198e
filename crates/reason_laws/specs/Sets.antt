-- The set of independent numbers that a number is the XOR of: there is one and no other, sigma finds it, and it is a single number exactly
-- where the number is one of them. A set is a number z, which has bit j where c j is in it. Assumes nothing.
use Rattle.std.specs.Prelude.{◌≡◌, false, ℕ, ◌^◌, ◌≤◌, ◌<◌, eqb, ltb}
use Rattle.std.proofs.Common.{sym, ap, ◌∙◌, arith, eq-eqb, ne_eqb, le-ltb}
use Rattle.std.proofs.Math.Decide.{dec_lt}
use Rattle.std.proofs.Math.Pow.{pow-lt}
use Rattle.bits.specs.Digits.{bit}
use Rattle.bits.specs.Bit.{bit-none}
use Rattle.slices.specs.Places.{at}
use Rattle.slices.specs.Least.{first-is, first_cong}
use Rattle.block.specs.Basis.{span, columns, apply, inverse}
use Rattle.block.specs.Rows.{reached}
use Rattle.block.specs.Reasons.{place_of, set_of}
use Rattle.matrix_laws.specs.Linear.{columns-cong, columns-unit, apply-lt, span-linear}
use Rattle.matrix_laws.specs.Reached.{Independent, reached-linear, reached-kernel, reaches}
use Rattle.matrix_laws.specs.Inverse.{sigma-reached, sigma-columns, columns-sigma}

-- place and set are a matter of the n numbers alone
pub place-cong : (c d : ℕ → ℕ) (n t : ℕ) → ((j : ℕ) → j < n → c j ≡ d j) → place_of n c t ≡ place_of n d t
place-cong c d n t h = first_cong n (λ j. eqb (c j) t) (λ j. eqb (d j) t) (λ j l. ap (λ (x : ℕ). eqb x t) (h j l))

pub set-cong : (c d : ℕ → ℕ) (n t : ℕ) → ((j : ℕ) → j < n → c j ≡ d j) → set_of n c t ≡ set_of n d t
set-cong c d n t h =
    first_cong (2 ^ n) (λ z. eqb (columns c n z) t) (λ z. eqb (columns d n z) t) (λ z l. ap (λ (x : ℕ). eqb x t) (columns-cong c d n z h))

module _ (c : ℕ → ℕ) (n : ℕ) (i : Independent c n n) where
  -- two sets with the same XOR are one
  pub set-once : (t y z : ℕ) → y < 2 ^ n → z < 2 ^ n → columns c n y ≡ t → columns c n z ≡ t → y ≡ z
  set-once t y z hy hz a b =
      sym (sigma-columns c n i y hy) ∙ ap (apply (at (inverse c n)) n) (a ∙ sym b) ∙ sigma-columns c n i z hz

  -- the set that is found, by the inverse; what rests on it cites this
  pub set-inverse : (t : ℕ) → t < 2 ^ n → set_of n c t ≡ apply (at (inverse c n)) n t
  set-inverse t h =
      first-is (2 ^ n) (λ z. eqb (columns c n z) t) s (omega (arith, apply-lt (at (inverse c n)) n t))
      (λ z l. ne_eqb (columns c n z) t (λ e. omega (arith, set-once t z s (omega (arith, apply-lt (at (inverse c n)) n t)) (apply-lt (at (inverse c n)) n t) e gives)))
      (λ l. eq-eqb (columns c n s) t gives)
    where
      s : ℕ
      s = apply (at (inverse c n)) n t

      gives : columns c n s ≡ t
      gives = columns-sigma c n i t h

  -- the set that is found is what sigma sends t to
  pub set-sigma : (t : ℕ) → t < 2 ^ n → set_of n c t ≡ apply (at (inverse c n)) n t
  set-sigma = set-inverse

  -- two of the numbers are not the same
  pub place-once : (j k : ℕ) → j < n → k < n → c j ≡ c k → j ≡ k
  place-once j k hj hk e = pow-once (set-once (c k) (2 ^ j) (2 ^ k) (pow-lt hj) (pow-lt hk) (columns-unit c n j hj ∙ e) (columns-unit c n k hk))
    where
      pow-once : 2 ^ j ≡ 2 ^ k → j ≡ k
      pow-once e = go (dec_lt j k) (dec_lt k j)
        where
          go : Dec (j < k) → Dec (k < j) → j ≡ k
          go (yes l) d = absurd (omega (arith, pow-lt l))
          go (no l) (yes m) = absurd (omega (arith, pow-lt m))
          go (no l) (no m) = omega arith

  -- the place of one of them
  pub place_is : (j t : ℕ) → j < n → c j ≡ t → place_of n c t ≡ j
  place_is j t l e =
      first-is n (λ k. eqb (c k) t) j (omega arith)
      (λ k b. ne_eqb (c k) t (λ d. omega (arith, place-once k j (omega arith) l (d ∙ sym e))))
      (λ b. eq-eqb (c j) t e)

  -- t is number j exactly where sigma t is 2^j
  pub taken-sigma : (j t : ℕ) → j < n → c j ≡ t → apply (at (inverse c n)) n t ≡ 2 ^ j
  taken-sigma j t l e = ap (apply (at (inverse c n)) n) (sym e ∙ sym (columns-unit c n j l)) ∙ sigma-columns c n i (2 ^ j) (pow-lt l)

  pub sigma-taken : (j t : ℕ) → j < n → t < 2 ^ n → apply (at (inverse c n)) n t ≡ 2 ^ j → c j ≡ t
  sigma-taken j t l h e = sym (columns-unit c n j l) ∙ ap (columns c n) (sym e) ∙ columns-sigma c n i t h

  -- where number j is in the set, t is no XOR of those before it
  pub set-fresh : (j t : ℕ) → j < n → t < 2 ^ n → bit (apply (at (inverse c n)) n t) j ≡ 1 → span c j t ≡ false
  set-fresh j t l h b =
      span-linear (reached n c n) (reached-linear n c n) c n j (λ x u z. reached-kernel n c n (reaches n c n (omega arith) i) x z)
      (λ k u. i.below k (omega arith)) (λ k u. (reaches n c n (omega arith) i).sends k (omega arith)) t h
      ∙ ap (λ (x : ℕ). ltb x (2 ^ j)) (sym (sigma-reached c n i t h))
      ∙ le-ltb (apply (at (inverse c n)) n t) (2 ^ j) (from (dec_lt (apply (at (inverse c n)) n t) (2 ^ j)))
    where
      from : Dec (apply (at (inverse c n)) n t < 2 ^ j) → 2 ^ j ≤ apply (at (inverse c n)) n t
      from (yes u) = absurd (omega (arith, bit-none (apply (at (inverse c n)) n t) j u))
      from (no u) = omega arith
