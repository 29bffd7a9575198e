-- How many numbers can be independent: n independent numbers of n bits give every number of n bits, so no more than n are; and no more
-- than k are where each is an XOR of some of k independent ones. Assumes nothing.
use Rattle.std.specs.Prelude.{◌≡◌, Bool, true}
use Rattle.std.proofs.Common.{sym, ap, ◌∙◌, add-zero, add-suc, arith, eq-eqb, ne_eqb, lt-ltb, ltb-true}
use Rattle.std.proofs.Math.Path.{ap₂}
use Rattle.std.proofs.Math.Bool.{◌||◌}
use Rattle.std.proofs.lemmas.Bool.{false≢true}
use Prim.Native.Nat.{ℕ, zero, suc, ◌+◌, ◌-◌, ◌^◌, ◌≤◌, ◌<◌}
use Rattle.std.proofs.Math.Decide.{ℕ_discrete, dec_lt}
use Rattle.std.specs.Int.Bits.{bit_xor}
use Rattle.std.proofs.lemmas.Nat.{xor_lt}
use Rattle.std.proofs.Math.Dec.{eqb}
use Rattle.block.specs.Basis.{span}
use Rattle.block.specs.Rows.{reached}
use Rattle.matrix_laws.specs.Linear.{Linear, linear-zero}
use Rattle.matrix_laws.specs.Reached.{Independent, independent-fewer, reached-linear, reached-kernel, reaches, reached-span}

span-behind : (c : ℕ → ℕ) (k i t : ℕ) → span c k t ≡ true → span c (k + i) t ≡ true
unfolding span
span-behind c k zero t h = rw (add-zero k) h
span-behind c k (suc i) t h = rw (add-suc k i) (ap (λ (x : Bool). x || span c (k + i) (bit_xor t (c (k + i)))) (span-behind c k i t h))

-- an XOR of some numbers is one of some of more numbers
pub span_more : (c : ℕ → ℕ) (j k t : ℕ) → j ≤ k → span c j t ≡ true → span c k t ≡ true
span_more c j k t l h =
    let e : j + (k - j) ≡ k = omega arith in
    sym (ap (λ (m : ℕ). span c m t) e) ∙ span-behind c j (k - j) t h

-- n independent numbers of n bits give every number of n bits
span-all : (c : ℕ → ℕ) (n : ℕ) → Independent c n n → (t : ℕ) → t < 2 ^ n → span c n t ≡ true
span-all c n i t h =
    reached-span n c n (omega arith) i t h ∙ lt-ltb (reached n c n t) (2 ^ n) ((reaches n c n (omega arith) i).keeps t h)

-- so no more than n are independent
independent-few : (c : ℕ → ℕ) (n m : ℕ) → Independent c n m → m ≤ n
independent-few c n m i = go (dec_lt n m)
  where
    go : Dec (n < m) → m ≤ n
    go (yes l) =
        absurd
        (false≢true
        (sym (i.fresh n l) ∙ span-all c n (independent-fewer c n n m (omega arith) i) (c n) (i.below n l)))
    go (no l) = omega arith

-- ---- under a linear map that sends only 0 to 0

module _ (f : ℕ → ℕ) (l : Linear f) (n : ℕ) (inj : (t : ℕ) → t < 2 ^ n → f t ≡ 0 → t ≡ 0) (e : ℕ → ℕ) where
  -- the XORs of the values are the values of the XORs
  span-image : (k : ℕ) → ((j : ℕ) → j < k → e j < 2 ^ n) → (t : ℕ) → t < 2 ^ n → span (λ j. f (e j)) k (f t) ≡ span e k t
  unfolding span
  span-image zero h t b = go (ℕ_discrete t 0)
    where
      go : Dec (t ≡ 0) → eqb (f t) 0 ≡ eqb t 0
      go (yes d) = rw (eq-eqb t 0 d) (eq-eqb (f t) 0 (ap f d ∙ linear-zero f l))
      go (no d) = rw (ne_eqb t 0 d) (ne_eqb (f t) 0 (λ z. d (inj t b z)))
  span-image (suc k) h t b =
      ap₂ ◌||◌ (span-image k (λ j u. h j (omega arith)) t b)
      (ap (span (λ j. f (e j)) k) (sym (l t (e k)))
      ∙ span-image k (λ j u. h j (omega arith)) (bit_xor t (e k)) (xor_lt n t (e k) b (h k (omega arith))))

  -- so independent numbers with values of k bits have independent values
  image-independent : (k m : ℕ) → Independent e n m → ((j : ℕ) → j < m → f (e j) < 2 ^ k) → Independent (λ j. f (e j)) k m
  image-independent k m i h =
      record {
        below = h;
        fresh = λ j u. span-image j (λ q v. i.below q (omega arith)) (e j) (i.below j u) ∙ i.fresh j u;
      }

-- independent numbers that are XORs of some of k independent ones are no more than k: their coordinates have k bits
pub within-few : (c : ℕ → ℕ) (n k : ℕ) → k ≤ n → Independent c n k → (e : ℕ → ℕ) (m : ℕ) → Independent e n m
    → ((j : ℕ) → j < m → span c k (e j) ≡ true) → m ≤ k
within-few c n k h i e m d s =
    independent-few (λ j. reached n c k (e j)) k m
    (image-independent (reached n c k) (reached-linear n c k) n (λ t u z. reached-kernel n c k (reaches n c k h i) t z) e k m d
    (λ j u. ltb-true (reached n c k (e j)) (2 ^ k) (sym (reached-span n c k h i (e j) (d.below j u)) ∙ s j u)))
