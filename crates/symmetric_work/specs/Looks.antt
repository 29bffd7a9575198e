-- The test of a table by the lowest zero of each number. Assumes nothing.
use Rattle.std.specs.Prelude.{◌≡◌, refl, Bool, true, false, List, ℕ, suc, ◌+◌, ◌-◌, ◌*◌, ◌/◌, ◌^◌, ◌≤◌, ◌<◌, length, get_or}
use Rattle.std.proofs.Common.{sym, ap, ◌∙◌, mul-le-mul, add-one, arith, below_more, pow_mono, pow_pos}
use Rattle.std.proofs.lemmas.Bool.{false≢true}
use Rattle.std.proofs.Math.Decide.{dec_lt}
use Rattle.std.specs.Int.Count.{ones}
use Rattle.slices.specs.Filled.{get_d_any}
use Rattle.block.specs.Words.{none, of_table}
use Rattle.block.specs.Symmetric.{is_symmetric}
use Rattle.symmetric_laws.specs.Slices.{power-more}
use Rattle.symmetric_laws.specs.Words.{passes-symmetric, with_zero, without_zero, ones-without}
use Rattle.std.proofs.Math.Pow.{pow-add}
use Rattle.std.proofs.Math.Nat.{mul-div_cancel}

-- the entries at a number whose lowest zero stands at k and at the number without it are equal
abbrev pub Repeated : List ℕ → ℕ → ℕ → ℕ → Type 0
Repeated table n k a = with_zero k a < 2 ^ n → of_table table (with_zero k a) ≡ of_table table (without_zero k a)

-- what a look at the zero at k says: some entry is unlike, and the table is not symmetric; or none is
pub record Looked (table : List ℕ) (n k : ℕ) (r : Bool) : Type 0 where
  pub some : r ≡ true → is_symmetric table n ≡ false
  pub none : r ≡ false → (a : ℕ) → Repeated table n k a

pub looked-some : (table : List ℕ) (n k : ℕ) → is_symmetric table n ≡ false → Looked table n k true
looked-some table n k e = record { some = λ d. e; none = λ d. absurd (false≢true (sym d)) }

pub looked-none : (table : List ℕ) (n k : ℕ) → ((a : ℕ) → Repeated table n k a) → Looked table n k false
looked-none table n k h = record { some = λ d. absurd (false≢true d); none = λ d. h }

-- how far the look has come: at the number with a above its zero, and none before it is unlike
pub record Looking (table : List ℕ) (n k with without : ℕ) : Type 0 where
  pub above : ℕ
  pub there : with ≡ with_zero k above
  pub other : without ≡ without_zero k above
  pub before : (a : ℕ) → a < above → Repeated table n k a

pub one_more : (a p : ℕ) → (a + 1) * p ≡ a * p + p
one_more a p = let e : a + 1 ≡ suc a = add-one a in ap (λ (i : ℕ). i * p) e ∙ omega arith

module _ (table : List ℕ) (n k : ℕ) where
  pub look-starts : (with without step : ℕ) → step ≡ 2 ^ k → with ≡ step - 1 → without ≡ step - 1 → Looking table n k with without
  look-starts with without step e d f =
      record { above = 0; there = omega arith; other = omega arith; before = λ a h. absurd (omega arith) }

  module _ (with without : ℕ) (l : Looking table n k with without) where
    -- the number without the zero is not above the one with it
    pub look-below : without ≤ with
    look-below =
        let same : l.above ≤ l.above = omega arith in
        let more : 2 ^ k ≤ 2 ^ (k + 1) = pow_mono (omega arith) in
        omega (arith, l.there, l.other, mul-le-mul same more)

    pub look-goes-on : (step : ℕ) → step ≡ 2 ^ k → length table ≡ 2 ^ n → with < 2 ^ n → get_or table with 0 ≡ get_or table without 0
        → Looking table n k (with + (step + step)) (without + step)
    look-goes-on step e len b d =
        let two = power-more k in
        record {
          above = l.above + 1;
          there = omega (arith, l.there, one_more l.above (2 ^ (k + 1)));
          other = omega (arith, l.other, one_more l.above (2 ^ k));
          before = below_more _ _ l.before (λ w. at_once);
        }
      where
        at_once : of_table table (with_zero k l.above) ≡ of_table table (without_zero k l.above)
        at_once =
            ap (of_table table) (sym l.there)
            ∙ get_d_any table none 0 with (omega arith)
            ∙ d
            ∙ get_d_any table 0 none without (omega (arith, look-below))
            ∙ ap (of_table table) l.other

    pub look-finds : length table ≡ 2 ^ n → with < 2 ^ n → (get_or table with 0 ≡ get_or table without 0 → ⊥) → is_symmetric table n ≡ false
    look-finds len b d = go (is_symmetric table n) refl
      where
        go : (r : Bool) → is_symmetric table n ≡ r → is_symmetric table n ≡ false
        go false e = e
        go true e =
            absurd
            (d
            (get_d_any table 0 none with (omega arith)
            ∙ passes-symmetric table n e with without b (omega (arith, look-below))
            (ap ones l.there ∙ ones-without k l.above ∙ ap ones (sym l.other))
            ∙ get_d_any table none 0 without (omega (arith, look-below))))

    pub look-ends : 2 ^ n ≤ with → (a : ℕ) → Repeated table n k a
    look-ends h a = go (dec_lt a l.above)
      where
        go : Dec (a < l.above) → Repeated table n k a
        go (yes b) = l.before a b
        go (no b) =
            λ w.
            let more : l.above ≤ a = omega arith in
            let same : 2 ^ (k + 1) ≤ 2 ^ (k + 1) = omega arith in
            absurd (omega (arith, l.there, mul-le-mul more same))

-- where a number with a above its zero at k stands, and that without the zero, as a step of 2^k leads to them
module _ (n k a s : ℕ) (e : s ≡ 2 ^ k) where
  pub stands-with : a * (s + s) + (s - 1) ≡ with_zero k a
  stands-with = omega (arith, e, power-more k, ap (λ (p : ℕ). a * p) e, ap (λ (p : ℕ). a * p) (power-more k))

  pub stands-without : a * s + (s - 1) ≡ without_zero k a
  stands-without = omega (arith, e, ap (λ (p : ℕ). a * p) e)

  -- so many stand below 2^n
  pub stands-count : k < n → 2 ^ n / (s + s) ≡ 2 ^ (n - 1 - k)
  stands-count h =
      let whole : n - 1 - k + (k + 1) ≡ n = omega arith in
      let two : s + s ≡ 2 ^ (k + 1) = omega (arith, e, power-more k) in
      let parts : 2 ^ n ≡ 2 ^ (n - 1 - k) * (s + s) = ap (λ (i : ℕ). 2 ^ i) (sym whole) ∙ pow-add 2 (n - 1 - k) (k + 1) ∙ ap (λ (p : ℕ). 2 ^ (n - 1 - k) * p) (sym two) in
      ap (λ (p : ℕ). p / (s + s)) parts ∙ mul-div_cancel (2 ^ (n - 1 - k)) (omega (arith, e, pow_pos k))

  -- all below 2^n, where a is below 2^(n - 1 - k)
  pub stands-below : k < n → a < 2 ^ (n - 1 - k) → a * (s + s) + (s + s) ≤ 2 ^ n
  stands-below h b =
      let whole : n - 1 - k + (k + 1) ≡ n = omega arith in
      let two : s + s ≤ 2 ^ (k + 1) = omega (arith, e, power-more k) in
      let next : a + 1 ≤ 2 ^ (n - 1 - k) = omega arith in
      omega (arith, mul-le-mul next two, sym (pow-add 2 (n - 1 - k) (k + 1)) ∙ ap (λ (i : ℕ). 2 ^ i) whole)

  -- and no other are
  pub stands-beyond : k < n → 2 ^ (n - 1 - k) ≤ a → with_zero k a < 2 ^ n → ⊥
  stands-beyond h b c =
      let whole : n - 1 - k + (k + 1) ≡ n = omega arith in
      let same : 2 ^ (k + 1) ≤ 2 ^ (k + 1) = omega arith in
      omega (arith, mul-le-mul b same, sym (pow-add 2 (n - 1 - k) (k + 1)) ∙ ap (λ (i : ℕ). 2 ^ i) whole)

-- the entries at both, of a table of 2^n
module _ (table : List ℕ) (n k a with without : ℕ) (len : length table ≡ 2 ^ n) (there : with ≡ with_zero k a) (other : without ≡ without_zero k a) (b : with < 2 ^ n) where
  -- the number without the zero is not above the one with it
  below_with : without ≤ with
  below_with =
      let same : a ≤ a = omega arith in
      let more : 2 ^ k ≤ 2 ^ (k + 1) = pow_mono (omega arith) in
      omega (arith, there, other, mul-le-mul same more)

  pub look-repeated : get_or table with 0 ≡ get_or table without 0 → Repeated table n k a
  look-repeated d =
      λ w.
      ap (of_table table) (sym there)
      ∙ get_d_any table none 0 with (omega arith)
      ∙ d
      ∙ get_d_any table 0 none without (omega (arith, below_with))
      ∙ ap (of_table table) other

  pub unlike-finds : (get_or table with 0 ≡ get_or table without 0 → ⊥) → is_symmetric table n ≡ false
  unlike-finds d = go (is_symmetric table n) refl
    where
      go : (r : Bool) → is_symmetric table n ≡ r → is_symmetric table n ≡ false
      go false e = e
      go true e =
          absurd
          (d
          (get_d_any table 0 none with (omega arith)
          ∙ passes-symmetric table n e with without b (omega (arith, below_with))
          (ap ones there ∙ ones-without k a ∙ ap ones (sym other))
          ∙ get_d_any table none 0 without (omega (arith, below_with))))
