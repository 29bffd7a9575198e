-- What the covers of a matrix compute: after them zi has the parity of (row i AND x). Assumes nothing.
use Rattle.std.specs.Prelude.{◌≡◌, refl, Bool, true, false, cond, ◌&&◌, ◌||◌, eqb, ltb}
use Rattle.std.proofs.Math.Path.{sym, ap}
use Rattle.std.proofs.Common.{ap₂, ◌∙◌, mod-eq_of_lt, arith, lt-ltb, le-ltb}
use mathlib.Core.List.{List, [], ◌∷◌, ◌++◌, append-nil}
use Prim.Native.Nat.{ℕ, zero, suc, ◌+◌, ◌*◌, ◌%◌, ◌^◌, ◌≤◌, ◌<◌}
use Rattle.std.proofs.Math.Decide.{dec_lt, ℕ_discrete}
use Rattle.std.specs.Int.Bits.{bit_and}
use Rattle.bits.specs.Digits.{bit, parity}
use Rattle.bits.specs.Bit.{bit-lt, parity-pow}
use Rattle.bits.specs.Parity.{parity-xor-and, parity-times, parity-lt, parity-0}
use Rattle.slices.specs.Places.{at}
use Rattle.sums.specs.Sums.{one}
use Rattle.block.specs.Basis.{columns}
use Rattle.block.specs.Text.{decimal, equal}
use Rattle.matrix_laws.specs.Linear.{columns-units}
use Rattle.read_laws.specs.Tests.{equal-same}
use Rattle.block.specs.Covers.{Cover, matches, covered, bound, evaluated}
use Rattle.block.specs.Model.{x_name, z_name, part_name, inputs_of, chain, row_covers, front_covers}
use Rattle.model_laws.specs.Names.{name-apart, whole_part}

-- ---- one cover after others

pub evaluated-append : (cs ds : List Cover) (env : List ℕ → ℕ) (m : List ℕ)
    → evaluated env (cs ++ ds) m ≡ evaluated (evaluated env cs) ds m
unfolding evaluated
evaluated-append [] ds env m = refl
evaluated-append (c ∷ cs) ds env m = evaluated-append cs ds (bound c.output (one (covered env c.inputs c.cubes)) env) m

-- ---- a copy and an XOR

pub digit-go : (P : ℕ → Type 0) → P 0 → P 1 → (d : ℕ) → d < 2 → P d
digit-go P a b zero h = a
digit-go P a b (suc zero) h = b
digit-go P a b (suc (suc d)) h = absurd (omega arith)

copy_covered : (env : List ℕ → ℕ) (m : List ℕ) → env m < 2 → one (covered env (m ∷ []) ((49 ∷ []) ∷ [])) ≡ env m
unfolding covered matches
copy_covered env m h = go (env m) h
  where
    go : (d : ℕ) → d < 2 → one (((eqb 49 45 || eqb 49 (48 + d)) && true) || false) ≡ d
    go = digit-go (λ d. one (((eqb 49 45 || eqb 49 (48 + d)) && true) || false) ≡ d) refl refl

abbrev XorDigit : ℕ → ℕ → Type 0
XorDigit a b =
    one (((eqb 48 45 || eqb 48 (48 + a)) && ((eqb 49 45 || eqb 49 (48 + b)) && true))
    || (((eqb 49 45 || eqb 49 (48 + a)) && ((eqb 48 45 || eqb 48 (48 + b)) && true)) || false)) ≡ (a + b) % 2

xor-covered : (env : List ℕ → ℕ) (m l : List ℕ) → env m < 2 → env l < 2
    → one (covered env (m ∷ l ∷ []) ((48 ∷ 49 ∷ []) ∷ (49 ∷ 48 ∷ []) ∷ [])) ≡ (env m + env l) % 2
unfolding covered matches
xor-covered env m l h k = go (env m) h (env l) k
  where
    go : (a : ℕ) → a < 2 → (b : ℕ) → b < 2 → XorDigit a b
    go = digit-go (λ a. (b : ℕ) → b < 2 → XorDigit a b) (digit-go (XorDigit 0) refl refl) (digit-go (XorDigit 1) refl refl)

-- ---- chains

-- v and the inputs' values, added modulo 2
unfoldable pub added : (ℕ → ℕ) → ℕ → List ℕ → ℕ
added f v [] = v
added f v (b ∷ bs) = added f ((v + f b) % 2) bs

-- the values of the inputs are f's, each 0 or 1
pub record InputValues (env : List ℕ → ℕ) (f : ℕ → ℕ) : Type 0 where
  pub is : (a : ℕ) → env (x_name a) ≡ f a
  pub small : (a : ℕ) → f a < 2

-- a name that begins with z may be defined
inputs-kept : (env : List ℕ → ℕ) (f : ℕ → ℕ) (s : List ℕ) (v : ℕ) → InputValues env f → InputValues (bound (122 ∷ s) v env) f
unfolding equal
inputs-kept env f s v h = record { is = λ a. h.is a; small = h.small }

module _ (f : ℕ → ℕ) (i : ℕ) where
  chain-value : (b : ℕ) (bs : List ℕ) (p : ℕ) (from : List ℕ) (env : List ℕ → ℕ) → InputValues env f → env from < 2
      → evaluated env (chain i from p (b ∷ bs)) (z_name i) ≡ added f (env from) (b ∷ bs)
  unfolding evaluated chain added
  chain-value b [] p from env h l =
      rw (equal-same (z_name i)) (xor-covered env from (x_name b) l (rw (h.is b) (h.small b)) ∙ rw (h.is b))
  chain-value b (c ∷ bs) p from env h l =
      let v : ℕ = one (covered env (from ∷ x_name b ∷ []) ((48 ∷ 49 ∷ []) ∷ (49 ∷ 48 ∷ []) ∷ [])) in
      let e : v ≡ (env from + f b) % 2 = xor-covered env from (x_name b) l (rw (h.is b) (h.small b)) ∙ rw (h.is b) in
      let g : bound (part_name i p) v env (part_name i p) ≡ (env from + f b) % 2 = rw (equal-same (part_name i p)) e in
      chain-value c bs (suc p) (part_name i p) (bound (part_name i p) v env) (inputs-kept env f (decimal i ++ (95 ∷ decimal p)) v h)
      (rw g (omega arith))
      ∙ ap (λ (x : ℕ). added f x (c ∷ bs)) g

  -- a row's covers leave zi with the sum of its inputs
  row-value : (us : List ℕ) (env : List ℕ → ℕ) → InputValues env f → env (z_name i) ≡ 0
      → evaluated env (row_covers i us) (z_name i) ≡ added f 0 us
  unfolding evaluated row_covers added
  row-value [] env h e = e
  row-value (a ∷ []) env h e =
      let t : (0 + f a) % 2 ≡ f a = omega (arith, h.small a) in
      rw (equal-same (z_name i), t) (copy_covered env (x_name a) (rw (h.is a) (h.small a)) ∙ h.is a)
  row-value (a ∷ b ∷ bs) env h e =
      let t : (0 + f a) % 2 ≡ f a = omega (arith, h.small a) in
      chain-value b bs 1 (x_name a) env h (rw (h.is a) (h.small a))
      ∙ ap (λ (v : ℕ). added f v (b ∷ bs)) (h.is a ∙ sym t)

-- ---- other names keep their values

-- m is defined by no cover of the list
unfoldable pub Kept : List ℕ → List Cover → Type 0
Kept m [] = Unit
Kept m (c ∷ cs) = (equal m c.output ≡ false) × Kept m cs

pub kept : (m : List ℕ) (cs : List Cover) (env : List ℕ → ℕ) → Kept m cs → evaluated env cs m ≡ env m
unfolding evaluated Kept
kept m [] env h = refl
kept m (c ∷ cs) env h = kept m cs _ h.1 ∙ rw h.0

-- a name that is neither zi nor a part of it is kept by row i
module _ (m : List ℕ) (i : ℕ) (whole : equal m (z_name i) ≡ false) (part : (p : ℕ) → equal m (part_name i p) ≡ false) where
  chain-kept : (bs : List ℕ) (from : List ℕ) (p : ℕ) → Kept m (chain i from p bs)
  unfolding Kept chain
  chain-kept [] from p = tt
  chain-kept (b ∷ []) from p = (whole, tt)
  chain-kept (b ∷ c ∷ bs) from p = (part p, chain-kept (c ∷ bs) (part_name i p) (suc p))

  row_kept : (us : List ℕ) → Kept m (row_covers i us)
  unfolding Kept row_covers
  row_kept [] = tt
  row_kept (a ∷ []) = (whole, tt)
  row_kept (a ∷ b ∷ bs) = chain-kept (b ∷ bs) (x_name a) 1

-- the inputs are kept by every row
pub inputs-front : (n : ℕ) (s : ℕ → ℕ) (i a : ℕ) (env : List ℕ → ℕ) → evaluated env (front_covers n s i) (x_name a) ≡ env (x_name a)
unfolding front_covers evaluated equal
inputs-front n s zero a env = refl
inputs-front n s (suc i) a env =
    evaluated-append (front_covers n s i) (row_covers i (inputs_of n (s i))) env (x_name a)
    ∙ kept (x_name a) (row_covers i (inputs_of n (s i))) _ (row_kept (x_name a) i refl (λ p. refl) (inputs_of n (s i)))
    ∙ inputs-front n s i a env

-- ---- a row's inputs and its parity

added_more : (f : ℕ → ℕ) (v : ℕ) (us : List ℕ) (b : ℕ) → added f v (us ++ (b ∷ [])) ≡ (added f v us + f b) % 2
unfolding added
added_more f v [] b = refl
added_more f v (a ∷ us) b = added_more f ((v + f a) % 2) us b

parity-inputs : (f : ℕ → ℕ) (n v x : ℕ) → ((a : ℕ) → a < n → f a ≡ bit x a)
    → parity (bit_and (columns (λ j. 2 ^ j) n v) x) ≡ added f 0 (inputs_of n v)
unfolding columns inputs_of added
parity-inputs f zero v x is = parity-0
parity-inputs f (suc n) v x is =
    let ih = parity-inputs f n v x (λ a l. is a (omega arith)) in
    parity-xor-and (2 ^ n * bit v n) (columns (λ j. 2 ^ j) n v) x
    ∙ ap₂ (λ (a b : ℕ). (a + b) % 2)
    (parity-times (2 ^ n) (bit v n) x (bit-lt v n) ∙ ap (λ (a : ℕ). a * bit v n) (parity-pow n x ∙ sym (is n (omega arith)))) ih
    ∙ go (rw ih at (parity-lt (bit_and (columns (λ j. 2 ^ j) n v) x))) (bit v n) (bit-lt v n)
  where
    t : ℕ
    t = added f 0 (inputs_of n v)

    go : t < 2 → (d : ℕ) → d < 2 → (f n * d + t) % 2 ≡ added f 0 (inputs_of n v ++ cond (eqb d 0) [] (n ∷ []))
    go l zero h =
        let e : (f n * 0 + t) % 2 ≡ t = omega arith in
        e ∙ ap (added f 0) (sym (append-nil (inputs_of n v)))
    go l (suc zero) h =
        let e : (f n * 1 + t) % 2 ≡ (t + f n) % 2 = omega arith in
        e ∙ sym (added_more f 0 (inputs_of n v) n)
    go l (suc (suc d)) h = absurd (omega arith)

-- ---- the front: zi is the parity of (row i AND x)

module _ (n : ℕ) (s : ℕ → ℕ) (x : ℕ) (f : ℕ → ℕ) (env : List ℕ → ℕ) (h : InputValues env f) (bits : (a : ℕ) → a < n → f a ≡ bit x a)
    (zeros : (j : ℕ) → env (z_name j) ≡ 0) where
  pub front-value : (i j : ℕ) → i ≤ n → n < 1000 → j < 1000 → ((l : ℕ) → l < n → s l < 2 ^ n)
      → evaluated env (front_covers n s i) (z_name j) ≡ cond (ltb j i) (parity (bit_and (s j) x)) 0
  unfolding front_covers evaluated
  front-value zero j l hn hj below = zeros j ∙ rw (le-ltb j 0 (omega arith))
  front-value (suc i) j l hn hj below =
      evaluated-append (front_covers n s i) (row_covers i (inputs_of n (s i))) env (z_name j) ∙ go (ℕ_discrete j i)
      (λ j hj. front-value i j (omega arith) hn hj below)
    where
      e : List ℕ → ℕ
      e = evaluated env (front_covers n s i)

      kept-inputs : InputValues e f
      kept-inputs = record { is = λ a. inputs-front n s i a env ∙ h.is a; small = h.small }

      go : Dec (j ≡ i) → ((j : ℕ) → j < 1000 → e (z_name j) ≡ cond (ltb j i) (parity (bit_and (s j) x)) 0)
          → evaluated e (row_covers i (inputs_of n (s i))) (z_name j) ≡ cond (ltb j (suc i)) (parity (bit_and (s j) x)) 0
      go (yes q) ih =
          rw (q, lt-ltb i (suc i) (omega arith))
          (row-value f i (inputs_of n (s i)) e kept-inputs (ih i (omega arith) ∙ rw (le-ltb i i (omega arith)))
          ∙ sym (parity-inputs f n (s i) x bits)
          ∙ ap (λ (v : ℕ). parity (bit_and v x)) (columns-units n (s i) ∙ mod-eq_of_lt (below i (omega arith))))
      go (no q) ih =
          kept (z_name j) (row_covers i (inputs_of n (s i))) e
          (row_kept (z_name j) i (name-apart 122 j i hj (omega arith) q) (λ p. whole_part j i p) (inputs_of n (s i)))
          ∙ ih j hj
          ∙ ap (λ (b : Bool). cond b (parity (bit_and (s j) x)) 0) (same (dec_lt j i))
        where
          same : Dec (j < i) → ltb j i ≡ ltb j (suc i)
          same (yes b) = lt-ltb j i b ∙ sym (lt-ltb j (suc i) (omega arith))
          same (no b) = le-ltb j i (omega arith) ∙ sym (le-ltb j (suc i) (omega arith))
