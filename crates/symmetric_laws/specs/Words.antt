-- Symmetric tables and their words: the test says what `Symmetric` means, a table made of words passes it, and a table that passes
-- it is made of exactly one list of words. Assumes nothing.
use Rattle.std.specs.Prelude.{◌≡◌, refl, true, not, List, ℕ, zero, suc, ◌+◌, ◌-◌, ◌*◌, ◌/◌, ◌%◌, ◌^◌, ◌≤◌, ◌<◌, length, get_or}
use Rattle.std.proofs.Common.{sym, ap, ◌∙◌, mul-add, arith, eqb-true, eq-eqb, pow_pos, pow_mono, ext_get_or}
use Rattle.std.proofs.Math.Decide.{dec_lt}
use Rattle.std.proofs.lemmas.Bool.{not-false}
use Rattle.std.proofs.Math.Arith.{bin_ind}
use Rattle.std.specs.Int.Count.{ones, ones-ones}
use Rattle.std.proofs.lemmas.Nat.{ones-le, ones_cat}
use Rattle.slices.specs.Filled.{tab-at, length-tab}
use Rattle.slices.specs.Least.{first-is, first_below}
use Rattle.block.specs.Words.{none, of_table}
use Rattle.block.specs.Symmetric.{of_counts, symmetric_table, least_of, alike, is_symmetric, Symmetric, count_words}
use Rattle.symmetric_laws.specs.Slices.{power-more}
use Rattle.symmetric_laws.specs.Blocks.{least_lt, counts-symmetric}

-- the test passes where the words depend on the number of one-bits alone ..
pub symmetric-passes : (table : List ℕ) (n : ℕ) → Symmetric (of_table table) n → is_symmetric table n ≡ true
unfolding is_symmetric
symmetric-passes table n s =
    eq-eqb _ (2 ^ n)
    (first-is (2 ^ n) (λ x. not (alike table x)) (2 ^ n) (omega arith)
    (λ x h.
    ap not
    (eq-eqb _ _ (s x (least_of (ones x)) h (least_lt n (ones x) (ones-le n x h)) (sym (ones-ones (ones x))))))
    (λ h. absurd (omega arith)))

-- .. and only there
pub passes-symmetric : (table : List ℕ) (n : ℕ) → is_symmetric table n ≡ true → Symmetric (of_table table) n
unfolding is_symmetric
passes-symmetric table n e x y hx hy d = to-least x hx ∙ ap (λ (c : ℕ). of_table table (least_of c)) d ∙ sym (to-least y hy)
  where
    to-least : (x : ℕ) → x < 2 ^ n → of_table table x ≡ of_table table (least_of (ones x))
    to-least x h =
        eqb-true _ _
        (not-false _ (first_below (2 ^ n) (λ x. not (alike table x)) x (omega (arith, eqb-true _ (2 ^ n) e))))

-- the table of words, by its entries
pub table_at : (words : List ℕ) (n x : ℕ) → x < 2 ^ n → of_table (symmetric_table words n) x ≡ of_counts words x
unfolding symmetric_table
table_at words n x h = tab-at (2 ^ n) (of_counts words) none x h

pub length-symmetric : (words : List ℕ) (n : ℕ) → length (symmetric_table words n) ≡ 2 ^ n
unfolding symmetric_table
length-symmetric words n = length-tab (2 ^ n) (of_counts words)

pub table-symmetric : (words : List ℕ) (n : ℕ) → Symmetric (of_table (symmetric_table words n)) n
table-symmetric words n x y hx hy e = table_at words n x hx ∙ counts-symmetric words n x y hx hy e ∙ sym (table_at words n y hy)

-- what is made of words is called symmetric
pub made-symmetric : (words : List ℕ) (n : ℕ) → is_symmetric (symmetric_table words n) n ≡ true
made-symmetric words n = symmetric-passes (symmetric_table words n) n (table-symmetric words n)

-- a symmetric table is made of its words ..
pub words-made : (table : List ℕ) (n : ℕ) → length table ≡ 2 ^ n → Symmetric (of_table table) n
    → symmetric_table (count_words (of_table table) n) n ≡ table
unfolding count_words
words-made table n l s =
    ext_get_or none _ table (length-symmetric _ n ∙ sym l)
    (λ x h.
    let b : x < 2 ^ n = rw (length-symmetric (count_words (of_table table) n) n) at h in
    table_at (count_words (of_table table) n) n x b
    ∙ tab-at (n + 1) (λ c. of_table table (least_of c)) none (ones x) (omega (arith, ones-le n x b))
    ∙ sym (s x (least_of (ones x)) b (least_lt n (ones x) (ones-le n x b)) (sym (ones-ones (ones x)))))

-- .. and of no others
pub made-words : (words : List ℕ) (n : ℕ) → length words ≡ n + 1 → count_words (of_table (symmetric_table words n)) n ≡ words
unfolding count_words
made-words words n l =
    ext_get_or none _ words (length-tab (n + 1) _ ∙ sym l)
    (λ c h.
    let b : c < n + 1 = rw (length-tab (n + 1)) at h in
    tab-at (n + 1) (λ c. of_table (symmetric_table words n) (least_of c)) none c b
    ∙ table_at words n (least_of c) (least_lt n c (omega arith))
    ∙ ap (λ (i : ℕ). get_or words i none) (ones-ones c))

pub words-unique : (u v : List ℕ) (n : ℕ) → length u ≡ n + 1 → length v ≡ n + 1 → symmetric_table u n ≡ symmetric_table v n → u ≡ v
words-unique u v n hu hv e = sym (made-words u n hu) ∙ ap (λ (t : List ℕ). count_words (of_table t) n) e ∙ made-words v n hv

-- ---- the test by the lowest zero: a number has as many one-bits without it

-- the number with a above its lowest zero, which stands at k, and the number without that zero
abbrev pub with_zero : ℕ → ℕ → ℕ
with_zero k a = a * 2 ^ (k + 1) + (2 ^ k - 1)

abbrev pub without_zero : ℕ → ℕ → ℕ
without_zero k a = a * 2 ^ k + (2 ^ k - 1)

pub ones-without : (k a : ℕ) → ones (with_zero k a) ≡ ones (without_zero k a)
ones-without k a =
    ones_cat (k + 1) a (2 ^ k - 1) (omega (arith, pow_pos k, power-more k))
    ∙ sym (ones_cat k a (2 ^ k - 1) (omega (arith, pow_pos k)))

twice : (a k : ℕ) → a * 2 ^ (k + 1) ≡ a * 2 ^ k + a * 2 ^ k
twice a k = ap (λ (p : ℕ). a * p) (power-more k) ∙ mul-add a (2 ^ k) (2 ^ k)

-- every number has a lowest zero
lowest-zero : (x : ℕ) → (k : ℕ) × (a : ℕ) × (x ≡ with_zero k a)
lowest-zero = bin_ind (λ x. (k : ℕ) × (a : ℕ) × (x ≡ with_zero k a)) (0, 0, refl) (λ x ih. go x ih (dec_lt 0 (x % 2)))
  where
    go : (x : ℕ) → (k : ℕ) × (a : ℕ) × (x / 2 ≡ with_zero k a) → Dec (0 < x % 2) → (k : ℕ) × (a : ℕ) × (x ≡ with_zero k a)
    go x (k, a, e) (no h) = (0, x / 2, omega arith)
    go x (k, a, e) (yes h) =
        (k + 1, a, omega (arith, e, twice a (k + 1), pow_pos k, power-more k))

power_below : (k n : ℕ) → 2 ^ k < 2 ^ n → k < n
power_below k n h = go (dec_lt k n)
  where
    go : Dec (k < n) → k < n
    go (yes l) = l
    go (no l) = let above : 2 ^ n ≤ 2 ^ k = pow_mono (omega arith) in absurd (omega arith)

-- where no entry differs from the one without the lowest zero, the table is symmetric
pub kept-symmetric : (table : List ℕ) (n : ℕ)
    → ((k a : ℕ) → k < n → with_zero k a < 2 ^ n → of_table table (with_zero k a) ≡ of_table table (without_zero k a)) → is_symmetric table n ≡ true
kept-symmetric table n kept =
    symmetric-passes table n
    (λ x y hx hy e. least (x + 1) x (omega arith) hx ∙ ap (λ (c : ℕ). f (least_of c)) e ∙ sym (least (y + 1) y (omega arith) hy))
  where
    f : ℕ → ℕ
    f = of_table table

    least : (m x : ℕ) → x < m → x < 2 ^ n → f x ≡ f (least_of (ones x))
    least zero x h b = absurd (omega arith)
    least (suc m) x h b = go (λ y l c. least m y l c) (lowest-zero x)
      where
        go : ((y : ℕ) → y < m → y < 2 ^ n → f y ≡ f (least_of (ones y))) → (k : ℕ) × (a : ℕ) × (x ≡ with_zero k a) → f x ≡ f (least_of (ones x))
        go ih (k, zero, e) =
            let d : x ≡ least_of k = omega (arith, e) in
            ap f (d ∙ sym (ap least_of (ap ones d ∙ ones-ones k)))
        go ih (k, suc a, e) =
            let t = twice (suc a) k in
            let p : 2 ^ k ≤ suc a * 2 ^ k = omega arith in
            let q : without_zero k (suc a) < x = omega (arith, e, t, pow_pos k) in
            let w : with_zero k (suc a) < 2 ^ n = rw e at b in
            let l : k < n = power_below k n (omega (arith, t, pow_pos k)) in
            ap f e ∙ kept k (suc a) l w ∙ ih (without_zero k (suc a)) (omega arith) (omega arith)
            ∙ ap (λ (c : ℕ). f (least_of c)) (sym (ap ones e ∙ ones-without k (suc a)))
