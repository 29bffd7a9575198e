-- Laws of sums and counts over a range: one term more; equal terms; bounds; sums of sums; even and odd places; one place alone;
-- places that are only moved; what a count of 0, or another, says; the entries of a list; a square of terms; blocks of terms;
-- terms in pairs. Assumes nothing.
use Rattle.std.specs.Prelude.{◌≡◌, refl, Bool, true, false, ◌&&◌, cond, ℕ, zero, suc, ◌+◌, ◌*◌, ◌≤◌, ◌<◌, ◌-◌, List, ◌++◌, eqb, ltb, leb, length, get_or}
use Rattle.std.proofs.Common.{sym, ap, ap₂, ◌∙◌, subst, mul-zero, mul-one, zero-mul, add-zero, add-suc, add-one, arith, eq-eqb, ne_eqb, lt-ltb, le-ltb, le-leb, length-append, get_or-append-add}
use Rattle.std.proofs.Math.Decide.{dec_lt, ℕ_discrete}
use Rattle.std.proofs.lemmas.Bool.{lt-leb}
use Rattle.std.proofs.Math.ListN.{get_or-append}
use Rattle.sums.specs.Sums.{sum, one, count}

pub sum-zero : (f : ℕ → ℕ) → sum f 0 ≡ 0
unfolding sum
sum-zero f = refl

pub sum-suc : (f : ℕ → ℕ) (m : ℕ) → sum f (suc m) ≡ sum f m + f m
unfolding sum
sum-suc f m = refl

pub sum_more : (f : ℕ → ℕ) (m : ℕ) → sum f (m + 1) ≡ sum f m + f m
unfolding sum
sum_more f m = rw add-one

pub sum-cong : (f g : ℕ → ℕ) (m : ℕ) → ((i : ℕ) → i < m → f i ≡ g i) → sum f m ≡ sum g m
unfolding sum
sum-cong f g zero h = refl
sum-cong f g (suc m) h = ap₂ ◌+◌ (sum-cong f g m (λ i hi. h i (omega arith))) (h m (omega arith))

pub sum-none : (f : ℕ → ℕ) (m : ℕ) → ((i : ℕ) → i < m → f i ≡ 0) → sum f m ≡ 0
unfolding sum
sum-none f zero h = refl
sum-none f (suc m) h = omega (arith, sum-none f m (λ i hi. h i (omega arith)), h m (omega arith))

pub sum-le : (f : ℕ → ℕ) (b m : ℕ) → ((i : ℕ) → i < m → f i ≤ b) → sum f m ≤ m * b
unfolding sum
sum-le f b zero h = omega arith
sum-le f b (suc m) h = omega (arith, sum-le f b m (λ i hi. h i (omega arith)), h m (omega arith))

pub sum-const : (k m : ℕ) → sum (λ _. k) m ≡ m * k
unfolding sum
sum-const k zero = omega arith
sum-const k (suc m) = omega (arith, sum-const k m)

-- terms no greater add no more
pub sum-terms : (f g : ℕ → ℕ) (m : ℕ) → ((i : ℕ) → i < m → f i ≤ g i) → sum f m ≤ sum g m
unfolding sum
sum-terms f g zero h = omega arith
sum-terms f g (suc m) h = omega (arith, sum-terms f g m (λ i hi. h i (omega arith)), h m (omega arith))

pub sum-add : (f g : ℕ → ℕ) (m : ℕ) → sum (λ i. f i + g i) m ≡ sum f m + sum g m
unfolding sum
sum-add f g zero = refl
sum-add f g (suc m) = omega (arith, sum-add f g m)

pub sum-mul : (f : ℕ → ℕ) (k m : ℕ) → sum (λ i. f i * k) m ≡ sum f m * k
unfolding sum
sum-mul f k zero = omega arith
sum-mul f k (suc m) = omega (arith, sum-mul f k m)

pub sum-swap : (f : ℕ → ℕ → ℕ) (a b : ℕ) → sum (λ i. sum (f i) b) a ≡ sum (λ j. sum (λ i. f i j) a) b
unfolding sum
sum-swap f zero b = sym (sum-none (λ j. 0) b (λ i hi. refl))
sum-swap f (suc a) b = ap (λ (x : ℕ). x + sum (f a) b) (sum-swap f a b) ∙ sym (sum-add (λ j. sum (λ i. f i j) a) (f a) b)

-- the even and the odd places apart
pub sum-pairs : (f : ℕ → ℕ) (m : ℕ) → sum f (m * 2) ≡ sum (λ y. f (y * 2) + f (y * 2 + 1)) m
unfolding sum
sum-pairs f zero = refl
sum-pairs f (suc m) = rw (twice m, sum-suc, sum-suc, sum-pairs f m, add-one) (omega arith)
  where
    twice : (m : ℕ) → suc m * 2 ≡ suc (suc (m * 2))
    twice m = omega arith

-- one place alone
pub sum_one : (f : ℕ → ℕ) (m k : ℕ) → k < m → ((i : ℕ) → i < m → (i ≡ k → ⊥) → f i ≡ 0) → sum f m ≡ f k
sum_one f zero k hk h = absurd (omega arith)
sum_one f (suc m) k hk h = sum-suc f m ∙ go (λ l. sum_one f m k l (λ i hi. h i (omega arith))) (dec_lt k m)
  where
    last : ¬ (k < m) → m ≡ k
    last n = omega arith

    go : (k < m → sum f m ≡ f k) → Dec (k < m) → sum f m + f m ≡ f k
    go ih (yes l) = omega (arith, ih l, h m (omega arith) (omega arith))
    go ih (no n) = omega (arith, sum-none f m (λ i hi. h i (omega arith) (omega arith)), ap f (last n))

pub one-le : (b : Bool) → one b ≤ 1
one-le true = omega arith
one-le false = omega arith

pub count-le : (p : ℕ → Bool) (m : ℕ) → count p m ≤ m
unfolding count
count-le p m = omega (arith, sum-le (λ x. one (p x)) 1 m (λ i hi. one-le (p i)))

-- a count of 0 says that none passes, and any other that one does
pub count_none : (p : ℕ → Bool) (m : ℕ) → count p m ≡ 0 → (x : ℕ) → x < m → p x ≡ false
unfolding count sum
count_none p zero e x h = absurd (omega arith)
count_none p (suc m) e x h = go (λ l. count_none p m (omega arith) x l) (dec_lt x m)
  where
    no_one : (b : Bool) → one b ≡ 0 → b ≡ false
    no_one true e = absurd (omega arith)
    no_one false e = refl

    go : (x < m → p x ≡ false) → Dec (x < m) → p x ≡ false
    go ih (yes l) = ih l
    go ih (no n) = ap p (last n) ∙ no_one (p m) (omega arith)
      where
        last : ¬ (x < m) → x ≡ m
        last n = omega arith

pub count-some : (p : ℕ → Bool) (m : ℕ) → 0 < count p m → (x : ℕ) × (x < m) × (p x ≡ true)
unfolding count sum
count-some p zero h = absurd (omega arith)
count-some p (suc m) h = go (λ l. count-some p m l) (p m) refl
  where
    go : (0 < count p m → (x : ℕ) × (x < m) × (p x ≡ true)) → (b : Bool) → p m ≡ b → (x : ℕ) × (x < suc m) × (p x ≡ true)
    go ih true e = (m, omega arith, e)
    go ih false e = let w = ih (omega (arith, ap one e)) in (w.0, omega (arith, w.1), w.2)

-- a sum over places that are only moved: p and q undo each other below m
pub sum_moved : (f p q : ℕ → ℕ) (m : ℕ) → ((z : ℕ) → z < m → p z < m) → ((x : ℕ) → x < m → q x < m)
    → ((z : ℕ) → z < m → q (p z) ≡ z) → ((x : ℕ) → x < m → p (q x) ≡ x) → sum (λ z. f (p z)) m ≡ sum f m
sum_moved f p q m hp hq qp pq =
    sum-cong (λ z. f (p z)) (λ z. sum (λ x. f x * one (eqb x (p z))) m) m
    (λ z hz.
    sym
    (sum_one (λ x. f x * one (eqb x (p z))) m (p z) (hp z hz) (λ x hx n. rw (ne_eqb x (p z) n) (mul-zero (f x)))
    ∙ rw (eq-eqb (p z) (p z) refl) (mul-one (f (p z)))))
    ∙ sum-swap (λ z x. f x * one (eqb x (p z))) m m
    ∙ sum-cong (λ x. sum (λ z. f x * one (eqb x (p z))) m) f m
    (λ x hx.
    sum_one (λ z. f x * one (eqb x (p z))) m (q x) (hq x hx)
    (λ z hz n. rw (ne_eqb x (p z) (λ e. n (sym (ap q e ∙ qp z hz)))) (mul-zero (f x)))
    ∙ rw (eq-eqb x (p (q x)) (sym (pq x hx))) (mul-one (f x)))

-- a count by its parts
pub count-zero : (p : ℕ → Bool) → count p 0 ≡ 0
unfolding count
count-zero p = sum-zero (λ x. one (p x))

pub count-more : (p : ℕ → Bool) (m : ℕ) → count p (m + 1) ≡ count p m + one (p m)
unfolding count
count-more p m = sum_more (λ x. one (p x)) m

pub count-cong : (p q : ℕ → Bool) (m : ℕ) → ((i : ℕ) → i < m → p i ≡ q i) → count p m ≡ count q m
unfolding count
count-cong p q m h = sum-cong (λ x. one (p x)) (λ x. one (q x)) m (λ i l. ap one (h i l))

-- both tests as a product
pub one-and : (p q : Bool) → one (p && q) ≡ one p * one q
one-and true true = refl
one-and true false = refl
one-and false q = sym (zero-mul (one q))

-- what holds at each place below k, and at k, holds at each place below k + 1
pub below_suc : (P : ℕ → Type 0) (k : ℕ) → ((i : ℕ) → i < k → P i) → P k → (i : ℕ) → i < suc k → P i
below_suc P k f p i h = go (dec_lt i k)
  where
    go : Dec (i < k) → P i
    go (yes l) = f i l
    go (no n) = subst P (last n) p
      where
        last : ¬ (i < k) → k ≡ i
        last n = omega arith

-- the first a terms, and the b behind them
pub sum-split : (f : ℕ → ℕ) (a b : ℕ) → sum f (a + b) ≡ sum f a + sum (λ i. f (a + i)) b
unfolding sum
sum-split f a zero = rw (add-zero a) (omega arith)
sum-split f a (suc b) = rw (add-suc a b) (omega (arith, sum-split f a b))

-- more terms add no less
pub sum_mono : (f : ℕ → ℕ) (a b : ℕ) → a ≤ b → sum f a ≤ sum f b
sum_mono f a b h = omega (arith, sum-split f a (b - a), ap (sum f) whole)
  where
    whole : a + (b - a) ≡ b
    whole = omega arith

-- a sum over the entries of a list, by its parts
pub sum-append {ℓ} : {A : Type ℓ} (f : A → ℕ) (d : A) (s t : List A)
    → sum (λ i. f (get_or (s ++ t) i d)) (length (s ++ t)) ≡ sum (λ i. f (get_or s i d)) (length s) + sum (λ i. f (get_or t i d)) (length t)
sum-append f d s t =
    ap (sum (λ i. f (get_or (s ++ t) i d))) (length-append s t)
    ∙ sum-split (λ i. f (get_or (s ++ t) i d)) (length s) (length t)
    ∙ ap₂ ◌+◌ (sum-cong _ _ (length s) (λ i h. ap f (get_or-append s t d i h)))
    (sum-cong _ _ (length t) (λ i h. ap f (get_or-append-add s t i d)))

square-add : (g h : ℕ → ℕ → ℕ) (m : ℕ)
    → sum (λ i. sum (λ j. g i j + h i j) m) m ≡ sum (λ i. sum (g i) m) m + sum (λ i. sum (h i) m) m
square-add g h m = sum-cong _ _ m (λ i l. sum-add (g i) (h i) m) ∙ sum-add (λ i. sum (g i) m) (λ i. sum (h i) m) m

-- a square of terms that are the same both ways: those from the diagonal on, doubled off it
pub sum-square : (f : ℕ → ℕ → ℕ) (m : ℕ) → ((i j : ℕ) → i < m → j < m → f i j ≡ f j i)
    → sum (λ i. sum (f i) m) m ≡ sum (λ i. sum (λ j. cond (leb i j) (f i j * cond (eqb i j) 1 2) 0) m) m
sum-square f m turn =
    sum-cong _ _ m (λ i hi. sum-cong _ _ m (λ j hj. whole i j))
    ∙ square-add upper (λ i j. lower i j + middle i j) m
    ∙ ap (λ (x : ℕ). sum (λ i. sum (upper i) m) m + x)
    (square-add lower middle m ∙ ap (λ (x : ℕ). x + sum (λ i. sum (middle i) m) m) turned ∙ sym (square-add upper middle m))
    ∙ sym (square-add upper (λ i j. upper i j + middle i j) m)
    ∙ sum-cong _ _ m (λ i hi. sum-cong _ _ m (λ j hj. sym (halved i j)))
  where
    upper : ℕ → ℕ → ℕ
    upper i j = cond (ltb i j) (f i j) 0

    lower : ℕ → ℕ → ℕ
    lower i j = cond (ltb j i) (f i j) 0

    middle : ℕ → ℕ → ℕ
    middle i j = cond (eqb i j) (f i j) 0

    whole : (i j : ℕ) → f i j ≡ upper i j + (lower i j + middle i j)
    whole i j = go (dec_lt i j) (ℕ_discrete i j)
      where
        go : Dec (i < j) → Dec (i ≡ j) → f i j ≡ upper i j + (lower i j + middle i j)
        go (yes l) d = rw (lt-ltb i j l, le-ltb j i (omega arith), ne_eqb i j (omega arith)) (omega arith)
        go (no n) (yes e) = rw (le-ltb i j (omega arith), le-ltb j i (omega arith), eq-eqb i j e) (omega arith)
        go (no n) (no k) = rw (le-ltb i j (omega arith), lt-ltb j i (omega arith), ne_eqb i j k) (omega arith)

    halved : (i j : ℕ) → cond (leb i j) (f i j * cond (eqb i j) 1 2) 0 ≡ upper i j + (upper i j + middle i j)
    halved i j = go (dec_lt i j) (ℕ_discrete i j)
      where
        go : Dec (i < j) → Dec (i ≡ j) → cond (leb i j) (f i j * cond (eqb i j) 1 2) 0 ≡ upper i j + (upper i j + middle i j)
        go (yes l) d = rw (lt-ltb i j l, le-leb i j (omega arith), ne_eqb i j (omega arith)) (omega arith)
        go (no n) (yes e) = rw (le-ltb i j (omega arith), le-leb i j (omega arith), eq-eqb i j e) (omega arith)
        go (no n) (no k) = rw (le-ltb i j (omega arith), lt-leb i j (omega arith), ne_eqb i j k) (omega arith)

    turned : sum (λ i. sum (lower i) m) m ≡ sum (λ i. sum (upper i) m) m
    turned =
        sum-swap lower m m
        ∙ sum-cong _ _ m
        (λ j hj. sum-cong _ _ m (λ i hi. ap (λ (x : ℕ). cond (ltb j i) x 0) (turn i j hi hj)))

-- more numbers pass no fewer
pub count-mono : (p : ℕ → Bool) (a b : ℕ) → a ≤ b → count p a ≤ count p b
unfolding count
count-mono p a b h = sum_mono (λ x. one (p x)) a b h

-- where no two numbers pass, the count is at most 1
pub count-once : (p : ℕ → Bool) (m : ℕ) → ((i j : ℕ) → i < m → j < m → p i ≡ true → p j ≡ true → i ≡ j) → count p m ≤ 1
unfolding count sum
count-once p zero h = omega arith
count-once p (suc m) h = go (p m) refl (count-once p m (λ i j a b. h i j (omega arith) (omega arith)))
  where
    alone : p m ≡ true → (i : ℕ) → i < m → one (p i) ≡ 0
    alone e i l = at (p i) refl
      where
        at : (b : Bool) → p i ≡ b → one b ≡ 0
        at true d = absurd (omega (arith, h i m (omega arith) (omega arith) d e))
        at false d = refl

    go : (b : Bool) → p m ≡ b → count p m ≤ 1 → count p m + one b ≤ 1
    go true e ih = omega (arith, sum-none (λ x. one (p x)) m (alone e))
    go false e ih = omega arith

-- and the other way round
pub count_same : (p : ℕ → Bool) (m : ℕ) → count p m ≤ 1 → (i j : ℕ) → i < m → j < m → p i ≡ true → p j ≡ true → i ≡ j
count_same p m h i j hi hj a b = go (dec_lt i j) (dec_lt j i)
  where
    two : (i j : ℕ) → i < j → j < m → p i ≡ true → p j ≡ true → 2 ≤ count p m
    two i j l hj a b =
        omega (
          arith,
          count-mono p (suc i) j l,
          count-mono p (suc j) m hj,
          count-more p i,
          count-more p j,
          ap one a,
          ap one b,
          add-one i,
          ap (count p) (add-one i),
          ap (count p) (add-one j),
        )

    go : Dec (i < j) → Dec (j < i) → i ≡ j
    go (yes l) d = absurd (omega (arith, two i j l hj a b))
    go (no n) (yes l) = absurd (omega (arith, two j i l hi b a))
    go (no n) (no k) = omega arith

-- k blocks of s terms
pub sum-blocks : (f : ℕ → ℕ) (s k : ℕ) → sum f (k * s) ≡ sum (λ b. sum (λ i. f (b * s + i)) s) k
sum-blocks f s zero = rw (zero-mul s, sum-zero) (sym (sum-zero (λ b. sum (λ i. f (b * s + i)) s)))
sum-blocks f s (suc k) =
    ap (sum f) whole ∙ sum-split f (k * s) s
    ∙ ap (λ (x : ℕ). x + sum (λ i. f (k * s + i)) s) (sum-blocks f s k) ∙ sym (sum-suc (λ b. sum (λ i. f (b * s + i)) s) k)
  where
    whole : suc k * s ≡ k * s + s
    whole = omega arith

pub count-blocks : (p : ℕ → Bool) (s k : ℕ) → count p (k * s) ≡ sum (λ b. count (λ i. p (b * s + i)) s) k
unfolding count
count-blocks p s k = sum-blocks (λ x. one (p x)) s k

-- a count over places that are only exchanged: p undoes itself below m
pub count-moved : (q : ℕ → Bool) (p : ℕ → ℕ) (m : ℕ) → ((z : ℕ) → z < m → p z < m) → ((z : ℕ) → z < m → p (p z) ≡ z)
    → count (λ z. q (p z)) m ≡ count q m
unfolding count
count-moved q p m hp pp = sum_moved (λ x. one (q x)) p p m hp hp pp pp

-- terms that are equal at i and at p i, where p undoes itself: those at the smaller of the two, doubled where the two differ
pub sum-paired : (f p : ℕ → ℕ) (m : ℕ) → ((i : ℕ) → i < m → p i < m) → ((i : ℕ) → i < m → p (p i) ≡ i)
    → ((i : ℕ) → i < m → f (p i) ≡ f i) → sum f m ≡ sum (λ i. cond (leb i (p i)) (f i * cond (eqb i (p i)) 1 2) 0) m
sum-paired f p m hp pp e =
    sum-cong _ _ m (λ i h. whole i)
    ∙ sum-add upper (λ i. lower i + middle i) m
    ∙ ap (λ (x : ℕ). sum upper m + x)
    (sum-add lower middle m ∙ ap (λ (x : ℕ). x + sum middle m) turned ∙ sym (sum-add upper middle m))
    ∙ sym (sum-add upper (λ i. upper i + middle i) m)
    ∙ sum-cong _ _ m (λ i h. sym (halved i))
  where
    upper : ℕ → ℕ
    upper i = cond (ltb i (p i)) (f i) 0

    lower : ℕ → ℕ
    lower i = cond (ltb (p i) i) (f i) 0

    middle : ℕ → ℕ
    middle i = cond (eqb i (p i)) (f i) 0

    whole : (i : ℕ) → f i ≡ upper i + (lower i + middle i)
    whole i = go (dec_lt i (p i)) (ℕ_discrete i (p i))
      where
        go : Dec (i < p i) → Dec (i ≡ p i) → f i ≡ upper i + (lower i + middle i)
        go (yes l) d = rw (lt-ltb i (p i) l, le-ltb (p i) i (omega arith), ne_eqb i (p i) (omega arith)) (omega arith)
        go (no n) (yes e) = rw (le-ltb i (p i) (omega arith), le-ltb (p i) i (omega arith), eq-eqb i (p i) e) (omega arith)
        go (no n) (no k) = rw (le-ltb i (p i) (omega arith), lt-ltb (p i) i (omega arith), ne_eqb i (p i) k) (omega arith)

    halved : (i : ℕ) → cond (leb i (p i)) (f i * cond (eqb i (p i)) 1 2) 0 ≡ upper i + (upper i + middle i)
    halved i = go (dec_lt i (p i)) (ℕ_discrete i (p i))
      where
        go : Dec (i < p i) → Dec (i ≡ p i) → cond (leb i (p i)) (f i * cond (eqb i (p i)) 1 2) 0 ≡ upper i + (upper i + middle i)
        go (yes l) d = rw (lt-ltb i (p i) l, le-leb i (p i) (omega arith), ne_eqb i (p i) (omega arith)) (omega arith)
        go (no n) (yes e) = rw (le-ltb i (p i) (omega arith), le-leb i (p i) (omega arith), eq-eqb i (p i) e) (omega arith)
        go (no n) (no k) = rw (le-ltb i (p i) (omega arith), lt-leb i (p i) (omega arith), ne_eqb i (p i) k) (omega arith)

    turned : sum lower m ≡ sum upper m
    turned =
        sum-cong lower (λ i. upper (p i)) m
        (λ i h. sym (ap₂ (λ (x y : ℕ). cond (ltb (p i) x) y 0) (pp i h) (e i h)))
        ∙ sum_moved upper p p m hp hp pp pp
