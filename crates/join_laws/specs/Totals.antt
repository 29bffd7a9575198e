-- A total over the rows of a list, and what an entry put or left out changes; two totals that decide the word at a point of a disjoint
-- list, in whatever order its rows stand; and one that decides which columns its words drive. Assumes nothing.
use Rattle.std.specs.Prelude.{◌≡◌, refl, Bool, true, false, not, cond, ◌||◌, List, [], ◌∷◌, map, ℕ, zero, suc, ◌+◌, ◌≤◌, ◌<◌, eqb, length, set}
use Rattle.std.proofs.Common.{sym, ap, ◌∙◌, zero-add, arith, eq-eqb, ne_eqb}
use Rattle.std.proofs.Math.Decide.{ℕ_discrete}
use Rattle.bits.specs.Digits.{bit}
use Rattle.sums.specs.Sums.{one}
use Rattle.block.specs.Words.{under, of_rows, word_part}
use Rattle.block.specs.Refusals.{row_at, driven}
use Rattle.block.specs.declared.Row.{Row}
use Rattle.pair_laws.specs.Theorem.{Every, every-cons}
use Rattle.step_laws.specs.Hits.{every-tail, hits, hits-none, hits-cons, word_none}
use Rattle.block.specs.Joins.{without}

unfoldable pub total : (Row → ℕ) → List Row → ℕ
total f [] = 0
total f (r ∷ rs) = f r + total f rs

pub total-set : (f : Row → ℕ) (rs : List Row) (i : ℕ) (y : Row) → i < length rs → total f (set rs i y) + f (row_at rs i) ≡ total f rs + f y
unfolding total
total-set f [] i y h = absurd (omega arith)
total-set f (r ∷ rs) zero y h = omega arith
total-set f (r ∷ rs) (suc i) y h = omega (arith, total-set f rs i y (omega arith))

pub total-without : (f : Row → ℕ) (rs : List Row) (j : ℕ) → j < length rs → total f (without j rs) + f (row_at rs j) ≡ total f rs
unfolding total without
total-without f [] j h = absurd (omega arith)
total-without f (r ∷ rs) zero h = omega arith
total-without f (r ∷ rs) (suc j) h = omega (arith, total-without f rs j (omega arith))

pub length_without : (rs : List Row) (j : ℕ) → j < length rs → suc (length (without j rs)) ≡ length rs
unfolding without
length_without [] j h = absurd (omega arith)
length_without (r ∷ rs) zero h = refl
length_without (r ∷ rs) (suc j) h = ap suc (length_without rs j (omega arith))

-- no entry is more than the total, and no two are
total-entry : (f : Row → ℕ) (rs : List Row) (i : ℕ) → i < length rs → f (row_at rs i) ≤ total f rs
unfolding total
total-entry f [] i h = absurd (omega arith)
total-entry f (r ∷ rs) zero h = omega arith
total-entry f (r ∷ rs) (suc i) h = omega (arith, total-entry f rs i (omega arith))

pub total-two : (f : Row → ℕ) (rs : List Row) (i j : ℕ) → i < j → j < length rs → f (row_at rs i) + f (row_at rs j) ≤ total f rs
unfolding total
total-two f [] i j l h = absurd (omega arith)
total-two f (r ∷ rs) i zero l h = absurd (omega arith)
total-two f (r ∷ rs) zero (suc j) l h = omega (arith, total-entry f rs j (omega arith))
total-two f (r ∷ rs) (suc i) (suc j) l h = omega (arith, total-two f rs i j (omega arith) (omega arith))

-- ---- each row

pub every_set : (P : Row → Type 0) (rs : List Row) (i : ℕ) (y : Row) → Every P rs → P y → Every P (set rs i y)
every_set P [] i y f p = f
every_set P (r ∷ rs) zero y f p = every-cons P y rs p (every-tail P r rs f)
every_set P (r ∷ rs) (suc i) y f p = every-cons P r (set rs i y) (f 0 (omega arith)) (every_set P rs i y (every-tail P r rs f) p)

pub every-without : (P : Row → Type 0) (rs : List Row) (j : ℕ) → Every P rs → Every P (without j rs)
unfolding without
every-without P [] j f = f
every-without P (r ∷ rs) zero f = every-tail P r rs f
every-without P (r ∷ rs) (suc j) f = every-cons P r (without j rs) (f 0 (omega arith)) (every-without P rs j (every-tail P r rs f))

-- ---- the word at a point

abbrev pub over1 : ℕ → Row → ℕ
over1 x r = one (under r x)

-- the word and one more, where x lies under the row
abbrev pub weight : ℕ → Row → ℕ
weight x r = cond (under r x) (suc r.word) 0

pub total-hits : (rs : List Row) (x : ℕ) → total (over1 x) rs ≡ hits rs x
unfolding total
total-hits [] x = sym (hits-none x)
total-hits (r ∷ rs) x = omega (arith, total-hits rs x, hits-cons r rs x)

weight-none : (rs : List Row) (x : ℕ) → hits rs x ≡ 0 → total (weight x) rs ≡ 0
unfolding total
weight-none [] x e = refl
weight-none (r ∷ rs) x e = go (under r x) refl (λ d. weight-none rs x d)
  where
    go : (b : Bool) → under r x ≡ b → (hits rs x ≡ 0 → total (weight x) rs ≡ 0) → weight x r + total (weight x) rs ≡ 0
    go true d ih = absurd (omega (arith, hits-cons r rs x, ap one d, e))
    go false d ih = rw d (omega (arith, ih (omega (arith, hits-cons r rs x, ap one d, e))))

weight-word : (missing : ℕ) (rs : List Row) (x : ℕ) → hits rs x ≡ 1 → total (weight x) rs ≡ suc (of_rows missing rs x)
unfolding total of_rows
weight-word missing [] x e = absurd (omega (arith, hits-none x))
weight-word missing (r ∷ rs) x e = go (under r x) refl (λ d. weight-word missing rs x d)
  where
    go : (b : Bool) → under r x ≡ b → (hits rs x ≡ 1 → total (weight x) rs ≡ suc (of_rows missing rs x))
        → weight x r + total (weight x) rs ≡ suc (cond (under r x) r.word (of_rows missing rs x))
    go true d ih = rw d (omega (arith, weight-none rs x (omega (arith, hits-cons r rs x, ap one d, e))))
    go false d ih = rw d (omega (arith, ih (omega (arith, hits-cons r rs x, ap one d, e))))

-- two lists with the same totals have the same word, where x lies under at most one row
pub same_word : (missing : ℕ) (rs ss : List Row) (x : ℕ) → hits rs x ≤ 1 → hits ss x ≡ hits rs x
    → total (weight x) ss ≡ total (weight x) rs → of_rows missing ss x ≡ of_rows missing rs x
same_word missing rs ss x few e w = go (hits rs x) refl few
  where
    go : (k : ℕ) → hits rs x ≡ k → k ≤ 1 → of_rows missing ss x ≡ of_rows missing rs x
    go zero d l = word_none missing ss x (e ∙ d) ∙ sym (word_none missing rs x d)
    go (suc zero) d l = omega (arith, weight-word missing ss x (e ∙ d), weight-word missing rs x d, w)
    go (suc (suc k)) d l = absurd (omega arith)

-- ---- the columns that words drive (02, Ticket 8)

-- 1 where the row's word has a 1 in column c
abbrev pub drives : ℕ → Row → ℕ
drives c r = one (eqb (bit r.word c) 1)

-- a column is driven where the total is not 0
pub driven-total : (rs : List Row) (c : ℕ) → driven (map word_part rs) c ≡ not (eqb (total (drives c) rs) 0)
unfolding total driven
driven-total [] c = refl
driven-total (r ∷ rs) c = go (eqb (bit r.word c) 1) (driven-total rs c)
  where
    go : (b : Bool) → driven (map word_part rs) c ≡ not (eqb (total (drives c) rs) 0)
        → b || driven (map word_part rs) c ≡ not (eqb (one b + total (drives c) rs) 0)
    go true ih = ap not (sym (ne_eqb (1 + total (drives c) rs) 0 (λ e. omega arith)))
    go false ih = rw (zero-add (total (drives c) rs)) ih

-- a total that is less by no more than what is left is 0 where the total was
pub same-zero : (a b d : ℕ) → a + d ≡ b → d + d ≤ b → eqb a 0 ≡ eqb b 0
same-zero a b d e h = go (ℕ_discrete a 0)
  where
    go : Dec (a ≡ 0) → eqb a 0 ≡ eqb b 0
    go (yes z) = eq-eqb a 0 z ∙ sym (eq-eqb b 0 (omega arith))
    go (no z) = ne_eqb a 0 z ∙ sym (ne_eqb b 0 (λ y. omega arith))
