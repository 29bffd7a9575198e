-- Each row of a list, and how many rows of a list a point lies under: of two lists one after the other; at most one exactly where no two
-- rows share a point; none where the word is that of a missing point; and the two halves of a row. Assumes nothing.
use Rattle.std.specs.Prelude.{◌≡◌, refl, Bool, true, false, ◌&&◌, List, [], ◌∷◌, ◌++◌, map, ℕ, zero, suc, ◌+◌, ◌^◌, ◌≤◌, ◌<◌, eqb, length}
use Rattle.std.proofs.Common.{ap, ap₂, ◌∙◌, arith}
use Rattle.bits.specs.Digits.{bit}
use Rattle.bits.specs.Bit.{bit-lt}
use Rattle.sums.specs.Sums.{one, count}
use Rattle.sums.specs.Laws.{sum-append, sum-zero, sum-suc, count-once, count_same}
use Rattle.block.specs.Words.{under, of_rows, row}
use Rattle.block.specs.Rows.{half}
use Rattle.block.specs.Refusals.{row_at}
use Rattle.block.specs.declared.Row.{Row}
use Rattle.pair_laws.specs.Cube.{Sound}
use Rattle.pair_laws.specs.Theorem.{Every, Apart, every-cons}
use Rattle.step_laws.specs.Shear.{under-half}

-- ---- each row of a list

pub every-tail : (P : Row → Type 0) (r : Row) (rs : List Row) → Every P (r ∷ rs) → Every P rs
every-tail P r rs f i h = f (suc i) (omega arith)

pub every_append : (P : Row → Type 0) (s t : List Row) → Every P s → Every P t → Every P (s ++ t)
every_append P [] t f g = g
every_append P (r ∷ s) t f g = every-cons P r (s ++ t) (f 0 (omega arith)) (every_append P s t (every-tail P r s f) g)

pub every_map : (P Q : Row → Type 0) (f : Row → Row) → ((r : Row) → P r → Q (f r)) → (rs : List Row) → Every P rs → Every Q (map f rs)
every_map P Q f g [] e = λ i h. absurd (omega arith)
every_map P Q f g (r ∷ rs) e = every-cons Q (f r) (map f rs) (g r (e 0 (omega arith))) (every_map P Q f g rs (every-tail P r rs e))

-- ---- how many rows a point lies under

unfoldable pub hits : List Row → ℕ → ℕ
hits rs x = count (λ i. under (row_at rs i) x) (length rs)

pub hits-append : (s t : List Row) (x : ℕ) → hits (s ++ t) x ≡ hits s x + hits t x
unfolding hits count
hits-append s t x = sum-append (λ r. one (under r x)) (row 0 0 0) s t

pub hits-none : (x : ℕ) → hits [] x ≡ 0
unfolding hits count
hits-none x = sum-zero (λ i. one (under (row_at [] i) x))

pub hits-one : (r : Row) (x : ℕ) → hits (r ∷ []) x ≡ one (under r x)
unfolding hits count
hits-one r x = sum-suc (λ i. one (under (row_at (r ∷ []) i) x)) 0 ∙ omega (arith, sum-zero (λ i. one (under (row_at (r ∷ []) i) x)))

pub hits-cons : (r : Row) (rs : List Row) (x : ℕ) → hits (r ∷ rs) x ≡ one (under r x) + hits rs x
hits-cons r rs x = hits-append (r ∷ []) rs x ∙ ap (λ (y : ℕ). y + hits rs x) (hits-one r x)

pub apart-hits : (n : ℕ) (rs : List Row) → Apart n rs → (x : ℕ) → x < 2 ^ n → hits rs x ≤ 1
unfolding hits
apart-hits n rs a x h = count-once (λ i. under (row_at rs i) x) (length rs) (λ i j hi hj. a i j x hi hj h)

pub hits-apart : (n : ℕ) (rs : List Row) → ((x : ℕ) → x < 2 ^ n → hits rs x ≤ 1) → Apart n rs
unfolding hits
hits-apart n rs f i j x hi hj h = count_same (λ i. under (row_at rs i) x) (length rs) (f x h) i j hi hj

-- a point under no row is missing
pub word_none : (missing : ℕ) (rs : List Row) (x : ℕ) → hits rs x ≡ 0 → of_rows missing rs x ≡ missing
unfolding of_rows
word_none missing [] x e = refl
word_none missing (r ∷ rs) x e = go (under r x) refl (λ d. word_none missing rs x d)
  where
    go : (b : Bool) → under r x ≡ b → (hits rs x ≡ 0 → of_rows missing rs x ≡ missing) → of_rows missing (r ∷ rs) x ≡ missing
    go true d ih = absurd (omega (arith, hits-cons r rs x, ap one d, e))
    go false d ih = rw d (ih (omega (arith, hits-cons r rs x, ap one d, e)))

-- ---- the halves of a row

pub both_one : (p : Bool) (b : ℕ) → b < 2 → one (p && eqb b 0) + one (p && eqb b 1) ≡ one p
both_one true zero h = refl
both_one true (suc zero) h = refl
both_one true (suc (suc b)) h = absurd (omega arith)
both_one false b h = refl

-- they share out its points
pub halves : (n h : ℕ) (r : Row) (x : ℕ) → Sound n r → bit r.mask h ≡ 0
    → one (under (half h 0 r) x) + one (under (half h 1 r) x) ≡ one (under r x)
halves n h r x a free =
    ap₂ ◌+◌ (ap one (under-half n h 0 r x (omega arith) a free)) (ap one (under-half n h 1 r x (omega arith) a free))
    ∙ both_one (under r x) (bit x h) (bit-lt x h)
