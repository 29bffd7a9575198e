-- The OR of the first words has a one in exactly the columns that they drive: of none, of one more, of all; and the lowest column that it
-- leaves at 0. Assumes nothing.
use Rattle.std.specs.Prelude.{◌≡◌, refl, Bool, true, false, not, ◌||◌, List, [], ◌∷◌, ℕ, suc, ◌<◌, ◌≤◌, max, eqb, length}
use Rattle.std.proofs.Common.{sym, ap, ◌∙◌, arith, eqb-true, pow_pos}
use Rattle.std.proofs.Math.Bool.{or-false}
use Rattle.std.proofs.lemmas.Bool.{eqb-false}
use Rattle.std.specs.Int.Bits.{bit_or}
use Rattle.bits.specs.Digits.{bit}
use Rattle.bits.specs.Bit.{bit-or, bit-lt, bit-none}
use Rattle.slices.specs.Places.{at, tab}
use Rattle.slices.specs.Filled.{tab-suc, tab-zero, tab-list}
use Rattle.slices.specs.Least.{first-is}
use Rattle.sums.specs.Sums.{one}
use Rattle.block.specs.Refusals.{driven, undriven}
use Rattle.refusal_laws.specs.Driven.{driven-none, driven-append}

-- the first i words
abbrev pub first_words : ℕ → List ℕ → List ℕ
first_words i words = tab i (at words)

-- `all` has a one in exactly the columns that the words drive
abbrev pub Gathered : List ℕ → ℕ → Type 0
Gathered words all = (j : ℕ) → bit all j ≡ one (driven words j)

pub gathered_none : (words : List ℕ) (i : ℕ) → i ≡ 0 → Gathered (first_words i words) 0
gathered_none words i e j =
    bit-none 0 j (pow_pos j)
    ∙ ap one (sym (ap (λ (m : ℕ). driven (first_words m words) j) e ∙ ap (λ (ws : List ℕ). driven ws j) (tab-zero (at words)) ∙ driven-none j))

pub gathered-more : (words : List ℕ) (i next all : ℕ) → next ≡ suc i → Gathered (first_words i words) all
    → Gathered (first_words next words) (bit_or all (at words i))
unfolding driven
gathered-more words i next all e g j =
    bit-or all (at words i) j
    ∙ go (driven (first_words i words) j) (eqb (bit (at words i) j) 1) refl (g j)
    ∙ ap one (sym
    (ap (λ (m : ℕ). driven (first_words m words) j) e
    ∙ ap (λ (ws : List ℕ). driven ws j) (tab-suc i (at words))
    ∙ driven-append (first_words i words) (at words i ∷ []) j
    ∙ ap (λ (b : Bool). driven (first_words i words) j || b) (or-false (eqb (bit (at words i) j) 1))))
  where
    go : (d e : Bool) → eqb (bit (at words i) j) 1 ≡ e → bit all j ≡ one d → max (bit all j) (bit (at words i) j) ≡ one (d || e)
    go true e h f = omega (arith, bit-lt (at words i) j)
    go false true h f = omega (arith, eqb-true (bit (at words i) j) 1 h)
    go false false h f =
        let n : bit (at words i) j ≡ 1 → ⊥ = eqb-false (bit (at words i) j) 1 h in
        omega (arith, bit-lt (at words i) j)

pub gathered-all : (words : List ℕ) (i all : ℕ) → i ≡ length words → Gathered (first_words i words) all → Gathered words all
gathered-all words i all e g j = g j ∙ ap (λ (ws : List ℕ). one (driven ws j)) (ap (λ (m : ℕ). first_words m words) e ∙ tab-list 0 words)

-- the columns below r are driven, and r is not where it is below k: r is the lowest that no word drives
pub lowest-undriven : (k : ℕ) (words : List ℕ) (all r : ℕ) → Gathered words all → r ≤ k → ((j : ℕ) → j < r → bit all j ≡ 0 → ⊥)
    → (r < k → bit all r ≡ 0) → r ≡ undriven k words
unfolding undriven
lowest-undriven k words all r g h below here =
    sym (first-is k (λ j. not (driven words j)) r h (λ j l. ap not (on (driven words j) (g j) (below j l))) (λ l. ap not (off (driven words r) (g r) (here l))))
  where
    on : {x : ℕ} (d : Bool) → x ≡ one d → (x ≡ 0 → ⊥) → d ≡ true
    on true e n = refl
    on false e n = absurd (n e)

    off : {x : ℕ} (d : Bool) → x ≡ one d → x ≡ 0 → d ≡ false
    off true e z = absurd (omega arith)
    off false e z = refl
