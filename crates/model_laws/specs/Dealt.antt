-- Patterns of all outputs, one after the other, and dealt out again, so many to each output; those of output j by place (`dealt-at`); and that
-- patterns are sound where none is malformed. Assumes nothing.
use Rattle.std.specs.Prelude.{◌≡◌, refl, false, not, List, [], ◌∷◌, ◌++◌, ℕ, zero, suc, ◌+◌, ◌^◌, ◌<◌, eqb, ltb, length, get_or, take, drop}
use Rattle.std.proofs.Common.{sym, ap, ap₂, ◌∙◌, arith, lt-ltb, ltb-true, eq-eqb, eqb-true, length-append, length-drop, get_or-drop, drop-drop}
use Rattle.std.proofs.lemmas.Bool.{not-false}
use Rattle.std.specs.Int.Bits.{bit_and}
use Rattle.std.proofs.lemmas.Nat.{and_le_l}
use Rattle.std.proofs.Math.Seq.{take-append_seam, drop-append_seam}
use Rattle.slices.specs.Places.{at}
use Rattle.block.specs.Model.{pattern}
use Rattle.block.specs.ModelRead.{counts_of, all_of, bad_pattern, pattern_at, dealt, total}
use Rattle.block.specs.declared.Pattern.{Pattern}
use Rattle.shared_checks.specs.Sizes.{or_left, or_right}
use Rattle.model_laws.specs.Patterns.{SoundPattern, Sounds, AllSound}

-- ---- all patterns, and dealt out again

pub dealt_back : (qs : List (List Pattern)) → dealt (counts_of qs) (all_of qs) ≡ qs
unfolding dealt all_of
dealt_back [] = refl
dealt_back (ps ∷ qs) =
    ap₂ ◌∷◌ (take-append_seam ps (all_of qs)) (ap (dealt (counts_of qs)) (drop-append_seam ps (all_of qs)) ∙ dealt_back qs)

pub counts-total : (qs : List (List Pattern)) → total (counts_of qs) ≡ length (all_of qs)
unfolding total all_of
counts-total [] = refl
counts-total (ps ∷ qs) = ap (λ (i : ℕ). length ps + i) (counts-total qs) ∙ sym (length-append ps (all_of qs))

pub dealt-length : (counts : List ℕ) (ps : List Pattern) → length (dealt counts ps) ≡ length counts
unfolding dealt
dealt-length [] ps = refl
dealt-length (c ∷ counts) ps = ap suc (dealt-length counts (drop c ps))

-- those of output j lie after those of the outputs before it
pub dealt-at : (counts : List ℕ) (ps : List Pattern) (j : ℕ) → j < length counts
    → get_or (dealt counts ps) j [] ≡ take (at counts j) (drop (total (take j counts)) ps)
unfolding dealt total
dealt-at [] ps j h = absurd (omega arith)
dealt-at (c ∷ counts) ps zero h = refl
dealt-at (c ∷ counts) ps (suc j) h =
    dealt-at counts (drop c ps) j (omega arith)
    ∙ ap (take (at counts j)) (drop-drop (total (take j counts)) c ps)

-- ---- patterns that are not malformed are sound, and the other way round

pub good-pattern : (n : ℕ) (p : Pattern) → bad_pattern n p ≡ false → SoundPattern n p
unfolding bad_pattern
good-pattern n p h =
    let rest = or_right (not (ltb p.mask (2 ^ n))) _ h in (
      ltb-true p.mask (2 ^ n) (not-false _ (or_left (not (ltb p.mask (2 ^ n))) _ h)),
      eqb-true (bit_and p.mask p.values) p.values (not-false _ (or_right (not (ltb p.values (2 ^ n))) _ rest)),
    )

pub pattern-good : (n : ℕ) (p : Pattern) → SoundPattern n p → bad_pattern n p ≡ false
unfolding bad_pattern
pattern-good n p h =
    rw (
      lt-ltb p.mask (2 ^ n) h.0,
      lt-ltb p.values (2 ^ n) (omega (arith, h.0, h.1, and_le_l p.mask p.values)),
      eq-eqb (bit_and p.mask p.values) p.values h.1,
    )

-- no pattern is malformed
abbrev pub GoodPatterns : ℕ → List Pattern → Type 0
GoodPatterns n ps = (i : ℕ) → i < length ps → bad_pattern n (pattern_at ps i) ≡ false

take-sounds : (n c : ℕ) (ps : List Pattern) → GoodPatterns n ps → Sounds n (take c ps)
unfolding Sounds
take-sounds n zero ps h = tt
take-sounds n (suc c) [] h = tt
take-sounds n (suc c) (p ∷ ps) h = (good-pattern n p (h 0 (omega arith)), take-sounds n c ps (λ i l. h (suc i) (omega arith)))

pub dealt-sound : (n : ℕ) (counts : List ℕ) (ps : List Pattern) → GoodPatterns n ps → AllSound n (dealt counts ps)
unfolding AllSound dealt
dealt-sound n [] ps h = tt
dealt-sound n (c ∷ counts) ps h = (
  take-sounds n c ps h,
  dealt-sound n counts (drop c ps)
      (λ i l. ap (bad_pattern n) (get_or-drop c ps i (pattern 0 0)) ∙ h (c + i) (omega (arith, length-drop c ps))),
)

sounds-good : (n : ℕ) (ps rest : List Pattern) → Sounds n ps → GoodPatterns n rest → GoodPatterns n (ps ++ rest)
unfolding Sounds
sounds-good n [] rest h k i l = k i l
sounds-good n (p ∷ ps) rest h k zero l = pattern-good n p h.0
sounds-good n (p ∷ ps) rest h k (suc i) l = sounds-good n ps rest h.1 k i (omega arith)

pub all-good : (n : ℕ) (qs : List (List Pattern)) → AllSound n qs → GoodPatterns n (all_of qs)
unfolding AllSound all_of
all-good n [] h i l = absurd (omega arith)
all-good n (ps ∷ qs) h i l = sounds-good n ps (all_of qs) h.0 (all-good n qs h.1) i l
