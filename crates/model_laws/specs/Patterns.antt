-- The lines of patterns: one of that form is what is written for the pattern that it says (`form-pattern`), and what is written for a
-- sound pattern has that form and says it (`pattern-form`). Assumes nothing.
use Rattle.std.specs.Prelude.{◌≡◌, refl, Bool, true, false, not, ◌||◌, eqb, length, take, drop}
use Rattle.std.proofs.Math.Path.{sym, ap, ap₂}
use Rattle.std.proofs.Common.{◌∙◌, arith, length-append, take-append-drop, ext_get_or, take_at, drop_at}
use Rattle.std.proofs.Math.Bool.{◌&&◌}
use mathlib.Core.List.{List, [], ◌∷◌, ◌++◌}
use Prim.Native.Nat.{ℕ, ◌+◌, ◌*◌, ◌^◌, ◌<◌, min}
use borrow.Author.Tests.{eq-eqb, eqb-true}
use Rattle.std.specs.Int.Bits.{bit_and, and_lt, and_le_l}
use Rattle.std.proofs.Math.ListN.{get_or-append}
use Rattle.std.proofs.Math.Seq.{get_or-take, length-take-le}
use Rattle.bits.specs.Digits.{bit}
use Rattle.bits.specs.Bit.{bit-lt, bit-ext, bit-and}
use Rattle.slices.specs.Places.{at, tab}
use Rattle.slices.specs.Filled.{tab-at, length-tab}
use Rattle.slices.specs.Tests.{and_both}
use Rattle.sums.specs.Sums.{sum, one}
use Rattle.sums.specs.Laws.{sum-cong}
use Rattle.block.specs.Text.{equal, every}
use Rattle.matrix_laws.specs.Linear.{digits-bit, digits-below}
use Rattle.read_laws.specs.Tests.{equal-true, equal-same, every-at, every-all}
use Rattle.block.specs.Model.{pattern, symbol_of, cube_of, cube_line}
use Rattle.block.specs.ModelRead.{pattern_form, pattern_on}
use Rattle.block.specs.declared.Pattern.{Pattern}
use Rattle.model_laws.specs.Values.{digit-go}

-- a pattern's mask is below 2^n and holds its values
abbrev pub SoundPattern : ℕ → Pattern → Type 0
SoundPattern n p = (p.mask < 2 ^ n) × (bit_and p.mask p.values ≡ p.values)

-- each pattern of an output is sound
unfoldable pub Sounds : ℕ → List Pattern → Type 0
Sounds n [] = Unit
Sounds n (p ∷ ps) = SoundPattern n p × Sounds n ps

-- of each output
unfoldable pub AllSound : ℕ → List (List Pattern) → Type 0
AllSound n [] = Unit
AllSound n (ps ∷ qs) = Sounds n ps × AllSound n qs

-- a pattern more, an output more
pub sounds-more : (n : ℕ) (ps : List Pattern) (p : Pattern) → Sounds n ps → SoundPattern n p → Sounds n (ps ++ (p ∷ []))
unfolding Sounds
sounds-more n [] p h k = (k, tt)
sounds-more n (q ∷ ps) p h k = (h.0, sounds-more n ps p h.1 k)

pub all_more : (n : ℕ) (qs : List (List Pattern)) (ps : List Pattern) → AllSound n qs → Sounds n ps → AllSound n (qs ++ (ps ∷ []))
unfolding AllSound
all_more n [] ps h k = (k, tt)
all_more n (q ∷ qs) ps h k = (h.0, all_more n qs ps h.1 k)

-- ---- symbols

abbrev is_symbol : ℕ → Bool
is_symbol b = eqb b 48 || (eqb b 49 || eqb b 45)

-- the mask bit and the value bit that a byte says
abbrev fixed : ℕ → ℕ
fixed b = one (not (eqb b 45))

abbrev high : ℕ → ℕ
high b = one (eqb b 49)

one-lt : (b : Bool) → one b < 2
one-lt true = omega arith
one-lt false = omega arith

-- ---- from a line

symbol-back : (b : ℕ) → is_symbol b ≡ true → symbol_of (fixed b) (high b) ≡ b
symbol-back b h = go (eqb b 48) (eqb b 49) (eqb b 45) refl refl refl h
  where
    go : (x y z : Bool) → eqb b 48 ≡ x → eqb b 49 ≡ y → eqb b 45 ≡ z → x || (y || z) ≡ true → symbol_of (one (not z)) (one y) ≡ b
    go x true true p q r e = let s = eqb-true b 49 q in let t = eqb-true b 45 r in absurd (omega arith)
    go x true false p q r e = sym (eqb-true b 49 q)
    go x false true p q r e = sym (eqb-true b 45 r)
    go true false false p q r e = sym (eqb-true b 48 p)
    go false false false p q r e = let z : ◌≡◌ {A = ℕ} 0 1 = cc in absurd (omega arith)

high-fixed : (b : ℕ) → min (fixed b) (high b) ≡ high b
high-fixed b = go (eqb b 49) (eqb b 45) refl refl
  where
    go : (y z : Bool) → eqb b 49 ≡ y → eqb b 45 ≡ z → min (one (not z)) (one y) ≡ one y
    go true true q r = let s = eqb-true b 49 q in let t = eqb-true b 45 r in absurd (omega arith)
    go true false q r = refl
    go false true q r = refl
    go false false q r = refl

module _ (n : ℕ) (l : List ℕ) where
  mask-bit : (i : ℕ) → i < n → bit (sum (λ i. fixed (at l i) * 2 ^ i) n) i ≡ fixed (at l i)
  mask-bit i h = digits-bit (λ i. fixed (at l i)) (λ i. one-lt (not (eqb (at l i) 45))) n i h

  value-bit : (i : ℕ) → i < n → bit (sum (λ i. high (at l i) * 2 ^ i) n) i ≡ high (at l i)
  value-bit i h = digits-bit (λ i. high (at l i)) (λ i. one-lt (eqb (at l i) 49)) n i h

  pub on-sound : SoundPattern n (pattern_on n l)
  unfolding pattern_on
  on-sound =
      let m : ℕ = sum (λ i. fixed (at l i) * 2 ^ i) n in
      let v : ℕ = sum (λ i. high (at l i) * 2 ^ i) n in
      let hm = digits-below (λ i. fixed (at l i)) (λ i. one-lt (not (eqb (at l i) 45))) n in
      let hv = digits-below (λ i. high (at l i)) (λ i. one-lt (eqb (at l i) 49)) n in (
        hm,
        bit-ext n (bit_and m v) v (and_lt n m v hm hv) hv
            (λ i h. bit-and m v i ∙ ap₂ min (mask-bit i h) (value-bit i h) ∙ high-fixed (at l i) ∙ sym (value-bit i h)),
      )

  pub form-pattern : pattern_form n l ≡ true → l ≡ cube_line (cube_of n (pattern_on n l))
  unfolding pattern_form pattern_on
  form-pattern e =
      let a = and_both (every is_symbol (take n l)) (eqb (length l) (n + 3) && equal (drop n l) (cube_line [])) e in
      let b = and_both (eqb (length l) (n + 3)) (equal (drop n l) (cube_line [])) a.1 in
      let len = eqb-true (length l) (n + 3) b.0 in
      sym (take-append-drop n l)
      ∙ ap₂ ◌++◌
      (ext_get_or 0 (take n l) (tab n f) (length-take-le n l (omega arith) ∙ sym (length-tab n f))
      (λ i h.
      let k : i < n = omega (arith, length-take-le n l (omega arith)) in
      get_or-take n l i 0 k
      ∙ sym
      (tab-at n f 0 i k
      ∙ ap₂ symbol_of (mask-bit i k) (value-bit i k)
      ∙ symbol-back (at l i) (ap is_symbol (sym (get_or-take n l i 0 k)) ∙ every-at is_symbol (take n l) a.0 i h))))
      (equal-true (drop n l) (cube_line []) b.1)
    where
      f : ℕ → ℕ
      f i = symbol_of (bit (sum (λ i. fixed (at l i) * 2 ^ i) n) i) (bit (sum (λ i. high (at l i) * 2 ^ i) n) i)

-- ---- from a pattern

-- digits of a number make it up
pub bits-sum : (k w : ℕ) → w < 2 ^ k → sum (λ j. bit w j * 2 ^ j) k ≡ w
bits-sum k w h =
    bit-ext k (sum (λ j. bit w j * 2 ^ j) k) w (digits-below (λ j. bit w j) (λ j. bit-lt w j) k) h
    (λ i l. digits-bit (λ j. bit w j) (λ j. bit-lt w j) k i l)

abbrev Back : ℕ → ℕ → Type 0
Back m v = min m v ≡ v → (is_symbol (symbol_of m v) ≡ true) × (fixed (symbol_of m v) ≡ m) × (high (symbol_of m v) ≡ v)

digit-back : (m : ℕ) → m < 2 → (v : ℕ) → v < 2 → Back m v
digit-back =
    digit-go (λ m. (v : ℕ) → v < 2 → Back m v)
    (digit-go (Back 0) (λ e. (refl, refl, refl)) (λ e. absurd (omega arith)))
    (digit-go (Back 1) (λ e. (refl, refl, refl)) (λ e. (refl, refl, refl)))

module _ (n : ℕ) (p : Pattern) (sound : SoundPattern n p) where
  abbrev g : ℕ → ℕ
  g i = symbol_of (bit p.mask i) (bit p.values i)

  back_at : (i : ℕ) → (is_symbol (g i) ≡ true) × (fixed (g i) ≡ bit p.mask i) × (high (g i) ≡ bit p.values i)
  back_at i =
      digit-back (bit p.mask i) (bit-lt p.mask i) (bit p.values i) (bit-lt p.values i)
      (sym (bit-and p.mask p.values i) ∙ ap (λ (x : ℕ). bit x i) sound.1)

  line_at : (i : ℕ) → i < n → at (cube_line (cube_of n p)) i ≡ g i
  line_at i h = get_or-append (tab n g) (32 ∷ 49 ∷ 10 ∷ []) 0 i (rw (length-tab n g) h) ∙ tab-at n g 0 i h

  pub pattern-form : pattern_form n (cube_line (cube_of n p)) ≡ true
  unfolding pattern_form
  pattern-form =
      ap₂ ◌&&◌
      (ap (every is_symbol) (take_at (tab n g) (32 ∷ 49 ∷ 10 ∷ []) n (length-tab n g))
      ∙ every-all is_symbol (tab n g)
      (λ i h. let k : i < n = omega (arith, length-tab n g) in ap is_symbol (tab-at n g 0 i k) ∙ (back_at i).0))
      (ap₂ ◌&&◌
      (eq-eqb (length (cube_line (cube_of n p))) (n + 3) (length-append (tab n g) (32 ∷ 49 ∷ 10 ∷ []) ∙ rw (length-tab n g)))
      (ap (λ (s : List ℕ). equal s (cube_line [])) (drop_at (tab n g) (32 ∷ 49 ∷ 10 ∷ []) n (length-tab n g)) ∙ equal-same (cube_line [])))

  pub pattern-back : pattern_on n (cube_line (cube_of n p)) ≡ p
  unfolding pattern_on
  pattern-back =
      ap₂ pattern
      (sum-cong _ (λ i. bit p.mask i * 2 ^ i) n (λ i h. ap (λ (d : ℕ). d * 2 ^ i) (ap fixed (line_at i h) ∙ (back_at i).1))
      ∙ bits-sum n p.mask sound.0)
      (sum-cong _ (λ i. bit p.values i * 2 ^ i) n (λ i h. ap (λ (d : ℕ). d * 2 ^ i) (ap high (line_at i h) ∙ (back_at i).2))
      ∙ bits-sum n p.values (omega (arith, sound.0, sound.1, and_le_l p.mask p.values)))
