-- A pattern's line by place: n symbols and " 1" stand there (`cube-there`) exactly where the first line is of a pattern's form (`no-cube`).
-- Assumes nothing.
use Rattle.std.specs.Prelude.{◌≡◌, Bool, ◌||◌, ℕ, zero, suc, ◌+◌, ◌*◌, ◌^◌, ◌≤◌, ◌<◌, eqb, take, Option, Some, None}
use Rattle.std.proofs.Math.Path.{refl, sym, ap, ap₂}
use Rattle.std.proofs.Common.{◌∙◌, add-one, length-append, take_at, drop_at, drop-drop}
use Rattle.std.proofs.Math.Bool.{true, false, not, ◌&&◌}
use mathlib.Core.List.{List, [], ◌∷◌, ◌++◌, append_assoc}
use native.Mathlib.Omega.{arith, pow_step}
use borrow.Author.Tests.{eq-eqb, eqb-true}
use Rattle.std.proofs.Math.ListN.{length, drop, length-drop, get_or-append}
use Rattle.std.proofs.Math.Seq.{drop-append-le, length-take-le, get_or-drop, get_or-take}
use Rattle.slices.specs.Places.{at}
use Rattle.slices.specs.Tests.{and_both}
use Rattle.sums.specs.Sums.{sum, one}
use Rattle.sums.specs.Laws.{sum-cong}
use Rattle.block.specs.Text.{every, equal}
use Rattle.block.specs.Model.{pattern, cube_line}
use Rattle.block.specs.ModelRead.{pattern_form, pattern_on}
use Rattle.read_laws.specs.Front.{front, front_rest, no_lf}
use Rattle.read_laws.specs.Tests.{every-at, every-all, every_append, equal-true, equal-same, not-both}
use Rattle.model_laws.specs.WordLines.{is_line, line-ends}
use Rattle.read_names.specs.Met.{begins, met_at, lost, begins-append, begins-length, met-yes, met-found, met-missed}

-- 0, 1 or -
abbrev pub is_symbol : ℕ → Bool
is_symbol b = eqb b 48 || (eqb b 49 || eqb b 45)

-- what a symbol at place i of a line adds to the mask and to the values
abbrev pub mask_bit : ℕ → ℕ → ℕ
mask_bit b i = one (not (eqb b 45)) * 2 ^ i

abbrev pub value_bit : ℕ → ℕ → ℕ
value_bit b i = one (eqb b 49) * 2 ^ i

-- a pattern's line stands at a place, it says m and v, and `to` is the place after it
pub record CubeLine (text : List ℕ) (n from m v to : ℕ) : Type 0 where
  pub line : List ℕ
  pub ended : is_line line ≡ true
  pub stands : begins line (drop from text) ≡ true
  pub place : to ≡ from + length line
  pub longer : from < to
  pub within : to ≤ length text
  pub form : pattern_form n line ≡ true
  pub says : pattern_on n line ≡ pattern m v

-- what comes of looking for a pattern's line
unfoldable pub Cubed : List ℕ → ℕ → ℕ → Option (ℕ × ℕ × ℕ) → Type 0
Cubed text n from None = pattern_form n (front (drop from text)) ≡ false
Cubed text n from (Some (m, v, to)) = CubeLine text n from m v to

symbol-clear : (b : ℕ) → is_symbol b ≡ true → not (eqb b 10) ≡ true
symbol-clear b e = go (eqb b 10) refl
  where
    go : (q : Bool) → eqb b 10 ≡ q → not q ≡ true
    go true f = not-both (is_symbol b) e (ap is_symbol (eqb-true b 10 f))
    go false f = refl

take_begins : (m : ℕ) (u : List ℕ) → begins (take m u) u ≡ true
unfolding begins
take_begins zero u = refl
take_begins (suc m) [] = refl
take_begins (suc m) (x ∷ u) = rw (eq-eqb x x refl) (take_begins m u)

module _ (text : List ℕ) (h : length text < 2 ^ 63) (n from : ℕ) where
  module _ (good : (j : ℕ) → j < n → is_symbol (at text (from + j)) ≡ true) (q : begins (cube_line []) (drop (from + n) text) ≡ true) where
    room : from + n + 3 ≤ length text
    room = omega (arith, begins-length (cube_line []) (drop (from + n) text) q, length-drop (from + n) text)

    symbols : List ℕ
    symbols = take n (drop from text)

    size : length symbols ≡ n
    unfolding symbols
    size = length-take-le n (drop from text) (omega (arith, room, length-drop from text))

    symbol-at : (j : ℕ) → j < n → at symbols j ≡ at text (from + j)
    unfolding symbols
    symbol-at j l = get_or-take n (drop from text) j 0 l ∙ get_or-drop from text j 0

    line_at : (j : ℕ) → j < n → at (symbols ++ cube_line []) j ≡ at text (from + j)
    line_at j l = get_or-append symbols (cube_line []) 0 j (omega (arith, size)) ∙ symbol-at j l

    all-good : every is_symbol symbols ≡ true
    all-good = every-all is_symbol symbols (λ j l. ap is_symbol (symbol-at j (omega (arith, size))) ∙ good j (omega (arith, size)))

    all-clear : no_lf symbols ≡ true
    all-clear =
        every-all (λ b. not (eqb b 10)) symbols
        (λ j l. symbol-clear (at symbols j) (ap is_symbol (symbol-at j (omega (arith, size))) ∙ good j (omega (arith, size))))

    line-ended : is_line (symbols ++ cube_line []) ≡ true
    unfolding every
    line-ended =
        ap is_line (sym (append_assoc symbols (32 ∷ 49 ∷ []) (10 ∷ [])))
        ∙ line-ends (symbols ++ (32 ∷ 49 ∷ [])) (every_append (λ b. not (eqb b 10)) symbols (32 ∷ 49 ∷ []) all-clear refl)

    line-stands : begins (symbols ++ cube_line []) (drop from text) ≡ true
    unfolding symbols
    line-stands =
        begins-append symbols (cube_line []) (drop from text)
        ∙ ap₂ ◌&&◌ (take_begins n (drop from text))
        (ap (λ (i : ℕ). begins (cube_line []) (drop i (drop from text))) size ∙ ap (begins (cube_line [])) (drop-drop n from text) ∙ q)

    line-form : pattern_form n (symbols ++ cube_line []) ≡ true
    unfolding pattern_form
    line-form =
        ap₂ ◌&&◌ (ap (every is_symbol) (take_at symbols (cube_line []) n size) ∙ all-good)
        (ap₂ ◌&&◌ (eq-eqb (length (symbols ++ cube_line [])) (n + 3) (length-append symbols (cube_line []) ∙ ap (λ (i : ℕ). i + 3) size))
        (ap (λ (l : List ℕ). equal l (cube_line [])) (drop_at symbols (cube_line []) n size) ∙ equal-same (cube_line [])))

    line-says : (m v : ℕ) → m ≡ sum (λ i. mask_bit (at text (from + i)) i) n → v ≡ sum (λ i. value_bit (at text (from + i)) i) n
        → pattern_on n (symbols ++ cube_line []) ≡ pattern m v
    unfolding pattern_on
    line-says m v e f =
        ap₂ pattern
        (sum-cong (λ i. mask_bit (at (symbols ++ cube_line []) i) i) (λ i. mask_bit (at text (from + i)) i) n
        (λ i l. ap (λ (b : ℕ). mask_bit b i) (line_at i l)) ∙ sym e)
        (sum-cong (λ i. value_bit (at (symbols ++ cube_line []) i) i) (λ i. value_bit (at text (from + i)) i) n
        (λ i l. ap (λ (b : ℕ). value_bit b i) (line_at i l)) ∙ sym f)

    there : (m v : ℕ) → m ≡ sum (λ i. mask_bit (at text (from + i)) i) n → v ≡ sum (λ i. value_bit (at text (from + i)) i) n
        → CubeLine text n from m v (from + n + 3)
    there m v e f =
        record {
          line = symbols ++ cube_line [];
          ended = line-ended;
          stands = line-stands;
          place = omega (arith, size, length-append symbols (cube_line []));
          longer = omega arith;
          within = room;
          form = line-form;
          says = line-says m v e f;
        }

  -- by the symbols and the place that were met
  pub cube-there : ((j : ℕ) → j < n → is_symbol (at text (from + j)) ≡ true) → (m v to : ℕ)
      → m ≡ sum (λ i. mask_bit (at text (from + i)) i) n → v ≡ sum (λ i. value_bit (at text (from + i)) i) n
      → to ≡ met_at text (from + n) (cube_line []) → (to ≡ lost → ⊥) → Cubed text n from (Some (m, v, to))
  unfolding Cubed
  cube-there good m v to e f g d =
      let q = met-found text h (from + n) (32 ∷ 49 ∷ 10 ∷ []) (λ w. d (g ∙ w)) in
      let p : to ≡ from + n + 3 = g ∙ met-yes text h (from + n) (cube_line []) q in
      rw p (there good q m v e f)

  -- a line of a pattern's form has the symbols and its end at their places
  sound : pattern_form n (front (drop from text)) ≡ true
      → ((j : ℕ) → j < n → is_symbol (at text (from + j)) ≡ true) × (begins (cube_line []) (drop (from + n) text) ≡ true)
  unfolding pattern_form begins
  sound e =
      let l = front (drop from text) in
      let r = drop (length l) (drop from text) in
      let u : l ++ r ≡ drop from text = front_rest (drop from text) in
      let a = and_both (every is_symbol (take n l)) _ e in
      let b = and_both (eqb (length l) (n + 3)) _ a.1 in
      let s : length l ≡ n + 3 = eqb-true (length l) (n + 3) b.0 in
      let t : length (take n l) ≡ n = length-take-le n l (omega arith) in
      let d : drop n l ≡ cube_line [] = equal-true (drop n l) (cube_line []) b.1 in (
        λ j k.
            ap is_symbol
            (sym (get_or-drop from text j 0) ∙ ap (λ (x : List ℕ). at x j) (sym u) ∙ get_or-append l r 0 j (omega arith) ∙ sym (get_or-take n l j 0 k))
            ∙ every-at is_symbol (take n l) a.0 j (omega arith),
        ap (begins (cube_line []))
            (sym (drop-drop n from text) ∙ ap (drop n) (sym u) ∙ drop-append-le n l r (omega arith) ∙ ap (λ (x : List ℕ). x ++ r) d),
      )

  none : (pattern_form n (front (drop from text)) ≡ true → ⊥) → Cubed text n from None
  unfolding Cubed
  none d = go (pattern_form n (front (drop from text))) refl
    where
      go : (q : Bool) → pattern_form n (front (drop from text)) ≡ q → q ≡ false
      go true e = absurd (d e)
      go false e = refl

  -- a byte that is no symbol, or another end
  pub no_symbol : (j : ℕ) → j < n → is_symbol (at text (from + j)) ≡ false → Cubed text n from None
  no_symbol j l e = none (λ f. not-both (is_symbol (at text (from + j))) ((sound f).0 j l) e)

  pub no_end : met_at text (from + n) (cube_line []) ≡ lost → Cubed text n from None
  no_end e =
      none (λ f. not-both (begins (cube_line []) (drop (from + n) text)) (sound f).1 (met-missed text h (from + n) (32 ∷ 49 ∷ 10 ∷ []) (omega arith) e))

-- ---- the sums, symbol by symbol

pub bit-small : (q : Bool) (s i : ℕ) → s < 2 ^ i → s + one q * 2 ^ i < 2 ^ (i + 1)
bit-small q s i h = rw (add-one i) (go q)
  where
    go : (q : Bool) → s + one q * 2 ^ i < 2 ^ suc i
    go true = omega (arith, pow_step 2 i)
    go false = omega (arith, pow_step 2 i)
