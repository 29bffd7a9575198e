-- The type line (02, Ticket 2): what the reader finds after ".o k" is what the third line says (`type-of`); what a text says of its type
-- and of the line together (`type-cases`); and on which lines the headings stand, and where those begin. Assumes nothing.
use Rattle.std.specs.Prelude.{◌≡◌, refl, Bool, true, false, cond, ◌||◌, ◌⊎◌, ℕ, ◌+◌, ◌*◌, ◌≤◌, ◌<◌, eqb, length, drop}
use Rattle.std.proofs.Math.Path.{sym, ap}
use Rattle.std.proofs.Common.{◌∙◌, inl, inr, arith, lt-ltb, le-ltb}
use mathlib.Core.List.{List, [], ◌∷◌, ◌++◌}
use Rattle.std.proofs.Math.Decide.{dec_lt}
use Rattle.slices.specs.Places.{at}
use Rattle.slices.specs.Filled.{tab-at, tab-cong, tab-list}
use Rattle.sums.specs.Sums.{one}
use Rattle.block.specs.Words.{fr, fd}
use Rattle.block.specs.Text.{type_line_of, line_at, equal, every, type_line_in, type_in, head_place}
use Rattle.read_laws.specs.declared.TypeLine.{TypeLine}
use Rattle.read_laws.specs.ByPlace.{stands_at, typed, type_at, type_bytes}
use Rattle.read_laws.specs.Tests.{not-both, equal-true, equal-same}
use Rattle.read_laws.specs.Front.{front, start, line-front, front-stands, stands_here, stands-there, stands-front, no_lf}

-- ---- a line that stands there

module _ (s : List ℕ) (from : ℕ) (line : List ℕ) where
  -- its first bytes do, so many
  abbrev pub StandsTo : ℕ → Type 0
  StandsTo count = (i : ℕ) → i < count → at s (from + i) ≡ at line i

  pub stands-more : (count : ℕ) → StandsTo count → at s (from + count) ≡ at line count → StandsTo (count + 1)
  stands-more count h e i l = go (dec_lt i count)
    where
      go : Dec (i < count) → at s (from + i) ≡ at line i
      go (yes b) = h i b
      go (no b) = let q : i ≡ count = omega arith in rw q e

  -- it stands exactly where all of its bytes do
  pub stands-all : StandsTo (length line) → stands_at s from line ≡ true
  unfolding stands_at
  stands-all h =
      ap (λ (t : List ℕ). equal t line) (tab-cong (length line) (λ i. at s (from + i)) (at line) h ∙ tab-list 0 line) ∙ equal-same line

  stands-bytes : stands_at s from line ≡ true → StandsTo (length line)
  unfolding stands_at
  stands-bytes e i l = sym (tab-at (length line) (λ i. at s (from + i)) 0 i l) ∙ ap (λ (t : List ℕ). at t i) (equal-true _ line e)

  pub stands-not : (i : ℕ) → i < length line → (at s (from + i) ≡ at line i → ⊥) → stands_at s from line ≡ false
  stands-not i l h = go (stands_at s from line) refl
    where
      go : (b : Bool) → stands_at s from line ≡ b → stands_at s from line ≡ false
      go true e = absurd (h (stands-bytes e i l))
      go false e = e

-- it stands exactly where it is the first line of the text from there on
stands-line : (b s : List ℕ) (from : ℕ) → no_lf b ≡ true
    → stands_at s from (b ++ (10 ∷ [])) ≡ equal (front (drop from s)) (b ++ (10 ∷ []))
stands-line b s from e = go (stands_at s from line) (equal (front (drop from s)) line) refl refl
  where
    line : List ℕ
    line = b ++ (10 ∷ [])

    go : (x y : Bool) → stands_at s from line ≡ x → equal (front (drop from s)) line ≡ y → stands_at s from line ≡ y
    go true true p q = p
    go false false p q = p
    go true false p q =
        let f = stands-front b (drop from s) e (stands_here s from line (stands-bytes s from line p)) in
        not-both (equal (front (drop from s)) line) (ap (λ (t : List ℕ). equal t line) f ∙ equal-same line) q
    go false true p q =
        let f : front (drop from s) ≡ line = equal-true _ line q in
        stands-all s from line (rw f at (stands-there s from (front (drop from s)) (front-stands (drop from s))))

-- a type line without its LF has none
pub type-no_lf : (y : ℕ) → no_lf (46 ∷ 116 ∷ 121 ∷ 112 ∷ 101 ∷ 32 ∷ 102 ∷ cond (eqb y fr) 114 100 ∷ []) ≡ true
unfolding every
type-no_lf y = go (eqb y fr)
  where
    go : (b : Bool) → no_lf (46 ∷ 116 ∷ 121 ∷ 112 ∷ 101 ∷ 32 ∷ 102 ∷ cond b 114 100 ∷ []) ≡ true
    go true = refl
    go false = refl

type-stands : (y : ℕ) (s : List ℕ) (i : ℕ) → stands_at s (start s i) (type_line_of y) ≡ equal (line_at s i) (type_line_of y)
type-stands y s i =
    stands-line (46 ∷ 116 ∷ 121 ∷ 112 ∷ 101 ∷ 32 ∷ 102 ∷ cond (eqb y fr) 114 100 ∷ []) s (start s i) (type-no_lf y)
    ∙ ap (λ (l : List ℕ). equal l (type_line_of y)) (sym (line-front s i))

-- what a text says of its type
abbrev pub type_said : List ℕ → TypeLine
type_said text = typed (type_in text) (type_line_in text)

-- what the reader finds where the third line starts
pub type-of : (text : List ℕ) → type_at text (start text 2) ≡ type_said text
unfolding type_at type_in type_line_in
type-of text = rw (type-stands fr text 2, type-stands fd text 2)

-- ---- the type and its line together

-- no line, and then fd; or the line of the type
pub type-cases : (text : List ℕ)
    → ((type_line_in text ≡ 0) × (type_in text ≡ fd)) ⊎ ((type_line_in text ≡ 1) × (line_at text 2 ≡ type_line_of (type_in text)))
unfolding type_in type_line_in
type-cases text = go (equal (line_at text 2) (type_line_of fr)) (equal (line_at text 2) (type_line_of fd)) refl refl
  where
    go : (a b : Bool) → equal (line_at text 2) (type_line_of fr) ≡ a → equal (line_at text 2) (type_line_of fd) ≡ b
        → ((one (a || b) ≡ 0) × (cond a fr fd ≡ fd)) ⊎ ((one (a || b) ≡ 1) × (line_at text 2 ≡ type_line_of (cond a fr fd)))
    go true b p q = inr (refl, equal-true _ _ p)
    go false true p q = inr (refl, equal-true _ _ q)
    go false false p q = inl (refl, refl)

-- the type is one of the two
pub type-known : (text : List ℕ) → (fr ≤ type_in text) × (type_in text ≤ fd)
unfolding type_in
type-known text = go (equal (line_at text 2) (type_line_of fr))
  where
    go : (a : Bool) → (fr ≤ cond a fr fd) × (cond a fr fd ≤ fd)
    go true = (omega arith, omega arith)
    go false = (omega arith, omega arith)

pub type-line-le : (text : List ℕ) → type_line_in text ≤ 1
type-line-le text = go (type-cases text)
  where
    go : ((type_line_in text ≡ 0) × (type_in text ≡ fd)) ⊎ ((type_line_in text ≡ 1) × (line_at text 2 ≡ type_line_of (type_in text))) → type_line_in text ≤ 1
    go (inl (z, t)) = omega arith
    go (inr (z, t)) = omega arith

-- ---- the lines of the headings

-- up to .o each on its own line, and from .p on one further where the type line stands
pub place-low : (text : List ℕ) (i : ℕ) → i < 2 → head_place text i ≡ i
unfolding head_place
place-low text i h = rw (lt-ltb i 2 h)

pub place-high : (text : List ℕ) (i : ℕ) → 2 ≤ i → head_place text i ≡ i + type_line_in text
unfolding head_place
place-high text i h = rw (le-ltb i 2 h)

-- where the line of .p begins
pub count-start : (text : List ℕ) → start text (head_place text 2) ≡ start text 2 + type_line_in text * type_bytes
unfolding start
count-start text = rw (place-high text 2 (omega arith)) (go (type-cases text))
  where
    go : ((type_line_in text ≡ 0) × (type_in text ≡ fd)) ⊎ ((type_line_in text ≡ 1) × (line_at text 2 ≡ type_line_of (type_in text)))
        → start text (2 + type_line_in text) ≡ start text 2 + type_line_in text * type_bytes
    go (inl (z, t)) = rw z (omega arith)
    go (inr (z, t)) = rw z (ap (λ (l : List ℕ). start text 2 + length l) (sym (line-front text 2) ∙ t))
