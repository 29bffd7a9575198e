-- What is due on each line of the headings, the type line among them (`line_due`): a heading on its line (`place-due`), and where the
-- headings before one have form, so has every line before it (`below-due`). Assumes nothing.
use Rattle.std.specs.Prelude.{◌≡◌, Bool, cond, ◌||◌, List, ◌⊎◌, ℕ, ◌+◌, ◌≤◌, ◌<◌, ltb}
use Rattle.std.proofs.Math.Path.{refl}
use Rattle.std.proofs.Common.{sym, ap, ◌∙◌, inl, inr, arith, lt-ltb, le-ltb}
use Rattle.std.proofs.Math.Bool.{true, false}
use Rattle.std.proofs.Math.Decide.{dec_lt}
use Rattle.sums.specs.Sums.{one}
use Rattle.block.specs.Words.{fr, fd}
use Rattle.block.specs.Text.{type_line_of, line_at, equal, type_line_in, head_count, head_place, head_due}
use Rattle.read_laws.specs.TypeLines.{type-line-le, place-low, place-high}

abbrev pub is_type_line : List ℕ → Bool
is_type_line l = equal l (type_line_of fr) || equal l (type_line_of fd)

-- line i, from 0, has the form due there, where z type lines follow .o
abbrev pub line_due : ℕ → ℕ → List ℕ → Bool
line_due z i l = cond (ltb i 2) (head_due i l) (cond (ltb i (2 + z)) (is_type_line l) (head_due 2 l))

module _ (text : List ℕ) where
  abbrev z : ℕ
  z = type_line_in text

  -- heading i has form
  abbrev pub HeadSound : ℕ → Type 0
  HeadSound i = head_due i (line_at text (head_place text i)) ≡ true

  pub place-due : (i : ℕ) (l : List ℕ) → i < head_count → line_due z (head_place text i) l ≡ head_due i l
  place-due i l h = go (dec_lt i 2)
    where
      go : Dec (i < 2) → line_due z (head_place text i) l ≡ head_due i l
      go (yes b) = rw (place-low text i b, lt-ltb i 2 b)
      go (no b) =
          let e : i ≡ 2 = omega arith in
          rw (e, place-high text 2 (omega arith), le-ltb (2 + z) 2 (omega arith), le-ltb (2 + z) (2 + z) (omega arith))

  -- the type line has form where it stands
  pub type-due : 1 ≤ z → is_type_line (line_at text 2) ≡ true
  unfolding type_line_in
  type-due = go (is_type_line (line_at text 2))
    where
      go : (b : Bool) → 1 ≤ one b → b ≡ true
      go true h = refl
      go false h = absurd (omega arith)

  -- a line of the headings is that of a heading, or the type line where that stands
  pub heading-at : (i : ℕ) → i < head_place text head_count → ((j : ℕ) × (j < head_count) × (head_place text j ≡ i)) ⊎ ((i ≡ 2) × (1 ≤ z))
  heading-at i h = go (dec_lt i 2) (dec_lt i (2 + z))
    where
      go : Dec (i < 2) → Dec (i < 2 + z) → ((j : ℕ) × (j < head_count) × (head_place text j ≡ i)) ⊎ ((i ≡ 2) × (1 ≤ z))
      go (yes b) c = inl (i, omega arith, place-low text i b)
      go (no b) (yes c) = inr (omega (arith, type-line-le text), omega arith)
      go (no b) (no c) = inl (2, omega arith, omega (arith, place-high text 2 (omega arith), place-high text head_count (omega arith)))

  -- later headings stand on later lines
  pub place-later : (i j : ℕ) → i < j → head_place text i < head_place text j
  place-later i j h = go (dec_lt i 2) (dec_lt j 2)
    where
      go : Dec (i < 2) → Dec (j < 2) → head_place text i < head_place text j
      go (yes b) (yes c) = omega (arith, place-low text i b, place-low text j c)
      go (yes b) (no c) = omega (arith, place-low text i b, place-high text j (omega arith))
      go (no b) c = omega (arith, place-high text i (omega arith), place-high text j (omega arith))

  place-back : (i j : ℕ) → head_place text i < head_place text j → i < j
  place-back i j h = go (dec_lt i j) (dec_lt j i)
    where
      go : Dec (i < j) → Dec (j < i) → i < j
      go (yes b) c = b
      go (no b) (yes c) = absurd (omega (arith, place-later j i c))
      go (no b) (no c) = let e : i ≡ j = omega arith in absurd (omega (arith, ap (head_place text) e))

  -- where the headings before one have form, so has every line before it
  pub below-due : (i : ℕ) → i ≤ head_count → ((j : ℕ) → j < i → HeadSound j) → (l : ℕ) → l < head_place text i → line_due z l (line_at text l) ≡ true
  below-due i b h l p = go (heading-at l (before (dec_lt i head_count)))
    where
      before : Dec (i < head_count) → l < head_place text head_count
      before (yes c) = omega (arith, place-later i head_count c)
      before (no c) = let e : i ≡ head_count = omega arith in omega (arith, ap (head_place text) e)

      go : ((j : ℕ) × (j < head_count) × (head_place text j ≡ l)) ⊎ ((l ≡ 2) × (1 ≤ z)) → line_due z l (line_at text l) ≡ true
      go (inl (j, c, e)) =
          let q : j < i = place-back j i (omega arith) in
          ap (λ (x : ℕ). line_due z x (line_at text x)) (sym e) ∙ place-due j (line_at text (head_place text j)) c ∙ h j q
      go (inr (e, c)) = rw (e, lt-ltb 2 (2 + z) (omega arith)) (type-due c)
