-- What lies beyond the first 8,192 bytes of a text changes no answer (`first-bytes`): a line that is due is no longer than a row, so the
-- first line that is not, or the end, shows itself before that. Assumes nothing.
use Rattle.std.specs.Prelude.{◌≡◌, refl, Bool, true, false, ◌||◌, ◌⊎◌, eqb, ltb, take, drop}
use Rattle.std.proofs.Math.Path.{sym, ap}
use Rattle.std.proofs.Common.{◌∙◌, inl, inr, zero-add, suc-add, take_all, length-take-le}
use Rattle.std.proofs.Math.Bool.{not, cond}
use mathlib.Core.List.{List, [], ◌∷◌}
use Prim.Native.Nat.{ℕ, zero, suc, ◌+◌, ◌-◌, ◌*◌, ◌≤◌, ◌<◌}
use Rattle.std.proofs.Math.Decide.{dec_lt, dec_le}
use native.Mathlib.Omega.{arith}
use borrow.Author.Tests.{lt-ltb, not-false}
use Rattle.std.proofs.Math.ListN.{length}
use Rattle.std.proofs.Math.Seq.{take-nil}
use Rattle.slices.specs.Places.{first}
use Rattle.slices.specs.Least.{first-le, first_below, first-same}
use Rattle.sums.specs.Sums.{one}
use Rattle.block.specs.Limits.{list_inputs, outputs, given_rows, row_bytes, read_bytes}
use Rattle.block.specs.Words.{fr, fd}
use Rattle.block.specs.Refusals.{answer, verdict, outside}
use Rattle.block.specs.Text.{end_line, type_line_of, lines, line_at, equal, head_digits, number_part, head_form, value_of, type_line_in, type_in, head_count, head_place, head_due, head_fault, head_number, inputs_in, outputs_in, count_in, body, body_due, body_fault, first_line, read_verdict, with_headings, read_text}
use Rattle.block.specs.declared.Answer.{Answer}
use Rattle.block.specs.declared.ReadAnswer.{ReadAnswer}
use Rattle.shared_checks.specs.Sizes.{inside}
use Rattle.put_text.specs.Length.{heading-le}
use Rattle.read_laws.specs.Tests.{equal-true}
use Rattle.read_laws.specs.Front.{front, start, line-front, lines_from}
use Rattle.read_laws.specs.HeadLines.{form-written}
use Rattle.read_laws.specs.TypeLines.{type-cases, type-line-le, place-low, place-high}
use Rattle.read_laws.specs.RowLines.{row-length}
use Rattle.read_laws.specs.Whole.{row-due, end-due, past-due}
use Rattle.text_theorems.specs.Accepted.{accepted-le}
use Rattle.text_theorems.specs.Due.{is_type_line, line_due, HeadSound, place-due, type-due, place-later, below-due}

-- ---- the lines of a text that is cut off

front-take : (m : ℕ) (s : List ℕ) → front (take m s) ≡ take m (front s)
unfolding front
front-take zero s = refl
front-take (suc m) [] = refl
front-take (suc m) (b ∷ bs) = go (eqb b 10) (front-take m bs)
  where
    go : (t : Bool) → front (take m bs) ≡ take m (front bs)
        → cond t (10 ∷ []) (b ∷ front (take m bs)) ≡ take (suc m) (cond t (10 ∷ []) (b ∷ front bs))
    go true ih = ap (λ (l : List ℕ). 10 ∷ l) (sym (take-nil m))
    go false ih = ap (λ (l : List ℕ). b ∷ l) ih

drop-take : (a m : ℕ) (s : List ℕ) → drop a (take (a + m) s) ≡ take m (drop a s)
drop-take zero m s = ap (λ (i : ℕ). take i s) (zero-add m)
drop-take (suc a) m [] = rw (suc-add a m) (sym (take-nil m))
drop-take (suc a) m (b ∷ s) = rw (suc-add a m) (drop-take a m s)

front-from : (s : List ℕ) (m a : ℕ) → a ≤ m → front (drop a (take m s)) ≡ take (m - a) (front (drop a s))
front-from s m a h =
    let e : m ≡ a + (m - a) = omega arith in
    ap (λ (i : ℕ). front (drop a (take i s))) e
    ∙ ap front (drop-take a (m - a) s)
    ∙ front-take (m - a) (drop a s)

start-take : (s : List ℕ) (m i : ℕ) → start s i ≤ m → start (take m s) i ≡ start s i
unfolding start
start-take s m zero h = refl
start-take s m (suc i) h =
    let e = start-take s m i (omega arith) in
    let f = front-from s m (start s i) (omega arith) in
    let g = take_all (m - start s i) (front (drop (start s i) s)) (omega arith) in
    rw e (ap (λ (l : List ℕ). start s i + length l) (f ∙ g))

line-take : (s : List ℕ) (m i : ℕ) → start s i ≤ m → line_at (take m s) i ≡ take (m - start s i) (line_at s i)
line-take s m i h =
    line-front (take m s) i
    ∙ ap (λ (a : ℕ). front (drop a (take m s))) (start-take s m i h)
    ∙ front-from s m (start s i) h
    ∙ ap (take (m - start s i)) (sym (line-front s i))

-- ---- a test of lines that passes none longer than the longest row

abbrev longest : ℕ
longest = row_bytes list_inputs outputs

module _ (s : List ℕ) (m c : ℕ) (room : c * longest + longest < m) (d : ℕ → List ℕ → Bool)
    (short : (i : ℕ) (l : List ℕ) → i < c → d i l ≡ true → length l ≤ longest) where
  pub starts_by : (i : ℕ) → i ≤ c → ((j : ℕ) → j < i → d j (line_at s j) ≡ true) → start s i ≤ i * longest
  unfolding start
  starts_by zero l h = omega arith
  starts_by (suc i) l h =
      omega (
        arith,
        starts_by i (omega arith) (λ j b. h j (omega arith)),
        short i (line_at s i) (omega arith) (h i (omega arith)),
        ap length (line-front s i),
      )

  -- a place that is reached leaves room for a line
  reached : (i : ℕ) → i ≤ c → ((j : ℕ) → j < i → d j (line_at s j) ≡ true) → start s i + longest < m
  reached i l h = omega (arith, starts_by i l h)

  -- lines that pass are not cut off
  pub lines-kept : (i : ℕ) → i < c → ((j : ℕ) → j ≤ i → d j (line_at s j) ≡ true) → line_at (take m s) i ≡ line_at s i
  lines-kept i l h =
      let r = reached i (omega arith) (λ j b. h j (omega arith)) in
      line-take s m i (omega arith) ∙ take_all (m - start s i) (line_at s i) (omega (arith, short i (line_at s i) l (h i (omega arith))))

  -- the first line that does not pass is the same
  test-kept : (i : ℕ) → i < c → ((j : ℕ) → j < i → d j (line_at s j) ≡ true) → d i (line_at s i) ≡ d i (line_at (take m s) i)
  test-kept i l h =
      rw (line-take s m i (omega (arith, r))) (go (dec_le (length (line_at s i)) (m - start s i)))
    where
      r : start s i + longest < m
      r = reached i (omega arith) h

      long : (t : List ℕ) → longest < length t → d i t ≡ false
      long t b = over (d i t) refl
        where
          over : (x : Bool) → d i t ≡ x → d i t ≡ false
          over true e = absurd (omega (arith, short i t l e))
          over false e = e

      go : Dec (length (line_at s i) ≤ m - start s i) → d i (line_at s i) ≡ d i (take (m - start s i) (line_at s i))
      go (yes b) = ap (d i) (sym (take_all (m - start s i) (line_at s i) b))
      go (no b) =
          long (line_at s i) (omega (arith, r))
          ∙ sym (long (take (m - start s i) (line_at s i)) (omega (arith, r, length-take-le (m - start s i) (line_at s i) (omega arith))))

  pub first-kept : first c (λ i. not (d i (line_at s i))) ≡ first c (λ i. not (d i (line_at (take m s) i)))
  first-kept =
      first-same c (λ i. not (d i (line_at s i))) (λ i. not (d i (line_at (take m s) i)))
      (λ i l h. ap not (test-kept i l (λ j b. not-false (d j (line_at s j)) (h j b))))

-- ---- lines that are due are short

heading-short : (letter : ℕ) (l : List ℕ) → head_form letter l ≡ true → length l ≤ longest
heading-short letter l e =
    let f = form-written letter l e in
    omega (arith, ap length f.0, heading-le letter (value_of (number_part l)) head_digits (omega arith) f.1)

body-short : (n k p : ℕ) → n ≤ list_inputs → k ≤ outputs → (i : ℕ) (l : List ℕ) → body_due n k p i l ≡ true → length l ≤ longest
body-short n k p hn hk i l e = go (dec_lt i p) (dec_lt p i)
  where
    go : Dec (i < p) → Dec (p < i) → length l ≤ longest
    go (yes b) c = omega (arith, row-length n k l (sym (row-due n k p i l b) ∙ e))
    go (no b) (no c) =
        let q : i ≡ p = omega arith in
        omega (arith, ap length (equal-true l end_line (sym (end-due n k p l) ∙ ap (λ (j : ℕ). body_due n k p j l) (sym q) ∙ e)))
    go (no b) (yes c) = omega (arith, ap length (equal-true l [] (sym (past-due n k p i l c) ∙ e)))

-- of the headings and of the type line
line-short : (z i : ℕ) (l : List ℕ) → line_due z i l ≡ true → length l ≤ longest
line-short z i l e = go (ltb i 2) (ltb i (2 + z)) e
  where
    type-short : (a b : Bool) → equal l (type_line_of fr) ≡ a → equal l (type_line_of fd) ≡ b → a || b ≡ true → length l ≤ longest
    type-short true b p q e = omega (arith, ap length (equal-true l (type_line_of fr) p))
    type-short false true p q e = omega (arith, ap length (equal-true l (type_line_of fd) q))
    type-short false false p q e = let z : ◌≡◌ {A = ℕ} 0 1 = cc in absurd (omega arith)

    go : (a b : Bool) → cond a (head_due i l) (cond b (is_type_line l) (head_due 2 l)) ≡ true → length l ≤ longest
    go true b e = heading-short _ l e
    go false true e = type-short (equal l (type_line_of fr)) (equal l (type_line_of fd)) refl refl e
    go false false e = heading-short _ l e

-- ---- the answer

-- the checks of reading by their numbers: f and g are the least faulty heading and the least faulty line of the body, a is the line of
-- the one and b the body's first, counted from 1
abbrev checks : ℕ → ℕ → ℕ → ℕ → ℕ → ℕ → ℕ → ℕ → Answer
checks f n k p room a b g =
    cond (ltb f head_count) (answer 10 a 0)
    (cond (outside 1 list_inputs n) (answer 1 0 0)
    (cond (outside 1 outputs k) (answer 2 0 0)
    (cond (outside 1 given_rows p) (answer 4 0 0)
    (cond (ltb room p) (answer 5 0 0)
    (cond (ltb g (p + 2)) (answer 10 (b + g) 0) (answer 0 0 0))))))

-- the body counts only where the ranges hold
checks-same : (f n k p room a b g g' : ℕ) → (n ≤ list_inputs → k ≤ outputs → p ≤ given_rows → g ≡ g')
    → checks f n k p room a b g ≡ checks f n k p room a b g'
checks-same f n k p room a b g g' h =
    go (ltb f head_count) (outside 1 list_inputs n) (outside 1 outputs k) (outside 1 given_rows p) refl refl refl
  where
    last : ℕ → Answer
    last g = cond (ltb room p) (answer 5 0 0) (cond (ltb g (p + 2)) (answer 10 (b + g) 0) (answer 0 0 0))

    go : (t u v w : Bool) → outside 1 list_inputs n ≡ u → outside 1 outputs k ≡ v → outside 1 given_rows p ≡ w
        → cond t (answer 10 a 0) (cond u (answer 1 0 0) (cond v (answer 2 0 0) (cond w (answer 4 0 0) (last g))))
        ≡ cond t (answer 10 a 0) (cond u (answer 1 0 0) (cond v (answer 2 0 0) (cond w (answer 4 0 0) (last g'))))
    go true u v w q r s = refl
    go false true v w q r s = refl
    go false false true w q r s = refl
    go false false false true q r s = refl
    go false false false false q r s = ap last (h (inside 1 list_inputs n q).1 (inside 1 outputs k r).1 (inside 1 given_rows p s).1)

module _ (text : List ℕ) (room : ℕ) where
  abbrev cut_text : List ℕ
  cut_text = take read_bytes text

  abbrev z : ℕ
  z = type_line_in text

  -- the body's first line
  abbrev fourth : ℕ
  fourth = head_place text head_count

  -- the lines of the headings lie far before the cut
  far : fourth * longest + longest < read_bytes
  far = omega (arith, place-high text head_count (omega arith), type-line-le text)

  -- where ".i n" and ".o k" have form: the type and its line

  module _ (h : (j : ℕ) → j < 2 → HeadSound text j) where
    two-due : (j : ℕ) → j < 2 → line_due 1 j (line_at text j) ≡ true
    two-due j b = rw (lt-ltb j 2 b) (ap (λ (i : ℕ). head_due j (line_at text i)) (sym (place-low text j b)) ∙ h j b)

    three-due : 1 ≤ z → (j : ℕ) → j ≤ 2 → line_due 1 j (line_at text j) ≡ true
    three-due e j b = go (dec_lt j 2)
      where
        go : Dec (j < 2) → line_due 1 j (line_at text j) ≡ true
        go (yes c) = two-due j c
        go (no c) = let q : j ≡ 2 = omega arith in rw q (type-due text e)

    type-line-kept : type_line_in cut_text ≡ z
    unfolding type_line_in
    type-line-kept = ap one (sym (test-kept text read_bytes 3 (omega arith) (line_due 1) (λ i l b. line-short 1 i l) 2 (omega arith) two-due))

    type-kept : type_in cut_text ≡ type_in text
    unfolding type_in
    type-kept = go (type-cases text) (type-cases cut_text)
      where
        go : ((z ≡ 0) × (type_in text ≡ fd)) ⊎ ((z ≡ 1) × (line_at text 2 ≡ type_line_of (type_in text)))
            → ((type_line_in cut_text ≡ 0) × (type_in cut_text ≡ fd)) ⊎ ((type_line_in cut_text ≡ 1) × (line_at cut_text 2 ≡ type_line_of (type_in cut_text)))
            → type_in cut_text ≡ type_in text
        go (inl (e, t)) (inl (f, u)) = u ∙ sym t
        go (inl (e, t)) (inr (f, u)) = absurd (omega (arith, type-line-kept))
        go (inr (e, t)) o =
            ap (λ (l : List ℕ). cond (equal l (type_line_of fr)) fr fd)
            (lines-kept text read_bytes 3 (omega arith) (line_due 1) (λ i l b. line-short 1 i l) 2 (omega arith) (three-due (omega arith)))

    place_kept : (i : ℕ) → head_place cut_text i ≡ head_place text i
    unfolding head_place
    place_kept i = rw type-line-kept

  -- the line of the first heading that has not form, or of any where all have, is the same
  place_same : (i : ℕ) → ((j : ℕ) → j < i → HeadSound text j) → head_place cut_text i ≡ head_place text i
  place_same i h = go (dec_lt i 2)
    where
      go : Dec (i < 2) → head_place cut_text i ≡ head_place text i
      go (yes b) = place-low cut_text i b ∙ sym (place-low text i b)
      go (no b) = place_kept (λ j c. h j (omega arith)) i

  heads-kept : head_fault text ≡ head_fault cut_text
  unfolding head_fault
  heads-kept =
      first-same head_count (λ i. not (head_due i (line_at text (head_place text i)))) (λ i. not (head_due i (line_at cut_text (head_place cut_text i))))
      (λ i l h. ap not (same i l (λ j b. not-false (head_due j (line_at text (head_place text j))) (h j b))))
    where
      same : (i : ℕ) → i < head_count → ((j : ℕ) → j < i → HeadSound text j)
          → head_due i (line_at text (head_place text i)) ≡ head_due i (line_at cut_text (head_place cut_text i))
      same i l h =
          sym (place-due text i (line_at text (head_place text i)) l)
          ∙ test-kept text read_bytes fourth far (line_due z) (λ i l b. line-short z i l) (head_place text i) (place-later text i head_count l)
          (below-due text i (omega arith) h)
          ∙ place-due text i (line_at cut_text (head_place text i)) l
          ∙ ap (λ (j : ℕ). head_due i (line_at cut_text j)) (sym (place_same i h))

  fault-place : head_place text (head_fault text) ≡ head_place cut_text (head_fault cut_text)
  unfolding head_fault
  fault-place =
      sym
      (place_same (head_fault text)
      (λ j b. not-false (head_due j (line_at text (head_place text j))) (first_below head_count (λ i. not (head_due i (line_at text (head_place text i)))) j b)))
      ∙ ap (head_place cut_text) heads-kept

  -- where the headings have form: their lines, their numbers, and the lines of the body

  module _ (f : head_fault text ≡ head_count) where
    heads-due : (i : ℕ) → i < head_count → HeadSound text i
    unfolding head_fault
    heads-due i h =
        not-false (head_due i (line_at text (head_place text i)))
        (first_below head_count (λ i. not (head_due i (line_at text (head_place text i)))) i (omega arith))

    all-due : (l : ℕ) → l < fourth → line_due z l (line_at text l) ≡ true
    all-due = below-due text head_count (omega arith) heads-due

    places : (i : ℕ) → head_place cut_text i ≡ head_place text i
    places = place_kept (λ j b. heads-due j (omega arith))

    numbers-kept : (i : ℕ) → i < head_count → head_number cut_text i ≡ head_number text i
    numbers-kept i h =
        ap (λ (l : List ℕ). value_of (number_part l))
        (ap (line_at cut_text) (places i)
        ∙ lines-kept text read_bytes fourth far (line_due z) (λ i l b. line-short z i l) (head_place text i) (place-later text i head_count h)
        (λ j b. all-due j (omega (arith, place-later text i head_count h))))

    -- the text after the headings
    abbrev rest : List ℕ
    rest = drop (start text fourth) text

    body-start : start text fourth ≤ (head_count + 1) * longest
    body-start =
        omega (
          arith,
          starts_by text read_bytes fourth far (line_due z) (λ i l b. line-short z i l) fourth (omega arith) all-due,
          place-high text head_count (omega arith),
          type-line-le text,
        )

    body_kept : body cut_text ≡ lines (take (read_bytes - start text fourth) rest)
    body_kept =
        let l = body-start in
        let e : read_bytes ≡ start text fourth + (read_bytes - start text fourth) = omega arith in
        ap (λ (i : ℕ). drop i (lines cut_text)) (places head_count)
        ∙ lines_from cut_text fourth
        ∙ ap (λ (i : ℕ). lines (drop i cut_text)) (start-take text read_bytes fourth (omega arith))
        ∙ ap (λ (i : ℕ). lines (drop (start text fourth) (take i text))) e
        ∙ ap lines (drop-take (start text fourth) (read_bytes - start text fourth) text)

    -- the least faulty line of the body, where the ranges hold
    line_kept : (n k p : ℕ) → n ≤ list_inputs → k ≤ outputs → p ≤ given_rows → body_fault n k p (body text) ≡ body_fault n k p (body cut_text)
    unfolding body_fault
    line_kept n k p hn hk hp =
        ap (body_fault n k p) (lines_from text fourth)
        ∙ first-kept rest (read_bytes - start text fourth) (p + 2) (omega (arith, body-start)) (body_due n k p) (λ i l h. body-short n k p hn hk i l)
        ∙ ap (body_fault n k p) (sym body_kept)

  pub first-bytes : read_text text room ≡ read_text cut_text room
  unfolding read_text read_verdict verdict head_fault
  first-bytes = go (dec_lt (head_fault text) head_count)
    where
      -- the answer by the numbers of the headings
      answer_of : List ℕ → ℕ → ℕ → ℕ → ℕ → ℕ → ℕ → ℕ → ℕ → ReadAnswer
      answer_of s f n k y z p a b = with_headings (checks f n k p room (first_line + a) (first_line + b) (body_fault n k p (body s))) n k y z p

      renamed : (s : List ℕ) (f f' n n' k k' y y' z z' p p' a a' b b' : ℕ) → f ≡ f' → n ≡ n' → k ≡ k' → y ≡ y' → z ≡ z' → p ≡ p' → a ≡ a' → b ≡ b'
          → answer_of s f n k y z p a b ≡ answer_of s f' n' k' y' z' p' a' b'
      renamed s f f' n n' k k' y y' z z' p p' a a' b b' e1 e2 e3 e4 e5 e6 e7 e8 = rw (e1, e2, e3, e4, e5, e6, e7, e8)

      -- a heading that is not due
      stopped : (s : List ℕ) (f n k y z p a b : ℕ) → f < head_count
          → answer_of s f n k y z p a b ≡ with_headings (answer 10 (first_line + a) 0) 0 0 0 0 0
      stopped s f n k y z p a b l = rw (lt-ltb f head_count l)

      go : Dec (head_fault text < head_count) → read_text text room ≡ read_text cut_text room
      go (yes l) =
          stopped text (head_fault text) (inputs_in text) (outputs_in text) (type_in text) z (count_in text) (head_place text (head_fault text)) fourth l
          ∙ ap (λ (a : ℕ). with_headings (answer 10 (first_line + a) 0) 0 0 0 0 0) fault-place
          ∙ sym
          (stopped cut_text (head_fault cut_text) (inputs_in cut_text) (outputs_in cut_text) (type_in cut_text) (type_line_in cut_text) (count_in cut_text)
          (head_place cut_text (head_fault cut_text)) (head_place cut_text head_count) (omega (arith, heads-kept)))
      go (no l) =
          let f : head_fault text ≡ head_count =
          omega (arith, first-le head_count (λ i. not (head_due i (line_at text (head_place text i))))) in
          let n = inputs_in text in
          let k = outputs_in text in
          let y = type_in text in
          let p = count_in text in
          let a = head_place text (head_fault text) in
          let h : (j : ℕ) → j < 2 → HeadSound text j = λ j b. heads-due f j (omega arith) in
          ap (λ (v : Answer). with_headings v n k y z p)
          (checks-same (head_fault text) n k p room (first_line + a) (first_line + fourth) (body_fault n k p (body text)) (body_fault n k p (body cut_text)) (line_kept f n k p))
          ∙ renamed cut_text (head_fault text) (head_fault cut_text) n (inputs_in cut_text) k (outputs_in cut_text) y (type_in cut_text) z (type_line_in cut_text)
          p (count_in cut_text) a (head_place cut_text (head_fault cut_text)) fourth (head_place cut_text head_count) heads-kept
          (sym (numbers-kept f 0 (omega arith))) (sym (numbers-kept f 1 (omega arith))) (sym (type-kept h)) (sym (type-line-kept h))
          (sym (numbers-kept f 2 (omega arith))) fault-place (sym (places f head_count))

-- a text whose first 8,192 bytes are accepted ends within them
pub accepted-whole : (text : List ℕ) (room : ℕ) → (read_verdict (take read_bytes text) room).number ≡ 0 → take read_bytes text ≡ text
unfolding read_text
accepted-whole text room e =
    let z : (read_verdict text room).number ≡ 0 = ap (λ (a : ReadAnswer). a.number) (first-bytes text room) ∙ e in
    take_all read_bytes text (omega (arith, accepted-le text room z))
