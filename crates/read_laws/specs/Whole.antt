-- The headings and the body: the reader's headings are those of their lines, and the faulty line that it finds in the body is the least
-- that is not of the form due there. Assumes nothing.
use Rattle.std.specs.Prelude.{◌≡◌, Bool, true, cond, ◌&&◌, ltb, drop, Some, None}
use Rattle.std.proofs.Math.Path.{refl, ap}
use Rattle.std.proofs.Common.{sym, ap₂, ◌∙◌, zero-add, add-one, length-drop}
use Rattle.std.proofs.Math.Bool.{false, not}
use mathlib.Core.List.{List, [], ◌∷◌, ◌++◌}
use Prim.Native.Nat.{ℕ, zero, suc, ◌+◌, ◌-◌, ◌*◌, ◌≤◌, ◌<◌}
use Rattle.std.proofs.Math.Decide.{dec_lt, ℕ_discrete}
use Rattle.std.proofs.Math.Nat.{add-zero}
use native.Mathlib.Omega.{arith}
use borrow.Author.Tests.{lt-ltb, le-ltb, eq-eqb, ne_eqb, eqb-true, not-false}
use Rattle.std.proofs.Math.Dec.{eqb}
use Rattle.std.proofs.Math.ListN.{length, get_or-eq_default}
use Rattle.std.proofs.Math.Seq.{get_or-drop}
use Rattle.slices.specs.Places.{at, first}
use Rattle.slices.specs.Least.{first-is, first-le, first_below, first_passes}
use Rattle.block.specs.Text.{end_line, lines, line_at, equal, every, number_part, head_form, row_form, row_on, value_of, body_due, body_fault}
use Rattle.read_laws.specs.ByPlace.{head_at, is_broken, line_of, broken_line, end_of, fault_of}
use Rattle.read_laws.specs.Tests.{not-both, equal-true, equal-same}
use Rattle.read_laws.specs.Front.{front, start, line-front, Stands, front-stands, stands-front, no_lf}
use Rattle.read_laws.specs.HeadLines.{head-line}
use Rattle.read_laws.specs.RowLines.{row-line, row-at-place, row-length}

-- ---- headings

-- the heading from the start of line i on is that of line i
pub head_of : (letter : ℕ) (s : List ℕ) (i : ℕ) → (letter ≡ 10 → ⊥)
    → head_at s (start s i) letter
    ≡ cond (head_form letter (line_at s i)) (Some (value_of (number_part (line_at s i)), length (line_at s i))) None
head_of letter s i l = rw (line-front s i) (head-line letter s (start s i) l)

-- ---- the rows

module _ (s : List ℕ) (n k : ℕ) where
  -- rows of row form start at their places
  pub row-start : (j : ℕ) → ((i : ℕ) → i < j → row_form n k (line_at s i) ≡ true) → start s j ≡ j * (n + k + 2)
  unfolding start
  row-start zero h = omega arith
  row-start (suc j) h =
      let l = row-length n k (line_at s j) (h j (omega arith)) in
      omega (arith, row-start j (λ i p. h i (omega arith)), ap length (line-front s j))

  -- row i, where those before it have row form
  pub line-of : (j : ℕ) → ((i : ℕ) → i < j → row_form n k (line_at s i) ≡ true)
      → line_of s n k j ≡ cond (row_form n k (line_at s j)) (Some (row_on n k (line_at s j))) None
  unfolding line_of
  line-of j h =
      rw (← (row-start j h), line-front s j) (row-at-place s n k (start s j) ∙ row-line (drop (start s j) s) n k)

  -- a row is broken where its line lacks row form
  pub broken-line : (j : ℕ) → ((i : ℕ) → i < j → row_form n k (line_at s i) ≡ true) → broken_line s n k j ≡ not (row_form n k (line_at s j))
  broken-line j h = rw (line-of j h) (go (row_form n k (line_at s j)))
    where
      go : (t : Bool) → is_broken (cond t (Some (row_on n k (line_at s j))) None) ≡ not t
      go true = refl
      go false = refl

  -- the least broken row is the least line that lacks row form
  rows-first : (p : ℕ) → first p (broken_line s n k) ≡ first p (λ i. not (row_form n k (line_at s i)))
  rows-first p =
      first-is p (broken_line s n k) (first p (λ i. not (row_form n k (line_at s i)))) (first-le p (λ i. not (row_form n k (line_at s i))))
      (λ j h. broken-line j (λ i q. formed i (omega arith)) ∙ first_below p (λ i. not (row_form n k (line_at s i))) j h)
      (λ h. broken-line (first p (λ i. not (row_form n k (line_at s i)))) formed ∙ first_passes p (λ i. not (row_form n k (line_at s i))) h)
    where
      formed : (i : ℕ) → i < first p (λ i. not (row_form n k (line_at s i))) → row_form n k (line_at s i) ≡ true
      formed i h = not-false (row_form n k (line_at s i)) (first_below p (λ i. not (row_form n k (line_at s i))) i h)

-- ---- the last line, and nothing more

-- the front is the last line where its three bytes are there
end-line : (r : List ℕ) → equal (front r) end_line ≡ eqb (at r 0) 46 && (eqb (at r 1) 101 && eqb (at r 2) 10)
unfolding every
end-line r = go (equal (front r) end_line) refl (eqb (at r 0) 46) (eqb (at r 1) 101) (eqb (at r 2) 10) refl refl refl
  where
    byte : front r ≡ end_line → (i : ℕ) → i < 3 → at r i ≡ at end_line i
    byte f i h = ap (at r) (sym (zero-add i)) ∙ front-stands r i (omega (arith, ap length f)) ∙ ap (λ (l : List ℕ). at l i) f

    stand : at r 0 ≡ 46 → at r 1 ≡ 101 → at r 2 ≡ 10 → Stands r 0 ((46 ∷ 101 ∷ []) ++ (10 ∷ []))
    stand a b c zero h = a
    stand a b c (suc zero) h = b
    stand a b c (suc (suc zero)) h = c
    stand a b c (suc (suc (suc i))) h = absurd (omega arith)

    go : (t : Bool) → equal (front r) end_line ≡ t → (x y z : Bool) → eqb (at r 0) 46 ≡ x → eqb (at r 1) 101 ≡ y → eqb (at r 2) 10 ≡ z
        → t ≡ x && (y && z)
    go true e x y z p q u =
        let f = equal-true (front r) end_line e in
        sym
        (ap₂ ◌&&◌ (sym p ∙ eq-eqb (at r 0) 46 (byte f 0 (omega arith)))
        (ap₂ ◌&&◌ (sym q ∙ eq-eqb (at r 1) 101 (byte f 1 (omega arith))) (sym u ∙ eq-eqb (at r 2) 10 (byte f 2 (omega arith)))))
    go false e true true true p q u =
        let f = stands-front (46 ∷ 101 ∷ []) r small (stand (eqb-true (at r 0) 46 p) (eqb-true (at r 1) 101 q) (eqb-true (at r 2) 10 u)) in
        not-both (equal (front r) end_line) (ap (λ (l : List ℕ). equal l end_line) f ∙ equal-same end_line) e
      where
        small : no_lf (46 ∷ 101 ∷ []) ≡ true
        small = refl
    go false e true true false p q u = refl
    go false e true false z p q u = refl
    go false e false y z p q u = refl

-- nothing more: the front is empty where the text is
end-text : (q : List ℕ) → equal (front q) [] ≡ eqb (length q) 0
unfolding equal front
end-text [] = refl
end-text (b ∷ bs) = go (eqb b 10) ∙ sym (ne_eqb (suc (length bs)) 0 (omega arith))
  where
    go : (t : Bool) → equal (cond t (10 ∷ []) (b ∷ front bs)) [] ≡ false
    go true = refl
    go false = refl

-- ---- what is due in the body

pub row-due : (n k p i : ℕ) (l : List ℕ) → i < p → body_due n k p i l ≡ row_form n k l
unfolding body_due
row-due n k p i l h = rw (lt-ltb i p h)

pub end-due : (n k p : ℕ) (l : List ℕ) → body_due n k p p l ≡ equal l end_line
unfolding body_due
end-due n k p l = rw (le-ltb p p (omega arith), eq-eqb p p refl)

pub past-due : (n k p i : ℕ) (l : List ℕ) → p < i → body_due n k p i l ≡ equal l []
unfolding body_due
past-due n k p i l h = rw (le-ltb i p (omega arith), ne_eqb i p (omega arith))

-- a length that is not short is the end exactly where nothing is left
left-none : (a b : ℕ) → b ≤ a → eqb (a - b) 0 ≡ eqb a b
left-none a b h = go (ℕ_discrete a b)
  where
    go : Dec (a ≡ b) → eqb (a - b) 0 ≡ eqb a b
    go (yes e) = eq-eqb (a - b) 0 (omega arith) ∙ sym (eq-eqb a b e)
    go (no n) = ne_eqb (a - b) 0 (omega arith) ∙ sym (ne_eqb a b n)

module _ (s : List ℕ) (n k p : ℕ) where
  -- line i of the body is faulty
  abbrev lacks : ℕ → Bool
  lacks i = not (body_due n k p i (line_at s i))

  -- where every row has row form: the last line stands behind them, and the text's end behind it
  module _ (h : (i : ℕ) → i < p → row_form n k (line_at s i) ≡ true) where
    e : ℕ
    e = p * (n + k + 2)

    end-test : body_due n k p p (line_at s p) ≡ eqb (at s e) 46 && (eqb (at s (e + 1)) 101 && eqb (at s (e + 2)) 10)
    unfolding e
    end-test =
        end-due n k p (line_at s p)
        ∙ ap (λ (l : List ℕ). equal l end_line) (line-front s p ∙ ap (λ (i : ℕ). front (drop i s)) (row-start s n k p h))
        ∙ end-line (drop e s)
        ∙ rw (get_or-drop e s 0 0, get_or-drop e s 1 0, get_or-drop e s 2 0, add-zero e)

    rest-test : line_at s p ≡ end_line → e + 3 ≤ length s → body_due n k p (p + 1) (line_at s (p + 1)) ≡ eqb (length s) (e + 3)
    unfolding e start
    rest-test f l =
        let g : start s (p + 1) ≡ e + 3 =
        ap (start s) (add-one p) ∙ omega (arith, row-start s n k p h, ap length (sym (line-front s p) ∙ f)) in
        past-due n k p (p + 1) (line_at s (p + 1)) (omega arith)
        ∙ ap (λ (l : List ℕ). equal l []) (line-front s (p + 1) ∙ ap (λ (i : ℕ). front (drop i s)) g)
        ∙ end-text (drop (e + 3) s)
        ∙ ap (λ (i : ℕ). eqb i 0) (length-drop (e + 3) s)
        ∙ left-none (length s) (e + 3) l

    ends : first (p + 2) lacks ≡ end_of (at s e) (at s (e + 1)) (at s (e + 2)) (length s) (e + 3) p
    unfolding end_of
    ends = go (eqb (at s e) 46) (eqb (at s (e + 1)) 101) (eqb (at s (e + 2)) 10) refl refl refl
      where
        rows : (j : ℕ) → j < p → lacks j ≡ false
        rows j l = ap not (row-due n k p j (line_at s j) l ∙ h j l)

        stops : body_due n k p p (line_at s p) ≡ false → first (p + 2) lacks ≡ p
        stops f = first-is (p + 2) lacks p (omega arith) rows (λ l. ap not f)

        rows_end : body_due n k p p (line_at s p) ≡ true → (j : ℕ) → j < p + 1 → lacks j ≡ false
        rows_end f j l = at_most (dec_lt j p)
          where
            at_most : Dec (j < p) → lacks j ≡ false
            at_most (yes b) = rows j b
            at_most (no b) =
                let q : j ≡ p = omega arith in
                ap lacks q ∙ ap not f

        after : body_due n k p p (line_at s p) ≡ true → (u : Bool) → body_due n k p (p + 1) (line_at s (p + 1)) ≡ u → first (p + 2) lacks ≡ cond u (p + 2) (p + 1)
        after f true q = first-is (p + 2) lacks (p + 2) (omega arith) all (λ l. absurd (omega arith))
          where
            all : (j : ℕ) → j < p + 2 → lacks j ≡ false
            all j l = at_most (dec_lt j (p + 1))
              where
                at_most : Dec (j < p + 1) → lacks j ≡ false
                at_most (yes b) = rows_end f j b
                at_most (no b) =
                    let t : j ≡ p + 1 = omega arith in
                    ap lacks t ∙ ap not q
        after f false q = first-is (p + 2) lacks (p + 1) (omega arith) (rows_end f) (λ l. ap not q)

        inside : at s (e + 2) ≡ 10 → e + 3 ≤ length s
        inside b = within (dec_lt (e + 2) (length s))
          where
            within : Dec (e + 2 < length s) → e + 3 ≤ length s
            within (yes l) = omega arith
            within (no l) = let z = get_or-eq_default s 0 {n = e + 2} (omega arith) in absurd (omega arith)

        go : (x y z : Bool) → eqb (at s e) 46 ≡ x → eqb (at s (e + 1)) 101 ≡ y → eqb (at s (e + 2)) 10 ≡ z
            → first (p + 2) lacks ≡ cond x (cond y (cond z (cond (eqb (length s) (e + 3)) (p + 2) (p + 1)) p) p) p
        go true true true a b c =
            let d : body_due n k p p (line_at s p) ≡ true = end-test ∙ rw (a, b, c) in
            let f = equal-true (line_at s p) end_line (sym (end-due n k p (line_at s p)) ∙ d) in
            after d (eqb (length s) (e + 3)) (rest-test f (inside (eqb-true (at s (e + 2)) 10 c)))
        go true true false a b c = stops (end-test ∙ rw (a, b, c))
        go true false z a b c = stops (end-test ∙ rw (a, b))
        go false y z a b c = stops (end-test ∙ rw a)

  -- the reader's faulty line is the least line that is not of the form due
  pub fault-of : fault_of s n k p ≡ body_fault n k p (lines s)
  unfolding fault_of body_fault e
  fault-of = rw (rows-first s n k p) (go (dec_lt f p))
    where
      f : ℕ
      f = first p (λ i. not (row_form n k (line_at s i)))

      formed : (i : ℕ) → i < f → row_form n k (line_at s i) ≡ true
      formed i l = not-false (row_form n k (line_at s i)) (first_below p (λ i. not (row_form n k (line_at s i))) i l)

      go : Dec (f < p)
          → cond (ltb f p) f (end_of (at s (p * (n + k + 2))) (at s (p * (n + k + 2) + 1)) (at s (p * (n + k + 2) + 2)) (length s) (p * (n + k + 2) + 3) p)
          ≡ first (p + 2) lacks
      go (yes l) =
          rw (lt-ltb f p l)
          (sym
          (first-is (p + 2) lacks f (omega arith)
          (λ j q. ap not (row-due n k p j (line_at s j) (omega arith) ∙ formed j q))
          (λ q. ap not (row-due n k p f (line_at s f) l) ∙ first_passes p (λ i. not (row_form n k (line_at s i))) l)))
      go (no l) =
          let m = first-le p (λ i. not (row_form n k (line_at s i))) in
          rw (le-ltb f p (omega arith)) (sym (ends (λ i q. formed i (omega arith))))

  pub fault-le : fault_of s n k p ≤ p + 2
  unfolding body_fault
  fault-le = rw fault-of (first-le (p + 2) lacks)

  -- where no line is faulty, every line has the form due there
  pub faultless : body_fault n k p (lines s) ≡ p + 2 → (i : ℕ) → i < p + 2 → body_due n k p i (line_at s i) ≡ true
  unfolding body_fault
  faultless e i h = not-false (body_due n k p i (line_at s i)) (first_below (p + 2) lacks i (omega arith))
