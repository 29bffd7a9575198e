-- A text that is accepted is what is written for its n, k, type and rows, with the type line where it stands; these are within the
-- ranges, and no row is malformed (`accepted-only`). So text read and written again is the same bytes (`read-written`), and an accepted
-- text is at most 4,255 bytes (`accepted-le`). Not here: that what is written is accepted (`Again`). Assumes nothing.
use Rattle.std.specs.Prelude.{◌≡◌, refl, true, false, ◌⊎◌, ℕ, suc, ◌+◌, ◌≤◌, ◌<◌, length}
use Rattle.std.proofs.Math.Path.{sym, ap, ap₂}
use Rattle.std.proofs.Common.{◌∙◌, inl, inr, arith}
use Rattle.std.proofs.Math.Bool.{not}
use mathlib.Core.List.{List, [], ◌++◌, append_assoc, append-nil}
use borrow.Author.Tests.{eq-eqb, ltb-false, not-false}
use Rattle.std.proofs.Math.ListN.{drop}
use Rattle.slices.specs.Least.{first_below}
use Rattle.slices.specs.Filled.{tab-cong, tab-at}
use Rattle.block.specs.Limits.{list_inputs, outputs, given_rows, text_room}
use Rattle.block.specs.Words.{fr, fd, row}
use Rattle.block.specs.Refusals.{carried, bad_row, row_at}
use Rattle.block.specs.Text.{head_line, row_lines, end_line, type_line_of, type_lines, text_of, line_in, line_at, row_form, row_on, type_line_in, type_in, head_count, head_place, head_due, head_fault, inputs_in, outputs_in, count_in, body, body_due, body_fault, rows_on, read_checks, read_verdict, read_text, rows_in}
use Rattle.block.specs.declared.Row.{Row}
use Rattle.block.specs.declared.ReadAnswer.{ReadAnswer}
use Rattle.refusal_laws.specs.Verdicts.{answered-clear}
use Rattle.shared_checks.specs.Sizes.{inside}
use Rattle.put_text.specs.Length.{text-le}
use Rattle.read_laws.specs.Tests.{equal-true}
use Rattle.read_laws.specs.Front.{start, line-front, lines_from, rows-count}
use Rattle.read_laws.specs.HeadLines.{form-written}
use Rattle.read_laws.specs.TypeLines.{type-cases, type-known, type-line-le, place-high}
use Rattle.read_laws.specs.Whole.{row-due, end-due, past-due}
use Rattle.text_theorems.specs.Rows.{form-row}
use Rattle.text_theorems.specs.Written.{line-apart, rows_apart, empty-front}

-- n, k and the number of rows are in range, and the room holds the rows
pub record Within (n k p room : ℕ) : Type 0 where
  pub inputs : (1 ≤ n) × (n ≤ list_inputs)
  pub outputs : (1 ≤ k) × (k ≤ outputs)
  pub count : (1 ≤ p) × (p ≤ given_rows)
  pub enough : p ≤ room

pub within_same : {n n' k k' p p' room : ℕ} → n ≡ n' → k ≡ k' → p ≡ p' → Within n k p room → Within n' k' p' room
within_same a b c w =
    record { inputs = rw a at w.inputs; outputs = rw b at w.outputs; count = rw c at w.count; enough = rw c at w.enough }

-- y is a type, and with no line it is fd; z is 0 where the line does not stand
pub record Typed (y z : ℕ) : Type 0 where
  pub known : (fr ≤ y) × (y ≤ fd)
  pub lined : z ≡ 0 → y ≡ fd

typed-same : {y y' z z' : ℕ} → y ≡ y' → z ≡ z' → Typed y z → Typed y' z'
typed-same a b t = record { known = rw a at t.known; lined = λ q. sym a ∙ t.lined (b ∙ q) }

-- no row is malformed
abbrev pub AllGood : ℕ → ℕ → List Row → Type 0
AllGood n k rs = (i : ℕ) → i < length rs → bad_row n k (row_at rs i) ≡ false

-- the reader's answer to an accepted text
abbrev pub accepted : ℕ → ℕ → ℕ → ℕ → ℕ → ReadAnswer
accepted n k y z p = record { number = 0; a = 0; b = 0; n = n; k = k; block_type = y; type_line = z; count = p }

regroup : (a b c d e f : List ℕ) → a ++ (b ++ (c ++ (d ++ (e ++ f)))) ≡ a ++ b ++ c ++ d ++ e ++ f
regroup a b c d e f = simp append_assoc

module _ (text : List ℕ) where
  abbrev n : ℕ
  n = inputs_in text

  abbrev k : ℕ
  k = outputs_in text

  abbrev p : ℕ
  p = count_in text

  abbrev y : ℕ
  y = type_in text

  abbrev z : ℕ
  z = type_line_in text

  -- the line of .p, and the first of the body
  abbrev third : ℕ
  third = head_place text 2

  abbrev fourth : ℕ
  fourth = head_place text head_count

  -- every line has the form due there
  pub record AllDue : Type 0 where
    pub heads : (i : ℕ) → i < head_count → head_due i (line_at text (head_place text i)) ≡ true
    pub lines : (i : ℕ) → i < p + 2 → body_due n k p i (line_in (body text) i) ≡ true

  -- no check holds
  pub zero-within : (room : ℕ) → (read_verdict text room).number ≡ 0 → Within n k p room × AllDue
  unfolding read_verdict head_fault body_fault
  zero-within room e =
      let clear = answered-clear (read_checks text room) (refl, (refl, (refl, (refl, (refl, (refl, tt)))))) (eq-eqb _ 0 e) in (
        record {
          inputs = inside 1 list_inputs n (clear 1 (omega arith));
          outputs = inside 1 outputs k (clear 2 (omega arith));
          count = inside 1 given_rows p (clear 3 (omega arith));
          enough = ltb-false room p (clear 4 (omega arith));
        },
        record {
          heads =
              λ i h.
              not-false (head_due i (line_at text (head_place text i)))
              (first_below head_count (λ i. not (head_due i (line_at text (head_place text i)))) i (omega (arith, ltb-false (head_fault text) head_count (clear 0 (omega arith)))));
          lines =
              λ i h.
              not-false (body_due n k p i (line_in (body text) i))
              (first_below (p + 2) (λ i. not (body_due n k p i (line_in (body text) i))) i
              (omega (arith, ltb-false (body_fault n k p (body text)) (p + 2) (clear 5 (omega arith)))));
        },
      )

  -- lines that are all due make up the text
  module _ (h : AllDue) where
    rest : List ℕ
    rest = drop (start text fourth) text

    -- the body's lines are those of the rest
    rest-line : (i : ℕ) → line_in (body text) i ≡ line_at rest i
    unfolding rest
    rest-line i = ap (λ (ls : List (List ℕ)). line_in ls i) (lines_from text fourth)

    formed : (i : ℕ) → i < p → row_form n k (line_in (body text) i) ≡ true
    formed i l = sym (row-due n k p i (line_in (body text) i) l) ∙ h.lines i (omega arith)

    rest-rows : rest ≡ row_lines n k (rows_in text) ++ end_line
    unfolding rows_in rows_on
    rest-rows =
        rows_apart n k rest p (λ i l. ap (row_form n k) (sym (rest-line i)) ∙ formed i l)
        ∙ ap₂ (λ (rs : List Row) (l : List ℕ). row_lines n k rs ++ l)
        (tab-cong p (λ i. row_on n k (line_at rest i)) (λ i. row_on n k (line_in (body text) i)) (λ i l. ap (row_on n k) (sym (rest-line i))))
        (line-apart rest p ∙ ap₂ ◌++◌ last-line past-line ∙ append-nil end_line)
      where
        last-line : line_at rest p ≡ end_line
        last-line =
            sym (rest-line p)
            ∙ equal-true (line_in (body text) p) end_line (sym (end-due n k p (line_in (body text) p)) ∙ h.lines p (omega arith))

        past-line : drop (start rest (suc p)) rest ≡ []
        past-line =
            empty-front (drop (start rest (suc p)) rest)
            (sym (line-front rest (suc p))
            ∙ sym (rest-line (suc p))
            ∙ equal-true (line_in (body text) (suc p)) []
            (sym (past-due n k p (suc p) (line_in (body text) (suc p)) (omega arith)) ∙ h.lines (suc p) (omega arith)))

    pub due-good : AllGood n k (rows_in text)
    unfolding rows_in rows_on
    due-good i l =
        let m : i < p = omega (arith, rows-count text) in
        ap (bad_row n k) (tab-at p (λ i. row_on n k (line_in (body text) i)) (row 0 0 0) i m)
        ∙ (form-row n k (line_in (body text) i) (formed i m)).1

    -- the line of .p and the body, behind the type line where that stands
    after-type : drop (start text 2) text ≡ type_lines y z ++ drop (start text third) text
    after-type = rw (place-high text 2 (omega arith)) (go (type-cases text))
      where
        go : ((z ≡ 0) × (y ≡ fd)) ⊎ ((z ≡ 1) × (line_at text 2 ≡ type_line_of y))
            → drop (start text 2) text ≡ type_lines y z ++ drop (start text (2 + z)) text
        go (inl (q, t)) = rw q
        go (inr (q, t)) = rw q (line-apart text 2 ∙ ap (λ (l : List ℕ). l ++ drop (start text 3) text) t)

    after-count : drop (start text (suc third)) text ≡ row_lines n k (rows_in text) ++ end_line
    unfolding rest
    after-count = ap (λ (i : ℕ). drop (start text i) text) (omega (arith, place-high text 2 (omega arith), place-high text head_count (omega arith))) ∙ rest-rows

    pub due-text : text ≡ text_of n k y z (rows_in text)
    unfolding text_of start head_place
    due-text =
        line-apart text 0
        ∙ ap₂ ◌++◌ (form-written 105 (line_at text 0) (h.heads 0 (omega arith))).0
        (line-apart text 1
        ∙ ap₂ ◌++◌ (form-written 111 (line_at text 1) (h.heads 1 (omega arith))).0
        (after-type
        ∙ ap (λ (l : List ℕ). type_lines y z ++ l)
        (line-apart text third ∙ ap₂ ◌++◌ (form-written 112 (line_at text third) (h.heads 2 (omega arith))).0 after-count)))
        ∙ ap (λ (c : ℕ). head_line 105 n ++ (head_line 111 k ++ (type_lines y z ++ (head_line 112 c ++ (row_lines n k (rows_in text) ++ end_line))))) (sym (rows-count text))
        ∙ regroup (head_line 105 n) (head_line 111 k) (type_lines y z) (head_line 112 (length (rows_in text))) (row_lines n k (rows_in text)) end_line

  -- with no line the type is fd
  type-said : Typed y z
  type-said = record { known = type-known text; lined = go (type-cases text) }
    where
      go : ((z ≡ 0) × (y ≡ fd)) ⊎ ((z ≡ 1) × (line_at text 2 ≡ type_line_of y)) → z ≡ 0 → y ≡ fd
      go (inl (q, t)) e = t
      go (inr (q, t)) e = absurd (omega arith)

-- ---- the theorems

-- text read and written again is the same bytes
pub read-written : (text : List ℕ) (room : ℕ) → (read_verdict text room).number ≡ 0
    → text_of (inputs_in text) (outputs_in text) (type_in text) (type_line_in text) (rows_in text) ≡ text
read-written text room e = sym (due-text text (zero-within text room e).1)

-- an accepted text is at most 4,255 bytes
pub accepted-le : (text : List ℕ) (room : ℕ) → (read_verdict text room).number ≡ 0 → length text ≤ text_room
accepted-le text room e =
    let z = zero-within text room e in
    let l =
    text-le (inputs_in text) (outputs_in text) (type_in text) (type_line_in text) (rows_in text) z.0.inputs.1 z.0.outputs.1
    (omega (arith, rows-count text, z.0.count.1)) in
    rw (read-written text room e) at l

-- a text that is accepted with n, k, the type y, z for its line, and rows is what is written for them, within the ranges
pub accepted-only : (text : List ℕ) (room n k y z : ℕ) (rs : List Row) → read_text text room ≡ accepted n k y z (length rs) → rows_in text ≡ rs
    → (text ≡ text_of n k y z rs) × Within n k (length rs) room × Typed y z × (z ≤ 1) × AllGood n k rs
unfolding read_text
accepted-only text room n k y z rs e f =
    let o : (read_verdict text room).number ≡ 0 = ap (λ (a : ReadAnswer). a.number) e in
    let d = zero-within text room o in
    said n k y z rs (inputs_in text) (outputs_in text) (type_in text) (type_line_in text) (count_in text) (rows_in text)
    (sym (opened o (inputs_in text)) ∙ ap (λ (a : ReadAnswer). a.n) e)
    (sym (opened o (outputs_in text)) ∙ ap (λ (a : ReadAnswer). a.k) e)
    (sym (opened o (type_in text)) ∙ ap (λ (a : ReadAnswer). a.block_type) e)
    (sym (opened o (type_line_in text)) ∙ ap (λ (a : ReadAnswer). a.type_line) e)
    (sym (opened o (count_in text)) ∙ ap (λ (a : ReadAnswer). a.count) e)
    f (due-text text d.1) d.0 (type-said text) (type-line-le text) (due-good text d.1)
  where
    opened : (read_verdict text room).number ≡ 0 → (x : ℕ) → carried (read_verdict text room) x ≡ x
    opened o x = rw (eq-eqb _ _ o)

    said : (n k y z : ℕ) (rs : List Row) (a b c d m : ℕ) (ss : List Row) → a ≡ n → b ≡ k → c ≡ y → d ≡ z → m ≡ length rs → ss ≡ rs
        → text ≡ text_of a b c d ss → Within a b m room → Typed c d → d ≤ 1 → AllGood a b ss
        → (text ≡ text_of n k y z rs) × Within n k (length rs) room × Typed y z × (z ≤ 1) × AllGood n k rs
    said n k y z rs a b c d m ss p q r u v x e w t l g = (
      e ∙ rw (p, q, r, u, x),
      within_same p q v w,
      typed-same r u t,
      rw u at l,
      λ i h. rw (p, q, x) at (g i (rw x h)),
    )
