-- The form of a line (01, Row text) in its words: a heading, a row, and which is due at a line of the headings and of the body, each
-- counted from 0; the type line (02, Ticket 2), and on which lines the headings stand with it and without it; the first line that is not of
-- its form (10); and that the tests decide them. Assumes nothing.
use Rattle.std.specs.Prelude.{◌≡◌, refl, Bool, true, false, not, List, [], ◌∷◌, ◌++◌, ◌⊎◌, ℕ, zero, suc, ◌+◌, ◌≤◌, ◌<◌, ltb, leb, length, take, drop}
use Rattle.std.proofs.Common.{sym, ap, ap₂, ◌∙◌, append_assoc, add-one, arith, le-leb, leb-true, lt-ltb, ltb-true, length-append, length-drop, take-append-drop, length-take-le, drop-cons, take_at, drop_at, get_or-drop, get_or-append-add}
use Rattle.std.proofs.Math.Decide.{dec_lt}
use Rattle.std.proofs.lemmas.Bool.{not-true, not-false}
use Rattle.std.proofs.lemmas.List.{get_or_at}
use Rattle.slices.specs.Places.{at, first}
use Rattle.slices.specs.Least.{first_below}
use Rattle.block.specs.Words.{fr, fd}
use Rattle.block.specs.Refusals.{check}
use Rattle.block.specs.Text.{decimal, head_line, type_line_of, line_in, line_at, equal, every, is_digit, numeral, head_digits, number_part, head_form, row_form, value_of, type_line_in, type_in, head_count, head_place, head_due, head_fault, inputs_in, outputs_in, count_in, body, body_due, body_fault, first_line, head_check, body_check}
use Rattle.read_laws.specs.Tests.{every-at, every-all, equal-true, equal-same}
use Rattle.read_laws.specs.Numerals.{head-decimal, decimal-head}
use Rattle.read_laws.specs.HeadLines.{last_apart, form-written, written-form}
use Rattle.read_laws.specs.TypeLines.{place-low, place-high}
use Rattle.read_laws.specs.RowLines.{symbol_test, bit_test}
use Rattle.read_laws.specs.Whole.{row-due, end-due, past-due}
use Rattle.exactly.specs.General.{placed, Decides}
use Rattle.exactly.specs.Conditions.{Says, eq-says, ne-says, or-says, and-says, says-not, says-false, first-least, least_first}

le-says : (a b : ℕ) → Says (leb a b) (a ≤ b)
le-says a b = (leb-true a b, le-leb a b)

every-says : (p : ℕ → Bool) (P : ℕ → Type 0) (l : List ℕ) → ((b : ℕ) → Says (p b) (P b))
    → Says (every p l) ((i : ℕ) → i < length l → P (at l i))
every-says p P l s = (λ e i h. (s (at l i)).0 (every-at p l e i h), λ w. every-all p l (λ i h. (s (at l i)).1 (w i h)))

-- ---- a heading

-- 1 to `most` decimal digits without leading zeros; "0" has form
abbrev pub DecimalDigits : ℕ → List ℕ → Type 0
DecimalDigits most ds =
    ((1 ≤ length ds) × (length ds ≤ most))
    × (((i : ℕ) → i < length ds → (48 ≤ at ds i) × (at ds i ≤ 57)) × ((length ds ≡ 1) ⊎ (at ds 0 ≡ 48 → ⊥)))

numeral-says : (most : ℕ) (ds : List ℕ) → Says (numeral most ds) (DecimalDigits most ds)
unfolding numeral
numeral-says most ds =
    and-says (and-says (le-says 1 (length ds)) (le-says (length ds) most))
    (and-says
    (every-says is_digit (λ d. (48 ≤ d) × (d ≤ 57)) ds (λ d. and-says (le-says 48 d) (le-says d 57)))
    (or-says (eq-says (length ds) 1) (ne-says (at ds 0) 48)))

-- ".x number" and LF
abbrev pub Heading : ℕ → List ℕ → Type 0
Heading letter l = (ds : List ℕ) × DecimalDigits head_digits ds × (l ≡ 46 ∷ letter ∷ 32 ∷ (ds ++ (10 ∷ [])))

pub heading-says : (letter : ℕ) (l : List ℕ) → Says (head_form letter l) (Heading letter l)
unfolding head_line
heading-says letter l = (λ e. has e, λ (ds, w, e). form ds w e)
  where
    has : head_form letter l ≡ true → Heading letter l
    has e =
        let f = form-written letter l e in
        (decimal (value_of (number_part l)), (numeral-says head_digits (decimal (value_of (number_part l)))).0 (head-decimal (value_of (number_part l)) f.1).0, f.0)

    form : (ds : List ℕ) → DecimalDigits head_digits ds → l ≡ 46 ∷ letter ∷ 32 ∷ (ds ++ (10 ∷ [])) → head_form letter l ≡ true
    form ds w e =
        let q = decimal-head ds ((numeral-says head_digits ds).1 w) in
        let same : l ≡ head_line letter (value_of ds) = e ∙ ap (λ (x : List ℕ). 46 ∷ letter ∷ 32 ∷ (x ++ (10 ∷ []))) q.0 in
        rw same (written-form letter (value_of ds) q.1).0

-- ---- a row

-- n of 0, 1, -, one space, k of 0, 1, and LF
pub record RowShape (n k : ℕ) (l : List ℕ) : Type 0 where
  pub symbols : List ℕ
  pub word : List ℕ
  pub inputs : length symbols ≡ n
  pub outputs : length word ≡ k
  pub symbol : (i : ℕ) → i < length symbols → (at symbols i ≡ 48) ⊎ ((at symbols i ≡ 49) ⊎ (at symbols i ≡ 45))
  pub digit : (i : ℕ) → i < length word → (at word i ≡ 48) ⊎ (at word i ≡ 49)
  pub whole : l ≡ symbols ++ (32 ∷ (word ++ (10 ∷ [])))

symbols-says : (l : List ℕ) → Says (every symbol_test l) ((i : ℕ) → i < length l → (at l i ≡ 48) ⊎ ((at l i ≡ 49) ⊎ (at l i ≡ 45)))
symbols-says l =
    every-says symbol_test (λ b. (b ≡ 48) ⊎ ((b ≡ 49) ⊎ (b ≡ 45))) l (λ b. or-says (eq-says b 48) (or-says (eq-says b 49) (eq-says b 45)))

digits-says : (l : List ℕ) → Says (every bit_test l) ((i : ℕ) → i < length l → (at l i ≡ 48) ⊎ (at l i ≡ 49))
digits-says l = every-says bit_test (λ b. (b ≡ 48) ⊎ (b ≡ 49)) l (λ b. or-says (eq-says b 48) (eq-says b 49))

-- the parts of a line, where the test looks for them
record Parts (n k : ℕ) (l : List ℕ) : Type 0 where
  pub long : length l ≡ n + 1 + k + 1
  pub symbols : (i : ℕ) → i < length (take n l) → (at (take n l) i ≡ 48) ⊎ ((at (take n l) i ≡ 49) ⊎ (at (take n l) i ≡ 45))
  pub gap : at l n ≡ 32
  pub digits : (i : ℕ) → i < length (take k (drop (n + 1) l)) → (at (take k (drop (n + 1) l)) i ≡ 48) ⊎ (at (take k (drop (n + 1) l)) i ≡ 49)
  pub last : at l (n + 1 + k) ≡ 10

parts-says : (n k : ℕ) (l : List ℕ) → Says (row_form n k l) (Parts n k l)
unfolding row_form
parts-says n k l =
    let s =
    and-says (eq-says (length l) (n + 1 + k + 1))
    (and-says (symbols-says (take n l))
    (and-says (eq-says (at l n) 32) (and-says (digits-says (take k (drop (n + 1) l))) (eq-says (at l (n + 1 + k)) 10)))) in (
      λ e. let w = s.0 e in record { long = w.0; symbols = w.1.0; gap = w.1.1.0; digits = w.1.1.1.0; last = w.1.1.1.1 },
      λ p. s.1 (p.long, (p.symbols, (p.gap, (p.digits, p.last)))),
    )

pub row-shape-says : (n k : ℕ) (l : List ℕ) → Says (row_form n k l) (RowShape n k l)
row-shape-says n k l = (λ e. shape ((parts-says n k l).0 e), λ w. (parts-says n k l).1 (parts_from w))
  where
    shape : Parts n k l → RowShape n k l
    shape p =
        let len : length l ≡ n + 1 + k + 1 = p.long in
        let d = length-drop (n + 1) l in
        record {
          symbols = take n l;
          word = take k (drop (n + 1) l);
          inputs = length-take-le n l (omega arith);
          outputs = length-take-le k (drop (n + 1) l) (omega arith);
          symbol = p.symbols;
          digit = p.digits;
          whole =
              sym (take-append-drop n l)
              ∙ ap (λ (t : List ℕ). take n l ++ t)
              (drop-cons l n 0 (omega arith)
              ∙ ap₂ ◌∷◌ p.gap
              (ap (λ (i : ℕ). drop i l) (sym (add-one n))
              ∙ last_apart (drop (n + 1) l) k (omega arith)
              ∙ ap (λ (x : ℕ). take k (drop (n + 1) l) ++ (x ∷ [])) (get_or-drop (n + 1) l k 0 ∙ p.last)));
        }

    parts_from : RowShape n k l → Parts n k l
    parts_from w = rw w.whole (parts-of w.symbols w.word w.inputs w.outputs w.symbol w.digit)
      where
        parts-of : (x y : List ℕ) → length x ≡ n → length y ≡ k
            → ((i : ℕ) → i < length x → (at x i ≡ 48) ⊎ ((at x i ≡ 49) ⊎ (at x i ≡ 45)))
            → ((i : ℕ) → i < length y → (at y i ≡ 48) ⊎ (at y i ≡ 49)) → Parts n k (x ++ (32 ∷ (y ++ (10 ∷ []))))
        parts-of x y hx hy sx sy =
            let apart : x ++ (32 ∷ (y ++ (10 ∷ []))) ≡ (x ++ (32 ∷ [])) ++ (y ++ (10 ∷ [])) = sym (append_assoc x (32 ∷ []) (y ++ (10 ∷ []))) in
            let front : length (x ++ (32 ∷ [])) ≡ n + 1 = length-append x (32 ∷ []) ∙ ap (λ (i : ℕ). i + 1) hx in
            let tail : drop (n + 1) (x ++ (32 ∷ (y ++ (10 ∷ [])))) ≡ y ++ (10 ∷ []) =
            ap (drop (n + 1)) apart ∙ drop_at (x ++ (32 ∷ [])) (y ++ (10 ∷ [])) (n + 1) front in
            let fixed : take n (x ++ (32 ∷ (y ++ (10 ∷ [])))) ≡ x = take_at x (32 ∷ (y ++ (10 ∷ []))) n hx in
            let given : take k (drop (n + 1) (x ++ (32 ∷ (y ++ (10 ∷ []))))) ≡ y = ap (take k) tail ∙ take_at y (10 ∷ []) k hy in
            record {
              long = omega (arith, length-append x (32 ∷ (y ++ (10 ∷ []))), length-append y (10 ∷ []));
              symbols = rw fixed sx;
              gap = get_or_at x 32 (y ++ (10 ∷ [])) 0 n hx;
              digits = rw given sy;
              last =
                  ap (λ (t : List ℕ). at t (n + 1 + k)) apart
                  ∙ ap (λ (i : ℕ). at ((x ++ (32 ∷ [])) ++ (y ++ (10 ∷ []))) (i + k)) (sym front)
                  ∙ get_or-append-add (x ++ (32 ∷ [])) (y ++ (10 ∷ [])) k 0
                  ∙ get_or_at y 10 [] 0 k hy;
            }

-- ---- what is due

-- at line i of the headings: ".i n", ".o k", ".p rows"
pub record HeadingDue (i : ℕ) (l : List ℕ) : Type 0 where
  pub inputs : i ≡ 0 → Heading 105 l
  pub outputs : i ≡ 1 → Heading 111 l
  pub count : i ≡ 2 → Heading 112 l

pub heading-due-says : (i : ℕ) (l : List ℕ) → i < head_count → Says (head_due i l) (HeadingDue i l)
heading-due-says zero l h = (
  λ e. record { inputs = λ q. (heading-says 105 l).0 e; outputs = λ q. absurd (omega arith); count = λ q. absurd (omega arith) },
  λ d. (heading-says 105 l).1 (d.inputs refl),
)
heading-due-says (suc zero) l h = (
  λ e. record { inputs = λ q. absurd (omega arith); outputs = λ q. (heading-says 111 l).0 e; count = λ q. absurd (omega arith) },
  λ d. (heading-says 111 l).1 (d.outputs refl),
)
heading-due-says (suc (suc zero)) l h = (
  λ e. record { inputs = λ q. absurd (omega arith); outputs = λ q. absurd (omega arith); count = λ q. (heading-says 112 l).0 e },
  λ d. (heading-says 112 l).1 (d.count refl),
)
heading-due-says (suc (suc (suc i))) l h = absurd (omega arith)

-- at line i of the body of a text with p rows: the rows, ".e", and nothing more
pub record BodyLineDue (n k p i : ℕ) (l : List ℕ) : Type 0 where
  pub row : i < p → RowShape n k l
  pub close : i ≡ p → l ≡ 46 ∷ 101 ∷ 10 ∷ []
  pub nothing : p < i → l ≡ []

equal-says : (a b : List ℕ) → Says (equal a b) (a ≡ b)
equal-says a b = (equal-true a b, λ e. rw e (equal-same b))

pub body-due-says : (n k p i : ℕ) (l : List ℕ) → Says (body_due n k p i l) (BodyLineDue n k p i l)
body-due-says n k p i l = (
  λ e.
      record {
        row = λ h. (row-shape-says n k l).0 (sym (row-due n k p i l h) ∙ e);
        close = λ q. (equal-says l (46 ∷ 101 ∷ 10 ∷ [])).0 (sym (at-end q) ∙ e);
        nothing = λ h. (equal-says l []).0 (sym (past-due n k p i l h) ∙ e);
      },
  λ d. go d (dec_lt i p) (dec_lt p i),
)
  where
    at-end : i ≡ p → body_due n k p i l ≡ equal l (46 ∷ 101 ∷ 10 ∷ [])
    at-end q = ap (λ (j : ℕ). body_due n k p j l) q ∙ end-due n k p l

    go : BodyLineDue n k p i l → Dec (i < p) → Dec (p < i) → body_due n k p i l ≡ true
    go d (yes h) _ = row-due n k p i l h ∙ (row-shape-says n k l).1 (d.row h)
    go d (no a) (no b) = at-end (omega arith) ∙ (equal-says l (46 ∷ 101 ∷ 10 ∷ [])).1 (d.close (omega arith))
    go d (no a) (yes h) = past-due n k p i l h ∙ (equal-says l []).1 (d.nothing h)

-- ---- the type line, which may follow .o

-- the third line is ".type fr", or ".type fd"
abbrev pub FrLine : List ℕ → Type 0
FrLine text = line_at text 2 ≡ 46 ∷ 116 ∷ 121 ∷ 112 ∷ 101 ∷ 32 ∷ 102 ∷ 114 ∷ 10 ∷ []

abbrev pub FdLine : List ℕ → Type 0
FdLine text = line_at text 2 ≡ 46 ∷ 116 ∷ 121 ∷ 112 ∷ 101 ∷ 32 ∷ 102 ∷ 100 ∷ 10 ∷ []

-- what a text says of its type: with no such line fd holds
pub record TypeSaid (text : List ℕ) (y z : ℕ) : Type 0 where
  pub fr-line : FrLine text → (y ≡ fr) × (z ≡ 1)
  pub fd-line : FdLine text → (y ≡ fd) × (z ≡ 1)
  pub no_line : (FrLine text → ⊥) → (FdLine text → ⊥) → (y ≡ fd) × (z ≡ 0)

-- the two lines differ
lines-differ : equal (type_line_of fd) (type_line_of fr) ≡ false
unfolding equal
lines-differ = refl

pub type-said : (text : List ℕ) → TypeSaid text (type_in text) (type_line_in text)
unfolding type_in type_line_in
type-said text =
    record {
      fr-line = λ e. rw ((equal-says (line_at text 2) (type_line_of fr)).1 e) (refl, refl);
      fd-line = λ e. rw (e, lines-differ, equal-same (type_line_of fd)) (refl, refl);
      no_line = λ a b. rw (says-not (equal-says (line_at text 2) (type_line_of fr)) a, says-not (equal-says (line_at text 2) (type_line_of fd)) b) (refl, refl);
    }

-- the line of heading i, from 0, where z is 1 with a type line and 0 without: those after .o stand one further with it
pub record HeadingLine (z i l : ℕ) : Type 0 where
  pub before : i < 2 → l ≡ i
  pub behind : 2 ≤ i → l ≡ i + z

pub heading-line : (text : List ℕ) (i : ℕ) → HeadingLine (type_line_in text) i (head_place text i)
heading-line text i = record { before = place-low text i; behind = place-high text i }

-- ---- 10: a text line not of the form due there

-- a is the line of the first of m that has not the form due there; `line` says the line of each
pub record FirstFaulty (line : ℕ → ℕ) (m : ℕ) (Due : ℕ → Type 0) (a : ℕ) : Type 0 where
  pub i : ℕ
  pub place : a ≡ line i
  pub below : i < m
  pub faulty : Due i → ⊥
  pub before : (j : ℕ) → j < i → Due j

module _ (line : ℕ → ℕ) (m : ℕ) (t : ℕ → Bool) (Due : ℕ → Type 0) (s : (i : ℕ) → i < m → Says (t i) (Due i)) where
  -- the first that has not the form
  abbrev fault : ℕ
  fault = first m (λ i. not (t i))

  lacks-says : (i : ℕ) → i < m → Says (not (t i)) (Due i → ⊥)
  lacks-says i b = (λ e d. says-false (s i b) (not-true (t i) e) d, λ w. ap not (says-not (s i b) w))

  pub form-decided : Decides (check (ltb fault m) 10 (line fault) 0) (placed 10 (λ a b. FirstFaulty line m Due a × (b ≡ 0)))
  form-decided = record { same = refl; refuses = λ e. omega arith; sound = λ e. (sound (ltb-true _ _ e), refl); only = only }
    where
      sound : fault < m → FirstFaulty line m Due (line fault)
      sound l =
          record {
            i = fault;
            place = refl;
            below = l;
            faulty = (first-least m (λ i. not (t i)) (λ i. Due i → ⊥) lacks-says l).holds;
            before = λ j h. (s j (omega arith)).0 (not-false (t j) (first_below m (λ i. not (t i)) j h));
          }

      only : (a b : ℕ) → FirstFaulty line m Due a × (b ≡ 0) → (ltb fault m ≡ true) × (line fault ≡ a) × (0 ≡ b)
      only a b (f, u) =
          let l =
          least_first m (λ i. not (t i)) (λ i. Due i → ⊥) lacks-says f.i
          (record { below = f.below; holds = f.faulty; earlier = λ j h w. w (f.before j h) }) in
          (lt-ltb _ _ l.0, ap line l.1 ∙ sym f.place, sym u)

-- of the headings, and of the body
abbrev pub FaultyHeading : List ℕ → ℕ → Type 0
FaultyHeading text =
    FirstFaulty (λ i. first_line + head_place text i) head_count (λ i. HeadingDue i (line_at text (head_place text i)))

abbrev pub FaultyBody : List ℕ → ℕ → Type 0
FaultyBody text =
    FirstFaulty (λ i. first_line + head_place text head_count + i) (count_in text + 2)
    (λ i. BodyLineDue (inputs_in text) (outputs_in text) (count_in text) i (line_in (body text) i))

pub heading-decided : (text : List ℕ) → Decides (head_check text) (placed 10 (λ a b. FaultyHeading text a × (b ≡ 0)))
unfolding head_fault
heading-decided text =
    form-decided (λ i. first_line + head_place text i) head_count (λ i. head_due i (line_at text (head_place text i)))
    (λ i. HeadingDue i (line_at text (head_place text i))) (λ i. heading-due-says i (line_at text (head_place text i)))

pub body-decided : (text : List ℕ) → Decides (body_check text) (placed 10 (λ a b. FaultyBody text a × (b ≡ 0)))
unfolding body_fault
body-decided text =
    form-decided (λ i. first_line + head_place text head_count + i) (count_in text + 2) _ _
    (λ i _. body-due-says (inputs_in text) (outputs_in text) (count_in text) i (line_in (body text) i))
