-- A model by place: how many inputs and outputs its heading names (`sized`), and the whole of it, rows and outputs (`model-held`). Assumes
-- nothing.
use Rattle.std.specs.Prelude.{◌≡◌, refl, Bool, true, false, ◌&&◌, List, [], ◌∷◌, ◌++◌, ℕ, suc, ◌+◌, ◌^◌, ◌≤◌, ◌<◌, ltb, length, take, drop, Result, Ok, Err}
use Rattle.std.proofs.Common.{sym, ap, ◌∙◌, append_assoc, zero-add, add-one, arith, lt-ltb, le-ltb, ltb-true, length-append}
use Rattle.std.proofs.lemmas.List.Edits.{sets}
use Rattle.slices.specs.Places.{tab, first}
use Rattle.slices.specs.Places as places
use Rattle.slices.specs.Tests.{and_both}
use Rattle.slices.specs.Least.{first_passes}
use Rattle.block.specs.Limits.{list_inputs, outputs}
use Rattle.block.specs.Text.{lines, equal}
use Rattle.block.specs.Model.{spaced, word_line, title_line}
use Rattle.block.specs.ModelRead.{State, Due, InputsDue, OutputsDue, RowDue, More, Whole, on, attempt, step, start, outcome_of, is_whole, good_lines}
use Rattle.block.specs.declared.Pattern.{Pattern}
use Rattle.read_laws.specs.Front.{front, no_lf}
use Rattle.model_laws.specs.Spaced.{lettered}
use Rattle.model_laws.specs.WordLines.{is_line, stops, name-word, words-tab, word-line}
use Rattle.read_names.specs.Met.{begins, met_at, lost, met-found, met-missed}
use Rattle.read_names.specs.Fate.{front-begins, ends, Fate, Stopped, fate, fate-met, fate-stop}
use Rattle.read_names.specs.Attempts.{attempt-first}
use Rattle.read_sigma.specs.Rows.{AllRows}
use Rattle.read_outputs.specs.Outputs.{Holds, AllRead}

-- ---- a line that names the inputs, or the outputs

-- a line of at least one name stands there, and of n names
abbrev pub named_at : List ℕ → ℕ → List ℕ → ℕ → ℕ → Bool
named_at t at word letter n = ltb 0 n && begins (word_line word (tab n (lettered letter))) (drop at t)

pub named-line : (word : List ℕ) (letter n : ℕ)
    → word ++ (spaced (tab n (lettered letter)) ++ (10 ∷ [])) ≡ word_line word (tab n (lettered letter))
named-line word letter n = sym (append_assoc word (spaced (tab n (lettered letter))) (10 ∷ []))

line-some : (word names : List ℕ) → 1 ≤ length (word ++ names ++ (10 ∷ []))
line-some word names = omega (arith, length-append (word ++ names) (10 ∷ []))

-- the test by the place that was answered
module _ (text : List ℕ) (h : length text < 2 ^ 63) (at : ℕ) (word : List ℕ) (letter n : ℕ) (l : 1 ≤ n) (r : ℕ)
    (g : r ≡ met_at text at (word_line word (tab n (lettered letter)))) where
  pub named-yes : (r ≡ lost → ⊥) → named_at text at word letter n ≡ true
  named-yes d =
      rw (lt-ltb 0 n l)
      (met-found text h at (word_line word (tab n (lettered letter))) (λ w. d (g ∙ w)))

  pub named-no : r ≡ lost → named_at text at word letter n ≡ false
  named-no d =
      rw (lt-ltb 0 n l)
      (met-missed text h at (word_line word (tab n (lettered letter))) (line-some word (spaced (tab n (lettered letter)))) (sym g ∙ d))

pub named-zero : (text : List ℕ) (at : ℕ) (word : List ℕ) (letter j : ℕ) → j < 1 → named_at text at word letter j ≡ false
named-zero text at word letter j h = let e : j ≡ 0 = omega arith in rw e refl

module _ (text : List ℕ) (h : length text < 2 ^ 63) (at : ℕ) (word : List ℕ) (letter : ℕ) (e : no_lf word ≡ true) (f : stops letter ≡ false)
    (most : ℕ) (st : State) (next : ℕ → State)
    (due : (l : List ℕ) → step st l ≡ attempt (suc most) (λ n. on (ltb 0 n && equal l (word_line word (tab n (lettered letter)))) (More (next n))))
    (r : ℕ) (g : r ≡ first (most + 1) (named_at text at word letter)) where
  is-line : (n : ℕ) → is_line (word_line word (tab n (lettered letter))) ≡ true
  is-line n = word-line word (tab n (lettered letter)) e (words-tab (lettered letter) (λ i. name-word letter i f) n)

  said : step st (front (drop at text)) ≡ on (ltb r (most + 1)) (More (next r))
  said =
      due (front (drop at text))
      ∙ attempt-first (suc most) (λ n. on (ltb 0 n && equal (front (drop at text)) (word_line word (tab n (lettered letter)))) (More (next n)))
      (named_at text at word letter) next
      (λ n l. ap (λ (q : Bool). on (ltb 0 n && q) (More (next n))) (front-begins (word_line word (tab n (lettered letter))) (drop at text) (is-line n)))
      ∙ ap (λ (m : ℕ). on (ltb (first m (named_at text at word letter)) m) (More (next (first m (named_at text at word letter))))) (sym (add-one most))
      ∙ ap (λ (x : ℕ). on (ltb x (most + 1)) (More (next x))) (sym g)

  pub named_none : most < r → Stopped text (fate text st at) at
  named_none l = fate-stop text st at (said ∙ rw (le-ltb r (most + 1) (omega arith)))

  module _ (l : r ≤ most) where
    passes : named_at text at word letter r ≡ true
    passes = rw (← g) at (first_passes (most + 1) (named_at text at word letter) (omega (arith, g)))

    pub named_some : 1 ≤ r
    named_some = ltb-true 0 r (and_both (ltb 0 r) _ passes).0

    pub named-next : (to : ℕ) → to ≡ met_at text at (word_line word (tab r (lettered letter))) → fate text st at ≡ fate text (next r) to
    named-next to q =
        fate-met text h st at (next r) (word_line word (tab r (lettered letter))) (is-line r) (and_both (ltb 0 r) _ passes).1
        (said ∙ rw (lt-ltb r (most + 1) (omega arith)))
        ∙ ap (fate text (next r)) (sym q)

-- the inputs' line and the outputs' line are such lines
pub inputs-due : (l : List ℕ)
    → step InputsDue l ≡ attempt (suc 16) (λ n. on (ltb 0 n && equal l (word_line (46 ∷ 105 ∷ 110 ∷ 112 ∷ 117 ∷ 116 ∷ 115 ∷ []) (tab n (lettered 120)))) (More (OutputsDue n)))
unfolding step
inputs-due l = refl

pub outputs-due : (n : ℕ) (l : List ℕ)
    → step (OutputsDue n) l
    ≡ attempt (suc 15) (λ k. on (ltb 0 k && equal l (word_line (46 ∷ 111 ∷ 117 ∷ 116 ∷ 112 ∷ 117 ∷ 116 ∷ 115 ∷ []) (tab k (lettered 121)))) (More (RowDue n k [])))
unfolding step
outputs-due n l = refl

-- ---- the heading

abbrev pub begun : State
begun = Due title_line InputsDue

-- what comes of the heading: the sizes, and the rows are due; or the place where reading stops
unfoldable pub Sized : List ℕ → Result (ℕ × ℕ × ℕ) ℕ → Type 0
Sized text (Ok (n, k, to)) =
    (1 ≤ n) × (n ≤ list_inputs) × (1 ≤ k) × (k ≤ outputs) × (fate text begun 0 ≡ fate text (RowDue n k []) to)
Sized text (Err to) = Stopped text (fate text begun 0) to

-- the same from the inputs' line on, and from the outputs' line on
unfoldable pub Inlined : List ℕ → ℕ → Result (ℕ × ℕ × ℕ) ℕ → Type 0
Inlined text at (Ok (n, k, to)) =
    (1 ≤ n) × (n ≤ list_inputs) × (1 ≤ k) × (k ≤ outputs) × (fate text InputsDue at ≡ fate text (RowDue n k []) to)
Inlined text at (Err to) = Stopped text (fate text InputsDue at) to

unfoldable pub Outlined : List ℕ → ℕ → ℕ → Result (ℕ × ℕ × ℕ) ℕ → Type 0
Outlined text at m (Ok (n, k, to)) = (n ≡ m) × (1 ≤ k) × (k ≤ outputs) × (fate text (OutputsDue m) at ≡ fate text (RowDue m k []) to)
Outlined text at m (Err to) = Stopped text (fate text (OutputsDue m) at) to

pub out-in : (text : List ℕ) (at to n : ℕ) (r : Result (ℕ × ℕ × ℕ) ℕ) → 1 ≤ n → n ≤ list_inputs → fate text InputsDue at ≡ fate text (OutputsDue n) to
    → Outlined text to n r → Inlined text at r
unfolding Inlined Outlined
out-in text at to n (Ok (m, k, p)) h l e s = (rw s.0 h, rw s.0 l, s.1, s.2, e ∙ rw s.0 s.3)
out-in text at to n (Err p) h l e s = rw e s

pub in-sized : (text : List ℕ) (to : ℕ) (r : Result (ℕ × ℕ × ℕ) ℕ) → fate text begun 0 ≡ fate text InputsDue to → Inlined text to r → Sized text r
unfolding Inlined Sized
in-sized text to (Ok (n, k, p)) e s = (s.0, s.1, s.2, s.3, e ∙ s.4)
in-sized text to (Err p) e s = rw e s

-- ---- the whole model

-- a model, and the lent lists hold it, as much of it as fits
pub record ModelHeld (text s₀ c₀ m₀ v₀ : List ℕ) (n k total : ℕ) (s c m v : List ℕ) : Type 0 where
  pub sigma : List ℕ
  pub patterns : List (List Pattern)
  pub said : outcome_of text ≡ Whole n k sigma patterns
  pub inputs : n ≤ list_inputs
  pub rows : length sigma ≡ n
  pub small : (j : ℕ) → j < n → places.at sigma j < 2 ^ n
  pub count : length patterns ≡ k
  pub matrix : s ≡ sets s₀ 0 sigma
  pub held : Holds c₀ m₀ v₀ patterns total c m v

-- no model, and the first line that is not of the form due starts at a place
pub record ModelBroken (text : List ℕ) (to : ℕ) : Type 0 where
  pub broken : is_whole (outcome_of text) ≡ false
  pub line : good_lines start (lines text) ≡ ends (take to text)

unfoldable pub Modelled : List ℕ → List ℕ → List ℕ → List ℕ → List ℕ → List ℕ → List ℕ → List ℕ → List ℕ → Result (ℕ × ℕ × ℕ) ℕ → Type 0
Modelled text s₀ c₀ m₀ v₀ s c m v (Ok (n, k, total)) = ModelHeld text s₀ c₀ m₀ v₀ n k total s c m v
Modelled text s₀ c₀ m₀ v₀ s c m v (Err to) = ModelBroken text to

pub model-broken : (text : List ℕ) (to : ℕ) → Stopped text (fate text begun 0) to → ModelBroken text to
unfolding fate ends
model-broken text to s = record { broken = s.broken; line = sym (zero-add (good_lines start (lines text))) ∙ s.line }

pub model-held : (text s₀ c₀ m₀ v₀ : List ℕ) (n k total : ℕ) (s c m v : List ℕ) (to next : ℕ) → n ≤ list_inputs
    → fate text begun 0 ≡ fate text (RowDue n k []) to → AllRows text n to s₀ next s → AllRead text n k next c₀ m₀ v₀ total c m v
    → ModelHeld text s₀ c₀ m₀ v₀ n k total s c m v
unfolding fate
model-held text s₀ c₀ m₀ v₀ n k total s c m v to next l e a o =
    record {
      sigma = a.rows;
      patterns = o.outputs;
      said = ap (λ (f : Fate). f.outcome) (e ∙ a.goes k) ∙ o.whole a.rows;
      inputs = l;
      rows = a.size;
      small = a.small;
      count = o.size;
      matrix = a.held;
      held = o.held;
    }
