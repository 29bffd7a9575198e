-- The covers of the outputs by place: the patterns of one output (`PatternsRead`), the outputs one after the other (`OutputsRead`), the last
-- line, and the whole (`AllRead`). The lists that were lent hold what fits. Assumes nothing.
use Rattle.std.specs.Prelude.{◌≡◌, Bool, false, cond, eqb, set, drop, Result, Ok, Err}
use Rattle.std.proofs.Math.Path.{refl, ap}
use Rattle.std.proofs.Common.{sym, ◌∙◌, add-zero, length-append, length-drop}
use Rattle.std.proofs.Math.Bool.{true}
use mathlib.Core.List.{List, [], ◌∷◌, ◌++◌, map, map-append, append_assoc, append-nil}
use Prim.Native.Nat.{ℕ, suc, ◌+◌, ◌-◌, ◌^◌, ◌≤◌, ◌<◌}
use native.Mathlib.Omega.{arith}
use borrow.Author.Tests.{eq-eqb, ne_eqb, eqb-true, eqb-false}
use Rattle.std.proofs.Math.ListN.{length}
use Rattle.std.proofs.lemmas.List.{length-map}
use Rattle.std.proofs.lemmas.List.Edits.{sets}
use Rattle.slices.specs.Places.{tab}
use Rattle.block.specs.Text.{every}
use Rattle.block.specs.Covers.{names_word}
use Rattle.block.specs.Model.{y_name, z_name, pattern, output_cover, spaced, names_line, last_line}
use Rattle.block.specs.ModelRead.{OutputDue, PatternDue, More, Whole, Bad, on, step, pattern_form, counts_of, all_of}
use Rattle.block.specs.declared.Pattern.{Pattern}
use Rattle.read_laws.specs.Front.{front}
use Rattle.read_laws.specs.Tests.{equal-same, equal-true}
use Rattle.put_bytes.specs.Puts.{sets-append}
use Rattle.model_laws.specs.Spaced.{spaced-append, spaced-one}
use Rattle.model_laws.specs.WordLines.{is_line, y-word, z_word, words_more, words-tab, word-line}
use Rattle.read_names.specs.Met.{begins, met_at, lost, begins-length, met-yes, met-found}
use Rattle.read_names.specs.Fate.{front-begins, line-missed, Fate, Stopped, fate, fate-met, fate-next, fate-stop, fate-whole, fate-over, stop-after}
use Rattle.read_outputs.specs.Cubes.{CubeLine}

-- the masks and the values of patterns
abbrev pub masks_of : List Pattern → List ℕ
masks_of ps = map (λ (p : Pattern). p.mask) ps

abbrev pub values_of : List Pattern → List ℕ
values_of ps = map (λ (p : Pattern). p.values) ps

-- one number more of a run of stores
run_more : (l₀ l : List ℕ) (i : ℕ) (s : List ℕ) (x : ℕ) (l' : List ℕ) (j : ℕ) → l ≡ sets l₀ i s → j ≡ i + length s → l' ≡ set l j x
    → l' ≡ sets l₀ i (s ++ (x ∷ []))
run_more l₀ l i s x l' j e f g = g ∙ ap (λ (y : List ℕ). set y j x) e ∙ sets-append s (x ∷ []) l₀ i j f

-- ---- the patterns of one output

-- so many patterns have been read, from one place to another
pub record PatternsRead (text : List ℕ) (n from count : ℕ) (m₀ v₀ : List ℕ) (to total : ℕ) (m v : List ℕ) : Type 0 where
  pub patterns : List Pattern
  pub counted : total ≡ count + length patterns
  pub masks : m ≡ sets m₀ count (masks_of patterns)
  pub values : v ≡ sets v₀ count (values_of patterns)
  pub goes : (k : ℕ) (sigma : List ℕ) (qs : List (List Pattern))
      → fate text (PatternDue n k sigma qs []) from ≡ fate text (PatternDue n k sigma qs patterns) to
  pub fits : total ≤ to
  pub within : to ≤ length text

pub patterns-none : (text : List ℕ) (n from count : ℕ) (m v : List ℕ) → count ≤ from → from ≤ length text
    → PatternsRead text n from count m v from count m v
patterns-none text n from count m v h l =
    record {
      patterns = [];
      counted = sym (add-zero count);
      masks = refl;
      values = refl;
      goes = λ k sigma qs. refl;
      fits = h;
      within = l;
    }

pub patterns-more : {text : List ℕ} {n from count : ℕ} {m₀ v₀ : List ℕ} {to total : ℕ} {m v : List ℕ}
    → PatternsRead text n from count m₀ v₀ to total m v → (a b next : ℕ) → CubeLine text n to a b next → (m' v' : List ℕ)
    → m' ≡ set m total a → v' ≡ set v total b → PatternsRead text n from count m₀ v₀ next (total + 1) m' v'
unfolding step
patterns-more {text} {n} {from} {count} {m₀} {v₀} {to} {total} {m} {v} r a b next c m' v' e f =
    record {
      patterns = r.patterns ++ (pattern a b ∷ []);
      counted = omega (arith, r.counted, length-append r.patterns (pattern a b ∷ []));
      masks =
          run_more m₀ m count (masks_of r.patterns) a m' total r.masks
          (r.counted ∙ ap (λ (i : ℕ). count + i) (sym (length-map r.patterns (λ (p : Pattern). p.mask)))) e
          ∙ ap (sets m₀ count) (sym (map-append (λ (p : Pattern). p.mask) r.patterns (pattern a b ∷ [])));
      values =
          run_more v₀ v count (values_of r.patterns) b v' total r.values
          (r.counted ∙ ap (λ (i : ℕ). count + i) (sym (length-map r.patterns (λ (p : Pattern). p.values)))) f
          ∙ ap (sets v₀ count) (sym (map-append (λ (p : Pattern). p.values) r.patterns (pattern a b ∷ [])));
      goes =
          λ k sigma qs.
          r.goes k sigma qs
          ∙ fate-next text (PatternDue n k sigma qs r.patterns) to (PatternDue n k sigma qs (r.patterns ++ (pattern a b ∷ []))) c.line
          c.ended c.stands (rw (c.form, c.says))
          ∙ ap (fate text (PatternDue n k sigma qs (r.patterns ++ (pattern a b ∷ [])))) (sym c.place);
      fits = omega (arith, r.fits, c.longer);
      within = c.within;
    }

-- ---- the line before an output's patterns

pub head-line : (n j : ℕ) → names_word ++ (spaced (tab n z_name) ++ ((32 ∷ y_name j) ++ (10 ∷ []))) ≡ names_line (output_cover n j [])
head-line n j =
    sym
    (ap (λ (s : List ℕ). (names_word ++ s) ++ (10 ∷ []))
    (spaced-append (tab n z_name) (y_name j ∷ []) ∙ ap (λ (s : List ℕ). spaced (tab n z_name) ++ s) (spaced-one (y_name j)))
    ∙ append_assoc names_word (spaced (tab n z_name) ++ (32 ∷ y_name j)) (10 ∷ [])
    ∙ ap (λ (s : List ℕ). names_word ++ s) (append_assoc (spaced (tab n z_name)) (32 ∷ y_name j) (10 ∷ [])))

head-is-line : (n j : ℕ) → is_line (names_line (output_cover n j [])) ≡ true
unfolding every
head-is-line n j =
    word-line names_word (tab n z_name ++ (y_name j ∷ [])) refl
    (words_more (tab n z_name) (y_name j) (words-tab z_name z_word n) (y-word j))

last-is-line : is_line last_line ≡ true
unfolding is_line spaced
last-is-line = refl

-- ---- the outputs, one after the other

all_append : (qs rs : List (List Pattern)) → all_of (qs ++ rs) ≡ all_of qs ++ all_of rs
unfolding all_of
all_append [] rs = refl
all_append (ps ∷ qs) rs = ap (λ (s : List Pattern). ps ++ s) (all_append qs rs) ∙ sym (append_assoc ps (all_of qs) (all_of rs))

all_more : (qs : List (List Pattern)) (ps : List Pattern) → all_of (qs ++ (ps ∷ [])) ≡ all_of qs ++ ps
unfolding all_of
all_more qs ps = all_append qs (ps ∷ []) ∙ ap (λ (s : List Pattern). all_of qs ++ s) (append-nil ps)

-- the lent lists hold these outputs, as much of them as fits: the number of patterns of each, and the patterns of all
pub record Holds (c₀ m₀ v₀ : List ℕ) (outputs : List (List Pattern)) (total : ℕ) (c m v : List ℕ) : Type 0 where
  pub counted : total ≡ length (all_of outputs)
  pub counts : c ≡ sets c₀ 0 (counts_of outputs)
  pub masks : m ≡ sets m₀ 0 (masks_of (all_of outputs))
  pub values : v ≡ sets v₀ 0 (values_of (all_of outputs))

holds-none : (c m v : List ℕ) → Holds c m v [] 0 c m v
unfolding all_of
holds-none c m v = record { counted = refl; counts = refl; masks = refl; values = refl }

two_runs : (f : Pattern → ℕ) (l₀ : List ℕ) (qs : List (List Pattern)) (ps : List Pattern) (l l' : List ℕ) (total : ℕ)
    → total ≡ length (all_of qs) → l ≡ sets l₀ 0 (map f (all_of qs)) → l' ≡ sets l total (map f ps)
    → l' ≡ sets l₀ 0 (map f (all_of (qs ++ (ps ∷ []))))
two_runs f l₀ qs ps l l' total n e g =
    g ∙ ap (λ (x : List ℕ). sets x total (map f ps)) e
    ∙ sets-append (map f (all_of qs)) (map f ps) l₀ 0 total (omega (arith, length-map (all_of qs) f))
    ∙ ap (sets l₀ 0) (sym (map-append f (all_of qs) ps) ∙ ap (map f) (sym (all_more qs ps)))

holds_more : {text : List ℕ} {n from : ℕ} {c₀ m₀ v₀ : List ℕ} {qs : List (List Pattern)} {total : ℕ} {c m v : List ℕ} {to total' : ℕ} {m' v' : List ℕ}
    → Holds c₀ m₀ v₀ qs total c m v → (p : PatternsRead text n from total m v to total' m' v') → (c' : List ℕ) → c' ≡ set c (length qs) (total' - total)
    → Holds c₀ m₀ v₀ (qs ++ (p.patterns ∷ [])) total' c' m' v'
holds_more {text} {n} {from} {c₀} {m₀} {v₀} {qs} {total} {c} {m} {v} {to} {total'} {m'} {v'} g p c' e =
    let d : total' - total ≡ length p.patterns = omega (arith, p.counted) in
    record {
      counted =
          p.counted ∙ ap (λ (i : ℕ). i + length p.patterns) g.counted
          ∙ sym (length-append (all_of qs) p.patterns) ∙ ap length (sym (all_more qs p.patterns));
      counts =
          run_more c₀ c 0 (counts_of qs) (total' - total) c' (length qs) g.counts
          (omega (arith, length-map qs (λ (ps : List Pattern). length ps))) e
          ∙ ap (λ (i : ℕ). sets c₀ 0 (counts_of qs ++ (i ∷ []))) d
          ∙ ap (sets c₀ 0) (sym (map-append (λ (ps : List Pattern). length ps) qs (p.patterns ∷ [])));
      masks = two_runs (λ (q : Pattern). q.mask) m₀ qs p.patterns m m' total g.counted g.masks p.masks;
      values = two_runs (λ (q : Pattern). q.values) v₀ qs p.patterns v v' total g.counted g.values p.values;
    }

-- the first j outputs have been read, and the line of the next stands before a place
pub record OutputsRead (text : List ℕ) (n k from : ℕ) (c₀ m₀ v₀ : List ℕ) (j to total : ℕ) (c m v : List ℕ) : Type 0 where
  pub outputs : List (List Pattern)
  pub size : length outputs ≡ j
  pub held : Holds c₀ m₀ v₀ outputs total c m v
  pub goes : (sigma : List ℕ) → fate text (OutputDue n k sigma) from ≡ fate text (PatternDue n k sigma outputs []) to
  pub fits : total ≤ to
  pub within : to ≤ length text

-- all k outputs have been read, and the text ends with the last line
pub record AllRead (text : List ℕ) (n k from : ℕ) (c₀ m₀ v₀ : List ℕ) (total : ℕ) (c m v : List ℕ) : Type 0 where
  pub outputs : List (List Pattern)
  pub size : length outputs ≡ k
  pub held : Holds c₀ m₀ v₀ outputs total c m v
  pub whole : (sigma : List ℕ) → (fate text (OutputDue n k sigma) from).outcome ≡ Whole n k sigma outputs

-- what comes of the outputs
unfoldable pub Ending : List ℕ → ℕ → ℕ → ℕ → List ℕ → List ℕ → List ℕ → List ℕ → List ℕ → List ℕ → Result ℕ ℕ → Type 0
Ending text n k from c₀ m₀ v₀ c m v (Ok total) = AllRead text n k from c₀ m₀ v₀ total c m v
Ending text n k from c₀ m₀ v₀ c m v (Err to) = (sigma : List ℕ) → Stopped text (fate text (OutputDue n k sigma) from) to

-- what the end of a text says after so many patterns: its last line and nothing more
unfoldable pub last_of : List ℕ → ℕ → ℕ → Result ℕ ℕ
last_of text at total =
    cond (begins last_line (drop at text)) (cond (eqb (at + 5) (length text)) (Ok total) (Err (at + 5))) (Err at)

-- the end by the place that was answered
module _ (text : List ℕ) (h : length text < 2 ^ 63) (at total r : ℕ) (g : r ≡ met_at text at last_line) where
  pub last_none : r ≡ lost → Err at ≡ last_of text at total
  unfolding last_of
  last_none d = rw (line-missed text h at last_line last-is-line (sym g ∙ d))

  module _ (d : r ≡ lost → ⊥) where
    met : begins last_line (drop at text) ≡ true
    met = met-found text h at last_line (λ w. d (g ∙ w))

    place : r ≡ at + 5
    unfolding spaced
    place = g ∙ met-yes text h at last_line met

    pub last-over : (r ≡ length text → ⊥) → Err r ≡ last_of text at total
    unfolding last_of
    last-over f = ap Err place ∙ rw (met, ne_eqb (at + 5) (length text) (λ w. f (place ∙ w)))

    pub last-all : r ≡ length text → Ok total ≡ last_of text at total
    unfolding last_of
    last-all f = rw (met, eq-eqb (at + 5) (length text) (sym place ∙ f))

met-within : (text : List ℕ) (at : ℕ) (s : List ℕ) → 1 ≤ length s → begins s (drop at text) ≡ true → at + length s ≤ length text
met-within text at s h e = omega (arith, begins-length s (drop at text) e, length-drop at text)

module _ (text : List ℕ) (h : length text < 2 ^ 63) (n k : ℕ) where
  -- the first output's line
  pub output-first : (from : ℕ) (c m v : List ℕ) (r : ℕ) → r ≡ met_at text from (names_line (output_cover n 0 [])) → (r ≡ lost → ⊥)
      → OutputsRead text n k from c m v 0 r 0 c m v
  unfolding step
  output-first from c m v r e d =
      let s = names_line (output_cover n 0 []) in
      let f : begins s (drop from text) ≡ true = met-found text h from s (λ w. d (e ∙ w)) in
      record {
        outputs = [];
        size = refl;
        held = holds-none c m v;
        goes =
            λ sigma.
            fate-next text (OutputDue n k sigma) from (PatternDue n k sigma [] []) s (head-is-line n 0) f (rw (equal-same s))
            ∙ ap (fate text (PatternDue n k sigma [] [])) (sym (e ∙ met-yes text h from s f));
        fits = omega arith;
        within = rw (e ∙ met-yes text h from s f) (met-within text from s (omega arith) f);
      }

  pub no_output : (from : ℕ) → met_at text from (names_line (output_cover n 0 [])) ≡ lost → (sigma : List ℕ)
      → Stopped text (fate text (OutputDue n k sigma) from) from
  unfolding step
  no_output from e sigma =
      let s = names_line (output_cover n 0 []) in
      fate-stop text (OutputDue n k sigma) from
      (rw (front-begins s (drop from text) (head-is-line n 0), line-missed text h from s (head-is-line n 0) e))

  module _ {from : ℕ} {c₀ m₀ v₀ : List ℕ} {j to total : ℕ} {c m v : List ℕ} (o : OutputsRead text n k from c₀ m₀ v₀ j to total c m v)
      {past total' : ℕ} {m' v' : List ℕ} (p : PatternsRead text n to total m v past total' m' v')
      (ended : pattern_form n (front (drop past text)) ≡ false) where
    abbrev next : List (List Pattern)
    next = o.outputs ++ (p.patterns ∷ [])

    -- the output's patterns have come to their end
    came : (sigma : List ℕ) → fate text (OutputDue n k sigma) from ≡ fate text (PatternDue n k sigma o.outputs p.patterns) past
    came sigma = o.goes sigma ∙ p.goes k sigma o.outputs

    size-next : length next ≡ j + 1
    size-next = length-append o.outputs (p.patterns ∷ []) ∙ ap (λ (i : ℕ). i + 1) o.size

    holds-next : (c' : List ℕ) → c' ≡ set c j (total' - total) → Holds c₀ m₀ v₀ next total' c' m' v'
    holds-next c' e = holds_more o.held p c' (e ∙ ap (λ (i : ℕ). set c i (total' - total)) (sym o.size))

    module _ (l : j + 1 < k) where
      not_last : eqb (suc (length o.outputs)) k ≡ false
      not_last = ne_eqb (suc (length o.outputs)) k (λ e. omega (arith, o.size))

      head : List ℕ
      head = names_line (output_cover n (j + 1) [])

      -- what the line after the patterns says
      said : (sigma : List ℕ)
          → step (PatternDue n k sigma o.outputs p.patterns) (front (drop past text))
          ≡ on (begins head (drop past text)) (More (PatternDue n k sigma next []))
      unfolding step head
      said sigma =
          let i : suc (length o.outputs) ≡ j + 1 = omega (arith, o.size) in
          rw (ended, not_last, i)
          (ap (λ (q : Bool). on q (More (PatternDue n k sigma next [])))
          (front-begins (names_line (output_cover n (j + 1) [])) (drop past text) (head-is-line n (j + 1))))

      pub output-next : (c' : List ℕ) → c' ≡ set c j (total' - total) → (r : ℕ) → r ≡ met_at text past (names_line (output_cover n (j + 1) []))
          → (r ≡ lost → ⊥) → OutputsRead text n k from c₀ m₀ v₀ (j + 1) r total' c' m' v'
      unfolding head
      output-next c' e r g d =
          let s = names_line (output_cover n (j + 1) []) in
          let f : begins s (drop past text) ≡ true = met-found text h past s (λ w. d (g ∙ w)) in
          let w = met-within text past s (omega arith) f in
          record {
            outputs = next;
            size = size-next;
            held = holds-next c' e;
            goes =
                λ sigma.
                came sigma
                ∙ fate-met text h (PatternDue n k sigma o.outputs p.patterns) past (PatternDue n k sigma next []) s (head-is-line n (j + 1)) f
                (said sigma ∙ rw f)
                ∙ ap (fate text (PatternDue n k sigma next [])) (sym g);
            fits = omega (arith, p.fits, g, met-yes text h past s f);
            within = rw (g ∙ met-yes text h past s f) w;
          }

      pub output-stop : met_at text past (names_line (output_cover n (j + 1) [])) ≡ lost → (sigma : List ℕ)
          → Stopped text (fate text (OutputDue n k sigma) from) past
      unfolding head
      output-stop g sigma =
          let s = names_line (output_cover n (j + 1) []) in
          stop-after (came sigma)
          (fate-stop text (PatternDue n k sigma o.outputs p.patterns) past
          (said sigma ∙ rw (line-missed text h past s (head-is-line n (j + 1)) g)))

    module _ (l : j + 1 ≡ k) where
      is_last : eqb (suc (length o.outputs)) k ≡ true
      is_last = eq-eqb (suc (length o.outputs)) k (omega (arith, o.size))

      not-whole : begins last_line (drop past text) ≡ false → (sigma : List ℕ)
          → step (PatternDue n k sigma o.outputs p.patterns) (front (drop past text)) ≡ Bad
      unfolding step
      not-whole f sigma = rw (ended, is_last) (ap (λ (q : Bool). on q (Whole n k sigma next)) (front-begins last_line (drop past text) last-is-line ∙ f))

      is_whole : begins last_line (drop past text) ≡ true → (sigma : List ℕ)
          → step (PatternDue n k sigma o.outputs p.patterns) last_line ≡ Whole n k sigma next
      unfolding step
      is_whole f sigma =
          let u : front (drop past text) ≡ last_line = equal-true (front (drop past text)) last_line (front-begins last_line (drop past text) last-is-line ∙ f) in
          rw (sym (ap (pattern_form n) u) ∙ ended, is_last, equal-same last_line)

      -- the last line, and nothing more
      pub output-last : (c' : List ℕ) → c' ≡ set c j (total' - total) → Ending text n k from c₀ m₀ v₀ c' m' v' (last_of text past total')
      unfolding last_of Ending spaced
      output-last c' e = go (begins last_line (drop past text)) refl
        where
          less : begins last_line (drop past text) ≡ true → (past + 5 ≡ length text → ⊥) → past + 5 < length text
          less f d = let w : past + 5 ≤ length text = met-within text past last_line (omega arith) f in omega arith

          over : begins last_line (drop past text) ≡ true → (q : Bool) → eqb (past + 5) (length text) ≡ q
              → Ending text n k from c₀ m₀ v₀ c' m' v' (cond q (Ok total') (Err (past + 5)))
          over f true g =
              record {
                outputs = next;
                size = size-next ∙ l;
                held = holds-next c' e;
                whole =
                    λ sigma.
                    ap (λ (x : Fate). x.outcome) (came sigma)
                    ∙ fate-whole text (PatternDue n k sigma o.outputs p.patterns) past last_line last-is-line f n k sigma next (is_whole f sigma)
                    (omega (arith, eqb-true (past + 5) (length text) g));
              }
          over f false g =
              λ sigma.
              stop-after (came sigma)
              (fate-over text (PatternDue n k sigma o.outputs p.patterns) past last_line last-is-line f n k sigma next (is_whole f sigma)
              (less f (eqb-false (past + 5) (length text) g)))

          go : (q : Bool) → begins last_line (drop past text) ≡ q
              → Ending text n k from c₀ m₀ v₀ c' m' v' (cond q (cond (eqb (past + 5) (length text)) (Ok total') (Err (past + 5))) (Err past))
          go true f = over f (eqb (past + 5) (length text)) refl
          go false f = λ sigma. stop-after (came sigma) (fate-stop text (PatternDue n k sigma o.outputs p.patterns) past (not-whole f sigma))
