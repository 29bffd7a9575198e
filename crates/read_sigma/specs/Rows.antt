-- The rows of sigma by place: a row's first line copies an input (`copied`), begins a chain (`begun-chain`), or is neither (`row-none`);
-- and all rows, one after the other (`Rows`). Assumes nothing.
use Rattle.std.specs.Prelude.{◌≡◌, refl, Bool, true, cond, ℕ, ◌+◌, ◌^◌, ◌≤◌, ◌<◌, ltb, drop, Result, Ok, Err}
use Rattle.std.proofs.Common.{sym, ◌∙◌, arith, lt-ltb, le-ltb, eq-eqb, ne_eqb}
use Rattle.std.proofs.Math.Path.{ap}
use mathlib.Core.List.{List, [], ◌∷◌, ◌++◌}
use Rattle.std.proofs.Math.Decide.{dec_lt}
use Rattle.std.proofs.Math.ListN.{length, set, length-append, get_or-append}
use Rattle.std.proofs.lemmas.List.Edits.{sets}
use Rattle.std.proofs.Math.Seq.{get_or-append_seam}
use Rattle.slices.specs.Places.{first}
use Rattle.slices.specs.Places as places
use Rattle.slices.specs.Least.{first_passes}
use Rattle.block.specs.Text.{equal}
use Rattle.block.specs.Covers.{names_word}
use Rattle.block.specs.Model.{x_name, z_name, copy_cover, names_line, cube_line}
use Rattle.block.specs.ModelRead.{State, Outcome, Due, RowDue, OutputDue, More, on, or_else, attempt, next_row, link, step}
use Rattle.read_laws.specs.Front.{front}
use Rattle.put_bytes.specs.Puts.{sets-append}
use Rattle.read_names.specs.Met.{begins, met_at, met-then, begins-then}
use Rattle.read_names.specs.Fate.{front-begins, Stopped, fate, fate-met, fate-stop, stop-after}
use Rattle.read_names.specs.Attempts.{attempt-first}
use Rattle.model_laws.specs.WordLines.{x-word}
use Rattle.read_chains.specs.Chains.{tail, opening, copy_line, copy-is-line, linked_at, state_by, Chaining, Chained, Ended, link-there, ended-chain, power-lt}

-- ---- a row's first line

-- the line copies input a
abbrev pub copy_at : List ℕ → ℕ → ℕ → ℕ → Bool
copy_at t at i a = begins (tail a (z_name i)) (drop at t)

-- the line begins a chain with input a
abbrev pub chain_at : List ℕ → ℕ → ℕ → ℕ → ℕ → Bool
chain_at t at n i a = ltb (first n (linked_at t (met_at t at (32 ∷ x_name a)) n (2 ^ a) i 1)) n

module _ (text : List ℕ) (h : length text < 2 ^ 63) (n i at begun : ℕ) (g : begun ≡ met_at text at names_word) where
  copy_met : (a i : ℕ) → begins (names_line (copy_cover a i)) (drop at text) ≡ begins (tail a (z_name i)) (drop begun text)
  copy_met a i =
      ap (λ (s : List ℕ). begins s (drop at text)) (sym (copy_line a i))
      ∙ begins-then text h at names_word 32 (x_name a ++ (32 ∷ z_name i ++ (10 ∷ [])))
      ∙ ap (λ (r : ℕ). begins (tail a (z_name i)) (drop r text)) (sym g)

  opened-at : (a : ℕ) → met_at text begun (32 ∷ x_name a) ≡ met_at text at (opening (x_name a))
  opened-at a = ap (λ (r : ℕ). met_at text r (32 ∷ x_name a)) g ∙ met-then text h at names_word (32 ∷ x_name a)

  abbrev copy_due : ℕ → List ℕ → ℕ → State
  copy_due k rs a = Due (cube_line (49 ∷ [])) (next_row n k (rs ++ (2 ^ a ∷ [])))

  row-said : (k : ℕ) (rs : List ℕ) → length rs ≡ i
      → step (RowDue n k rs) (front (drop at text))
      ≡ or_else (on (ltb (first n (copy_at text begun i)) n) (More (copy_due k rs (first n (copy_at text begun i)))))
      (attempt n (λ a. link n k rs (x_name a) (2 ^ a) 1 (front (drop at text))))
  unfolding step
  row-said k rs e =
      ap (λ (o : Outcome). or_else o (attempt n (λ a. link n k rs (x_name a) (2 ^ a) 1 (front (drop at text)))))
      (attempt-first n
      (λ a. on (equal (front (drop at text)) (names_line (copy_cover a (length rs)))) (More (copy_due k rs a)))
      (copy_at text begun i) (copy_due k rs)
      (λ a l.
      ap (λ (q : Bool). on q (More (copy_due k rs a)))
      (front-begins (names_line (copy_cover a (length rs))) (drop at text) (copy-is-line a (length rs)) ∙ copy_met a (length rs)
      ∙ ap (λ (j : ℕ). begins (tail a (z_name j)) (drop begun text)) e)))

  pub copied : (a : ℕ) → first n (copy_at text begun i) ≡ a → a < n → (k : ℕ) (rs : List ℕ) → length rs ≡ i
      → fate text (RowDue n k rs) at ≡ fate text (copy_due k rs a) (met_at text begun (tail a (z_name i)))
  copied a f l k rs e =
      let q : begins (tail a (z_name i)) (drop begun text) ≡ true = rw f at (first_passes n (copy_at text begun i) (omega arith)) in
      fate-met text h (RowDue n k rs) at (copy_due k rs a) (names_line (copy_cover a i)) (copy-is-line a i) (copy_met a i ∙ q)
      (row-said k rs e ∙ rw (f, lt-ltb a n l))
      ∙ ap (fate text (copy_due k rs a))
      (sym (ap (λ (r : ℕ). met_at text r (tail a (z_name i))) g ∙ met-then text h at names_word (tail a (z_name i)) ∙ ap (met_at text at) (copy_line a i)))

  -- by what the functions answered
  pub row_copied : (a : ℕ) → a ≡ first n (copy_at text begun i) → a < n → (v to : ℕ) → v ≡ 2 ^ a → to ≡ met_at text begun (tail a (z_name i))
      → (r : Result (ℕ × ℕ) ℕ) → ((s : State) → Ended text (Due (cube_line (49 ∷ [])) s) to s v r) → Chained text n i (λ k rs. RowDue n k rs) at r
  row_copied a f l v to e m r d =
      ended-chain text n i (λ k rs. RowDue n k rs) at v to (Due (cube_line (49 ∷ []))) (rw e (power-lt a n l))
      (λ k rs q. rw (e, m) (copied a (sym f) l k rs q)) r d

  module _ (u : n ≤ first n (copy_at text begun i)) where
    -- no copy stands there
    no_copy : (k : ℕ) (rs : List ℕ) → length rs ≡ i
        → step (RowDue n k rs) (front (drop at text)) ≡ attempt n (λ a. link n k rs (x_name a) (2 ^ a) 1 (front (drop at text)))
    no_copy k rs e = row-said k rs e ∙ rw (le-ltb (first n (copy_at text begun i)) n u)

    abbrev after_first : ℕ → List ℕ → ℕ → State
    after_first k rs a =
        state_by text n k rs (2 ^ a) 1 (met_at text begun (32 ∷ x_name a)) (first n (linked_at text (met_at text begun (32 ∷ x_name a)) n (2 ^ a) i 1))

    link-first : (a k : ℕ) (rs : List ℕ) → length rs ≡ i
        → link n k rs (x_name a) (2 ^ a) 1 (front (drop at text)) ≡ on (chain_at text begun n i a) (More (after_first k rs a))
    link-first a k rs e =
        link-there text h n k rs (x_name a) (2 ^ a) 1 at (x-word a) (met_at text begun (32 ∷ x_name a)) (opened-at a)
        ∙ ap (λ (j : ℕ). on (ltb (first n (linked_at text (met_at text begun (32 ∷ x_name a)) n (2 ^ a) j 1)) n)
        (More (state_by text n k rs (2 ^ a) 1 (met_at text begun (32 ∷ x_name a)) (first n (linked_at text (met_at text begun (32 ∷ x_name a)) n (2 ^ a) j 1))))) e

    chains-said : (k : ℕ) (rs : List ℕ) → length rs ≡ i
        → attempt n (λ a. link n k rs (x_name a) (2 ^ a) 1 (front (drop at text)))
        ≡ on (ltb (first n (chain_at text begun n i)) n) (More (after_first k rs (first n (chain_at text begun n i))))
    chains-said k rs e =
        attempt-first n (λ a. link n k rs (x_name a) (2 ^ a) 1 (front (drop at text))) (chain_at text begun n i) (after_first k rs)
        (λ a l. link-first a k rs e)

    pub begun-chain : (a : ℕ) → first n (chain_at text begun n i) ≡ a → a < n
        → Chaining text n i (2 ^ a) 1 at (met_at text begun (32 ∷ x_name a)) (λ k rs. RowDue n k rs)
    begun-chain a f l =
        let q : chain_at text begun n i a ≡ true = rw f at (first_passes n (chain_at text begun n i) (omega arith)) in
        record {
          from = x_name a;
          word = x-word a;
          opened = opened-at a;
          links =
              λ k rs e.
              no_copy k rs e ∙ chains-said k rs e ∙ rw (f, lt-ltb a n l)
              (sym (link-first a k rs e ∙ ap (λ (b : Bool). on b (More (after_first k rs a))) q));
        }

    pub row_chained : (a : ℕ) → a ≡ first n (chain_at text begun n i) → a < n → (v met : ℕ) → v ≡ 2 ^ a → met ≡ met_at text begun (32 ∷ x_name a)
        → Chaining text n i v 1 at met (λ k rs. RowDue n k rs)
    row_chained a f l v met e m = rw (e, m) (begun-chain a (sym f) l)

    pub row-none : n ≤ first n (chain_at text begun n i) → (k : ℕ) (rs : List ℕ) → length rs ≡ i → Stopped text (fate text (RowDue n k rs) at) at
    row-none l k rs e =
        fate-stop text (RowDue n k rs) at (no_copy k rs e ∙ chains-said k rs e ∙ rw (le-ltb (first n (chain_at text begun n i)) n l))

-- ---- all rows

-- the first i rows have been read: they are below 2^n, and lie at the front of a lent list, as many as fit
pub record SoFar (text : List ℕ) (n from : ℕ) (l₀ : List ℕ) (i at : ℕ) (l : List ℕ) : Type 0 where
  pub rows : List ℕ
  pub size : length rows ≡ i
  pub small : (j : ℕ) → j < i → places.at rows j < 2 ^ n
  pub held : l ≡ sets l₀ 0 rows
  pub goes : (k : ℕ) → fate text (RowDue n k []) from ≡ fate text (next_row n k rows) at

-- all have been, and the outputs are due at the place after them
pub record AllRows (text : List ℕ) (n from : ℕ) (l₀ : List ℕ) (at : ℕ) (l : List ℕ) : Type 0 where
  pub rows : List ℕ
  pub size : length rows ≡ n
  pub small : (j : ℕ) → j < n → places.at rows j < 2 ^ n
  pub held : l ≡ sets l₀ 0 rows
  pub goes : (k : ℕ) → fate text (RowDue n k []) from ≡ fate text (OutputDue n k rows) at

-- what comes of the rows
unfoldable pub Rows : List ℕ → ℕ → ℕ → List ℕ → List ℕ → Result ℕ ℕ → Type 0
Rows text n from l₀ l (Ok to) = AllRows text n from l₀ to l
Rows text n from l₀ l (Err to) = (k : ℕ) → Stopped text (fate text (RowDue n k []) from) to

pub rows-first : (text : List ℕ) (n from : ℕ) (l : List ℕ) → 1 ≤ n → SoFar text n from l 0 from l
rows-first text n from l h =
    record {
      rows = [];
      size = refl;
      small = λ j b. absurd (omega arith);
      held = refl;
      goes = λ k. rw (ne_eqb 0 n (λ e. omega arith));
    }

module _ {text : List ℕ} {n from : ℕ} {l₀ : List ℕ} {i at : ℕ} {l : List ℕ} (s : SoFar text n from l₀ i at l) where
  -- a row is due
  due-row : i < n → (k : ℕ) → fate text (RowDue n k []) from ≡ fate text (RowDue n k s.rows) at
  due-row h k =
      s.goes k
      ∙ ap (λ (q : Bool). fate text (cond q (OutputDue n k s.rows) (RowDue n k s.rows)) at)
      (ne_eqb (length s.rows) n (λ e. omega (arith, s.size)))

  pub rows-stop : i < n → (bad : ℕ) → Chained text n i (λ k rs. RowDue n k rs) at (Err bad)
      → (k : ℕ) → Stopped text (fate text (RowDue n k []) from) bad
  unfolding Chained
  rows-stop h bad c k = stop-after (due-row h k) (c k s.rows s.size)

  pub rows_more : i < n → (m to : ℕ) → Chained text n i (λ k rs. RowDue n k rs) at (Ok (m, to)) → (l' : List ℕ) → l' ≡ set l i m
      → SoFar text n from l₀ (i + 1) to l'
  unfolding Chained
  rows_more h m to c l' e =
      record {
        rows = s.rows ++ (m ∷ []);
        size = length-append s.rows (m ∷ []) ∙ omega (arith, s.size);
        small = λ j b. go j b (dec_lt j i);
        held =
            e ∙ ap (λ (x : List ℕ). set x i m) s.held
            ∙ sets-append s.rows (m ∷ []) l₀ 0 i (omega (arith, s.size));
        goes = λ k. due-row h k ∙ c.1 k s.rows s.size;
      }
    where
      go : (j : ℕ) → j < i + 1 → Dec (j < i) → places.at (s.rows ++ (m ∷ [])) j < 2 ^ n
      go j b (yes d) = rw (get_or-append s.rows (m ∷ []) 0 j (omega (arith, s.size))) (s.small j d)
      go j b (no d) =
          let f : j ≡ length s.rows = omega (arith, s.size) in
          rw (f, get_or-append_seam s.rows m [] 0) c.0

  pub rows_all : i ≡ n → AllRows text n from l₀ at l
  rows_all e =
      record {
        rows = s.rows;
        size = s.size ∙ e;
        small = λ j b. s.small j (omega arith);
        held = s.held;
        goes =
            λ k.
            s.goes k
            ∙ ap (λ (q : Bool). fate text (cond q (OutputDue n k s.rows) (RowDue n k s.rows)) at)
            (eq-eqb (length s.rows) n (s.size ∙ e));
      }
