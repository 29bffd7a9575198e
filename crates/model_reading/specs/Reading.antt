-- The answer of the reader of models, and what the lent slices hold: how many lines end before a place, the checks for what was read, and
-- that a second reading stores all that it holds. Assumes nothing.
use Rattle.std.specs.Prelude.{◌≡◌, Bool, true, ◌||◌, List, [], ◌∷◌, ◌++◌, ℕ, ◌+◌, ◌≤◌, ◌<◌, min, eqb, ltb, length, get_or, take, drop, Result, Ok, Err}
use Rattle.std.proofs.Math.Path.{refl, sym}
use Rattle.std.proofs.Common.{ap, ◌∙◌, add-zero, zero-add, add-one, arith, lt-ltb, le-ltb, ltb-false, take-suc, take_all, take_at}
use Rattle.std.proofs.Math.Bool.{false, not}
use Rattle.std.proofs.Math.Nat.{min-le_left, min-le_right}
use Rattle.std.proofs.lemmas.List.{length-map}
use Rattle.std.proofs.lemmas.List.Edits.{sets, sets-eq}
use Rattle.std.proofs.Math.Seq.{take-length}
use Rattle.slices.specs.Places.{at, over}
use Rattle.sums.specs.Sums.{one}
use Rattle.block.specs.Text.{lines, first_line}
use Rattle.block.specs.Refusals.{Check, check, verdict, dependent}
use Rattle.block.specs.ModelRead.{start, outcome_of, is_whole, counts_of, all_of, good_lines, read_model_verdict, with_model, read_model, matrix_in, counts_in, patterns_in}
use Rattle.block.specs.declared.ModelAnswer.{ModelAnswer}
use Rattle.block.specs.declared.Pattern.{Pattern}
use Rattle.refusal_laws.specs.Verdicts.{verdict-hit, verdict-miss, verdict-none, passes}
use Rattle.read_laws.specs.Tests.{not-both}
use Rattle.read_names.specs.Fate.{ends, ends-append}
use Rattle.read_outputs.specs.Outputs.{masks_of, values_of}
use Rattle.read_model.specs.Whole.{ModelHeld, ModelBroken, Modelled}

-- ---- how many lines end before a place

pub ends-none : (t : List ℕ) → ends (take 0 t) ≡ 0
unfolding ends
ends-none t = refl

pub ends_more : (t : List ℕ) (i : ℕ) → i < length t → ends (take (i + 1) t) ≡ ends (take i t) + one (eqb (get_or t i 0) 10)
unfolding ends
ends_more t i h =
    ap (λ (j : ℕ). ends (take j t)) (add-one i) ∙ ap ends (take-suc t i 0 h) ∙ ends-append (take i t) (get_or t i 0 ∷ [])
    ∙ ap (λ (j : ℕ). ends (take i t) + j) (add-zero (one (eqb (get_or t i 0) 10)))

pub ends-all : (t : List ℕ) (i at : ℕ) → i ≡ length t → i ≤ at → ends (take i t) ≡ ends (take at t)
ends-all t i at e h = ap (λ (j : ℕ). ends (take j t)) e ∙ ap ends (take-length t ∙ sym (take_all at t (omega arith)))

-- ---- the checks for a model that was read

-- 5
abbrev pub short : ℕ → ℕ → ℕ → ℕ → ℕ → ℕ → Bool
short rm rc rp n k total = ltb rm n || (ltb rc k || ltb rp total)

-- 5, then 8
abbrev pub rest_checks : ℕ → ℕ → ℕ → ℕ → ℕ → ℕ → List ℕ → List Check
rest_checks rm rc rp n k total sigma =
    check (short rm rc rp n k total) 5 0 0
    ∷ check (ltb (dependent n (at sigma)) n) 8 (dependent n (at sigma)) 0
    ∷ []

-- an answer of the reader
abbrev pub told : ℕ → ℕ → ℕ → ℕ → ℕ → ModelAnswer
told number a n k total = record { number = number; a = a; b = 0; n = n; k = k; patterns = total }

module _ (rm rc rp n k total : ℕ) (sigma : List ℕ) where
  pub short-told : short rm rc rp n k total ≡ true → told 5 0 0 0 0 ≡ with_model (verdict (rest_checks rm rc rp n k total sigma)) n k total
  short-told e = rw (verdict-hit (check (short rm rc rp n k total) 5 0 0) _ e)

  module _ (e : short rm rc rp n k total ≡ false) (d : ℕ) (f : d ≡ dependent n (at sigma)) where
    pub dependent-told : d < n → told 8 d 0 0 0 ≡ with_model (verdict (rest_checks rm rc rp n k total sigma)) n k total
    dependent-told l =
        rw (
          verdict-miss (check (short rm rc rp n k total) 5 0 0) _ e,
          ← f,
          verdict-hit (check (ltb d n) 8 d 0) [] (lt-ltb d n l),
        )

    pub whole-told : n ≤ d → told 0 0 n k total ≡ with_model (verdict (rest_checks rm rc rp n k total sigma)) n k total
    whole-told l =
        rw (
          verdict-miss (check (short rm rc rp n k total) 5 0 0) _ e,
          ← f,
          verdict-miss (check (ltb d n) 8 d 0) [] (le-ltb d n l),
          verdict-none,
        )

module _ (text : List ℕ) (rm rc rp : ℕ) where
  -- 10, at the line after those that end before the place
  pub broken-told : (to good : ℕ) → ModelBroken text to → good ≡ ends (take to text) → told 10 (1 + good) 0 0 0 ≡ read_model text rm rc rp
  unfolding read_model read_model_verdict
  broken-told to good b e =
      rw (verdict-hit (check (not (is_whole (outcome_of text))) 10 (first_line + good_lines start (lines text)) 0) _ (ap not b.broken))
      (ap (λ (l : ℕ). told 10 (1 + l) 0 0 0) (e ∙ sym b.line))

  -- for a model the others decide
  pub read_told : {s₀ c₀ m₀ v₀ : List ℕ} {n k total : ℕ} {s c m v : List ℕ} (h : ModelHeld text s₀ c₀ m₀ v₀ n k total s c m v)
      → with_model (verdict (rest_checks rm rc rp n k total h.sigma)) n k total ≡ read_model text rm rc rp
  unfolding read_model read_model_verdict
  read_told {n = n} {k = k} {total = total} h =
      rw (h.said, verdict-miss (check false 10 (first_line + good_lines start (lines text)) 0) _ refl, ← h.held.counted)

-- ---- what is stored

sets_over : (t l : List ℕ) → length t ≤ length l → sets l 0 t ≡ over t l
sets_over t l h = sets-eq t l 0 (omega arith) ∙ ap (λ (i : ℕ). t ++ drop i l) (zero-add (length t))

-- the rows that a first reading left at the front of its own room
pub rows-front : {text s₀ c₀ m₀ v₀ : List ℕ} {n k total : ℕ} {s c m v : List ℕ} (h : ModelHeld text s₀ c₀ m₀ v₀ n k total s c m v)
    → n ≤ length s₀ → take n s ≡ h.sigma
rows-front {s₀ = s₀} {n = n} h l =
    ap (take n) (h.matrix ∙ sets_over h.sigma s₀ (omega (arith, h.rows)))
    ∙ take_at h.sigma (drop (length h.sigma) s₀) n h.rows

-- what a reading into the lent slices leaves in them, where nothing is refused
pub record Stored (text s₀ c₀ m₀ v₀ s c m v : List ℕ) : Type 0 where
  pub matrix : s ≡ over (matrix_in text) s₀
  pub counts : c ≡ over (counts_in text) c₀
  pub masks : m ≡ over (masks_of (patterns_in text)) m₀
  pub values : v ≡ over (values_of (patterns_in text)) v₀

held-stored : {text s₀ c₀ m₀ v₀ : List ℕ} {n k total : ℕ} {s c m v : List ℕ} → ModelHeld text s₀ c₀ m₀ v₀ n k total s c m v
    → n ≤ length s₀ → k ≤ length c₀ → total ≤ length m₀ → total ≤ length v₀ → Stored text s₀ c₀ m₀ v₀ s c m v
unfolding matrix_in counts_in patterns_in
held-stored {s₀ = s₀} {c₀ = c₀} {m₀ = m₀} {v₀ = v₀} h ls lc lm lv =
    record {
      matrix = rw h.said (h.matrix ∙ sets_over h.sigma s₀ (omega (arith, h.rows)));
      counts =
          rw h.said
          (h.held.counts ∙ sets_over (counts_of h.patterns) c₀ (omega (arith, h.count, length-map h.patterns (λ (ps : List Pattern). length ps))));
      masks =
          rw h.said
          (h.held.masks
          ∙ sets_over (masks_of (all_of h.patterns)) m₀ (omega (arith, h.held.counted, length-map (all_of h.patterns) (λ (p : Pattern). p.mask))));
      values =
          rw h.said
          (h.held.values
          ∙ sets_over (values_of (all_of h.patterns)) v₀ (omega (arith, h.held.counted, length-map (all_of h.patterns) (λ (p : Pattern). p.values))));
    }

-- a room that is not short
enough : (rm rc rp n k total : ℕ) → short rm rc rp n k total ≡ false → (n ≤ rm) × (k ≤ rc) × (total ≤ rp)
enough rm rc rp n k total e = go (ltb rm n) refl (ltb rc k) refl (ltb rp total) refl e
  where
    go : (x : Bool) → ltb rm n ≡ x → (y : Bool) → ltb rc k ≡ y → (z : Bool) → ltb rp total ≡ z → x || (y || z) ≡ false
        → (n ≤ rm) × (k ≤ rc) × (total ≤ rp)
    go true a y b z c d = let q : ◌≡◌ {A = ℕ} 0 1 = cc in absurd (omega arith)
    go false a true b z c d = let q : ◌≡◌ {A = ℕ} 0 1 = cc in absurd (omega arith)
    go false a false b true c d = let q : ◌≡◌ {A = ℕ} 0 1 = cc in absurd (omega arith)
    go false a false b false c d = (ltb-false rm n a, ltb-false rc k b, ltb-false rp total c)

-- where the verdict is 0 the text is a model, and it fits
pub all-stored : (text s₀ c₀ m₀ v₀ s c m v : List ℕ) (r : Result (ℕ × ℕ × ℕ) ℕ) → Modelled text s₀ c₀ m₀ v₀ s c m v r
    → (read_model_verdict text (length s₀) (length c₀) (min (length m₀) (length v₀))).number ≡ 0 → Stored text s₀ c₀ m₀ v₀ s c m v
unfolding Modelled read_model_verdict
all-stored text s₀ c₀ m₀ v₀ s c m v (Err to) h e =
    let p = passes (check (not (is_whole (outcome_of text))) 10 (first_line + good_lines start (lines text)) 0) _ refl e in
    not-both (not (is_whole (outcome_of text))) (ap not h.broken) p.0
all-stored text s₀ c₀ m₀ v₀ s c m v (Ok (n, k, total)) h e =
    let p = passes (check (not (is_whole (outcome_of text))) 10 (first_line + good_lines start (lines text)) 0) _ refl e in
    let q = passes _ _ refl p.1 in
    let f : short (length s₀) (length c₀) (min (length m₀) (length v₀)) n k total ≡ false =
    rw (← h.held.counted) at (rw h.said at q.0) in
    let l = enough (length s₀) (length c₀) (min (length m₀) (length v₀)) n k total f in
    held-stored h l.0 l.1 (omega (arith, l.2, min-le_left (length m₀) (length v₀))) (omega (arith, l.2, min-le_right (length m₀) (length v₀)))
