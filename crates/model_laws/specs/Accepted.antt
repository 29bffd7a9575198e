-- Lines that lead to a whole model are the lines that are written for what it says (`whole-written`), which is within the ranges: what
-- has led to each state (`Led`) is kept by every line. Assumes nothing.
use Rattle.std.specs.Prelude.{◌≡◌, refl, Bool, true, false, cond, ◌&&◌, List, [], ◌∷◌, ◌++◌, eqb, ltb, length}
use Rattle.std.proofs.Common.{sym, ap, ap₂, ◌∙◌, append_assoc, append-nil, add-one, arith, eqb-true, ltb-true, length-append, pow_pos}
use Prim.Native.Nat.{ℕ, zero, suc, ◌+◌, ◌-◌, ◌^◌, ◌≤◌, ◌<◌}
use Rattle.std.proofs.Math.Decide.{dec_lt}
use Rattle.std.proofs.lemmas.Bool.{eqb-false}
use Rattle.std.proofs.Math.ListN.{get_or-append}
use Rattle.std.proofs.Math.Pow.{pow-lt}
use Rattle.std.proofs.Math.Seq.{get_or-append_seam}
use Rattle.slices.specs.Places.{at}
use Rattle.slices.specs.Tests.{and_both}
use Rattle.block.specs.Limits.{list_inputs, outputs}
use Rattle.block.specs.Text.{equal}
use Rattle.read_laws.specs.Tests.{equal-true}
use Rattle.block.specs.declared.Pattern.{Pattern}
use Rattle.block.specs.Covers.{Cover}
use Rattle.block.specs.Model.{x_name, z_name, part_name, copy_cover, xor_cover, chain, row_covers, inputs_of, front_covers, cube_of, output_cover, back_covers, model_covers, names_line, cube_line, cover_lines, title_line, inputs_line, outputs_line, last_line, model_lines}
use Rattle.model_laws.specs.Inputs.{more_lt, inputs-add, inputs-pow}
use Rattle.block.specs.ModelRead.{State, Due, InputsDue, OutputsDue, RowDue, LinkDue, OutputDue, PatternDue, Outcome, More, Whole, Bad, on, or_else, attempt, next_row, xor_due, link_at, link, pattern_form, pattern_on, step, onward, after, start}
use Rattle.model_laws.specs.Lines.{lines-append, front-more, output-lines, open_more}
use Rattle.model_laws.specs.Patterns.{Sounds, AllSound, sounds-more, all_more, on-sound, form-pattern}

-- ---- what holds of each way on holds of the way taken

module _ (P : Outcome → Type 0) (bad : P Bad) where
  on-has : (b : Bool) (o : Outcome) → (b ≡ true → P o) → P (on b o)
  on-has true o h = h refl
  on-has false o h = bad

  or-has : (o q : Outcome) → P o → P q → P (or_else o q)
  or-has (More s) q h k = h
  or-has (Whole n k sigma qs) q h l = h
  or-has Bad q h k = k

  attempt-has : (m : ℕ) (f : ℕ → Outcome) → ((i : ℕ) → i < m → P (f i)) → P (attempt m f)
  unfolding attempt
  attempt-has zero f h = bad
  attempt-has (suc m) f h = or-has (attempt m f) (f m) (attempt-has m f (λ i l. h i (omega arith))) (h m (omega arith))

-- ---- the lines that lead to each state

-- the three lines before the covers
abbrev pub heads : ℕ → ℕ → List (List ℕ)
heads n k = title_line ∷ inputs_line n ∷ outputs_line k ∷ []

-- n and k are in their ranges
pub record Sized (n k : ℕ) : Type 0 where
  pub inputs : (1 ≤ n) × (n ≤ list_inputs)
  pub outs : (1 ≤ k) × (k ≤ outputs)

-- each row is a number of n inputs, not 0
abbrev pub RowsGood : ℕ → List ℕ → Type 0
RowsGood n rs = (j : ℕ) → j < length rs → (0 < at rs j) × (at rs j < 2 ^ n)

-- some rows of sigma, and not yet all
pub record Fronted (n k : ℕ) (rs : List ℕ) : Type 0 where
  pub sized : Sized n k
  pub few : length rs < n
  pub rows : RowsGood n rs

-- all rows of sigma
pub record Backed (n k : ℕ) (sigma : List ℕ) : Type 0 where
  pub sized : Sized n k
  pub full : length sigma ≡ n
  pub rows : RowsGood n sigma

-- the lines up to these rows
abbrev pub front_lines : ℕ → ℕ → List ℕ → List (List ℕ)
front_lines n k rs = heads n k ++ cover_lines (front_covers n (at rs) (length rs))

-- what n, k, sigma and the patterns of a whole model are
pub record ModelSaid (n k : ℕ) (sigma : List ℕ) (qs : List (List Pattern)) : Type 0 where
  pub sized : Sized n k
  pub full : length sigma ≡ n
  pub rows : RowsGood n sigma
  pub outs : length qs ≡ k
  pub patterns : AllSound n qs

-- the lines that lead to a state. Within a chain: whatever inputs are still to come, the lines so far and those of the rest of the chain
-- are the lines of the whole row, and some input is above those so far
unfoldable pub Led : List (List ℕ) → State → Type 0
Led pre (Due l s) = Led (pre ++ (l ∷ [])) s
Led pre InputsDue = pre ≡ title_line ∷ []
Led pre (OutputsDue n) = (pre ≡ title_line ∷ inputs_line n ∷ []) × (1 ≤ n) × (n ≤ list_inputs)
Led pre (RowDue n k rs) = Fronted n k rs × (pre ≡ front_lines n k rs)
Led pre (LinkDue n k rs m p) =
    Fronted n k rs × (0 < m) × (m < 2 ^ (n - 1))
    × ((b : ℕ) (bs : List ℕ) → pre ++ cover_lines (chain (length rs) (part_name (length rs) p) (suc p) (b ∷ bs))
    ≡ front_lines n k rs ++ cover_lines (row_covers (length rs) (inputs_of n m ++ (b ∷ bs))))
Led pre (OutputDue n k sigma) = Backed n k sigma × (pre ≡ front_lines n k sigma)
Led pre (PatternDue n k sigma qs ps) =
    Backed n k sigma × (length qs < k) × AllSound n qs × Sounds n ps
    × (pre ≡ front_lines n k sigma ++ cover_lines (back_covers n 0 (qs ++ (ps ∷ []))))

unfoldable pub LedTo : List (List ℕ) → Outcome → Type 0
LedTo pre (More s) = Led pre s
LedTo pre (Whole n k sigma qs) = ModelSaid n k sigma qs × (pre ≡ model_lines n k (model_covers n sigma qs))
LedTo pre Bad = Unit

-- ---- a row more

rows_more : (n : ℕ) (rs : List ℕ) (v : ℕ) → RowsGood n rs → 0 < v → v < 2 ^ n → RowsGood n (rs ++ (v ∷ []))
rows_more n rs v h l k j b = go (dec_lt j (length rs))
  where
    go : Dec (j < length rs) → (0 < at (rs ++ (v ∷ [])) j) × (at (rs ++ (v ∷ [])) j < 2 ^ n)
    go (yes q) = rw (get_or-append rs (v ∷ []) 0 j q) (h j q)
    go (no q) =
        let e : j ≡ length rs = omega (arith, length-append rs (v ∷ [])) in
        rw (e, get_or-append_seam rs v [] 0) (l, k)

-- a row is done
row_done : (n k : ℕ) (rs : List ℕ) (v : ℕ) (pre : List (List ℕ)) → Fronted n k rs → 0 < v → v < 2 ^ n
    → pre ≡ front_lines n k rs ++ cover_lines (row_covers (length rs) (inputs_of n v)) → Led pre (next_row n k (rs ++ (v ∷ [])))
unfolding Led
row_done n k rs v pre f l h e = go (eqb (length (rs ++ (v ∷ []))) n) refl
  where
    whole : pre ≡ front_lines n k (rs ++ (v ∷ []))
    whole =
        e
        ∙ append_assoc (heads n k) (cover_lines (front_covers n (at rs) (length rs))) (cover_lines (row_covers (length rs) (inputs_of n v)))
        ∙ ap (λ (t : List (List ℕ)). heads n k ++ t)
        (sym (lines-append (front_covers n (at rs) (length rs)) (row_covers (length rs) (inputs_of n v)))
        ∙ ap cover_lines (sym (front-more n rs v)))

    go : (b : Bool) → eqb (length (rs ++ (v ∷ []))) n ≡ b → Led pre (cond b (OutputDue n k (rs ++ (v ∷ []))) (RowDue n k (rs ++ (v ∷ []))))
    go true q = (record { sized = f.sized; full = eqb-true (length (rs ++ (v ∷ []))) n q; rows = rows_more n rs v f.rows l h }, whole)
    go false q = (
      record {
        sized = f.sized;
        few = omega (arith, f.few, length-append rs (v ∷ []), eqb-false (length (rs ++ (v ∷ []))) n q);
        rows = rows_more n rs v f.rows l h;
      },
      whole,
    )

-- ---- one line more

-- a line and the two of an XOR, at the end of others
four : (pre : List (List ℕ)) (l a b : List ℕ) (t : List (List ℕ))
    → (((pre ++ (l ∷ [])) ++ (a ∷ [])) ++ (b ∷ [])) ++ t ≡ pre ++ (l ∷ a ∷ b ∷ t)
four pre l a b t = simp append_assoc

three : (pre : List (List ℕ)) (l a b : List ℕ) → ((pre ++ (l ∷ [])) ++ (a ∷ [])) ++ (b ∷ []) ≡ pre ++ (l ∷ a ∷ b ∷ [])
three pre l a b = simp append_assoc

-- a chain goes on
link-led : (n k : ℕ) (rs from : List ℕ) (m p : ℕ) (l : List ℕ) (pre : List (List ℕ)) → Fronted n k rs → 0 < m
    → ((b : ℕ) (bs : List ℕ) → pre ++ cover_lines (chain (length rs) from p (b ∷ bs))
    ≡ front_lines n k rs ++ cover_lines (row_covers (length rs) (inputs_of n m ++ (b ∷ bs))))
    → LedTo (pre ++ (l ∷ [])) (link n k rs from m p l)
unfolding Led LedTo link chain cover_lines
link-led n k rs from m p l pre f pos is =
    attempt-has P tt n (link_at n k rs from m p l)
    (λ b h.
    on-has P tt (ltb m (2 ^ b)) (or_else (on (end_test b) (ended b)) (on (ltb (suc b) n && part_test b) (gone b)))
    (λ e.
    or-has P tt (on (end_test b) (ended b)) (on (ltb (suc b) n && part_test b) (gone b))
    (on-has P tt (end_test b) (ended b) (ends b h (ltb-true m (2 ^ b) e)))
    (on-has P tt (ltb (suc b) n && part_test b) (gone b) (goes b h (ltb-true m (2 ^ b) e)))))
  where
    P : Outcome → Type 0
    P = LedTo (pre ++ (l ∷ []))

    i : ℕ
    i = length rs

    one : List ℕ
    one = cube_line (48 ∷ 49 ∷ [])

    two : List ℕ
    two = cube_line (49 ∷ 48 ∷ [])

    end_test : ℕ → Bool
    end_test b = equal l (names_line (xor_cover from b (z_name i)))

    ended : ℕ → Outcome
    ended b = More (xor_due (next_row n k (rs ++ ((m + 2 ^ b) ∷ []))))

    part_test : ℕ → Bool
    part_test b = equal l (names_line (xor_cover from b (part_name i p)))

    gone : ℕ → Outcome
    gone b = More (xor_due (LinkDue n k rs (m + 2 ^ b) p))

    ends : (b : ℕ) → b < n → m < 2 ^ b → end_test b ≡ true → P (ended b)
    ends b h o e =
        row_done n k rs (m + 2 ^ b) (((pre ++ (l ∷ [])) ++ (one ∷ [])) ++ (two ∷ [])) f (omega arith) (more_lt m b n o h)
        (three pre l one two
        ∙ ap (λ (t : List ℕ). pre ++ (t ∷ one ∷ two ∷ [])) (equal-true l (names_line (xor_cover from b (z_name i))) e)
        ∙ is b []
        ∙ ap (λ (t : List ℕ). front_lines n k rs ++ cover_lines (row_covers i t)) (sym (inputs-add n m b o h)))

    goes : (b : ℕ) → b < n → m < 2 ^ b → ltb (suc b) n && part_test b ≡ true → P (gone b)
    goes b h o e = (
      f,
      omega arith,
      more_lt m b (n - 1) o (omega (arith, ltb-true (suc b) n (and_both (ltb (suc b) n) (part_test b) e).0)),
      λ c cs.
          four pre l one two (cover_lines (chain i (part_name i p) (suc p) (c ∷ cs)))
          ∙ ap (λ (t : List ℕ). pre ++ (t ∷ one ∷ two ∷ cover_lines (chain i (part_name i p) (suc p) (c ∷ cs))))
          (equal-true l (names_line (xor_cover from b (part_name i p))) (and_both (ltb (suc b) n) (part_test b) e).1)
          ∙ is b (c ∷ cs)
          ∙ ap (λ (t : List ℕ). front_lines n k rs ++ cover_lines (row_covers i t))
          (sym (append_assoc (inputs_of n m) (b ∷ []) (c ∷ cs)) ∙ ap (λ (t : List ℕ). t ++ (c ∷ cs)) (sym (inputs-add n m b o h))),
    )

-- ---- the step

longer : {pre more : List (List ℕ)} {l m : List ℕ} → pre ≡ more → l ≡ m → pre ++ (l ∷ []) ≡ more ++ (m ∷ [])
longer = ap₂ (λ (u : List (List ℕ)) (v : List ℕ). u ++ (v ∷ []))

step-led : (pre : List (List ℕ)) (s : State) (l : List ℕ) → Led pre s → LedTo (pre ++ (l ∷ [])) (step s l)
unfolding Led LedTo step front_covers cover_lines row_covers back_covers model_lines model_covers Sounds AllSound
step-led pre (Due m s) l h =
    on-has (LedTo (pre ++ (l ∷ []))) tt (equal l m) (More s) (λ e. rw (equal-true l m e) h)
step-led pre InputsDue l h =
    attempt-has P tt (suc list_inputs) (λ n. on (ltb 0 n && equal l (inputs_line n)) (More (OutputsDue n)))
    (λ n b. on-has P tt (ltb 0 n && equal l (inputs_line n)) (More (OutputsDue n))
    (λ e.
    let t = and_both (ltb 0 n) (equal l (inputs_line n)) e in
    (longer h (equal-true l (inputs_line n) t.1), omega (arith, ltb-true 0 n t.0), omega arith)))
  where
    P : Outcome → Type 0
    P = LedTo (pre ++ (l ∷ []))
step-led pre (OutputsDue n) l h =
    attempt-has P tt (suc outputs) (λ k. on (ltb 0 k && equal l (outputs_line k)) (More (RowDue n k [])))
    (λ k b. on-has P tt (ltb 0 k && equal l (outputs_line k)) (More (RowDue n k []))
    (λ e.
    let t = and_both (ltb 0 k) (equal l (outputs_line k)) e in (
      record {
        sized = record { inputs = (h.1, h.2); outs = (omega (arith, ltb-true 0 k t.0), omega arith) };
        few = omega (arith, h.1);
        rows = λ j q. absurd (omega arith);
      },
      longer h.0 (equal-true l (outputs_line k) t.1),
    )))
  where
    P : Outcome → Type 0
    P = LedTo (pre ++ (l ∷ []))
step-led pre (RowDue n k rs) l h =
    or-has P tt (attempt n copy) (attempt n chained)
    (attempt-has P tt n copy (λ a b. on-has P tt (equal l (names_line (copy_cover a (length rs)))) (copied a)
    (λ e.
    row_done n k rs (2 ^ a) ((pre ++ (l ∷ [])) ++ (cube_line (49 ∷ []) ∷ [])) h.0 (pow_pos a) (pow-lt b)
    (append_assoc pre (l ∷ []) (cube_line (49 ∷ []) ∷ [])
    ∙ ap₂ (λ (u : List (List ℕ)) (v : List ℕ). u ++ (v ∷ cube_line (49 ∷ []) ∷ [])) h.1
    (equal-true l (names_line (copy_cover a (length rs))) e)
    ∙ ap (λ (t : List ℕ). front_lines n k rs ++ cover_lines (row_covers (length rs) t)) (sym (inputs-pow n a b))))))
    (attempt-has P tt n chained (λ a b.
    link-led n k rs (x_name a) (2 ^ a) 1 l pre h.0 (pow_pos a)
    (λ c cs. ap₂ (λ (u : List (List ℕ)) (v : List ℕ). u ++ cover_lines (row_covers (length rs) (v ++ (c ∷ cs)))) h.1
    (sym (inputs-pow n a b)))))
  where
    P : Outcome → Type 0
    P = LedTo (pre ++ (l ∷ []))

    copied : ℕ → Outcome
    copied a = More (Due (cube_line (49 ∷ [])) (next_row n k (rs ++ (2 ^ a ∷ []))))

    copy : ℕ → Outcome
    copy a = on (equal l (names_line (copy_cover a (length rs)))) (copied a)

    chained : ℕ → Outcome
    chained a = link n k rs (x_name a) (2 ^ a) 1 l
step-led pre (LinkDue n k rs m p) l h = link-led n k rs (part_name (length rs) p) m (suc p) l pre h.0 h.1 h.3
step-led pre (OutputDue n k sigma) l h =
    on-has (LedTo (pre ++ (l ∷ []))) tt (equal l (names_line (output_cover n 0 []))) (More (PatternDue n k sigma [] []))
    (λ e. (
      h.0,
      omega (arith, h.0.sized.outs.0),
      tt,
      tt,
      longer h.1 (equal-true l (names_line (output_cover n 0 [])) e),
    ))
step-led pre (PatternDue n k sigma qs ps) l h = go (pattern_form n l) refl (eqb (suc (length qs)) k) refl
  where
    P : Outcome → Type 0
    P = LedTo (pre ++ (l ∷ []))

    more : length (qs ++ (ps ∷ [])) ≡ suc (length qs)
    more = length-append qs (ps ∷ []) ∙ add-one (length qs)

    B : List Cover
    B = back_covers n 0 (qs ++ (ps ∷ []))

    go : (a : Bool) → pattern_form n l ≡ a → (b : Bool) → eqb (suc (length qs)) k ≡ b
        → P (cond a (More (PatternDue n k sigma qs (ps ++ (pattern_on n l ∷ []))))
        (cond b
        (on (equal l last_line) (Whole n k sigma (qs ++ (ps ∷ []))))
        (on (equal l (names_line (output_cover n (suc (length qs)) []))) (More (PatternDue n k sigma (qs ++ (ps ∷ [])) [])))))
    go true e b f = (
      h.0,
      h.1,
      h.2,
      sounds-more n ps (pattern_on n l) h.3 (on-sound n l),
      longer h.4 (form-pattern n l e)
          ∙ append_assoc (front_lines n k sigma) (cover_lines (back_covers n 0 (qs ++ (ps ∷ [])))) (cube_line (cube_of n (pattern_on n l)) ∷ [])
          ∙ ap (λ (t : List (List ℕ)). front_lines n k sigma ++ t) (sym (open_more n qs ps (pattern_on n l))),
    )
    go false e true f = on-has P tt (equal l last_line) (Whole n k sigma (qs ++ (ps ∷ []))) (λ q. (
      record {
        sized = h.0.sized;
        full = h.0.full;
        rows = h.0.rows;
        outs = more ∙ eqb-true (suc (length qs)) k f;
        patterns = all_more n qs ps h.2 h.3;
      },
      longer h.4 (equal-true l last_line q)
          ∙ ap (λ (t : List (List ℕ)). heads n k ++ (t ++ (last_line ∷ [])))
          (sym (lines-append (front_covers n (at sigma) (length sigma)) B)
          ∙ ap (λ (i : ℕ). cover_lines (front_covers n (at sigma) i ++ B)) h.0.full),
    ))
    go false e false f =
        on-has P tt (equal l (names_line (output_cover n (suc (length qs)) []))) (More (PatternDue n k sigma (qs ++ (ps ∷ [])) [])) (λ q. (
          h.0,
          omega (arith, h.1, more, eqb-false (suc (length qs)) k f),
          all_more n qs ps h.2 h.3,
          tt,
          longer h.4 (equal-true l (names_line (output_cover n (suc (length qs)) [])) q)
              ∙ append_assoc (front_lines n k sigma) (cover_lines B) (names_line (output_cover n (suc (length qs)) []) ∷ [])
              ∙ ap (λ (t : List (List ℕ)). front_lines n k sigma ++ t)
              (sym (output-lines n (qs ++ (ps ∷ [])) [] ∙ ap (λ (j : ℕ). cover_lines B ++ (names_line (output_cover n j []) ∷ [])) more)),
        ))

onward-led : (pre : List (List ℕ)) (o : Outcome) (l : List ℕ) → LedTo pre o → LedTo (pre ++ (l ∷ [])) (onward o l)
unfolding LedTo
onward-led pre (More s) l h = step-led pre s l h
onward-led pre (Whole n k sigma qs) l h = tt
onward-led pre Bad l h = tt

after-led : (ls pre : List (List ℕ)) (o : Outcome) → LedTo pre o → LedTo (pre ++ ls) (after o ls)
unfolding after
after-led [] pre o h = rw append-nil h
after-led (l ∷ ls) pre o h =
    let t = after-led ls (pre ++ (l ∷ [])) (onward o l) (onward-led pre o l h) in
    rw (append_assoc pre (l ∷ []) ls) at t

-- any lines lead where they lead
pub lines-led : (ls : List (List ℕ)) → LedTo ls (after start ls)
unfolding Led LedTo
lines-led ls = after-led ls [] start refl

-- lines that lead to a whole model are those written for it
pub whole-written : (ls : List (List ℕ)) (n k : ℕ) (sigma : List ℕ) (qs : List (List Pattern)) → after start ls ≡ Whole n k sigma qs
    → ModelSaid n k sigma qs × (ls ≡ model_lines n k (model_covers n sigma qs))
unfolding LedTo
whole-written ls n k sigma qs e = rw e at (lines-led ls)
