-- No operation looks beyond row 512: a list of more than 512 rows is refused by its number of rows, if not before, and so is the list
-- of its first 513 rows. So each operation answers alike for the list and for its first 513 rows; the law is one, `cut-same`, and then
-- it is said of each operation. Assumes nothing.
use Rattle.std.specs.Prelude.{◌≡◌, refl, Bool, true, not, ◌&&◌, ◌||◌, List, [], ◌∷◌, ◌++◌, ℕ, suc, ◌^◌, ◌≤◌, ◌<◌, length, take, Ok, Err}
use Rattle.std.proofs.Common.{sym, ap, ◌∙◌, arith, lt-ltb, le-ltb, length-take, take_all}
use Rattle.std.proofs.Math.Bool.{false, cond}
use Rattle.std.proofs.Math.Decide.{dec_le}
use Rattle.std.proofs.Math.Dec.{eqb, ltb}
use Rattle.block.specs.Limits.{list_inputs, table_inputs, given_rows, smaller_rows, text_room, sheet_room}
use Rattle.block.specs.Words.{fr, missing, of_rows}
use Rattle.block.specs.Measure.{shift, measure}
use Rattle.block.specs.Basis.{basis_of, smaller_of}
use Rattle.block.specs.Refusals.{Check, check, verdict, answered, and_then, carried, stored, outside, size_checks, typed_checks}
use Rattle.block.specs.Tables.{with_value}
use Rattle.block.specs.Lists.{count_check, bad_row_check, share_check, row_checks, row_value_verdict, row_value, passing_check, method_checks, row_method_verdict, row_method, smaller_list, fill_verdict, filled}
use Rattle.block.specs.Text.{with_bytes, write_verdict, write_text, text_of}
use Rattle.block.specs.Sheet.{sheet, sheet_verdict, sheet_text}
use Rattle.block.specs.Model.{model_text, model_verdict, write_model}
use Rattle.block.specs.Reasons.{reason_of, why_verdict, why_not}
use Rattle.block.specs.Joins.{joined, join_verdict, with_count, join, joined_room}
use Rattle.block.specs.Overlaps.{disjoined, disjoin_checked, many_check, disjoin_verdict, with_pieces, disjoin}
use Rattle.block.specs.declared.Row.{Row}
use Rattle.block.specs.declared.Answer.{Answer}
use Rattle.refusal_laws.specs.Verdicts.{verdict-hit, verdict-miss, Numbered, verdict-parts}

-- the rows that are looked at: one more than any operation takes
abbrev cut_rows : ℕ
cut_rows = suc smaller_rows

-- what stands after a check that holds does not count
pub past : (pre : List Check) (c : Check) (ds es : List Check) → c.holds ≡ true → verdict (pre ++ (c ∷ ds)) ≡ verdict (pre ++ (c ∷ es))
past [] c ds es h = verdict-hit c ds h ∙ sym (verdict-hit c es h)
past (p ∷ pre) c ds es h = go (past pre c ds es h) p.holds refl
  where
    go : verdict (pre ++ (c ∷ ds)) ≡ verdict (pre ++ (c ∷ es)) → (b : Bool) → p.holds ≡ b
        → verdict (p ∷ (pre ++ (c ∷ ds))) ≡ verdict (p ∷ (pre ++ (c ∷ es)))
    go ih true e = verdict-hit p (pre ++ (c ∷ ds)) e ∙ sym (verdict-hit p (pre ++ (c ∷ es)) e)
    go ih false e = verdict-miss p (pre ++ (c ∷ ds)) e ∙ ih ∙ sym (verdict-miss p (pre ++ (c ∷ es)) e)

-- with such a check there is a refusal
refused : (pre : List Check) (c : Check) (ds : List Check) → Numbered pre → eqb c.number 0 ≡ false → c.holds ≡ true
    → answered (verdict (pre ++ (c ∷ ds))) ≡ false
refused pre c ds nn n h = ap answered (verdict-parts pre (c ∷ ds) nn) ∙ go (answered (verdict pre)) refl
  where
    go : (b : Bool) → answered (verdict pre) ≡ b → answered (cond b (verdict (c ∷ ds)) (verdict pre)) ≡ false
    go true e = ap answered (verdict-hit c ds h) ∙ n
    go false e = e

too_many : (most : ℕ) (rs : List Row) → most < length rs → count_check most rs ≡ check true 4 0 0
too_many most rs h = rw (lt-ltb most (length rs) h, le-ltb (length rs) 1 (omega arith))

-- an operation whose verdict comes of the checks `pre`, the number of rows, and checks `rest` of the rows; F is its answer, or what lent
-- storage holds at the end, by the verdict and the rows, which do not count with a refusal
module _ (pre : List Check) (most : ℕ) (rest : List Row → List Check) (numbered : Numbered pre) (few : most ≤ smaller_rows) where
  abbrev pub verdict_of : List Row → Answer
  verdict_of rs = verdict (pre ++ (count_check most rs ∷ rest rs))

  many : (rs : List Row) → most < length rs → verdict_of rs ≡ verdict (pre ++ (check true 4 0 0 ∷ []))
  many rs h = ap (λ (c : Check). verdict (pre ++ (c ∷ rest rs))) (too_many most rs h) ∙ past pre (check true 4 0 0) (rest rs) [] refl

  pub cut-same : {X : Type 0} (F : Answer → List Row → X) → ((v : Answer) (l m : List Row) → answered v ≡ false → F v l ≡ F v m)
      → (rs : List Row) → F (verdict_of (take cut_rows rs)) (take cut_rows rs) ≡ F (verdict_of rs) rs
  cut-same F alike rs = go (dec_le (length rs) cut_rows)
    where
      go : Dec (length rs ≤ cut_rows) → F (verdict_of (take cut_rows rs)) (take cut_rows rs) ≡ F (verdict_of rs) rs
      go (yes h) = ap (λ (l : List Row). F (verdict_of l) l) (take_all cut_rows rs h)
      go (no h) =
          let v : Answer = verdict (pre ++ (check true 4 0 0 ∷ [])) in
          ap (λ (u : Answer). F u (take cut_rows rs)) (many (take cut_rows rs) (omega (arith, length-take cut_rows rs)))
          ∙ alike v (take cut_rows rs) rs (refused pre (check true 4 0 0) [] numbered refl refl)
          ∙ sym (ap (λ (u : Answer). F u rs) (many rs (omega arith)))

-- ---- a single shift value

pub value-cut : (n k y t : ℕ) (rs : List Row) → row_value n k y t (take cut_rows rs) ≡ row_value n k y t rs
unfolding row_value row_value_verdict
value-cut n k y t =
    cut-same (typed_checks list_inputs n k y (check (not (ltb t (2 ^ n))) 3 0 0 ∷ [])) given_rows (row_checks n k)
    (refl, (refl, (refl, (refl, tt)))) (omega arith) (λ v l. with_value v (shift (of_rows (missing y) l) n t)) (λ v l m h. rw h)

-- ---- filling a table

module _ (n k y room : ℕ) where
  fill-alike : {X : Type 0} (F : Answer → List Row → X) → ((v : Answer) (l m : List Row) → answered v ≡ false → F v l ≡ F v m)
      → (rs : List Row) → F (fill_verdict n k y (take cut_rows rs) room) (take cut_rows rs) ≡ F (fill_verdict n k y rs room) rs
  unfolding fill_verdict
  fill-alike =
      cut-same (typed_checks table_inputs n k y []) smaller_rows (λ l. check (ltb room (2 ^ n)) 5 0 0 ∷ row_checks n k l)
      (refl, (refl, (refl, tt))) (omega arith)

  pub fill-cut : (rs : List Row) → fill_verdict n k y (take cut_rows rs) room ≡ fill_verdict n k y rs room
  fill-cut = fill-alike (λ v l. v) (λ v l m h. refl)

  pub filled-cut : (table : List ℕ) (rs : List Row)
      → stored (fill_verdict n k y (take cut_rows rs) room) (filled (missing y) n (take cut_rows rs)) table ≡ stored (fill_verdict n k y rs room) (filled (missing y) n rs) table
  filled-cut table = fill-alike (λ v l. stored v (filled (missing y) n l) table) (λ v l m h. rw h)

-- ---- writing row text

module _ (n k y z room : ℕ) where
  write-alike : {X : Type 0} (F : Answer → List Row → X) → ((v : Answer) (l m : List Row) → answered v ≡ false → F v l ≡ F v m)
      → (rs : List Row) → F (write_verdict n k y z (take cut_rows rs) room) (take cut_rows rs) ≡ F (write_verdict n k y z rs room) rs
  unfolding write_verdict
  write-alike =
      cut-same (typed_checks list_inputs n k y (check (eqb y fr && eqb z 0) 3 0 0 ∷ [])) given_rows
      (λ l. check (ltb room text_room) 5 0 0 ∷ bad_row_check n k l ∷ []) (refl, (refl, (refl, (refl, tt)))) (omega arith)

  pub write-cut : (rs : List Row) → write_text n k y z (take cut_rows rs) room ≡ write_text n k y z rs room
  unfolding write_text
  write-cut = write-alike (λ v l. with_bytes v (text_of n k y z l)) (λ v l m h. rw h)

  pub written-cut : (out : List ℕ) (rs : List Row)
      → stored (write_verdict n k y z (take cut_rows rs) room) (text_of n k y z (take cut_rows rs)) out ≡ stored (write_verdict n k y z rs room) (text_of n k y z rs) out
  written-cut out = write-alike (λ v l. stored v (text_of n k y z l) out) (λ v l m h. rw h)

-- ---- the row method, and the sheet; `short` says that the lent room is too short

module _ (n k y w : ℕ) (short : Bool) where
  method-alike : {X : Type 0} (F : Answer → List Row → X) → ((v : Answer) (l m : List Row) → answered v ≡ false → F v l ≡ F v m)
      → (rs : List Row) → F (verdict (method_checks n k y w (take cut_rows rs) short)) (take cut_rows rs) ≡ F (verdict (method_checks n k y w rs short)) rs
  unfolding method_checks
  method-alike =
      cut-same (typed_checks list_inputs n k y (check (outside 1 n w) 3 0 0 ∷ [])) given_rows
      (λ l. check short 5 0 0 ∷ (row_checks n k l ++ (passing_check (missing y) n w l ∷ [])))
      (refl, (refl, (refl, (refl, tt)))) (omega arith)

module _ (n k y w a b c : ℕ) where
  pub method-cut : (rs : List Row) → row_method n k y w (take cut_rows rs) a b c ≡ row_method n k y w rs a b c
  unfolding row_method row_method_verdict
  method-cut =
      method-alike n k y w (ltb a n || (ltb b n || ltb c smaller_rows)) (λ v l.
      record {
        number = v.number;
        a = v.a;
        b = v.b;
        before = carried v (measure (of_rows (missing y) l) n);
        after = carried v (measure (smaller_of (of_rows (missing y) l) n w) n);
        count = carried v (length (smaller_list (missing y) n w l));
      }) (λ v l m h. rw h)

  -- S is a result of the method, by the rows
  pub method-stored-cut : {X : Type 0} (S : List Row → List X) (before : List X) (rs : List Row)
      → stored (row_method_verdict n k y w (take cut_rows rs) a b c) (S (take cut_rows rs)) before ≡ stored (row_method_verdict n k y w rs a b c) (S rs) before
  unfolding row_method_verdict
  method-stored-cut S before =
      method-alike n k y w (ltb a n || (ltb b n || ltb c smaller_rows)) (λ v l. stored v (S l) before) (λ v l m h. rw h)

module _ (n k y w room : ℕ) where
  pub sheet-cut : (rs : List Row) → sheet n k y w (take cut_rows rs) room ≡ sheet n k y w rs room
  unfolding sheet sheet_verdict
  sheet-cut = method-alike n k y w (ltb room sheet_room) (λ v l. with_bytes v (sheet_text (missing y) n k w l)) (λ v l m h. rw h)

  pub sheet-stored-cut : (out : List ℕ) (rs : List Row)
      → stored (sheet_verdict n k y w (take cut_rows rs) room) (sheet_text (missing y) n k w (take cut_rows rs)) out
      ≡ stored (sheet_verdict n k y w rs room) (sheet_text (missing y) n k w rs) out
  unfolding sheet_verdict
  sheet-stored-cut out = method-alike n k y w (ltb room sheet_room) (λ v l. stored v (sheet_text (missing y) n k w l) out) (λ v l m h. rw h)

-- ---- why a number was not taken

module _ (n k y w t : ℕ) where
  why-alike : {X : Type 0} (F : Answer → List Row → X) → ((v : Answer) (l m : List Row) → answered v ≡ false → F v l ≡ F v m)
      → (rs : List Row) → F (why_verdict n k y w t (take cut_rows rs)) (take cut_rows rs) ≡ F (why_verdict n k y w t rs) rs
  unfolding why_verdict
  why-alike =
      cut-same (typed_checks list_inputs n k y (check (outside 1 n w) 3 0 0 ∷ check (not (ltb t (2 ^ n))) 3 0 0 ∷ [])) given_rows (row_checks n k)
      (refl, (refl, (refl, (refl, (refl, tt))))) (omega arith)

  pub why-cut : (rs : List Row) → why_not n k y w t (take cut_rows rs) ≡ why_not n k y w t rs
  unfolding why_not
  why-cut = why-alike (λ v l. cond (answered v) (Ok (reason_of (of_rows (missing y) l) n w t)) (Err v)) (λ v l m h. rw h)

  pub taken-cut : (taken : List ℕ) (rs : List Row)
      → stored (why_verdict n k y w t (take cut_rows rs)) (basis_of (of_rows (missing y) (take cut_rows rs)) n w) taken
      ≡ stored (why_verdict n k y w t rs) (basis_of (of_rows (missing y) rs) n w) taken
  taken-cut taken = why-alike (λ v l. stored v (basis_of (of_rows (missing y) l) n w) taken) (λ v l m h. rw h)

-- ---- joining

module _ (n k : ℕ) where
  join-alike : {X : Type 0} (F : Answer → List Row → X) → ((v : Answer) (l m : List Row) → answered v ≡ false → F v l ≡ F v m)
      → (rs : List Row) → F (join_verdict n k (take cut_rows rs)) (take cut_rows rs) ≡ F (join_verdict n k rs) rs
  unfolding join_verdict
  join-alike =
      cut-same (size_checks list_inputs n k []) smaller_rows (λ l. bad_row_check n k l ∷ share_check n l ∷ []) (refl, (refl, tt)) (omega arith)

  pub join-cut : (rs : List Row) → join n k (take cut_rows rs) ≡ join n k rs
  unfolding join
  join-cut = join-alike (λ v l. with_count v (length (joined l))) (λ v l m h. rw h)

  pub joined-cut : (before : List Row) (rs : List Row)
      → stored (join_verdict n k (take cut_rows rs)) (joined_room (take cut_rows rs)) before ≡ stored (join_verdict n k rs) (joined_room rs) before
  joined-cut before = join-alike (λ v l. stored v (joined_room l) before) (λ v l m h. rw h)

-- ---- disjoining

module _ (n k room : ℕ) where
  disjoin-alike : {X : Type 0} (F : Answer → List Row → X) → ((v : Answer) (l m : List Row) → answered v ≡ false → F v l ≡ F v m)
      → (rs : List Row) → F (disjoin_verdict n k (take cut_rows rs) room) (take cut_rows rs) ≡ F (disjoin_verdict n k rs room) rs
  unfolding disjoin_verdict disjoin_checked
  disjoin-alike =
      cut-same (size_checks list_inputs n k []) given_rows (λ l. check (ltb room given_rows) 5 0 0 ∷ bad_row_check n k l ∷ many_check n l ∷ [])
      (refl, (refl, tt)) (omega arith)

  pub disjoin-cut : (rs : List Row) → disjoin n k (take cut_rows rs) room ≡ disjoin n k rs room
  unfolding disjoin
  disjoin-cut = disjoin-alike (λ v l. with_pieces v (length (disjoined n l))) (λ v l m h. rw h)

  pub disjoined-cut : (before : List Row) (rs : List Row)
      → stored (disjoin_verdict n k (take cut_rows rs) room) (disjoined n (take cut_rows rs)) before
      ≡ stored (disjoin_verdict n k rs room) (disjoined n rs) before
  disjoined-cut before = disjoin-alike (λ v l. stored v (disjoined n l) before) (λ v l m h. rw h)

-- ---- a model, whose own length is looked at last

module _ (n k y w room : ℕ) where
  abbrev room_then : Answer → List Row → Answer
  room_then v l = and_then v (verdict (check (ltb room (length (model_text (missing y) n k w l))) 5 0 0 ∷ []))

  pub model-cut : (rs : List Row) → write_model n k y w (take cut_rows rs) room ≡ write_model n k y w rs room
  unfolding write_model model_verdict
  model-cut = method-alike n k y w false (λ v l. with_bytes (room_then v l) (model_text (missing y) n k w l)) (λ v l m h. rw h (rw h))

  pub model-stored-cut : (out : List ℕ) (rs : List Row)
      → stored (model_verdict n k y w (take cut_rows rs) room) (model_text (missing y) n k w (take cut_rows rs)) out
      ≡ stored (model_verdict n k y w rs room) (model_text (missing y) n k w rs) out
  unfolding model_verdict
  model-stored-cut out = method-alike n k y w false (λ v l. stored (room_then v l) (model_text (missing y) n k w l) out) (λ v l m h. rw h (rw h))
