-- The row method for any arguments: what comes back and what is left, in the verdict's own terms. `short` says that the lent room is too
-- short; the row method and the sheet differ only in that. Assumes nothing.
use Rattle.std.specs.Prelude.{◌≡◌, Bool, true, false, cond, ◌||◌, List, [], ◌∷◌, map, ℕ, suc, ◌≤◌, ltb, length}
use Rattle.std.proofs.Math.Path.{refl}
use Rattle.std.proofs.Common.{sym, ap, ◌∙◌, subst, arith}
use Rattle.block.specs.Limits.{smaller_rows}
use Rattle.block.specs.Words.{missing, of_rows}
use Rattle.block.specs.Measure.{measure}
use Rattle.block.specs.Basis.{basis_of, sigma_of, smaller_of}
use Rattle.block.specs.Refusals.{answer, verdict, stored}
use Rattle.block.specs.Lists.{passing, passing_check, method_checked, method_checks, row_method_verdict, with_rows, row_method, smaller_list}
use Rattle.block.specs.declared.Row.{Row}
use Rattle.block.specs.declared.Answer.{Answer}
use Rattle.block.specs.declared.RowMethodAnswer.{RowMethodAnswer}
use Rattle.shared_checks.specs.Sizes.{long-enough}
use Rattle.answered_laws.specs.Passed.{method-numbered}
use Rattle.refusal_laws.specs.Verdicts.{verdict-hit, verdict-miss, verdict-none, part-refuses, part-passes, rows-refused, kept, given}
use Rattle.smaller_rows.specs.Work.{Kept, RowsWorked}
use Rattle.smaller_rows.specs.declared.RowWork.{RowWork}

-- the answer, and T, sigma and the smaller rows in lent storage, by the verdict
pub record MethodDone (n k y w : ℕ) (rs : List Row) (short : Bool) (t s m v d t' s' m' v' d' : List ℕ) (r : RowMethodAnswer) : Type 0 where
  pub answers :
      r ≡ with_rows (verdict (method_checks n k y w rs short)) (measure (of_rows (missing y) rs) n) (measure (smaller_of (of_rows (missing y) rs) n w) n) (length (smaller_list (missing y) n w rs))
  pub basis : t' ≡ stored (verdict (method_checks n k y w rs short)) (basis_of (of_rows (missing y) rs) n w) t
  pub sigma : s' ≡ stored (verdict (method_checks n k y w rs short)) (sigma_of (of_rows (missing y) rs) n w) s
  pub masks : m' ≡ stored (verdict (method_checks n k y w rs short)) (map (λ (r : Row). r.mask) (smaller_list (missing y) n w rs)) m
  pub values : v' ≡ stored (verdict (method_checks n k y w rs short)) (map (λ (r : Row). r.values) (smaller_list (missing y) n w rs)) v
  pub words : d' ≡ stored (verdict (method_checks n k y w rs short)) (map (λ (r : Row). r.word) (smaller_list (missing y) n w rs)) d

module _ (n k y w : ℕ) (rs : List Row) (short : Bool) (t s m v d : List ℕ) (c : Answer) (e : c ≡ verdict (method_checked n k y w rs short)) where
  -- a refusal by a verdict u that is the whole verdict
  refusal : (u : Answer) (t' s' m' v' d' : List ℕ) → u ≡ verdict (method_checks n k y w rs short) → (u.number ≡ 0 → ⊥) → Kept t s m v d t' s' m' v' d'
      → MethodDone n k y w rs short t s m v d t' s' m' v' d'
      (record { number = u.number; a = u.a; b = u.b; before = 0; after = 0; count = 0 })
  refusal u t' s' m' v' d' q h l =
      record {
        answers =
            rows-refused u (measure (of_rows (missing y) rs) n) (measure (smaller_of (of_rows (missing y) rs) n w) n) (length (smaller_list (missing y) n w rs)) h
            ∙ ap
            (λ (u : Answer). with_rows u (measure (of_rows (missing y) rs) n) (measure (smaller_of (of_rows (missing y) rs) n w) n) (length (smaller_list (missing y) n w rs)))
            q;
        basis = l.basis ∙ kept u _ (basis_of (of_rows (missing y) rs) n w) t q h;
        sigma = l.sigma ∙ kept u _ (sigma_of (of_rows (missing y) rs) n w) s q h;
        masks = l.masks ∙ kept u _ (map (λ (r : Row). r.mask) (smaller_list (missing y) n w rs)) m q h;
        values = l.values ∙ kept u _ (map (λ (r : Row). r.values) (smaller_list (missing y) n w rs)) v q h;
        words = l.words ∙ kept u _ (map (λ (r : Row). r.word) (smaller_list (missing y) n w rs)) d q h;
      }

  -- one of the checks before 9 refuses
  pub method-refused : (c.number ≡ 0 → ⊥)
      → MethodDone n k y w rs short t s m v d t s m v d
      (record { number = c.number; a = c.a; b = c.b; before = 0; after = 0; count = 0 })
  unfolding method_checks
  method-refused h =
      refusal c t s m v d (part-refuses c (method_checked n k y w rs short) (passing_check (missing y) n w rs ∷ []) e h) h
      (record { basis = refl; sigma = refl; masks = refl; values = refl; words = refl })

  module _ (z : c.number ≡ 0) (t' s' m' v' d' : List ℕ) (r : RowWork) (word : ℕ) (same : word ≡ missing y)
      (work : RowsWorked word n w rs t s m v d t' s' m' v' d' r) where
    g : RowsWorked (missing y) n w rs t s m v d t' s' m' v' d' r
    g = subst (λ (o : ℕ). RowsWorked o n w rs t s m v d t' s' m' v' d' r) same work

    -- the verdict is that of 9
    last : verdict (passing_check (missing y) n w rs ∷ []) ≡ verdict (method_checks n k y w rs short)
    unfolding method_checks
    last = part-passes c (method_checked n k y w rs short) (passing_check (missing y) n w rs ∷ []) e (method-numbered n k y w rs short) z

    -- 9
    pub method-stopped : (r.step ≡ 0 → ⊥)
        → MethodDone n k y w rs short t s m v d t' s' m' v' d' (record { number = 9; a = r.step; b = 0; before = 0; after = 0; count = 0 })
    method-stopped h =
        refusal (answer 9 r.step 0) t' s' m' v' d'
        (go (ltb (passing (missing y) n w rs) n) refl) (λ q. omega arith) (g.kept h)
      where
        go : (b : Bool) → ltb (passing (missing y) n w rs) n ≡ b → answer 9 r.step 0 ≡ verdict (method_checks n k y w rs short)
        go true q =
            ap (λ (x : ℕ). answer 9 x 0) (g.stopped ∙ ap (λ (b : Bool). cond b (suc (passing (missing y) n w rs)) 0) q)
            ∙ sym (verdict-hit (passing_check (missing y) n w rs) [] q) ∙ last
        go false q = absurd (h (g.stopped ∙ ap (λ (b : Bool). cond b (suc (passing (missing y) n w rs)) 0) q))

    -- 0
    pub method-made : r.step ≡ 0
        → MethodDone n k y w rs short t s m v d t' s' m' v' d'
        (record { number = 0; a = 0; b = 0; before = r.before; after = r.after; count = r.count })
    method-made h =
        let q : answer 0 0 0 ≡ verdict (method_checks n k y w rs short) = go (ltb (passing (missing y) n w rs) n) refl in
        let b = g.made h in
        record {
          answers =
              made-answer b.earlier b.later b.counted
              ∙ ap
              (λ (u : Answer). with_rows u (measure (of_rows (missing y) rs) n) (measure (smaller_of (of_rows (missing y) rs) n w) n) (length (smaller_list (missing y) n w rs)))
              q;
          basis = b.basis ∙ given (answer 0 0 0) _ (basis_of (of_rows (missing y) rs) n w) t q refl;
          sigma = b.sigma ∙ given (answer 0 0 0) _ (sigma_of (of_rows (missing y) rs) n w) s q refl;
          masks = b.list.masks ∙ given (answer 0 0 0) _ (map (λ (r : Row). r.mask) (smaller_list (missing y) n w rs)) m q refl;
          values = b.list.values ∙ given (answer 0 0 0) _ (map (λ (r : Row). r.values) (smaller_list (missing y) n w rs)) v q refl;
          words = b.list.words ∙ given (answer 0 0 0) _ (map (λ (r : Row). r.word) (smaller_list (missing y) n w rs)) d q refl;
        }
      where
        go : (b : Bool) → ltb (passing (missing y) n w rs) n ≡ b → answer 0 0 0 ≡ verdict (method_checks n k y w rs short)
        go true q = absurd (one_more (passing (missing y) n w rs) (sym (ap (λ (b : Bool). cond b (suc (passing (missing y) n w rs)) 0) q) ∙ sym g.stopped ∙ h))
          where
            one_more : (x : ℕ) → suc x ≡ 0 → ⊥
            one_more x e = omega arith
        go false q = sym (verdict-miss (passing_check (missing y) n w rs) [] q ∙ verdict-none) ∙ last

        made-answer : {x z c : ℕ} → r.before ≡ x → r.after ≡ z → r.count ≡ c
            → record { number = 0; a = 0; b = 0; before = r.before; after = r.after; count = r.count } ≡ with_rows (answer 0 0 0) x z c
        made-answer p q l = rw (p, q, l)

-- the same by the lengths of what was lent, as 01 has it
pub method-by-rooms : (n k y w : ℕ) (rs : List Row) (short : Bool) (roomT roomSigma roomRows : ℕ) (t s m v d t' s' m' v' d' : List ℕ)
    (r : RowMethodAnswer) → short ≡ ltb roomT n || (ltb roomSigma n || ltb roomRows smaller_rows)
    → MethodDone n k y w rs short t s m v d t' s' m' v' d' r
    → (r ≡ row_method n k y w rs roomT roomSigma roomRows)
    × ((t' ≡ stored (row_method_verdict n k y w rs roomT roomSigma roomRows) (basis_of (of_rows (missing y) rs) n w) t)
    × ((s' ≡ stored (row_method_verdict n k y w rs roomT roomSigma roomRows) (sigma_of (of_rows (missing y) rs) n w) s)
    × ((m' ≡ stored (row_method_verdict n k y w rs roomT roomSigma roomRows) (map (λ (r : Row). r.mask) (smaller_list (missing y) n w rs)) m)
    × ((v' ≡ stored (row_method_verdict n k y w rs roomT roomSigma roomRows) (map (λ (r : Row). r.values) (smaller_list (missing y) n w rs)) v)
    × (d' ≡ stored (row_method_verdict n k y w rs roomT roomSigma roomRows) (map (λ (r : Row). r.word) (smaller_list (missing y) n w rs)) d)))))
unfolding row_method row_method_verdict
method-by-rooms n k y w rs short roomT roomSigma roomRows t s m v d t' s' m' v' d' r e g =
    let h : MethodDone n k y w rs (ltb roomT n || (ltb roomSigma n || ltb roomRows smaller_rows)) t s m v d t' s' m' v' d' r =
    subst (λ (b : Bool). MethodDone n k y w rs b t s m v d t' s' m' v' d' r) e g in
    (h.answers, (h.basis, (h.sigma, (h.masks, (h.values, h.words)))))

-- where no room is short there are n numbers for each matrix and 512 rows
pub rooms : (n roomT roomSigma roomRows : ℕ) → ltb roomT n || (ltb roomSigma n || ltb roomRows smaller_rows) ≡ false
    → (n ≤ roomT) × (n ≤ roomSigma) × (smaller_rows ≤ roomRows)
rooms n roomT roomSigma roomRows h = long-enough n smaller_rows roomT roomSigma roomRows h
