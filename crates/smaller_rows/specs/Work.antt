-- What the work of the row method leaves, and how it follows from what its parts leave. Assumes nothing.
use Rattle.std.specs.Prelude.{◌≡◌, refl, cond, ℕ, suc, ◌≤◌, length}
use Rattle.std.proofs.Common.{sym, ◌∙◌, arith}
use Rattle.std.proofs.Math.Path.{ap}
use mathlib.Core.List.{List}
use Rattle.std.proofs.Math.Dec.{ltb}
use Rattle.slices.specs.Places.{at, tab, over}
use Rattle.slices.specs.Filled.{length-tab, tab-front}
use Rattle.slices.specs.Least.{first_cong}
use Rattle.block.specs.Limits.{smaller_rows}
use Rattle.block.specs.Words.{row, of_rows}
use Rattle.block.specs.Measure.{measure}
use Rattle.block.specs.Basis.{basis_of, sigma_of, smaller_of}
use Rattle.block.specs.Rows.{moved}
use Rattle.block.specs.Lists.{rows_after, passing, smaller_list}
use Rattle.block.specs.declared.Row.{Row}
use Rattle.flat_rows.specs.Listing.{rows_from}
use Rattle.matrix_laws.specs.Reached.{Independent, independent-cong}
use Rattle.matrix_laws.specs.Candidate.{basis-independent}
use Rattle.matrix_laws.specs.Inverse.{length-basis, length-sigma}
use Rattle.step_laws.specs.Moved.{moved-cong}
use Rattle.choosing.specs.Found.{Found, found-basis-at}
use Rattle.block.specs.declared.Measures.{Measures}
use Rattle.row_steps.specs.Passed.{passing_by, Replayed}
use Rattle.row_steps.specs.declared.Replay.{Replay}
use Rattle.moved_rows.specs.Put.{ListPut}
use Rattle.smaller_rows.specs.declared.RowWork.{RowWork}

-- where the list passes 512 rows, all that was lent holds what it held
pub record Kept (t s m v d t' s' m' v' d' : List ℕ) : Type 0 where
  pub basis : t' ≡ t
  pub sigma : s' ≡ s
  pub masks : m' ≡ m
  pub values : v' ≡ v
  pub words : d' ≡ d

-- else T, sigma and the smaller rows lie at the front of what was lent, and both measures and the number of rows come back; `missing` is
-- the word of a missing point
pub record Made (missing n w : ℕ) (rs : List Row) (t s m v d t' s' m' v' d' : List ℕ) (r : RowWork) : Type 0 where
  pub basis : t' ≡ over (basis_of (of_rows missing rs) n w) t
  pub sigma : s' ≡ over (sigma_of (of_rows missing rs) n w) s
  pub list : ListPut (smaller_list missing n w rs) m v d m' v' d'
  pub earlier : r.before ≡ measure (of_rows missing rs) n
  pub later : r.after ≡ measure (smaller_of (of_rows missing rs) n w) n
  pub counted : r.count ≡ length (smaller_list missing n w rs)

-- the step at which the list passes 512 rows says which of the two it is
pub record RowsWorked (missing n w : ℕ) (rs : List Row) (t s m v d t' s' m' v' d' : List ℕ) (r : RowWork) : Type 0 where
  pub stopped : r.step ≡ cond (ltb (passing missing n w rs) n) (suc (passing missing n w rs)) 0
  pub kept : (r.step ≡ 0 → ⊥) → Kept t s m v d t' s' m' v' d'
  pub made : r.step ≡ 0 → Made missing n w rs t s m v d t' s' m' v' d' r

-- ---- T, sigma and the steps, by what was found in working storage

module _ (missing n w : ℕ) (hw : 1 ≤ w) (rs : List Row) (t s t' s' : List ℕ) (r : Measures) (o : Found (of_rows missing rs) n w t s t' s' r) where
  -- the columns found are independent
  pub found-independent : Independent (at t') n n
  found-independent =
      independent-cong (at (basis_of (of_rows missing rs) n w)) (at t') n n (λ j h. sym (found-basis-at o j h)) (basis-independent (of_rows missing rs) n w hw)

  after : (i : ℕ) → i ≤ n → moved n (at t') i rs ≡ rows_after missing n w i rs
  unfolding rows_after
  after i h = moved-cong n (at t') (at (basis_of (of_rows missing rs) n w)) i rs (λ j l. found-basis-at o j (omega arith))

  moved_all : moved n (at t') n rs ≡ smaller_list missing n w rs
  unfolding smaller_list
  moved_all = after n (omega arith)

  passing-same : passing_by n (at t') rs ≡ passing missing n w rs
  unfolding passing_by passing
  passing-same =
      first_cong n (λ i. ltb smaller_rows (length (moved n (at t') (suc i) rs))) (λ i. ltb smaller_rows (length (rows_after missing n w (suc i) rs)))
      (λ i h. ap (λ (l : List Row). ltb smaller_rows (length l)) (after (suc i) (omega arith)))

  module _ (a b c : List ℕ) (k : Replay) (p : Replayed n (at t') rs a b c k) where
    stops : k.step ≡ cond (ltb (passing missing n w rs) n) (suc (passing missing n w rs)) 0
    stops = p.stopped ∙ ap (λ (i : ℕ). cond (ltb i n) (suc i) 0) passing-same

    -- the list passes 512 rows
    pub work-stopped : (T S m v d : List ℕ) → (k.step ≡ 0 → ⊥)
        → RowsWorked missing n w rs T S m v d T S m v d (record { step = k.step; before = 0; after = 0; count = 0 })
    work-stopped T S m v d h =
        record {
          stopped = stops;
          kept = λ z. record { basis = refl; sigma = refl; masks = refl; values = refl; words = refl };
          made = λ z. absurd (h z);
        }

    -- or it never does
    pub work-done : (T S m v d T' S' m' v' d' : List ℕ) → k.step ≡ 0 → T' ≡ over (tab n (at t')) T → S' ≡ over (tab n (at s')) S
        → ListPut (rows_from k.count a b c) m v d m' v' d'
        → RowsWorked missing n w rs T S m v d T' S' m' v' d' (record { step = 0; before = r.before; after = r.after; count = k.count })
    work-done T S m v d T' S' m' v' d' h e g l =
        let rows : rows_from k.count a b c ≡ smaller_list missing n w rs = p.rows h ∙ moved_all in
        record {
          stopped = sym h ∙ stops;
          kept = λ z. absurd (z refl);
          made = λ z.
              record {
                basis =
                    e
                    ∙ ap (λ (x : List ℕ). over x T)
                    (ap (λ (x : List ℕ). tab n (at x)) o.basis ∙ tab-front n (basis_of (of_rows missing rs) n w) t 0 (length-basis (of_rows missing rs) n w));
                sigma =
                    g
                    ∙ ap (λ (x : List ℕ). over x S)
                    (ap (λ (x : List ℕ). tab n (at x)) o.sigma ∙ tab-front n (sigma_of (of_rows missing rs) n w) s 0 (length-sigma (of_rows missing rs) n w));
                list = rw (sym rows) l;
                earlier = o.earlier;
                later = o.later;
                counted = sym (length-tab k.count (λ i. row (at a i) (at b i) (at c i))) ∙ ap length rows;
              };
        }
