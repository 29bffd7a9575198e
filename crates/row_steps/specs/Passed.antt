-- The step at which a list passes smaller_rows rows, for numbers c chosen at the steps, and what a replay of the n steps answers.
-- Assumes nothing.
use Rattle.std.specs.Prelude.{◌≡◌, cond, List, ℕ, suc, ◌+◌, ◌≤◌, ◌<◌, length}
use Rattle.std.proofs.Common.{sym, ap, ◌∙◌, add-one, arith}
use borrow.Author.Tests.{lt-ltb, le-ltb}
use Rattle.std.proofs.Math.Dec.{ltb}
use Rattle.slices.specs.Places.{at, tab, over, first}
use Rattle.slices.specs.Filled.{length-tab}
use Rattle.slices.specs.Least.{first-is}
use Rattle.block.specs.Limits.{smaller_rows}
use Rattle.block.specs.Words.{row}
use Rattle.block.specs.Basis.{apply}
use Rattle.block.specs.Rows.{partner, rest, reached, moved}
use Rattle.block.specs.declared.Row.{Row}
use Rattle.flat_rows.specs.Listing.{rows_from}
use Rattle.matrix_laws.specs.Reached.{Independent, independent-fewer}
use Rattle.matrix_laws.specs.Reach.{reach_rows}
use Rattle.step_laws.specs.Step.{step_rows}
use Rattle.step_laws.specs.Moved.{moved-suc, moved_length}
use Rattle.matrix_steps.specs.Steps.{apply-held}
use Rattle.row_steps.specs.declared.Replay.{Replay}

-- the least i with more than smaller_rows rows after step i + 1; n where there is none
unfoldable pub passing_by : ℕ → (ℕ → ℕ) → List Row → ℕ
passing_by n c rs = first n (λ i. ltb smaller_rows (length (moved n c (suc i) rs)))

-- what comes back: the first step, from 1, at which the list passes smaller_rows rows, or 0 with the number of the rows that the slices hold
pub record Replayed (n : ℕ) (c : ℕ → ℕ) (rs : List Row) (masks values words : List ℕ) (r : Replay) : Type 0 where
  pub stopped : r.step ≡ cond (ltb (passing_by n c rs) n) (suc (passing_by n c rs)) 0
  pub counted : r.count ≡ cond (ltb (passing_by n c rs) n) 0 (length (moved n c n rs))
  pub few : r.count ≤ smaller_rows
  pub rows : r.step ≡ 0 → rows_from r.count masks values words ≡ moved n c n rs

module _ (n : ℕ) (c : ℕ → ℕ) (rs : List Row) where
  fewer : (k j : ℕ) → j < k → length (moved n c k rs) ≤ smaller_rows → length (moved n c (suc j) rs) ≤ smaller_rows
  fewer k j h l = omega (arith, moved_length n c (suc j) k rs (omega arith))

  -- after k steps there are no more than smaller_rows, and after one more there are
  pub passes_at : (k : ℕ) → k < n → length (moved n c k rs) ≤ smaller_rows → smaller_rows < length (moved n c (suc k) rs) → passing_by n c rs ≡ k
  unfolding passing_by
  passes_at k h l m =
      first-is n (λ i. ltb smaller_rows (length (moved n c (suc i) rs))) k (omega arith)
      (λ j u. le-ltb smaller_rows (length (moved n c (suc j) rs)) (fewer k j u l))
      (λ u. lt-ltb smaller_rows (length (moved n c (suc k) rs)) m)

  -- after all steps there are no more than smaller_rows
  pub passes-never : length (moved n c n rs) ≤ smaller_rows → passing_by n c rs ≡ n
  unfolding passing_by
  passes-never l =
      first-is n (λ i. ltb smaller_rows (length (moved n c (suc i) rs))) n (omega arith)
      (λ j u. le-ltb smaller_rows (length (moved n c (suc j) rs)) (fewer n j u l))
      (λ u. absurd (omega arith))

  -- what comes back where the list passes smaller_rows rows at step k + 1
  pub replay-stopped : (k : ℕ) (m v w : List ℕ) → k < n → length (moved n c k rs) ≤ smaller_rows → smaller_rows < length (moved n c (suc k) rs)
      → Replayed n c rs m v w (record { step = k + 1; count = 0 })
  replay-stopped k m v w h l u =
      let e : passing_by n c rs ≡ k = passes_at k h l u in
      record {
        stopped = rw (e, lt-ltb k n h) (add-one k);
        counted = rw (e, lt-ltb k n h);
        few = omega arith;
        rows = λ z. absurd (omega arith);
      }

  -- and where it never does
  pub replay-done : (count : ℕ) (m v w : List ℕ) → count ≤ smaller_rows → rows_from count m v w ≡ moved n c n rs
      → Replayed n c rs m v w (record { step = 0; count = count })
  replay-done count m v w l d =
      let length-is : count ≡ length (moved n c n rs)
      = sym (length-tab count (λ i. row (at m i) (at v i) (at w i))) ∙ ap length d in
      let e : passing_by n c rs ≡ n = passes-never (omega arith) in
      record {
        stopped = rw (e, le-ltb n n (omega arith));
        counted = rw (e, le-ltb n n (omega arith)) length-is;
        few = l;
        rows = λ z. d;
      }

  -- a step by the matrix held is the next step
  pub step-held : (k h v : ℕ) (l s : List ℕ) (old : List Row) → k < n → Independent c n n → s ≡ over (tab n (reach_rows n c k)) l
      → h ≡ partner n k (apply (at s) n (c k)) → v ≡ rest n k (apply (at s) n (c k)) → old ≡ moved n c k rs
      → step_rows k h v old ≡ moved n c (suc k) rs
  step-held k h v l s old hk i e a b d =
      let y : apply (at s) n (c k) ≡ reached n c k (c k)
      = apply-held n c k l s (omega arith) (independent-fewer c n k n (omega arith) i) e (c k) (i.below k hk) in
      let p : h ≡ partner n k (reached n c k (c k)) = a ∙ ap (partner n k) y in
      let q : v ≡ rest n k (reached n c k (c k)) = b ∙ ap (rest n k) y in
      rw (p, q, d) (sym (moved-suc n c k rs))
