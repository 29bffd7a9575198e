-- What the row method leaves in working storage with an answer of 0: T, sigma and the smaller rows, as they are written out from there, and
-- what that answer says of the list. Assumes nothing.
use Rattle.std.specs.Prelude.{◌≡◌, Bool, List, map, ℕ, length, take, drop}
use Rattle.std.proofs.Common.{sym, ap, ◌∙◌, take_at}
use Rattle.block.specs.Words.{missing, of_rows}
use Rattle.block.specs.Basis.{basis_of, sigma_of}
use Rattle.block.specs.Refusals.{verdict, stored}
use Rattle.block.specs.Lists.{method_checks, smaller_list}
use Rattle.block.specs.declared.Row.{Row}
use Rattle.block.specs.declared.Answer.{Answer}
use Rattle.block.specs.declared.RowMethodAnswer.{RowMethodAnswer}
use Rattle.refusal_laws.specs.Verdicts.{carried-yes, stored-yes}
use Rattle.answered_laws.specs.Passed.{MethodAnswered, method-answered}
use Rattle.matrix_laws.specs.Inverse.{length-basis, length-sigma}
use Rattle.flat_rows.specs.Listing.{rows_from}
use Rattle.moved_rows.specs.Put.{rows-put}
use Rattle.row_work.specs.Method.{MethodDone}

module _ {n k y w : ℕ} {rs : List Row} {short : Bool} {t s m v d t' s' m' v' d' : List ℕ} {r : RowMethodAnswer}
    (g : MethodDone n k y w rs short t s m v d t' s' m' v' d' r) where
  abbrev u : Answer
  u = verdict (method_checks n k y w rs short)

  pub left-number : r.number ≡ u.number
  left-number = ap (λ (x : RowMethodAnswer). x.number) g.answers

  module _ (h : r.number ≡ 0) where
    pub left-zero : u.number ≡ 0
    left-zero = sym left-number ∙ h

    pub left-ready : MethodAnswered n k y w rs short
    left-ready = method-answered n k y w rs short left-zero

    pub left-count : r.count ≡ length (smaller_list (missing y) n w rs)
    left-count = ap (λ (x : RowMethodAnswer). x.count) g.answers ∙ carried-yes u (length (smaller_list (missing y) n w rs)) left-zero

    front : (x p p' : List ℕ) → p' ≡ stored u x p → length x ≡ n → take n p' ≡ x
    front x p p' e f = ap (take n) (e ∙ stored-yes u x p left-zero) ∙ take_at x (drop (length x) p) n f

    pub left-basis : take n t' ≡ basis_of (of_rows (missing y) rs) n w
    left-basis = front (basis_of (of_rows (missing y) rs) n w) t t' g.basis (length-basis (of_rows (missing y) rs) n w)

    pub left-sigma : take n s' ≡ sigma_of (of_rows (missing y) rs) n w
    left-sigma = front (sigma_of (of_rows (missing y) rs) n w) s s' g.sigma (length-sigma (of_rows (missing y) rs) n w)

    pub left-rows : rows_from r.count m' v' d' ≡ smaller_list (missing y) n w rs
    left-rows =
        rows-put r.count left-count
        (record {
          masks = g.masks ∙ stored-yes u (map (λ (r : Row). r.mask) (smaller_list (missing y) n w rs)) m left-zero;
          values = g.values ∙ stored-yes u (map (λ (r : Row). r.values) (smaller_list (missing y) n w rs)) v left-zero;
          words = g.words ∙ stored-yes u (map (λ (r : Row). r.word) (smaller_list (missing y) n w rs)) d left-zero;
        })
