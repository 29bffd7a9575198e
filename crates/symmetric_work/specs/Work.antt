-- What the work on a symmetric block leaves, and how it follows from what its parts leave. Assumes nothing.
use Rattle.std.specs.Prelude.{◌≡◌, ℕ, ◌^◌, ◌<◌, length, take, drop}
use Rattle.std.proofs.Common.{sym, ◌∙◌, take_at}
use Rattle.std.proofs.Math.Path.{ap}
use mathlib.Core.List.{List}
use Rattle.slices.specs.Places.{tab, over}
use Rattle.slices.specs.Filled.{tab-cong}
use Rattle.block.specs.Words.{of_table}
use Rattle.block.specs.Measure.{measure}
use Rattle.block.specs.Basis.{columns, smaller}
use Rattle.block.specs.Basis as S
use Rattle.block.specs.Symmetric.{of_counts, symmetric_table, gray_table, gray_column}
use Rattle.block.specs.declared.Measures.{Measures}
use Rattle.matrix_laws.specs.Linear.{columns-lt}
use Rattle.symmetric_laws.specs.Columns.{gray-independent}
use Rattle.symmetric_laws.specs.Words.{table_at, length-symmetric}
use Rattle.symmetric_values.specs.Values.{Measured}

-- of words: the table and the smaller table lie at the front of what was lent, and both measures come back
pub record Made (words : List ℕ) (n : ℕ) (t z t' z' : List ℕ) (r : Measures) : Type 0 where
  pub table : t' ≡ over (symmetric_table words n) t
  pub smaller : z' ≡ over (gray_table words n) z
  pub earlier : r.before ≡ measure (of_counts words) n
  pub later : r.after ≡ measure (S.smaller (of_counts words) gray_column n) n

-- the front of what was lent is the table
pub front-table : (words : List ℕ) (n m : ℕ) (t t' : List ℕ) → t' ≡ over (symmetric_table words n) t → m ≡ 2 ^ n
    → take m t' ≡ symmetric_table words n
front-table words n m t t' e d =
    ap (take m) e
    ∙ take_at (symmetric_table words n) (drop (length (symmetric_table words n)) t) m (length-symmetric words n ∙ sym d)

module _ (words : List ℕ) (n : ℕ) (front : List ℕ) (e : front ≡ symmetric_table words n) where
  pub front_length : length front ≡ 2 ^ n
  front_length = ap length e ∙ length-symmetric words n

  points : (x : ℕ) → x < 2 ^ n → of_table front x ≡ of_counts words x
  points x h = ap (λ (l : List ℕ). of_table l x) e ∙ table_at words n x h

  smaller-points : (z : ℕ) → z < 2 ^ n → S.smaller (of_table front) gray_column n z ≡ S.smaller (of_counts words) gray_column n z
  smaller-points z h = points (columns gray_column n z) (columns-lt gray_column n n z (gray-independent n).below)

  -- what the parts leave is what is asked
  pub made : (t z t' z' : List ℕ) (r : Measures) → t' ≡ over (symmetric_table words n) t
      → z' ≡ over (tab (2 ^ n) (S.smaller (of_table front) gray_column n)) z → Measured (of_counts words) n r
      → Made words n t z t' z' r
  unfolding gray_table
  made t z t' z' r p q m =
      record {
        table = p;
        smaller = q ∙ ap (λ (l : List ℕ). over l z) (tab-cong (2 ^ n) _ _ smaller-points);
        earlier = m.earlier;
        later = m.later;
      }
