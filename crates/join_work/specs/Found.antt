-- The least row that is written as one with a row, as a loop over three flat slices finds it. Assumes nothing.
use Rattle.std.specs.Prelude.{◌≡◌, refl, Bool, true, false, ◌&&◌, List, ℕ, ◌≤◌, ◌<◌, eqb}
use Rattle.std.specs.Int.Bits.{bit_xor}
use Rattle.std.specs.Int.Count.{ones}
use Rattle.std.proofs.Common.{sym, ap, ap₂, ◌∙◌, arith}
use Rattle.slices.specs.Places.{at, first}
use Rattle.slices.specs.Least.{first-is}
use Rattle.block.specs.Words.{row}
use Rattle.block.specs.declared.Row.{Row}
use Rattle.block.specs.Refusals.{row_at}
use Rattle.block.specs.Joins.{joins}
use Rattle.flat_rows.specs.Listing.{rows_from}
use Rattle.join_laws.specs.Next.{nearest}
use Rattle.join_work.specs.Closing.{long, here}

-- rows i and j of the slices are written as one
abbrev pub joins_at : List ℕ → List ℕ → List ℕ → ℕ → ℕ → Bool
joins_at m v w i j = joins (row (at m i) (at v i) (at w i)) (row (at m j) (at v j) (at w j))

-- rows that do not have the same fixed inputs, or whose values do not differ in exactly one, are not
pub not-one-apart : (r s : Row) → eqb r.mask s.mask && eqb (ones (bit_xor r.values s.values)) 1 ≡ false → joins r s ≡ false
unfolding joins
not-one-apart r s e = rw e (go (eqb r.word s.word))
  where
    go : (a : Bool) → a && false ≡ false
    go false = refl
    go true = refl

pub nearest-is : (p c q : ℕ) (m v w : List ℕ) → c < p → q ≤ p → ((j : ℕ) → j < q → joins_at m v w j c ≡ false)
    → (q < p → joins_at m v w q c ≡ true) → q ≡ nearest (rows_from p m v w) c
unfolding nearest
nearest-is p c q m v w h l before found =
    sym
    (ap (λ (k : ℕ). first k (λ j. joins (row_at (rows_from p m v w) j) (row_at (rows_from p m v w) c))) (long p m v w)
    ∙ first-is p (λ j. joins (row_at (rows_from p m v w) j) (row_at (rows_from p m v w) c)) q l
    (λ j u. ap₂ joins (here p m v w j (omega arith)) (here p m v w c h) ∙ before j u)
    (λ u. ap₂ joins (here p m v w q u) (here p m v w c h) ∙ found u))
