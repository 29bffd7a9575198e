-- What the work of the sheet comes to: the sheet's answer, with both measures and the number of smaller rows. Assumes nothing.
use Rattle.std.specs.Prelude.{◌≡◌, List, ℕ, length}
use Rattle.std.proofs.Common.{ap}
use Rattle.block.specs.Words.{missing, of_rows}
use Rattle.block.specs.Measure.{measure}
use Rattle.block.specs.Basis.{smaller_of}
use Rattle.block.specs.Refusals.{carried}
use Rattle.block.specs.Lists.{smaller_list}
use Rattle.block.specs.Sheet.{sheet_text, sheet_verdict, sheet}
use Rattle.block.specs.declared.Row.{Row}
use Rattle.block.specs.declared.Answer.{Answer}
use Rattle.block.specs.declared.TextAnswer.{TextAnswer}
use Rattle.block.specs.declared.SheetWork.{SheetWork}

-- an answer with both measures, the number of smaller rows and the number of bytes, each 0 with a refusal
abbrev pub with_sheet : Answer → ℕ → ℕ → ℕ → ℕ → SheetWork
with_sheet v x y c l =
    record {
      number = v.number;
      a = v.a;
      b = v.b;
      before = carried v x;
      after = carried v y;
      rows = carried v c;
      count = carried v l;
    }

-- the work of a list of type y and a weight limit, with room for so many bytes (01, The sheet)
unfoldable pub sheet_work : ℕ → ℕ → ℕ → ℕ → List Row → ℕ → SheetWork
sheet_work n k y w rs room =
    with_sheet (sheet_verdict n k y w rs room) (measure (of_rows (missing y) rs) n) (measure (smaller_of (of_rows (missing y) rs) n w) n)
    (length (smaller_list (missing y) n w rs)) (length (sheet_text (missing y) n k w rs))

-- the sheet's answer is part of it
pub work-sheet : (n k y w : ℕ) (rs : List Row) (room : ℕ) (r : SheetWork) → r ≡ sheet_work n k y w rs room
    → record { number = r.number; a = r.a; b = r.b; count = r.count } ≡ sheet n k y w rs room
unfolding sheet_work sheet
work-sheet n k y w rs room r e =
    ap (λ (x : SheetWork). let y : TextAnswer = record { number = x.number; a = x.a; b = x.b; count = x.count } in y) e
