-- From arrays to records: what a function promises of the arrays that records were copied out to, the operation promises of the records,
-- since it looks at no more of them than were copied (`Cut`); and where the arrays are copied in as records, these are what the operation
-- stores. Assumes nothing.
use Rattle.std.specs.Prelude.{◌≡◌, refl, List, ℕ, min, length}
use Rattle.std.proofs.Common.{ap, arith}
use Rattle.block.specs.Words.{missing, of_rows}
use Rattle.block.specs.Basis.{basis_of, sigma_of}
use Rattle.block.specs.Refusals.{stored}
use Rattle.block.specs.Lists.{row_value, row_method_verdict, row_method, smaller_list, fill_verdict, filled}
use Rattle.block.specs.Text.{text_of, write_verdict, write_text}
use Rattle.block.specs.Sheet.{sheet, sheet_verdict, sheet_text}
use Rattle.block.specs.Model.{model_text, model_verdict, write_model}
use Rattle.block.specs.Reasons.{why_verdict, why_not, why_numbers}
use Rattle.block.specs.Joins.{join_verdict, join, joined_room}
use Rattle.block.specs.Overlaps.{disjoined, disjoin_verdict, disjoin}
use Rattle.block.specs.declared.Row.{Row}
use Rattle.block.specs.declared.Answer.{Answer}
use Rattle.block.specs.declared.ValueAnswer.{ValueAnswer}
use Rattle.block.specs.declared.RowMethodAnswer.{RowMethodAnswer}
use Rattle.block.specs.declared.TextAnswer.{TextAnswer}
use Rattle.block.specs.declared.ReadAnswer.{ReadAnswer}
use Rattle.block.specs.declared.WhyAnswer.{WhyAnswer}
use Rattle.block.specs.declared.JoinAnswer.{JoinAnswer}
use Rattle.block.specs.declared.DisjoinAnswer.{DisjoinAnswer}
use Rattle.promises.specs.Lent.{lent_records}
use Rattle.promises.specs.Lists.{RowValuePromise, RowMethodPromise, FillPromise}
use Rattle.promises.specs.Reasons.{WhyNotPromise}
use Rattle.promises.specs.Joins.{JoinPromise}
use Rattle.promises.specs.Overlaps.{DisjoinPromise}
use Rattle.promises.specs.Texts.{WritePromise, ReadPromise}
use Rattle.promises.specs.Sheets.{SheetPromise}
use Rattle.promises.specs.Models.{WriteModelPromise}
use Rattle.record_copies.specs.declared.FlatRows.{FlatRows}
use Rattle.record_copies.specs.Flat.{held_rows, Gathered, Scattered, listed, as-records}
use Rattle.record_work.specs.Cut.{value-cut, fill-cut, filled-cut, write-cut, written-cut, method-cut, method-stored-cut, sheet-cut, sheet-stored-cut, why-cut, taken-cut, join-cut, joined-cut, disjoin-cut, disjoined-cut, model-cut, model-stored-cut}
use Rattle.record_copies.specs.Yielded.{lent_arrays, yielded-wider, yielded-stored}

module _ (rs : List Row) {m : ℕ} {f : FlatRows} (e : m ≡ min (length rs) held_rows) (g : Gathered rs m f) where
  pub value-records : {n k y t : ℕ} {r : ValueAnswer} → RowValuePromise n k y t (listed f m) r → RowValuePromise n k y t rs r
  value-records {n} {k} {y} {t} p = record { answer = as-records (row_value n k y t) rs e g (value-cut n k y t rs) p.answer }

  pub fill-records : {n k y : ℕ} {table₀ : List ℕ} {r : Answer} {table₁ : List ℕ} → FillPromise n k y (listed f m) table₀ r table₁
      → FillPromise n k y rs table₀ r table₁
  fill-records {n} {k} {y} {table₀} p =
      let room : ℕ = length table₀ in
      record {
        answer = as-records (λ l. fill_verdict n k y l room) rs e g (fill-cut n k y room rs) p.answer;
        table = as-records (λ l. stored (fill_verdict n k y l room) (filled (missing y) n l) table₀) rs e g (filled-cut n k y room table₀ rs) p.table;
      }

  pub why-records : {n k y w t : ℕ} {taken₀ : List ℕ} {r : WhyAnswer} {taken₁ : List ℕ} → WhyNotPromise n k y w t (listed f m) taken₀ r taken₁
      → WhyNotPromise n k y w t rs taken₀ r taken₁
  why-records {n} {k} {y} {w} {t} {taken₀} p =
      record {
        answer = as-records (λ l. why_numbers (why_not n k y w t l)) rs e g (ap why_numbers (why-cut n k y w t rs)) p.answer;
        taken = as-records (λ l. stored (why_verdict n k y w t l) (basis_of (of_rows (missing y) l) n w) taken₀) rs e g
            (taken-cut n k y w t taken₀ rs) p.taken;
      }

  pub write-records : {n k y z : ℕ} {out₀ : List ℕ} {r : TextAnswer} {out₁ : List ℕ} → WritePromise n k y z (listed f m) out₀ r out₁
      → WritePromise n k y z rs out₀ r out₁
  write-records {n} {k} {y} {z} {out₀} p =
      let room : ℕ = length out₀ in
      record {
        answer = as-records (λ l. write_text n k y z l room) rs e g (write-cut n k y z room rs) p.answer;
        text = as-records (λ l. stored (write_verdict n k y z l room) (text_of n k y z l) out₀) rs e g (written-cut n k y z room out₀ rs) p.text;
      }

  pub sheet-records : {n k y w : ℕ} {out₀ : List ℕ} {r : TextAnswer} {out₁ : List ℕ} → SheetPromise n k y w (listed f m) out₀ r out₁
      → SheetPromise n k y w rs out₀ r out₁
  sheet-records {n} {k} {y} {w} {out₀} p =
      let room : ℕ = length out₀ in
      record {
        answer = as-records (λ l. sheet n k y w l room) rs e g (sheet-cut n k y w room rs) p.answer;
        text = as-records (λ l. stored (sheet_verdict n k y w l room) (sheet_text (missing y) n k w l) out₀) rs e g (sheet-stored-cut n k y w room out₀ rs) p.text;
      }

  pub model-records : {n k y w : ℕ} {out₀ : List ℕ} {r : TextAnswer} {out₁ : List ℕ} → WriteModelPromise n k y w (listed f m) out₀ r out₁
      → WriteModelPromise n k y w rs out₀ r out₁
  model-records {n} {k} {y} {w} {out₀} p =
      let room : ℕ = length out₀ in
      record {
        answer = as-records (λ l. write_model n k y w l room) rs e g (model-cut n k y w room rs) p.answer;
        text = as-records (λ l. stored (model_verdict n k y w l room) (model_text (missing y) n k w l) out₀) rs e g (model-stored-cut n k y w room out₀ rs) p.text;
      }

  pub method-records : {n k y w : ℕ} {basis₀ sigma₀ : List ℕ} {r : RowMethodAnswer} {basis₁ sigma₁ : List ℕ} {h : FlatRows} {count : ℕ}
      (rows₀ rows₁ : List Row) → Scattered h count rows₀ rows₁
      → RowMethodPromise n k y w (listed f m) (lent_arrays (length rows₀) h count) basis₀ sigma₀ r basis₁ sigma₁
      → RowMethodPromise n k y w rs (lent_records rows₀ rows₁) basis₀ sigma₀ r basis₁ sigma₁
  method-records {n} {k} {y} {w} {basis₀} {sigma₀} rows₀ rows₁ c p =
      let a : ℕ = length basis₀ in
      let b : ℕ = length sigma₀ in
      let room : ℕ = length rows₀ in
      record {
        answer = as-records (λ l. row_method n k y w l a b room) rs e g (method-cut n k y w a b room rs) p.answer;
        basis = as-records (λ l. stored (row_method_verdict n k y w l a b room) (basis_of (of_rows (missing y) l) n w) basis₀) rs e g
            (method-stored-cut n k y w a b room (λ l. basis_of (of_rows (missing y) l) n w) basis₀ rs) p.basis;
        sigma = as-records (λ l. stored (row_method_verdict n k y w l a b room) (sigma_of (of_rows (missing y) l) n w) sigma₀) rs e g
            (method-stored-cut n k y w a b room (λ l. sigma_of (of_rows (missing y) l) n w) sigma₀ rs) p.sigma;
        smaller = as-records (λ l. stored (row_method_verdict n k y w l a b room) (smaller_list (missing y) n w l) rows₀) rs e g
            (method-stored-cut n k y w a b room (smaller_list (missing y) n w) rows₀ rs) (yielded-stored rows₀ rows₁ p.smaller c);
      }

  pub disjoin-records : {n k : ℕ} {r : DisjoinAnswer} {h : FlatRows} {count : ℕ} (rows₀ rows₁ : List Row) → Scattered h count rows₀ rows₁
      → DisjoinPromise n k (listed f m) (lent_arrays (length rows₀) h count) r → DisjoinPromise n k rs (lent_records rows₀ rows₁) r
  disjoin-records {n} {k} rows₀ rows₁ c p =
      let room : ℕ = length rows₀ in
      record {
        answer = as-records (λ l. disjoin n k l room) rs e g (disjoin-cut n k room rs) p.answer;
        rows = as-records (λ l. stored (disjoin_verdict n k l room) (disjoined n l) rows₀) rs e g (disjoined-cut n k room rows₀ rs)
            (yielded-stored rows₀ rows₁ p.rows c);
      }

-- in place: the records that were copied out are those that the rows are copied in to
pub join-records : {n k m : ℕ} {r : JoinAnswer} {f h : FlatRows} {count : ℕ} (rows₀ rows₁ : List Row) → m ≡ min (length rows₀) held_rows
    → Gathered rows₀ m f → Scattered h count rows₀ rows₁ → JoinPromise n k (listed f m) (lent_arrays m h count) r
    → JoinPromise n k rows₀ (lent_records rows₀ rows₁) r
join-records {n} {k} rows₀ rows₁ e g c p =
    record {
      answer = as-records (join n k) rows₀ e g (join-cut n k rows₀) p.answer;
      rows = as-records (λ l. stored (join_verdict n k l) (joined_room l) rows₀) rows₀ e g (joined-cut n k rows₀ rows₀)
          (yielded-stored rows₀ rows₁ (yielded-wider refl (omega arith) p.rows) c);
    }

pub read-records : {text : List ℕ} {r : ReadAnswer} {h : FlatRows} {count : ℕ} (rows₀ rows₁ : List Row) → Scattered h count rows₀ rows₁
    → ReadPromise text (lent_arrays (length rows₀) h count) r → ReadPromise text (lent_records rows₀ rows₁) r
read-records rows₀ rows₁ c p = record { answer = p.answer; rows = yielded-stored rows₀ rows₁ p.rows c }
