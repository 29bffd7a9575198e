-- The answer and the line of one list, from the work of its text and the line that is put. Assumes nothing.
use Rattle.std.specs.Prelude.{◌≡◌, List, ℕ, ◌≤◌, length, take}
use Rattle.std.proofs.Common.{sym, ap, ◌∙◌, zero-add, arith, length-append}
use Rattle.slices.specs.Places.{over}
use Rattle.block.specs.Refusals.{stored}
use Rattle.refusal_laws.specs.Verdicts.{carried-yes, stored-yes}
use Rattle.put_bytes.specs.Puts.{Put, put-over}
use Rattle.block.specs.declared.SheetWork.{SheetWork}
use Rattle.text_work.specs.Work.{text_verdict, sheet_in, text_work}
use Rattle.put_import.specs.Line.{import_line}
use Rattle.importing.specs.Import.{line_of, imported}
use Rattle.importing.specs.declared.Imported.{Imported}

pub line_made : (name text part l l' : List ℕ) (r : SheetWork) (c : ℕ) → part ≡ take 4096 name → r ≡ text_work text
    → Put l 0 (import_line part r) l' c → c ≤ length l
    → (record { number = r.number; a = r.a; b = r.b; count = r.count; length = c } ≡ imported name text) × (l' ≡ over (line_of name text) l)
unfolding imported line_of text_work
line_made name text part l l' r c first e p h =
    let q : Put l 0 (line_of name text) l' c = rw (← first, ← e) p in
    let n : c ≡ length (line_of name text) = q.place ∙ zero-add (length (line_of name text)) in
    (rw (e, n), put-over (omega (arith, n)) q)

-- the line lies in its room, and so does the sheet of an answer
pub line-fits : (name text l l' : List ℕ) (r : Imported) → r ≡ imported name text → l' ≡ over (line_of name text) l → r.length ≤ length l'
unfolding imported
line-fits name text l l' r e p = omega (arith, ap (λ (x : Imported). x.length) e, simp length-append at (ap length p))

pub sheet-fits : (name text l l' : List ℕ) (r : Imported) → r ≡ imported name text → l' ≡ stored (text_verdict text) (sheet_in text) l
    → r.number ≡ 0 → r.count ≤ length l'
unfolding imported text_work
sheet-fits name text l l' r e p h =
    let z : (text_verdict text).number ≡ 0 = sym (ap (λ (x : Imported). x.number) e) ∙ h in
    let n : r.count ≡ length (sheet_in text) = ap (λ (x : Imported). x.count) e ∙ carried-yes (text_verdict text) (length (sheet_in text)) z in
    omega (arith, n, simp length-append at (ap length (p ∙ stored-yes (text_verdict text) (sheet_in text) l z)))
