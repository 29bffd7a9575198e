-- The cursor after the headings: it stands in the text, where the body starts, and the part of the text from there is the rest of it.
-- Assumes nothing.
use Rattle.std.specs.Prelude.{◌≡◌, ◌⊎◌, List, ℕ, zero, suc, ◌-◌, ◌≤◌, length, take, drop, Result, Ok, Err}
use Rattle.std.proofs.Common.{subst, inl, inr, arith, length-drop, take_all}
use Rattle.block.specs.Text.{head_count, head_place}
use Rattle.block.specs.declared.Refusal.{Refusal}
use Rattle.block.specs.declared.Headings.{Headings}
use Rattle.read_laws.specs.ByPlace.{opening_of}
use Rattle.read_laws.specs.Front.{front-le, start}
use Rattle.read_laws.specs.Answers.{Stop, Opened, outcome}

-- the cursor of an opening
abbrev cursor_of : Result (Headings × ℕ) Refusal → ℕ
cursor_of (Err r) = 0
cursor_of (Ok (h, from)) = from

start-le : (s : List ℕ) (i : ℕ) → start s i ≤ length s
unfolding start
start-le s zero = omega arith
start-le s (suc i) = omega (arith, start-le s i, front-le (drop (start s i) s), length-drop (start s i) s)

pub cursor-le : (text : List ℕ) (room from : ℕ) (h : Headings) → opening_of text room ≡ Ok (h, from) → from ≤ length text
cursor-le text room from h e = subst (λ (o : Result (Headings × ℕ) Refusal). cursor_of o ≤ length text) e (go (outcome text room))
  where
    go : Stop text room ⊎ Opened text room → cursor_of (opening_of text room) ≤ length text
    go (inl (r, o, v)) = rw o (omega arith)
    go (inr (o, v)) = rw o (start-le text (head_place text head_count))

-- the part from the cursor to the end
pub part-from : (s : List ℕ) (from : ℕ) → take (length s - from) (drop from s) ≡ drop from s
part-from s from = take_all (length s - from) (drop from s) (rw length-drop (omega arith))
