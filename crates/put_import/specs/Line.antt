-- The line of one list in a bulk import, without its end: every byte. Assumes nothing.
use Rattle.std.specs.Prelude.{cond, ◌||◌, List, [], ◌∷◌, ◌++◌, map, ℕ, eqb, ltb}
use Rattle.put_refusal.specs.Words.{three}
use Rattle.block.specs.declared.SheetWork.{SheetWork}

-- a byte of a name as it is shown: a control byte as a question mark
abbrev pub shown_byte : ℕ → ℕ
shown_byte b = cond (ltb b 32 || eqb b 127) 63 b

-- "sheet " and "refused "
abbrev pub sheet_word : List ℕ
sheet_word = 115 ∷ 104 ∷ 101 ∷ 101 ∷ 116 ∷ 32 ∷ []

abbrev pub refused_word : List ℕ
refused_word = 114 ∷ 101 ∷ 102 ∷ 117 ∷ 115 ∷ 101 ∷ 100 ∷ 32 ∷ []

-- what is said of a list: "sheet ROWS BEFORE AFTER", the number of smaller rows and the measures, or "refused N A B"
unfoldable pub line_words : SheetWork → List ℕ
line_words r =
    cond (eqb r.number 0) (three sheet_word r.rows r.before r.after) (three refused_word r.number r.a r.b)

-- the line: the name, a space, and that
unfoldable pub import_line : List ℕ → SheetWork → List ℕ
import_line name r = map shown_byte name ++ (32 ∷ line_words r)
