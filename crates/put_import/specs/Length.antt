-- How long the line of one list is at most. Assumes nothing.
use Rattle.std.specs.Prelude.{Bool, true, false, cond, List, ℕ, ◌+◌, ◌≤◌, eqb, length}
use Rattle.std.proofs.Common.{arith, length-append}
use Rattle.std.proofs.lemmas.List.{length-map}
use Rattle.put_refusal.specs.Words.{three}
use Rattle.put_refusal.specs.Length.{three_room, three-le}
use Rattle.block.specs.declared.SheetWork.{SheetWork}
use Rattle.put_import.specs.Line.{sheet_word, refused_word, line_words, import_line}

-- room for the longest words: the longer of the two, and three numbers
abbrev words_room : ℕ
words_room = 8 + three_room

words-le : (r : SheetWork) → length (line_words r) ≤ words_room
unfolding line_words
words-le r =
    go (eqb r.number 0) (three sheet_word r.rows r.before r.after) (three refused_word r.number r.a r.b)
    (omega (arith, three-le sheet_word r.rows r.before r.after))
    (three-le refused_word r.number r.a r.b)
  where
    go : (b : Bool) (s t : List ℕ) → length s ≤ words_room → length t ≤ words_room → length (cond b s t) ≤ words_room
    go true s t h k = h
    go false s t h k = k

-- and for the line
pub line-le : (name : List ℕ) (r : SheetWork) → length (import_line name r) ≤ length name + (1 + words_room)
unfolding import_line
line-le name r = simp (length-append, length-map) (omega (arith, words-le r))
