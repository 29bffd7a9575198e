-- Row text (01, the section of that name): what is written, the form of each line, and what a text says. A text is the list of its
-- bytes, cut at LF. Not here: that reading and writing undo each other, which are laws. Assumes nothing.
use Rattle.std.specs.Prelude.{Bool, true, false, not, cond, ◌&&◌, ◌||◌, List, [], ◌∷◌, ◌++◌, ℕ, zero, suc, ◌+◌, ◌-◌, ◌*◌, ◌/◌, ◌%◌, eqb, ltb, leb, length, get_or, take, drop, Result, Ok, Err}
use Rattle.bits.specs.Digits.{bit}
use Rattle.slices.specs.Places.{tab, first}
use Rattle.sums.specs.Sums.{one}
use Rattle.block.specs.Limits.{list_inputs, given_rows, text_room}
use Rattle.block.specs.Words.{fr, fd, row}
use Rattle.block.specs.Refusals.{Check, check, verdict, carried, outside, size_checks, typed_checks}
use Rattle.block.specs.Lists.{count_check, bad_row_check}
use Rattle.block.specs.declared.Row.{Row}
use Rattle.block.specs.declared.Answer.{Answer}
use Rattle.block.specs.declared.TextAnswer.{TextAnswer}
use Rattle.block.specs.declared.ReadAnswer.{ReadAnswer}
use Rattle.block.specs.declared.Headings.{Headings}
use Rattle.block.specs.declared.Refusal.{Refusal}
use Rattle.block.specs.declared.Kind.{Kind}
use Rattle.block.specs.declared.Kind.TheVariants.{Inputs, Outputs, Count, Room, Form}

-- ---- what is written

-- a number in decimal, of at most `most` digits
unfoldable pub digits : ℕ → ℕ → List ℕ
digits zero v = []
digits (suc most) v = cond (ltb v 10) ((48 + v) ∷ []) (digits most (v / 10) ++ ((48 + v % 10) ∷ []))

-- 20 digits hold every number of 64 bits
abbrev pub decimal : ℕ → List ℕ
decimal v = digits 20 v

-- the n symbols of a row, highest input first: - where it is free, else its value
unfoldable pub symbols : ℕ → ℕ → ℕ → List ℕ
symbols zero mask values = []
symbols (suc i) mask values = cond (eqb (bit mask i) 0) 45 (48 + bit values i) ∷ symbols i mask values

-- the n lowest bits of a number, highest first
unfoldable pub bits : ℕ → ℕ → List ℕ
bits zero v = []
bits (suc i) v = (48 + bit v i) ∷ bits i v

unfoldable pub row_line : ℕ → ℕ → Row → List ℕ
row_line n k r = symbols n r.mask r.values ++ (32 ∷ bits k r.word) ++ (10 ∷ [])

unfoldable pub row_lines : ℕ → ℕ → List Row → List ℕ
row_lines n k [] = []
row_lines n k (r ∷ rs) = row_line n k r ++ row_lines n k rs

-- ".x number": 105, 111 and 112 are the letters i, o and p
unfoldable pub head_line : ℕ → ℕ → List ℕ
head_line letter v = 46 ∷ letter ∷ 32 ∷ decimal v ++ (10 ∷ [])

-- ".e"
abbrev pub end_line : List ℕ
end_line = 46 ∷ 101 ∷ 10 ∷ []

-- ".type fr" or ".type fd" (02, Ticket 2)
abbrev pub type_line_of : ℕ → List ℕ
type_line_of y = 46 ∷ 116 ∷ 121 ∷ 112 ∷ 101 ∷ 32 ∷ 102 ∷ cond (eqb y fr) 114 100 ∷ 10 ∷ []

-- the type line where it is to stand: z is 0 where it is not
abbrev pub type_lines : ℕ → ℕ → List ℕ
type_lines y z = cond (eqb z 0) [] (type_line_of y)

unfoldable pub text_of : ℕ → ℕ → ℕ → ℕ → List Row → List ℕ
text_of n k y z rs =
    head_line 105 n ++ head_line 111 k ++ type_lines y z ++ head_line 112 (length rs) ++ row_lines n k rs ++ end_line

-- ---- writing: 1, 2, 3 (y; 02, Ticket 2: "or fr with no line for the writer"), 4, 5 (4,255 bytes), 6

unfoldable pub write_verdict : ℕ → ℕ → ℕ → ℕ → List Row → ℕ → Answer
write_verdict n k y z rs room =
    verdict (typed_checks list_inputs n k y (
    check (eqb y fr && eqb z 0) 3 0 0
    ∷ count_check given_rows rs
    ∷ check (ltb room text_room) 5 0 0
    ∷ bad_row_check n k rs
    ∷ []))

-- an answer with a number of bytes
abbrev pub with_bytes : Answer → List ℕ → TextAnswer
with_bytes v text = record { number = v.number; a = v.a; b = v.b; count = carried v (length text) }

unfoldable pub write_text : ℕ → ℕ → ℕ → ℕ → List Row → ℕ → TextAnswer
write_text n k y z rs room = with_bytes (write_verdict n k y z rs room) (text_of n k y z rs)

-- ---- the lines of a text

-- a byte before the first of some lines
abbrev pub onto : ℕ → List (List ℕ) → List (List ℕ)
onto b [] = (b ∷ []) ∷ []
onto b (l ∷ ls) = (b ∷ l) ∷ ls

-- the lines, each with its LF; what follows the last LF, if anything, is a line without one
unfoldable pub lines : List ℕ → List (List ℕ)
lines [] = []
lines (b ∷ bs) = cond (eqb b 10) ((10 ∷ []) ∷ lines bs) (onto b (lines bs))

-- line i of some lines, from 0; the empty list where they have ended
abbrev pub line_in : List (List ℕ) → ℕ → List ℕ
line_in ls i = get_or ls i []

abbrev pub line_at : List ℕ → ℕ → List ℕ
line_at text i = line_in (lines text) i

-- ---- the form of a line

unfoldable pub equal : List ℕ → List ℕ → Bool
equal [] [] = true
equal [] (y ∷ ys) = false
equal (x ∷ xs) [] = false
equal (x ∷ xs) (y ∷ ys) = eqb x y && equal xs ys

unfoldable pub every : (ℕ → Bool) → List ℕ → Bool
every p [] = true
every p (x ∷ xs) = p x && every p xs

abbrev pub is_digit : ℕ → Bool
is_digit b = leb 48 b && leb b 57

-- 1 to `most` decimal digits without leading zeros; "0" has form
unfoldable pub numeral : ℕ → List ℕ → Bool
numeral most ds =
    (leb 1 (length ds) && leb (length ds) most) && (every is_digit ds && (eqb (length ds) 1 || not (eqb (get_or ds 0 0) 48)))

-- the most digits of a heading's number
abbrev pub head_digits : ℕ
head_digits = 3

-- the bytes between ".x " and LF
abbrev pub number_part : List ℕ → List ℕ
number_part l = take (length l - 4) (drop 3 l)

unfoldable pub head_form : ℕ → List ℕ → Bool
head_form letter l =
    equal (take 3 l) (46 ∷ letter ∷ 32 ∷ []) && (numeral head_digits (number_part l) && eqb (get_or l (length l - 1) 0) 10)

-- n of 0, 1, -, one space, k of 0, 1, and LF
unfoldable pub row_form : ℕ → ℕ → List ℕ → Bool
row_form n k l =
    eqb (length l) (n + 1 + k + 1)
    && (every (λ b. eqb b 48 || (eqb b 49 || eqb b 45)) (take n l)
    && (eqb (get_or l n 0) 32
    && (every (λ b. eqb b 48 || eqb b 49) (take k (drop (n + 1) l))
    && eqb (get_or l (n + 1 + k) 0) 10)))

-- ---- what the lines say

-- the number that bytes spell in a base, each byte's digit by f
unfoldable pub spelled : ℕ → (ℕ → ℕ) → ℕ → List ℕ → ℕ
spelled base f v [] = v
spelled base f v (b ∷ bs) = spelled base f (v * base + f b) bs

-- the number that decimal digits spell
abbrev pub value_of : List ℕ → ℕ
value_of ds = spelled 10 (λ b. b - 48) 0 ds

-- the row that a line of row form spells
unfoldable pub row_on : ℕ → ℕ → List ℕ → Row
row_on n k l =
    row (spelled 2 (λ b. one (not (eqb b 45))) 0 (take n l))
    (spelled 2 (λ b. one (eqb b 49)) 0 (take n l))
    (spelled 2 (λ b. one (eqb b 49)) 0 (take k (drop (n + 1) l)))

-- ---- the type line, which may follow .o (02, Ticket 2): "with no such line fd holds"

-- 1 where the third line is a type line, and else 0
unfoldable pub type_line_in : List ℕ → ℕ
type_line_in text = one (equal (line_at text 2) (type_line_of fr) || equal (line_at text 2) (type_line_of fd))

-- the type of a text
unfoldable pub type_in : List ℕ → ℕ
type_in text = cond (equal (line_at text 2) (type_line_of fr)) fr fd

-- ---- the headings: ".i n", ".o k", ".p rows"

-- their letters, in the order of their lines
abbrev pub head_letters : List ℕ
head_letters = 105 ∷ 111 ∷ 112 ∷ []

-- so many lines are headings
abbrev pub head_count : ℕ
head_count = length head_letters

-- the line, from 0, of heading i, and of the body's first line where i is `head_count`: those after .o stand one further where the type
-- line does
unfoldable pub head_place : List ℕ → ℕ → ℕ
head_place text i = cond (ltb i 2) i (i + type_line_in text)

-- a line has the form of heading i
abbrev pub head_due : ℕ → List ℕ → Bool
head_due i l = head_form (get_or head_letters i 0) l

-- the least heading, from 0, that lacks its form; `head_count` where there is none
unfoldable pub head_fault : List ℕ → ℕ
head_fault text = first head_count (λ i. not (head_due i (line_at text (head_place text i))))

abbrev pub head_number : List ℕ → ℕ → ℕ
head_number text i = value_of (number_part (line_at text (head_place text i)))

-- n, k and the number of rows that the headings say
abbrev pub inputs_in : List ℕ → ℕ
inputs_in text = head_number text 0

abbrev pub outputs_in : List ℕ → ℕ
outputs_in text = head_number text 1

abbrev pub count_in : List ℕ → ℕ
count_in text = head_number text 2

-- ---- the body: the lines after the headings, counted from its own first line

abbrev pub body : List ℕ → List (List ℕ)
body text = drop (head_place text head_count) (lines text)

-- line i of the body, from 0, has the form due there: p rows, ".e", and nothing more
unfoldable pub body_due : ℕ → ℕ → ℕ → ℕ → List ℕ → Bool
body_due n k p i l = cond (ltb i p) (row_form n k l) (cond (eqb i p) (equal l end_line) (equal l []))

-- the least line of the body, from 0, that lacks the form due there; p + 2 where there is none
unfoldable pub body_fault : ℕ → ℕ → ℕ → List (List ℕ) → ℕ
body_fault n k p ls = first (p + 2) (λ i. not (body_due n k p i (line_in ls i)))

-- the rows that the body says
unfoldable pub rows_on : ℕ → ℕ → ℕ → List (List ℕ) → List Row
rows_on n k p ls = tab p (λ i. row_on n k (line_in ls i))

-- ---- reading: 10 for a heading; 1, 2, 4, 5 (the .p count of rows); 10 for the body

-- lines are answered counted from 1
abbrev pub first_line : ℕ
first_line = 1

abbrev pub head_check : List ℕ → Check
head_check text = check (ltb (head_fault text) head_count) 10 (first_line + head_place text (head_fault text)) 0

-- the least faulty line of the text's body, from 0; count_in text + 2 where there is none
abbrev pub text_fault : List ℕ → ℕ
text_fault text = body_fault (inputs_in text) (outputs_in text) (count_in text) (body text)

abbrev pub body_check : List ℕ → Check
body_check text =
    check (ltb (text_fault text) (count_in text + 2)) 10 (first_line + head_place text head_count + text_fault text) 0

abbrev pub read_checks : List ℕ → ℕ → List Check
read_checks text room =
    head_check text
    ∷ size_checks list_inputs (inputs_in text) (outputs_in text) (
    check (outside 1 given_rows (count_in text)) 4 0 0
    ∷ check (ltb room (count_in text)) 5 0 0
    ∷ body_check text
    ∷ [])

unfoldable pub read_verdict : List ℕ → ℕ → Answer
read_verdict text room = verdict (read_checks text room)

-- an answer with n, k, the type, whether its line stands there, and the number of rows
abbrev pub with_headings : Answer → ℕ → ℕ → ℕ → ℕ → ℕ → ReadAnswer
with_headings v n k y z p =
    record {
      number = v.number;
      a = v.a;
      b = v.b;
      n = carried v n;
      k = carried v k;
      block_type = carried v y;
      type_line = carried v z;
      count = carried v p;
    }

unfoldable pub read_text : List ℕ → ℕ → ReadAnswer
read_text text room =
    with_headings (read_verdict text room) (inputs_in text) (outputs_in text) (type_in text) (type_line_in text) (count_in text)

-- the rows that a text says
unfoldable pub rows_in : List ℕ → List Row
rows_in text = rows_on (inputs_in text) (outputs_in text) (count_in text) (body text)

-- ---- the reader's answer in 01's numbers

abbrev pub kind_number : Kind → ℕ
kind_number Inputs = 1
kind_number Outputs = 2
kind_number Count = 4
kind_number Room = 5
kind_number Form = 10

abbrev pub numbers : Result Headings Refusal → ReadAnswer
numbers (Ok h) =
    record {
      number = 0;
      a = 0;
      b = 0;
      n = h.n;
      k = h.k;
      block_type = h.block_type;
      type_line = h.type_line;
      count = h.count;
    }
numbers (Err r) =
    record {
      number = kind_number r.kind;
      a = r.a;
      b = r.b;
      n = 0;
      k = 0;
      block_type = 0;
      type_line = 0;
      count = 0;
    }
