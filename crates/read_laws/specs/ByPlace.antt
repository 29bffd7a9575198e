-- What the text reader gives, by the places of bytes: a byte past the end counts as 0, which no line has. Numbers, headings and the type
-- line first, then rows, then the whole. Not here: that this is what the meaning says of the lines, which are laws. Assumes nothing.
use Rattle.std.specs.Prelude.{Bool, true, false, not, cond, ◌||◌, List, ℕ, zero, suc, ◌+◌, ◌*◌, ◌≤◌, eqb, ltb, length, drop, Result, Ok, Err, Option, Some, None}
use Rattle.slices.specs.Places.{at, tab, first, over}
use Rattle.sums.specs.Sums.{one}
use Rattle.block.specs.Limits.{list_inputs, outputs, given_rows}
use Rattle.block.specs.Words.{fr, fd, row}
use Rattle.block.specs.Refusals.{outside}
use Rattle.block.specs.Text.{type_line_of, equal, is_digit, head_digits, value_of, head_count, first_line}
use Rattle.block.specs.declared.Row.{Row}
use Rattle.block.specs.declared.Headings.{Headings}
use Rattle.block.specs.declared.Refusal.{Refusal}
use Rattle.block.specs.declared.Kind.{Kind}
use Rattle.block.specs.declared.Kind.TheVariants.{Inputs, Outputs, Count, Room, Form}
use Rattle.read_laws.specs.declared.TypeLine.{TypeLine}

-- every place that the reader is asked for lies below: a row or a number from there on has no place that wraps
abbrev pub farthest : ℕ
farthest = 65536

-- a number has at most so many digits, and so fits 32 bits
abbrev pub longest : ℕ
longest = 9

-- ---- numbers

-- how many of the `most` bytes from a place on are digits, up to the first that is none
unfoldable pub digits_at : List ℕ → ℕ → ℕ → ℕ
digits_at s from most = first most (λ i. not (is_digit (at s (from + i))))

-- so many bytes from a place on
abbrev pub bytes_at : List ℕ → ℕ → ℕ → List ℕ
bytes_at s from count = tab count (λ i. at s (from + i))

-- `count` digits that spell v, of which the first is `lead`, before the byte `last`: a number, and its bytes with its LF
unfoldable pub ended_of : ℕ → ℕ → ℕ → ℕ → Option (ℕ × ℕ)
ended_of count v lead last =
    cond (eqb last 10)
    (cond (eqb count 0) None
    (cond (eqb count 1) (Some (v, 2))
    (cond (eqb lead 48) None (Some (v, count + 1)))))
    None

-- the number of 1 to `most` digits from a place on, ended by LF
unfoldable pub number_at : List ℕ → ℕ → ℕ → Option (ℕ × ℕ)
number_at s from most =
    let count : ℕ = digits_at s from most in
    ended_of count (value_of (bytes_at s from count)) (at s from) (at s (from + count))

-- the bytes that a number takes
abbrev pub width_of : Option (ℕ × ℕ) → ℕ
width_of None = 0
width_of (Some (v, size)) = size

-- ---- headings

-- three bytes more before the number
abbrev pub widened : Option (ℕ × ℕ) → Option (ℕ × ℕ)
widened None = None
widened (Some (v, size)) = Some (v, size + 3)

-- a line that begins with the bytes a, b and c, before a number
unfoldable pub lead_of : ℕ → ℕ → ℕ → ℕ → Option (ℕ × ℕ) → Option (ℕ × ℕ)
lead_of a b c letter v = cond (eqb a 46) (cond (eqb b letter) (cond (eqb c 32) (widened v) None) None) None

-- the heading from a place on
unfoldable pub head_at : List ℕ → ℕ → ℕ → Option (ℕ × ℕ)
head_at s from letter = lead_of (at s from) (at s (from + 1)) (at s (from + 2)) letter (number_at s (from + 3) head_digits)

abbrev pub refusal : Kind → ℕ → Refusal
refusal kind a = record { kind = kind; a = a; b = 0 }

-- ---- the type line

-- a line stands from a place on
unfoldable pub stands_at : List ℕ → ℕ → List ℕ → Bool
stands_at s from line = equal (bytes_at s from (length line)) line

abbrev pub typed : ℕ → ℕ → TypeLine
typed y z = record { block_type = y; type_line = z }

-- the type that the line from a place on says, fd where no type line stands there; and 1 where one does
unfoldable pub type_at : List ℕ → ℕ → TypeLine
type_at s from =
    typed (cond (stands_at s from (type_line_of fr)) fr fd) (one (stands_at s from (type_line_of fr) || stands_at s from (type_line_of fd)))

-- the bytes of a type line
abbrev pub type_bytes : ℕ
type_bytes = 9

-- ---- the headings together

abbrev pub headings_of : ℕ → ℕ → TypeLine → ℕ → Headings
headings_of n k t p = record { n = n; k = k; block_type = t.block_type; type_line = t.type_line; count = p }

-- the ranges of n, k and the number of rows, and the room
unfoldable pub ranged_of : Headings → ℕ → ℕ → Result (Headings × ℕ) Refusal
ranged_of h from room =
    cond (outside 1 list_inputs h.n) (Err (refusal Inputs 0))
    (cond (outside 1 outputs h.k) (Err (refusal Outputs 0))
    (cond (outside 1 given_rows h.count) (Err (refusal Count 0))
    (cond (ltb room h.count) (Err (refusal Room 0))
    (Ok (h, from)))))

-- what open headings promise
abbrev pub OpenWithin : Result (Headings × ℕ) Refusal → ℕ → Type 0
OpenWithin (Err r) room = Unit {0}
OpenWithin (Ok (h, from)) room =
    (h.n ≤ list_inputs) × (h.k ≤ outputs) × (h.count ≤ given_rows) × (h.count ≤ room) × (h.type_line ≤ 1)

abbrev pub on_value : Option (ℕ × ℕ) → Result (Headings × ℕ) Refusal → (ℕ → ℕ → Result (Headings × ℕ) Refusal) → Result (Headings × ℕ) Refusal
on_value None o f = o
on_value (Some (v, w)) o f = f v w

-- from the place after ".o k" on, and what stands there of a type line: ".p rows" behind that line, and the ranges
unfoldable pub counted_of : List ℕ → ℕ → ℕ → ℕ → TypeLine → ℕ → Result (Headings × ℕ) Refusal
counted_of s n k from t room =
    let place : ℕ = from + t.type_line * type_bytes in
    on_value (head_at s place 112) (Err (refusal Form (3 + t.type_line))) (λ p w.
    ranged_of (headings_of n k t p) (place + w) room)

unfoldable pub opening_of : List ℕ → ℕ → Result (Headings × ℕ) Refusal
opening_of s room =
    on_value (head_at s 0 105) (Err (refusal Form 1)) (λ n u.
    on_value (head_at s u 111) (Err (refusal Form 2)) (λ k v.
    counted_of s n k (u + v) (type_at s (u + v)) room))

-- ---- rows

abbrev pub mask_of : Option (ℕ × ℕ) → ℕ
mask_of None = 0
mask_of (Some (m, v)) = m

abbrev pub values_of : Option (ℕ × ℕ) → ℕ
values_of None = 0
values_of (Some (m, v)) = v

-- one symbol more, as the lowest input; `free` is the byte of a free one
unfoldable pub step_of : Option (ℕ × ℕ) → ℕ → ℕ → Option (ℕ × ℕ)
step_of None b free = None
step_of (Some (m, v)) b free =
    cond (eqb b 48) (Some (m * 2 + 1, v * 2))
    (cond (eqb b 49) (Some (m * 2 + 1, v * 2 + 1))
    (cond (eqb b free) (Some (m * 2, v * 2)) None))

-- the symbols from a place on
unfoldable pub spelled_at : List ℕ → ℕ → ℕ → ℕ → Option (ℕ × ℕ)
spelled_at s from free zero = Some (0, 0)
spelled_at s from free (suc i) = step_of (spelled_at s from free i) (at s (from + i)) free

abbrev pub both_of : Option (ℕ × ℕ) → Option (ℕ × ℕ) → Option Row
both_of None o = None
both_of (Some (m, v)) None = None
both_of (Some (m, v)) (Some (f, w)) = Some (row m v w)

-- a row's parts: its inputs, the byte after them, its outputs, the byte after them
unfoldable pub joined_of : Option (ℕ × ℕ) → ℕ → Option (ℕ × ℕ) → ℕ → Option Row
joined_of i gap o end = cond (eqb gap 32) (cond (eqb end 10) (both_of i o) None) None

-- the row from a place on
unfoldable pub row_from : List ℕ → ℕ → ℕ → ℕ → Option Row
row_from s n k from =
    joined_of (spelled_at s from 45 n) (at s (from + n)) (spelled_at s (from + n + 1) 48 k) (at s (from + n + 1 + k))

abbrev pub is_broken : Option Row → Bool
is_broken None = true
is_broken (Some r) = false

-- the row, or one of zeros for a broken line
abbrev pub row_or : Option Row → Row
row_or None = row 0 0 0
row_or (Some r) = r

-- row i of rows that are n + k + 2 bytes long
unfoldable pub line_of : List ℕ → ℕ → ℕ → ℕ → Option Row
line_of s n k i = row_from s n k (i * (n + k + 2))

abbrev pub broken_line : List ℕ → ℕ → ℕ → ℕ → Bool
broken_line s n k i = is_broken (line_of s n k i)

-- a field of row i
abbrev pub field_of : (Row → ℕ) → List ℕ → ℕ → ℕ → ℕ → ℕ
field_of f s n k i = f (row_or (line_of s n k i))

-- after p rows: the last line, and nothing more; of p + 2 lines the least faulty, or p + 2
unfoldable pub end_of : ℕ → ℕ → ℕ → ℕ → ℕ → ℕ → ℕ
end_of a b c size end p = cond (eqb a 46) (cond (eqb b 101) (cond (eqb c 10) (cond (eqb size end) (p + 2) (p + 1)) p) p) p

-- of the p + 2 lines of the body the least faulty, or p + 2
unfoldable pub fault_of : List ℕ → ℕ → ℕ → ℕ → ℕ
fault_of s n k p =
    let f : ℕ = first p (broken_line s n k) in
    let e : ℕ = p * (n + k + 2) in
    cond (ltb f p) f (end_of (at s e) (at s (e + 1)) (at s (e + 2)) (length s) (e + 3) p)

-- a lent list after the rows: the p values of f at its front, where no line is faulty
unfoldable pub filled_of : ℕ → ℕ → (ℕ → ℕ) → List ℕ → List ℕ
filled_of fault p f l = cond (eqb fault (p + 2)) (over (tab p f) l) l

-- ---- the whole text

-- the headings that opened, or the faulty line of the body, which stands one further where the type line does
unfoldable pub closed_of : Headings → ℕ → Result Headings Refusal
closed_of h fault =
    cond (eqb fault (h.count + 2)) (Ok h) (Err (refusal Form (first_line + head_count + h.type_line + fault)))

unfoldable pub reading_of : List ℕ → Result (Headings × ℕ) Refusal → Result Headings Refusal
reading_of s (Err r) = Err r
reading_of s (Ok (h, from)) = closed_of h (fault_of (drop from s) h.n h.k h.count)

-- a lent list after reading: a field of the rows at its front, where the text is accepted
unfoldable pub after_of : Result (Headings × ℕ) Refusal → List ℕ → (Row → ℕ) → List ℕ → List ℕ
after_of (Err r) s f l = l
after_of (Ok (h, from)) s f l =
    filled_of (fault_of (drop from s) h.n h.k h.count) h.count (field_of f (drop from s) h.n h.k) l
