-- The blocks that 01 marks P (01, Blocks to try by hand), read as fr, blocks with missing points under both types (02, Ticket 2), symmetric
-- blocks (02, Ticket 6), why numbers were not taken (02, Ticket 7), columns that no row drives (02, Ticket 8), rows that are joined (02, Ticket 9)
-- and lists that overlap on purpose (02, Ticket 10), as one statement over a table: each question has the numbers that stand beside it. Every
-- question goes through the answer that an operation's contract cites. Assumes nothing.
use Rattle.std.specs.Prelude.{◌≡◌, refl, Bool, true, cond, ◌&&◌, List, [], ◌∷◌, ◌++◌, ℕ, ◌^◌, T, eqb}
use Rattle.std.proofs.Common.{ap₂, eqb→eq}
use Rattle.std.specs.Int.Count.{ones, ones_in}
use Rattle.bits.specs.Digits.{parity}
use Rattle.slices.specs.Places.{tab, first}
use Rattle.slices.specs.Tests.{and_left, and_right}
use Rattle.sums.specs.Sums.{sum, count}
use Rattle.block.specs.Words.{fr, fd, missing, of_table, of_rows, row}
use Rattle.block.specs.Measure.{same, shift, measure}
use Rattle.block.specs.Basis.{span, candidate, before, better, best, next, chosen, columns, apply, inverse, basis_of, sigma_of, smaller_of}
use Rattle.block.specs.Rows.{highest, partner, exchange, rest, shear, reached, split_row, split_rows, moved}
use Rattle.block.specs.Refusals.{verdict, answered, bad_row, share, second, sharing, driven, undriven, dependent}
use Rattle.block.specs.Tables.{table_value_verdict, table_value, table_method_verdict, table_method, smaller_table, restore_verdict, restored}
use Rattle.block.specs.Lists.{row_value_verdict, row_value, rows_after, passing, method_checks, row_method_verdict, row_method, smaller_list, fill_verdict, filled}
use Rattle.block.specs.Text.{equal}
use Rattle.block.specs.Symmetric.{
  symmetric_table,
  gray_column,
  gray_table,
  is_symmetric,
  symmetric_verdict,
  symmetric_block,
  table_symmetric_verdict,
  table_symmetric,
}
use Rattle.block.specs.Reasons.{reason, reason_of, why_verdict, why_not, why_numbers}
use Rattle.block.specs.Joins.{joins, mate, joining, without, join_at, join_next, join_up_to, joined, join_verdict, join, joined_room}
use Rattle.block.specs.Overlaps.{
  ors,
  lies_inside,
  met,
  crossed,
  met_word,
  undecided,
  greatest,
  cut,
  pieces,
  free_inputs,
  region_rows,
  disjoined,
  disjoin_checked,
  disjoin_verdict,
  disjoin,
}
use Rattle.block.specs.declared.Row.{Row}
use Rattle.block.specs.declared.Answer.{Answer}

-- lists that the test finds equal are equal
equal-same : (a b : List ℕ) → T (equal a b) → a ≡ b
unfolding equal
equal-same [] [] h = refl
equal-same [] (y ∷ ys) h = absurd h
equal-same (x ∷ xs) [] h = absurd h
equal-same (x ∷ xs) (y ∷ ys) h =
    ap₂ ◌∷◌ (eqb→eq x y (and_left (eqb x y) (equal xs ys) h)) (equal-same xs ys (and_right (eqb x y) (equal xs ys) h))

-- a question to one operation; the lent room is just what it asks for, but in disjoining, where it is the third number
pub data Question : Type 0 where
  table_values : ℕ → ℕ → ℕ → ℕ → List ℕ → Question
  table_methods : ℕ → ℕ → ℕ → ℕ → List ℕ → Question
  row_values : ℕ → ℕ → ℕ → ℕ → List Row → Question
  row_methods : ℕ → ℕ → ℕ → ℕ → List Row → Question
  fills : ℕ → ℕ → ℕ → List Row → Question
  restores : ℕ → ℕ → ℕ → List ℕ → List ℕ → Question
  symmetric_blocks : ℕ → ℕ → ℕ → List ℕ → Question
  table_symmetrics : ℕ → ℕ → ℕ → List ℕ → Question
  why_nots : ℕ → ℕ → ℕ → ℕ → ℕ → List Row → Question
  joinings : ℕ → ℕ → List Row → Question
  disjoinings : ℕ → ℕ → ℕ → List Row → Question

-- a result beside an answer, nothing beside a refusal
abbrev pub with : Answer → List ℕ → List ℕ
with v s = cond (answered v) s []

-- rows as numbers: mask, values, word
pub flat : List Row → List ℕ
flat [] = []
flat (r ∷ rs) = r.mask ∷ r.values ∷ r.word ∷ flat rs

-- number, A, B; then the value; or the measures, T, sigma and the smaller table; or the measures, the count, T, sigma and the smaller
-- rows; or the filled table; or the restored one; or the measures and both tables of a symmetric block; or whether a table is one;
-- or the reason, its step and its set; or the number of rows that are left, and every record of the list's room; or the number of rows that come
-- out, and these
pub ask : Question → List ℕ
ask (table_values n k y t table) = let r = table_value n k y t table in r.number ∷ r.a ∷ r.b ∷ r.value ∷ []
ask (table_methods n k y w table) =
    let r = table_method n k y w table n n (2 ^ n) in
    r.number ∷ r.a ∷ r.b ∷ r.before ∷ r.after
    ∷ with (table_method_verdict n k y w table n n (2 ^ n))
    (basis_of (of_table table) n w ++ sigma_of (of_table table) n w ++ smaller_table (of_table table) n w)
ask (row_values n k y t rs) = let r = row_value n k y t rs in r.number ∷ r.a ∷ r.b ∷ r.value ∷ []
ask (row_methods n k y w rs) =
    let r = row_method n k y w rs n n 512 in
    r.number ∷ r.a ∷ r.b ∷ r.before ∷ r.after ∷ r.count
    ∷ with (row_method_verdict n k y w rs n n 512)
    (basis_of (of_rows (missing y) rs) n w ++ sigma_of (of_rows (missing y) rs) n w ++ flat (smaller_list (missing y) n w rs))
ask (fills n k y rs) =
    let v = fill_verdict n k y rs (2 ^ n) in
    v.number ∷ v.a ∷ v.b ∷ with v (filled (missing y) n rs)
ask (restores n k y sigma table) =
    let v = restore_verdict n k y sigma table (2 ^ n) in
    v.number ∷ v.a ∷ v.b ∷ with v (restored n sigma table)
ask (symmetric_blocks n k y words) =
    let r = symmetric_block n k y words (2 ^ n) (2 ^ n) in
    r.number ∷ r.a ∷ r.b ∷ r.before ∷ r.after
    ∷ with (symmetric_verdict n k y words (2 ^ n) (2 ^ n)) (symmetric_table words n ++ gray_table words n)
ask (table_symmetrics n k y table) = let r = table_symmetric n k y table in r.number ∷ r.a ∷ r.b ∷ r.value ∷ []
ask (why_nots n k y w t rs) =
    let r = why_numbers (why_not n k y w t rs) in
    r.number ∷ r.a ∷ r.b ∷ r.reason ∷ r.step ∷ r.set ∷ []
ask (joinings n k rs) =
    let r = join n k rs in
    r.number ∷ r.a ∷ r.b ∷ r.count ∷ with (join_verdict n k rs) (flat (joined_room rs))
ask (disjoinings n k room rs) =
    let r = disjoin n k rs room in
    r.number ∷ r.a ∷ r.b ∷ r.count ∷ with (disjoin_verdict n k rs room) (flat (disjoined n rs))

pub record Case : Type 0 where
  pub question : Question
  pub says : List ℕ

abbrev pub case : Question → List ℕ → Case
case q s = record { question = q; says = s }

pub table_a : List ℕ
table_a = 0 ∷ 1 ∷ 1 ∷ 0 ∷ []

-- "- 1"
pub rows_c : List Row
rows_c = row 0 0 1 ∷ []

-- "0 011111111", "1 111111111"
pub rows_d : List Row
rows_d = row 1 0 255 ∷ row 1 1 511 ∷ []

-- "00- 01", "11- 01", "01- 10", "10- 10"
unfoldable pub rows_e : List Row
rows_e = row 6 0 1 ∷ row 6 6 1 ∷ row 6 2 2 ∷ row 6 4 2 ∷ []

-- "--0 01", "001 10", "111 10", "011 11", "101 11"
pub rows_f : List Row
rows_f = row 1 0 1 ∷ row 7 1 2 ∷ row 7 7 2 ∷ row 7 3 3 ∷ row 7 5 3 ∷ []

-- "-00 01", "110 01", "010 00", "001 10", "111 10", "011 11", "101 11"
pub rows_g : List Row
rows_g = row 3 0 1 ∷ row 7 6 1 ∷ row 7 2 0 ∷ row 7 1 2 ∷ row 7 7 2 ∷ row 7 3 3 ∷ row 7 5 3 ∷ []

-- "0-", "-0"
pub rows_h : List Row
rows_h = row 2 0 0 ∷ row 1 0 0 ∷ []

-- "00 01", "11 10": the points 01 and 10 are missing
pub rows_m : List Row
rows_m = row 3 0 1 ∷ row 3 3 2 ∷ []

-- "0 010", "1 000": of three columns the lowest and the highest are 0 in every row
pub rows_u : List Row
rows_u = row 1 0 2 ∷ row 1 1 0 ∷ []

-- "00- 1", "010 1", "011 1": the last two are one row, which the first then joins
pub rows_i : List Row
rows_i = row 6 0 1 ∷ row 7 2 1 ∷ row 7 3 1 ∷ []

-- "00 1", "01 1", "11 1": the second could join the first or the third
pub rows_k : List Row
rows_k = row 3 0 1 ∷ row 3 1 1 ∷ row 3 3 1 ∷ []

-- "01 1", "11 1", "00 1": the first could join the second or the third
pub rows_l : List Row
rows_l = row 3 1 1 ∷ row 3 3 1 ∷ row 3 0 1 ∷ []

-- "0 0", "1 0": the joined row is all zeros, and so is the freed record
pub rows_z : List Row
rows_z = row 1 0 0 ∷ row 1 1 0 ∷ []

-- "0- 01", "-0 10": both lie over 00
pub rows_o : List Row
rows_o = row 2 0 1 ∷ row 1 0 2 ∷ []

-- "- 01", "1 10": a row over all, and one inside it
pub rows_n : List Row
rows_n = row 0 0 1 ∷ row 1 1 2 ∷ []

-- "0 01", "0 10": one row twice, with two words
pub rows_t : List Row
rows_t = row 1 0 1 ∷ row 1 0 2 ∷ []

-- a table without an output at 01
pub table_m : List ℕ
table_m = 0 ∷ 65535 ∷ 1 ∷ 0 ∷ []

-- the cases a to j, read as fr; then missing points under both types, and a number that is no type; then symmetric blocks: the parity of two,
-- 2 of 3, at least 2 of 3, whose measures are equal, 3 of 5, the block of the README, and one without an output at two one-bits; then why, of
-- every t of block e, whose T is 1, 6, 2, of two with the weight limit 1, where T is 1, 2, 4, and of two of block g, whose T is 6, 2, 1; and
-- refusals, which come before the reason that t is 0; then columns that no row drives: block e with a third output, in every operation on
-- lists, two of block u, of which the lowest is named, and a table, which is not asked for them. In case h, where rows share a point too, 7
-- comes first; then rows that are joined, and lists in which none are: block e, where values differ in two, block d, where words differ, and
-- block u, which is not asked for its columns; and refusals; then lists that overlap, among them block h, whose words are 0, block m, which is
-- disjoint, and block d with two inputs more that no row fixes; and refusals, of which 5 comes before 6
pub table : List Case
table =
    case (table_values 2 1 fr 0 table_a) (0 ∷ 0 ∷ 0 ∷ 4 ∷ [])
    ∷ case (table_values 2 1 fr 1 table_a) (0 ∷ 0 ∷ 0 ∷ 0 ∷ [])
    ∷ case (table_values 2 1 fr 2 table_a) (0 ∷ 0 ∷ 0 ∷ 0 ∷ [])
    ∷ case (table_values 2 1 fr 3 table_a) (0 ∷ 0 ∷ 0 ∷ 4 ∷ [])
    ∷ case (table_methods 2 1 fr 2 table_a) (0 ∷ 0 ∷ 0 ∷ 0 ∷ 4 ∷ 3 ∷ 1 ∷ 2 ∷ 3 ∷ 0 ∷ 0 ∷ 1 ∷ 1 ∷ [])
    ∷ case (table_methods 2 1 fr 1 table_a) (0 ∷ 0 ∷ 0 ∷ 0 ∷ 0 ∷ 1 ∷ 2 ∷ 1 ∷ 2 ∷ 0 ∷ 1 ∷ 1 ∷ 0 ∷ [])
    ∷ case (row_methods 1 1 fr 1 rows_c) (0 ∷ 0 ∷ 0 ∷ 2 ∷ 2 ∷ 1 ∷ 1 ∷ 1 ∷ 0 ∷ 0 ∷ 1 ∷ [])
    ∷ case (row_values 1 9 fr 1 rows_d) (0 ∷ 0 ∷ 0 ∷ 0 ∷ [])
    ∷ case (row_methods 3 2 fr 3 rows_e)
    (0 ∷ 0 ∷ 0 ∷ 8 ∷ 16 ∷ 4 ∷ 1 ∷ 6 ∷ 2 ∷ 1 ∷ 4 ∷ 6 ∷ 6 ∷ 0 ∷ 1 ∷ 6 ∷ 2 ∷ 1 ∷ 6 ∷ 4 ∷ 2 ∷ 6 ∷ 6 ∷ 2 ∷ [])
    ∷ case (row_methods 3 2 fr 3 rows_f)
    (0 ∷ 0 ∷ 0 ∷ 8 ∷ 12 ∷ 5 ∷ 6 ∷ 2 ∷ 1 ∷ 4 ∷ 6 ∷ 1 ∷ 4 ∷ 0 ∷ 1 ∷ 7 ∷ 4 ∷ 2 ∷ 7 ∷ 5 ∷ 2 ∷ 7 ∷ 6 ∷ 3 ∷ 7 ∷ 7 ∷ 3 ∷ [])
    ∷ case (row_methods 3 2 fr 3 rows_g)
    (0 ∷ 0 ∷ 0 ∷ 4 ∷ 8 ∷ 8 ∷ 6 ∷ 2 ∷ 1 ∷ 4 ∷ 6 ∷ 1
    ∷ 7 ∷ 0 ∷ 1 ∷ 7 ∷ 3 ∷ 1 ∷ 7 ∷ 1 ∷ 1 ∷ 7 ∷ 2 ∷ 0 ∷ 7 ∷ 4 ∷ 2 ∷ 7 ∷ 5 ∷ 2 ∷ 7 ∷ 6 ∷ 3 ∷ 7 ∷ 7 ∷ 3 ∷ [])
    ∷ case (row_methods 2 1 fr 2 rows_h) (7 ∷ 0 ∷ 1 ∷ 0 ∷ 0 ∷ 0 ∷ [])
    ∷ case (restores 2 1 fr (2 ∷ 3 ∷ []) (0 ∷ 0 ∷ 1 ∷ 1 ∷ [])) (0 ∷ 0 ∷ 0 ∷ 0 ∷ 1 ∷ 1 ∷ 0 ∷ [])
    ∷ case (restores 2 1 fr (3 ∷ 3 ∷ []) (0 ∷ 0 ∷ 1 ∷ 1 ∷ [])) (8 ∷ 1 ∷ 0 ∷ [])
    ∷ case (restores 2 1 fr (0 ∷ 1 ∷ []) (0 ∷ 0 ∷ 1 ∷ 1 ∷ [])) (8 ∷ 0 ∷ 0 ∷ [])
    ∷ case (row_values 2 2 fr 3 rows_m) (0 ∷ 0 ∷ 0 ∷ 0 ∷ [])
    ∷ case (row_values 2 2 fd 3 rows_m) (0 ∷ 0 ∷ 0 ∷ 2 ∷ [])
    ∷ case (row_methods 2 2 fr 2 rows_m) (0 ∷ 0 ∷ 0 ∷ 0 ∷ 0 ∷ 2 ∷ 1 ∷ 2 ∷ 1 ∷ 2 ∷ 3 ∷ 0 ∷ 1 ∷ 3 ∷ 3 ∷ 2 ∷ [])
    ∷ case (row_methods 2 2 fd 2 rows_m) (0 ∷ 0 ∷ 0 ∷ 0 ∷ 2 ∷ 2 ∷ 3 ∷ 1 ∷ 2 ∷ 3 ∷ 3 ∷ 0 ∷ 1 ∷ 3 ∷ 1 ∷ 2 ∷ [])
    ∷ case (fills 2 2 fr rows_m) (0 ∷ 0 ∷ 0 ∷ 1 ∷ 65535 ∷ 65535 ∷ 2 ∷ [])
    ∷ case (fills 2 2 fd rows_m) (0 ∷ 0 ∷ 0 ∷ 1 ∷ 0 ∷ 0 ∷ 2 ∷ [])
    ∷ case (table_values 2 1 fr 3 table_m) (0 ∷ 0 ∷ 0 ∷ 2 ∷ [])
    ∷ case (table_values 2 1 fd 3 table_m) (6 ∷ 0 ∷ 1 ∷ 0 ∷ [])
    ∷ case (table_methods 2 1 fd 2 table_m) (6 ∷ 0 ∷ 1 ∷ 0 ∷ 0 ∷ [])
    ∷ case (restores 2 1 fd (1 ∷ 2 ∷ []) table_m) (6 ∷ 0 ∷ 1 ∷ [])
    ∷ case (row_values 2 2 0 3 rows_m) (3 ∷ 0 ∷ 0 ∷ 0 ∷ [])
    ∷ case (symmetric_blocks 2 1 fr (0 ∷ 1 ∷ 0 ∷ []))
    (0 ∷ 0 ∷ 0 ∷ 0 ∷ 4
    ∷ 0 ∷ 1 ∷ 1 ∷ 0
    ∷ 0 ∷ 1 ∷ 0 ∷ 1 ∷ [])
    ∷ case (symmetric_blocks 3 1 fd (0 ∷ 0 ∷ 1 ∷ 0 ∷ []))
    (0 ∷ 0 ∷ 0 ∷ 6 ∷ 14
    ∷ 0 ∷ 0 ∷ 0 ∷ 1 ∷ 0 ∷ 1 ∷ 1 ∷ 0
    ∷ 0 ∷ 0 ∷ 1 ∷ 0 ∷ 1 ∷ 0 ∷ 1 ∷ 0 ∷ [])
    ∷ case (symmetric_blocks 3 1 fr (0 ∷ 0 ∷ 1 ∷ 1 ∷ []))
    (0 ∷ 0 ∷ 0 ∷ 12 ∷ 12
    ∷ 0 ∷ 0 ∷ 0 ∷ 1 ∷ 0 ∷ 1 ∷ 1 ∷ 1
    ∷ 0 ∷ 0 ∷ 1 ∷ 0 ∷ 1 ∷ 1 ∷ 1 ∷ 0 ∷ [])
    ∷ case (symmetric_blocks 5 1 fd (0 ∷ 0 ∷ 0 ∷ 1 ∷ 0 ∷ 0 ∷ []))
    (0 ∷ 0 ∷ 0 ∷ 60 ∷ 108
    ∷ 0 ∷ 0 ∷ 0 ∷ 0 ∷ 0 ∷ 0 ∷ 0 ∷ 1 ∷ 0 ∷ 0 ∷ 0 ∷ 1 ∷ 0 ∷ 1 ∷ 1 ∷ 0 ∷ 0 ∷ 0 ∷ 0 ∷ 1 ∷ 0 ∷ 1 ∷ 1 ∷ 0 ∷ 0 ∷ 1 ∷ 1 ∷ 0 ∷ 1 ∷ 0 ∷ 0 ∷ 0
    ∷ 0 ∷ 0 ∷ 0 ∷ 0 ∷ 0 ∷ 1 ∷ 0 ∷ 0 ∷ 0 ∷ 1 ∷ 0 ∷ 1 ∷ 0 ∷ 1 ∷ 0 ∷ 0 ∷ 0 ∷ 1 ∷ 0 ∷ 1 ∷ 0 ∷ 0 ∷ 0 ∷ 1 ∷ 0 ∷ 1 ∷ 0 ∷ 1 ∷ 0 ∷ 1 ∷ 0 ∷ 0 ∷ [])
    ∷ case (symmetric_blocks 3 1 fr (1 ∷ 0 ∷ 65535 ∷ 1 ∷ []))
    (0 ∷ 0 ∷ 0 ∷ 0 ∷ 4
    ∷ 1 ∷ 0 ∷ 0 ∷ 65535 ∷ 0 ∷ 65535 ∷ 65535 ∷ 1
    ∷ 1 ∷ 0 ∷ 65535 ∷ 0 ∷ 65535 ∷ 1 ∷ 65535 ∷ 0 ∷ [])
    ∷ case (symmetric_blocks 3 1 fd (1 ∷ 0 ∷ 65535 ∷ 1 ∷ [])) (6 ∷ 0 ∷ 2 ∷ 0 ∷ 0 ∷ [])
    ∷ case (symmetric_blocks 2 1 fd (0 ∷ 1 ∷ [])) (4 ∷ 0 ∷ 0 ∷ 0 ∷ 0 ∷ [])
    ∷ case (table_symmetrics 2 1 fd table_a) (0 ∷ 0 ∷ 0 ∷ 1 ∷ [])
    ∷ case (table_symmetrics 2 1 fr table_m) (0 ∷ 0 ∷ 0 ∷ 0 ∷ [])
    ∷ case (table_symmetrics 2 1 fr (0 ∷ 65535 ∷ 65535 ∷ 1 ∷ [])) (0 ∷ 0 ∷ 0 ∷ 1 ∷ [])
    ∷ case (table_symmetrics 2 1 fd table_m) (6 ∷ 0 ∷ 1 ∷ 0 ∷ [])
    ∷ case (why_nots 3 2 fr 3 0 rows_e) (0 ∷ 0 ∷ 0 ∷ 1 ∷ 0 ∷ 0 ∷ [])
    ∷ case (why_nots 3 2 fr 3 1 rows_e) (0 ∷ 0 ∷ 0 ∷ 3 ∷ 1 ∷ 0 ∷ [])
    ∷ case (why_nots 3 2 fr 3 2 rows_e) (0 ∷ 0 ∷ 0 ∷ 3 ∷ 3 ∷ 0 ∷ [])
    ∷ case (why_nots 3 2 fr 3 3 rows_e) (0 ∷ 0 ∷ 0 ∷ 4 ∷ 0 ∷ 5 ∷ [])
    ∷ case (why_nots 3 2 fr 3 4 rows_e) (0 ∷ 0 ∷ 0 ∷ 4 ∷ 0 ∷ 6 ∷ [])
    ∷ case (why_nots 3 2 fr 3 5 rows_e) (0 ∷ 0 ∷ 0 ∷ 4 ∷ 0 ∷ 7 ∷ [])
    ∷ case (why_nots 3 2 fr 3 6 rows_e) (0 ∷ 0 ∷ 0 ∷ 3 ∷ 2 ∷ 0 ∷ [])
    ∷ case (why_nots 3 2 fr 3 7 rows_e) (0 ∷ 0 ∷ 0 ∷ 4 ∷ 0 ∷ 3 ∷ [])
    ∷ case (why_nots 3 2 fr 1 6 rows_e) (0 ∷ 0 ∷ 0 ∷ 2 ∷ 0 ∷ 0 ∷ [])
    ∷ case (why_nots 3 2 fr 1 4 rows_e) (0 ∷ 0 ∷ 0 ∷ 3 ∷ 3 ∷ 0 ∷ [])
    ∷ case (why_nots 3 2 fr 3 4 rows_g) (0 ∷ 0 ∷ 0 ∷ 4 ∷ 0 ∷ 3 ∷ [])
    ∷ case (why_nots 3 2 fr 3 7 rows_g) (0 ∷ 0 ∷ 0 ∷ 4 ∷ 0 ∷ 5 ∷ [])
    ∷ case (why_nots 3 2 fr 3 8 rows_e) (3 ∷ 0 ∷ 0 ∷ 0 ∷ 0 ∷ 0 ∷ [])
    ∷ case (why_nots 3 2 fr 0 0 rows_e) (3 ∷ 0 ∷ 0 ∷ 0 ∷ 0 ∷ 0 ∷ [])
    ∷ case (why_nots 2 1 fr 2 0 rows_h) (7 ∷ 0 ∷ 1 ∷ 0 ∷ 0 ∷ 0 ∷ [])
    ∷ case (row_values 3 3 fr 1 rows_e) (11 ∷ 2 ∷ 0 ∷ 0 ∷ [])
    ∷ case (row_methods 3 3 fd 3 rows_e) (11 ∷ 2 ∷ 0 ∷ 0 ∷ 0 ∷ 0 ∷ [])
    ∷ case (fills 3 3 fr rows_e) (11 ∷ 2 ∷ 0 ∷ [])
    ∷ case (why_nots 3 3 fr 3 0 rows_e) (11 ∷ 2 ∷ 0 ∷ 0 ∷ 0 ∷ 0 ∷ [])
    ∷ case (row_methods 1 3 fr 1 rows_u) (11 ∷ 0 ∷ 0 ∷ 0 ∷ 0 ∷ 0 ∷ [])
    ∷ case (table_values 2 2 fr 3 table_a) (0 ∷ 0 ∷ 0 ∷ 4 ∷ [])
    ∷ case (joinings 3 1 rows_i) (0 ∷ 0 ∷ 0 ∷ 1 ∷ 4 ∷ 0 ∷ 1 ∷ 0 ∷ 0 ∷ 0 ∷ 0 ∷ 0 ∷ 0 ∷ [])
    ∷ case (joinings 2 1 rows_k) (0 ∷ 0 ∷ 0 ∷ 2 ∷ 2 ∷ 0 ∷ 1 ∷ 3 ∷ 3 ∷ 1 ∷ 0 ∷ 0 ∷ 0 ∷ [])
    ∷ case (joinings 2 1 rows_l) (0 ∷ 0 ∷ 0 ∷ 2 ∷ 1 ∷ 1 ∷ 1 ∷ 3 ∷ 0 ∷ 1 ∷ 0 ∷ 0 ∷ 0 ∷ [])
    ∷ case (joinings 1 1 rows_z) (0 ∷ 0 ∷ 0 ∷ 1 ∷ 0 ∷ 0 ∷ 0 ∷ 0 ∷ 0 ∷ 0 ∷ [])
    ∷ case (joinings 3 2 rows_e) (0 ∷ 0 ∷ 0 ∷ 4 ∷ 6 ∷ 0 ∷ 1 ∷ 6 ∷ 6 ∷ 1 ∷ 6 ∷ 2 ∷ 2 ∷ 6 ∷ 4 ∷ 2 ∷ [])
    ∷ case (joinings 1 9 rows_d) (0 ∷ 0 ∷ 0 ∷ 2 ∷ 1 ∷ 0 ∷ 255 ∷ 1 ∷ 1 ∷ 511 ∷ [])
    ∷ case (joinings 1 3 rows_u) (0 ∷ 0 ∷ 0 ∷ 2 ∷ 1 ∷ 0 ∷ 2 ∷ 1 ∷ 1 ∷ 0 ∷ [])
    ∷ case (joinings 17 16 rows_h) (1 ∷ 0 ∷ 0 ∷ 0 ∷ [])
    ∷ case (joinings 2 16 rows_h) (2 ∷ 0 ∷ 0 ∷ 0 ∷ [])
    ∷ case (joinings 2 1 []) (4 ∷ 0 ∷ 0 ∷ 0 ∷ [])
    ∷ case (joinings 1 1 rows_k) (6 ∷ 0 ∷ 0 ∷ 0 ∷ [])
    ∷ case (joinings 2 1 rows_h) (7 ∷ 0 ∷ 1 ∷ 0 ∷ [])
    ∷ case (disjoinings 2 2 128 rows_o) (0 ∷ 0 ∷ 0 ∷ 3 ∷ 3 ∷ 0 ∷ 3 ∷ 3 ∷ 1 ∷ 1 ∷ 3 ∷ 2 ∷ 2 ∷ [])
    ∷ case (disjoinings 1 2 128 rows_n) (0 ∷ 0 ∷ 0 ∷ 2 ∷ 1 ∷ 0 ∷ 1 ∷ 1 ∷ 1 ∷ 3 ∷ [])
    ∷ case (disjoinings 1 2 130 rows_t) (0 ∷ 0 ∷ 0 ∷ 1 ∷ 1 ∷ 0 ∷ 3 ∷ [])
    ∷ case (disjoinings 2 1 128 rows_h) (0 ∷ 0 ∷ 0 ∷ 3 ∷ 3 ∷ 0 ∷ 0 ∷ 3 ∷ 1 ∷ 0 ∷ 3 ∷ 2 ∷ 0 ∷ [])
    ∷ case (disjoinings 2 2 128 rows_m) (0 ∷ 0 ∷ 0 ∷ 2 ∷ 3 ∷ 0 ∷ 1 ∷ 3 ∷ 3 ∷ 2 ∷ [])
    ∷ case (disjoinings 3 9 128 rows_d) (0 ∷ 0 ∷ 0 ∷ 2 ∷ 1 ∷ 0 ∷ 255 ∷ 1 ∷ 1 ∷ 511 ∷ [])
    ∷ case (disjoinings 17 16 127 rows_o) (1 ∷ 0 ∷ 0 ∷ 0 ∷ [])
    ∷ case (disjoinings 2 16 127 rows_o) (2 ∷ 0 ∷ 0 ∷ 0 ∷ [])
    ∷ case (disjoinings 2 2 127 []) (4 ∷ 0 ∷ 0 ∷ 0 ∷ [])
    ∷ case (disjoinings 1 1 127 rows_k) (5 ∷ 0 ∷ 0 ∷ 0 ∷ [])
    ∷ case (disjoinings 2 1 128 rows_o) (6 ∷ 0 ∷ 1 ∷ 0 ∷ [])
    ∷ []

-- the test of a table of cases, which antt computes
right : List Case → Bool
right [] = true
right (c ∷ cs) = equal (ask c.question) c.says && right cs

-- each question has the answer that stands beside it
abbrev pub Right : List Case → Type 0
Right [] = Unit {0}
Right (c ∷ cs) = (ask c.question ≡ c.says) × Right cs

right-all : (cs : List Case) → T (right cs) → Right cs
unfolding right
right-all [] h = tt
right-all (c ∷ cs) h = (
  equal-same (ask c.question) c.says (and_left (equal (ask c.question) c.says) (right cs) h),
  right-all cs (and_right (equal (ask c.question) c.says) (right cs) h),
)

pub cases : Right table
unfolding
    ask flat table right table_a rows_c rows_d rows_e rows_f rows_g rows_h rows_m rows_u rows_i rows_k rows_l rows_z rows_o rows_n rows_t table_m ones ones_in parity tab first sum count of_rows same shift measure
    span candidate before better best next chosen columns apply inverse basis_of sigma_of smaller_of highest partner exchange rest shear
    reached split_row split_rows moved verdict bad_row share second sharing driven undriven dependent table_value_verdict table_value table_method_verdict
    table_method smaller_table restore_verdict restored row_value_verdict row_value rows_after passing method_checks row_method_verdict
    row_method smaller_list fill_verdict filled equal symmetric_table gray_column gray_table is_symmetric symmetric_verdict symmetric_block
    table_symmetric_verdict table_symmetric reason reason_of why_verdict why_not joins mate joining without join_at join_next join_up_to joined join_verdict
    join joined_room ors lies_inside met crossed met_word undecided greatest cut pieces free_inputs region_rows disjoined disjoin_checked disjoin_verdict disjoin
cases = right-all table tt
