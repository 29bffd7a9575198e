-- Numbers that come back (01, the section of that name): a refusal is the first check that holds, in the order of the numbers; the
-- conditions that several operations share; what lent storage holds at the end. Each operation's list of checks stands with its
-- answer, in `Tables`, `Lists`, `Text` and `Sheet`. Assumes nothing.
use Rattle.std.specs.Prelude.{Bool, false, not, cond, ◌&&◌, ◌||◌, List, [], ◌∷◌, ℕ, ◌^◌, eqb, ltb, length, get_or}
use Rattle.std.specs.Int.Bits.{bit_and}
use Rattle.bits.specs.Digits.{bit}
use Rattle.slices.specs.Places.{at, first, over}
use Rattle.block.specs.Limits.{outputs}
use Rattle.block.specs.Words.{fr, fd, row, under}
use Rattle.block.specs.Basis.{span}
use Rattle.block.specs.declared.Row.{Row}
use Rattle.block.specs.declared.Answer.{Answer}

-- one check: where `holds`, the answer is the number with its two places
pub record Check : Type 0 where
  pub holds : Bool
  pub number : ℕ
  pub a : ℕ
  pub b : ℕ

abbrev pub check : Bool → ℕ → ℕ → ℕ → Check
check p number a b = record { holds = p; number = number; a = a; b = b }

abbrev pub answer : ℕ → ℕ → ℕ → Answer
answer number a b = record { number = number; a = a; b = b }

-- the first check that holds; 0 where none does
unfoldable pub verdict : List Check → Answer
verdict [] = answer 0 0 0
verdict (c ∷ cs) = cond c.holds (answer c.number c.a c.b) (verdict cs)

-- the number is 0
abbrev pub answered : Answer → Bool
answered v = eqb v.number 0

-- an answer after an earlier one: a refusal stays, and after 0 the next counts
abbrev pub and_then : Answer → Answer → Answer
and_then v u = cond (answered v) u v

-- a value, measure or count that goes with an answer: 0 with a refusal
abbrev pub carried : Answer → ℕ → ℕ
carried v x = cond (answered v) x 0

-- lent storage that held l, after an answer with the result s: on 0 s lies at its front, on a refusal it holds what it held
abbrev pub stored {ℓ} : {A : Type ℓ} → Answer → List A → List A → List A
stored v s l = cond (answered v) (over s l) l

-- x lies outside lo to hi
abbrev pub outside : ℕ → ℕ → ℕ → Bool
outside lo hi x = ltb x lo || ltb hi x

-- the two checks of sizes: n from 1 to most, k from 1 to 15
abbrev pub size_checks : ℕ → ℕ → ℕ → List Check → List Check
size_checks most n k cs = check (outside 1 most n) 1 0 0 ∷ check (outside 1 outputs k) 2 0 0 ∷ cs

-- the checks that every operation but reading begins with: the sizes, and the type (02, Ticket 2: "another type number .. is 3")
abbrev pub typed_checks : ℕ → ℕ → ℕ → ℕ → List Check → List Check
typed_checks most n k y cs = size_checks most n k (check (outside fr fd y) 3 0 0 ∷ cs)

-- some number below m passes
abbrev pub some : ℕ → (ℕ → Bool) → Bool
some m p = ltb (first m p) m

-- 6: a table entry that is neither below 2^k nor m, the word of a missing point (02, Ticket 2: under fd "65,535 is malformed in a table")
abbrev pub bad_entry : ℕ → ℕ → ℕ → Bool
bad_entry m k x = not (ltb x (2 ^ k)) && not (eqb x m)

-- 6: a matrix row that is not below 2^n
abbrev pub bad_number : ℕ → ℕ → Bool
bad_number n x = not (ltb x (2 ^ n))

-- 6: a row with mask or values not below 2^n, a word not below 2^k, or a value outside the mask
unfoldable pub bad_row : ℕ → ℕ → Row → Bool
bad_row n k r =
    not (ltb r.mask (2 ^ n)) || (not (ltb r.values (2 ^ n)) || (not (ltb r.word (2 ^ k))
    || not (eqb (bit_and r.mask r.values) r.values)))

-- 6 in a list of numbers: A says where it was met, B is the least such index
abbrev pub malformed : ℕ → (ℕ → Bool) → List ℕ → Check
malformed a bad l = check (some (length l) (λ i. bad (at l i))) 6 a (first (length l) (λ i. bad (at l i)))

-- row i of a list
abbrev pub row_at : List Row → ℕ → Row
row_at rs i = get_or rs i (row 0 0 0)

-- 7: some point lies under both rows
unfoldable pub share : ℕ → Row → Row → Bool
share n r s = some (2 ^ n) (λ x. under r x && under s x)

-- 7: the least later row that shares a point with row i; the number of rows where there is none
unfoldable pub second : ℕ → List Row → ℕ → ℕ
second n rs i = first (length rs) (λ j. ltb i j && share n (row_at rs i) (row_at rs j))

-- 7: the least row that shares a point with a later one; the number of rows where there is none
unfoldable pub sharing : ℕ → List Row → ℕ
sharing n rs = first (length rs) (λ i. ltb (second n rs i) (length rs))

-- 11: some word of a list's has a 1 in column j, so that output bit j is driven (02, Ticket 8)
unfoldable pub driven : List ℕ → ℕ → Bool
driven [] j = false
driven (w ∷ ws) j = eqb (bit w j) 1 || driven ws j

-- 11: the least column "that is 0 in every row", "the lowest such output bit"; k where there is none
unfoldable pub undriven : ℕ → List ℕ → ℕ
undriven k ws = first k (λ j. not (driven ws j))

-- 8: the least matrix row that is the XOR of some set of earlier rows; n where there is none
unfoldable pub dependent : ℕ → (ℕ → ℕ) → ℕ
dependent n s = first n (λ j. span s j (s j))
