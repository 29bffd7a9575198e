-- Symmetric blocks and Gray decoding (02, Ticket 6; document 002): the block of n + 1 words, its smaller block by the Gray columns, what it
-- is for a table to be symmetric, and the two operations. Not here: laws. Assumes nothing.
use Rattle.std.specs.Prelude.{◌≡◌, Bool, not, ◌||◌, List, [], ◌∷◌, ℕ, zero, suc, ◌+◌, ◌-◌, ◌*◌, ◌/◌, ◌^◌, ◌<◌, eqb, ltb, length, get_or}
use Rattle.std.specs.Int.Bits.{bit_xor}
use Rattle.std.specs.Int.Count.{ones}
use Rattle.sums.specs.Sums.{one}
use Rattle.slices.specs.Places.{tab, first}
use Rattle.block.specs.Limits.{table_inputs}
use Rattle.block.specs.Words.{none, missing, of_table}
use Rattle.block.specs.Measure.{measure}
use Rattle.block.specs.Basis.{smaller}
use Rattle.block.specs.Refusals.{check, verdict, typed_checks, bad_entry, malformed}
use Rattle.block.specs.Tables.{with_value, with_measures}
use Rattle.block.specs.declared.Answer.{Answer}
use Rattle.block.specs.declared.ValueAnswer.{ValueAnswer}
use Rattle.block.specs.declared.TableMethodAnswer.{TableMethodAnswer}

-- ---- the block of n + 1 words and its smaller block

-- "n+1 words, one per count": the word at x is that of how many inputs are 1 in x
abbrev pub of_counts : List ℕ → ℕ → ℕ
of_counts words x = get_or words (ones x) none

-- its table
unfoldable pub symmetric_table : List ℕ → ℕ → List ℕ
symmetric_table words n = tab (2 ^ n) (of_counts words)

-- "the fixed columns of document 002: 1, 3, 6, 12, 24 and so on"
unfoldable pub gray_column : ℕ → ℕ
gray_column zero = 1
gray_column (suc j) = 3 * 2 ^ j

-- the smaller table: at z the word at T z, where T has these columns
unfoldable pub gray_table : List ℕ → ℕ → List ℕ
gray_table words n = tab (2 ^ n) (smaller (of_counts words) gray_column n)

-- T z, as a law says: z XOR z shifted down by one
abbrev pub gray_code : ℕ → ℕ
gray_code z = bit_xor z (z / 2)

-- row j of sigma, the inverse of T, as a law says: the inputs from j up
abbrev pub gray_row : ℕ → ℕ → ℕ
gray_row n j = 2 ^ n - 2 ^ j

-- ---- symmetric tables

-- a block with n inputs is symmetric: its words "depend only on how many inputs are 1"
abbrev pub Symmetric : (ℕ → ℕ) → ℕ → Type 0
Symmetric f n = (x y : ℕ) → x < 2 ^ n → y < 2 ^ n → ones x ≡ ones y → f x ≡ f y

-- the least number with c one-bits
abbrev pub least_of : ℕ → ℕ
least_of c = 2 ^ c - 1

-- the entry at x is the one at the least number with as many one-bits; no output is compared like a word
abbrev pub alike : List ℕ → ℕ → Bool
alike table x = eqb (of_table table x) (of_table table (least_of (ones x)))

-- "whether a given table is symmetric", as a test: no entry is unlike that one
unfoldable pub is_symmetric : List ℕ → ℕ → Bool
is_symmetric table n = eqb (first (2 ^ n) (λ x. not (alike table x))) (2 ^ n)

-- the words of a symmetric block, one for each count
unfoldable pub count_words : (ℕ → ℕ) → ℕ → List ℕ
count_words f n = tab (n + 1) (λ c. f (least_of c))

-- ---- the symmetric block of these words, of type y: 1, 2, 3 (y), 4 ("a count of words other than n+1 is 4"), 5, 6; roomTable and
-- roomSmaller are the lengths of the lent storage

unfoldable pub symmetric_verdict : ℕ → ℕ → ℕ → List ℕ → ℕ → ℕ → Answer
symmetric_verdict n k y words roomTable roomSmaller =
    verdict (typed_checks table_inputs n k y (
    check (not (eqb (length words) (n + 1))) 4 0 0
    ∷ check (ltb roomTable (2 ^ n) || ltb roomSmaller (2 ^ n)) 5 0 0
    ∷ malformed 0 (bad_entry (missing y) k) words
    ∷ []))

-- "both measures"
unfoldable pub symmetric_block : ℕ → ℕ → ℕ → List ℕ → ℕ → ℕ → TableMethodAnswer
symmetric_block n k y words roomTable roomSmaller =
    with_measures (symmetric_verdict n k y words roomTable roomSmaller)
    (measure (of_counts words) n) (measure (smaller (of_counts words) gray_column n) n)

-- ---- whether a table of type y is symmetric, 1 or 0: 1, 2, 3 (y), 4, 6

unfoldable pub table_symmetric_verdict : ℕ → ℕ → ℕ → List ℕ → Answer
table_symmetric_verdict n k y table =
    verdict (typed_checks table_inputs n k y (
    check (not (eqb (length table) (2 ^ n))) 4 0 0
    ∷ malformed 0 (bad_entry (missing y) k) table
    ∷ []))

unfoldable pub table_symmetric : ℕ → ℕ → ℕ → List ℕ → ValueAnswer
table_symmetric n k y table = with_value (table_symmetric_verdict n k y table) (one (is_symmetric table n))
