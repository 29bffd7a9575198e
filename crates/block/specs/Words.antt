-- Points, rows, tables and words (01, Words and numbers). A block is a function from points to words. Not here: laws.
-- Assumes nothing.
use Rattle.std.specs.Prelude.{Bool, cond, ◌&&◌, List, [], ◌∷◌, ℕ, eqb, length, get_or}
use Rattle.std.specs.Int.Bits.{bit_and}
use Rattle.slices.specs.Places.{at, tab}
use Rattle.block.specs.declared.Row.{Row}

-- no output
abbrev pub none : ℕ
none = 65535

-- the types of a block, by number (02, Ticket 2, gives them by name); 0 is neither
abbrev pub fr : ℕ
fr = 1

abbrev pub fd : ℕ
fd = 2

-- what a type makes of a missing point, one under no row (02, Ticket 2: type fd "reads such a point as word 0; only type fr leaves it
-- open"): no output for fr, word 0 for fd
abbrev pub missing : ℕ → ℕ
missing y = cond (eqb y fr) none 0

-- a full table as a block, of either type: entry x is the word at x; outside its entries a table has no output
abbrev pub of_table : List ℕ → ℕ → ℕ
of_table table x = get_or table x none

-- the point x lies under the row: at each fixed input x has the row's value
abbrev pub under : Row → ℕ → Bool
under r x = eqb (bit_and r.mask x) r.values

-- a list of rows as a block: the word at x is that of the first row that x lies under, or m where it lies under none
unfoldable pub of_rows : ℕ → List Row → ℕ → ℕ
of_rows m [] x = m
of_rows m (r ∷ rs) x = cond (under r x) r.word (of_rows m rs x)

abbrev pub row : ℕ → ℕ → ℕ → Row
row m v w = record { mask = m; values = v; word = w }

-- the parts of a row
abbrev pub mask_part : Row → ℕ
mask_part r = r.mask

abbrev pub values_part : Row → ℕ
values_part r = r.values

abbrev pub word_part : Row → ℕ
word_part r = r.word

-- the list whose rows lie in three flat slices; slices of unequal length are no list
unfoldable pub rows_of : List ℕ → List ℕ → List ℕ → List Row
rows_of masks values words =
    cond (eqb (length values) (length masks) && eqb (length words) (length masks))
    (tab (length masks) (λ i. row (at masks i) (at values i) (at words i))) []
