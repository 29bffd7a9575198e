-- What a sheet says (01, The sheet): the sizes, the two measures, T, sigma and the rows, read off its lines by their places. Not here: that
-- a sheet says what was written on it, which is a law. Assumes nothing.
use Rattle.std.specs.Prelude.{List, ℕ, ◌+◌, ◌-◌, eqb, length, take, drop}
use Rattle.slices.specs.Places.{tab}
use Rattle.sums.specs.Sums.{one}
use Rattle.block.specs.Text.{lines, line_in, spelled, value_of, rows_on}
use Rattle.block.specs.Sheet.{table_name}
use Rattle.block.specs.declared.Row.{Row}

pub record Said : Type 0 where
  pub inputs : ℕ
  pub outputs : ℕ
  pub weight : ℕ
  pub earlier : ℕ
  pub later : ℕ
  pub basis : List ℕ
  pub sigma : List ℕ
  pub rows : List Row

-- ---- what a line says

-- a line without its LF
abbrev pub unended : List ℕ → List ℕ
unended l = take (length l - 1) l

-- the number on a line of digits
abbrev pub number_on : List ℕ → ℕ
number_on l = value_of (unended l)

-- the count on a section's first line, behind its name and a space
abbrev pub count_on : List ℕ → List ℕ → ℕ
count_on name l = number_on (drop (length name + 1) l)

-- the number on a line of bits, highest first
abbrev pub bits_on : List ℕ → ℕ
bits_on l = spelled 2 (λ b. one (eqb b 49)) 0 (unended l)

-- the columns or rows of a matrix, on the first n of some lines
unfoldable pub matrix_on : ℕ → List (List ℕ) → List ℕ
matrix_on n ls = tab n (λ i. bits_on (line_in ls i))

-- ---- what the sheet says

-- lines 0, 1, 5 and 8 begin the form number and the sections size, measure and basis; sigma follows n lines later, and table again n
unfoldable pub said : List ℕ → Said
said sheet =
    let ls : List (List ℕ) = lines sheet in
    let n : ℕ = number_on (line_in ls 2) in
    let k : ℕ = number_on (line_in ls 3) in
    record {
      inputs = n;
      outputs = k;
      weight = number_on (line_in ls 4);
      earlier = number_on (line_in ls 6);
      later = number_on (line_in ls 7);
      basis = matrix_on n (drop 9 ls);
      sigma = matrix_on n (drop (10 + n) ls);
      rows = rows_on n k (count_on table_name (line_in ls (10 + n + n))) (drop (11 + n + n) ls);
    }
