-- What the work of a text comes to where its rows are joined (02, Ticket 9): the reader's refusal or that of joining, or the joined rows as row
-- text, of the type that the text has and with its type line where that stands. At most 8,192 bytes are looked at. Assumes nothing.
use Rattle.std.specs.Prelude.{List, ℕ, take}
use Rattle.block.specs.Limits.{given_rows, read_bytes}
use Rattle.block.specs.Refusals.{and_then}
use Rattle.block.specs.Text.{text_of, read_verdict, type_line_in, type_in, inputs_in, outputs_in, rows_in}
use Rattle.block.specs.Joins.{joined, join_verdict}
use Rattle.block.specs.declared.Answer.{Answer}

-- the reader's refusal, or else the verdict of joining
unfoldable pub join_in_verdict : List ℕ → Answer
join_in_verdict input =
    let text : List ℕ = take read_bytes input in
    and_then (read_verdict text given_rows) (join_verdict (inputs_in text) (outputs_in text) (rows_in text))

-- the text of the joined rows
unfoldable pub join_in : List ℕ → List ℕ
join_in input =
    let text : List ℕ = take read_bytes input in
    text_of (inputs_in text) (outputs_in text) (type_in text) (type_line_in text) (joined (rows_in text))
