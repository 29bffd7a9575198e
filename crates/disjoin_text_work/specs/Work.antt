-- What the work of a text comes to where its list is made disjoint (02, Ticket 10): the reader's refusal, that of a type, or that of disjoining, or
-- the disjoint list as row text, of type fd and with its type line. At most 8,192 bytes are looked at. Assumes nothing.
use Rattle.std.specs.Prelude.{List, ℕ, take}
use Rattle.block.specs.Limits.{given_rows, read_bytes}
use Rattle.block.specs.Words.{fd}
use Rattle.block.specs.Refusals.{and_then}
use Rattle.block.specs.Text.{text_of, read_verdict, type_in, inputs_in, outputs_in, rows_in}
use Rattle.block.specs.Overlaps.{disjoined, disjoin_typed_verdict}
use Rattle.block.specs.declared.Answer.{Answer}

-- the reader's refusal, or else the verdict of disjoining a list of the text's type
unfoldable pub disjoin_in_verdict : List ℕ → Answer
disjoin_in_verdict input =
    let text : List ℕ = take read_bytes input in
    and_then (read_verdict text given_rows) (disjoin_typed_verdict (inputs_in text) (outputs_in text) (type_in text) (rows_in text))

-- the text of the disjoint list
unfoldable pub disjoin_in : List ℕ → List ℕ
disjoin_in input =
    let text : List ℕ = take read_bytes input in
    text_of (inputs_in text) (outputs_in text) fd 1 (disjoined (inputs_in text) (rows_in text))
