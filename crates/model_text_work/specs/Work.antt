-- What the work of a text for a model comes to (02, Ticket 4): the reader's refusal, or the model of the rows that the text says, of the
-- type that it has, with weight limit 3, or n where n is below 3. At most 8,192 bytes are looked at. Assumes nothing.
use Rattle.std.specs.Prelude.{List, ℕ, min, take}
use Rattle.block.specs.Limits.{model_room, given_rows, read_bytes}
use Rattle.block.specs.Words.{missing}
use Rattle.block.specs.Refusals.{and_then}
use Rattle.block.specs.Text.{read_verdict, type_in, inputs_in, outputs_in, rows_in}
use Rattle.block.specs.Model.{model_text, model_verdict}
use Rattle.block.specs.declared.Answer.{Answer}

-- the reader's refusal, or else the verdict of writing
unfoldable pub model_in_verdict : List ℕ → Answer
model_in_verdict input =
    let text : List ℕ = take read_bytes input in
    let n : ℕ = inputs_in text in
    and_then (read_verdict text given_rows) (model_verdict n (outputs_in text) (type_in text) (min 3 n) (rows_in text) model_room)

-- the model of the rows
unfoldable pub model_in : List ℕ → List ℕ
model_in input =
    let text : List ℕ = take read_bytes input in
    let n : ℕ = inputs_in text in
    model_text (missing (type_in text)) n (outputs_in text) (min 3 n) (rows_in text)
