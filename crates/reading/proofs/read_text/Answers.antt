-- `reading::read_text` meets its contract: the answer by place, and the slices after it, are the meaning's by the laws of the crate read_laws.
-- Assumes nothing.
use mathlib.Core.Path.{◌≡◌, ap, ◌∙◌}
use native.Mathlib.Omega.{arith}
use Rattle.block.specs.Words.{mask_part, values_part, word_part}
use Rattle.block.specs.Text.{read_text, numbers}
use Rattle.read_laws.specs.Answers.{numbers-read, after_read}
use Rattle.promises.specs.Lent.{shortest}
use Rattle.reading.proofs.read_text.Goals as goal

pub read_from-requires : goal.read_from-requires
read_from-requires c = omega arith

pub returns : goal.returns
returns c =
    let a = c.args in
    let r = c.read_from.ensures in
    let e : c.least_room-room.result ≡ shortest a.masks.now a.values.now a.words.now = omega arith in
    record {
      answer = ap numbers r.value ∙ numbers-read a.text.now _ ∙ ap (read_text a.text.now) e;
      rows =
          record {
            masks = rw (← e) (r.masks_after ∙ after_read a.text.now _ mask_part a.masks.now);
            values = rw (← e) (r.values_after ∙ after_read a.text.now _ values_part a.values.now);
            words = rw (← e) (r.words_after ∙ after_read a.text.now _ word_part a.words.now);
          };
    }
