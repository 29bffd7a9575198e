-- `put_text::put_text` meets its contract: the headings, the rows and the last line, one after the other, are the text. Assumes nothing.
use native.Mathlib.Omega.{arith}
use lib.ListN.{length-append}
use Rattle.put_bytes.specs.Puts.{then}
use Rattle.put_text.specs.Parts.{text-parts}
use Rattle.put_text.proofs.put_text.Goals as goal

pub put_headings-a-requires : goal.put_headings-a-requires
put_headings-a-requires c =
    let a = c.args in
    let parts = text-parts a.n a.k a.block_type a.type_line a.masks.now a.values.now a.words.now c.requires.values_len.0 c.requires.values_len.1 in
    let room = simp length-append at (rw parts at c.requires.words_in_bounds) in
    simp length-append (omega arith)

pub put_rows-b-requires : goal.put_rows-b-requires
put_rows-b-requires c =
    let a = c.args in
    let parts = text-parts a.n a.k a.block_type a.type_line a.masks.now a.values.now a.words.now c.requires.values_len.0 c.requires.values_len.1 in
    let room = simp length-append at (rw parts at c.requires.words_in_bounds) in
    let placed = simp length-append at c.put_headings-a.ensures.place in
    omega arith

pub put_bytes-requires : goal.put_bytes-requires
put_bytes-requires c =
    let a = c.args in
    let parts = text-parts a.n a.k a.block_type a.type_line a.masks.now a.values.now a.words.now c.requires.values_len.0 c.requires.values_len.1 in
    let room = simp length-append at (rw parts at c.requires.words_in_bounds) in
    let placed = simp length-append at c.put_headings-a.ensures.place in
    omega (arith, c.put_rows-b.ensures.place)

pub returns : goal.returns
returns c =
    let a = c.args in
    rw (text-parts a.n a.k a.block_type a.type_line a.masks.now a.values.now a.words.now c.requires.values_len.0 c.requires.values_len.1)
    (then (then c.put_headings-a.ensures c.put_rows-b.ensures) c.put_bytes.ensures)
