use mathlib.Core.Path.{sym, ◌∙◌}
use native.Mathlib.Omega.{arith}
use lib.ListN.{length}
use Rattle.flat_rows.specs.Listing.{first-bad}
use Rattle.flat_rows.proofs.first_bad_row.Goals as goal

pub returns-then-is_bad_row : goal.returns-then-is_bad_row
returns-then-is_bad_row c =
    let a = c.args in
    first-bad a.masks.now a.values.now a.words.now a.n a.k c.loop-i.i c.requires.values_len.0 c.requires.values_len.1 (omega arith) c.loop-i.invariant
    (λ h. sym c.is_bad_row.ensures ∙ c.if-is_bad_row.true)

pub returns : goal.returns
returns c =
    let a = c.args in
    first-bad a.masks.now a.values.now a.words.now a.n a.k (length a.masks.now) c.requires.values_len.0 c.requires.values_len.1 (omega arith)
    (λ j h. c.loop-i.invariant j (omega arith)) (λ h. absurd (omega arith))
