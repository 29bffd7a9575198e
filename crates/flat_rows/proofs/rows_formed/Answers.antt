-- `flat_rows::rows_formed` meets its contract: one check, by the least malformed row. Assumes nothing.
use mathlib.Core.List.{[]}
use mathlib.Core.Path.{sym, ap₂, ◌∙◌}
use mathlib.Core.List.{◌∷◌}
use Prim.Native.Nat.{ℕ}
use lib.Dec.{ltb}
use Rattle.block.specs.Refusals.{check, verdict}
use Rattle.flat_rows.specs.Listing.{rows-count}
use Rattle.flat_rows.proofs.rows_formed.Goals as goal

pub returns : goal.returns
returns c =
    let l = c.requires.2 in
    let count = rows-count c.args.masks.now c.args.values.now c.args.words.now l.values-too l.words-too in
    c.refuse_where.ensures
    ∙ ap₂ (λ (i m : ℕ). verdict (check (ltb i m) 6 0 i ∷ [])) c.first_bad_row-bad.ensures (sym count)
