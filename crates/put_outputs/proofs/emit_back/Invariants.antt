-- `put_outputs::emit_back` meets its contract. The loop's invariant: the covers of the first j outputs are put, and power is 2^j. Assumes
-- nothing.
use Rattle.std.proofs.Common.{◌≡◌, ◌+◌, ◌*◌, ◌^◌, ◌≤◌}
use Rattle.slices.specs.Places.{tab}
use Rattle.block.specs.Model.{back_covers, patterns_of}
use Rattle.flat_rows.specs.Listing.{rows_from}
use Rattle.put_names.specs.Fitting.{Fitted}
use Rattle.put_chains.specs.Texts.{cover_text}
use Rattle.put_outputs.proofs.emit_back.Given as goal

abbrev pub invariant-loop-j : goal.invariant-loop-j
invariant-loop-j l = (l.power ≡ 2 ^ l.j) × (l.to ≤ l.at + l.j * 60000)
    × Fitted l.initial.out l.at (cover_text (back_covers l.n 0 (tab l.j (λ i. patterns_of i (rows_from l.p l.masks l.values l.words))))) l.out l.to
