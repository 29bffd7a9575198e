-- `put_chains::emit_front` meets its contract. The loop's invariant: the covers of the first i rows are put. Assumes nothing.
use Rattle.std.proofs.Common.{◌+◌, ◌*◌, ◌≤◌, get_or}
use Rattle.block.specs.Model.{front_covers}
use Rattle.put_names.specs.Fitting.{Fitted}
use Rattle.put_chains.specs.Texts.{cover_text}
use Rattle.put_chains.proofs.emit_front.Given as goal

abbrev pub invariant-loop-i : goal.invariant-loop-i
invariant-loop-i l = (l.to ≤ l.at + l.i * 4000) × Fitted l.initial.out l.at (cover_text (front_covers l.n (λ j. get_or l.sigma j 0) l.i)) l.out l.to
