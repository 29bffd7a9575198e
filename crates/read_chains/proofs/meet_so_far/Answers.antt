-- `read_chains::meet_so_far` meets its contract: the word and the name are met one after the other. Assumes nothing.
use mathlib.Core.List.{[]}
use native.Mathlib.Omega.{arith}
use Rattle.block.specs.Model.{part_name}
use Rattle.read_names.specs.Met.{met-and}
use Rattle.read_chains.specs.Chains.{opening}
use Rattle.read_chains.proofs.meet_so_far.Goals as goal

pub returns : goal.returns
returns c =
    let a = c.args in
    met-and a.text.now (omega arith) a.at (opening []) (part_name a.i a.p) c.meet_bytes-word.ensures c.meet_part.ensures
