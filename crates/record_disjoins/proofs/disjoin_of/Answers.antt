-- `record_disjoins::disjoin_of` meets its contract: no more than 513 places are looked at, and the room counts only up to 128. Assumes nothing.
use Rattle.record_copies.specs.Flat.{listed}
use Rattle.record_disjoins.specs.Disjoined.{disjoin-whole}
use Rattle.record_disjoins.proofs.disjoin_of.Goals as goal

pub returns : goal.returns
returns c =
    let arg = c.args in
    let done = c.disjoin_into in
    let places = c.fits-places in
    disjoin-whole arg.n arg.k (listed arg.flat arg.m) done.result.answer arg.room places.result done.result.flat
    done.result.count places.ensures done.ensures
