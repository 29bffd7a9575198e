-- `record_method::method_of` meets its contract: no more than 513 places are looked at, and the room counts only up to 512. Assumes nothing.
use Rattle.record_copies.specs.Flat.{listed}
use Rattle.record_method.specs.Method.{method-whole}
use Rattle.record_method.proofs.method_of.Goals as goal

pub returns : goal.returns
returns c =
    let arg = c.args in
    let done = c.method_into in
    let places = c.fits-places in
    method-whole arg.n arg.k arg.block_type arg.w (listed arg.flat arg.m) arg.basis.now arg.sigma.now done.result.answer _ _ arg.room
    places.result done.result.flat done.result.count places.ensures done.ensures
