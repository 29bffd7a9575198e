-- `put_bytes::places` meets its contract: a number has one digit more than the power of ten that it reaches. Assumes nothing.
use Rattle.put_bytes.specs.Digits.{decimal-power}
use Rattle.put_bytes.proofs.places.Goals as goal

pub returns : goal.returns
returns c =
    let p = c.ilog10 in
    decimal-power c.args.v _ p.result c.max.ensures p.ensures.bound p.ensures.power_le p.ensures.next_power_gt
