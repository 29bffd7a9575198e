-- `put_bytes::put_decimal` meets its contract: a number in decimal is its last digits in base 10, as many as it has. Assumes nothing.
use mathlib.Core.Path.{ap}
use native.Mathlib.Omega.{arith}
use lib.ListN.{length}
use Rattle.put_bytes.specs.Digits.{decimal-last}
use Rattle.put_bytes.proofs.put_decimal.Goals as goal

pub put_digits-requires : goal.put_digits-requires
put_digits-requires c =
    let a = c.args in
    omega (arith, ap length (decimal-last a.v _ c.places-count.ensures))

pub returns : goal.returns
returns c =
    let a = c.args in
    rw (decimal-last a.v _ c.places-count.ensures) c.put_digits.ensures
