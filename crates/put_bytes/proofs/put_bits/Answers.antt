-- `put_bytes::put_bits` meets its contract: the bits of a number are its last digits in base 2. Assumes nothing.
use mathlib.Core.Path.{ap}
use native.Mathlib.Omega.{arith}
use lib.ListN.{length}
use Rattle.put_bytes.specs.Digits.{bits-last}
use Rattle.put_bytes.proofs.put_bits.Goals as goal

pub put_digits-requires : goal.put_digits-requires
put_digits-requires c =
    let a = c.args in
    omega (arith, ap length (bits-last a.n a.v))

pub returns : goal.returns
returns c =
    let a = c.args in
    rw (bits-last a.n a.v) c.put_digits.ensures
