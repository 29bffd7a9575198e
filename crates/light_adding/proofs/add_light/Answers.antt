-- `light_adding::add_light` meets its contract: a value with more than w one-bits leaves no light number in the cube, and else the loops over
-- the free inputs come to each. Assumes nothing.
use Prim.Native.Nat.{◌^◌, ◌≤◌, ◌<◌}
use native.Mathlib.Omega.{arith}
use lib.Bits.{and_le_r}
use Rattle.block.specs.Limits.{list_inputs}
use Rattle.light_laws.specs.Free.{frees-length}
use Rattle.light_adding.specs.Cubes.{raised-light, raised-none, frees-inside}
use Rattle.light_adding.proofs.add_light.Goals as goal
use Rattle.light_adding.proofs.add_light.Goals.{Start}

-- the value is a number of n bits, as the mask is
value-lt : (s : goal.Start) → s.args.value < 2 ^ s.args.n
value-lt s =
    omega (arith, s.requires.n_le_list_inputs.2, s.requires.n_le_list_inputs.3, and_le_r s.args.value s.args.mask)

pub returns-then-w-ones : goal.returns-then-w-ones
returns-then-w-ones c =
    raised-none _ _ _ _ c.args.weight c.args.acc.now c.requires.n_le_list_inputs.3 c.if-w-ones.true c.requires.acc_len.0

pub add_few-requires : goal.add_few-requires
add_few-requires c =
    let put = c.put_free-top in
    let size = c.requires.acc_len.0 in
    let few : put.result ≤ list_inputs = omega (arith, c.requires.n_le_list_inputs.0, put.ensures.0, frees-length c.args.mask c.args.n) in record {
      b_in_bounds = (
        omega (arith, size, value-lt (goal.at.add_few-requires c).Start),
        c.requires.n_le_list_inputs.4,
        few,
        omega (arith, few),
        omega (arith, c.requires.n_le_list_inputs.1),
      );
      inside = (
        frees-inside c.args.n c.args.mask _ _ _ _ size put.ensures.0 put.ensures.1,
        c.requires.acc_len.1,
      );
    }

pub returns : goal.returns
returns c =
    let put = c.put_free-top in
    raised-light _ _ _ _ _ _ _ _ _ _ _ c.requires.n_le_list_inputs.2 c.requires.n_le_list_inputs.3 (omega arith) c.requires.acc_len.0 put.ensures.0 put.ensures.1 c.add_few.ensures
