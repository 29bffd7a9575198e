-- `reason_work::find_reason` meets its contract: what was found tells the reason. Assumes nothing.
use mathlib.Core.Path.{◌∙◌}
use native.Mathlib.Omega.{arith}
use Rattle.reason_work.specs.Told.{found-set, found-reason}
use Rattle.reason_work.proofs.find_reason.Goals as goal

pub reason_of-requires : goal.reason_of-requires
reason_of-requires c =
    let p = c.requires.n_le_list_inputs in
    record {
      n_le_list_inputs = (p.0, omega (arith, p.3, c.find_basis.auto), omega (arith, p.0, c.find_basis.auto), p.4);
      t_value = found-set c.find_basis.ensures _ p.1 p.4;
    }

pub returns : goal.returns
returns c =
    record {
      value = c.reason_of.ensures ∙ found-reason c.find_basis.ensures _;
      taken_after = c.find_basis.ensures.basis;
    }
