-- `put_names::emit_number` meets its contract: the number is put where it fits, and else passes the end. It has at most two digits. Assumes
-- nothing.
use Rattle.std.proofs.Common.{arith}
use Rattle.put_bytes.specs.Digits.{decimal-le}
use Rattle.put_names.proofs.emit_number.Goals as goal

pub overflow_add-end : goal.overflow_add-end
overflow_add-end c = omega (arith, decimal-le 2 c.args.v (omega arith) (omega arith))

pub returns-then-end-out-clause-upper_bound : goal.returns-then-end-out-clause-upper_bound
returns-then-end-out-clause-upper_bound c = omega (arith, decimal-le 2 c.args.v (omega arith) (omega arith))

pub returns-clause-upper_bound : goal.returns-clause-upper_bound
returns-clause-upper_bound c = omega (arith, decimal-le 2 c.args.v (omega arith) (omega arith))
