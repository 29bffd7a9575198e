-- `reason_numbers::given_numbers` meets its contract, by the four cases of a reason. Assumes nothing.
use Rattle.reason_numbers.proofs.given_numbers.Goals as goal

pub returns-in-Zero : goal.returns-in-Zero
returns-in-Zero c = rw c.in-Zero.is

pub returns-in-Over : goal.returns-in-Over
returns-in-Over c = rw c.in-Over.is

pub returns-in-Taken : goal.returns-in-Taken
returns-in-Taken c = rw c.in-Taken.is

pub returns-in-Xor : goal.returns-in-Xor
returns-in-Xor c = rw c.in-Xor.is
