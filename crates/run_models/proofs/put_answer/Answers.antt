-- `run_models::put_answer` is safe: the line of a refusal is shorter than the room. Assumes nothing.
use Rattle.std.proofs.Common.{arith}
use Rattle.block.specs.Refusals.{answer}
use Rattle.put_refusal.specs.Length.{refusal-le}
use Rattle.run_models.proofs.put_answer.Goals as goal

pub put_refusal-requires : goal.put_refusal-requires
put_refusal-requires c =
    let r = c.read_model-r.result in
    omega (arith, refusal-le (answer r.number r.a r.b))
