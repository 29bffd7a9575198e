-- `import_paths::put_name` meets its contract: the one put is the name. Assumes nothing.
use native.Mathlib.Omega.{arith}
use Rattle.import_paths.specs.Made.{path-made}
use borrow.Author.Rules.{rules}
use Rattle.import_paths.proofs.put_name.Goals as goal

pub returns : goal.returns
returns c =
    let a = c.args in
    let p = c.put_bytes-e.ensures in
    let made = path-made a.path.now _ _ _ p (omega arith) (omega (arith, p.place)) in
    record { path_after = made.0; prefix_len = made.1.0; ended = made.1.1 }
