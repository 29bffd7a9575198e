-- `import_paths::put_path` meets its contract: the four puts, one after the other, are the name. Assumes nothing.
use native.Mathlib.Omega.{arith}
use Rattle.put_bytes.specs.Puts.{then}
use Rattle.import_paths.specs.Path.{path_of}
use Rattle.import_paths.specs.Room.{kind-le, counted-le}
use Rattle.import_paths.specs.Made.{path-made}
use borrow.Author.Rules.{rules}
use Rattle.import_paths.proofs.put_path.Goals as goal

pub put_kind-d-requires : goal.put_kind-d-requires
put_kind-d-requires c = omega (arith, kind-le c.args.model)

pub put_bytes-e-requires : goal.put_bytes-e-requires
put_bytes-e-requires c = omega (arith, kind-le c.args.model)

pub put_count-f-requires : goal.put_count-f-requires
put_count-f-requires c = omega (arith, kind-le c.args.model, counted-le c.args.k)

pub bounds-path-f : goal.bounds-path-f
bounds-path-f c = omega (arith, kind-le c.args.model, counted-le c.args.k)

pub returns : goal.returns
unfolding path_of
returns c =
    let a = c.args in
    let p = then (then (then c.put_bytes-c.ensures c.put_kind-d.ensures) c.put_bytes-e.ensures) c.put_count-f.ensures in
    let made = path-made a.path.now _ _ _ p (omega arith) (omega (arith, p.place, kind-le a.model, counted-le a.k)) in
    record { path_after = made.0; prefix_len = made.1.0; ended = made.1.1 }
