-- `import_says::say_name` is safe: what is shown of a name fits. Assumes nothing.
use Rattle.std.proofs.Common.{ap, length, length-take, arith}
use Rattle.std.proofs.lemmas.List.{length-map}
use Rattle.import_says.proofs.say_name.Goals as goal

pub put_name-count-requires : goal.put_name-count-requires
put_name-count-requires c =
    simp length-map (omega (arith, simp length-take at (ap length c.first_bytes.ensures)))

pub slice_bounds-shown-end : goal.slice_bounds-shown-end
slice_bounds-shown-end c =
    omega (
      arith,
      c.put_name-count.auto.out,
      simp length-map at c.put_name-count.ensures.place,
      simp length-take at (ap length c.first_bytes.ensures),
    )

pub slice_bounds-say-end : goal.slice_bounds-say-end
slice_bounds-say-end c =
    simp length-take (omega (
      arith,
      c.put_name-count.auto.out,
      simp length-map at c.put_name-count.ensures.place,
      simp length-take at (ap length c.first_bytes.ensures),
    ))
