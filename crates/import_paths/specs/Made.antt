-- A name that is put, with a 0 after it and in the last place, is a name that ends within its room of 4,096 places. Assumes nothing.
use Rattle.std.specs.Prelude.{◌≡◌, List, ℕ, ◌<◌, length, set, take, drop}
use Rattle.std.proofs.Common.{sym, ap, ◌∙◌, zero-add, le_refl, arith, length-set, take_at, get_or-set_same}
use Rattle.std.proofs.lemmas.List.{take-set-le}
use Rattle.std.proofs.Math.Seq.{length-sets}
use Rattle.io.specs.Counts.{IsPrefixLen}
use Rattle.import_paths.specs.Ended.{Ended}
use Rattle.import_paths.specs.Room.{path_room}
use Rattle.put_bytes.specs.Puts.{Put, put-over}

pub path-made : (l l' t : List ℕ) (e : ℕ) → Put l 0 t l' e → path_room ≡ length l → e < path_room
    → (take e (set (set l' e 0) 4095 0) ≡ t) × (IsPrefixLen e (set (set l' e 0) 4095 0) × Ended (set (set l' e 0) 4095 0))
path-made l l' t e p size h =
    let n : e ≡ length t = p.place ∙ zero-add (length t) in
    let long : length l' ≡ length l = ap length p.stored ∙ length-sets l 0 t in
    let longer : length (set (set l' e 0) 4095 0) ≡ length l = length-set (set l' e 0) 4095 0 ∙ length-set l' e 0 ∙ long in
    let whole = take-set-le e (set l' e 0) 4095 0 (omega arith) ∙ take-set-le e l' e 0 (le_refl e)
    ∙ ap (take e) (put-over (omega (arith, n)) p) ∙ take_at t (drop (length t) l) e (sym n) in (
      whole,
      (
        (omega (arith, longer), n ∙ ap length (sym whole)),
        get_or-set_same (set l' e 0) 4095 0 1 (omega (arith, long, length-set l' e 0)),
      ),
    )
