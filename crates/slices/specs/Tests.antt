-- What a test of two tests says of each. Assumes nothing.
use Rattle.std.specs.Prelude.{◌≡◌, refl, Bool, true, false, ◌&&◌, T}
use Rattle.std.proofs.lemmas.Bool.{false≢true}

pub and_both : (p q : Bool) → p && q ≡ true → (p ≡ true) × (q ≡ true)
and_both true true e = (refl, refl)
and_both true false e = absurd (false≢true e)
and_both false q e = absurd (false≢true e)

-- the same of tests that are types
pub and_left : (p q : Bool) → T (p && q) → T p
and_left true q h = tt
and_left false q h = h

pub and_right : (p q : Bool) → T (p && q) → T q
and_right true q h = h
and_right false q h = absurd h
