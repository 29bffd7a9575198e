-- A list that a loop lays out at the front of a lent one, number by number. Assumes nothing.
use Rattle.std.specs.Prelude.{◌≡◌, refl, List, [], ◌∷◌, ◌++◌, ℕ, suc, ◌+◌, ◌<◌, length, get_or, set, drop}
use Rattle.std.proofs.Common.{ap, ◌∙◌, append_assoc, add-one, arith, length-append, length-set, drop-cons}
use Rattle.std.proofs.lemmas.List.{set_at}
use Rattle.slices.specs.Places.{over}

-- s lies at the front of a lent list l, which is now m, and `count` is its length
pub record Laid (s l m : List ℕ) (count : ℕ) : Type 0 where
  pub size : length m ≡ length l
  pub counted : count ≡ length s
  pub holds : m ≡ over s l

-- nothing yet
pub laid_none : (l : List ℕ) → Laid [] l l 0
laid_none l = record { size = refl; counted = refl; holds = refl }

over-end : (s : List ℕ) (x : ℕ) (l : List ℕ) → length s < length l → set (over s l) (length s) x ≡ over (s ++ (x ∷ [])) l
over-end s x l h =
    rw (length-append s (x ∷ []), add-one)
    (rw (drop-cons l (length s) x, set_at s (get_or l (length s) x) (drop (suc (length s)) l) x (length s) refl, append_assoc))

-- a number more
pub laid_more : (s l m k : List ℕ) (count r x : ℕ) → Laid s l m count → count < length l → k ≡ set m count x → r ≡ count + 1
    → Laid (s ++ (x ∷ [])) l k r
laid_more s l m k count r x h b f g =
    record {
      size = ap length f ∙ length-set m count x ∙ h.size;
      counted = omega (arith, h.counted, length-append s (x ∷ []));
      holds = rw (f, h.holds, h.counted) (over-end s x l (omega (arith, h.counted)));
    }
