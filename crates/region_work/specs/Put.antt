-- A list of at most `given_rows` rows at the front of three flat slices, and what they hold after rows were put at its end: those past the limit are
-- not stored, and the length is not counted beyond one more. Assumes nothing.
use Rattle.std.specs.Prelude.{◌≡◌, List, [], ◌∷◌, ◌++◌, ℕ, suc, ◌+◌, ◌≤◌, ◌<◌, min, length, set}
use Rattle.std.proofs.Common.{sym, ap, ◌∙◌, append_assoc, append-nil, arith, length-append}
use Rattle.slices.specs.Places.{at}
use Rattle.slices.specs.Filled.{tab-zero}
use Rattle.block.specs.Limits.{given_rows}
use Rattle.block.specs.Words.{row}
use Rattle.block.specs.declared.Row.{Row}
use Rattle.flat_rows.specs.Listing.{rows_from}
use Rattle.row_adding.specs.Held.{stored-behind}

-- three slices with room for the rows
pub record Space (masks values words : List ℕ) : Type 0 where
  pub masks-space : given_rows ≤ length masks
  pub values-space : given_rows ≤ length values
  pub words-space : given_rows ≤ length words

-- the list lies at the front of the slices, unless it has too many rows
pub record Lies (rs : List Row) (masks values words : List ℕ) : Type 0 where
  pub front : length rs ≤ given_rows → rows_from (length rs) masks values words ≡ rs

-- where the slices held a list with `count` rows, they hold that list with the rows `more` after it, and `next` is its length
pub record Put (count : ℕ) (more : List Row) (m v w m' v' w' : List ℕ) (next : ℕ) : Type 0 where
  pub longer : next ≡ min (count + length more) (suc given_rows)
  pub added : (rs : List Row) → length rs ≡ count → Lies rs m v w → Lies (rs ++ more) m' v' w'

-- no row yet
pub lies-none : (m v w : List ℕ) → Lies [] m v w
lies-none m v w = record { front = λ h. tab-zero (λ i. row (at m i) (at v i) (at w i)) }

-- nothing put
pub put-none : (count : ℕ) (m v w : List ℕ) → count ≤ suc given_rows → Put count [] m v w m v w count
put-none count m v w h = record { longer = omega arith; added = λ rs e l. rw (append-nil rs) l }

-- nothing is put at the end of a list that has too many rows already
pub put-past : (count : ℕ) (more : List Row) (m v w m' v' w' : List ℕ) → given_rows < count → count ≤ suc given_rows
    → Put count more m v w m' v' w' count
put-past count more m v w m' v' w' l h =
    record {
      longer = omega arith;
      added = λ rs e d. record { front = λ u. absurd (omega (arith, length-append rs more)) };
    }

-- rows put, and then others
pub put_then : {count between next : ℕ} {more last : List Row} {m v w m' v' w' m'' v'' w'' : List ℕ}
    → Put count more m v w m' v' w' between → Put between last m' v' w' m'' v'' w'' next → Put count (more ++ last) m v w m'' v'' w'' next
put_then {count} {between} {next} {more} {last} {m} {v} {w} {m'} {v'} {w'} {m''} {v''} {w''} a b =
    record {
      longer = omega (arith, a.longer, b.longer, length-append more last);
      added = λ rs e h. record { front = λ u. all rs e h u };
    }
  where
    all : (rs : List Row) → length rs ≡ count → Lies rs m v w → length (rs ++ (more ++ last)) ≤ given_rows
        → rows_from (length (rs ++ (more ++ last))) m'' v'' w'' ≡ rs ++ (more ++ last)
    all rs e h u =
        let few : length rs + length more + length last ≤ given_rows
        = omega (arith, u, length-append rs (more ++ last), length-append more last) in
        let lies : Lies ((rs ++ more) ++ last) m'' v'' w''
        = b.added (rs ++ more) (omega (arith, a.longer, length-append rs more)) (a.added rs e h) in
        (rw (append_assoc rs more last) at lies).front u

-- one row put where there is room
pub put_one : (r : Row) (count : ℕ) (m v w m' v' w' : List ℕ) → Space m v w → count < given_rows
    → m' ≡ set m count r.mask → v' ≡ set v count r.values → w' ≡ set w count r.word
    → Put count (r ∷ []) m v w m' v' w' (count + 1)
put_one r count m v w m' v' w' room l p q o = record { longer = omega arith; added = push }
  where
    push : (rs : List Row) → length rs ≡ count → Lies rs m v w → Lies (rs ++ (r ∷ [])) m' v' w'
    push rs e h =
        record {
          front = λ u.
              ap (λ (i : ℕ). rows_from i m' v' w') (length-append rs (r ∷ []) ∙ ap (λ (i : ℕ). i + 1) e)
              ∙ stored-behind r count m v w m' v' w' (omega (arith, room.masks-space)) (omega (arith, room.values-space))
              (omega (arith, room.words-space)) p q o
              ∙ ap (λ (x : List Row). x ++ (r ∷ [])) (ap (λ (i : ℕ). rows_from i m v w) (sym e) ∙ h.front (omega arith));
        }

-- or not stored where there is none
pub put_full : (r : Row) (count : ℕ) (m v w : List ℕ) → given_rows ≤ count → Put count (r ∷ []) m v w m v w (suc given_rows)
put_full r count m v w l =
    record {
      longer = omega arith;
      added = λ rs e d. record { front = λ u. absurd (omega (arith, length-append rs (r ∷ []))) };
    }
