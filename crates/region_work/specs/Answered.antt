-- Disjoining by its checks and its work: a refusal before 14, 14, or the disjoint list. Assumes nothing.
use Rattle.std.specs.Prelude.{◌≡◌, ℕ, ◌≤◌, ◌<◌}
use Rattle.std.proofs.Math.Path.{refl, sym, ap}
use Rattle.std.proofs.Common.{◌∙◌, subst, arith, ne_eqb, lt-ltb, le-ltb}
use mathlib.Core.List.{List, [], ◌∷◌, map}
use Rattle.std.proofs.Math.ListN.{length}
use Rattle.block.specs.Limits.{list_inputs, given_rows}
use Rattle.block.specs.Words.{rows_of, mask_part, values_part, word_part}
use Rattle.block.specs.Refusals.{answer, verdict}
use Rattle.block.specs.Overlaps.{disjoined, disjoin_checked, many_check, disjoin_verdict, with_pieces, disjoin}
use Rattle.block.specs.declared.Row.{Row}
use Rattle.block.specs.declared.Answer.{Answer}
use Rattle.promises.specs.Lent.{shortest, lent_flat}
use Rattle.promises.specs.Overlaps.{DisjoinPromise}
use Rattle.refusal_laws.specs.Verdicts.{zero-too, verdict-hit, verdict-miss, verdict-none, part-refuses, part-passes, kept, given}
use Rattle.answered_laws.specs.Passed.{disjoin-numbered, disjoin-passed}
use Rattle.pair_laws.specs.Cube.{Sound}
use Rattle.pair_laws.specs.Theorem.{Every}
use Rattle.flat_rows.specs.Listing.{rows_from, rows-of, listed-rows}
use Rattle.region_laws.specs.Disjoined.{rows-sound}
use Rattle.region_work.specs.Put.{Space}
use Rattle.region_work.specs.Whole.{DisjointPut}

-- ---- what the work may count on, once the checks before 14 have passed

pub record Ready (n : ℕ) (masks values words m v w : List ℕ) : Type 0 where
  pub size : n ≤ list_inputs
  pub space : Space m v w
  pub values-too : length values ≡ length masks
  pub words-too : length words ≡ length masks
  pub sound : Every (Sound n) (rows_from (length masks) masks values words)

pub ready : (n k room : ℕ) (masks values words m v w : List ℕ) (c : Answer) → room ≡ shortest m v w
    → c ≡ verdict (disjoin_checked n k (rows_of masks values words) room) → c.number ≡ 0 → Ready n masks values words m v w
ready n k room masks values words m v w c same e h =
    let p = disjoin-passed n k (rows_of masks values words) room (zero-too e h) in
    let l = listed-rows given_rows masks values words p.range.count in
    record {
      size = p.range.size.1;
      space =
          record {
            masks-space = omega (arith, p.lent, same);
            values-space = omega (arith, p.lent, same);
            words-space = omega (arith, p.lent, same);
          };
      values-too = l.values-too;
      words-too = l.words-too;
      sound =
          subst (λ (rs : List Row). Every (Sound n) rs) (rows-of masks values words l.values-too l.words-too)
          (rows-sound n k (rows_of masks values words) p.good);
    }

-- the rows of slices of one length
pub by_rows : {n : ℕ} {masks values words m v w m' v' w' : List ℕ} {r : ℕ} → Ready n masks values words m v w
    → DisjointPut n (rows_from (length masks) masks values words) m v w m' v' w' r → DisjointPut n (rows_of masks values words) m v w m' v' w' r
by_rows {n} {masks} {values} {words} {m} {v} {w} {m'} {v'} {w'} {r} h p =
    subst (λ (rs : List Row). DisjointPut n rs m v w m' v' w' r) (sym (rows-of masks values words h.values-too h.words-too)) p

-- ---- what comes back, and what is left

no_pieces : (v u : Answer) (c : ℕ) → v ≡ u → (v.number ≡ 0 → ⊥) → record { number = v.number; a = v.a; b = v.b; count = 0 } ≡ with_pieces u c
no_pieces v u c e h = rw (← e, ne_eqb v.number 0 h)

module _ (n k room : ℕ) (rs : List Row) (m v w : List ℕ) (same : room ≡ shortest m v w) (c : Answer)
    (e : c ≡ verdict (disjoin_checked n k rs room)) where
  abbrev whole : Answer
  whole = disjoin_verdict n k rs (shortest m v w)

  checked : c ≡ verdict (disjoin_checked n k rs (shortest m v w))
  checked = e ∙ ap (λ (x : ℕ). verdict (disjoin_checked n k rs x)) same

  -- a refusal u that is the whole verdict
  refusal : (u : Answer) (m' v' w' : List ℕ) → u ≡ whole → (u.number ≡ 0 → ⊥) → (m' ≡ m) × (v' ≡ v) × (w' ≡ w)
      → DisjoinPromise n k rs (lent_flat m v w m' v' w') (record { number = u.number; a = u.a; b = u.b; count = 0 })
  unfolding disjoin
  refusal u m' v' w' q h l =
      record {
        answer = no_pieces u whole (length (disjoined n rs)) q h;
        rows =
            record {
              masks = l.0 ∙ kept u whole (map mask_part (disjoined n rs)) m q h;
              values = l.1 ∙ kept u whole (map values_part (disjoined n rs)) v q h;
              words = l.2 ∙ kept u whole (map word_part (disjoined n rs)) w q h;
            };
      }

  -- one of the checks before 14 refuses
  pub refused-early : (c.number ≡ 0 → ⊥)
      → DisjoinPromise n k rs (lent_flat m v w m v w) (record { number = c.number; a = c.a; b = c.b; count = 0 })
  unfolding disjoin_verdict
  refused-early h = refusal c m v w (part-refuses c (disjoin_checked n k rs (shortest m v w)) (many_check n rs ∷ []) checked h) h (refl, refl, refl)

  module _ (z : c.number ≡ 0) {m' v' w' : List ℕ} {r : ℕ} (p : DisjointPut n rs m v w m' v' w' r) where
    last : verdict (many_check n rs ∷ []) ≡ whole
    unfolding disjoin_verdict
    last =
        part-passes c (disjoin_checked n k rs (shortest m v w)) (many_check n rs ∷ []) checked (disjoin-numbered n k rs (shortest m v w)) z

    -- 14
    pub refused-many : given_rows < r → DisjoinPromise n k rs (lent_flat m v w m' v' w') (record { number = 14; a = 0; b = 0; count = 0 })
    refused-many h =
        let many : given_rows < length (disjoined n rs) = omega (arith, p.counted) in
        refusal (answer 14 0 0) m' v' w'
        (sym (verdict-hit (many_check n rs) [] (lt-ltb given_rows (length (disjoined n rs)) many)) ∙ last) (λ q. omega arith) (p.kept many)

    -- 0
    pub answered-put : r ≤ given_rows → DisjoinPromise n k rs (lent_flat m v w m' v' w') (record { number = 0; a = 0; b = 0; count = r })
    unfolding disjoin
    answered-put h =
        let few : length (disjoined n rs) ≤ given_rows = omega (arith, p.counted) in
        let q : answer 0 0 0 ≡ whole
        = sym (verdict-miss (many_check n rs) [] (le-ltb given_rows (length (disjoined n rs)) few) ∙ verdict-none) ∙ last in
        let count : r ≡ length (disjoined n rs) = omega (arith, p.counted) in
        let list = p.list few in
        record {
          answer = ap (λ (x : ℕ). with_pieces (answer 0 0 0) x) count ∙ ap (λ (u : Answer). with_pieces u (length (disjoined n rs))) q;
          rows =
              record {
                masks = list.masks ∙ given (answer 0 0 0) whole (map mask_part (disjoined n rs)) m q refl;
                values = list.values ∙ given (answer 0 0 0) whole (map values_part (disjoined n rs)) v q refl;
                words = list.words ∙ given (answer 0 0 0) whole (map word_part (disjoined n rs)) w q refl;
              };
        }
