-- A list of rows at the front of three flat slices with room for the rows of a smaller block: what it says that they hold it, and what
-- they hold after rows were added to it, of which those past the room are not stored. Assumes nothing.
use Rattle.std.specs.Prelude.{◌≡◌, refl, List, [], ◌∷◌, ◌++◌, map, ℕ, ◌+◌, ◌≤◌, ◌<◌, length, set}
use Rattle.std.proofs.Common.{sym, ap, ap₂, ◌∙◌, append_assoc, append-nil, add-zero, add-one, arith, length-append, get_or-set_same, get_or-set_other}
use Rattle.slices.specs.Places.{at, tab, over}
use Rattle.slices.specs.Filled.{tab-zero, tab-suc, tab-cong, map-tab, over-at}
use Rattle.block.specs.Limits.{smaller_rows}
use Rattle.block.specs.Words.{row}
use Rattle.block.specs.Rows.{exchange, exchange_row}
use Rattle.block.specs.declared.Row.{Row}
use Rattle.flat_rows.specs.Listing.{rows_from}

-- three slices with room for the rows of a smaller block
pub record Room (masks values words : List ℕ) : Type 0 where
  pub masks-room : length masks ≡ smaller_rows
  pub values-room : length values ≡ smaller_rows
  pub words-room : length words ≡ smaller_rows

-- the list lies at the front of the slices, unless it has more rows than that
pub record Held (rs : List Row) (masks values words : List ℕ) : Type 0 where
  pub front : length rs ≤ smaller_rows → rows_from (length rs) masks values words ≡ rs

-- where the slices held a list with `count` rows, they hold that list with the rows `more` after it, and `next` is its length
pub record Added (count : ℕ) (more : List Row) (m v w m' v' w' : List ℕ) (next : ℕ) : Type 0 where
  pub longer : next ≡ count + length more
  pub added : (rs : List Row) → length rs ≡ count → Held rs m v w → Held (rs ++ more) m' v' w'

-- no row yet
pub held_none : (m v w : List ℕ) → Held [] m v w
held_none m v w = record { front = λ h. tab-zero (λ i. row (at m i) (at v i) (at w i)) }

-- nothing added
pub added_none : (count : ℕ) (m v w : List ℕ) → Added count [] m v w m v w count
added_none count m v w = record { longer = sym (add-zero count); added = λ rs e h. rw (append-nil rs) h }

-- rows added, and then others
pub added_then : {count between next : ℕ} {more last : List Row} {m v w m' v' w' m'' v'' w'' : List ℕ}
    → Added count more m v w m' v' w' between → Added between last m' v' w' m'' v'' w'' next
    → Added count (more ++ last) m v w m'' v'' w'' next
added_then {count} {between} {next} {more} {last} a b =
    record {
      longer = omega (arith, a.longer, b.longer, length-append more last);
      added = λ rs e h.
          rw (sym (append_assoc rs more last))
          (b.added (rs ++ more) (omega (arith, a.longer, length-append rs more)) (a.added rs e h));
    }

-- what stands before the place of a store, and at it
before-set : (l k : List ℕ) (i a j : ℕ) → k ≡ set l i a → j < i → at k j ≡ at l j
before-set l k i a j e h = ap (λ (x : List ℕ). at x j) e ∙ get_or-set_other l i j a 0 (λ d. omega arith)

at_set : (l k : List ℕ) (i a : ℕ) → k ≡ set l i a → i < length l → at k i ≡ a
at_set l k i a e h = ap (λ (x : List ℕ). at x i) e ∙ get_or-set_same l i a 0 h

same_row : (a b c d e f : ℕ) → a ≡ d → b ≡ e → c ≡ f → row a b c ≡ row d e f
same_row a b c d e f p q r = rw (p, q, r)

-- a row stored behind the first `count` rows
pub stored-behind : (r : Row) (count : ℕ) (m v w m' v' w' : List ℕ) → count < length m → count < length v → count < length w
    → m' ≡ set m count r.mask → v' ≡ set v count r.values → w' ≡ set w count r.word
    → rows_from (count + 1) m' v' w' ≡ rows_from count m v w ++ (r ∷ [])
stored-behind r count m v w m' v' w' a b c p q o =
    ap (λ (i : ℕ). rows_from i m' v' w') (add-one count)
    ∙ tab-suc count (λ i. row (at m' i) (at v' i) (at w' i))
    ∙ ap₂ (λ (x : List Row) (y : Row). x ++ (y ∷ [])) old new
  where
    new : row (at m' count) (at v' count) (at w' count) ≡ r
    new =
        same_row (at m' count) (at v' count) (at w' count) r.mask r.values r.word (at_set m m' count r.mask p a)
        (at_set v v' count r.values q b) (at_set w w' count r.word o c)

    old : rows_from count m' v' w' ≡ rows_from count m v w
    old =
        tab-cong count (λ i. row (at m' i) (at v' i) (at w' i)) (λ i. row (at m i) (at v i) (at w i))
        (λ j h.
        same_row (at m' j) (at v' j) (at w' j) (at m j) (at v j) (at w j) (before-set m m' count r.mask j p h)
        (before-set v v' count r.values j q h) (before-set w w' count r.word j o h))

-- one row added
pub added-one : (r : Row) (count : ℕ) (m v w m' v' w' : List ℕ) → Room m v w
    → (count < smaller_rows → (m' ≡ set m count r.mask) × (v' ≡ set v count r.values) × (w' ≡ set w count r.word))
    → Added count (r ∷ []) m v w m' v' w' (count + 1)
added-one r count m v w m' v' w' room s = record { longer = refl; added = push }
  where
    push : (rs : List Row) → length rs ≡ count → Held rs m v w → Held (rs ++ (r ∷ [])) m' v' w'
    push rs e h = record { front = λ l. go (omega (arith, length-append rs (r ∷ []))) }
      where
        go : count < smaller_rows → rows_from (length (rs ++ (r ∷ []))) m' v' w' ≡ rs ++ (r ∷ [])
        go l =
            ap (λ (p : ℕ). rows_from p m' v' w') (length-append rs (r ∷ []) ∙ ap (λ (p : ℕ). p + 1) e)
            ∙ stored-behind r count m v w m' v' w' (omega (arith, room.masks-room)) (omega (arith, room.values-room))
            (omega (arith, room.words-room)) (s l).0 (s l).1 (s l).2
            ∙ ap (λ (x : List Row). x ++ (r ∷ [])) (ap (λ (p : ℕ). rows_from p m v w) (sym e) ∙ h.front (omega arith))

-- ---- what a step leaves

-- a list of more rows than there is room for need not be held
pub held-past : (rs : List Row) (m v w : List ℕ) → smaller_rows < length rs → Held rs m v w
held-past rs m v w h = record { front = λ l. absurd (omega arith) }

-- the first rows of slices that were copied from others
pub rows-copied : (count : ℕ) (a b c m v w m' v' w' : List ℕ) → m' ≡ over (tab count (at a)) m → v' ≡ over (tab count (at b)) v
    → w' ≡ over (tab count (at c)) w → rows_from count m' v' w' ≡ rows_from count a b c
rows-copied count a b c m v w m' v' w' p q r =
    tab-cong count (λ i. row (at m' i) (at v' i) (at w' i)) (λ i. row (at a i) (at b i) (at c i))
    (λ j u.
    same_row (at m' j) (at v' j) (at w' j) (at a j) (at b j) (at c j) (copied a m m' p j u) (copied b v v' q j u) (copied c w w' r j u))
  where
    copied : (x l l' : List ℕ) → l' ≡ over (tab count (at x)) l → (j : ℕ) → j < count → at l' j ≡ at x j
    copied x l l' d j u = ap (λ (y : List ℕ). at y j) d ∙ over-at count (at x) l 0 j u

-- a list that was copied from other slices
pub held-copied : (rs : List Row) (count : ℕ) (a b c m v w m' v' w' : List ℕ) → Held rs a b c → count ≡ length rs
    → m' ≡ over (tab count (at a)) m → v' ≡ over (tab count (at b)) v → w' ≡ over (tab count (at c)) w → Held rs m' v' w'
held-copied rs count a b c m v w m' v' w' h e p q r =
    record {
      front = λ l.
          ap (λ (i : ℕ). rows_from i m' v' w') (sym e) ∙ rows-copied count a b c m v w m' v' w' p q r
          ∙ ap (λ (i : ℕ). rows_from i a b c) e ∙ h.front l;
    }

-- positions exchanged in the masks and in the values are exchanged in the rows
pub rows-exchanged : (p k h : ℕ) (m v w m' v' : List ℕ) → m' ≡ over (tab p (λ i. exchange k h (at m i))) m
    → v' ≡ over (tab p (λ i. exchange k h (at v i))) v → rows_from p m' v' w ≡ map (exchange_row k h) (rows_from p m v w)
rows-exchanged p k h m v w m' v' a b =
    tab-cong p (λ i. row (at m' i) (at v' i) (at w i)) (λ i. exchange_row k h (row (at m i) (at v i) (at w i)))
    (λ j u.
    same_row (at m' j) (at v' j) (at w j) (exchange k h (at m j)) (exchange k h (at v j)) (at w j) (changed m m' a j u) (changed v v' b j u) refl)
    ∙ sym (map-tab (exchange_row k h) p (λ i. row (at m i) (at v i) (at w i)))
  where
    changed : (l l' : List ℕ) → l' ≡ over (tab p (λ i. exchange k h (at l i))) l → (j : ℕ) → j < p → at l' j ≡ exchange k h (at l j)
    changed l l' d j u = ap (λ (y : List ℕ). at y j) d ∙ over-at p (λ i. exchange k h (at l i)) l 0 j u
