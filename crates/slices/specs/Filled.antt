-- Laws of listed values, and of a lent list that a loop overwrites from the front. Assumes nothing.
use Rattle.std.specs.Prelude.{◌≡◌, refl, List, [], ◌∷◌, ◌++◌, map, ℕ, zero, suc, ◌+◌, ◌-◌, ◌≤◌, ◌<◌, length, get_or, drop, set}
use Rattle.std.proofs.Common.{sym, ap, ap₂, ◌∙◌, append-nil, append_assoc, add-one, arith, length-append, length-drop, drop-cons, drop_at, ext_get_or, get_or-append-add, get_or-drop}
use Rattle.std.proofs.Math.Decide.{dec_lt}
use Rattle.std.proofs.Math.ListN.{get_or-append, get_or-map}
use Rattle.std.proofs.lemmas.List.{length-map, set_at}
use Rattle.std.proofs.Math.Seq.{drop-length}
use Rattle.slices.specs.Places.{tab, over}

pub length-tab {ℓ} : {A : Type ℓ} (m : ℕ) (f : ℕ → A) → length (tab m f) ≡ m
unfolding tab
length-tab zero f = refl
length-tab (suc m) f = length-append (tab m f) (f m ∷ []) ∙ rw (length-tab m f) (add-one m)

pub tab-suc {ℓ} : {A : Type ℓ} (m : ℕ) (f : ℕ → A) → tab (suc m) f ≡ tab m f ++ (f m ∷ [])
unfolding tab
tab-suc m f = refl

pub tab-zero {ℓ} : {A : Type ℓ} (f : ℕ → A) → tab 0 f ≡ []
unfolding tab
tab-zero f = refl

-- what stands at i
pub tab-at {ℓ} : {A : Type ℓ} (m : ℕ) (f : ℕ → A) (d : A) (i : ℕ) → i < m → get_or (tab m f) i d ≡ f i
unfolding tab
tab-at zero f d i h = absurd (omega arith)
tab-at {A} (suc m) f d i h = go (λ l. tab-at m f d i l) (dec_lt i m)
  where
    go : (i < m → get_or (tab m f) i d ≡ f i) → Dec (i < m) → get_or (tab m f ++ (f m ∷ [])) i d ≡ f i
    go ih (yes l) = get_or-append (tab m f) (f m ∷ []) d i (rw (length-tab m f) l) ∙ ih l
    go ih (no n) =
        let e : i ≡ length (tab m f) + 0 = omega (arith, length-tab m f) in
        let g : m ≡ i = omega arith in
        ap (λ (j : ℕ). get_or (tab m f ++ (f m ∷ [])) j d) e ∙ get_or-append-add (tab m f) (f m ∷ []) 0 d ∙ ap f g

pub tab-cong {ℓ} : {A : Type ℓ} (m : ℕ) (f g : ℕ → A) → ((i : ℕ) → i < m → f i ≡ g i) → tab m f ≡ tab m g
unfolding tab
tab-cong zero f g h = refl
tab-cong (suc m) f g h = ap₂ (λ l x. l ++ (x ∷ [])) (tab-cong m f g (λ i l. h i (omega arith))) (h m (omega arith))

-- ---- a lent list l with the first values stored

-- nothing stored yet
pub over_none {ℓ} : {A : Type ℓ} (f : ℕ → A) (l : List A) → l ≡ over (tab 0 f) l
over_none f l = rw tab-zero

pub over-tab {ℓ} : {A : Type ℓ} (m : ℕ) (f : ℕ → A) (l : List A) → over (tab m f) l ≡ tab m f ++ drop m l
over-tab m f l = ap (λ (i : ℕ). tab m f ++ drop i l) (length-tab m f)

-- one value more is stored, as a loop has it
pub over-more {ℓ} : {A : Type ℓ} (i : ℕ) (f : ℕ → A) (l m : List A) (x : A) → m ≡ over (tab i f) l → x ≡ f i → i < length l
    → set m i x ≡ over (tab (i + 1) f) l
over-more i f l m x e d h =
    rw (e ∙ over-tab i f l, d, add-one i, over-tab (suc i) f l, tab-suc)
    (rw (drop-cons l i (f i), set_at (tab i f) (get_or l i (f i)) (drop (suc i) l) (f i) i (length-tab i f), append_assoc))

-- as long as before
pub length_over {ℓ} : {A : Type ℓ} (m : ℕ) (f : ℕ → A) (l : List A) → m ≤ length l → length (over (tab m f) l) ≡ length l
length_over m f l h =
    ap length (over-tab m f l) ∙ length-append (tab m f) (drop m l) ∙ rw (length-tab m f, length-drop m l) (omega arith)

-- what stands at a place below the end of what was stored
pub over-at {ℓ} : {A : Type ℓ} (m : ℕ) (f : ℕ → A) (l : List A) (d : A) (i : ℕ) → i < m → get_or (over (tab m f) l) i d ≡ f i
over-at m f l d i h = get_or-append (tab m f) (drop (length (tab m f)) l) d i (rw (length-tab m f) h) ∙ tab-at m f d i h

-- what stands beyond it is what stood there
pub over-beyond {ℓ} : {A : Type ℓ} (m : ℕ) (f : ℕ → A) (l : List A) (d : A) (i : ℕ) → m ≤ i → get_or (over (tab m f) l) i d ≡ get_or l i d
over-beyond m f l d i h =
    let e : i ≡ length (tab m f) + (i - m) = omega (arith, length-tab m f) in
    let g : m + (i - m) ≡ i = omega arith in
    ap (λ k. get_or k i d) (over-tab m f l) ∙ ap (λ (j : ℕ). get_or (tab m f ++ drop m l) j d) e
    ∙ get_or-append-add (tab m f) (drop m l) (i - m) d ∙ get_or-drop m l (i - m) d ∙ ap (λ (j : ℕ). get_or l j d) g

-- stored over the whole of a list, nothing of it is left
pub over-whole {ℓ} : {A : Type ℓ} (m : ℕ) (f : ℕ → A) (l : List A) → length l ≡ m → over (tab m f) l ≡ tab m f
over-whole m f l e = over-tab m f l ∙ ap (λ k. tab m f ++ k) none ∙ append-nil (tab m f)
  where
    none : drop m l ≡ []
    none = rw (sym e) (drop-length l)

-- stored as a part that ends at j, it is stored at the front
pub over-part {ℓ} : {A : Type ℓ} (m j : ℕ) (f : ℕ → A) (k l : List A) → k ≡ tab m f → j ≡ m → k ++ drop j l ≡ over (tab m f) l
over-part m j f k l e d = ap₂ (λ s (i : ℕ). s ++ drop i l) e d ∙ sym (over-tab m f l)

-- what was stored is read off the front
pub tab-front {ℓ} : {A : Type ℓ} (m : ℕ) (x l : List A) (d : A) → length x ≡ m → tab m (λ i. get_or (over x l) i d) ≡ x
tab-front m x l d e =
    ext_get_or d (tab m (λ i. get_or (over x l) i d)) x (length-tab m _ ∙ sym e)
    (λ i h.
    let b : i < m = rw (length-tab m (λ i. get_or (over x l) i d)) at h in
    tab-at m (λ i. get_or (over x l) i d) d i b ∙ get_or-append x (drop (length x) l) d i (omega arith))

-- a second result of the same length takes the first one's place
pub over-over {ℓ} : {A : Type ℓ} (m : ℕ) (f g : ℕ → A) (l : List A) → over (tab m g) (over (tab m f) l) ≡ over (tab m g) l
over-over m f g l = over-tab m g (over (tab m f) l) ∙ ap (λ k. tab m g ++ k) (drop_at (tab m f) (drop (length (tab m f)) l) m (length-tab m f) ∙ ap (λ (i : ℕ). drop i l) (length-tab m f)) ∙ sym (over-tab m g l)

-- within a list the value past its end does not matter
pub get_d_any {ℓ} : {A : Type ℓ} (l : List A) (d e : A) (i : ℕ) → i < length l → get_or l i d ≡ get_or l i e
get_d_any [] d e i h = absurd (omega arith)
get_d_any (x ∷ xs) d e zero h = refl
get_d_any (x ∷ xs) d e (suc i) h = get_d_any xs d e i (omega arith)

-- a list that holds f below m, and from there on what l held
pub over-is {ℓ} : {A : Type ℓ} (m : ℕ) (f : ℕ → A) (l k : List A) (d : A) → m ≤ length l → length k ≡ length l
    → ((i : ℕ) → i < m → get_or k i d ≡ f i) → ((i : ℕ) → m ≤ i → get_or k i d ≡ get_or l i d) → k ≡ over (tab m f) l
over-is m f l k d h e low high = ext_get_or d k (over (tab m f) l) (e ∙ sym (length_over m f l h)) (λ i b. go i (dec_lt i m))
  where
    go : (i : ℕ) → Dec (i < m) → get_or k i d ≡ get_or (over (tab m f) l) i d
    go i (yes b) = low i b ∙ sym (over-at m f l d i b)
    go i (no b) = high i (omega arith) ∙ sym (over-beyond m f l d i (omega arith))

map_push {ℓ} : {A B : Type ℓ} (f : A → B) (s : List A) (x : A) → map f (s ++ (x ∷ [])) ≡ map f s ++ (f x ∷ [])
map_push f [] x = refl
map_push f (a ∷ s) x = ap (λ l. f a ∷ l) (map_push f s x)

-- a map over listed values lists the mapped values
pub map-tab {ℓ} : {A B : Type ℓ} (f : A → B) (m : ℕ) (g : ℕ → A) → map f (tab m g) ≡ tab m (λ i. f (g i))
unfolding tab
map-tab f zero g = refl
map-tab f (suc m) g = map_push f (tab m g) (g m) ∙ ap (λ l. l ++ (f (g m) ∷ [])) (map-tab f m g)

-- a list grows at its end while one part of each entry is stored
pub over-push {ℓ} : {A B : Type ℓ} (f : A → B) (s : List A) (x : A) (l : List B) → length s < length l
    → set (over (map f s) l) (length s) (f x) ≡ over (map f (s ++ (x ∷ []))) l
over-push f s x l h =
    rw (map_push f s x, length-append (map f s) (f x ∷ []), length-map s f, add-one)
    (rw (
      drop-cons l (length s) (f x),
      set_at (map f s) (get_or l (length s) (f x)) (drop (suc (length s)) l) (f x) (length s) (length-map s f),
      append_assoc,
    ))

-- that part of the entry at i
pub over-map-at {ℓ} : {A B : Type ℓ} (f : A → B) (s : List A) (l : List B) (d : A) (i : ℕ) → i < length s
    → get_or (over (map f s) l) i (f d) ≡ f (get_or s i d)
over-map-at f s l d i h =
    get_or-append (map f s) (drop (length (map f s)) l) (f d) i (rw (length-map s f) h) ∙ get_or-map f s i d

-- as long as before
pub length-over-map {ℓ} : {A B : Type ℓ} (f : A → B) (s : List A) (l : List B) → length s ≤ length l
    → length (over (map f s) l) ≡ length l
length-over-map f s l h =
    length-append (map f s) (drop (length (map f s)) l) ∙ rw (length-map s f, length-drop (length s) l) (omega arith)

-- a list is the listing of its own values
pub tab-list {ℓ} : {A : Type ℓ} (d : A) (l : List A) → tab (length l) (λ i. get_or l i d) ≡ l
tab-list d l =
    ext_get_or d (tab (length l) (λ i. get_or l i d)) l (length-tab (length l) (λ i. get_or l i d))
    (λ i h. tab-at (length l) (λ i. get_or l i d) d i (rw (length-tab (length l) (λ i. get_or l i d)) at h))
