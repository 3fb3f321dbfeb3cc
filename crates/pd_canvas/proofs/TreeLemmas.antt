-- The boxes of a canvas in the code against those of its page.
use Rattle.std.proofs.Common.{◌≡◌, ℕ, zero, suc, ◌-◌, ◌<◌, ◌≤◌, List, [], ◌∷◌, ◌++◌, length, map, take, drop, set, get_or, insert, remove, Option, Some, None, Result, Ok, Err, refl, sym, ap, ◌∙◌, subst, arith}
use Rattle.std.proofs.lemmas.List.{map-append, take-map, drop-map, length-map, take_all, length-take, length-drop}
use Rattle.std.proofs.Math.Seq.{map-set_same}
use Rattle.std.specs.Prelude.{slice_get, option_and_then, IsSomeAnd, OnErr}
use Rattle.pd_canvas.specs.declared.tree.Element.{Element}
use Rattle.pd_canvas.specs.declared.tree.Canvas.TheInside.{Inside}
use Rattle.pd_canvas.specs.Pages.{Page, Entry, listed, boxed, elements_of, with_elements}
use Rattle.pd_canvas.specs.Views.{entry_of, page_seen}
use Rattle.pd_canvas.specs.Paths.{along, sub_page, at_place, inside, change_box, edit_at}
use Rattle.pd_canvas.specs.Edits.{appended}

pub listed_boxed : (es : List Entry) → listed (boxed es) ≡ es
listed_boxed [] = refl
listed_boxed (e ∷ es) = ap (λ l. e ∷ l) (listed_boxed es)

-- the elements of a canvas, seen
abbrev pub seen : Inside → List Entry
seen a = map entry_of a.boxes.items.items

pub elements_seen : (a : Inside) → elements_of (page_seen a) ≡ seen a
elements_seen a = listed_boxed (seen a)

pub on_err : {T E P Q : Type 0} (r : Result T E) → (P → Q) → OnErr r P → OnErr r Q
on_err (Ok x) f h = tt
on_err (Err e) f h = f h

-- one element more
pub append_seen : (a : Inside) (es : List Element) (e : Element) → es ≡ a.boxes.items.items ++ e ∷ []
    → with_elements (map entry_of es) (page_seen a) ≡ appended (entry_of e) (page_seen a)
append_seen a es e h =
    ap (λ l. with_elements l (page_seen a))
    (ap (map entry_of) h ∙ (map-append entry_of a.boxes.items.items (e ∷ []) ∙ ap (λ l. l ++ entry_of e ∷ []) (sym (elements_seen a))))

-- one element less
pub map-remove : (es : List Element) (n : ℕ) → map entry_of (remove es n) ≡ remove (map entry_of es) n
map-remove es n =
    map-append entry_of (take n es) (drop (suc n) es)
    ∙ (ap (λ l. l ++ map entry_of (drop (suc n) es)) (sym (take-map entry_of n es))
    ∙ ap (λ l. take n (map entry_of es) ++ l) (sym (drop-map entry_of (suc n) es)))

pub remove_seen : (a : Inside) (es : List Element) (n : ℕ) → es ≡ remove a.boxes.items.items n
    → map entry_of es ≡ remove (elements_of (page_seen a)) n
remove_seen a es n h =
    ap (map entry_of) h ∙ (map-remove a.boxes.items.items n ∙ ap (λ l. remove l n) (sym (elements_seen a)))

-- one element changed
set_at_place : (f : Entry → Entry) (es : List Element) (n : ℕ) (e d : Element) → n < length es
    → entry_of e ≡ f (entry_of (get_or es n d)) → map entry_of (set es n e) ≡ at_place n f (map entry_of es)
set_at_place f [] n e d h k = absurd (omega arith)
set_at_place f (x ∷ es) zero e d h k = ap (λ v. v ∷ map entry_of es) k
set_at_place f (x ∷ es) (suc n) e d h k = ap (λ l. entry_of x ∷ l) (set_at_place f es n e d (omega arith) k)

pub change_seen : (a : Inside) (f : Entry → Entry) (n : ℕ) (e d : Element) → n < length a.boxes.items.items
    → entry_of e ≡ f (entry_of (get_or a.boxes.items.items n d))
    → with_elements (map entry_of (set a.boxes.items.items n e)) (page_seen a) ≡ change_box n f (page_seen a)
change_seen a f n e d h k =
    ap (λ l. with_elements l (page_seen a)) (set_at_place f a.boxes.items.items n e d h k ∙ ap (at_place n f) (sym (elements_seen a)))

-- one element changed to one that is seen as it
pub same_seen : (a : Inside) (n : ℕ) (e d : Element) → entry_of e ≡ entry_of (get_or a.boxes.items.items n d)
    → with_elements (map entry_of (set a.boxes.items.items n e)) (page_seen a) ≡ page_seen a
same_seen a n e d k = ap (λ l. with_elements l (page_seen a)) (map-set_same entry_of a.boxes.items.items n e d k)

pub within_seen : (a : Inside) (p : Page) → page_seen a ≡ p → (n : ℕ) → n < length (elements_of p) → n < length a.boxes.items.items
within_seen a p e n h =
    omega (arith, ap (λ q. length (elements_of q)) e, ap length (elements_seen a), length-map a.boxes.items.items entry_of)

some_below : (P : Entry → Type 0) (es : List Element) (n : ℕ) → IsSomeAnd (slice_get (map entry_of es) n) P → n < length es
some_below P [] n h = absurd h
some_below P (e ∷ es) zero h = omega arith
some_below P (e ∷ es) (suc n) h = omega (arith, some_below P es n h)

some_at : (P : Entry → Type 0) (es : List Element) (n : ℕ) (d : Element) → IsSomeAnd (slice_get (map entry_of es) n) P
    → P (entry_of (get_or es n d))
some_at P [] n d h = absurd h
some_at P (e ∷ es) zero d h = h
some_at P (e ∷ es) (suc n) d h = some_at P es n d h

seen_as : (P : Entry → Type 0) (a : Inside) (p : Page) → page_seen a ≡ p → (n : ℕ) → IsSomeAnd (slice_get (elements_of p) n) P
    → IsSomeAnd (slice_get (seen a) n) P
seen_as P a p e n h = subst (λ l. IsSomeAnd (slice_get l n) P) (sym (ap elements_of e) ∙ elements_seen a) h

-- the n-th element is there where it is seen
pub below_seen : (P : Entry → Type 0) (a : Inside) (p : Page) → page_seen a ≡ p → (n : ℕ) → IsSomeAnd (slice_get (elements_of p) n) P
    → n < length a.boxes.items.items
below_seen P a p e n h = some_below P a.boxes.items.items n (seen_as P a p e n h)

-- what holds of the n-th element seen holds of the n-th element
pub at_seen : (P : Entry → Type 0) (a : Inside) (p : Page) → page_seen a ≡ p → (n : ℕ) (d : Element) → IsSomeAnd (slice_get (elements_of p) n) P
    → P (entry_of (get_or a.boxes.items.items n d))
at_seen P a p e n d h = some_at P a.boxes.items.items n d (seen_as P a p e n h)

-- a path that is not empty, as its first number and its other numbers
abbrev pub first_of : List ℕ → ℕ
first_of path = get_or path 0 0

abbrev pub rest_of : List ℕ → List ℕ
rest_of path = take (length path - 1) (drop 1 path)

pub path_is : (path : List ℕ) → 1 ≤ length path → path ≡ first_of path ∷ rest_of path
path_is [] h = absurd (omega arith)
path_is (i ∷ path) h = ap (λ l. i ∷ l) (sym (take_all _ path (omega arith)))

pub length-rest_of : (path : List ℕ) → length (rest_of path) ≡ length path - 1
length-rest_of path = omega (arith, length-take (length path - 1) (drop 1 path), length-drop 1 path)

-- where the rest of a path leads from an element
abbrev pub LeadsOn : (Page → Type 0) → List ℕ → Entry → Type 0
LeadsOn P rest e = IsSomeAnd (option_and_then (along rest) (sub_page e)) P

pub leads : (P : Page → Type 0) (rest : List ℕ) (o : Option Entry) → IsSomeAnd (option_and_then (along rest) (option_and_then sub_page o)) P
    → IsSomeAnd o (LeadsOn P rest)
leads P rest None h = absurd h
leads P rest (Some e) h = h

first_leads : (P : Page → Type 0) (p : Page) (path : List ℕ) → 1 ≤ length path → IsSomeAnd (along path p) P
    → IsSomeAnd (slice_get (elements_of p) (first_of path)) (LeadsOn P (rest_of path))
first_leads P p path h k = leads P (rest_of path) _ (subst (λ l. IsSomeAnd (along l p) P) (path_is path h) k)

pub path_below : (P : Page → Type 0) (a : Inside) (p : Page) → page_seen a ≡ p → (path : List ℕ) → 1 ≤ length path
    → IsSomeAnd (along path p) P → first_of path < length a.boxes.items.items
path_below P a p e path h k = below_seen (LeadsOn P (rest_of path)) a p e (first_of path) (first_leads P p path h k)

pub path_seen : (P : Page → Type 0) (a : Inside) (p : Page) → page_seen a ≡ p → (path : List ℕ) → 1 ≤ length path → (d : Element)
    → IsSomeAnd (along path p) P → LeadsOn P (rest_of path) (entry_of (get_or a.boxes.items.items (first_of path) d))
path_seen P a p e path h d k = at_seen (LeadsOn P (rest_of path)) a p e (first_of path) d (first_leads P p path h k)

-- an edit along a path is a change of its first box
pub edit_first : (f : Page → Page) (path : List ℕ) (p : Page) → 1 ≤ length path
    → change_box (first_of path) (inside (edit_at (rest_of path) f)) p ≡ edit_at path f p
edit_first f path p h = ap (λ l. edit_at l f p) (sym (path_is path h))

-- the elements of the program, seen
pub entries_seen : (a : Inside) (p : Page) → page_seen a ≡ p → elements_of p ≡ map entry_of a.boxes.items.items
entries_seen a p e = sym (ap elements_of e) ∙ elements_seen a

-- one element more at a place
map-insert : (es : List Element) (n : ℕ) (e : Element) → map entry_of (insert es n e) ≡ insert (map entry_of es) n (entry_of e)
map-insert es n e =
    map-append entry_of (take n es) (e ∷ drop n es)
    ∙ (ap (λ l. l ++ entry_of e ∷ map entry_of (drop n es)) (sym (take-map entry_of n es))
    ∙ ap (λ l. take n (map entry_of es) ++ entry_of e ∷ l) (sym (drop-map entry_of n es)))

pub insert_seen : (a : Inside) (es : List Element) (n : ℕ) (e : Element) → es ≡ insert a.boxes.items.items n e
    → map entry_of es ≡ insert (elements_of (page_seen a)) n (entry_of e)
insert_seen a es n e h =
    ap (map entry_of) h ∙ (map-insert a.boxes.items.items n e ∙ ap (λ l. insert l n (entry_of e)) (sym (elements_seen a)))

pub place_seen : (a : Inside) (p : Page) → page_seen a ≡ p → (n : ℕ) → n ≤ length (elements_of p) → n ≤ length a.boxes.items.items
place_seen a p e n h =
    omega (arith, ap (λ q. length (elements_of q)) e, ap length (elements_seen a), length-map a.boxes.items.items entry_of)
