-- Changes along paths.
use Rattle.std.proofs.Common.{◌≡◌, ℕ, zero, suc, ◌-◌, List, [], ◌∷◌, ◌++◌, length, take, slice_get, Option, Some, None, refl, sym, ap, ◌∙◌, subst, arith}
use Rattle.std.specs.Prelude.{option_and_then}
use Rattle.std.proofs.lemmas.Option.{none-some, same_Some}
use Rattle.pd_canvas.specs.declared.wires.Wire.{Wire}
use Rattle.pd_canvas.specs.Pages.{Shape, Obj, Msg, Comment, FloatBox, SymbolBox, Sub, Array, Other, Page, Entry, elements_of, with_elements}
use Rattle.pd_canvas.specs.Paths.{page_within, sub_page, page_in, along, at_place, inside, change_box, edit_at}
use Rattle.pd_canvas.specs.Edits.{with_wires}
use Rattle.pd_undo.specs.Inverses.{around, rewired}
use Rattle.pd_undo.proofs.ActLemmas.{listed_boxed, as_both}

place_on : (i : ℕ) (f g : Entry → Entry) (es : List Entry) → at_place i f (at_place i g es) ≡ at_place i (λ e. f (g e)) es
place_on i f g [] = refl
place_on zero f g (e ∷ es) = refl
place_on (suc i) f g (e ∷ es) = ap (λ l. e ∷ l) (place_on i f g es)

place_as : (i : ℕ) (f g : Entry → Entry) (es : List Entry) → ((e : Entry) → f e ≡ g e) → at_place i f es ≡ at_place i g es
place_as i f g [] k = refl
place_as zero f g (e ∷ es) k = ap (λ x. x ∷ es) (k e)
place_as (suc i) f g (e ∷ es) k = ap (λ l. e ∷ l) (place_as i f g es k)

place_same : (i : ℕ) (f : Entry → Entry) (es : List Entry) (x : Entry) → slice_get es i ≡ Some x → f x ≡ x → at_place i f es ≡ es
place_same i f [] x h k = refl
place_same zero f (e ∷ es) x h k = ap (λ y. y ∷ es) (subst (λ y. f y ≡ y) (sym (same_Some e x h)) k)
place_same (suc i) f (e ∷ es) x h k = ap (λ l. e ∷ l) (place_same i f es x h k)

place_none : (i : ℕ) (f : Entry → Entry) (es : List Entry) → ((e : Entry) → f e ≡ e) → at_place i f es ≡ es
place_none i f [] k = refl
place_none zero f (e ∷ es) k = ap (λ y. y ∷ es) (k e)
place_none (suc i) f (e ∷ es) k = ap (λ l. e ∷ l) (place_none i f es k)

place_got : (i : ℕ) (f : Entry → Entry) (es : List Entry) (x : Entry) → slice_get es i ≡ Some x → slice_get (at_place i f es) i ≡ Some (f x)
place_got i f [] x h = absurd (none-some x h)
place_got zero f (e ∷ es) x h = ap (λ y. Some (f y)) (same_Some e x h)
place_got (suc i) f (e ∷ es) x h = place_got i f es x h

-- one box changed
box_on : (i : ℕ) (f g : Entry → Entry) (p : Page) → change_box i f (change_box i g p) ≡ change_box i (λ e. f (g e)) p
box_on i f g p =
    ap (λ l. with_elements (at_place i f l) p) (listed_boxed (at_place i g (elements_of p)))
    ∙ ap (λ l. with_elements l p) (place_on i f g (elements_of p))

box_as : (i : ℕ) (f g : Entry → Entry) (p : Page) → ((e : Entry) → f e ≡ g e) → change_box i f p ≡ change_box i g p
box_as i f g p k = ap (λ l. with_elements l p) (place_as i f g (elements_of p) k)

box_same : (i : ℕ) (f : Entry → Entry) (p : Page) (x : Entry) → slice_get (elements_of p) i ≡ Some x → f x ≡ x → change_box i f p ≡ p
box_same i f p x h k = ap (λ l. with_elements l p) (place_same i f (elements_of p) x h k) ∙ as_both p

box_none : (i : ℕ) (f : Entry → Entry) (p : Page) → ((e : Entry) → f e ≡ e) → change_box i f p ≡ p
box_none i f p k = ap (λ l. with_elements l p) (place_none i f (elements_of p) k) ∙ as_both p

inside_as : (f g : Page → Page) (e : Entry) → f e.page ≡ g e.page → inside f e ≡ inside g e
inside_as f g e h = ap (λ p. record { head = e.head; page = p }) h

-- what stands in a box
within_is : (s : Shape) (p q : Page) → page_within s p ≡ Some q → p ≡ q
within_is Sub p q h = same_Some p q h
within_is Obj p q h = absurd (none-some q h)
within_is Msg p q h = absurd (none-some q h)
within_is Comment p q h = absurd (none-some q h)
within_is FloatBox p q h = absurd (none-some q h)
within_is SymbolBox p q h = absurd (none-some q h)
within_is (Array vs) p q h = absurd (none-some q h)
within_is (Other s) p q h = absurd (none-some q h)

within_else : (s : Shape) (p q r : Page) → page_within s p ≡ Some q → page_within s r ≡ Some r
within_else Sub p q r h = refl
within_else Obj p q r h = absurd (none-some q h)
within_else Msg p q r h = absurd (none-some q h)
within_else Comment p q r h = absurd (none-some q h)
within_else FloatBox p q r h = absurd (none-some q h)
within_else SymbolBox p q r h = absurd (none-some q h)
within_else (Array vs) p q r h = absurd (none-some q h)
within_else (Other s) p q r h = absurd (none-some q h)

-- the box that holds a page
pub record Holds (i : ℕ) (p q : Page) : Type 0 where
  pub box : Entry
  pub there : slice_get (elements_of p) i ≡ Some box
  pub page : sub_page box ≡ Some q

pub holds : (i : ℕ) (p q : Page) → page_in i p ≡ Some q → Holds i p q
holds i p q h = at (slice_get (elements_of p) i) refl h where
  at : (o : Option Entry) → slice_get (elements_of p) i ≡ o → option_and_then sub_page o ≡ Some q → Holds i p q
  at None s k = absurd (none-some q k)
  at (Some x) s k = record { box = x; there = s; page = k }

pub held_page : (i : ℕ) (p q : Page) (k : Holds i p q) → k.box.page ≡ q
held_page i p q k = within_is k.box.head.form k.box.page q k.page

box_back_same : (i : ℕ) (f : Page → Page) (p q : Page) → page_in i p ≡ Some q → f q ≡ q → change_box i (inside f) p ≡ p
box_back_same i f p q h k =
    let b = holds i p q h in
    box_same i (inside f) p b.box b.there
    (inside_as f (λ x. x) b.box (subst (λ x. f x ≡ x) (sym (held_page i p q b)) k))

in_changed : (i : ℕ) (f : Page → Page) (p q : Page) → page_in i p ≡ Some q → page_in i (change_box i (inside f) p) ≡ Some (f q)
in_changed i f p q h =
    let b = holds i p q h in
    ap (λ l. option_and_then sub_page (slice_get l i)) (listed_boxed (at_place i (inside f) (elements_of p)))
    ∙ (ap (option_and_then sub_page) (place_got i (inside f) (elements_of p) b.box b.there)
    ∙ (within_else b.box.head.form b.box.page q (f b.box.page) b.page
    ∙ ap (λ x. Some (f x)) (held_page i p q b)))

-- changes of one page one after the other
pub edit_on : (path : List ℕ) (f g : Page → Page) (d : Page) → edit_at path f (edit_at path g d) ≡ edit_at path (λ p. f (g p)) d
edit_on [] f g d = refl
edit_on (i ∷ path) f g d =
    box_on i (inside (edit_at path f)) (inside (edit_at path g)) d
    ∙ box_as i (λ e. inside (edit_at path f) (inside (edit_at path g) e)) (inside (edit_at path (λ p. f (g p)))) d
    (λ e. inside_as (λ p. edit_at path f (edit_at path g p)) (edit_at path (λ p. f (g p))) e (edit_on path f g e.page))

pub edit_none : (path : List ℕ) (d : Page) → edit_at path (λ p. p) d ≡ d
edit_none [] d = refl
edit_none (i ∷ path) d =
    box_none i (inside (edit_at path (λ p. p))) d (λ e. inside_as (edit_at path (λ p. p)) (λ p. p) e (edit_none path e.page))

edit_split : (a : List ℕ) (i : ℕ) (f : Page → Page) (d : Page) → edit_at (a ++ i ∷ []) f d ≡ edit_at a (change_box i (inside f)) d
edit_split [] i f d = refl
edit_split (j ∷ a) i f d =
    box_as j (inside (edit_at (a ++ i ∷ []) f)) (inside (edit_at a (change_box i (inside f)))) d
    (λ e. inside_as (edit_at (a ++ i ∷ []) f) (edit_at a (change_box i (inside f))) e (edit_split a i f e.page))

-- the first box on a path, and where the path goes on from it
pub record Leads (i : ℕ) (path : List ℕ) (d p : Page) : Type 0 where
  pub inner : Page
  pub first : page_in i d ≡ Some inner
  pub on : along path inner ≡ Some p

pub leads : (i : ℕ) (path : List ℕ) (d p : Page) → along (i ∷ path) d ≡ Some p → Leads i path d p
leads i path d p h = at (page_in i d) refl h where
  at : (o : Option Page) → page_in i d ≡ o → option_and_then (along path) o ≡ Some p → Leads i path d p
  at None s k = absurd (none-some p k)
  at (Some q) s k = record { inner = q; first = s; on = k }

edit_same : (path : List ℕ) (f : Page → Page) (d p : Page) → along path d ≡ Some p → f p ≡ p → edit_at path f d ≡ d
edit_same [] f d p h k = subst (λ x. f x ≡ x) (sym (same_Some d p h)) k
edit_same (i ∷ path) f d p h k =
    let l = leads i path d p h in
    box_back_same i (edit_at path f) d l.inner l.first (edit_same path f l.inner p l.on k)

-- the page that a path leads to after a change there
pub along_edited : (path : List ℕ) (f : Page → Page) (d p : Page) → along path d ≡ Some p → along path (edit_at path f d) ≡ Some (f p)
along_edited [] f d p h = ap (λ x. Some (f x)) (same_Some d p h)
along_edited (i ∷ path) f d p h =
    let l = leads i path d p h in
    ap (option_and_then (along path)) (in_changed i (edit_at path f) d l.inner l.first) ∙ along_edited path f l.inner p l.on

-- the page around
pub record Around (a : List ℕ) (i : ℕ) (d c : Page) : Type 0 where
  pub outer : Page
  pub there : along a d ≡ Some outer
  pub inner : page_in i outer ≡ Some c

pub is_around : (a : List ℕ) (i : ℕ) (d c : Page) → along (a ++ i ∷ []) d ≡ Some c → Around a i d c
is_around [] i d c h =
    let l = leads i [] d c h in
    record { outer = d; there = refl; inner = l.first ∙ l.on }
is_around (j ∷ a) i d c h =
    let l = leads j (a ++ i ∷ []) d c h in
    let r = is_around a i l.inner c l.on in
    record { outer = r.outer; there = ap (option_and_then (along a)) l.first ∙ r.there; inner = r.inner }

-- a path that is not empty, as the path around and its last number
pub record Splits (path : List ℕ) : Type 0 where
  pub last : ℕ
  pub is : path ≡ around path ++ last ∷ []

around_on : (i j : ℕ) (path : List ℕ) → around (i ∷ (j ∷ path)) ≡ i ∷ around (j ∷ path)
around_on i j path =
    let e : length (i ∷ (j ∷ path)) - 1 ≡ suc (length (j ∷ path) - 1) = omega arith in
    ap (λ n. take n (i ∷ (j ∷ path))) e

pub splits : (i : ℕ) (path : List ℕ) → Splits (i ∷ path)
splits i [] = record { last = i; is = refl }
splits i (j ∷ path) =
    let s = splits j path in
    record { last = s.last; is = ap (λ l. i ∷ l) s.is ∙ ap (λ l. l ++ s.last ∷ []) (sym (around_on i j path)) }

-- wires around, and a change inside, in either order
pub edit_past : (a : List ℕ) (i : ℕ) (f : Page → Page) (ws : List Wire) (d : Page)
    → edit_at (a ++ i ∷ []) f (edit_at a (with_wires ws) d) ≡ edit_at a (with_wires ws) (edit_at (a ++ i ∷ []) f d)
edit_past a i f ws d =
    edit_split a i f (edit_at a (with_wires ws) d)
    ∙ (edit_on a (change_box i (inside f)) (with_wires ws) d
    ∙ (sym (edit_on a (with_wires ws) (change_box i (inside f)) d)
    ∙ ap (edit_at a (with_wires ws)) (sym (edit_split a i f d))))

-- a change of a page and of the wires around it, taken back
pub change_undone : (a : List ℕ) (i : ℕ) (f g : Page → Page) (outer : List Wire → List Wire) (d c p : Page)
    → along a d ≡ Some p → page_in i p ≡ Some c → f (g c) ≡ c
    → edit_at a (with_wires p.wires) (edit_at (a ++ i ∷ []) f (edit_at a (rewired outer) (edit_at (a ++ i ∷ []) g d))) ≡ d
change_undone a i f g outer d c p h k back =
    let inner : Page → Page = change_box i (inside f) in
    let before : Page → Page = change_box i (inside g) in
    ap (edit_at a (with_wires p.wires)) (edit_split a i f (edit_at a (rewired outer) (edit_at (a ++ i ∷ []) g d)))
    ∙ (ap (λ x. edit_at a (with_wires p.wires) (edit_at a inner (edit_at a (rewired outer) x))) (edit_split a i g d)
    ∙ (ap (λ x. edit_at a (with_wires p.wires) (edit_at a inner x)) (edit_on a (rewired outer) before d)
    ∙ (ap (edit_at a (with_wires p.wires)) (edit_on a inner (λ x. rewired outer (before x)) d)
    ∙ (edit_on a (with_wires p.wires) (λ x. inner (rewired outer (before x))) d
    ∙ edit_same a (λ x. with_wires p.wires (inner (rewired outer (before x)))) d p h
    (ap (with_wires p.wires) (box_on i (inside f) (inside g) p)
    ∙ box_back_same i (λ x. f (g x)) p c k back)))))

-- what keeps the boxes of the page around keeps the page inside
pub along_kept : (a : List ℕ) (i : ℕ) (f : Page → Page) (d c : Page) → ((q : Page) → page_in i (f q) ≡ page_in i q)
    → along (a ++ i ∷ []) d ≡ Some c → along (a ++ i ∷ []) (edit_at a f d) ≡ Some c
along_kept [] i f d c k h = ap (option_and_then (along [])) (k d) ∙ h
along_kept (j ∷ a) i f d c k h =
    let l = leads j (a ++ i ∷ []) d c h in
    ap (option_and_then (along (a ++ i ∷ []))) (in_changed j (edit_at a f) d l.inner l.first) ∙ along_kept a i f l.inner c k l.on

-- the page around the one that a path leads to
pub stands : (i : ℕ) (path : List ℕ) (d c : Page) → along (i ∷ path) d ≡ Some c → Around (around (i ∷ path)) (splits i path).last d c
stands i path d c h =
    is_around (around (i ∷ path)) (splits i path).last d c (ap (λ l. along l d) (sym (splits i path).is) ∙ h)

pub around_undone : (i : ℕ) (path : List ℕ) (f g : Page → Page) (outer : List Wire → List Wire) (d c : Page) (r : Around (around (i ∷ path)) (splits i path).last d c)
    → f (g c) ≡ c
    → edit_at (around (i ∷ path)) (with_wires r.outer.wires) (edit_at (i ∷ path) f (edit_at (around (i ∷ path)) (rewired outer) (edit_at (i ∷ path) g d))) ≡ d
around_undone i path f g outer d c r back =
    let a = around (i ∷ path) in
    subst (λ l. edit_at a (with_wires r.outer.wires) (edit_at l f (edit_at a (rewired outer) (edit_at l g d))) ≡ d) (sym (splits i path).is)
    (change_undone a (splits i path).last f g outer d c r.outer r.there r.inner back)

pub around_past : (i : ℕ) (path : List ℕ) (f : Page → Page) (ws : List Wire) (d : Page)
    → edit_at (i ∷ path) f (edit_at (around (i ∷ path)) (with_wires ws) d) ≡ edit_at (around (i ∷ path)) (with_wires ws) (edit_at (i ∷ path) f d)
around_past i path f ws d =
    let a = around (i ∷ path) in
    subst (λ l. edit_at l f (edit_at a (with_wires ws) d) ≡ edit_at a (with_wires ws) (edit_at l f d)) (sym (splits i path).is)
    (edit_past a (splits i path).last f ws d)

pub around_kept : (i : ℕ) (path : List ℕ) (outer : List Wire → List Wire) (d c : Page) → along (i ∷ path) d ≡ Some c
    → along (i ∷ path) (edit_at (around (i ∷ path)) (rewired outer) d) ≡ Some c
around_kept i path outer d c h =
    let a = around (i ∷ path) in
    subst (λ l. along l (edit_at a (rewired outer) d) ≡ Some c) (sym (splits i path).is)
    (along_kept a (splits i path).last (rewired outer) d c (λ q. refl) (ap (λ l. along l d) (sym (splits i path).is) ∙ h))
