-- Acts of one page taken back.
use Rattle.std.proofs.Common.{◌≡◌, ℕ, zero, suc, ◌<◌, ◌≤◌, List, [], ◌∷◌, ◌++◌, length, insert, remove, get_or, slice_get, refl, sym, ap, ◌∙◌, subst, arith}
use Rattle.std.specs.Prelude.{IsSomeAnd}
use Rattle.pd_canvas.specs.declared.wires.Wire.{Wire}
use Rattle.pd_canvas.specs.declared.edits.Edit.{Edit}
use Rattle.pd_canvas.specs.declared.edits.Edit.TheVariants as edit
use Rattle.pd_canvas.specs.Pages.{Boxes, End, Box, Page, Entry, listed, boxed, elements_of, with_elements}
use Rattle.pd_canvas.specs.Paths.{at_place}
use Rattle.pd_canvas.specs.Edits.{Fits, edited, retyped, moved, with_wires, CanRetype, CanMove}
use Rattle.pd_undo.specs.Acts.{Act, Put, Take, Swap, Wires, acted, IsThere}
use Rattle.pd_undo.specs.Inverses.{box_at, box_back, opposite, wires_for, GivesWires}

pub listed_boxed : (es : List Entry) → listed (boxed es) ≡ es
listed_boxed [] = refl
listed_boxed (e ∷ es) = ap (λ l. e ∷ l) (listed_boxed es)

pub boxed_listed : (b : Boxes) → boxed (listed b) ≡ b
boxed_listed End = refl
boxed_listed (Box h f inner rest) = ap (Box h f inner) (boxed_listed rest)

-- lists
put_taken : (es : List Entry) (n : ℕ) (x : Entry) → n ≤ length es → remove (insert es n x) n ≡ es
put_taken [] zero x h = refl
put_taken [] (suc n) x h = absurd (omega arith)
put_taken (e ∷ es) zero x h = refl
put_taken (e ∷ es) (suc n) x h = ap (λ l. e ∷ l) (put_taken es n x (omega arith))

taken_put : (es : List Entry) (n : ℕ) (d : Entry) → n < length es → insert (remove es n) n (get_or es n d) ≡ es
taken_put [] n d h = absurd (omega arith)
taken_put (e ∷ es) zero d h = refl
taken_put (e ∷ es) (suc n) d h = ap (λ l. e ∷ l) (taken_put es n d (omega arith))

changed_back : (es : List Entry) (n : ℕ) (f : Entry → Entry) (d : Entry) → n < length es
    → at_place n (λ _. get_or es n d) (at_place n f es) ≡ es
changed_back [] n f d h = absurd (omega arith)
changed_back (e ∷ es) zero f d h = refl
changed_back (e ∷ es) (suc n) f d h = ap (λ l. e ∷ l) (changed_back es n f d (omega arith))

added_taken : (es : List Entry) (x : Entry) → remove (es ++ x ∷ []) (length es) ≡ es
added_taken [] x = refl
added_taken (e ∷ es) x = ap (λ l. e ∷ l) (added_taken es x)

length_insert : (es : List Entry) (n : ℕ) (x : Entry) → n ≤ length es → length (insert es n x) ≡ suc (length es)
length_insert [] zero x h = refl
length_insert [] (suc n) x h = absurd (omega arith)
length_insert (e ∷ es) zero x h = refl
length_insert (e ∷ es) (suc n) x h = ap (λ k. suc k) (length_insert es n x (omega arith))

length_remove : (es : List Entry) (n : ℕ) → n < length es → suc (length (remove es n)) ≡ length es
length_remove [] n h = absurd (omega arith)
length_remove (e ∷ es) zero h = refl
length_remove (e ∷ es) (suc n) h = ap (λ k. suc k) (length_remove es n (omega arith))

length_changed : (es : List Entry) (n : ℕ) (f : Entry → Entry) → length (at_place n f es) ≡ length es
length_changed [] n f = refl
length_changed (e ∷ es) zero f = refl
length_changed (e ∷ es) (suc n) f = ap (λ k. suc k) (length_changed es n f)

length_added : (es : List Entry) (x : Entry) → length (es ++ x ∷ []) ≡ suc (length es)
length_added [] x = refl
length_added (e ∷ es) x = ap (λ k. suc k) (length_added es x)

some_below : (P : Entry → Type 0) (es : List Entry) (n : ℕ) → IsSomeAnd (slice_get es n) P → n < length es
some_below P [] n h = absurd h
some_below P (e ∷ es) zero h = omega arith
some_below P (e ∷ es) (suc n) h = omega (arith, some_below P es n h)

-- a page with other boxes and wires
abbrev pub with_both : List Entry → List Wire → Page → Page
with_both es ws p = with_wires ws (with_elements es p)

pub as_both : (p : Page) → with_both (elements_of p) p.wires p ≡ p
as_both p = ap (λ b. record { header = p.header; kept = p.kept; boxes = b; wires = p.wires; coords = p.coords }) (boxed_listed p.boxes)

-- acts one by one
abbrev pub all_acted : List Act → Page → Page
all_acted [] p = p
all_acted (a ∷ acts) p = all_acted acts (acted a p)

-- what acts do with the boxes alone
abbrev pub boxes_acted : Act → List Entry → List Entry
boxes_acted (Put n e) es = insert es n e
boxes_acted (Take n) es = remove es n
boxes_acted (Swap n e) es = at_place n (λ _. e) es
boxes_acted (Wires ws) es = es

abbrev pub all_boxes : List Act → List Entry → List Entry
all_boxes [] es = es
all_boxes (a ∷ acts) es = all_boxes acts (boxes_acted a es)

one_act : (a : Act) (p : Page) → acted a p ≡ with_both (boxes_acted a (elements_of p)) (acted a p).wires p
one_act (Put n e) p = refl
one_act (Take n) p = refl
one_act (Swap n e) p = refl
one_act (Wires ws) p = ap (λ b. record { header = p.header; kept = p.kept; boxes = b; wires = ws; coords = p.coords }) (sym (boxed_listed p.boxes))

pub elements_acted : (a : Act) (p : Page) → elements_of (acted a p) ≡ boxes_acted a (elements_of p)
elements_acted a p = ap elements_of (one_act a p) ∙ listed_boxed (boxes_acted a (elements_of p))

pub all_acts : (acts : List Act) (p : Page) → all_acted acts p ≡ with_both (all_boxes acts (elements_of p)) (all_acted acts p).wires p
all_acts [] p = sym (as_both p)
all_acts (a ∷ acts) p =
    all_acts acts (acted a p)
    ∙ (ap (λ es. with_both (all_boxes acts es) (all_acted acts (acted a p)).wires (acted a p)) (elements_acted a p)
    ∙ ap (with_both (all_boxes acts (boxes_acted a (elements_of p))) (all_acted acts (acted a p)).wires) (one_act a p))

acted_on : (acts bs : List Act) (p : Page) → all_acted (acts ++ bs) p ≡ all_acted bs (all_acted acts p)
acted_on [] bs p = refl
acted_on (a ∷ acts) bs p = acted_on acts bs (acted a p)

boxes_on : (acts bs : List Act) (es : List Entry) → all_boxes (acts ++ bs) es ≡ all_boxes bs (all_boxes acts es)
boxes_on [] bs es = refl
boxes_on (a ∷ acts) bs es = boxes_on acts bs (boxes_acted a es)

-- the acts that take acts back
abbrev pub opposites_in : List Act → Page → List Act
opposites_in [] p = []
opposites_in (a ∷ acts) p = opposites_in acts (acted a p) ++ opposite a p

abbrev pub wires_as : List Act → List Wire → List Act
wires_as [] ws = []
wires_as (a ∷ acts) ws = wires_for a ws ++ wires_as acts ws

abbrev pub inverse_in : List Act → Page → List Act
inverse_in acts p = opposites_in acts p ++ wires_as acts p.wires

-- the boxes that acts name are there, each in its turn
abbrev pub AllThere : List Act → Page → Type 0
AllThere [] p = Unit {0}
AllThere (a ∷ acts) p = IsThere a p × AllThere acts (acted a p)

opposite_back : (a : Act) (p : Page) → IsThere a p → all_boxes (opposite a p) (boxes_acted a (elements_of p)) ≡ elements_of p
opposite_back (Put n e) p h = put_taken (elements_of p) n e h
opposite_back (Take n) p h = taken_put (elements_of p) n _ h
opposite_back (Swap n e) p h = changed_back (elements_of p) n (λ _. e) _ h
opposite_back (Wires ws) p h = refl

opposites_back : (acts : List Act) (p : Page) → AllThere acts p → all_boxes (opposites_in acts p) (all_boxes acts (elements_of p)) ≡ elements_of p
opposites_back [] p h = refl
opposites_back (a ∷ acts) p h =
    boxes_on (opposites_in acts (acted a p)) (opposite a p) (all_boxes acts (boxes_acted a (elements_of p)))
    ∙ (ap (all_boxes (opposite a p))
    (ap (λ es. all_boxes (opposites_in acts (acted a p)) (all_boxes acts es)) (sym (elements_acted a p))
    ∙ (opposites_back acts (acted a p) h.1 ∙ elements_acted a p))
    ∙ opposite_back a p h.0)

-- the wires are those that are given last
wires_stay : (acts : List Act) (ws : List Wire) (p : Page) → all_acted (wires_as acts ws) (with_wires ws p) ≡ with_wires ws p
wires_stay [] ws p = refl
wires_stay (Put n e ∷ acts) ws p = wires_stay acts ws p
wires_stay (Take n ∷ acts) ws p = wires_stay acts ws p
wires_stay (Swap n e ∷ acts) ws p = wires_stay acts ws p
wires_stay (Wires vs ∷ acts) ws p = wires_stay acts ws p

wires_given : (acts : List Act) (ws : List Wire) (p : Page) → GivesWires acts → all_acted (wires_as acts ws) p ≡ with_wires ws p
wires_given [] ws p h = absurd h
wires_given (Put n e ∷ acts) ws p h = wires_given acts ws p h
wires_given (Take n ∷ acts) ws p h = wires_given acts ws p h
wires_given (Swap n e ∷ acts) ws p h = wires_given acts ws p h
wires_given (Wires vs ∷ acts) ws p h = wires_stay acts ws p

-- acts that bring the boxes back, and then the wires
brought_back : (acts : List Act) (p q : Page) (es : List Entry) → q ≡ with_both es q.wires p → all_boxes acts es ≡ elements_of p
    → with_wires p.wires (all_acted acts q) ≡ p
brought_back acts p q es s h =
    ap (with_wires p.wires)
    (all_acts acts q
    ∙ ap (λ x. with_both (all_boxes acts (elements_of x)) (all_acted acts q).wires x) s)
    ∙ (ap (λ l. with_both (all_boxes acts l) p.wires p) (listed_boxed es)
    ∙ (ap (λ l. with_both l p.wires p) h ∙ as_both p))

pub acts_undone : (acts : List Act) (p : Page) (ws : List Wire) → AllThere acts p → GivesWires acts
    → all_acted (inverse_in acts p) (with_wires ws (all_acted acts p)) ≡ p
acts_undone acts p ws h g =
    let q : Page = with_wires ws (all_acted acts p) in
    acted_on (opposites_in acts p) (wires_as acts p.wires) q
    ∙ (wires_given acts p.wires (all_acted (opposites_in acts p) q) g
    ∙ brought_back (opposites_in acts p) p q (all_boxes acts (elements_of p)) (ap (with_wires ws) (all_acts acts p)) (opposites_back acts p h))

-- an edit of boxes and wires
abbrev boxes_edited : Edit → Page → List Entry
boxes_edited e p = elements_of (edited e p)

listed_again : (es : List Entry) (ws : List Wire) (p : Page) → with_both es ws p ≡ with_both (listed (boxed es)) ws p
listed_again es ws p = ap (λ l. with_both l ws p) (sym (listed_boxed es))

edit_both : (e : Edit) (p : Page) → edited e p ≡ with_both (boxes_edited e p) (edited e p).wires p
edit_both (edit.Obj x y text) p = listed_again _ p.wires p
edit_both (edit.Msg x y text) p = listed_again _ p.wires p
edit_both (edit.Comment x y text) p = listed_again _ p.wires p
edit_both (edit.FloatBox x y text) p = listed_again _ p.wires p
edit_both (edit.SymbolBox x y text) p = listed_again _ p.wires p
edit_both (edit.Sub x y name) p = listed_again _ p.wires p
edit_both (edit.Connect wire) p = sym (as_both (edited (edit.Connect wire) p))
edit_both (edit.Disconnect wire) p = sym (as_both (edited (edit.Disconnect wire) p))
edit_both (edit.Delete number) p = listed_again _ (edited (edit.Delete number) p).wires p
edit_both (edit.Retype number text) p = listed_again _ p.wires p
edit_both (edit.Move number x y) p = listed_again _ p.wires p

one_less : (p : Page) (x : Entry) → remove (listed (boxed (elements_of p ++ x ∷ []))) (length (elements_of p)) ≡ elements_of p
one_less p x = ap (λ l. remove l (length (elements_of p))) (listed_boxed (elements_of p ++ x ∷ [])) ∙ added_taken (elements_of p) x

changed_again : (p : Page) (n : ℕ) (f : Entry → Entry) → n < length (elements_of p)
    → at_place n (λ _. box_at n p) (listed (boxed (at_place n f (elements_of p)))) ≡ elements_of p
changed_again p n f h =
    ap (at_place n (λ _. box_at n p)) (listed_boxed (at_place n f (elements_of p))) ∙ changed_back (elements_of p) n f _ h

box_taken_back : (e : Edit) (p : Page) → Fits e p → all_boxes (box_back e p) (boxes_edited e p) ≡ elements_of p
box_taken_back (edit.Obj x y text) p h = one_less p _
box_taken_back (edit.Msg x y text) p h = one_less p _
box_taken_back (edit.Comment x y text) p h = one_less p _
box_taken_back (edit.FloatBox x y text) p h = one_less p _
box_taken_back (edit.SymbolBox x y text) p h = one_less p _
box_taken_back (edit.Sub x y name) p h = one_less p _
box_taken_back (edit.Connect wire) p h = refl
box_taken_back (edit.Disconnect wire) p h = refl
box_taken_back (edit.Delete number) p h =
    ap (λ l. insert l number (box_at number p)) (listed_boxed (remove (elements_of p) number)) ∙ taken_put (elements_of p) number _ h
box_taken_back (edit.Retype number text) p h = changed_again p number (retyped text) (some_below CanRetype (elements_of p) number h)
box_taken_back (edit.Move number x y) p h = changed_again p number (moved x y) (some_below CanMove (elements_of p) number h)

-- the acts that take an edit back
abbrev pub acts_back : Edit → Page → List Act
acts_back e p = box_back e p ++ Wires p.wires ∷ []

pub edit_undone : (e : Edit) (p : Page) (ws : List Wire) → Fits e p → all_acted (acts_back e p) (with_wires ws (edited e p)) ≡ p
edit_undone e p ws h =
    let q : Page = with_wires ws (edited e p) in
    acted_on (box_back e p) (Wires p.wires ∷ []) q
    ∙ brought_back (box_back e p) p q (boxes_edited e p) (ap (with_wires ws) (edit_both e p)) (box_taken_back e p h)

-- whether acts are there hangs on the boxes alone
there_by : (a : Act) (p q : Page) → elements_of p ≡ elements_of q → IsThere a p → IsThere a q
there_by (Put n e) p q s h = subst (λ es. n ≤ length es) s h
there_by (Take n) p q s h = subst (λ es. n < length es) s h
there_by (Swap n e) p q s h = subst (λ es. n < length es) s h
there_by (Wires ws) p q s h = tt

there_elsewhere : (acts : List Act) (p q : Page) → elements_of p ≡ elements_of q → AllThere acts p → AllThere acts q
there_elsewhere [] p q s h = tt
there_elsewhere (a ∷ acts) p q s h = (
  there_by a p q s h.0,
  there_elsewhere acts (acted a p) (acted a q) (elements_acted a p ∙ (ap (boxes_acted a) s ∙ sym (elements_acted a q))) h.1,
)

there_on : (acts bs : List Act) (p : Page) → AllThere acts p → AllThere bs (all_acted acts p) → AllThere (acts ++ bs) p
there_on [] bs p h k = k
there_on (a ∷ acts) bs p h k = (h.0, there_on acts bs (acted a p) h.1 k)

elements_all : (acts : List Act) (p : Page) → elements_of (all_acted acts p) ≡ all_boxes acts (elements_of p)
elements_all acts p = ap elements_of (all_acts acts p) ∙ listed_boxed (all_boxes acts (elements_of p))

opposite_there : (a : Act) (p : Page) → IsThere a p → AllThere (opposite a p) (acted a p)
opposite_there (Put n e) p h =
    (omega (arith, ap length (listed_boxed (insert (elements_of p) n e)), length_insert (elements_of p) n e h), tt)
opposite_there (Take n) p h =
    (omega (arith, h, ap length (listed_boxed (remove (elements_of p) n)), length_remove (elements_of p) n h), tt)
opposite_there (Swap n e) p h =
    (omega (arith, h, ap length (listed_boxed (at_place n (λ _. e) (elements_of p))), length_changed (elements_of p) n (λ _. e)), tt)
opposite_there (Wires ws) p h = tt

opposites_there : (acts : List Act) (p : Page) → AllThere acts p → AllThere (opposites_in acts p) (all_acted acts p)
opposites_there [] p h = tt
opposites_there (a ∷ acts) p h =
    let back : List Act = opposites_in acts (acted a p) in
    let after : Page = all_acted acts (acted a p) in
    there_on back (opposite a p) after (opposites_there acts (acted a p) h.1)
    (there_elsewhere (opposite a p) (acted a p) (all_acted back after)
    (sym (elements_all back after ∙ (ap (all_boxes back) (elements_all acts (acted a p)) ∙ opposites_back acts (acted a p) h.1)))
    (opposite_there a p h.0))

wires_there : (acts : List Act) (ws : List Wire) (p : Page) → AllThere (wires_as acts ws) p
wires_there [] ws p = tt
wires_there (Put n e ∷ acts) ws p = wires_there acts ws p
wires_there (Take n ∷ acts) ws p = wires_there acts ws p
wires_there (Swap n e ∷ acts) ws p = wires_there acts ws p
wires_there (Wires vs ∷ acts) ws p = (tt, wires_there acts ws (with_wires ws p))

pub inverse_there : (acts : List Act) (p : Page) (ws : List Wire) → AllThere acts p → AllThere (inverse_in acts p) (with_wires ws (all_acted acts p))
inverse_there acts p ws h =
    there_elsewhere (inverse_in acts p) (all_acted acts p) (with_wires ws (all_acted acts p)) refl
    (there_on (opposites_in acts p) (wires_as acts p.wires) (all_acted acts p) (opposites_there acts p h)
    (wires_there acts p.wires (all_acted (opposites_in acts p) (all_acted acts p))))

pub given_behind : (acts bs : List Act) → GivesWires bs → GivesWires (acts ++ bs)
given_behind [] bs h = h
given_behind (Put n e ∷ acts) bs h = given_behind acts bs h
given_behind (Take n ∷ acts) bs h = given_behind acts bs h
given_behind (Swap n e ∷ acts) bs h = given_behind acts bs h
given_behind (Wires ws ∷ acts) bs h = tt

given_as : (acts : List Act) (ws : List Wire) → GivesWires acts → GivesWires (wires_as acts ws)
given_as [] ws h = absurd h
given_as (Put n e ∷ acts) ws h = given_as acts ws h
given_as (Take n ∷ acts) ws h = given_as acts ws h
given_as (Swap n e ∷ acts) ws h = given_as acts ws h
given_as (Wires vs ∷ acts) ws h = tt

pub inverse_gives : (acts : List Act) (p : Page) → GivesWires acts → GivesWires (inverse_in acts p)
inverse_gives acts p h = given_behind (opposites_in acts p) (wires_as acts p.wires) (given_as acts p.wires h)

pub edit_gives : (e : Edit) (p : Page) → GivesWires (acts_back e p)
edit_gives e p = given_behind (box_back e p) (Wires p.wires ∷ []) tt

added_there : (p : Page) (x : Entry) → length (elements_of p) < length (listed (boxed (elements_of p ++ x ∷ [])))
added_there p x = omega (arith, ap length (listed_boxed (elements_of p ++ x ∷ [])), length_added (elements_of p) x)

changed_there : (p : Page) (n : ℕ) (f : Entry → Entry) → n < length (elements_of p) → n < length (listed (boxed (at_place n f (elements_of p))))
changed_there p n f h = omega (arith, h, ap length (listed_boxed (at_place n f (elements_of p))), length_changed (elements_of p) n f)

pub edit_there : (e : Edit) (p : Page) (ws : List Wire) → Fits e p → AllThere (acts_back e p) (with_wires ws (edited e p))
edit_there (edit.Obj x y text) p ws h = (added_there p _, (tt, tt))
edit_there (edit.Msg x y text) p ws h = (added_there p _, (tt, tt))
edit_there (edit.Comment x y text) p ws h = (added_there p _, (tt, tt))
edit_there (edit.FloatBox x y text) p ws h = (added_there p _, (tt, tt))
edit_there (edit.SymbolBox x y text) p ws h = (added_there p _, (tt, tt))
edit_there (edit.Sub x y name) p ws h = (added_there p _, (tt, tt))
edit_there (edit.Connect wire) p ws h = (tt, tt)
edit_there (edit.Disconnect wire) p ws h = (tt, tt)
edit_there (edit.Delete number) p ws h =
    (omega (arith, h, ap length (listed_boxed (remove (elements_of p) number)), length_remove (elements_of p) number h), (tt, tt))
edit_there (edit.Retype number text) p ws h = (changed_there p number (retyped text) (some_below CanRetype (elements_of p) number h), (tt, tt))
edit_there (edit.Move number x y) p ws h = (changed_there p number (moved x y) (some_below CanMove (elements_of p) number h), (tt, tt))
