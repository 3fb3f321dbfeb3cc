-- Turns taken back.
use Rattle.std.proofs.Common.{◌≡◌, ℕ, List, [], ◌∷◌, ◌++◌, Option, Some, None, unwrap_or, refl, sym, ap, ◌∙◌, subst, append_assoc}
use Rattle.std.specs.Prelude.{IsSomeAnd}
use Rattle.std.proofs.lemmas.Option.{same_Some}
use Rattle.std.proofs.lemmas.List.{map-append}
use Rattle.pd_canvas.specs.declared.wires.Wire.{Wire}
use Rattle.pd_canvas.specs.declared.edits.Edit.{Edit}
use Rattle.pd_canvas.specs.Pages.{Page, empty_page}
use Rattle.pd_canvas.specs.Paths.{along, edit_at}
use Rattle.pd_canvas.specs.Edits.{Fits, edited, with_wires}
use Rattle.pd_undo.specs.Acts.{Act, Wires, Placed, acted, done, all_done, IsThere, AreThere}
use Rattle.pd_undo.specs.Inverses.{page_at, around, at, wires_around, with_around, turns_back, opposite, opposites, wires_for, wires_of, inverse, GivesWires, rewired, rewired_at}
use Rattle.pd_undo.proofs.ActLemmas.{all_acted, opposites_in, wires_as, inverse_in, AllThere, acts_undone, acts_back, edit_undone, inverse_there, inverse_gives, edit_gives, edit_there}
use Rattle.pd_undo.proofs.PathLemmas.{edit_on, edit_none, along_edited, stands, around_undone, around_past, around_kept}

-- a path that leads to a page
page_is : (path : List ℕ) (d p : Page) → along path d ≡ Some p → page_at path d ≡ p
page_is path d p h = ap (λ o. unwrap_or o empty_page) h

pub record LeadsTo (P : Page → Type 0) (path : List ℕ) (d : Page) : Type 0 where
  pub page : Page
  pub there : along path d ≡ Some page
  pub holds : P page

pub leads_to : (P : Page → Type 0) (path : List ℕ) (d : Page) → IsSomeAnd (along path d) P → LeadsTo P path d
leads_to P path d h = on (along path d) refl h where
  on : (o : Option Page) → along path d ≡ o → IsSomeAnd o P → LeadsTo P path d
  on None e k = absurd k
  on (Some p) e k = record { page = p; there = e; holds = k }

some_and : (P : Page → Type 0) (path : List ℕ) (d p : Page) → along path d ≡ Some p → P p → IsSomeAnd (along path d) P
some_and P path d p h k = subst (λ o. IsSomeAnd o P) (sym h) k

-- turns of one page
turns_on : (ts us : List Placed) (d : Page) → all_done (ts ++ us) d ≡ all_done us (all_done ts d)
turns_on [] us d = refl
turns_on (t ∷ ts) us d = turns_on ts us (done t d)

done_at : (path : List ℕ) (acts : List Act) (d : Page) → all_done (at path acts) d ≡ edit_at path (all_acted acts) d
done_at path [] d = sym (edit_none path d)
done_at path (a ∷ acts) d = done_at path acts (edit_at path (acted a) d) ∙ edit_on path (all_acted acts) (acted a) d

done_around : (i : ℕ) (path : List ℕ) (acts : List Act) (ws : List Wire) (d : Page)
    → all_done (with_around (i ∷ path) acts ws) d ≡ edit_at (around (i ∷ path)) (with_wires ws) (edit_at (i ∷ path) (all_acted acts) d)
done_around i path acts ws d =
    turns_on (at (i ∷ path) acts) (at (around (i ∷ path)) (Wires ws ∷ [])) d
    ∙ ap (edit_at (around (i ∷ path)) (with_wires ws)) (done_at (i ∷ path) acts d)

done_root : (acts : List Act) (ws : List Wire) (d : Page) → all_done (with_around [] acts ws) d ≡ all_acted acts d
done_root acts ws d = turns_on (at [] acts) [] d ∙ done_at [] acts d

-- they are there where their acts are
there_at : (path : List ℕ) (acts : List Act) (us : List Placed) (d p : Page) → along path d ≡ Some p → AllThere acts p
    → AreThere us (edit_at path (all_acted acts) d) → AreThere (at path acts ++ us) d
there_at path [] us d p h k u = subst (AreThere us) (edit_none path d) u
there_at path (a ∷ acts) us d p h k u = (
  some_and (IsThere a) path d p h k.0,
  there_at path acts us (edit_at path (acted a) d) (acted a p) (along_edited path (acted a) d p h) k.1
      (subst (AreThere us) (sym (edit_on path (all_acted acts) (acted a) d)) u),
)

acts_there : (path : List ℕ) (acts : List Act) (us : List Placed) (d p : Page) → along path d ≡ Some p → AreThere (at path acts ++ us) d → AllThere acts p
acts_there path [] us d p h k = tt
acts_there path (a ∷ acts) us d p h k = (
  subst (λ o. IsSomeAnd o (IsThere a)) h k.0,
  acts_there path acts us (edit_at path (acted a) d) (acted a p) (along_edited path (acted a) d p h) k.1,
)

-- a page that the first act finds
pub leads_there : (path : List ℕ) (acts : List Act) (us : List Placed) (d : Page) → GivesWires acts → AreThere (at path acts ++ us) d → LeadsTo (AllThere acts) path d
leads_there path [] us d g h = absurd g
leads_there path (a ∷ acts) us d g h =
    let l = leads_to (IsThere a) path d h.0 in
    record { page = l.page; there = l.there; holds = acts_there path (a ∷ acts) us d l.page l.there h }

around_there : (i : ℕ) (path : List ℕ) (acts : List Act) (ws : List Wire) (d p : Page) → along (i ∷ path) d ≡ Some p → AllThere acts p
    → AreThere (with_around (i ∷ path) acts ws) d
around_there i path acts ws d p h k =
    let after : Page = edit_at (i ∷ path) (all_acted acts) d in
    let r = stands i path after (all_acted acts p) (along_edited (i ∷ path) (all_acted acts) d p h) in
    there_at (i ∷ path) acts (at (around (i ∷ path)) (Wires ws ∷ [])) d p h k
    (some_and (λ q. Unit {0}) (around (i ∷ path)) after r.outer r.there tt, tt)

pub form_there : (path : List ℕ) (acts : List Act) (ws : List Wire) (d p : Page) → along path d ≡ Some p → AllThere acts p → AreThere (with_around path acts ws) d
form_there [] acts ws d p h k = there_at [] acts [] d p h k tt
form_there (i ∷ path) acts ws d p h k = around_there i path acts ws d p h k

pub form_leads : (path : List ℕ) (acts : List Act) (ws : List Wire) (d : Page) → GivesWires acts → AreThere (with_around path acts ws) d → LeadsTo (AllThere acts) path d
form_leads path acts ws d g h = leads_there path acts (wires_around path ws) d g h

-- wires that go
abbrev same : List Wire → List Wire
same ws = ws

rewired_none : (path : List ℕ) (d : Page) → rewired_at path same same d ≡ d
rewired_none path d = edit_none (around path) (edit_at path (rewired same) d) ∙ edit_none path d

record After (path : List ℕ) (d p : Page) : Type 0 where
  pub wires : List Wire
  pub there : along path d ≡ Some (with_wires wires p)

after : (path : List ℕ) (inner outer : List Wire → List Wire) (d p : Page) → along path d ≡ Some p → After path (rewired_at path inner outer d) p
after [] inner outer d p h =
    record { wires = outer (inner d.wires); there = ap (λ x. Some (with_wires (outer (inner d.wires)) x)) (same_Some d p h) }
after (i ∷ path) inner outer d p h = record {
  wires = inner p.wires;
  there = around_kept i path outer (edit_at (i ∷ path) (rewired inner) d) (rewired inner p) (along_edited (i ∷ path) (rewired inner) d p h);
}

-- an edit taken back
edit_back_within : (i : ℕ) (path : List ℕ) (e : Edit) (d : Page) (inner outer : List Wire → List Wire) → LeadsTo (Fits e) (i ∷ path) d
    → all_done (turns_back (i ∷ path) e d) (rewired_at (i ∷ path) inner outer (edit_at (i ∷ path) (edited e) d)) ≡ d
edit_back_within i path e d inner outer l =
    let p = l.page in
    let a = around (i ∷ path) in
    let r = stands i path d p l.there in
    let late : Page = rewired_at (i ∷ path) inner outer (edit_at (i ∷ path) (edited e) d) in
    ap (λ q. all_done (with_around (i ∷ path) (acts_back e q) (page_at a d).wires) late) (page_is (i ∷ path) d p l.there)
    ∙ (ap (λ q. all_done (with_around (i ∷ path) (acts_back e p) q.wires) late) (page_is a d r.outer r.there)
    ∙ (done_around i path (acts_back e p) r.outer.wires late
    ∙ (ap (λ x. edit_at a (with_wires r.outer.wires) (edit_at (i ∷ path) (all_acted (acts_back e p)) (edit_at a (rewired outer) x)))
    (edit_on (i ∷ path) (rewired inner) (edited e) d)
    ∙ around_undone i path (all_acted (acts_back e p)) (λ x. rewired inner (edited e x)) outer d p r
    (edit_undone e p (inner (edited e p).wires) l.holds))))

pub edit_back : (path : List ℕ) (e : Edit) (d : Page) (inner outer : List Wire → List Wire) → IsSomeAnd (along path d) (Fits e)
    → all_done (turns_back path e d) (rewired_at path inner outer (edit_at path (edited e) d)) ≡ d
edit_back [] e d inner outer h =
    done_root (acts_back e d) d.wires (rewired_at [] inner outer (edited e d)) ∙ edit_undone e d (outer (inner (edited e d).wires)) h
edit_back (i ∷ path) e d inner outer h = edit_back_within i path e d inner outer (leads_to (Fits e) (i ∷ path) d h)

pub edit_back_plain : (path : List ℕ) (e : Edit) (d : Page) → IsSomeAnd (along path d) (Fits e)
    → all_done (turns_back path e d) (edit_at path (edited e) d) ≡ d
edit_back_plain path e d h =
    ap (all_done (turns_back path e d)) (sym (rewired_none path (edit_at path (edited e) d))) ∙ edit_back path e d same same h

pub edit_back_there : (path : List ℕ) (e : Edit) (d : Page) (inner outer : List Wire → List Wire) → IsSomeAnd (along path d) (Fits e)
    → AreThere (turns_back path e d) (rewired_at path inner outer (edit_at path (edited e) d))
edit_back_there path e d inner outer h =
    let l = leads_to (Fits e) path d h in
    let p = l.page in
    let late : Page = edit_at path (edited e) d in
    let w = after path inner outer late (edited e p) (along_edited path (edited e) d p l.there) in
    form_there path (acts_back e (page_at path d)) (page_at (around path) d).wires (rewired_at path inner outer late) (with_wires w.wires (edited e p)) w.there
    (subst (λ q. AllThere (acts_back e q) (with_wires w.wires (edited e p))) (sym (page_is path d p l.there)) (edit_there e p w.wires l.holds))

-- the inverse of turns of one page and the wires around it
abbrev act_at : List ℕ → Act → Placed
act_at path a = record { path = path; act = a }

joined_at : (path : List ℕ) (before behind : List Act) (us : List Placed) → at path before ++ (at path behind ++ us) ≡ at path (before ++ behind) ++ us
joined_at path before behind us =
    sym (append_assoc (at path before) (at path behind) us) ∙ ap (λ l. l ++ us) (sym (map-append (act_at path) before behind))

opposites_at : (path : List ℕ) (acts : List Act) (us : List Placed) (d p : Page) → along path d ≡ Some p → ((x : Page) → opposites us x ≡ [])
    → opposites (at path acts ++ us) d ≡ at path (opposites_in acts p)
opposites_at path [] us d p h k = k d
opposites_at path (a ∷ acts) us d p h k =
    ap (λ l. l ++ at path (opposite a (page_at path d)))
    (opposites_at path acts us (edit_at path (acted a) d) (acted a p) (along_edited path (acted a) d p h) k)
    ∙ (ap (λ q. at path (opposites_in acts (acted a p)) ++ at path (opposite a q)) (page_is path d p h)
    ∙ sym (map-append (act_at path) (opposites_in acts (acted a p)) (opposite a p)))

wires_at : (path : List ℕ) (acts : List Act) (us : List Placed) (d p : Page) → along path d ≡ Some p
    → wires_of (at path acts ++ us) d ≡ at path (wires_as acts p.wires) ++ wires_of us d
wires_at path [] us d p h = refl
wires_at path (a ∷ acts) us d p h =
    ap (λ l. at path (wires_for a (page_at path d).wires) ++ l) (wires_at path acts us d p h)
    ∙ (ap (λ q. at path (wires_for a q.wires) ++ (at path (wires_as acts p.wires) ++ wires_of us d)) (page_is path d p h)
    ∙ joined_at path (wires_for a p.wires) (wires_as acts p.wires) (wires_of us d))

inverse_at : (path : List ℕ) (acts : List Act) (us : List Placed) (d p : Page) → along path d ≡ Some p → ((x : Page) → opposites us x ≡ [])
    → inverse (at path acts ++ us) d ≡ at path (inverse_in acts p) ++ wires_of us d
inverse_at path acts us d p h k =
    ap (λ l. l ++ wires_of (at path acts ++ us) d) (opposites_at path acts us d p h k)
    ∙ (ap (λ l. at path (opposites_in acts p) ++ l) (wires_at path acts us d p h)
    ∙ joined_at path (opposites_in acts p) (wires_as acts p.wires) (wires_of us d))

wires_of_around : (path : List ℕ) (ws : List Wire) (d : Page) → wires_of (wires_around path ws) d ≡ wires_around path (page_at (around path) d).wires
wires_of_around [] ws d = refl
wires_of_around (i ∷ path) ws d = refl

none_opposite : (path : List ℕ) (ws : List Wire) (d : Page) → opposites (wires_around path ws) d ≡ []
none_opposite [] ws d = refl
none_opposite (i ∷ path) ws d = refl

pub inverse_form : (path : List ℕ) (acts : List Act) (ws : List Wire) (d p : Page) → along path d ≡ Some p
    → inverse (with_around path acts ws) d ≡ with_around path (inverse_in acts p) (page_at (around path) d).wires
inverse_form path acts ws d p h =
    inverse_at path acts (wires_around path ws) d p h (none_opposite path ws) ∙ ap (λ l. at path (inverse_in acts p) ++ l) (wires_of_around path ws d)

-- turns taken back
done_rewired : (i : ℕ) (path : List ℕ) (acts : List Act) (ws : List Wire) (d : Page) (inner outer : List Wire → List Wire)
    → rewired_at (i ∷ path) inner outer (all_done (with_around (i ∷ path) acts ws) d)
    ≡ edit_at (around (i ∷ path)) (rewired (λ _. outer ws)) (edit_at (i ∷ path) (λ x. rewired inner (all_acted acts x)) d)
done_rewired i path acts ws d inner outer =
    let a = around (i ∷ path) in
    let late : Page = edit_at (i ∷ path) (all_acted acts) d in
    ap (rewired_at (i ∷ path) inner outer) (done_around i path acts ws d)
    ∙ (ap (edit_at a (rewired outer)) (around_past i path (rewired inner) ws late)
    ∙ (edit_on a (rewired outer) (with_wires ws) (edit_at (i ∷ path) (rewired inner) late)
    ∙ ap (edit_at a (rewired (λ _. outer ws))) (edit_on (i ∷ path) (rewired inner) (all_acted acts) d)))

back_within : (i : ℕ) (path : List ℕ) (acts : List Act) (ws : List Wire) (d : Page) (inner outer : List Wire → List Wire) → GivesWires acts
    → LeadsTo (AllThere acts) (i ∷ path) d
    → all_done (inverse (with_around (i ∷ path) acts ws) d) (rewired_at (i ∷ path) inner outer (all_done (with_around (i ∷ path) acts ws) d)) ≡ d
back_within i path acts ws d inner outer g l =
    let p = l.page in
    let a = around (i ∷ path) in
    let r = stands i path d p l.there in
    let late : Page = rewired_at (i ∷ path) inner outer (all_done (with_around (i ∷ path) acts ws) d) in
    ap (λ ts. all_done ts late) (inverse_form (i ∷ path) acts ws d p l.there)
    ∙ (ap (λ q. all_done (with_around (i ∷ path) (inverse_in acts p) q.wires) late) (page_is a d r.outer r.there)
    ∙ (done_around i path (inverse_in acts p) r.outer.wires late
    ∙ (ap (λ x. edit_at a (with_wires r.outer.wires) (edit_at (i ∷ path) (all_acted (inverse_in acts p)) x)) (done_rewired i path acts ws d inner outer)
    ∙ around_undone i path (all_acted (inverse_in acts p)) (λ x. rewired inner (all_acted acts x)) (λ _. outer ws) d p r
    (acts_undone acts p (inner (all_acted acts p).wires) l.holds g))))

pub turns_undone : (path : List ℕ) (acts : List Act) (ws : List Wire) (d : Page) (inner outer : List Wire → List Wire) → GivesWires acts
    → AreThere (with_around path acts ws) d
    → all_done (inverse (with_around path acts ws) d) (rewired_at path inner outer (all_done (with_around path acts ws) d)) ≡ d
turns_undone [] acts ws d inner outer g h =
    let late : Page = rewired_at [] inner outer (all_done (with_around [] acts ws) d) in
    ap (λ ts. all_done ts late) (inverse_form [] acts ws d d refl)
    ∙ (done_root (inverse_in acts d) d.wires late
    ∙ (ap (λ x. all_acted (inverse_in acts d) (with_wires (outer (inner x.wires)) x)) (done_root acts ws d)
    ∙ acts_undone acts d (outer (inner (all_acted acts d).wires)) (acts_there [] acts [] d d refl h) g))
turns_undone (i ∷ path) acts ws d inner outer g h = back_within i path acts ws d inner outer g (form_leads (i ∷ path) acts ws d g h)

along_done : (path : List ℕ) (acts : List Act) (ws : List Wire) (d p : Page) → along path d ≡ Some p
    → along path (all_done (with_around path acts ws) d) ≡ Some (all_acted acts p)
along_done [] acts ws d p h = ap (λ x. Some x) (done_root acts ws d ∙ ap (all_acted acts) (same_Some d p h))
along_done (i ∷ path) acts ws d p h =
    ap (along (i ∷ path)) (done_around i path acts ws d)
    ∙ around_kept i path (λ _. ws) (edit_at (i ∷ path) (all_acted acts) d) (all_acted acts p) (along_edited (i ∷ path) (all_acted acts) d p h)

pub turns_there : (path : List ℕ) (acts : List Act) (ws : List Wire) (d : Page) (inner outer : List Wire → List Wire) → GivesWires acts
    → AreThere (with_around path acts ws) d
    → AreThere (inverse (with_around path acts ws) d) (rewired_at path inner outer (all_done (with_around path acts ws) d))
turns_there path acts ws d inner outer g h =
    let l = form_leads path acts ws d g h in
    let p = l.page in
    let late : Page = all_done (with_around path acts ws) d in
    let w = after path inner outer late (all_acted acts p) (along_done path acts ws d p l.there) in
    subst (λ ts. AreThere ts (rewired_at path inner outer late)) (sym (inverse_form path acts ws d p l.there))
    (form_there path (inverse_in acts p) (page_at (around path) d).wires (rewired_at path inner outer late) (with_wires w.wires (all_acted acts p)) w.there
    (inverse_there acts p w.wires l.holds))

pub turns_form : (path : List ℕ) (acts : List Act) (ws : List Wire) (d : Page) → GivesWires acts → AreThere (with_around path acts ws) d
    → (back : List Act) × (GivesWires back × (inverse (with_around path acts ws) d ≡ with_around path back (page_at (around path) d).wires))
turns_form path acts ws d g h =
    let l = form_leads path acts ws d g h in
    (inverse_in acts l.page, (inverse_gives acts l.page g, inverse_form path acts ws d l.page l.there))

-- turns made again
done_again : (path : List ℕ) (acts : List Act) (ws : List Wire) (d late : Page) → GivesWires acts → AreThere (with_around path acts ws) late
    → all_done (with_around path acts ws) late ≡ d → all_done (inverse (with_around path acts ws) late) d ≡ late
done_again path acts ws d late g h e =
    ap (all_done (inverse (with_around path acts ws) late)) (sym (rewired_none path d) ∙ ap (rewired_at path same same) (sym e))
    ∙ turns_undone path acts ws late same same g h

pub edit_again : (path : List ℕ) (e : Edit) (d : Page) (inner outer : List Wire → List Wire) → IsSomeAnd (along path d) (Fits e)
    → all_done (inverse (turns_back path e d) (rewired_at path inner outer (edit_at path (edited e) d))) d ≡ rewired_at path inner outer (edit_at path (edited e) d)
edit_again path e d inner outer h =
    done_again path (acts_back e (page_at path d)) (page_at (around path) d).wires d (rewired_at path inner outer (edit_at path (edited e) d))
    (edit_gives e (page_at path d)) (edit_back_there path e d inner outer h) (edit_back path e d inner outer h)

pub turns_again : (path : List ℕ) (acts : List Act) (ws : List Wire) (d : Page) (inner outer : List Wire → List Wire) → GivesWires acts
    → AreThere (with_around path acts ws) d
    → all_done (inverse (inverse (with_around path acts ws) d) (rewired_at path inner outer (all_done (with_around path acts ws) d))) d
    ≡ rewired_at path inner outer (all_done (with_around path acts ws) d)
turns_again path acts ws d inner outer g h =
    let l = form_leads path acts ws d g h in
    let p = l.page in
    let late : Page = rewired_at path inner outer (all_done (with_around path acts ws) d) in
    let form = inverse_form path acts ws d p l.there in
    subst (λ ts. all_done (inverse ts late) d ≡ late) (sym form)
    (done_again path (inverse_in acts p) (page_at (around path) d).wires d late (inverse_gives acts p g)
    (subst (λ ts. AreThere ts late) form (turns_there path acts ws d inner outer g h))
    (subst (λ ts. all_done ts late ≡ d) form (turns_undone path acts ws d inner outer g h)))
