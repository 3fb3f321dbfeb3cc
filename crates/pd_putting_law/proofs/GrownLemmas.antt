-- What grows from an element that an edit puts, and the edit of a patch in which its tree stands.
use Rattle.std.proofs.Common.{◌≡◌, ℕ, zero, suc, Bool, true, false, List, [], ◌∷◌, length, Option, Some, refl, sym, ap, ◌∙◌, subst, if◌then◌else◌, true≢false}
use Rattle.std.specs.Prelude.{drop, Ok}
use Rattle.std.proofs.lemmas.Option.{none-some, same_Some}
use Rattle.slab.specs.Slab.{get}
use Rattle.pd_atom.specs.Names.{Names}
use Rattle.pd_atom.specs.declared.Atom.{Atom}
use Rattle.pd_object.specs.declared.kinds.Kind.{Kind}
use Rattle.pd_kind.specs.States.{start_of}
use Rattle.pd_kind.specs.Tables.{started}
use Rattle.pd_naming.specs.Naming.{arguments_of}
use Rattle.pd_canvas.specs.declared.edits.Edit.{Edit}
use Rattle.pd_canvas.specs.declared.edits.Edit.TheVariants as edit
use Rattle.pd_canvas.specs.Edits.{appended, begins_with_pd, edited, element, new_header}
use Rattle.pd_canvas.specs.Pages.{Shape, Obj, Sub, Boxes, End, Page, Entry, boxed, empty_page, listed, page_with_header}
use Rattle.pd_canvas.specs.Paths.{edit_at}
use Rattle.pd_canvas.specs.Turns.{put_in}
use Rattle.pd_library.specs.declared.answers.Answer.{Answer}
use Rattle.pd_tree.specs.declared.rows.Fault.{Fault}
use Rattle.pd_tree.specs.declared.rows.Sheet.{Sheet}
use Rattle.pd_tree.specs.Trees.{Trees, Done, Leaf, Tree, document_boxes}
use Rattle.pd_growth.specs.Steps.{Stock, gives, numbered}
use Rattle.pd_growth.specs.Making.{Around, Making, Plain, Subpatch, File, made}
use Rattle.pd_growth.specs.Growth.{around_instance, around_root, box_grown, box_made, boxes_grown, canvas_grown, cell_of, receiver_brought, without_ending}
use Rattle.pd_grove.specs.declared.nodes.Node.{Node}
use Rattle.pd_grove.specs.declared.grove.Grove.{Grove}
use Rattle.pd_grove.specs.Places.{CanvasStands}
use Rattle.pd_grove.specs.Standing.{depth_of}
use Rattle.pd_grove.specs.Telling.{state_in}
use Rattle.pd_grove.specs.TextOrder.{is_sub}
use Rattle.pd_web.specs.declared.web.Web.{Web}
use Rattle.pd_web.specs.Canvases.{keys_at}
use Rattle.pd_present.specs.Presents.{present_page}
use Rattle.pd_regrowth_law.specs.Canvases.{own_along}
use Rattle.pd_regrowth_law.specs.Regrowth.{inner_of}
use Rattle.pd_regrowth_law.specs.Suits.{HoldNone}
use Rattle.pd_regrowth_law.proofs.StepLemmas.{box_went, chain, gives_same, no_boxes, page_is}
use Rattle.pd_regrowth_law.proofs.TakeLemmas.{canvas_went}
use Rattle.pd_reload_law.specs.Reloading.{RunsAs}
use Rattle.pd_reload_law.specs.Saving.{AreMade, boxes_now, tree_now}
use Rattle.pd_putting_law.specs.Again.{StandsAgain}
use Rattle.pd_putting_law.specs.Edits.{PutsBox, TakesElement}
use Rattle.pd_putting_law.specs.Puts.{come_before, put_at, put_before}
use Rattle.pd_putting_law.specs.Putting.{IsBare, IsNewBox, IsSavedAs, IsNewHolder, KeepsTexts, element_put, entry_kept}
use Rattle.pd_putting_law.proofs.AgainLemmas.{box_is, made_more, one_stands}
use Rattle.pd_putting_law.proofs.NewLemmas.{new_saved, new_stands, new_written}
use Rattle.pd_putting_law.proofs.PageLemmas.{document_put, document_put_in, edit_put}
use Rattle.pd_putting_law.proofs.PlaceLemmas.{last_at}
use Rattle.pd_putting_law.proofs.StandLemmas.{path_along, put_last, runs_before, runs_put}
use Rattle.pd_putting_law.proofs.TreeLemmas.{tree_before, tree_put}

-- ---- the elements of edits

object_bare : (b : Bool) (x y : _) (text : List Atom)
    → IsBare (if b then element Sub (page_with_header (new_header text)) x y text else element Obj empty_page x y text)
object_bare true x y text = record { boxes = refl; wires = refl; holds = tt }
object_bare false x y text = record { boxes = refl; wires = refl; holds = refl }

pub put_bare : (x : Edit) (e : Entry) → element_put x ≡ Some e → IsBare e
put_bare (edit.Obj x y text) e h = subst IsBare (same_Some _ e h) (object_bare (begins_with_pd text) x y text)
put_bare (edit.Msg x y text) e h = subst IsBare (same_Some _ e h) (record { boxes = refl; wires = refl; holds = refl })
put_bare (edit.Comment x y text) e h = subst IsBare (same_Some _ e h) (record { boxes = refl; wires = refl; holds = refl })
put_bare (edit.FloatBox x y text) e h = subst IsBare (same_Some _ e h) (record { boxes = refl; wires = refl; holds = refl })
put_bare (edit.SymbolBox x y text) e h = subst IsBare (same_Some _ e h) (record { boxes = refl; wires = refl; holds = refl })
put_bare (edit.Sub x y name) e h = subst IsBare (same_Some _ e h) (object_bare true x y _)
put_bare x e h = absurd (none-some e h)

-- ---- what grows from them

plain_form : (f : Shape) (lib : ℕ → Option Answer) (root : List ℕ) (left : ℕ) (a : Around) (names : Names) (text : List Atom) (k : Kind) (fault : Option Fault)
    → made lib root left a names f text ≡ Ok (Plain k fault) → is_sub f ≡ false
plain_form Sub lib root left a names text k fault h = cc
plain_form f lib root left a names text k fault h = refl

file_form : (f : Shape) (lib : ℕ → Option Answer) (root : List ℕ) (left : ℕ) (a : Around) (names : Names) (text : List Atom) (s : ℕ) (p : Page)
    → made lib root left a names f text ≡ Ok (File s p) → is_sub f ≡ false
file_form Sub lib root left a names text s p h = cc
file_form f lib root left a names text s p h = refl

no_sub : (f : Shape) (s : Sheet) (inner : Trees) → is_sub f ≡ false → IsNewHolder f s inner
no_sub Sub s inner h = absurd (true≢false h)
no_sub f s inner h = tt

empty_holder : (f : Shape) (s : Sheet) (inner : Trees) → s.wires ≡ [] → inner ≡ Done → IsNewHolder f s inner
empty_holder Sub s inner h k = (h, k)
empty_holder f s inner h k = tt

-- in an empty canvas nothing grows
none_inside : (lib : ℕ → Option Answer) (root : List ℕ) (left : ℕ) (a : Around) (p : Page) (w : Stock) (t : Trees) (v : Stock) → p.boxes ≡ End
    → inner_of lib root left a p w ≡ gives t v → t ≡ Done
none_inside lib root zero a p w t v e h = sym (gives_same Done t w v h)
none_inside lib root (suc n) a p w t v e h =
    sym (gives_same Done t w v
    (sym (page_is lib root n a p w ∙ ap (λ (b : Boxes). boxes_grown lib root n (inner_of lib root n) a (listed b) w) e ∙ no_boxes lib root n (inner_of lib root n) a w) ∙ h))

made_new : (lib : ℕ → Option Answer) (root : List ℕ) (left : ℕ) (a : Around) (e : Entry) (names : Names) (text : List Atom) (m : Making) (w : Stock) (t : Trees) (v : Stock)
    → IsBare e → made lib root left a names e.head.form text ≡ Ok m → box_made (inner_of lib root left) a e text m w ≡ gives t v → IsNewBox t
made_new lib root left a e names text (Plain k fault) w t v b m h =
    subst IsNewBox (gives_same (Leaf (cell_of e.head text k fault) Done) t w v h) (plain_form e.head.form lib root left a names text k fault m)
made_new lib root left a e names text Subpatch w t v b m h =
    let inner = inner_of lib root left in
    let c = chain (receiver_brought a.is_top text w) (λ _ u. canvas_grown inner a e.page e.head text u) t v h in
    let g = canvas_went inner a e.page e.head text c.stock t v c.next in
    subst IsNewBox g.tree_is (empty_holder e.head.form _ g.boxes b.wires (none_inside lib root left a e.page c.stock g.boxes v b.boxes g.boxes_is))
made_new lib root left a e names text (File s p) w t v b m h =
    let inner = inner_of lib root left in
    let args = arguments_of (drop 1 text) in
    let c = chain (numbered w) (λ z u. canvas_grown inner (around_instance a z s args) p e.head text u) t v h in
    let g = canvas_went inner (around_instance a c.value s args) p e.head text c.stock t v c.next in
    subst IsNewBox g.tree_is (no_sub e.head.form _ g.boxes (file_form e.head.form lib root left a names text s p m))

pub new_grown : (lib : ℕ → Option Answer) (root : List ℕ) (left : ℕ) (a : Around) (e : Entry) (w v : Stock) (new : Trees) → IsBare e
    → box_grown lib root left (inner_of lib root left) a e w ≡ gives new v → IsNewBox new
new_grown lib root left a e w v new bare h =
    let b = box_went lib root left (inner_of lib root left) a e w new v h in
    made_new lib root left a e b.named.names b.text b.making b.named new v bare b.made_is b.box_is

-- ---- the edit

none_held : (e : Entry) → IsBare e → HoldNone e.page.boxes
none_held e b = subst HoldNone (sym b.boxes) tt

module _ (g h : Grove) (w w' : Web) (numbers numbers' path : List ℕ) (canvas key number : ℕ) (lib : ℕ → Option Answer) (file : List ℕ) (t : Tree) (e : Entry)
    (from after : Stock) (new : Trees) (R : RunsAs g t) (A : StandsAgain lib file from.names t)
    (P : TakesElement g h w w' numbers numbers' path canvas key number lib file t e from after new) where
  along : (u : Tree) × (own_along path t ≡ Some u) × CanvasStands g canvas u × (depth_of (get g.boards canvas) ≡ length path)
  along = path_along g path canvas t P.box.forest R.stands P.box.leads

  pub come_again : StandsAgain lib file after.names (put_before path number new t)
  come_again = one_stands lib file P.left path number t along.0 e from after new A along.1 P.deep P.names P.room P.bare.holds (none_held e P.bare) P.grew

  pub come_runs : RunsAs h (put_before path number new t)
  come_runs = runs_before g h path canvas key number t new P.rate P.now P.box R P.stands P.fresh

  all_made : AreMade new
  all_made = made_more lib file after.names path number t along.0 new along.1 come_again

  is_new : IsNewBox new
  is_new = new_grown lib (without_ending file) P.left (around_root t.sheet.zero) e from after new P.bare P.grew

  document : document_boxes new ≡ boxed (e ∷ [])
  document = box_is lib file P.left t.sheet.zero e from after new P.room P.bare.holds (none_held e P.bare) P.grew

  first : (n : Node) → get h.nodes key ≡ Some n → n.state ≡ Some (started (start_of n.kind P.rate) P.now)
  first n is = P.fresh key n P.box.part.vacant is

  -- how the box is saved, and how it stands
  pub saved_kept : IsSavedAs (get h.boards) (get h.nodes key) (entry_kept (state_in (get h.nodes key)) e)
  saved_kept = new_saved h canvas (depth_of (get g.boards canvas)) key new e P.stands is_new document

  pub saved_written : KeepsTexts new → IsSavedAs (get h.boards) (get h.nodes key) e
  saved_written keeps = new_written h canvas (depth_of (get g.boards canvas)) key new e P.rate P.now P.stands first all_made is_new keeps document

  pub stands_grown : KeepsTexts new → boxes_now w' numbers' (get h.nodes) (get h.boards) (key ∷ []) new ≡ new
  stands_grown keeps = new_stands h canvas (depth_of (get g.boards canvas)) key w' numbers' new P.rate P.now P.stands first all_made is_new keeps

  pub come_kept : present_page h w' numbers' ≡ edit_at path (put_in number (entry_kept (state_in (get h.nodes key)) e)) (present_page g w numbers)
  come_kept = document_put_in g h w w' numbers numbers' path canvas key number (entry_kept (state_in (get h.nodes key)) e) P.box P.wires saved_kept

  pub come_document : KeepsTexts new → present_page h w' numbers' ≡ edit_at path (put_in number e) (present_page g w numbers)
  come_document keeps = document_put_in g h w w' numbers numbers' path canvas key number e P.box P.wires (saved_written keeps)

  pub come_now : KeepsTexts new → tree_now h w' numbers' (put_before path number new t) ≡ come_before path number new (tree_now g w numbers t)
  come_now keeps =
      tree_before g h w w' numbers numbers' path canvas key number t new P.box P.wires R.stands P.stands
      ∙ ap (λ (y : Trees). come_before path number y (tree_now g w numbers t)) (stands_grown keeps)

module _ (g h : Grove) (w w' : Web) (numbers numbers' path : List ℕ) (canvas key : ℕ) (lib : ℕ → Option Answer) (file : List ℕ) (t : Tree) (x : Edit) (from after : Stock)
    (new : Trees) (R : RunsAs g t) (A : StandsAgain lib file from.names t) (P : PutsBox g h w w' numbers numbers' path canvas key lib file t x from after new) where
  abbrev last : ℕ
  last = length (keys_at g canvas)

  pub put_element : TakesElement g h w w' numbers numbers' path canvas key last lib file t P.element from after new
  put_element = record {
    bare = put_bare x P.element P.puts;
    names = P.names;
    left = P.left;
    deep = P.deep;
    room = P.room;
    grew = P.grew;
    box = last_at g h path canvas key P.box;
    stands = P.stands;
    rate = P.rate;
    now = P.now;
    fresh = P.fresh;
    wires = P.wires;
  }

  put_there : put_before path last new t ≡ put_at path new t
  put_there = put_last g path canvas t new P.box.forest P.box.leads R.stands

  pub put_again : StandsAgain lib file after.names (put_at path new t)
  put_again =
      subst (StandsAgain lib file after.names) put_there (come_again g h w w' numbers numbers' path canvas key last lib file t P.element from after new R A put_element)

  pub put_runs : RunsAs h (put_at path new t)
  put_runs = runs_put g h path canvas key t new P.rate P.now P.box R P.stands P.fresh

  pub put_kept : present_page h w' numbers' ≡ edit_at path (appended (entry_kept (state_in (get h.nodes key)) P.element)) (present_page g w numbers)
  put_kept =
      document_put g h w w' numbers numbers' path canvas key (entry_kept (state_in (get h.nodes key)) P.element) P.box P.wires
      (saved_kept g h w w' numbers numbers' path canvas key last lib file t P.element from after new R A put_element)

  pub put_document : KeepsTexts new → present_page h w' numbers' ≡ edit_at path (edited x) (present_page g w numbers)
  put_document keeps =
      document_put g h w w' numbers numbers' path canvas key P.element P.box P.wires
      (saved_written g h w w' numbers numbers' path canvas key last lib file t P.element from after new R A put_element keeps)
      ∙ edit_put x P.element path (present_page g w numbers) P.puts

  pub put_now : KeepsTexts new → tree_now h w' numbers' (put_at path new t) ≡ put_at path new (tree_now g w numbers t)
  put_now keeps =
      tree_put g h w w' numbers numbers' path canvas key t new P.box P.wires R.stands
      ∙ ap (λ (y : Trees). put_at path y (tree_now g w numbers t))
      (stands_grown g h w w' numbers numbers' path canvas key last lib file t P.element from after new R A put_element keeps)
