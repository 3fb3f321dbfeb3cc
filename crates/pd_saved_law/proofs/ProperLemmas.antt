-- The document of a patch stays proper under edits of wires.
use Rattle.std.proofs.Common.{◌≡◌, ℕ, zero, suc, ◌+◌, ◌≤◌, true, false, cond, List, [], ◌∷◌, map, length, slice_get, Option, Some, None, Ok, refl, sym, ap, ◌∙◌, subst, arith}
use Rattle.std.specs.Prelude.{option_map, option_and_then, IsSomeAnd}
use Rattle.std.proofs.lemmas.Option.{none-some, slice_get-map}
use Rattle.slab.specs.Slab.{get}
use Rattle.pd_canvas.specs.Pages.{Shape, Sub, Page, Entry, elements_of}
use Rattle.pd_canvas.specs.Paths.{page_within as sub_within, sub_page, along}
use Rattle.pd_canvas.specs.Views.{entry_of}
use Rattle.pd_canvas.specs.Edits.{Fits}
use Rattle.pd_canvas.specs.declared.edits.Edit.{Edit}
use Rattle.pd_canvas.specs.declared.edits.Edit.TheVariants as edit
use Rattle.pd_canvas.proofs.TreeLemmas.{listed_boxed}
use Rattle.pd_tree.specs.Trees.{Tree}
use Rattle.pd_grove.specs.declared.nodes.Node.{Node}
use Rattle.pd_grove.specs.declared.boards.Board.{Board}
use Rattle.pd_grove.specs.declared.grove.Grove.{Grove}
use Rattle.pd_grove.specs.OwnPaths.{sub_in, sub_reached}
use Rattle.pd_grove.specs.Standing.{GroveStands}
use Rattle.pd_grove.specs.Telling.{keys_in}
use Rattle.pd_grove.specs.TextOrder.{deep, is_sub}
use Rattle.pd_web.specs.declared.web.Web.{Web}
use Rattle.pd_web.specs.Canvases.{keys_at}
use Rattle.pd_present.specs.Contents.{present_form}
use Rattle.pd_present.specs.Presents.{entry_at, page_inside, held_in, page_on, page_within}
use Rattle.pd_present.proofs.PresentLemmas.{within_suc}
use Rattle.pd_patch.specs.declared.patch.Patch.{Patch}
use Rattle.pd_patch.specs.Document.{present_document}
use Rattle.pd_patch.proofs.WayLemmas.{path_short}
use Rattle.pd_wiring.specs.Plans.{Plan, planned, IsRewired}
use Rattle.pd_reload_law.proofs.EditLemmas.{sub_inner}
use Rattle.pd_saved_law.proofs.EditLemmas.{never_plan, sub_leads, comes, goes}

-- ---- the way to a canvas

nowhere : (g : Grove) (path : List ℕ) → sub_reached g None path ≡ None
nowhere g [] = refl
nowhere g (n ∷ path) = nowhere g path

-- the box of a number of a canvas, from which a path goes on
record StepsIn (g : Grove) (c i : ℕ) (rest : List ℕ) (d : ℕ) : Type 0 where
  key : ℕ
  inner : ℕ
  is : slice_get (keys_at g c) i ≡ Some key
  sub : sub_in (get g.nodes key) ≡ Some inner
  on : sub_reached g (Some inner) rest ≡ Some d

steps_by : (g : Grove) (c i : ℕ) (rest : List ℕ) (d : ℕ) (o : Option ℕ) → slice_get (keys_at g c) i ≡ o
    → sub_reached g (option_and_then (λ k. sub_in (get g.nodes k)) o) rest ≡ Some d → StepsIn g c i rest d
steps_by g c i rest d None at e = absurd (none-some d (sym (nowhere g rest) ∙ e))
steps_by g c i rest d (Some k) at e = on (sub_in (get g.nodes k)) refl e
  where
    on : (o : Option ℕ) → sub_in (get g.nodes k) ≡ o → sub_reached g o rest ≡ Some d → StepsIn g c i rest d
    on None s e = absurd (none-some d (sym (nowhere g rest) ∙ e))
    on (Some j) s e = record { key = k; inner = j; is = at; sub = s; on = e }

sub_held : (f : Shape) (p : Page) → is_sub f ≡ true → held_in f p ≡ p
sub_held Sub p e = refl
sub_held f p e = cc

-- ---- the page at the end of a path

-- the page that a subpatch holds
sub_told : (inside : ℕ → Page) (o : Option Node) (j : ℕ) → sub_in o ≡ Some j → sub_page (entry_at inside o) ≡ Some (inside j)
sub_told inside None j e = absurd (none-some j e)
sub_told inside (Some n) j e =
    let h = (entry_of n.element).head in
    let is : is_sub h.form ≡ true = shown (is_sub h.form) e in
    let p = page_inside inside n.inner in
    ap (λ (x : Shape). sub_within x (held_in h.form p)) (ap (present_form h.text n.state) (by h.form is))
    ∙ ap Some (sub_held h.form p is ∙ ap (page_inside inside) (sub_inner (Some n) j e))
  where
    shown : (b : _) → cond b n.inner None ≡ Some j → b ≡ true
    shown true e = refl
    shown false e = absurd (none-some j e)

    by : (f : Shape) → is_sub f ≡ true → f ≡ Sub
    by Sub e = refl
    by f e = cc

-- a box of a canvas, as the document has it
box_told : (w : Web) (numbers : List ℕ) (nodes : ℕ → Option Node) (inside : ℕ → Page) (o : Option Board) (i k : ℕ) → slice_get (keys_in o) i ≡ Some k
    → slice_get (elements_of (page_on w numbers nodes inside o)) i ≡ Some (entry_at inside (nodes k))
box_told w numbers nodes inside None i k e = absurd (none-some k e)
box_told w numbers nodes inside (Some b) i k e =
    ap (λ (es : List Entry). slice_get es i) (listed_boxed (map (λ x. entry_at inside (nodes x)) b.nodes.items))
    ∙ slice_get-map (λ x. entry_at inside (nodes x)) b.nodes.items i ∙ ap (option_map (λ x. entry_at inside (nodes x))) e

page_along : (g : Grove) (w : Web) (numbers : List ℕ) (n c d : ℕ) (path : List ℕ) → sub_reached g (Some c) path ≡ Some d → length path + 1 ≤ n
    → (p : Page) × (along path (page_within w numbers (get g.nodes) (get g.boards) n c) ≡ Some p)
page_along g w numbers zero c d path at low = absurd (nothing (length path) low)
  where
    nothing : (n : ℕ) → n + 1 ≤ 0 → ⊥
    nothing n l = omega (arith, l)
page_along g w numbers (suc n) c d [] at low = (page_within w numbers (get g.nodes) (get g.boards) (suc n) c, refl)
page_along g w numbers (suc n) c d (i ∷ path) at low =
    let nodes = get g.nodes in
    let boards = get g.boards in
    let inside = page_within w numbers nodes boards n in
    let s = steps_by g c i path d (slice_get (keys_in (boards c)) i) refl at in
    let r = page_along g w numbers n s.inner d path s.on (fewer (length path) n low) in (
      r.0,
      ap (λ (x : Page). option_and_then (along path) (option_and_then sub_page (slice_get (elements_of x) i))) (within_suc w numbers nodes boards n c)
          ∙ ap (λ o. option_and_then (along path) (option_and_then sub_page o)) (box_told w numbers nodes inside (boards c) i s.key s.is)
          ∙ ap (option_and_then (along path)) (sub_told inside (nodes s.key) s.inner s.sub) ∙ r.1,
    )
  where
    fewer : (m n : ℕ) → suc m + 1 ≤ suc n → m + 1 ≤ n
    fewer m n l = omega (arith, l)

document_along : (p : Patch) (t : Tree) (path : List ℕ) (c : ℕ) → GroveStands p.grove t.sheet t.boxes → deep t.boxes ≤ 256
    → sub_reached p.grove (Some p.grove.root) path ≡ Some c → (x : Page) × (along path (present_document p) ≡ Some x)
document_along p t path c G low at =
    page_along p.grove p.web p.numbers.items 257 p.grove.root c path at
    (most (length path) (deep t.boxes) (path_short p.grove t.sheet t.boxes path c G (sub_leads p.grove p.grove.root c path at)) low)
  where
    most : (a b : ℕ) → a ≤ b → b ≤ 256 → a + 1 ≤ 257
    most a b h k = omega (arith, h, k)

-- the page at the path of an edit of wires that is planned, which the edit fits
fits_at : (p : Patch) (t : Tree) (path : List ℕ) (e : Edit) (plan : Plan) → GroveStands p.grove t.sheet t.boxes → deep t.boxes ≤ 256 → planned p path e ≡ Ok plan
    → IsSomeAnd (along path (present_document p)) (Fits e)
fits_at p t path (edit.Connect v) plan G low h =
    let c = comes p v _ plan h in
    let r = document_along p t path c.canvas G low c.at in subst (λ o. IsSomeAnd o (Fits (edit.Connect v))) (sym r.1) tt
fits_at p t path (edit.Disconnect v) plan G low h =
    let c = goes p v _ plan h in
    let r = document_along p t path c.canvas G low c.at in subst (λ o. IsSomeAnd o (Fits (edit.Disconnect v))) (sym r.1) tt
fits_at p t path e plan G low h = absurd (never_plan _ plan h)

pub edit_fits : (p q : Patch) (t : Tree) (path : List ℕ) (e : Edit) (canvas : ℕ) → GroveStands p.grove t.sheet t.boxes → deep t.boxes ≤ 256 → IsRewired p q path e canvas
    → IsSomeAnd (along path (present_document p)) (Fits e)
edit_fits p q t path e canvas G low x = fits_at p t path e x.plan G low x.is_planned
