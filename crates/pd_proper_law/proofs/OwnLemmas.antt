-- The message boxes of a proper document have texts that stay settled.
use Rattle.std.proofs.Common.{◌≡◌, ◌+◌, ℕ, zero, suc, Bool, true, false, cond, List, [], ◌∷◌, slice_get, Option, Some, None, IfSome, refl, sym, ap, ◌∙◌, subst}
use Rattle.std.specs.Prelude.{option_map, option_and_then}
use Rattle.std.specs.List.{AllByRecursion}
use Rattle.std.proofs.lemmas.Option.{none-some, same_Some}
use Rattle.slab.specs.Slab.{get}
use Rattle.pd_atom.specs.declared.Atom.{Atom}
use Rattle.pd_atom.specs.Names.{Names, IsTable}
use Rattle.pd_atom.specs.Tokens.{IsSettled}
use Rattle.pd_atom.proofs.LawLemmas.{settled_extended}
use Rattle.pd_object.specs.declared.kinds.Kind.{Kind}
use Rattle.pd_canvas.specs.Pages.{Shape, Msg, Sub, Array, Head, Boxes}
use Rattle.pd_canvas.specs.Proper.{IsReady, AreReady, IsHead, AreBoxes}
use Rattle.pd_tree.specs.declared.rows.Sheet.{Sheet}
use Rattle.pd_tree.specs.Trees.{Cell, Trees, Done, Leaf, Holder, Tree, box_with, document_boxes}
use Rattle.pd_grove.specs.declared.nodes.Node.{Node}
use Rattle.pd_grove.specs.declared.grove.Grove.{Grove}
use Rattle.pd_grove.specs.OwnPaths.{sub_in, sub_step_in, sub_reached}
use Rattle.pd_grove.specs.Places.{CanvasStands}
use Rattle.pd_grove.specs.Standing.{NodeSeen, node_seen, Stands, GroveStands}
use Rattle.pd_grove.specs.Telling.{kind_in, inner_in}
use Rattle.pd_grove.specs.TextOrder.{is_sub}
use Rattle.pd_grove.proofs.PlaceLemmas.{seen_keys}
use Rattle.pd_web.specs.Canvases.{keys_at}
use Rattle.pd_reload_law.specs.Saving.{IsMade, AreMade}
use Rattle.pd_contents_law.specs.Contents.{StaySettled, IsKindSettled}
use Rattle.pd_proper_law.specs.Saves.{IsOwnBox, is_written, form_of, IsWritten}
use Rattle.pd_proper_law.proofs.TreeLemmas.{seen_sub}

-- ---- a text that is ready stays settled

pub ready_stays : (names : Names) → IsTable names → (text : List Atom) → AreReady names text → StaySettled names text
ready_stays names table [] h later x t = tt
ready_stays names table (a ∷ text) h later x t = (settled_extended names later a x table t h.0.0 h.0.1, ready_stays names table text h.1 later x t)

kind_settled : (names : Names) → IsTable names → (f : Shape) (c : Cell) → c.head.form ≡ f → IsMade f c → is_written f ≡ true → IsHead names c.head → IsKindSettled names c.kind
kind_settled names table Msg c e m w h = subst (λ (x : Cell). IsKindSettled names x.kind) (sym m) (ready_stays names table c.head.text h.text.0)
kind_settled names table (Array values) c e m w h = subst (λ (x : Cell). IsKindSettled names x.kind) (sym m) tt
kind_settled names table f c e m w h = cc

-- ---- the box of a canvas

-- a canvas of the document that stands
record OwnStands (names : Names) (g : Grove) (j : ℕ) : Type 0 where
  canvas : Tree
  stands : CanvasStands g j canvas
  made : AreMade canvas.boxes
  proper : AreBoxes names (document_boxes canvas.boxes)

holder_inner : (names : Names) (f : Shape) (h : Head) (s : Sheet) (inner rest : Boxes) → is_sub f ≡ true → AreBoxes names (box_with f h s inner rest) → AreBoxes names inner
holder_inner names Sub h s inner rest e a = a.3
holder_inner names f h s inner rest e a = cc

holder_rest : (names : Names) (f : Shape) (h : Head) (s : Sheet) (inner rest : Boxes) → AreBoxes names (box_with f h s inner rest) → AreBoxes names rest
holder_rest names Sub h s inner rest a = a.4
holder_rest names f h s inner rest a = a.4

holder_head : (names : Names) (f : Shape) (h : Head) (s : Sheet) (inner rest : Boxes) → AreBoxes names (box_with f h s inner rest) → IsHead names h
holder_head names Sub h s inner rest a = a.0
holder_head names f h s inner rest a = a.0

never_leaf : (b : Bool) (j : ℕ) → cond b None None ≡ Some j → ⊥
never_leaf true j e = none-some j e
never_leaf false j e = none-some j e

cond_some : (b : Bool) (i j : ℕ) → cond b (Some i) None ≡ Some j → (b ≡ true) × (i ≡ j)
cond_some true i j e = (refl, same_Some i j e)
cond_some false i j e = absurd (none-some j e)

step_own : (names : Names) (g : Grove) (b d : ℕ) (keys : List ℕ) (t : Trees) (n j : ℕ) → Stands (get g.nodes) (get g.boards) b d keys t → AreMade t → AreBoxes names (document_boxes t)
    → option_and_then (λ k. sub_in (get g.nodes k)) (slice_get keys n) ≡ Some j → OwnStands names g j
step_own names g b d [] t n j S m a e = absurd (none-some j e)
step_own names g b d (k ∷ ks) Done n j S m a e = absurd S
step_own names g b d (k ∷ ks) (Leaf c rest) zero j S m a e = absurd (never_leaf (is_sub c.head.form) j (sym (seen_sub (get g.nodes k) _ S.0) ∙ e))
step_own names g b d (k ∷ ks) (Leaf c rest) (suc n) j S m a e = step_own names g b d ks rest n j S.1 m.1 a.4 e
step_own names g b d (k ∷ ks) (Holder c s inner rest) zero j S m a e =
    let is = cond_some (is_sub c.head.form) S.0 j (sym (seen_sub (get g.nodes k) _ S.2) ∙ e) in
    subst (OwnStands names g) is.1 (record {
      canvas = record { sheet = s; boxes = inner };
      stands = record { holder = Some k; depth = d + 1; keys = S.1; board = S.3; stands = S.4 };
      made = m.1;
      proper = holder_inner names c.head.form c.head s (document_boxes inner) (document_boxes rest) is.0 a;
    })
step_own names g b d (k ∷ ks) (Holder c s inner rest) (suc n) j S m a e =
    step_own names g b d ks rest n j S.5 m.2 (holder_rest names c.head.form c.head s (document_boxes inner) (document_boxes rest) a) e

nowhere : (g : Grove) (path : List ℕ) → sub_reached g None path ≡ None
nowhere g [] = refl
nowhere g (n ∷ path) = nowhere g path

canvas_own : (names : Names) (g : Grove) (path : List ℕ) (c d : ℕ) → OwnStands names g c → sub_reached g (Some c) path ≡ Some d → OwnStands names g d
canvas_own names g [] c d o e = subst (OwnStands names g) (same_Some c d e) o
canvas_own names g (n ∷ path) c d o e = by (λ j v f. canvas_own names g path j d v f) (sub_step_in g c n) refl e
  where
    at : keys_at g c ≡ o.stands.keys
    at = seen_keys (get g.boards c) _ o.stands.board

    by : ((j : ℕ) → OwnStands names g j → sub_reached g (Some j) path ≡ Some d → OwnStands names g d) → (x : Option ℕ) → sub_step_in g c n ≡ x → sub_reached g x path ≡ Some d → OwnStands names g d
    by on None s f = absurd (none-some d (sym (nowhere g path) ∙ f))
    by on (Some j) s f =
        on j (step_own names g c o.stands.depth o.stands.keys o.canvas.boxes n j o.stands.stands o.made o.proper
        (ap (λ (x : List ℕ). option_and_then (λ k. sub_in (get g.nodes k)) (slice_get x n)) (sym at) ∙ s)) f

seen_kind : (names : Names) (o : Option Node) (x : NodeSeen) → option_map node_seen o ≡ Some x → IfSome o (λ n. is_written (form_of n) ≡ true)
    → (is_written x.cell.head.form ≡ true → IsKindSettled names x.cell.kind) → IfSome (kind_in o) (IsKindSettled names)
seen_kind names None x e w k = tt
seen_kind names (Some n) x e w k =
    let same : node_seen n ≡ x = same_Some (node_seen n) x e in
    subst (λ (y : NodeSeen). IsKindSettled names y.cell.kind) (sym same) (k (subst (λ (y : NodeSeen). is_written y.cell.head.form ≡ true) same w))

box_own : (names : Names) (g : Grove) → IsTable names → (b d : ℕ) (keys : List ℕ) (t : Trees) (i k : ℕ) → Stands (get g.nodes) (get g.boards) b d keys t → AreMade t → AreBoxes names (document_boxes t)
    → slice_get keys i ≡ Some k → IfSome (get g.nodes k) (λ n. is_written (form_of n) ≡ true) → IfSome (kind_in (get g.nodes k)) (IsKindSettled names)
box_own names g table b d [] t i k S m a e w = absurd (none-some k e)
box_own names g table b d (x ∷ ks) Done i k S m a e w = absurd S
box_own names g table b d (x ∷ ks) (Leaf c rest) zero k S m a e w =
    let same : x ≡ k = same_Some x k e in
    seen_kind names (get g.nodes k) (record { board = b; cell = c; inner = None }) (subst (λ y. option_map node_seen (get g.nodes y) ≡ Some (record { board = b; cell = c; inner = None })) same S.0) w
    (λ f. kind_settled names table c.head.form c refl m.0 f a.0)
box_own names g table b d (x ∷ ks) (Leaf c rest) (suc i) k S m a e w = box_own names g table b d ks rest i k S.1 m.1 a.4 e w
box_own names g table b d (x ∷ ks) (Holder c s inner rest) zero k S m a e w =
    let same : x ≡ k = same_Some x k e in
    seen_kind names (get g.nodes k) (record { board = b; cell = c; inner = Some S.0 }) (subst (λ y. option_map node_seen (get g.nodes y) ≡ Some (record { board = b; cell = c; inner = Some S.0 })) same S.2) w
    (λ f. subst (IsKindSettled names) (sym m.0) tt)
box_own names g table b d (x ∷ ks) (Holder c s inner rest) (suc i) k S m a e w =
    box_own names g table b d ks rest i k S.5 m.2 (holder_rest names c.head.form c.head s (document_boxes inner) (document_boxes rest) a) e w

pub written_settled : (names : Names) (g : Grove) (t : Tree) → IsTable names → GroveStands g t.sheet t.boxes → AreMade t.boxes → AreBoxes names (document_boxes t.boxes)
    → (k : ℕ) → IsWritten g k → IfSome (kind_in (get g.nodes k)) (IsKindSettled names)
written_settled names g t table G made proper k w =
    let root : OwnStands names g g.root = record { canvas = t; stands = record { holder = None; depth = 0; keys = G.keys; board = G.root; stands = G.stands }; made = made; proper = proper } in
    let o = canvas_own names g w.own.path g.root w.own.canvas root w.own.leads in
    box_own names g table w.own.canvas o.stands.depth o.stands.keys o.canvas.boxes w.own.place k o.stands.stands o.made o.proper
    (ap (λ (ks : List ℕ). slice_get ks w.own.place) (sym (seen_keys (get g.boards w.own.canvas) _ o.stands.board)) ∙ w.own.at) w.form
