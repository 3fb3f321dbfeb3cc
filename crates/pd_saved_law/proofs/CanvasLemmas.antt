-- The canvases of the document in the tree of a patch as it stands.
use Rattle.std.proofs.Common.{◌≡◌, ℕ, zero, suc, ◌+◌, Bool, true, false, cond, List, [], ◌∷◌, slice_get, Option, Some, None, refl, sym, ap, ◌∙◌, subst}
use Rattle.std.specs.Prelude.{option_map, option_and_then}
use Rattle.std.proofs.lemmas.Option.{none-some, same_Some}
use Rattle.slab.specs.Slab.{get}
use Rattle.pd_canvas.specs.Pages.{Shape, Sub}
use Rattle.pd_tree.specs.declared.rows.Sheet.{Sheet}
use Rattle.pd_tree.specs.Trees.{Cell, Trees, Done, Leaf, Holder, Tree}
use Rattle.pd_grove.specs.declared.nodes.Node.{Node}
use Rattle.pd_grove.specs.declared.grove.Grove.{Grove}
use Rattle.pd_grove.specs.OwnPaths.{sub_in, sub_step_in, sub_reached}
use Rattle.pd_grove.specs.Places.{canvas_in_box, canvas_along, CanvasStands}
use Rattle.pd_grove.specs.Standing.{NodeSeen, node_seen, Stands}
use Rattle.pd_grove.specs.Telling.{inner_in}
use Rattle.pd_grove.specs.TextOrder.{is_sub, keys_inside}
use Rattle.pd_grove.proofs.PlaceLemmas.{seen_keys}
use Rattle.pd_web.specs.declared.web.Web.{Web}
use Rattle.pd_web.specs.Canvases.{keys_at}
use Rattle.pd_present.specs.Presents.{wires_among}
use Rattle.pd_regrowth_law.specs.Rewiring.{with_wires}
use Rattle.pd_reload_law.specs.Saving.{holder_now, boxes_now, AreMade}
use Rattle.pd_reload_law.proofs.EditLemmas.{sub_inner}

-- a canvas under its key as it stands
abbrev pub canvas_now : Grove → Web → List ℕ → ℕ → Tree → Tree
canvas_now g web numbers c u = record {
  sheet = with_wires (wires_among web numbers (keys_at g c)) u.sheet;
  boxes = boxes_now web numbers (get g.nodes) (get g.boards) (keys_at g c) u.boxes;
}

-- where a path leads from a canvas: there a canvas stands, which is as it stands in the tree as it stands
pub record LeadsNow (g : Grove) (web : Web) (numbers : List ℕ) (now : Option Tree) (d : ℕ) : Type 0 where
  pub canvas : Tree
  pub stands : CanvasStands g d canvas
  pub made : AreMade canvas.boxes
  pub told : now ≡ Some (canvas_now g web numbers d canvas)

seen_sub : (o : Option Node) (x : NodeSeen) → option_map node_seen o ≡ Some x → sub_in o ≡ cond (is_sub x.cell.head.form) x.inner None
seen_sub None x h = absurd (none-some x h)
seen_sub (Some n) x h = ap (λ (y : NodeSeen). cond (is_sub y.cell.head.form) y.inner None) (same_Some (node_seen n) x h)

never_leaf : (b : Bool) (j : ℕ) → cond b None None ≡ Some j → ⊥
never_leaf true j e = none-some j e
never_leaf false j e = none-some j e

cond_some : (b : Bool) (i j : ℕ) → cond b (Some i) None ≡ Some j → (b ≡ true) × (i ≡ j)
cond_some true i j e = (refl, same_Some i j e)
cond_some false i j e = absurd (none-some j e)

first_holder : (f : Shape) (c : Cell) (sheet : Sheet) (inner : Trees) (now : Sheet) (boxes others : Trees) → is_sub f ≡ true
    → canvas_in_box 0 (holder_now f c sheet inner now boxes others) ≡ Some (record { sheet = now; boxes = boxes })
first_holder Sub c sheet inner now boxes others e = refl
first_holder f c sheet inner now boxes others e = cc

next_holder : (f : Shape) (c : Cell) (sheet : Sheet) (inner : Trees) (now : Sheet) (boxes others : Trees) (n : ℕ)
    → canvas_in_box (suc n) (holder_now f c sheet inner now boxes others) ≡ canvas_in_box n others
next_holder Sub c sheet inner now boxes others n = refl
next_holder f c sheet inner now boxes others n = refl

module _ (g : Grove) (web : Web) (numbers : List ℕ) where
  abbrev now : List ℕ → Trees → Trees
  now keys t = boxes_now web numbers (get g.nodes) (get g.boards) keys t

  box_now : (b d : ℕ) (keys : List ℕ) (t : Trees) (n j : ℕ) → AreMade t → Stands (get g.nodes) (get g.boards) b d keys t
      → option_and_then (λ k. sub_in (get g.nodes k)) (slice_get keys n) ≡ Some j → LeadsNow g web numbers (canvas_in_box n (now keys t)) j
  box_now b d [] Done n j m S e = absurd (none-some j e)
  box_now b d (k ∷ ks) Done n j m S e = absurd S
  box_now b d [] (Leaf c rest) n j m S e = absurd S
  box_now b d (k ∷ ks) (Leaf c rest) zero j m S e = absurd (never_leaf (is_sub c.head.form) j (sym (seen_sub (get g.nodes k) _ S.0) ∙ e))
  box_now b d (k ∷ ks) (Leaf c rest) (suc n) j m S e = box_now b d ks rest n j m.1 S.1 e
  box_now b d [] (Holder c s inner rest) n j m S e = absurd S
  box_now b d (k ∷ ks) (Holder c s inner rest) zero j m S e =
      let is = cond_some (is_sub c.head.form) S.0 j (sym (seen_sub (get g.nodes k) _ S.2) ∙ e) in
      let u : Tree = record { sheet = s; boxes = inner } in
      let here : CanvasStands g S.0 u = record { holder = Some k; depth = d + 1; keys = S.1; board = S.3; stands = S.4 } in
      let js = keys_inside (get g.boards) (inner_in (get g.nodes k)) in
      let same : js ≡ keys_at g j = ap (keys_inside (get g.boards)) (sub_inner (get g.nodes k) j e) in
      record {
        canvas = u;
        stands = subst (λ x. CanvasStands g x u) is.1 here;
        made = m.1;
        told = first_holder c.head.form c s inner (with_wires (wires_among web numbers js) s) (now js inner) (now ks rest) is.0
            ∙ ap (λ (x : List ℕ). Some (record { sheet = with_wires (wires_among web numbers x) s; boxes = now x inner })) same;
      }
  box_now b d (k ∷ ks) (Holder c s inner rest) (suc n) j m S e =
      let js = keys_inside (get g.boards) (inner_in (get g.nodes k)) in
      let r = box_now b d ks rest n j m.2 S.5 e in
      record {
        canvas = r.canvas;
        stands = r.stands;
        made = r.made;
        told = next_holder c.head.form c s inner (with_wires (wires_among web numbers js) s) (now js inner) (now ks rest) n ∙ r.told;
      }

  nowhere : (path : List ℕ) → sub_reached g None path ≡ None
  nowhere [] = refl
  nowhere (n ∷ path) = nowhere path

  pub leads_now : (path : List ℕ) (c d : ℕ) (u : Tree) → AreMade u.boxes → CanvasStands g c u → sub_reached g (Some c) path ≡ Some d
      → LeadsNow g web numbers (canvas_along path (canvas_now g web numbers c u)) d
  leads_now [] c d u m C e =
      let same = same_Some c d e in
      subst (λ x. LeadsNow g web numbers (Some (canvas_now g web numbers c u)) x) same (record { canvas = u; stands = C; made = m; told = refl })
  leads_now (n ∷ path) c d u m C e = by (λ j v k D f. leads_now path j d v k D f) (sub_step_in g c n) refl e
    where
      at : keys_at g c ≡ C.keys
      at = seen_keys (get g.boards c) _ C.board

      by : ((j : ℕ) (v : Tree) → AreMade v.boxes → CanvasStands g j v → sub_reached g (Some j) path ≡ Some d
          → LeadsNow g web numbers (canvas_along path (canvas_now g web numbers j v)) d)
          → (o : Option ℕ) → sub_step_in g c n ≡ o → sub_reached g o path ≡ Some d
          → LeadsNow g web numbers (option_and_then (canvas_along path) (canvas_in_box n (now (keys_at g c) u.boxes))) d
      by on None s f = absurd (none-some d (sym (nowhere path) ∙ f))
      by on (Some j) s f =
          let r = subst (λ (x : List ℕ). LeadsNow g web numbers (canvas_in_box n (now x u.boxes)) j) (sym at)
          (box_now c C.depth C.keys u.boxes n j m C.stands (ap (λ (x : List ℕ). option_and_then (λ k. sub_in (get g.nodes k)) (slice_get x n)) (sym at) ∙ s)) in
          subst (λ x. LeadsNow g web numbers (option_and_then (canvas_along path) x) d) (sym r.told) (on j r.canvas r.made r.stands f)
