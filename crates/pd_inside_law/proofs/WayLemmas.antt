-- What lies in abstractions is in the tree of a patch as it stands as it is in the tree that grew.
use Rattle.std.proofs.Common.{◌≡◌, ℕ, zero, suc, ◌+◌, Bool, true, false, cond, List, [], ◌∷◌, slice_get, Option, Some, None, is_some, refl, sym, ap, ◌∙◌, subst}
use Rattle.std.specs.Prelude.{option_map, option_and_then}
use Rattle.std.proofs.lemmas.Option.{none-some, same_Some}
use Rattle.slab.specs.Slab.{get}
use Rattle.pd_canvas.specs.Pages.{Shape, Sub}
use Rattle.pd_tree.specs.declared.rows.Sheet.{Sheet}
use Rattle.pd_tree.specs.Trees.{Cell, Trees, Done, Leaf, Holder, Tree}
use Rattle.pd_grove.specs.declared.nodes.Node.{Node}
use Rattle.pd_grove.specs.declared.grove.Grove.{Grove}
use Rattle.pd_grove.specs.OwnPaths.{sub_in, sub_step_in, sub_reached}
use Rattle.pd_grove.specs.Places.{canvas_in_box, canvas_along, CanvasStands, LeadsTo}
use Rattle.pd_grove.specs.Standing.{NodeSeen, node_seen, Stands}
use Rattle.pd_grove.specs.Telling.{inner_in, reached}
use Rattle.pd_grove.specs.TextOrder.{is_sub, keys_inside}
use Rattle.pd_grove.proofs.PlaceLemmas.{seen_keys, path_leads}
use Rattle.pd_web.specs.declared.web.Web.{Web}
use Rattle.pd_web.specs.Canvases.{keys_at}
use Rattle.pd_present.specs.Presents.{wires_among}
use Rattle.pd_patch.specs.declared.patch.Patch.{Patch}
use Rattle.pd_patch.specs.Wired.{LeadsHere}
use Rattle.pd_patch.proofs.WayLemmas.{canvas_led, root_stands}
use Rattle.pd_regrowth_law.specs.Rewiring.{with_wires}
use Rattle.pd_reload_law.specs.Saving.{holder_now, boxes_now}
use Rattle.pd_reload_law.proofs.EditLemmas.{sub_inner}
use Rattle.pd_saved_law.proofs.CanvasLemmas.{canvas_now}
use Rattle.pd_alike_law.specs.Alike.{HasOpened, now_of}
use Rattle.pd_inside_law.specs.Inside.{LeadsInside}

-- ---- one box

seen_sub : (o : Option Node) (x : NodeSeen) → option_map node_seen o ≡ Some x → sub_in o ≡ cond (is_sub x.cell.head.form) x.inner None
seen_sub None x h = absurd (none-some x h)
seen_sub (Some n) x h = ap (λ (y : NodeSeen). cond (is_sub y.cell.head.form) y.inner None) (same_Some (node_seen n) x h)

never_leaf : (b : Bool) (j : ℕ) → cond b None None ≡ Some j → ⊥
never_leaf true j e = none-some j e
never_leaf false j e = none-some j e

cond_some : (b : Bool) (i j : ℕ) → cond b (Some i) None ≡ Some j → (b ≡ true) × (i ≡ j)
cond_some true i j e = (refl, same_Some i j e)
cond_some false i j e = absurd (none-some j e)

cond_none : (b : Bool) (i : ℕ) → cond b (Some i) None ≡ None → b ≡ false
cond_none true i e = absurd (none-some i (sym e))
cond_none false i e = refl

sub_first : (f : Shape) (c : Cell) (sheet : Sheet) (inner : Trees) (now : Sheet) (boxes others : Trees) → is_sub f ≡ true
    → canvas_in_box 0 (holder_now f c sheet inner now boxes others) ≡ Some (record { sheet = now; boxes = boxes })
sub_first Sub c sheet inner now boxes others e = refl
sub_first f c sheet inner now boxes others e = cc

other_first : (f : Shape) (c : Cell) (sheet : Sheet) (inner : Trees) (now : Sheet) (boxes others : Trees) → is_sub f ≡ false
    → canvas_in_box 0 (holder_now f c sheet inner now boxes others) ≡ Some (record { sheet = sheet; boxes = inner })
other_first Sub c sheet inner now boxes others e = cc
other_first f c sheet inner now boxes others e = refl

next_holder : (f : Shape) (c : Cell) (sheet : Sheet) (inner : Trees) (now : Sheet) (boxes others : Trees) (n : ℕ)
    → canvas_in_box (suc n) (holder_now f c sheet inner now boxes others) ≡ canvas_in_box n others
next_holder Sub c sheet inner now boxes others n = refl
next_holder f c sheet inner now boxes others n = refl

module _ (g : Grove) (web : Web) (numbers : List ℕ) where
  abbrev now : List ℕ → Trees → Trees
  now keys t = boxes_now web numbers (get g.nodes) (get g.boards) keys t

  abbrev sub_at : List ℕ → ℕ → Option ℕ
  sub_at keys n = option_and_then (λ k. sub_in (get g.nodes k)) (slice_get keys n)

  -- a box that is no subpatch holds what it held
  other_box : (b d : ℕ) (keys : List ℕ) (t : Trees) (n : ℕ) → Stands (get g.nodes) (get g.boards) b d keys t → sub_at keys n ≡ None
      → canvas_in_box n (now keys t) ≡ canvas_in_box n t
  other_box b d [] t n S e = refl
  other_box b d (k ∷ ks) Done n S e = refl
  other_box b d (k ∷ ks) (Leaf c rest) zero S e = refl
  other_box b d (k ∷ ks) (Leaf c rest) (suc n) S e = other_box b d ks rest n S.1 e
  other_box b d (k ∷ ks) (Holder c s inner rest) zero S e =
      let js = keys_inside (get g.boards) (inner_in (get g.nodes k)) in
      other_first c.head.form c s inner (with_wires (wires_among web numbers js) s) (now js inner) (now ks rest)
      (cond_none (is_sub c.head.form) S.0 (sym (seen_sub (get g.nodes k) _ S.2) ∙ e))
  other_box b d (k ∷ ks) (Holder c s inner rest) (suc n) S e =
      let js = keys_inside (get g.boards) (inner_in (get g.nodes k)) in
      next_holder c.head.form c s inner (with_wires (wires_among web numbers js) s) (now js inner) (now ks rest) n ∙ other_box b d ks rest n S.5 e

  -- a subpatch holds its canvas as that stands
  record SubNow (keys : List ℕ) (t : Trees) (n j : ℕ) : Type 0 where
    canvas : Tree
    stands : CanvasStands g j canvas
    grew : canvas_in_box n t ≡ Some canvas
    told : canvas_in_box n (now keys t) ≡ Some (canvas_now g web numbers j canvas)

  sub_box : (b d : ℕ) (keys : List ℕ) (t : Trees) (n j : ℕ) → Stands (get g.nodes) (get g.boards) b d keys t → sub_at keys n ≡ Some j → SubNow keys t n j
  sub_box b d [] Done n j S e = absurd (none-some j e)
  sub_box b d (k ∷ ks) Done n j S e = absurd S
  sub_box b d [] (Leaf c rest) n j S e = absurd S
  sub_box b d (k ∷ ks) (Leaf c rest) zero j S e = absurd (never_leaf (is_sub c.head.form) j (sym (seen_sub (get g.nodes k) _ S.0) ∙ e))
  sub_box b d (k ∷ ks) (Leaf c rest) (suc n) j S e =
      let r = sub_box b d ks rest n j S.1 e in record { canvas = r.canvas; stands = r.stands; grew = r.grew; told = r.told }
  sub_box b d [] (Holder c s inner rest) n j S e = absurd S
  sub_box b d (k ∷ ks) (Holder c s inner rest) zero j S e =
      let is = cond_some (is_sub c.head.form) S.0 j (sym (seen_sub (get g.nodes k) _ S.2) ∙ e) in
      let u : Tree = record { sheet = s; boxes = inner } in
      let here : CanvasStands g S.0 u = record { holder = Some k; depth = d + 1; keys = S.1; board = S.3; stands = S.4 } in
      let js = keys_inside (get g.boards) (inner_in (get g.nodes k)) in
      let same : js ≡ keys_at g j = ap (keys_inside (get g.boards)) (sub_inner (get g.nodes k) j e) in
      record {
        canvas = u;
        stands = subst (λ x. CanvasStands g x u) is.1 here;
        grew = refl;
        told = sub_first c.head.form c s inner (with_wires (wires_among web numbers js) s) (now js inner) (now ks rest) is.0
            ∙ ap (λ (x : List ℕ). Some (record { sheet = with_wires (wires_among web numbers x) s; boxes = now x inner })) same;
      }
  sub_box b d (k ∷ ks) (Holder c s inner rest) (suc n) j S e =
      let js = keys_inside (get g.boards) (inner_in (get g.nodes k)) in
      let r = sub_box b d ks rest n j S.5 e in
      record {
        canvas = r.canvas;
        stands = r.stands;
        grew = r.grew;
        told = next_holder c.head.form c s inner (with_wires (wires_among web numbers js) s) (now js inner) (now ks rest) n ∙ r.told;
      }

  -- ---- one step of a path

  here_keys : (c : ℕ) (u : Tree) (C : CanvasStands g c u) → keys_at g c ≡ C.keys
  here_keys c u C = seen_keys (get g.boards c) _ C.board

  other_step : (c : ℕ) (u : Tree) (n : ℕ) → CanvasStands g c u → sub_step_in g c n ≡ None → canvas_in_box n (canvas_now g web numbers c u).boxes ≡ canvas_in_box n u.boxes
  other_step c u n C e =
      let at = here_keys c u C in
      ap (λ (x : List ℕ). canvas_in_box n (now x u.boxes)) at ∙ other_box c C.depth C.keys u.boxes n C.stands (ap (λ (x : List ℕ). sub_at x n) (sym at) ∙ e)

  sub_step : (c : ℕ) (u : Tree) (n j : ℕ) → CanvasStands g c u → sub_step_in g c n ≡ Some j → SubNow (keys_at g c) u.boxes n j
  sub_step c u n j C e =
      let at = here_keys c u C in
      subst (λ (x : List ℕ). SubNow x u.boxes n j) (sym at) (sub_box c C.depth C.keys u.boxes n j C.stands (ap (λ (x : List ℕ). sub_at x n) (sym at) ∙ e))

  -- ---- paths

  -- a path that leads to no canvas of the document leads to the same canvas as before
  pub inside_stays : (path : List ℕ) (c : ℕ) (u : Tree) → CanvasStands g c u → sub_reached g (Some c) path ≡ None
      → canvas_along path (canvas_now g web numbers c u) ≡ canvas_along path u
  inside_stays [] c u C e = absurd (none-some c (sym e))
  inside_stays (n ∷ path) c u C e = by (λ j v D f. inside_stays path j v D f) (sub_step_in g c n) refl e
    where
      by : ((j : ℕ) (v : Tree) → CanvasStands g j v → sub_reached g (Some j) path ≡ None → canvas_along path (canvas_now g web numbers j v) ≡ canvas_along path v)
          → (o : Option ℕ) → sub_step_in g c n ≡ o → sub_reached g o path ≡ None
          → option_and_then (canvas_along path) (canvas_in_box n (canvas_now g web numbers c u).boxes) ≡ option_and_then (canvas_along path) (canvas_in_box n u.boxes)
      by on None s f = ap (option_and_then (canvas_along path)) (other_step c u n C s)
      by on (Some j) s f =
          let r = sub_step c u n j C s in
          ap (option_and_then (canvas_along path)) r.told ∙ on j r.canvas r.stands f ∙ sym (ap (option_and_then (canvas_along path)) r.grew)

  -- a path leads to a canvas where it led to one
  pub paths_stay : (path : List ℕ) (c : ℕ) (u : Tree) → CanvasStands g c u → is_some (canvas_along path (canvas_now g web numbers c u)) ≡ is_some (canvas_along path u)
  paths_stay [] c u C = refl
  paths_stay (n ∷ path) c u C = by (λ j v D. paths_stay path j v D) (sub_step_in g c n) refl
    where
      by : ((j : ℕ) (v : Tree) → CanvasStands g j v → is_some (canvas_along path (canvas_now g web numbers j v)) ≡ is_some (canvas_along path v))
          → (o : Option ℕ) → sub_step_in g c n ≡ o
          → is_some (option_and_then (canvas_along path) (canvas_in_box n (canvas_now g web numbers c u).boxes)) ≡ is_some (option_and_then (canvas_along path) (canvas_in_box n u.boxes))
      by on None s = ap (λ o. is_some (option_and_then (canvas_along path) o)) (other_step c u n C s)
      by on (Some j) s =
          let r = sub_step c u n j C s in
          ap (λ o. is_some (option_and_then (canvas_along path) o)) r.told ∙ on j r.canvas r.stands
          ∙ sym (ap (λ o. is_some (option_and_then (canvas_along path) o)) r.grew)

-- ---- two patches

-- a canvas inside an abstraction, in both
pub record InsideBoth (p : Patch) (t : Tree) (q : Patch) (path : List ℕ) (c d : ℕ) : Type 0 where
  pub canvas : Tree
  pub before : LeadsInside p.grove t path c canvas
  pub stands : CanvasStands p.grove c canvas
  pub now : LeadsHere q.grove (now_of p t) path d canvas
  pub again : CanvasStands q.grove d canvas

pub inside_both : (p q : Patch) (t : Tree) (path : List ℕ) (c d : ℕ) → HasOpened p t q → sub_reached p.grove (Some p.grove.root) path ≡ None
    → reached p.grove (Some p.grove.root) path ≡ Some c → reached q.grove (Some q.grove.root) path ≡ Some d → InsideBoth p t q path c d
inside_both p q t path c d o out at there =
    let G = root_stands p.grove t.sheet t.boxes o.stands in
    let H = root_stands q.grove (now_of p t).sheet (now_of p t).boxes o.again in
    let u = canvas_led p.grove c (reached p.grove (Some p.grove.root) path) (canvas_along path t) (path_leads p.grove path p.grove.root t G) at in
    let v = canvas_led q.grove d (reached q.grove (Some q.grove.root) path) (canvas_along path (now_of p t)) (path_leads q.grove path q.grove.root (now_of p t) H) there in
    let told : canvas_along path (now_of p t) ≡ Some u.0 = inside_stays p.grove p.web p.numbers.items path p.grove.root t G out ∙ u.1 in
    let same : v.0 ≡ u.0 = same_Some v.0 u.0 (sym v.1 ∙ told) in
    record {
      canvas = u.0;
      before = record { here = record { key = at; canvas = u.1 }; inside = out };
      stands = u.2;
      now = record { key = there; canvas = told };
      again = subst (λ x. CanvasStands q.grove d x) same v.2;
    }

led_where : (g : Grove) (key : Option ℕ) (v : Option Tree) → LeadsTo g key v → is_some key ≡ is_some v
led_where g key None h = ap is_some h
led_where g key (Some u) h = ap is_some h.1

pub same_paths : (p q : Patch) (t : Tree) (path : List ℕ) → HasOpened p t q
    → is_some (reached q.grove (Some q.grove.root) path) ≡ is_some (reached p.grove (Some p.grove.root) path)
same_paths p q t path o =
    let G = root_stands p.grove t.sheet t.boxes o.stands in
    let H = root_stands q.grove (now_of p t).sheet (now_of p t).boxes o.again in
    led_where q.grove (reached q.grove (Some q.grove.root) path) (canvas_along path (now_of p t)) (path_leads q.grove path q.grove.root (now_of p t) H)
    ∙ paths_stay p.grove p.web p.numbers.items path p.grove.root t G
    ∙ sym (led_where p.grove (reached p.grove (Some p.grove.root) path) (canvas_along path t) (path_leads p.grove path p.grove.root t G))
