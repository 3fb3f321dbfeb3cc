-- Paths through a tree that stands.
use Rattle.std.proofs.Common.{◌≡◌, ℕ, zero, suc, ◌+◌, List, [], ◌∷◌, Option, Some, None, refl, sym, ap, ◌∙◌, subst}
use Rattle.std.specs.Prelude.{option_map, option_and_then, slice_get}
use Rattle.std.proofs.lemmas.Option.{same_Some, none-some}
use Rattle.slab.specs.Slab.{get}
use Rattle.pd_tree.specs.Trees.{Trees, Done, Leaf, Holder, Tree}
use Rattle.pd_grove.specs.declared.nodes.Node.{Node}
use Rattle.pd_grove.specs.declared.boards.Board.{Board}
use Rattle.pd_grove.specs.declared.grove.Grove.{Grove}
use Rattle.pd_grove.specs.Standing.{NodeSeen, node_seen, BoardSeen, board_seen, Stands}
use Rattle.pd_grove.specs.Telling.{inner_in, keys_in, step_in, reached}
use Rattle.pd_grove.specs.Places.{canvas_in_box, canvas_along, cell_at, cell_seen, CanvasStands, LeadsTo}

seen_inner : (o : Option Node) (s : NodeSeen) → option_map node_seen o ≡ Some s → inner_in o ≡ s.inner
seen_inner None s h = absurd (none-some s h)
seen_inner (Some n) s h = ap (λ (x : NodeSeen). x.inner) (same_Some (node_seen n) s h)

pub seen_cell : (o : Option Node) (s : NodeSeen) → option_map node_seen o ≡ Some s → option_map (λ (x : Node). (node_seen x).cell) o ≡ Some s.cell
seen_cell None s h = absurd (none-some s h)
seen_cell (Some n) s h = ap (λ (x : NodeSeen). Some x.cell) (same_Some (node_seen n) s h)

pub seen_keys : (o : Option Board) (s : BoardSeen) → option_map board_seen o ≡ Some s → keys_in o ≡ s.keys
seen_keys None s h = absurd (none-some s h)
seen_keys (Some b) s h = ap (λ (x : BoardSeen). x.keys) (same_Some (board_seen b) s h)

abbrev inner_at : Grove → List ℕ → ℕ → Option ℕ
inner_at g ks n = option_and_then (λ k. inner_in (get g.nodes k)) (slice_get ks n)

-- the canvas in a box is under the key that the box has for it
box_leads : (g : Grove) (b d : ℕ) (ks : List ℕ) (t : Trees) (n : ℕ) → Stands (get g.nodes) (get g.boards) b d ks t → LeadsTo g (inner_at g ks n) (canvas_in_box n t)
box_leads g b d [] Done n S = refl
box_leads g b d (k ∷ ks) Done n S = absurd S
box_leads g b d [] (Leaf c rest) n S = absurd S
box_leads g b d (k ∷ ks) (Leaf c rest) zero S = seen_inner (get g.nodes k) _ S.0
box_leads g b d (k ∷ ks) (Leaf c rest) (suc n) S = box_leads g b d ks rest n S.1
box_leads g b d [] (Holder c s inner rest) n S = absurd S
box_leads g b d (k ∷ ks) (Holder c s inner rest) zero S =
    (S.0, seen_inner (get g.nodes k) _ S.2, record { holder = Some k; depth = d + 1; keys = S.1; board = S.3; stands = S.4 })
box_leads g b d (k ∷ ks) (Holder c s inner rest) (suc n) S = box_leads g b d ks rest n S.5

-- the box of a number is seen
box_seen : (g : Grove) (b d : ℕ) (ks : List ℕ) (t : Trees) (n : ℕ) → Stands (get g.nodes) (get g.boards) b d ks t
    → option_and_then (λ k. option_map (λ (x : Node). (node_seen x).cell) (get g.nodes k)) (slice_get ks n) ≡ cell_at n t
box_seen g b d [] Done n S = refl
box_seen g b d (k ∷ ks) Done n S = absurd S
box_seen g b d [] (Leaf c rest) n S = absurd S
box_seen g b d (k ∷ ks) (Leaf c rest) zero S = seen_cell (get g.nodes k) _ S.0
box_seen g b d (k ∷ ks) (Leaf c rest) (suc n) S = box_seen g b d ks rest n S.1
box_seen g b d [] (Holder c s inner rest) n S = absurd S
box_seen g b d (k ∷ ks) (Holder c s inner rest) zero S = seen_cell (get g.nodes k) _ S.2
box_seen g b d (k ∷ ks) (Holder c s inner rest) (suc n) S = box_seen g b d ks rest n S.5

pub canvas_box : (g : Grove) (c : ℕ) (u : Tree) → CanvasStands g c u → (n : ℕ) → cell_seen g c n ≡ cell_at n u.boxes
canvas_box g c u C n =
    ap (λ ks. option_and_then (λ k. option_map (λ (x : Node). (node_seen x).cell) (get g.nodes k)) (slice_get ks n)) (seen_keys (get g.boards c) _ C.board)
    ∙ box_seen g c C.depth C.keys u.boxes n C.stands

nowhere : (g : Grove) (path : List ℕ) → reached g None path ≡ None
nowhere g [] = refl
nowhere g (n ∷ path) = nowhere g path

leads_from : (g : Grove) (path : List ℕ) (key : Option ℕ) (v : Option Tree)
    → ((c : ℕ) (u : Tree) → CanvasStands g c u → LeadsTo g (reached g (Some c) path) (canvas_along path u))
    → LeadsTo g key v → LeadsTo g (reached g key path) (option_and_then (canvas_along path) v)
leads_from g path key None P h = ap (λ o. reached g o path) h ∙ nowhere g path
leads_from g path key (Some u) P h = subst (λ o. LeadsTo g (reached g o path) (canvas_along path u)) (sym h.1) (P h.0 u h.2)

pub path_leads : (g : Grove) (path : List ℕ) (c : ℕ) (u : Tree) → CanvasStands g c u → LeadsTo g (reached g (Some c) path) (canvas_along path u)
path_leads g [] c u C = (c, refl, C)
path_leads g (n ∷ path) c u C =
    let at : step_in g c n ≡ inner_at g C.keys n = ap (λ ks. inner_at g ks n) (seen_keys (get g.boards c) _ C.board) in
    leads_from g path (step_in g c n) (canvas_in_box n u.boxes) (λ k v D. path_leads g path k v D)
    (subst (λ o. LeadsTo g o (canvas_in_box n u.boxes)) (sym at) (box_leads g c C.depth C.keys u.boxes n C.stands))
