-- Paths through the subpatches of a tree that stands.
use Rattle.std.proofs.Common.{◌≡◌, ℕ, zero, suc, ◌+◌, Bool, true, false, cond, List, [], ◌∷◌, Option, Some, None, refl, sym, ap, ◌∙◌, subst}
use Rattle.std.specs.Prelude.{option_map, option_and_then, slice_get}
use Rattle.std.proofs.lemmas.Option.{same_Some, none-some}
use Rattle.slab.specs.Slab.{get}
use Rattle.pd_tree.specs.Trees.{Trees, Done, Leaf, Holder, Tree}
use Rattle.pd_grove.specs.declared.nodes.Node.{Node}
use Rattle.pd_grove.specs.declared.grove.Grove.{Grove}
use Rattle.pd_grove.specs.Standing.{NodeSeen, node_seen, Stands}
use Rattle.pd_grove.specs.TextOrder.{is_sub}
use Rattle.pd_grove.specs.Places.{CanvasStands, LeadsTo}
use Rattle.pd_grove.specs.OwnPaths.{sub_in, sub_step_in, sub_reached, sub_in_box, sub_along}
use Rattle.pd_grove.proofs.PlaceLemmas.{seen_keys}

seen_sub : (o : Option Node) (s : NodeSeen) → option_map node_seen o ≡ Some s → sub_in o ≡ cond (is_sub s.cell.head.form) s.inner None
seen_sub None s h = absurd (none-some s h)
seen_sub (Some n) s h = ap (λ (x : NodeSeen). cond (is_sub x.cell.head.form) x.inner None) (same_Some (node_seen n) s h)

either_way : (b : Bool) (o : Option ℕ) → cond b o o ≡ o
either_way true o = refl
either_way false o = refl

abbrev sub_at : Grove → List ℕ → ℕ → Option ℕ
sub_at g ks n = option_and_then (λ k. sub_in (get g.nodes k)) (slice_get ks n)

leads_if : (g : Grove) (b : Bool) (c : ℕ) (u : Tree) → CanvasStands g c u → LeadsTo g (cond b (Some c) None) (cond b (Some u) None)
leads_if g true c u C = (c, refl, C)
leads_if g false c u C = refl

-- the canvas in a subpatch is under the key that the box has for it
sub_leads : (g : Grove) (b d : ℕ) (ks : List ℕ) (t : Trees) (n : ℕ) → Stands (get g.nodes) (get g.boards) b d ks t → LeadsTo g (sub_at g ks n) (sub_in_box n t)
sub_leads g b d [] Done n S = refl
sub_leads g b d (k ∷ ks) Done n S = absurd S
sub_leads g b d [] (Leaf c rest) n S = absurd S
sub_leads g b d (k ∷ ks) (Leaf c rest) zero S = seen_sub (get g.nodes k) _ S.0 ∙ either_way (is_sub c.head.form) None
sub_leads g b d (k ∷ ks) (Leaf c rest) (suc n) S = sub_leads g b d ks rest n S.1
sub_leads g b d [] (Holder c s inner rest) n S = absurd S
sub_leads g b d (k ∷ ks) (Holder c s inner rest) zero S =
    let u : Tree = record { sheet = s; boxes = inner } in
    subst (λ o. LeadsTo g o (cond (is_sub c.head.form) (Some u) None)) (sym (seen_sub (get g.nodes k) _ S.2))
    (leads_if g (is_sub c.head.form) S.0 u (record { holder = Some k; depth = d + 1; keys = S.1; board = S.3; stands = S.4 }))
sub_leads g b d (k ∷ ks) (Holder c s inner rest) (suc n) S = sub_leads g b d ks rest n S.5

nowhere : (g : Grove) (path : List ℕ) → sub_reached g None path ≡ None
nowhere g [] = refl
nowhere g (n ∷ path) = nowhere g path

leads_from : (g : Grove) (path : List ℕ) (key : Option ℕ) (v : Option Tree)
    → ((c : ℕ) (u : Tree) → CanvasStands g c u → LeadsTo g (sub_reached g (Some c) path) (sub_along path u))
    → LeadsTo g key v → LeadsTo g (sub_reached g key path) (option_and_then (sub_along path) v)
leads_from g path key None P h = ap (λ o. sub_reached g o path) h ∙ nowhere g path
leads_from g path key (Some u) P h = subst (λ o. LeadsTo g (sub_reached g o path) (sub_along path u)) (sym h.1) (P h.0 u h.2)

pub sub_path_leads : (g : Grove) (path : List ℕ) (c : ℕ) (u : Tree) → CanvasStands g c u → LeadsTo g (sub_reached g (Some c) path) (sub_along path u)
sub_path_leads g [] c u C = (c, refl, C)
sub_path_leads g (n ∷ path) c u C =
    let at : sub_step_in g c n ≡ sub_at g C.keys n = ap (λ ks. sub_at g ks n) (seen_keys (get g.boards c) _ C.board) in
    leads_from g path (sub_step_in g c n) (sub_in_box n u.boxes) (λ k v D. sub_path_leads g path k v D)
    (subst (λ o. LeadsTo g o (sub_in_box n u.boxes)) (sym at) (sub_leads g c C.depth C.keys u.boxes n C.stands))
