-- As many wires come with a box that holds a canvas as fit in it.
use Rattle.std.proofs.Common.{◌≡◌, ◌+◌, ◌<◌, ℕ, true, List, [], ◌∷◌, ◌++◌, length, length-append, Option, Some, None, refl, sym, ap, ◌∙◌, subst, arith}
use Rattle.std.specs.Prelude.{option_map}
use Rattle.std.proofs.lemmas.List.{length-map}
use Rattle.std.proofs.lemmas.List.Concat.{flat_map-append}
use Rattle.std.proofs.lemmas.Option.{none-some, same_Some}
use Rattle.slab.specs.Slab.{get}
use Rattle.pd_atom.specs.Names.{Names}
use Rattle.pd_tree.specs.Ports.{trimmed_sheet}
use Rattle.pd_tree.specs.Trees.{Trees, Done, Leaf, Holder, Tree, stands_of, width}
use Rattle.pd_fit.specs.Fitting.{wires_inside}
use Rattle.pd_grove.specs.declared.grove.Grove.{Grove}
use Rattle.pd_grove.specs.declared.nodes.Node.{Node}
use Rattle.pd_grove.specs.declared.seeds.Seed.{Seed}
use Rattle.pd_grove.specs.Places.{CanvasStands}
use Rattle.pd_grove.specs.Planting.{one, seed_stand, stands_ready}
use Rattle.pd_grove.specs.Standing.{NodeSeen, node_seen, Stands, depth_of}
use Rattle.pd_grove.specs.Telling.{inner_in}
use Rattle.pd_grove.specs.TextOrder.{deep, keys_standing}
use Rattle.pd_web.specs.Canvases.{HoldersAreNoPorts, fitting, keys_at}
use Rattle.pd_web.specs.Changes.{wires_told}
use Rattle.pd_web.specs.Lines.{line_of, lines_at}
use Rattle.pd_web.proofs.TreeFits.{trimmed_is}
use Rattle.pd_patch.specs.declared.patch.Patch.{Patch}
use Rattle.pd_boxes.specs.declared.room.Place.{Place}
use Rattle.pd_instances.specs.Part.{lines_held, lines_inside, lines_of, IsPartPut}
use Rattle.pd_instances.proofs.TellLemmas.{part_keys}

seen_inner : (o : Option Node) (s : NodeSeen) → option_map node_seen o ≡ Some s → inner_in o ≡ s.inner
seen_inner None s h = absurd (none-some s h)
seen_inner (Some n) s h = ap (λ (x : NodeSeen). x.inner) (same_Some (node_seen n) s h)

module _ (g : Grove) where
  -- a canvas that stands has as many as fit in it
  canvas_lines : (c : ℕ) (u : Tree) → CanvasStands g c u → HoldersAreNoPorts u.boxes → length (lines_at g c) ≡ length (trimmed_sheet u.boxes u.sheet).wires
  canvas_lines c u C H = length-map (fitting g c) (line_of (keys_at g c)) ∙ ap length (trimmed_is g c u C H)

  more_lines : (xs ys : List ℕ) → length (lines_of g (xs ++ ys)) ≡ length (lines_of g xs) + length (lines_of g ys)
  more_lines xs ys = ap length (flat_map-append (lines_inside g) xs ys) ∙ length-append (lines_of g xs) (lines_of g ys)

  -- so have the boxes that stand in it
  pub lines_stand : (b d : ℕ) (ks : List ℕ) (t : Trees) (S : Stands (get g.nodes) (get g.boards) b d ks t) → HoldersAreNoPorts t
      → length (lines_of g (keys_standing (get g.nodes) (get g.boards) b d ks t S)) ≡ wires_inside t
  lines_stand b d [] Done S H = refl
  lines_stand b d (k ∷ ks) Done S H = absurd S
  lines_stand b d [] (Leaf c rest) S H = absurd S
  lines_stand b d (k ∷ ks) (Leaf c rest) S H =
      ap (λ (o : Option ℕ). length (lines_held g o ++ lines_of g (keys_standing (get g.nodes) (get g.boards) b d ks rest S.1))) (seen_inner (get g.nodes k) _ S.0)
      ∙ lines_stand b d ks rest S.1 H
  lines_stand b d [] (Holder c s inner rest) S H = absurd S
  lines_stand b d (k ∷ ks) (Holder c s inner rest) S H =
      let within : List ℕ = keys_standing (get g.nodes) (get g.boards) S.0 (d + 1) S.1 inner S.4 in
      let behind : List ℕ = keys_standing (get g.nodes) (get g.boards) b d ks rest S.5 in
      let u : Tree = record { sheet = s; boxes = inner } in
      let here : length (lines_inside g k) ≡ length (trimmed_sheet inner s).wires =
      ap (λ (o : Option ℕ). length (lines_held g o)) (seen_inner (get g.nodes k) _ S.2)
      ∙ canvas_lines S.0 u (record { holder = Some k; depth = d + 1; keys = S.1; board = S.3; stands = S.4 }) H.2 in
      let all : length (lines_of g (k ∷ (within ++ behind))) ≡ length (lines_inside g k) + length (lines_of g (within ++ behind)) = length-append (lines_inside g k) (lines_of g (within ++ behind)) in
      let two : length (lines_of g (within ++ behind)) ≡ length (lines_of g within) + length (lines_of g behind) = more_lines within behind in
      let first : length (lines_of g within) ≡ wires_inside inner = lines_stand S.0 (d + 1) S.1 inner S.4 H.2 in
      let second : length (lines_of g behind) ≡ wires_inside rest = lines_stand b d ks rest S.5 H.3 in
      omega (arith, here, all, two, first, second)

-- as many wires came as fit in the box
pub part_wires : (p q : Patch) (table : Names) (place : Place) (s : Seed) (seeds : List Seed) (key steps steps' : ℕ) (t : Trees) → IsPartPut p q table place s seeds key steps steps'
    → one (seed_stand s) (stands_ready seeds) ≡ stands_of t → width t ≡ 1 → HoldersAreNoPorts t → depth_of (get p.grove.boards place.canvas) + deep t < 257
    → wires_told q.web ≡ wires_told p.web + wires_inside t
part_wires p q table place s seeds key steps steps' t P rows wide bare low =
    let d : ℕ = depth_of (get p.grove.boards place.canvas) in
    let d' : ℕ = depth_of (get q.grove.boards place.canvas) in
    let same : d' ≡ d = P.grove.depth in
    let S : Stands (get q.grove.nodes) (get q.grove.boards) place.canvas d' (key ∷ []) t =
    subst (λ (n : ℕ). Stands (get q.grove.nodes) (get q.grove.boards) place.canvas n (key ∷ []) t) (sym same) (P.stands t rows wide) in
    let are : P.part ≡ keys_standing (get q.grove.nodes) (get q.grove.boards) place.canvas d' (key ∷ []) t S =
    P.in_order ∙ part_keys q.grove place.canvas key t S P.grove.lies (omega (arith, same, low)) true in
    let many : length (lines_of q.grove P.part) ≡ wires_inside t = ap (λ (ks : List ℕ). length (lines_of q.grove ks)) are ∙ lines_stand q.grove place.canvas d' (key ∷ []) t S bare in
    P.wires.count ∙ ap (λ (n : ℕ). wires_told p.web + n) many
