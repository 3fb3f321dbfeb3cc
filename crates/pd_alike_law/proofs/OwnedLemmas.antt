-- Who owns a name hangs on nothing that boxes keep.
use Rattle.std.proofs.Common.{◌≡◌, ℕ, zero, suc, Bool, true, ◌&&◌, cond, List, [], ◌∷◌, ◌++◌, filter, Option, Some, None, refl, sym, ap, ◌∙◌}
use Rattle.std.specs.Prelude.{option_map, option_and_then}
use Rattle.std.specs.List.{flat_map}
use Rattle.slab.specs.Slab.{Slab, get}
use Rattle.pd_atom.specs.Names.{Names}
use Rattle.pd_canvas.specs.Views.{entry_of}
use Rattle.pd_name.specs.declared.Class.{Class}
use Rattle.pd_tree.specs.Trees.{Cell}
use Rattle.pd_grove.specs.declared.boards.Board.{Board}
use Rattle.pd_grove.specs.declared.grove.Grove.{Grove}
use Rattle.pd_grove.specs.declared.nodes.Node.{Node}
use Rattle.pd_grove.specs.declared.spots.Spot.{Spot}
use Rattle.pd_grove.specs.Standing.{node_seen}
use Rattle.pd_grove.specs.Telling.{keys_in, with_state}
use Rattle.pd_grove.specs.TextOrder.{is_sub, spot, keys_inside, box_spots, spots_among, spots_in_order, keys_of_spots, cell_under}
use Rattle.pd_bind.specs.Naming.{owned_by}
use Rattle.pd_bind.specs.Owning.{is_owned, owned_at, boxes_owning, root_owning, owners_in}

-- a box without what it keeps
abbrev pub bare : Option Node → Option Node
bare o = option_map (with_state None) o

bare_spots : (boards : ℕ → Option Board) (inside : Bool → List ℕ → List Spot) (top : Bool) (k : ℕ) (o : Option Node)
    → box_spots boards inside top k (bare o) ≡ box_spots boards inside top k o
bare_spots boards inside top k None = refl
bare_spots boards inside top k (Some n) = refl

bare_cell : (o : Option Node) → option_map (λ (n : Node). (node_seen n).cell) (bare o) ≡ option_map (λ (n : Node). (node_seen n).cell) o
bare_cell None = refl
bare_cell (Some n) = refl

inside_same : (boards : ℕ → Option Board) (f g : Bool → List ℕ → List Spot) (top : Bool) (k : ℕ) (o : Option Node) → ((b : Bool) (ks : List ℕ) → f b ks ≡ g b ks)
    → box_spots boards f top k o ≡ box_spots boards g top k o
inside_same boards f g top k None h = refl
inside_same boards f g top k (Some n) h = ap (λ (l : List Spot). spot top k ∷ l) (h (top && is_sub (entry_of n.element).head.form) (keys_inside boards n.inner))

each_same : (f g : ℕ → List Spot) → ((k : ℕ) → f k ≡ g k) → (ks : List ℕ) → flat_map f ks ≡ flat_map g ks
each_same f g h [] = refl
each_same f g h (k ∷ ks) = ap (λ (l : List Spot). l ++ flat_map f ks) (h k) ∙ ap (λ (l : List Spot). g k ++ l) (each_same f g h ks)

filters_same : (f g : Spot → Bool) → ((p : Spot) → f p ≡ g p) → (ps : List Spot) → filter f ps ≡ filter g ps
filters_same f g h [] = refl
filters_same f g h (p ∷ ps) =
    ap (λ (b : Bool). cond b (p ∷ filter f ps) (filter f ps)) (h p) ∙ ap (λ (l : List Spot). cond (g p) (p ∷ l) l) (filters_same f g h ps)

module _ (nodes nodes2 : ℕ → Option Node) (boards : ℕ → Option Board) (same : (k : ℕ) → bare (nodes2 k) ≡ bare (nodes k)) where
  box_same : (inside : Bool → List ℕ → List Spot) (top : Bool) (k : ℕ) → box_spots boards inside top k (nodes2 k) ≡ box_spots boards inside top k (nodes k)
  box_same inside top k =
      sym (bare_spots boards inside top k (nodes2 k)) ∙ ap (box_spots boards inside top k) (same k) ∙ bare_spots boards inside top k (nodes k)

  -- the boxes stand in the same text order
  spots_same : (n : ℕ) (top : Bool) (ks : List ℕ) → spots_among nodes2 boards n top ks ≡ spots_among nodes boards n top ks
  unfolding spots_among
  spots_same zero top ks = refl
  spots_same (suc n) top ks =
      each_same (λ k. box_spots boards (spots_among nodes2 boards n) top k (nodes2 k)) (λ k. box_spots boards (spots_among nodes boards n) top k (nodes k))
      (λ k. box_same (spots_among nodes2 boards n) top k ∙ inside_same boards (spots_among nodes2 boards n) (spots_among nodes boards n) top k (nodes k) (λ b js. spots_same n b js)) ks

  cell_same : (k : ℕ) → cell_under nodes2 k ≡ cell_under nodes k
  cell_same k = sym (bare_cell (nodes2 k)) ∙ ap (λ (o : Option Node). option_map (λ (n : Node). (node_seen n).cell) o) (same k) ∙ bare_cell (nodes k)

  -- and the same of them own a name
  owning_same : (names : Names) (class : Class) (name : ℕ) (ps : List Spot) → boxes_owning names nodes2 class name ps ≡ boxes_owning names nodes class name ps
  owning_same names class name ps =
      ap keys_of_spots (filters_same (λ p. is_owned class name (owned_at names nodes2 p)) (λ p. is_owned class name (owned_at names nodes p))
      (λ p. ap (λ (o : Option Cell). is_owned class name (option_and_then (λ c. owned_by names p.is_top c) o)) (cell_same p.node)) ps)

pub owners_same : (names : Names) (file : List ℕ) (g g2 : Grove) (class : Class) (name : ℕ) → ((k : ℕ) → bare (get g2.nodes k) ≡ bare (get g.nodes k)) → g2.boards ≡ g.boards
    → g2.root ≡ g.root → owners_in names file g2 class name ≡ owners_in names file g class name
owners_same names file g g2 class name nodes boards root =
    let spots : spots_in_order g2 ≡ spots_in_order g =
    ap (λ (b : Slab Board). spots_among (get g2.nodes) (get b) 257 true (keys_in (get b g2.root))) boards
    ∙ ap (λ (r : ℕ). spots_among (get g2.nodes) (get g.boards) 257 true (keys_in (get g.boards r))) root
    ∙ spots_same (get g.nodes) (get g2.nodes) (get g.boards) nodes 257 true (keys_in (get g.boards g.root)) in
    ap (λ (l : List Spot). root_owning names file class name ++ boxes_owning names (get g2.nodes) class name l) spots
    ∙ ap (λ (l : List ℕ). root_owning names file class name ++ l) (owning_same (get g.nodes) (get g2.nodes) (get g.boards) nodes names class name (spots_in_order g))
