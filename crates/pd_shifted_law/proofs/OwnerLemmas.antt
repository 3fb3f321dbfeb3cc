-- Who owns a name hangs on no place of a box in its window.
use Rattle.std.proofs.Common.{◌≡◌, ℕ, zero, suc, ℤ, Bool, true, ◌&&◌, cond, List, [], ◌∷◌, ◌++◌, filter, Option, Some, None, refl, sym, ap, ◌∙◌, subst, ◌≢◌}
use Rattle.std.specs.Prelude.{option_map, option_and_then}
use Rattle.std.specs.List.{flat_map}
use mathlib.Core.Logic.{⊎_elim}
use Rattle.std.proofs.lemmas.Bool.{cases_eq}
use Rattle.slab.specs.Slab.{Slab, get}
use Rattle.pd_atom.specs.Names.{Names}
use Rattle.pd_object.specs.declared.kinds.Kind.{Kind}
use Rattle.pd_object.specs.declared.kinds.Kind.TheVariants as kind
use Rattle.pd_canvas.specs.Views.{entry_of}
use Rattle.pd_name.specs.declared.Class.{Class}
use Rattle.pd_name.specs.Rows.{owners_of}
use Rattle.pd_tree.specs.Trees.{Cell}
use Rattle.pd_grove.specs.declared.boards.Board.{Board}
use Rattle.pd_grove.specs.declared.grove.Grove.{Grove}
use Rattle.pd_grove.specs.declared.nodes.Node.{Node}
use Rattle.pd_grove.specs.declared.spots.Spot.{Spot}
use Rattle.pd_grove.specs.Refits.{at_place, Alters}
use Rattle.pd_grove.specs.Standing.{node_seen}
use Rattle.pd_grove.specs.Telling.{keys_in}
use Rattle.pd_grove.specs.TextOrder.{is_sub, spot, keys_inside, box_spots, spots_among, spots_in_order, keys_of_spots}
use Rattle.pd_bind.specs.Naming.{Owned, owned_by, owned_by_kind}
use Rattle.pd_bind.specs.Owning.{is_owned, owned_at, boxes_owning, root_owning, owners_in}
use Rattle.pd_patch.specs.declared.patch.Patch.{Patch}
use Rattle.pd_boxes.specs.Put.{HasOwners}
use Rattle.pd_shifting.specs.declared.shifting.MovedBox.{MovedBox}
use Rattle.pd_shifting.specs.Moves.{MovesBox}
use Rattle.pd_shifted_law.specs.Shifts.{cell_at}
use Rattle.pd_shifted_law.proofs.EitherLemmas.{box_alters, rest_stays}

spots_placed : (boards : ℕ → Option Board) (inside : Bool → List ℕ → List Spot) (top : Bool) (k : ℕ) (x y : ℤ) (o : Option Node)
    → box_spots boards inside top k (option_map (at_place x y) o) ≡ box_spots boards inside top k o
spots_placed boards inside top k x y None = refl
spots_placed boards inside top k x y (Some n) = refl

pub owned_placed : (names : Names) (top : Bool) (x y : ℤ) (c : Cell) (k : Kind) → owned_by_kind names top (cell_at x y c) k ≡ owned_by_kind names top c k
owned_placed names top x y c (kind.Glue g) = refl
owned_placed names top x y c (kind.Signal s) = refl
owned_placed names top x y c (kind.Panel p) = refl
owned_placed names top x y c kind.Canvas = refl
owned_placed names top x y c k = refl

-- what a box at a place of text order owns
abbrev owned_of : Names → Bool → Option Node → Option Owned
owned_of names top o = option_and_then (λ c. owned_by names top c) (option_map (λ (n : Node). (node_seen n).cell) o)

owns_placed : (names : Names) (top : Bool) (x y : ℤ) (o : Option Node) → owned_of names top (option_map (at_place x y) o) ≡ owned_of names top o
owns_placed names top x y None = refl
owns_placed names top x y (Some n) = owned_placed names top x y (node_seen n).cell n.kind

inside_same : (boards : ℕ → Option Board) (f g : Bool → List ℕ → List Spot) (top : Bool) (k : ℕ) (o : Option Node) → ((b : Bool) (ks : List ℕ) → f b ks ≡ g b ks)
    → box_spots boards f top k o ≡ box_spots boards g top k o
inside_same boards f g top k None h = refl
inside_same boards f g top k (Some n) h = ap (λ (l : List Spot). spot top k ∷ l) (h (top && is_sub (entry_of n.element).head.form) (keys_inside boards n.inner))

each_same : (f g : ℕ → List Spot) → ((k : ℕ) → f k ≡ g k) → (ks : List ℕ) → flat_map f ks ≡ flat_map g ks
each_same f g h [] = refl
each_same f g h (k ∷ ks) = ap (λ (l : List Spot). l ++ flat_map f ks) (h k) ∙ ap (λ (l : List Spot). g k ++ l) (each_same f g h ks)

filters_same : (f g : Spot → Bool) → ((p : Spot) → f p ≡ g p) → (ps : List Spot) → filter f ps ≡ filter g ps
filters_same f g h [] = refl
filters_same f g h (p ∷ ps) =
    ap (λ (b : Bool). cond b (p ∷ filter f ps) (filter f ps)) (h p) ∙ ap (λ (l : List Spot). cond (g p) (p ∷ l) l) (filters_same f g h ps)

module _ (g h : Grove) (key : ℕ) (x y : ℤ) (A : Alters g h key (at_place x y)) where
  -- what a box tells wherever it stands
  pub told_as : {X : Type 0} (f : Option Node → X) → ((o : Option Node) → f (option_map (at_place x y) o) ≡ f o) → (k : ℕ) → f (get h.nodes k) ≡ f (get g.nodes k)
  told_as f e k = ⊎_elim
      (λ (same : k ≡ key). subst (λ j. f (get h.nodes j) ≡ f (get g.nodes j)) (sym same) (ap f A.box ∙ e (get g.nodes key)))
      (λ (d : k ≢ key). ap f (A.others k d))
      (cases_eq k key)

  -- the boxes stand in the same text order
  spots_same : (n : ℕ) (top : Bool) (ks : List ℕ) → spots_among (get h.nodes) (get g.boards) n top ks ≡ spots_among (get g.nodes) (get g.boards) n top ks
  unfolding spots_among
  spots_same zero top ks = refl
  spots_same (suc n) top ks =
      each_same (λ k. box_spots (get g.boards) (spots_among (get h.nodes) (get g.boards) n) top k (get h.nodes k))
      (λ k. box_spots (get g.boards) (spots_among (get g.nodes) (get g.boards) n) top k (get g.nodes k))
      (λ k. told_as (box_spots (get g.boards) (spots_among (get h.nodes) (get g.boards) n) top k) (spots_placed (get g.boards) (spots_among (get h.nodes) (get g.boards) n) top k x y) k
      ∙ inside_same (get g.boards) (spots_among (get h.nodes) (get g.boards) n) (spots_among (get g.nodes) (get g.boards) n) top k (get g.nodes k) (λ b js. spots_same n b js)) ks

  owning_same : (names : Names) (class : Class) (name : ℕ) (ps : List Spot) → boxes_owning names (get h.nodes) class name ps ≡ boxes_owning names (get g.nodes) class name ps
  owning_same names class name ps =
      ap keys_of_spots (filters_same (λ p. is_owned class name (owned_at names (get h.nodes) p)) (λ p. is_owned class name (owned_at names (get g.nodes) p))
      (λ p. ap (is_owned class name) (told_as (owned_of names p.is_top) (owns_placed names p.is_top x y) p.node)) ps)

  order_same : spots_in_order h ≡ spots_in_order g
  order_same =
      ap (λ (b : Slab Board). spots_among (get h.nodes) (get b) 257 true (keys_in (get b h.root))) A.boards
      ∙ ap (λ (r : ℕ). spots_among (get h.nodes) (get g.boards) 257 true (keys_in (get g.boards r))) A.root
      ∙ spots_same 257 true (keys_in (get g.boards g.root))

  pub owners_same : (names : Names) (file : List ℕ) (class : Class) (name : ℕ) → owners_in names file h class name ≡ owners_in names file g class name
  owners_same names file class name =
      ap (λ (l : List Spot). root_owning names file class name ++ boxes_owning names (get h.nodes) class name l) order_same
      ∙ ap (λ (l : List ℕ). root_owning names file class name ++ l) (owning_same names class name (spots_in_order g))

pub owners_stay : (p q : Patch) (path : List ℕ) (number : ℕ) (x y : ℤ) (b : MovedBox) (table : Names) (file : List ℕ) → MovesBox p q path number x y b
    → HasOwners p table file → HasOwners q table file
owners_stay p q path number x y b table file M H class name =
    ap (λ r. owners_of r class name) (rest_stays p q b.canvas b.key x y M.shifts).names ∙ H class name
    ∙ sym (owners_same p.grove q.grove b.key x y (box_alters p q b.canvas b.key x y M.shifts) table file class name)
