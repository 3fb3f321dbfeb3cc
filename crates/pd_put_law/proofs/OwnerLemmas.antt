-- Under each name stand its owners, where room was set aside, where a box came, and where the names go on.
use Rattle.std.proofs.Common.{◌≡◌, ◌≤◌, ◌+◌, ◌⊎◌, ◌&&◌, ℕ, zero, suc, Bool, true, cond, List, [], ◌∷◌, ◌++◌, map, Option, Some, None, refl, sym, ap, ◌∙◌, subst}
use Rattle.std.specs.Prelude.{option_map, option_and_then}
use Rattle.std.specs.List.{AllByRecursion, filter, flat_map}
use mathlib.Core.Logic.{⊎_elim}
use Rattle.std.proofs.lemmas.Option.{same_Some}
use Rattle.slab.specs.Slab.{get}
use Rattle.pd_atom.specs.Names.{Names, Extends}
use Rattle.pd_canvas.specs.Views.{entry_of}
use Rattle.pd_name.specs.declared.Class.{Class}
use Rattle.pd_name.specs.declared.Class.TheVariants.{Receiver}
use Rattle.pd_library.specs.Files.{answer_in}
use Rattle.pd_library.specs.declared.answers.Answer.{Answer}
use Rattle.pd_tree.specs.Trees.{Cell, Tree, weight, zeros_of, document_in}
use Rattle.pd_grove.specs.declared.boards.Board.{Board}
use Rattle.pd_grove.specs.declared.grove.Grove.{Grove}
use Rattle.pd_grove.specs.declared.nodes.Node.{Node}
use Rattle.pd_grove.specs.declared.spots.Spot.{Spot}
use Rattle.pd_grove.specs.Room.{IsSameButRoom}
use Rattle.pd_grove.specs.Standing.{GroveStands}
use Rattle.pd_grove.specs.Telling.{keys_in}
use Rattle.pd_grove.specs.TextOrder.{deep, Placed, placed, placed_in_order, placed_at, is_sub, spot, keys_inside, box_spots, spots_among, spots_in_order, keys_of_spots, cell_under}
use Rattle.pd_grove.proofs.SpotLemmas.{grove_spots, placed_stand, spots_none, spots_suc}
use Rattle.pd_name.specs.Rows.{owners_of}
use Rattle.pd_bind.specs.Naming.{owned, owned_by}
use Rattle.pd_bind.specs.Owning.{is_owned, owned_at, boxes_owning, root_owning, owner_if, root_owner, owners_in}
use Rattle.pd_web.specs.Canvases.{keys_at}
use Rattle.pd_patch.specs.declared.patch.Patch.{Patch}
use Rattle.pd_gather.specs.Gather.{Known}
use Rattle.pd_boxes.specs.Put.{HasOwners}
use Rattle.pd_boxes.specs.Room.{SameButRoom}
use Rattle.pd_boxes.proofs.RoomLemmas.{keys_same}
use Rattle.pd_following.specs.Ports.{RestStays}
use Rattle.pd_regrowth_law.specs.Regrowth.{stock}
use Rattle.pd_regrowth_law.proofs.StepLemmas.{extends_same}
use Rattle.pd_reload_law.specs.Reloading.{RunsAs}
use Rattle.pd_alike_law.specs.Alike.{OwnAlike}
use Rattle.pd_alike_law.proofs.NameLemmas.{grown_alike}
use Rattle.pd_putting_law.specs.Again.{StandsAgain}
use Rattle.pd_adding.specs.declared.counts.Counts.{Counts}
use Rattle.pd_putting.specs.declared.adding.NewBox.{NewBox}
use Rattle.pd_canvas.specs.declared.edits.Edit.{Edit}
use Rattle.pd_putting.specs.Adds.{IsBoxPutAt, IsSubPutAt, IsPortBoxPutAt, IsPartBoxPutAt, AddsBoxAt}
use Rattle.pd_put_law.proofs.ComeLemmas.{goes_on}

-- ---- the same boxes in text order

same_functions : {A B : Type 0} (f g : A → B) → ((x : A) → f x ≡ g x) → f ≡ g
same_functions f g h = λ i x. h x i

inside_same : (boards boards' : ℕ → Option Board) → ((c : ℕ) → keys_in (boards' c) ≡ keys_in (boards c)) → (o : Option ℕ) → keys_inside boards' o ≡ keys_inside boards o
inside_same boards boards' K None = refl
inside_same boards boards' K (Some j) = K j

box_same : (boards boards' : ℕ → Option Board) → ((c : ℕ) → keys_in (boards' c) ≡ keys_in (boards c)) → (inside inside' : Bool → List ℕ → List Spot)
    → ((top : Bool) (ks : List ℕ) → inside' top ks ≡ inside top ks) → (top : Bool) (k : ℕ) (o : Option Node) → box_spots boards' inside' top k o ≡ box_spots boards inside top k o
box_same boards boards' K inside inside' H top k None = refl
box_same boards boards' K inside inside' H top k (Some n) =
    let within : Bool = top && is_sub (entry_of n.element).head.form in
    ap (λ (ps : List Spot). spot top k ∷ ps) (H within (keys_inside boards' n.inner) ∙ ap (inside within) (inside_same boards boards' K n.inner))

spots_same : (nodes : ℕ → Option Node) (boards boards' : ℕ → Option Board) → ((c : ℕ) → keys_in (boards' c) ≡ keys_in (boards c)) → (n : ℕ) (top : Bool) (ks : List ℕ)
    → spots_among nodes boards' n top ks ≡ spots_among nodes boards n top ks
spots_same nodes boards boards' K zero top ks = spots_none nodes boards' top ks ∙ sym (spots_none nodes boards top ks)
spots_same nodes boards boards' K (suc n) top ks =
    spots_suc nodes boards' n top ks
    ∙ ap (λ (f : ℕ → List Spot). flat_map f ks) (same_functions (λ k. box_spots boards' (spots_among nodes boards' n) top k (nodes k)) (λ k. box_spots boards (spots_among nodes boards n) top k (nodes k))
    (λ k. box_same boards boards' K (spots_among nodes boards n) (spots_among nodes boards' n) (spots_same nodes boards boards' K n) top k (nodes k)))
    ∙ sym (spots_suc nodes boards n top ks)

module _ (g g2 : Grove) (S : IsSameButRoom g g2) where
  nodes_same : get g2.nodes ≡ get g.nodes
  nodes_same = same_functions (get g2.nodes) (get g.nodes) S.nodes

  order_same : spots_in_order g2 ≡ spots_in_order g
  order_same =
      spots_same (get g2.nodes) (get g.boards) (get g2.boards) (keys_same g g2 S) 257 true (keys_at g2 g2.root)
      ∙ ap (λ (f : ℕ → Option Node). spots_among f (get g.boards) 257 true (keys_at g2 g2.root)) nodes_same
      ∙ ap (spots_among (get g.nodes) (get g.boards) 257 true) (keys_same g g2 S g2.root ∙ ap (keys_at g) S.root)

  room_owners : (names : Names) (file : List ℕ) (class : Class) (name : ℕ) → owners_in names file g2 class name ≡ owners_in names file g class name
  room_owners names file class name =
      ap (λ (f : ℕ → Option Node). root_owning names file class name ++ boxes_owning names f class name (spots_in_order g2)) nodes_same
      ∙ ap (λ (ps : List Spot). root_owning names file class name ++ boxes_owning names (get g.nodes) class name ps) order_same

pub room_own : (p q : Patch) (names : Names) (file : List ℕ) → SameButRoom p q → HasOwners p names file → HasOwners q names file
room_own p q names file s h class name = s.names class name ∙ h class name ∙ sym (room_owners p.grove q.grove s.grove names file class name)

-- ---- names that go on

module _ (names more : Names) where
  abbrev OwnsSame : Placed → Type 0
  OwnsSame p = owned_by more p.is_top p.cell ≡ owned_by names p.is_top p.cell

  own_here : (o : Option Cell) (top : Bool) (p : Placed) → option_map (placed top) o ≡ Some p → OwnsSame p
      → option_and_then (λ c. owned_by more top c) o ≡ option_and_then (λ c. owned_by names top c) o
  own_here None top p h e = refl
  own_here (Some c) top p h e = subst OwnsSame (sym (same_Some (placed top c) p h)) e

  filters_same : (nodes : ℕ → Option Node) (class : Class) (name : ℕ) (spots : List Spot) (ps : List Placed) → map (placed_at nodes) spots ≡ map (λ p. Some p) ps → AllByRecursion OwnsSame ps
      → filter (λ s. is_owned class name (owned_at more nodes s)) spots ≡ filter (λ s. is_owned class name (owned_at names nodes s)) spots
  filters_same nodes class name [] ps h a = refl
  filters_same nodes class name (s ∷ spots) [] h a = absurd (cc)
  filters_same nodes class name (s ∷ spots) (p ∷ ps) h a =
      let e : placed_at nodes s ≡ Some p = cc in
      let further : map (placed_at nodes) spots ≡ map (λ q. Some q) ps = cc in
      let rest : List Spot = filter (λ s. is_owned class name (owned_at more nodes s)) spots in
      ap (λ o. cond (is_owned class name o) (s ∷ rest) rest) (own_here (cell_under nodes s.node) s.is_top p e a.0)
      ∙ ap (λ (l : List Spot). cond (is_owned class name (owned_at names nodes s)) (s ∷ l) l) (filters_same nodes class name spots ps further a.1)

  pub owners_more : (file : List ℕ) (g : Grove) (t : Tree) (class : Class) (name : ℕ) → GroveStands g t.sheet t.boxes → deep t.boxes ≤ 256 → OwnAlike names more file t.boxes
      → owners_in more file g class name ≡ owners_in names file g class name
  owners_more file g t class name G low same =
      let told : map (placed_at (get g.nodes)) (spots_in_order g) ≡ map (λ p. Some p) (placed_in_order true t.boxes) =
      ap (map (placed_at (get g.nodes))) (grove_spots g t.sheet t.boxes G low) ∙ placed_stand (get g.nodes) (get g.boards) g.root 0 true G.keys t.boxes G.stands in
      ap (λ o. owner_if (is_owned class name (owned Receiver o)) root_owner ++ boxes_owning more (get g.nodes) class name (spots_in_order g)) same.root
      ∙ ap (λ (l : List Spot). root_owning names file class name ++ keys_of_spots l) (filters_same (get g.nodes) class name (spots_in_order g) (placed_in_order true t.boxes) told same.boxes)

-- what grows again from its own document owns the same names where they go on
pub again_alike : (lib : ℕ → Option Answer) (file : List ℕ) (names more : Names) (t : Tree) → StandsAgain lib file names t → Extends names more → OwnAlike names more file t.boxes
again_alike lib file names more t A on =
    grown_alike lib file (document_in t) (stock names (zeros_of t ++ []) (weight t.boxes + 0)) (stock names [] 0) t more A.library A.texts (A.regrows names [] 0 (extends_same names)) on

pub own_more : (lib : ℕ → Option Answer) (file : List ℕ) (p : Patch) (names more : Names) (t : Tree) → GroveStands p.grove t.sheet t.boxes → deep t.boxes ≤ 256
    → StandsAgain lib file names t → Extends names more → HasOwners p names file → HasOwners p more file
own_more lib file p names more t G low A on h class name =
    h class name ∙ sym (owners_more names more file p.grove t class name G low (again_alike lib file names more t A on))

-- ---- ports that follow

own_same : (p q : Patch) (names : Names) (file : List ℕ) → RestStays p q → HasOwners p names file → HasOwners q names file
own_same p q names file r h class name =
    ap (λ ns. owners_of ns class name) r.names ∙ h class name ∙ sym (ap (λ (g : Grove). owners_in names file g class name) r.grove)

-- ---- a box that an edit names

pub box_owners : (old new : Patch) (number : ℕ) (n : Counts) (name path : List ℕ) (now : ℕ) (e : Edit) (k after : Known) (b : NewBox) (t : Tree) → AddsBoxAt old new number n name path now e k after b
    → RunsAs old.grove t → StandsAgain (answer_in k.files) name k.names t → HasOwners old k.names name → HasOwners new after.names name
box_owners old new number n name path now e k after b t X R A h =
    let is : after.names ≡ X.added.known.names = ap (λ (x : Known). x.names) X.known_is in
    let more : HasOwners old after.names name = own_more (answer_in k.files) name old k.names after.names t R.stands R.shallow A (goes_on old new number n name path now e k after b X) h in
    let again : HasOwners old X.added.known.names name = subst (λ (ns : Names). HasOwners old ns name) is more in
    subst (λ (ns : Names). HasOwners new ns name) (sym is) (⊎_elim
    (λ (P : IsBoxPutAt old new number now X.added b.key). P.put.comes.owners name (room_own old P.ready X.added.known.names name P.room again))
    (λ (other : IsSubPutAt old new number now X.added b.key ⊎ (IsPortBoxPutAt old new number now X.added b.key ⊎ IsPartBoxPutAt old new number now X.added b.key)). ⊎_elim
    (λ (P : IsSubPutAt old new number now X.added b.key). P.put.comes.owners name (room_own old P.ready X.added.known.names name P.room again))
    (λ (more : IsPortBoxPutAt old new number now X.added b.key ⊎ IsPartBoxPutAt old new number now X.added b.key). ⊎_elim
    (λ (P : IsPortBoxPutAt old new number now X.added b.key).
    own_same P.put.ready new X.added.known.names name P.put.rest (P.put.comes.owners name (room_own old P.ready X.added.known.names name P.room again)))
    (λ (P : IsPartBoxPutAt old new number now X.added b.key). P.put.owners name (room_own old P.ready X.added.known.names name P.room again)) more) other) X.put)
