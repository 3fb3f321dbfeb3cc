-- In a patch of a run a tree stands, its wires fit and hold, each name has its owners, and what a save writes of boxes is settled.
use Rattle.std.proofs.Common.{◌≡◌, ◌≤◌, ℕ, true, List, [], ◌∷◌, slice_get, Option, Some, None, IfSome, refl, sym, ap, ◌∙◌, subst}
use Rattle.std.specs.Prelude.{option_and_then}
use Rattle.std.specs.List.{AllByRecursion}
use Rattle.std.specs.Option.{option_map_or}
use Rattle.std.specs.declared.vec.Vec.{Vec}
use Rattle.std.specs.declared.alloc.Global.{Global}
use Rattle.slab.specs.Slab.{Slab, get}
use Rattle.pd_atom.specs.Names.{Names}
use Rattle.pd_canvas.specs.declared.edits.Edit.{Edit}
use Rattle.pd_name.specs.declared.Class.{Class}
use Rattle.pd_name.specs.Rows.{Row, owners_of}
use Rattle.pd_object.specs.declared.kinds.Kind.{Kind}
use Rattle.pd_kind.specs.declared.states.State.{State}
use Rattle.pd_tree.specs.Ports.{fits}
use Rattle.pd_tree.specs.Trees.{Tree}
use Rattle.pd_grove.specs.declared.boards.Board.{Board}
use Rattle.pd_grove.specs.declared.grove.Grove.{Grove}
use Rattle.pd_grove.specs.declared.nodes.Node.{Node}
use Rattle.pd_grove.specs.OwnPaths.{sub_in, sub_step_in, sub_reached}
use Rattle.pd_grove.specs.Standing.{GroveStands}
use Rattle.pd_grove.specs.Telling.{kind_in, keys_in}
use Rattle.pd_grove.specs.TextOrder.{deep}
use Rattle.pd_bind.specs.Owning.{owners_in}
use Rattle.pd_web.specs.declared.web.Web.{Web}
use Rattle.pd_web.specs.Hops.{boxes_told}
use Rattle.pd_present.specs.Presents.{wires_among}
use Rattle.pd_patch.specs.declared.patch.Patch.{Patch}
use Rattle.pd_wiring.specs.Changes.{AreAlike, CanRewire, SameButRoom}
use Rattle.pd_wiring.specs.Plans.{Plan, Attaches, Detaches, IsCarriedOut, IsRewired}
use Rattle.pd_boxes.specs.Put.{HasOwners}
use Rattle.pd_hearing.specs.Worlds.{Net, net_of, bare}
use Rattle.pd_reload_law.proofs.StayLemmas.{grove_stays}
use Rattle.pd_saved_law.specs.Fitting.{WiresFit}
use Rattle.pd_saved_law.proofs.FitLemmas.{edits_fit, room_fits}
use Rattle.pd_alike_law.proofs.OwnedLemmas.{owners_same}
use Rattle.pd_inside_law.specs.Inside.{HoldsWires}
use Rattle.pd_inside_law.proofs.HoldLemmas.{edits_hold, room_holds, alike_hold}
use Rattle.pd_steady.specs.PassedOn.{kinds_of}
use Rattle.pd_contents_law.specs.Contents.{HasContents, HaveContents, count_of, counts_of}
use Rattle.pd_proper_law.specs.Saves.{is_written, form_of, IsWritten}

-- ---- groves that differ in what boxes keep

pub bare_kind : (o : Option Node) → kind_in (bare o) ≡ kind_in o
bare_kind None = refl
bare_kind (Some n) = refl

bare_sub : (o : Option Node) → sub_in (bare o) ≡ sub_in o
bare_sub None = refl
bare_sub (Some n) = refl

bare_written : (o : Option Node) → IfSome o (λ n. is_written (form_of n) ≡ true) → IfSome (bare o) (λ n. is_written (form_of n) ≡ true)
bare_written None h = tt
bare_written (Some n) h = h

written_bare : (o : Option Node) → IfSome (bare o) (λ n. is_written (form_of n) ≡ true) → IfSome o (λ n. is_written (form_of n) ≡ true)
written_bare None h = tt
written_bare (Some n) h = h

-- the second has the boxes of the first, whatever they keep
module _ (g g2 : Grove) (nodes : (k : ℕ) → bare (get g2.nodes k) ≡ bare (get g.nodes k)) (boards : g2.boards ≡ g.boards) (root : g2.root ≡ g.root) where
  same_kind : (k : ℕ) → kind_in (get g2.nodes k) ≡ kind_in (get g.nodes k)
  same_kind k = sym (bare_kind (get g2.nodes k)) ∙ ap kind_in (nodes k) ∙ bare_kind (get g.nodes k)

  same_sub : (k : ℕ) → sub_in (get g2.nodes k) ≡ sub_in (get g.nodes k)
  same_sub k = sym (bare_sub (get g2.nodes k)) ∙ ap sub_in (nodes k) ∙ bare_sub (get g.nodes k)

  same_box : (o : Option ℕ) → option_and_then (λ k. sub_in (get g2.nodes k)) o ≡ option_and_then (λ k. sub_in (get g.nodes k)) o
  same_box None = refl
  same_box (Some k) = same_sub k

  same_step : (c n : ℕ) → sub_step_in g2 c n ≡ sub_step_in g c n
  same_step c n =
      ap (λ (b : Slab Board). option_and_then (λ k. sub_in (get g2.nodes k)) (slice_get (keys_in (get b c)) n)) boards ∙ same_box (slice_get (keys_in (get g.boards c)) n)

  same_next : (n : ℕ) (here : Option ℕ) → option_and_then (λ c. sub_step_in g2 c n) here ≡ option_and_then (λ c. sub_step_in g c n) here
  same_next n None = refl
  same_next n (Some c) = same_step c n

  same_reached : (path : List ℕ) (here : Option ℕ) → sub_reached g2 here path ≡ sub_reached g here path
  same_reached [] here = refl
  same_reached (n ∷ path) here =
      ap (λ (x : Option ℕ). sub_reached g2 x path) (same_next n here) ∙ same_reached path (option_and_then (λ c. sub_step_in g c n) here)

  same_leads : (path : List ℕ) (c : ℕ) → sub_reached g2 (Some g2.root) path ≡ Some c → sub_reached g (Some g.root) path ≡ Some c
  same_leads path c at = ap (λ (r : ℕ). sub_reached g (Some r) path) (sym root) ∙ sym (same_reached path (Some g2.root)) ∙ at

  same_written : (k : ℕ) → IsWritten g2 k → IsWritten g k
  same_written k w = record {
    own = record {
      path = w.own.path;
      canvas = w.own.canvas;
      place = w.own.place;
      leads = same_leads w.own.path w.own.canvas w.own.leads;
      at = ap (λ (b : Slab Board). slice_get (keys_in (get b w.own.canvas)) w.own.place) (sym boards) ∙ w.own.at;
    };
    form = written_bare (get g.nodes k) (subst (λ (o : Option Node). IfSome o (λ n. is_written (form_of n) ≡ true)) (nodes k) (bare_written (get g2.nodes k) w.form));
  }

-- the contents of boxes are settled, by what a patch has of them
abbrev pub Settled : Patch → Names → (ℕ → Option State) → Type 0
Settled p names states = HaveContents (IsWritten p.grove) (counts_of (kinds_of p)) names states

-- ---- what the net of a stage tells of a patch

-- the boxes of the patch, whatever they keep, its wires and orders, and its owners of names
pub record Tells (n : Net) (p : Patch) : Type 0 where
  pub nodes : (k : ℕ) → n.nodes k ≡ bare (get p.grove.nodes k)
  pub boards : n.boards ≡ p.grove.boards
  pub root : n.root ≡ p.grove.root
  pub web : n.web ≡ p.web
  pub links : n.links ≡ p.links
  pub orders : n.orders ≡ p.orders
  pub numbers : n.numbers ≡ p.numbers
  pub owners : n.owners ≡ p.names

pub told : (n : Net) (p : Patch) → n ≡ net_of p → Tells n p
told n p e = record {
  nodes = λ k. ap (λ (x : Net). x.nodes k) e;
  boards = ap (λ (x : Net). x.boards) e;
  root = ap (λ (x : Net). x.root) e;
  web = ap (λ (x : Net). x.web) e;
  links = ap (λ (x : Net). x.links) e;
  orders = ap (λ (x : Net). x.orders) e;
  numbers = ap (λ (x : Net). x.numbers) e;
  owners = ap (λ (x : Net). x.owners) e;
}

both_told : (n : Net) (p q : Patch) → Tells n p → Tells n q → AreAlike p q
both_told n p q a b = record {
  nodes = λ k. sym (b.nodes k) ∙ a.nodes k;
  boards = sym b.boards ∙ a.boards;
  web = sym b.web ∙ a.web;
  links = sym b.links ∙ a.links;
  orders = sym b.orders ∙ a.orders;
  numbers = sym b.numbers ∙ a.numbers;
}

-- the wires of these lists fit
abbrev FitBy : Web → Slab Board → Vec ℕ Global → Type 0
FitBy web boards numbers =
    (c : ℕ) → AllByRecursion (λ v. fits (boxes_told web (keys_in (get boards c))) v ≡ true) (wires_among web numbers.items (keys_in (get boards c)))

same_fit : (p q : Patch) → q.web ≡ p.web → q.grove.boards ≡ p.grove.boards → q.numbers ≡ p.numbers → WiresFit p → WiresFit q
same_fit p q web boards numbers f = record {
  all = subst (λ (w : Web). FitBy w q.grove.boards q.numbers) (sym web)
      (subst (λ (b : Slab Board). FitBy p.web b q.numbers) (sym boards) (subst (λ (ns : Vec ℕ Global). FitBy p.web p.grove.boards ns) (sym numbers) f.all));
}

-- the tree stands, its wires fit and hold, each name has its owners, and the contents of boxes are settled
pub record IsHeld (file : List ℕ) (names : Names) (states : ℕ → Option State) (t : Tree) (p : Patch) : Type 0 where
  pub stands : GroveStands p.grove t.sheet t.boxes
  pub fit : WiresFit p
  pub holds : HoldsWires p t
  pub owners : HasOwners p names file
  pub contents : Settled p names states

-- so it is in each patch of which a net tells this
abbrev pub NetHeld : List ℕ → Names → (ℕ → Option State) → Tree → Net → Type 0
NetHeld file names states t n = (p : Patch) → Tells n p → IsHeld file names states t p

module _ (file : List ℕ) (names : Names) (states : ℕ → Option State) (t : Tree) where
  same_held : (p q : Patch) → AreAlike p q → q.grove.root ≡ p.grove.root → q.names ≡ p.names → IsHeld file names states t p → IsHeld file names states t q
  same_held p q a root rows h = record {
    stands = grove_stays p.grove q.grove t.sheet t.boxes a.nodes a.boards root h.stands;
    fit = same_fit p q a.web a.boards a.numbers h.fit;
    holds = alike_hold p q t a root h.holds;
    owners = λ class name.
        ap (λ (rs : List Row). owners_of rs class name) rows ∙ h.owners class name ∙ sym (owners_same names file p.grove q.grove class name a.nodes a.boards root);
    contents = λ k w.
        subst (λ (o : Option Kind). IfSome (states k) (HasContents (option_map_or count_of o 0) names)) (sym (same_kind p.grove q.grove a.nodes a.boards root k))
        (h.contents k (same_written p.grove q.grove a.nodes a.boards root k w));
  }

  pub held_in : (p : Patch) (n : Net) → n ≡ net_of p → IsHeld file names states t p → NetHeld file names states t n
  held_in p n e h = λ q f.
      let a : Tells n p = told n p e in
      same_held p q (both_told n p q a f) (sym f.root ∙ a.root) (sym f.owners ∙ a.owners) h

-- ---- edits of wires

grove_carried : (plan : Plan) (p q : Patch) → IsCarriedOut plan p q → q.grove ≡ p.grove
grove_carried (Attaches c l) p q h = h.rest.grove
grove_carried (Detaches c key l) p q h = h.rest.grove

names_carried : (plan : Plan) (p q : Patch) → IsCarriedOut plan p q → q.names ≡ p.names
names_carried (Attaches c l) p q h = h.rest.names
names_carried (Detaches c key l) p q h = h.rest.names

-- by the same grove, the same owners are told and the same boxes written
abbrev OwnersBy : List Row → Grove → Names → List ℕ → Type 0
OwnersBy rows g names file = (class : Class) (name : ℕ) → owners_of rows class name ≡ owners_in names file g class name

abbrev ContentsBy : Grove → Names → (ℕ → Option State) → Type 0
ContentsBy g names states = HaveContents (IsWritten g) (counts_of (λ k. kind_in (get g.nodes k))) names states

module _ (file : List ℕ) (names : Names) (states : ℕ → Option State) (t : Tree) (low : deep t.boxes ≤ 256) where
  rest_held : (p q : Patch) → q.grove ≡ p.grove → q.names ≡ p.names → WiresFit q → HoldsWires q t → IsHeld file names states t p → IsHeld file names states t q
  rest_held p q grove rows fit holds h = record {
    stands = subst (λ (g : Grove). GroveStands g t.sheet t.boxes) (sym grove) h.stands;
    fit = fit;
    holds = holds;
    owners = subst (λ (rs : List Row). OwnersBy rs q.grove names file) (sym rows) (subst (λ (g : Grove). OwnersBy p.names g names file) (sym grove) h.owners);
    contents = subst (λ (g : Grove). ContentsBy g names states) (sym grove) h.contents;
  }

  pub held_edit : (p q : Patch) (path : List ℕ) (e : Edit) (canvas : ℕ) → CanRewire p → IsRewired p q path e canvas → IsHeld file names states t p → IsHeld file names states t q
  held_edit p q path e canvas can x h =
      rest_held p q (grove_carried x.plan p q x.done) (names_carried x.plan p q x.done) (edits_fit p q path e canvas can h.fit x)
      (edits_hold p q t path e canvas h.stands low can x h.holds) h

  pub held_room : (p q : Patch) → SameButRoom p q → IsHeld file names states t p → IsHeld file names states t q
  held_room p q s h = rest_held p q s.grove s.names (room_fits p q s h.fit) (room_holds p q t s h.holds) h
