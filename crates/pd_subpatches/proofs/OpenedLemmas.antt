-- A canvas without boxes has come into a box without ports: what trees, ports, owners and numbers tell stays.
use Rattle.std.proofs.Common.{◌≡◌, ◌≢◌, ℕ, zero, suc, ◌<◌, ◌≤◌, Bool, true, ◌&&◌, List, [], ◌∷◌, ◌++◌, map, filter, length, Option, Some, None, IsSome, refl, sym, ap, ◌∙◌, subst, arith}
use Rattle.std.specs.Prelude.{slice_get, slice_set, option_map, option_and_then}
use mathlib.Core.Logic.{⊎_elim}
use Rattle.std.specs.List.{flat_map}
use Rattle.std.proofs.lemmas.Bool.{cases_eq, cases_lt}
use Rattle.std.proofs.lemmas.List.{get_or-set_same, get_or-set_other, get_or_past, length-set}
use Rattle.std.proofs.lemmas.Option.{none-some, same_Some}
use Rattle.slab.specs.Slab.{Slab, get}
use Rattle.pd_atom.specs.Names.{Names}
use Rattle.pd_canvas.specs.Views.{entry_of}
use Rattle.pd_label.specs.Labels.{Reach, Rise}
use Rattle.pd_name.specs.declared.Class.{Class}
use Rattle.pd_object.specs.declared.kinds.Kind.{Kind}
use Rattle.pd_object.specs.declared.kinds.Kind.TheVariants as kind
use Rattle.pd_object.specs.Ports.{IsSmallKind}
use Rattle.pd_tree.specs.Ports.{is_made}
use Rattle.pd_grove.specs.declared.nodes.Node.{Node}
use Rattle.pd_grove.specs.declared.boards.Board.{Board}
use Rattle.pd_grove.specs.declared.spots.Spot.{Spot}
use Rattle.pd_grove.specs.declared.grove.Grove.{Grove}
use Rattle.pd_grove.specs.declared.ports.Side.{Side}
use Rattle.pd_grove.specs.declared.ports.Side.TheVariants.{Inlets, Outlets}
use Rattle.pd_grove.specs.declared.ports.PortSpot.{PortSpot}
use Rattle.pd_grove.specs.Keys.{AreLabelled}
use Rattle.pd_grove.specs.Standing.{node_seen, with_inner}
use Rattle.pd_grove.specs.Telling.{keys_in}
use Rattle.pd_grove.specs.Ports.{spot_at, with_spot, node_spot, ports_among}
use Rattle.pd_grove.specs.Grafts.{HasBoxMore, HasCanvasMore}
use Rattle.pd_grove.specs.TextOrder.{is_sub, keys_inside, spot, box_spots, spots_among, spots_in_order, keys_of_spots}
use Rattle.pd_grove.proofs.SpotLemmas.{spots_none, spots_suc}
use Rattle.pd_bind.specs.Naming.{owned_by}
use Rattle.pd_bind.specs.Owning.{is_owned, owned_at, root_owning, boxes_owning, owners_in}
use Rattle.pd_web.specs.declared.jacks.Jack.{Jack}
use Rattle.pd_web.specs.declared.web.Hop.{Hop}
use Rattle.pd_web.specs.declared.web.Web.{Web}
use Rattle.pd_web.specs.Canvases.{keys_at}
use Rattle.pd_web.specs.Homes.{inner_in as box_in}
use Rattle.pd_web.specs.Hops.{fan_hops}
use Rattle.pd_web.specs.Jacks.{KindsSmall, spot_jack, kind_jacks, jacks_by, jacks_in, jacks_at, made_by, made_in}
use Rattle.pd_patch.specs.Built.{HasPorts}
use Rattle.pd_patch.specs.Linked.{ShareCanvas, StayInside}
use Rattle.pd_patch.specs.Listing.{IsThere}
use Rattle.pd_boxes.proofs.WireLemmas.{all_imply}
use Rattle.pd_subpatches.specs.Grove.{HasShellMore}

pub same_functions : {A B : Type 0} (f g : A → B) → ((x : A) → f x ≡ g x) → f ≡ g
same_functions f g h = λ i x. h x i

-- a canvas box that holds nothing has no ports
pub no_ports_of : (side : Side) → kind_jacks side kind.Canvas ≡ []
no_ports_of Inlets = refl
no_ports_of Outlets = refl

-- The grove before the canvas came into the box.

-- a key that has a value is below the end
pub live_in : {A : Type 0} (s : Slab A) (k : ℕ) → IsSome (get s k) → k < length s.slots
live_in {A} s k live = ⊎_elim (λ (l : k < length s.slots). l) (λ h. absurd (none_live (get s k) (get_or_past s.slots k None h) live)) (cases_lt k (length s.slots))
  where
    none_live : (o : Option A) → o ≡ None → IsSome o → ⊥
    none_live None q s = absurd (cc)
    none_live (Some x) q s = none-some x (sym q)

abbrev pub with_node : Slab Node → ℕ → Node → Slab Node
with_node s k n = record s { slots = slice_set s.slots k (Some n) }

abbrev pub without_board : Slab Board → ℕ → Slab Board
without_board s j = record s { slots = slice_set s.slots j None }

keys_out : (s : Slab Board) (j x : ℕ) (Q : List ℕ → Type 0) → Q [] → Q (keys_in (get s x)) → Q (keys_in (get (without_board s j) x))
keys_out s j x Q none some = ⊎_elim
    (λ (e : x ≡ j). ⊎_elim
    (λ (l : j < length s.slots). subst (λ o. Q (keys_in o)) (sym (ap (get (without_board s j)) e ∙ get_or-set_same s.slots j None None l)) none)
    (λ h. subst (λ o. Q (keys_in o)) (sym (ap (get (without_board s j)) e ∙ past h)) none)
    (cases_lt j (length s.slots)))
    (λ (d : x ≢ j). subst (λ o. Q (keys_in o)) (sym (get_or-set_other s.slots j x None None d)) some)
    (cases_eq x j)
  where
    past : length s.slots ≤ j → get (without_board s j) j ≡ None
    past h = get_or_past (slice_set s.slots j None) j None (let l = length-set s.slots j None in omega (arith, l, h))

pub labelled_out : (labels : List ℕ) (s : Slab Board) (j : ℕ) → AreLabelled labels (get s) → AreLabelled labels (get (without_board s j))
labelled_out labels s j L = record {
  reach = λ x. keys_out s j x (Reach labels) (λ i k at. absurd (none-some k at)) (L.reach x);
  rise = λ x. keys_out s j x (Rise labels) (λ i m a b l at also. absurd (none-some a at)) (L.rise x);
}

abbrev pub between : Grove → ℕ → ℕ → Node → Grove
between g k j n = record {
  nodes = with_node g.nodes k n;
  boards = without_board g.boards j;
  labels = g.labels;
  root = g.root;
  labelled = labelled_out g.labels g.boards j g.labelled;
}

module _ (g : Grove) (k j : ℕ) (n : Node) (b : Board) (nodes : ℕ → Option Node) (boards : ℕ → Option Board) (M : HasCanvasMore nodes (get g.nodes) boards (get g.boards) k j n b) where
  node_between : (l : ℕ) → nodes l ≡ get (between g k j n).nodes l
  node_between l = ⊎_elim
      (λ (e : l ≡ k). ap nodes e ∙ M.was ∙ sym (get_or-set_same g.nodes.slots k (Some n) None (live_in g.nodes k (subst (λ o. IsSome o) (sym M.is) refl)))
      ∙ ap (get (between g k j n).nodes) (sym e))
      (λ (d : l ≢ k). sym (M.others l d) ∙ sym (get_or-set_other g.nodes.slots k l (Some n) None d))
      (cases_eq l k)

  board_between : (x : ℕ) → boards x ≡ get (between g k j n).boards x
  board_between x = ⊎_elim
      (λ (e : x ≡ j). ap boards e ∙ M.vacant ∙ sym (get_or-set_same g.boards.slots j None None (live_in g.boards j (subst (λ o. IsSome o) (sym M.opened) refl)))
      ∙ ap (get (between g k j n).boards) (sym e))
      (λ (d : x ≢ j). sym (M.stay x d) ∙ sym (get_or-set_other g.boards.slots j x None None d))
      (cases_eq x j)

  nodes_between : nodes ≡ get (between g k j n).nodes
  nodes_between = same_functions nodes (get (between g k j n).nodes) node_between

  boards_between : boards ≡ get (between g k j n).boards
  boards_between = same_functions boards (get (between g k j n).boards) board_between

-- the box came first, and then its canvas
module _ (nodes : ℕ → Option Node) (boards : ℕ → Option Board) (g : Grove) (c k j : ℕ) (n : Node) (b : Board) (before behind : List ℕ)
    (H : HasShellMore nodes (get g.nodes) boards (get g.boards) c k j n b before behind) where
  pub canvas_came : HasCanvasMore (get (between g k j n).nodes) (get g.nodes) (get (between g k j n).boards) (get g.boards) k j n b
  canvas_came =
      subst (λ (f : ℕ → Option Node). HasCanvasMore f (get g.nodes) (get (between g k j n).boards) (get g.boards) k j n b) (nodes_between g k j n b H.nodes_between H.boards_between H.canvas)
      (subst (λ (f : ℕ → Option Board). HasCanvasMore H.nodes_between (get g.nodes) f (get g.boards) k j n b) (boards_between g k j n b H.nodes_between H.boards_between H.canvas) H.canvas)

  pub box_came : HasBoxMore nodes (get (between g k j n).nodes) boards (get (between g k j n).boards) c k n before behind
  box_came =
      subst (λ (f : ℕ → Option Node). HasBoxMore nodes f boards (get (between g k j n).boards) c k n before behind) (nodes_between g k j n b H.nodes_between H.boards_between H.canvas)
      (subst (λ (f : ℕ → Option Board). HasBoxMore nodes H.nodes_between boards f c k n before behind) (boards_between g k j n b H.nodes_between H.boards_between H.canvas) H.box)

-- The grove m before, and g after.

module _ (m g : Grove) (k j : ℕ) (n : Node) (b : Board) (M : HasCanvasMore (get m.nodes) (get g.nodes) (get m.boards) (get g.boards) k j n b) where
  no_keys : keys_at g j ≡ []
  no_keys = ap keys_in M.opened ∙ M.empty

  -- each canvas has the boxes that it had
  pub keys_kept : (x : ℕ) → keys_at g x ≡ keys_at m x
  keys_kept x = ⊎_elim
      (λ (e : x ≡ j). ap (keys_at g) e ∙ no_keys ∙ sym (ap keys_in M.vacant) ∙ ap (keys_at m) (sym e))
      (λ (d : x ≢ j). ap keys_in (M.stay x d))
      (cases_eq x j)

  -- the same of a box of either grove
  alike : {A : Type 0} (f : Option Node → A) → f (Some (with_inner j n)) ≡ f (Some n) → (l : ℕ) → f (get g.nodes l) ≡ f (get m.nodes l)
  alike f same l = ⊎_elim
      (λ (e : l ≡ k). ap (λ x. f (get g.nodes x)) e ∙ ap f M.is ∙ same ∙ sym (ap f M.was) ∙ ap (λ x. f (get m.nodes x)) (sym e))
      (λ (d : l ≢ k). ap f (M.others l d))
      (cases_eq l k)

  -- Boxes in text order, and owners.

  inside_kept : (o : Option ℕ) → keys_inside (get g.boards) o ≡ keys_inside (get m.boards) o
  inside_kept None = refl
  inside_kept (Some x) = keys_kept x

  box_kept : (inside inside' : Bool → List ℕ → List Spot) → ((top : Bool) (ks : List ℕ) → inside' top ks ≡ inside top ks) → (top : Bool) (l : ℕ)
      → box_spots (get g.boards) inside' top l (get g.nodes l) ≡ box_spots (get m.boards) inside top l (get m.nodes l)
  box_kept inside inside' H top l = ⊎_elim
      (λ (e : l ≡ k). ap (λ x. box_spots (get g.boards) inside' top l (get g.nodes x)) e ∙ ap (box_spots (get g.boards) inside' top l) M.is ∙ opened
      ∙ sym (ap (box_spots (get m.boards) inside top l) M.was) ∙ ap (λ x. box_spots (get m.boards) inside top l (get m.nodes x)) (sym e))
      (λ (d : l ≢ k). ap (box_spots (get g.boards) inside' top l) (M.others l d) ∙ same (get m.nodes l))
      (cases_eq l k)
    where
      same : (o : Option Node) → box_spots (get g.boards) inside' top l o ≡ box_spots (get m.boards) inside top l o
      same None = refl
      same (Some x) =
          let within : Bool = top && is_sub (entry_of x.element).head.form in
          ap (λ (ps : List Spot). spot top l ∷ ps) (H within (keys_inside (get g.boards) x.inner) ∙ ap (inside within) (inside_kept x.inner))

      opened : box_spots (get g.boards) inside' top l (Some (with_inner j n)) ≡ box_spots (get m.boards) inside top l (Some n)
      opened =
          let within : Bool = top && is_sub (entry_of n.element).head.form in
          ap (λ (ps : List Spot). spot top l ∷ ps) (H within (keys_at g j) ∙ ap (inside within) (no_keys ∙ sym (ap (keys_inside (get m.boards)) M.bare)))

  spots_kept : (d : ℕ) (top : Bool) (ks : List ℕ) → spots_among (get g.nodes) (get g.boards) d top ks ≡ spots_among (get m.nodes) (get m.boards) d top ks
  spots_kept zero top ks = spots_none (get g.nodes) (get g.boards) top ks ∙ sym (spots_none (get m.nodes) (get m.boards) top ks)
  spots_kept (suc d) top ks =
      spots_suc (get g.nodes) (get g.boards) d top ks
      ∙ ap (λ (f : ℕ → List Spot). flat_map f ks)
      (same_functions (λ l. box_spots (get g.boards) (spots_among (get g.nodes) (get g.boards) d) top l (get g.nodes l)) (λ l. box_spots (get m.boards) (spots_among (get m.nodes) (get m.boards) d) top l (get m.nodes l))
      (box_kept (spots_among (get m.nodes) (get m.boards) d) (spots_among (get g.nodes) (get g.boards) d) (spots_kept d) top))
      ∙ sym (spots_suc (get m.nodes) (get m.boards) d top ks)

  pub owned_kept : (table : Names) (p : Spot) → owned_at table (get g.nodes) p ≡ owned_at table (get m.nodes) p
  owned_kept table p = alike (λ o. option_and_then (λ c. owned_by table p.is_top c) (option_map (λ (x : Node). (node_seen x).cell) o)) refl p.node

  -- each name has the owners that it had
  pub owners_kept : g.root ≡ m.root → (table : Names) (file : List ℕ) (class : Class) (name : ℕ) → owners_in table file g class name ≡ owners_in table file m class name
  owners_kept root table file class name =
      let spots : spots_in_order g ≡ spots_in_order m =
      spots_kept 257 true (keys_at g g.root) ∙ ap (spots_among (get m.nodes) (get m.boards) 257 true) (keys_kept g.root ∙ ap (keys_at m) root) in
      ap (λ (ps : List Spot). root_owning table file class name ++ boxes_owning table (get g.nodes) class name ps) spots
      ∙ ap (λ (f : Spot → Bool). root_owning table file class name ++ keys_of_spots (filter f (spots_in_order m)))
      (same_functions (λ p. is_owned class name (owned_at table (get g.nodes) p)) (λ p. is_owned class name (owned_at table (get m.nodes) p)) (λ p. ap (is_owned class name) (owned_kept table p)))

  -- Kinds and ports.

  pub small_kept : KindsSmall m → KindsSmall g
  small_kept small l x is = ⊎_elim
      (λ (e : l ≡ k). subst (λ (y : Node). IsSmallKind y.kind) (same_Some (with_inner j n) x (sym M.is ∙ ap (get g.nodes) (sym e) ∙ is)) (small k n M.was))
      (λ (d : l ≢ k). small l x (sym (M.others l d) ∙ is)) (cases_eq l k)

  pub live_kept : (l : ℕ) → IsSome (get g.nodes l) → IsSome (get m.nodes l)
  live_kept l live = ⊎_elim
      (λ (e : l ≡ k). subst (λ o. IsSome o) (sym (ap (get m.nodes) e ∙ M.was)) refl)
      (λ (d : l ≢ k). subst (λ o. IsSome o) (M.others l d) live) (cases_eq l k)

  pub none_kept : (l : ℕ) → get g.nodes l ≡ None → get m.nodes l ≡ None
  none_kept l none = ⊎_elim
      (λ (e : l ≡ k). absurd (none-some (with_inner j n) (sym none ∙ ap (get g.nodes) e ∙ M.is)))
      (λ (d : l ≢ k). sym (M.others l d) ∙ none) (cases_eq l k)

  among_kept : (side : Side) (ks : List ℕ) → ports_among side (get g.nodes) ks ≡ ports_among side (get m.nodes) ks
  among_kept side [] = refl
  among_kept side (l ∷ ks) =
      ap (λ (o : Option PortSpot). with_spot o (ports_among side (get g.nodes) ks)) (alike (option_and_then (node_spot side l)) refl l)
      ∙ ap (with_spot (spot_at side (get m.nodes) l)) (among_kept side ks)

  by_kept : (side : Side) (kind : Kind) (o : Option ℕ) → jacks_by side g kind o ≡ jacks_by side m kind o
  by_kept side kind None = refl
  by_kept side kind (Some d) =
      ap (map spot_jack) (among_kept side (keys_at g d)) ∙ ap (λ (ks : List ℕ). map spot_jack (ports_among side (get m.nodes) ks)) (keys_kept d)

  in_kept : (side : Side) (o : Option Node) → jacks_in side g o ≡ jacks_in side m o
  in_kept side None = refl
  in_kept side (Some x) = by_kept side x.kind x.inner

  -- the box has no ports
  pub no_jacks : (side : Side) → jacks_at side g k ≡ []
  no_jacks side = ap (jacks_in side g) M.is ∙ ap (λ (ks : List ℕ). map spot_jack (ports_among side (get g.nodes) ks)) no_keys

  module _ (plain : n.kind ≡ kind.Canvas) where
    -- each box has the ports that it had
    pub jacks_kept : (side : Side) (l : ℕ) → jacks_at side g l ≡ jacks_at side m l
    jacks_kept side l = ⊎_elim
        (λ (e : l ≡ k). ap (jacks_at side g) e ∙ no_jacks side ∙ sym (none side) ∙ ap (jacks_at side m) (sym e))
        (λ (d : l ≢ k). ap (jacks_in side g) (M.others l d) ∙ in_kept side (get m.nodes l))
        (cases_eq l k)
      where
        none : (side : Side) → jacks_at side m k ≡ []
        none side = ap (jacks_in side m) M.was ∙ ap (jacks_by side m n.kind) M.bare ∙ ap (kind_jacks side) plain ∙ no_ports_of side

    pub made_kept : (l : ℕ) → made_in (get g.nodes l) ≡ made_in (get m.nodes l)
    made_kept = alike made_in (sym (ap (made_by n.kind) M.bare ∙ ap is_made plain))

    pub ports_kept : (w : Web) → HasPorts m w → HasPorts g w
    ports_kept w P = record {
      ports = λ side l. P.ports side l ∙ sym (jacks_kept side l);
      made = λ l. P.made l ∙ sym (made_kept l);
      homes = λ i l q e. let R = P.homes i l q e in record { side = R.side; told = ap (λ (js : List Jack). box_in (slice_get js q)) (jacks_kept R.side l) ∙ R.told };
      homes_found = λ i l q R. P.homes_found i l q (record { side = R.side; told = sym (ap (λ (js : List Jack). box_in (slice_get js q)) (jacks_kept R.side l)) ∙ R.told });
    }

  -- Wires.

  share_kept : (u x : ℕ) → ShareCanvas m u x → ShareCanvas g u x
  share_kept u x s = record {
    canvas = s.canvas;
    one = subst (λ (ks : List ℕ). IsThere ks u) (sym (keys_kept s.canvas)) s.one;
    other = subst (λ (ks : List ℕ). IsThere ks x) (sym (keys_kept s.canvas)) s.other;
  }

  pub inside_kept_wires : (w : Web) → StayInside m w → StayInside g w
  inside_kept_wires w inside = λ u o. all_imply (λ (h : Hop). ShareCanvas m u h.node) (λ (h : Hop). ShareCanvas g u h.node) (λ h s. share_kept u h.node s) (fan_hops w u o) (inside u o)
