-- A tree of which a box has another text.
use Rattle.std.proofs.Common.{◌≡◌, ◌≢◌, ℕ, zero, suc, Bool, true, ◌&&◌, List, [], ◌∷◌, ◌++◌, map, slice_get, Option, Some, None, IsSome, refl, sym, ap, ◌∙◌, subst}
use Rattle.std.specs.Prelude.{option_map}
use Rattle.std.specs.List.{AllByRecursion, flat_map}
use Rattle.std.proofs.lemmas.Option.{none-some, same_Some}
use mathlib.Core.Logic.{⊎_elim}
use Rattle.std.proofs.lemmas.Bool.{cases_eq}
use Rattle.slab.specs.Slab.{Slab, get}
use Rattle.pd_atom.specs.declared.Atom.{Atom}
use Rattle.pd_object.specs.declared.kinds.Kind.{Kind}
use Rattle.pd_object.specs.Ports.{IsSmallKind}
use Rattle.pd_order.specs.Graph.{IsOrder}
use Rattle.pd_order.specs.Listing.{Listing}
use Rattle.pd_order.proofs.Basics.{by_test}
use Rattle.pd_chain.specs.Wires.{graph_of}
use Rattle.pd_canvas.specs.Views.{entry_of}
use Rattle.pd_grove.specs.declared.boards.Board.{Board}
use Rattle.pd_grove.specs.declared.grove.Grove.{Grove}
use Rattle.pd_grove.specs.declared.nodes.Node.{Node}
use Rattle.pd_grove.specs.declared.ports.PortSpot.{PortSpot}
use Rattle.pd_grove.specs.declared.ports.Side.{Side}
use Rattle.pd_grove.specs.declared.spots.Spot.{Spot}
use Rattle.pd_grove.specs.Forest.{IsForest, holder_in}
use Rattle.pd_grove.specs.Grafts.{AreAlike}
use Rattle.pd_grove.specs.Owning.{board_in}
use Rattle.pd_grove.specs.Ports.{ports_among, spot_at, with_spot}
use Rattle.pd_grove.specs.Refits.{with_text, Alters}
use Rattle.pd_grove.specs.Standing.{depth_of}
use Rattle.pd_grove.specs.Telling.{inner_in, keys_in, kind_in}
use Rattle.pd_grove.specs.TextOrder.{is_sub, keys_inside, spot, box_spots, spots_among, spots_in_order}
use Rattle.pd_grove.proofs.OpenLemmas.{forest_alike}
use Rattle.pd_grove.proofs.SpotLemmas.{spots_none, spots_suc}
use Rattle.pd_web.specs.declared.jacks.Jack.{Jack}
use Rattle.pd_web.specs.declared.web.Hop.{Hop}
use Rattle.pd_web.specs.declared.web.Web.{Web}
use Rattle.pd_web.specs.Canvases.{keys_at}
use Rattle.pd_web.specs.Homes.{IsPortOf, inner_in as box_in}
use Rattle.pd_web.specs.Hops.{fan_hops}
use Rattle.pd_web.specs.Jacks.{KindsSmall, spot_jack, jacks_in, jacks_at, made_in}
use Rattle.pd_patch.specs.Built.{HasPorts}
use Rattle.pd_patch.specs.Linked.{StayInside, ShareCanvas}
use Rattle.pd_patch.specs.Orders.{is_signal_node, signal_among, signal_wires_among, HasOrder, AreOrdered}
use Rattle.pd_patch.specs.Telling.{order_in}

all_of : {X : Type 0} (P Q : X → Type 0) → ((x : X) → P x → Q x) → (xs : List X) → AllByRecursion P xs → AllByRecursion Q xs
all_of P Q f [] h = tt
all_of P Q f (x ∷ xs) h = (f x h.0, all_of P Q f xs h.1)

each_same : (f g : ℕ → List Spot) → ((k : ℕ) → f k ≡ g k) → (ks : List ℕ) → flat_map f ks ≡ flat_map g ks
each_same f g h [] = refl
each_same f g h (k ∷ ks) = ap (λ (l : List Spot). l ++ flat_map f ks) (h k) ∙ ap (λ (l : List Spot). g k ++ l) (each_same f g h ks)

-- What a box tells with any text.

board_texted : (written text : List Atom) (o : Option Node) → board_in (option_map (with_text written text) o) ≡ board_in o
board_texted written text None = refl
board_texted written text (Some n) = refl

inner_texted : (written text : List Atom) (o : Option Node) → inner_in (option_map (with_text written text) o) ≡ inner_in o
inner_texted written text None = refl
inner_texted written text (Some n) = refl

kind_texted : (written text : List Atom) (o : Option Node) → kind_in (option_map (with_text written text) o) ≡ kind_in o
kind_texted written text None = refl
kind_texted written text (Some n) = refl

made_texted : (written text : List Atom) (o : Option Node) → made_in (option_map (with_text written text) o) ≡ made_in o
made_texted written text None = refl
made_texted written text (Some n) = refl

signal_texted : (written text : List Atom) (o : Option Node) → is_signal_node (option_map (with_text written text) o) ≡ is_signal_node o
signal_texted written text None = refl
signal_texted written text (Some n) = refl

jacks_texted : (side : Side) (g : Grove) (written text : List Atom) (o : Option Node) → jacks_in side g (option_map (with_text written text) o) ≡ jacks_in side g o
jacks_texted side g written text None = refl
jacks_texted side g written text (Some n) = refl

spot_texted : (side : Side) (k : ℕ) (written text : List Atom) (o : Option Node) → spot_at side (λ _. option_map (with_text written text) o) k ≡ spot_at side (λ _. o) k
spot_texted side k written text None = refl
spot_texted side k written text (Some n) = refl

inside_texted : (boards : ℕ → Option Board) (f : Bool → List ℕ → List Spot) (top : Bool) (k : ℕ) (written text : List Atom) (o : Option Node)
    → box_spots boards f top k (option_map (with_text written text) o) ≡ box_spots boards f top k o
inside_texted boards f top k written text None = refl
inside_texted boards f top k written text (Some n) = refl

inside_same : (boards : ℕ → Option Board) (f g : Bool → List ℕ → List Spot) (top : Bool) (k : ℕ) (o : Option Node) → ((b : Bool) (ks : List ℕ) → f b ks ≡ g b ks)
    → box_spots boards f top k o ≡ box_spots boards g top k o
inside_same boards f g top k None h = refl
inside_same boards f g top k (Some n) h = ap (λ (l : List Spot). spot top k ∷ l) (h (top && is_sub (entry_of n.element).head.form) (keys_inside boards n.inner))

small_by : (a b : Option Node) → kind_in a ≡ kind_in b → ((n : Node) → b ≡ Some n → IsSmallKind n.kind) → (n : Node) → a ≡ Some n → IsSmallKind n.kind
small_by None b e small n is = absurd (none-some n is)
small_by (Some m) None e small n is = absurd (none-some m.kind (sym e))
small_by (Some m) (Some z) e small n is =
    subst (λ (kind : Kind). IsSmallKind kind) (sym (same_Some m.kind z.kind e) ∙ ap (λ (v : Node). v.kind) (same_Some m n is)) (small z refl)

none_by : (a b : Option Node) → kind_in a ≡ kind_in b → b ≡ None → a ≡ None
none_by None b e none = refl
none_by (Some m) None e none = absurd (none-some m.kind (sym e))
none_by (Some m) (Some n) e none = absurd (none-some n (sym none))

lives_by : (a b : Option Node) → kind_in a ≡ kind_in b → IsSome a → IsSome b
lives_by None b e l = cc
lives_by (Some n) None e l = absurd (none-some n.kind (sym e))
lives_by (Some n) (Some m) e l = refl

module _ (g h : Grove) (key : ℕ) (written text : List Atom) (A : Alters g h key (with_text written text)) where
  -- what a box tells with any text, each box tells as before
  told_as : {X : Type 0} (f : Option Node → X) → ((o : Option Node) → f (option_map (with_text written text) o) ≡ f o) → (k : ℕ) → f (get h.nodes k) ≡ f (get g.nodes k)
  told_as f e k = ⊎_elim
      (λ (same : k ≡ key). subst (λ j. f (get h.nodes j) ≡ f (get g.nodes j)) (sym same) (ap f A.box ∙ e (get g.nodes key)))
      (λ (d : k ≢ key). ap f (A.others k d))
      (cases_eq k key)

  pub keys_as : (c : ℕ) → keys_at h c ≡ keys_at g c
  keys_as c = ap (λ (s : Slab Board). keys_in (get s c)) A.boards

  pub alike_as : AreAlike (get g.nodes) (get h.nodes) (get g.boards) (get h.boards)
  alike_as = record {
    lie = told_as board_in (board_texted written text);
    hold = told_as inner_in (inner_texted written text);
    keys = keys_as;
    holders = λ c. ap (λ (s : Slab Board). holder_in (get s c)) A.boards;
    depths = λ c. ap (λ (s : Slab Board). depth_of (get s c)) A.boards;
    live = λ c l. subst (λ (s : Slab Board). IsSome (get s c)) (sym A.boards) l;
    no_more = λ c l. subst (λ (s : Slab Board). IsSome (get s c)) A.boards l;
  }

  pub forest_as : IsForest (get g.nodes) (get g.boards) g.root → IsForest (get h.nodes) (get h.boards) h.root
  forest_as F = subst (λ (r : ℕ). IsForest (get h.nodes) (get h.boards) r) (sym A.root) (forest_alike (get g.nodes) (get h.nodes) (get g.boards) (get h.boards) g.root alike_as F)

  -- Ports.

  ports_by : (side : Side) (ks : List ℕ) → ports_among side (get h.nodes) ks ≡ ports_among side (get g.nodes) ks
  ports_by side [] = refl
  ports_by side (k ∷ ks) =
      ap (λ (o : Option PortSpot). with_spot o (ports_among side (get h.nodes) ks)) (told_as (λ o. spot_at side (λ _. o) k) (spot_texted side k written text) k)
      ∙ ap (λ (ps : List PortSpot). with_spot (spot_at side (get g.nodes) k) ps) (ports_by side ks)

  jacks_by_grove : (side : Side) (o : Option Node) → jacks_in side h o ≡ jacks_in side g o
  jacks_by_grove side None = refl
  jacks_by_grove side (Some n) = by_inner n.inner refl
    where
      by_inner : (inner : Option ℕ) → n.inner ≡ inner → jacks_in side h (Some n) ≡ jacks_in side g (Some n)
      by_inner None e = rw e refl
      by_inner (Some c) e = rw e
          (ap (λ (ps : List PortSpot). map spot_jack ps) (ap (λ (ks : List ℕ). ports_among side (get h.nodes) ks) (keys_as c) ∙ ports_by side (keys_at g c)))

  jacks_as : (side : Side) (k : ℕ) → jacks_at side h k ≡ jacks_at side g k
  jacks_as side k = told_as (jacks_in side h) (jacks_texted side h written text) k ∙ jacks_by_grove side (get g.nodes k)

  port_back : (j k i : ℕ) → IsPortOf h j k i → IsPortOf g j k i
  port_back j k i P = record { side = P.side; told = ap (λ (js : List Jack). box_in (slice_get js i)) (sym (jacks_as P.side k)) ∙ P.told }

  port_too : (j k i : ℕ) → IsPortOf g j k i → IsPortOf h j k i
  port_too j k i P = record { side = P.side; told = ap (λ (js : List Jack). box_in (slice_get js i)) (jacks_as P.side k) ∙ P.told }

  pub ports_as : (w : Web) → HasPorts g w → HasPorts h w
  ports_as w P = record {
    ports = λ side k. P.ports side k ∙ sym (jacks_as side k);
    made = λ k. P.made k ∙ sym (told_as made_in (made_texted written text) k);
    homes = λ j k i e. port_too j k i (P.homes j k i e);
    homes_found = λ j k i e. P.homes_found j k i (port_back j k i e);
  }

  -- Wires and orders.

  share_as : (k j : ℕ) → ShareCanvas g k j → ShareCanvas h k j
  share_as k j s = record { canvas = s.canvas; one = rw A.boards s.one; other = rw A.boards s.other }

  pub inside_as : (w : Web) → StayInside g w → StayInside h w
  inside_as w inside k o = all_of (λ (z : Hop). ShareCanvas g k z.node) (λ (z : Hop). ShareCanvas h k z.node) (λ z s. share_as k z.node s) (fan_hops w k o) (inside k o)

  signal_as : (ks : List ℕ) → signal_among h ks ≡ signal_among g ks
  signal_as [] = refl
  signal_as (k ∷ ks) =
      let same = told_as is_signal_node (signal_texted written text) k in
      by_test (is_signal_node (get g.nodes k))
      (λ t. rw (same, t) (ap (λ (xs : List ℕ). k ∷ xs) (signal_as ks)))
      (λ f. rw (same, f) (signal_as ks))

  order_as : (w : Web) (b : Option Board) (o : Option Listing) → HasOrder g w b o → HasOrder h w b o
  order_as w None o e = e
  order_as w (Some b) None e = e
  order_as w (Some b) (Some o) e =
      subst (λ (xs : List ℕ). IsOrder (graph_of b.nodes.items (signal_wires_among w xs)) xs o.chain o.stuck) (sym (signal_as b.nodes.items)) e

  pub orders_as : (w : Web) (orders : List (Option Listing)) → AreOrdered g w orders → AreOrdered h w orders
  orders_as w orders O c =
      subst (λ (b : Option Board). HasOrder h w b (order_in orders c)) (ap (λ (s : Slab Board). get s c) (sym A.boards)) (order_as w (get g.boards c) (order_in orders c) (O c))

  pub small_as : KindsSmall g → KindsSmall h
  small_as small k n at = small_by (get h.nodes k) (get g.nodes k) (told_as kind_in (kind_texted written text) k) (λ m was. small k m was) n at

  pub none_as : (k : ℕ) → get g.nodes k ≡ None → get h.nodes k ≡ None
  none_as k none = none_by (get h.nodes k) (get g.nodes k) (told_as kind_in (kind_texted written text) k) none

  pub none_was : (k : ℕ) → get h.nodes k ≡ None → get g.nodes k ≡ None
  none_was k none = none_by (get g.nodes k) (get h.nodes k) (sym (told_as kind_in (kind_texted written text) k)) none

  pub lived : (k : ℕ) → IsSome (get h.nodes k) → IsSome (get g.nodes k)
  lived k live = lives_by (get h.nodes k) (get g.nodes k) (told_as kind_in (kind_texted written text) k) live

  -- The boxes stand in the same text order.

  spots_same : (m : ℕ) (top : Bool) (ks : List ℕ) → spots_among (get h.nodes) (get g.boards) m top ks ≡ spots_among (get g.nodes) (get g.boards) m top ks
  spots_same zero top ks = spots_none (get h.nodes) (get g.boards) top ks ∙ sym (spots_none (get g.nodes) (get g.boards) top ks)
  spots_same (suc m) top ks =
      let S : Bool → List ℕ → List Spot = spots_among (get g.nodes) (get g.boards) m in
      let S' : Bool → List ℕ → List Spot = spots_among (get h.nodes) (get g.boards) m in
      spots_suc (get h.nodes) (get g.boards) m top ks
      ∙ each_same (λ l. box_spots (get g.boards) S' top l (get h.nodes l)) (λ l. box_spots (get g.boards) S top l (get g.nodes l))
      (λ l. told_as (box_spots (get g.boards) S' top l) (inside_texted (get g.boards) S' top l written text) l
      ∙ inside_same (get g.boards) S' S top l (get g.nodes l) (λ b js. spots_same m b js)) ks
      ∙ sym (spots_suc (get g.nodes) (get g.boards) m top ks)

  pub order_same : spots_in_order h ≡ spots_in_order g
  order_same =
      ap (λ (s : Slab Board). spots_among (get h.nodes) (get s) 257 true (keys_in (get s h.root))) A.boards
      ∙ ap (λ (r : ℕ). spots_among (get h.nodes) (get g.boards) 257 true (keys_in (get g.boards r))) A.root
      ∙ spots_same 257 true (keys_in (get g.boards g.root))
