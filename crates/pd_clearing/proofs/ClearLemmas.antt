-- A box is gone with all that lay in it, and a patch that runs goes on to be one.
use Rattle.std.proofs.Common.{◌≡◌, ◌≢◌, ℕ, ◌+◌, ◌<◌, false, is_some, List, ◌++◌, take, drop, replicate, Option, Some, None, IsSome, IsTrue, refl, sym, ap, ◌∙◌, subst, arith}
use Rattle.std.specs.Prelude.{slice_get, option_map, option_and_then, ◌⊎◌}
use mathlib.Core.Logic.{⊎_elim}
use Rattle.std.proofs.lemmas.Bool.{cases_eq}
use Rattle.std.proofs.lemmas.Option.{same_Some}
use Rattle.slab.specs.Slab.{get}
use Rattle.pd_atom.specs.Names.{Names}
use Rattle.pd_clock.specs.declared.times.Rate.{Rate}
use Rattle.pd_order.specs.Listing.{Listing}
use Rattle.pd_order.proofs.Basics.{by_test}
use Rattle.pd_links.specs.declared.links.Links.{Links}
use Rattle.pd_wire.specs.Book.{wire_at}
use Rattle.pd_grove.specs.declared.nodes.Node.{Node}
use Rattle.pd_grove.specs.declared.grove.Grove.{Grove}
use Rattle.pd_grove.specs.declared.ports.Side.{Side}
use Rattle.pd_grove.specs.declared.ports.Side.TheVariants.{Outlets}
use Rattle.pd_grove.specs.declared.spots.Spot.{Spot}
use Rattle.pd_grove.specs.Owning.{board_in}
use Rattle.pd_grove.specs.Ports.{port_signal}
use Rattle.pd_grove.specs.Forest.{holder_in, IsForest}
use Rattle.pd_grove.specs.Grafts.{TakesBox}
use Rattle.pd_grove.specs.TextOrder.{keys_of_spots}
use Rattle.pd_grove.proofs.ForestLemmas.{box_there}
use Rattle.pd_grove.proofs.UseLemmas.{not_both}
use Rattle.pd_owning.specs.Bound.{is_among, AreOwnersBut}
use Rattle.pd_owning.specs.Parts.{ArePart}
use Rattle.pd_web.specs.declared.jacks.Jack.{Jack}
use Rattle.pd_web.specs.declared.web.Hop.{Hop}
use Rattle.pd_web.specs.declared.web.Web.{Web}
use Rattle.pd_web.specs.Canvases.{keys_at}
use Rattle.pd_web.specs.Changes.{hop_at, line_told, wires_told, IsListed, Meet}
use Rattle.pd_web.specs.Hops.{ports_told}
use Rattle.pd_web.proofs.CountLemmas.{held_alike}
use Rattle.pd_patch.specs.declared.patch.Patch.{Patch}
use Rattle.pd_patch.specs.Built.{IsBuilt, block_sizes}
use Rattle.pd_patch.specs.Linked.{HasLinks}
use Rattle.pd_patch.specs.Numbers.{IsOut}
use Rattle.pd_patch.specs.Values.{block_at, block_count, blocks_told}
use Rattle.pd_wiring.specs.Changes.{CanRewire}
use Rattle.pd_placing.specs.Placing.{LacksBox, StayBut}
use Rattle.pd_boxes.specs.declared.room.Place.{Place}
use Rattle.pd_boxes.specs.Put.{CanPut, HasOwners, keys_before}
use Rattle.pd_boxes.specs.Rows.{NumbersFrom}
use Rattle.pd_boxes.proofs.AskingLemmas.{put_rewired}
use Rattle.pd_clearing.specs.Losing.{LoosensAll}
use Rattle.pd_clearing.specs.Clearing.{keys_past, without_all, CanClear, DropsAll, IsCleared, IsPartOf, KeepsOtherPorts, KeepsOtherWires}
use Rattle.pd_clearing.specs.Layers.{ClosesAll, DropsOrders}
use Rattle.pd_clearing.proofs.LoosenLemmas.{fans_left, feeds_left}
use Rattle.pd_clearing.proofs.PartLemmas.{in_box, not_among, part_live}
use Rattle.pd_clearing.proofs.ReadyLemmas.{apart_left, forest_left, numbers_left, numbers_stay, order_stays, ordered_left, owners_left, small_left, was_live, IsPlain, IsReady}
use Rattle.pd_clearing.proofs.WireLemmas.{homes_left, inside_left, kept_box, linked_left, orders_left, ports_left}

-- Webs.

still_meet : (w v : Web) (part : List ℕ) → ClosesAll w v part → Meet w → Meet v
still_meet w v part G m = record {
  fed = λ node outlet i h e. subst (λ (hs : List Hop). IsListed hs (hop_at h.key node outlet)) (sym (G.feeds h.node h.port))
      (m.fed node outlet i h (ap (λ (hs : List Hop). slice_get hs i) (sym (G.fans node outlet)) ∙ e));
  fanned = λ node inlet i h e. subst (λ (hs : List Hop). IsListed hs (hop_at h.key node inlet)) (sym (G.fans h.node h.port))
      (m.fanned node inlet i h (ap (λ (hs : List Hop). slice_get hs i) (sym (G.feeds node inlet)) ∙ e));
}

mapped_some : {X Y : Type 0} (f : X → Y) (o : Option X) → is_some (option_map f o) ≡ is_some o
mapped_some f None = refl
mapped_some f (Some x) = refl

told_some : (w : Web) (k : ℕ) → is_some (line_told w k) ≡ is_some (wire_at w.book k)
told_some w k = mapped_some _ (wire_at w.book k)

pub as_many : (w v : Web) → ((k : ℕ) → line_told v k ≡ line_told w k) → wires_told v ≡ wires_told w
as_many w v same = held_alike w.book.wires v.book.wires (λ k. sym (told_some v k) ∙ ap is_some (same k) ∙ told_some w k)

-- Before they go.

-- each of the boxes that go lives
pub part_lives : (p : Patch) (place : Place) (key : ℕ) (part : List ℕ) → CanClear p place key → ArePart (get p.grove.nodes) (get p.grove.boards) key part → (k : ℕ) → IsTrue (is_among part k) → IsSome (get p.grove.nodes k)
part_lives p place key part C A =
    let B = box_there (get p.grove.nodes key) place.canvas (C.can.forest.own.home place.canvas place.number key C.is) in
    part_live (get p.grove.nodes) (get p.grove.boards) p.grove.root C.can.forest key part A (subst (λ o. IsSome o) (sym B.is) refl)

-- The wires are gone.

pub is_ready : (p q : Patch) (place : Place) (key : ℕ) (part : List ℕ) (steps steps' : ℕ) → CanClear p place key → ArePart (get p.grove.nodes) (get p.grove.boards) key part
    → LoosensAll p q part part steps steps' → IsReady q place key part
is_ready p q place key part steps steps' C A L = record {
  can = put_rewired p q L.rest.grove L.rewires C.can;
  is = subst (λ (g : Grove). slice_get (keys_at g place.canvas) place.number ≡ Some key) (sym L.rest.grove) C.is;
  meet = L.meet;
  are = subst (λ (g : Grove). ArePart (get g.nodes) (get g.boards) key part) (sym L.rest.grove) A;
  bare = L.bare;
}

-- the box is no port still
still_plain : (p q : Patch) (place : Place) (key : ℕ) (part : List ℕ) (steps steps' : ℕ) → CanClear p place key → LoosensAll p q part part steps steps' → IsPlain q place key
still_plain p q place key part steps steps' C L n is =
    subst (λ (g : Grove). (holder_in (get g.boards place.canvas) ≡ None) ⊎ ((side : Side) → port_signal side n.kind ≡ None)) (sym L.rest.grove)
    (C.plain n (ap (λ (g : Grove). get g.nodes key) (sym L.rest.grove) ∙ is))

-- what each layer tells without these boxes
pub record GoesOut (p q : Patch) (table : Names) (place : Place) (key : ℕ) (part : List ℕ) : Type 0 where
  pub node : Node
  pub grove : TakesBox (get p.grove.nodes) (get q.grove.nodes) (get p.grove.boards) (get q.grove.boards) place.canvas key node (keys_before p place) (keys_past p place)
  pub root : q.grove.root ≡ p.grove.root
  pub ports : ClosesAll p.web q.web part
  pub owners : (file away : List ℕ) → AreOwnersBut p.names table file p.grove away → AreOwnersBut q.names table file p.grove (part ++ away)
  pub links : q.links ≡ p.links
  pub numbers : NumbersFrom p.numbers.items q.numbers.items (keys_at q.grove place.canvas) place.number
  pub blocks : DropsAll (blocks_told p) (blocks_told q) part
  pub clocks : q.timers.clocks.clocks ≡ without_all part p.timers.clocks.clocks
  pub clock_room : q.timers.end ≡ p.timers.end
  pub displaced : List (Option Listing)
  pub lacks : LacksBox p.grove p.links displaced place.canvas key
  pub others : StayBut p.orders.items displaced place.canvas
  pub orders : DropsOrders p.grove displaced q.orders.items part
  pub rate : q.rate ≡ p.rate
  pub present : q.present ≡ p.present

-- From a patch without the wires.

module _ (p q : Patch) (table : Names) (place : Place) (key : ℕ) (part : List ℕ) (R : IsReady p place key part) (plain : IsPlain p place key) (O : GoesOut p q table place key part) where
  left_rewires : CanRewire q
  left_rewires = record {
    own = (forest_left p place key part R q.grove O.node O.grove).own;
    ports = ports_left p place key part R plain q.grove O.node O.grove q.web O.ports;
    inside = inside_left p place key part R q.grove O.node O.grove q.web O.ports;
    linked = subst (λ (l : Links). HasLinks q.web l) (sym O.links) (linked_left p place key part R q.grove O.node O.grove q.web O.ports);
    orders = orders_left p place key part R plain q.grove O.node O.grove q.web O.ports q.orders.items
        (ordered_left p place key part R q.grove O.node O.grove O.displaced q.orders.items O.lacks O.others O.orders);
    numbers = numbers_left p place key part R q.grove O.node O.grove q.numbers.items O.numbers;
  }

  left_put : CanPut q
  left_put = record {
    forest = subst (λ (r : ℕ). IsForest (get q.grove.nodes) (get q.grove.boards) r) (sym O.root) (forest_left p place key part R q.grove O.node O.grove);
    small = small_left p place key part R q.grove O.node O.grove;
    apart = apart_left p place key part R q.grove O.node O.grove;
    runs = left_rewires;
  }

  live_was : (l : ℕ) → IsSome (get q.grove.nodes l) → IsSome (get p.grove.nodes l)
  live_was = was_live p place key part R q.grove O.node O.grove

  live_out : (l : ℕ) → IsSome (get q.grove.nodes l) → is_among part l ≡ false
  live_out = not_among (get p.grove.nodes) (get p.grove.boards) p.grove.root R.can.forest key part R.are (get q.grove.nodes) (get q.grove.boards) place.canvas O.node (keys_before p place) (keys_past p place) O.grove

  module _ (file : List ℕ) (rate : Rate) (b : IsBuilt p table file rate) where
    left_blocks : (l : ℕ) → IsSome (get q.grove.nodes l) → option_map block_sizes (slice_get (blocks_told q) l) ≡ Some (replicate (block_count (ports_told q.web Outlets l)) 64)
    left_blocks l s =
        ap (option_map block_sizes) (O.blocks.others l (live_out l s)) ∙ b.blocks l (live_was l s)
        ∙ ap (λ (js : List Jack). Some (replicate (block_count js) 64)) (sym (O.ports.ports Outlets l (live_out l s)))

    no_block : (l outlet : ℕ) → get q.grove.nodes l ≡ None → block_at (blocks_told q) l outlet ≡ None
    no_block l outlet none = by_test (is_among part l)
        (λ at. O.blocks.gone l outlet at)
        (λ out. ap (option_and_then (λ own. slice_get own outlet)) (O.blocks.others l out)
        ∙ b.no_others l outlet (sym (kept_box p place key part R q.grove O.node O.grove q.web O.ports l out) ∙ none))

    left_built : IsBuilt q table file rate
    left_built =
        let can = left_rewires in
        record {
          own = can.own;
          keys = λ l s. b.keys l (live_was l s);
          ports = can.ports;
          owners = owners_left p place key part R q.grove O.node O.grove q.names table O.root O.owners file b.owners;
          apart = left_put.apart;
          inside = can.inside;
          linked = can.linked;
          orders = can.orders;
          numbers = can.numbers;
          blocks = left_blocks;
          no_others = no_block;
          room = λ l s. subst (λ n. l < n) (sym O.clock_room) (b.room l (live_was l s));
          same_rate = O.rate ∙ b.same_rate;
        }

-- From the patch with them.

module _ (p r q : Patch) (table : Names) (place : Place) (key : ℕ) (spots : List Spot) (steps steps' : ℕ) (C : CanClear p place key) (P : IsPartOf p.grove key spots)
    (L : LoosensAll p r (keys_of_spots spots) (keys_of_spots spots) steps steps') (O : GoesOut r q table place key (keys_of_spots spots)) where
  abbrev part : List ℕ
  part = keys_of_spots spots

  ready : IsReady r place key part
  ready = is_ready p r place key part steps steps' C P.are L

  plain : IsPlain r place key
  plain = still_plain p r place key part steps steps' C L

  takes : TakesBox (get p.grove.nodes) (get q.grove.nodes) (get p.grove.boards) (get q.grove.boards) place.canvas key O.node (keys_before p place) (keys_past p place)
  takes = subst (λ (g : Grove). TakesBox (get g.nodes) (get q.grove.nodes) (get g.boards) (get q.grove.boards) place.canvas key O.node
      (take place.number (keys_at g place.canvas)) (drop (place.number + 1) (keys_at g place.canvas))) L.rest.grove O.grove

  wires : KeepsOtherWires p q key part
  wires = record {
    bare = λ k at. let b = L.bare k at in record { fans = λ o. O.ports.fans k o ∙ b.fans o; feeds = λ i. O.ports.feeds k i ∙ b.feeds i };
    fans = λ k o out. O.ports.fans k o ∙ fans_left p r key part steps steps' L C.can.forest P.are C.can.runs.inside C.meet k o out;
    feeds = λ k i out. O.ports.feeds k i ∙ feeds_left p r key part steps steps' L C.can.forest P.are C.can.runs.inside C.meet k i out;
    other_lines = λ k l d e. O.ports.lines k ∙ L.other_lines k l d e;
    none_comes = λ k e. O.ports.lines k ∙ L.none_comes k e;
  }

  ports : KeepsOtherPorts p q part
  ports = record {
    gone = O.ports.gone;
    ports = λ side k out. O.ports.ports side k out ∙ L.kept.ports side k;
    made = λ k out. O.ports.made k out ∙ L.kept.made k;
    homes = λ j out. homes_left r place key part ready plain q.grove O.node O.grove q.web O.ports j out ∙ L.kept.homes j;
  }

  owners : (file : List ℕ) → HasOwners p table file → HasOwners q table file
  owners file H = owners_left r place key part ready q.grove O.node O.grove q.names table O.root O.owners file (λ class name. rw (L.rest.names, L.rest.grove) (H class name))

  -- the canvases of these boxes but the outermost one are no more
  not_there : (c k : ℕ) → c ≢ place.canvas → IsSome (get q.grove.boards c) → IsTrue (is_among part k) → board_in (get p.grove.nodes k) ≢ Some c
  not_there c k f live at = λ e. ⊎_elim
      (λ (s : k ≡ key). f (same_Some c place.canvas (sym e ∙ ap (λ x. board_in (get p.grove.nodes x)) s ∙ C.can.forest.own.home place.canvas place.number key C.is)))
      (λ (d : k ≢ key). not_both (get q.grove.boards c) (takes.boards_go c (in_box (get p.grove.nodes) (get p.grove.boards) p.grove.root C.can.forest key part P.are k c at d e)) live)
      (cases_eq k key)

  cleared : IsCleared p q table place key steps steps'
  cleared = record {
    part = part;
    is_part = P.are;
    once = P.once;
    lost = L.lost;
    loose = r;
    one_by_one = L.one_by_one;
    looks = L.looks;
    lines = O.ports.lines;
    feeds = O.ports.feeds;
    count = let a = as_many r.web q.web O.ports.lines in let b = L.count in omega (arith, a, b);
    node = O.node;
    grove = takes;
    root = O.root ∙ ap (λ (g : Grove). g.root) L.rest.grove;
    wires = wires;
    ports = ports;
    owners = owners;
    numbers = numbers_left r place key part ready q.grove O.node O.grove q.numbers.items O.numbers;
    other_numbers = λ k out. numbers_stay r place key part ready q.grove O.node O.grove q.numbers.items O.numbers k
        (subst (λ (g : Grove). IsOut (drop (place.number + 1) (keys_at g place.canvas)) k) (sym L.rest.grove) out) ∙ rw L.rest.numbers refl;
    blocks = record { gone = O.blocks.gone; others = λ k out. O.blocks.others k out ∙ rw L.rest.values refl };
    clocks = O.clocks ∙ ap (λ t. without_all part t.clocks.clocks) L.rest.timers;
    clock_room = O.clock_room ∙ ap (λ t. t.end) L.rest.timers;
    orders = λ c f live. order_stays r place key part ready q.grove O.node O.grove O.displaced q.orders.items O.lacks O.others O.orders c f live
        ∙ L.rest.orders c (λ k at. not_there c k f live at);
    rate = O.rate ∙ L.rest.rate;
    present = O.present ∙ L.rest.present;
    can = left_put r q table place key part ready plain O;
    meet = still_meet r.web q.web part O.ports L.meet;
    built = λ file rate b. left_built r q table place key part ready plain O file rate (L.built table file rate b);
  }

  -- they are those that were told
  pub cleared_part : (told : List Spot) → spots ≡ told → (c : IsCleared p q table place key steps steps') × (c.part ≡ keys_of_spots told)
  unfolding cleared
  cleared_part told e = (cleared, ap keys_of_spots e)
