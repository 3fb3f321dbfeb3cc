-- What a patch has as long as it runs, with a wire more or less.
use Rattle.std.proofs.Common.{arith, ◌≡◌, ℕ, zero, suc, List, [], ◌∷◌, ◌++◌, length, None, refl, sym, ap, ◌∙◌, subst}
use Rattle.std.specs.Prelude.{Option, Some, slice_get, is_some, replicate}
use Rattle.slab.specs.Slab.{get}
use Rattle.pd_atom.specs.Names.{Names}
use Rattle.pd_clock.specs.declared.times.Rate.{Rate}
use Rattle.pd_order.specs.Listing.{Listing}
use Rattle.pd_links.specs.declared.links.Links.{Links}
use Rattle.pd_links.specs.Linked.{SameLinks}
use Rattle.pd_order.specs.Graph.{tally, IsOrder}
use Rattle.pd_order.proofs.Basics.{by_test}
use Rattle.pd_chain.specs.declared.graph.SignalWire.{SignalWire}
use Rattle.pd_chain.specs.Wires.{graph_of}
use Rattle.pd_grove.specs.declared.boards.Board.{Board}
use Rattle.pd_grove.specs.declared.grove.Grove.{Grove}
use Rattle.pd_grove.specs.declared.ports.Side.TheVariants.{Inlets, Outlets}
use Rattle.pd_web.specs.declared.jacks.Jack.{Jack}
use Rattle.pd_web.specs.declared.web.Web.{Web}
use Rattle.pd_web.specs.declared.web.Hop.{Hop}
use Rattle.pd_web.specs.Hops.{ports_told, fan_hops, jack_told, signal_in}
use Rattle.pd_web.specs.Changes.{KeepsPorts}
use Rattle.pd_patch.specs.declared.patch.Patch.{Patch}
use Rattle.pd_patch.specs.Built.{IsBuilt, HasPorts, HaveBlocks}
use Rattle.pd_patch.specs.Linked.{HasLinks, StayInside, ShareCanvas}
use Rattle.pd_patch.specs.Orders.{is_heard, wires_by, wires_from, wires_below, box_wires, signal_among, signal_wires_among, HasOrder, AreOrdered}
use Rattle.pd_patch.specs.Telling.{order_in}
use Rattle.pd_patch.specs.Values.{Blocks, block_count, blocks_told}
use Rattle.std.specs.List.{AllByRecursion}
use Rattle.pd_wiring.specs.Changes.{CanRewire, SameButRoom, StaysBuilt}
use Rattle.pd_wiring.specs.Graphs.{AreWired}
use Rattle.pd_wiring.proofs.HeardLemmas.{sinks_of}

ports_kept : (g : Grove) (w v : Web) → KeepsPorts w v → HasPorts g w → HasPorts g v
ports_kept g w v K P = record {
  ports = λ side k. K.ports side k ∙ P.ports side k;
  made = λ k. K.made k ∙ P.made k;
  homes = λ j k i e. P.homes j k i (sym (K.homes j) ∙ e);
  homes_found = λ j k i e. ap is_some (K.homes j) ∙ P.homes_found j k i e;
}

blocks_kept : (g : Grove) (w v : Web) (blocks : Blocks) → KeepsPorts w v → HaveBlocks g w blocks → HaveBlocks g v blocks
blocks_kept g w v blocks K h k live = h k live ∙ ap (λ (js : List Jack). Some (replicate (block_count js) 64)) (sym (K.ports Outlets k))

-- what runs has what an edit of wires asks
pub runs_rewire : (p : Patch) (names : Names) (file : List ℕ) (rate : Rate) → IsBuilt p names file rate → CanRewire p
runs_rewire p names file rate b = record { own = b.own; ports = b.ports; inside = b.inside; linked = b.linked; orders = b.orders; numbers = b.numbers }

-- the parts of it that a graph of a canvas rests on
pub wired_parts : (p : Patch) → CanRewire p → AreWired p.grove p.web p.links
wired_parts p b = record { own = b.own; ports = b.ports.ports; inside = b.inside; linked = b.linked }

-- a patch of the same boxes and ports, with wires that stay inside, links and orders, can be rewired as it could
pub still_rewires : (p q : Patch) → q.grove ≡ p.grove → q.numbers ≡ p.numbers → KeepsPorts p.web q.web → StayInside p.grove q.web → HasLinks q.web q.links → AreOrdered p.grove q.web q.orders.items → CanRewire p → CanRewire q
still_rewires p q grove numbers K inside linked orders b = record {
  own = rw grove b.own;
  ports = rw grove (ports_kept p.grove p.web q.web K b.ports);
  inside = rw grove inside;
  linked = linked;
  orders = rw grove orders;
  numbers = λ c. rw (numbers, grove) (b.numbers c);
}

-- where it can, it is built as it was
pub rebuilt : (p q : Patch) (names : Names) (file : List ℕ) (rate : Rate) → q.grove ≡ p.grove → q.names ≡ p.names → q.timers ≡ p.timers → q.values ≡ p.values → q.rate ≡ p.rate → KeepsPorts p.web q.web → CanRewire q
    → IsBuilt p names file rate → IsBuilt q names file rate
rebuilt p q names file rate grove same_names timers values same_rate K can b = record {
  own = can.own;
  keys = rw grove b.keys;
  ports = can.ports;
  owners = λ class name. rw (same_names, grove) (b.owners class name);
  apart = rw grove b.apart;
  inside = can.inside;
  linked = can.linked;
  orders = can.orders;
  numbers = can.numbers;
  blocks = rw (grove, values) (blocks_kept p.grove p.web q.web (blocks_told p) K b.blocks);
  no_others = rw (grove, values) b.no_others;
  room = λ k live. rw timers (b.room k (rw grove at live));
  same_rate = same_rate ∙ b.same_rate;
}

-- Room set aside.

heard_alike : (w v : Web) → KeepsPorts w v → (h : Hop) → is_heard v h ≡ is_heard w h
heard_alike w v K h = ap (λ (js : List Jack). signal_in (slice_get js h.port)) (K.ports Inlets h.node)

by_alike : (w v : Web) → KeepsPorts w v → (k : ℕ) (hops : List Hop) → wires_by v k hops ≡ wires_by w k hops
by_alike w v K k [] = refl
by_alike w v K k (h ∷ hops) =
    let same = heard_alike w v K h in
    by_test (is_heard w h)
    (λ t. rw (same, t) (ap (λ (vs : List SignalWire). record { source = k; sink = h.node } ∷ vs) (by_alike w v K k hops)))
    (λ f. rw (same, f) (by_alike w v K k hops))

from_alike : (w v : Web) → KeepsPorts w v → ((k o : ℕ) → fan_hops v k o ≡ fan_hops w k o) → (k o : ℕ) → wires_from v k o ≡ wires_from w k o
from_alike w v K fans k o =
    let sounds : signal_in (jack_told v Outlets k o) ≡ signal_in (jack_told w Outlets k o) = ap (λ (js : List Jack). signal_in (slice_get js o)) (K.ports Outlets k) in
    by_test (signal_in (jack_told w Outlets k o))
    (λ t. rw (sounds, t) (by_alike w v K k (fan_hops v k o) ∙ ap (wires_by w k) (fans k o)))
    (λ f. rw (sounds, f) refl)

below_alike : (w v : Web) → KeepsPorts w v → ((k o : ℕ) → fan_hops v k o ≡ fan_hops w k o) → (k n : ℕ) → wires_below v k n ≡ wires_below w k n
below_alike w v K fans k zero = refl
below_alike w v K fans k (suc n) =
    ap (λ (vs : List SignalWire). vs ++ wires_from v k n) (below_alike w v K fans k n) ∙ ap (λ (vs : List SignalWire). wires_below w k n ++ vs) (from_alike w v K fans k n)

box_alike : (w v : Web) → KeepsPorts w v → ((k o : ℕ) → fan_hops v k o ≡ fan_hops w k o) → (k : ℕ) → box_wires v k ≡ box_wires w k
box_alike w v K fans k = ap (λ (js : List Jack). wires_below v k (length js)) (K.ports Outlets k) ∙ below_alike w v K fans k (length (ports_told w Outlets k))

among_alike : (w v : Web) → ((k : ℕ) → box_wires v k ≡ box_wires w k) → (ks : List ℕ) → signal_wires_among v ks ≡ signal_wires_among w ks
among_alike w v same [] = refl
among_alike w v same (k ∷ ks) = ap (λ (vs : List SignalWire). vs ++ signal_wires_among v ks) (same k) ∙ ap (λ (vs : List SignalWire). box_wires w k ++ vs) (among_alike w v same ks)

order_alike : (g : Grove) (w v : Web) → ((k : ℕ) → box_wires v k ≡ box_wires w k) → (b : Option Board) (o : Option Listing) → HasOrder g w b o → HasOrder g v b o
order_alike g w v same None o h = h
order_alike g w v same (Some b) None h = h
order_alike g w v same (Some b) (Some o) h =
    let signal = signal_among g b.nodes.items in
    subst (λ (ws : List SignalWire). IsOrder (graph_of b.nodes.items ws) signal o.chain o.stuck) (sym (among_alike w v same signal)) h

links_alike : (w v : Web) (l m : Links) → ((k : ℕ) → box_wires v k ≡ box_wires w k) → SameLinks l m → HasLinks w l → HasLinks v m
links_alike w v l m same S H = record {
  followers = λ k j. ap (tally j) (S.followers k) ∙ H.followers k j ∙ sym (ap (λ (vs : List SignalWire). tally j (sinks_of vs)) (same k));
  feeders = λ k j. ap (tally k) (S.feeders j) ∙ H.feeders k j ∙ sym (ap (λ (vs : List SignalWire). tally j (sinks_of vs)) (same k));
}

pub same_links : (l : Links) → SameLinks l l
same_links l = record { feeders = λ x. refl; followers = λ x. refl; spare_into = λ x. omega arith; spare_from = λ x. omega arith }

-- a patch with more room can be rewired as it could, and is built as it was
pub roomed : (p q : Patch) → SameButRoom p q → CanRewire p → CanRewire q
roomed p q S b =
    let same = box_alike p.web q.web S.web.kept S.web.fans in
    still_rewires p q S.grove S.numbers S.web.kept
    (λ k o. subst (AllByRecursion (λ (h : Hop). ShareCanvas p.grove k h.node)) (sym (S.web.fans k o)) (b.inside k o))
    (links_alike p.web q.web p.links q.links same S.links b.linked)
    (λ c. rw S.orders (order_alike p.grove p.web q.web same (get p.grove.boards c) (order_in p.orders.items c) (b.orders c)))
    b

pub roomed_built : (p q : Patch) → SameButRoom p q → StaysBuilt p q
roomed_built p q S = λ names file rate b. rebuilt p q names file rate S.grove S.names S.timers S.values S.rate S.web.kept (roomed p q S (runs_rewire p names file rate b)) b
