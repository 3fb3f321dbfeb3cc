-- A running patch after a wire came or went.
use Rattle.std.proofs.Common.{◌≡◌, ℕ, ◌<◌, List, true, false, sym, ◌∙◌, subst}
use Rattle.std.proofs.lemmas.Bool.{and_parts}
use Rattle.slab.specs.Slab.{get}
use Rattle.pd_links.specs.declared.links.Links.{Links}
use Rattle.pd_order.specs.Graph.{tally}
use Rattle.pd_links.specs.Linked.{feeders_of, followers_of, HasOneMore}
use Rattle.pd_grove.specs.declared.ports.Side.TheVariants.{Inlets, Outlets}
use Rattle.pd_web.specs.declared.lines.Line.{Line}
use Rattle.pd_web.specs.declared.web.Web.{Web}
use Rattle.pd_web.specs.Lines.{IsRoute}
use Rattle.pd_web.specs.Hops.{jack_told, signal_in}
use Rattle.pd_web.specs.Changes.{KeepsPorts, Joins, CutsWire}
use Rattle.pd_patch.specs.declared.patch.Patch.{Patch}
use Rattle.pd_patch.specs.Linked.{HasLinks, ShareCanvas, StayInside}
use Rattle.pd_patch.specs.Orders.{is_signal_node, AreOrdered}
use Rattle.pd_wiring.specs.Graphs.{AreWired, AreOrderedBy}
use Rattle.pd_wiring.specs.Changes.{is_signal_line, CanRewire, LeadsAlong, StaysButWire, StaysBuilt}
use Rattle.pd_wiring.proofs.HeardLemmas.{sounding}
use Rattle.pd_wiring.proofs.GraphLemmas.{ordered_by_links, ordered_by_wires}
use Rattle.pd_wiring.proofs.CountLemmas.{HasWireMore, signal_same, signal_links, signal_back, control_links, control_back, followed_there, fed_there}
use Rattle.pd_wiring.proofs.WebLemmas.{joined_more, joined_inside, HasLaws, cut_more, cut_inside}
use Rattle.pd_wiring.proofs.BuiltLemmas.{runs_rewire, wired_parts, still_rewires, rebuilt}

-- the orders of a patch that runs are those of its links
pub orders_linked : (p : Patch) → CanRewire p → AreOrderedBy p.grove p.links p.orders.items
orders_linked p b = ordered_by_links p.grove p.web p.links (wired_parts p b) p.orders.items b.orders

-- another web of the same ports, with its links
rewired : (p : Patch) (v : Web) (ls : Links) → CanRewire p → KeepsPorts p.web v → StayInside p.grove v → HasLinks v ls → AreWired p.grove v ls
rewired p v ls b K inside linked = record { own = b.own; ports = λ side k. K.ports side k ∙ b.ports.ports side k; inside = inside; linked = linked }

-- a sink that a signal wire may feed stands in the signal order
pub sink_sounds : (p : Patch) (l : Line) → CanRewire p → is_signal_line p.web l ≡ true → is_signal_node (get p.grove.nodes l.sink) ≡ true
sink_sounds p l b t =
    sounding p.grove p.web Inlets l.sink l.inlet (b.ports.ports Inlets l.sink) (and_parts (signal_in (jack_told p.web Outlets l.source l.outlet)) (signal_in (jack_told p.web Inlets l.sink l.inlet)) t).1

-- orders by links that are those of another web
orders_told : (p q : Patch) (v : Web) → CanRewire p → KeepsPorts p.web v → StayInside p.grove v → HasLinks v q.links → q.grove ≡ p.grove
    → AreOrderedBy q.grove q.links q.orders.items → AreOrdered p.grove v q.orders.items
orders_told p q v b K inside linked grove o =
    ordered_by_wires p.grove v q.links (rewired p v q.links b K inside linked) q.orders.items (rw grove at o)

-- what an edit of wires asks, where the web, the links and the orders are changed together
changed : (p q : Patch) (v : Web) (source : ℕ) → CanRewire p → StaysButWire p q source → q.web ≡ v → KeepsPorts p.web v → StayInside p.grove v → HasLinks v q.links
    → AreOrderedBy q.grove q.links q.orders.items → CanRewire q
changed p q v source b S web K inside linked o =
    still_rewires p q S.grove S.numbers (subst (λ (x : Web). KeepsPorts p.web x) (sym web) K) (subst (λ (x : Web). StayInside p.grove x) (sym web) inside)
    (subst (λ (x : Web). HasLinks x q.links) (sym web) linked)
    (subst (λ (x : Web). AreOrdered p.grove x q.orders.items) (sym web) (orders_told p q v b K inside linked S.grove o)) b

-- where it is still so, the patch is built as it was
pub stays_built : (p q : Patch) (v : Web) (source : ℕ) → StaysButWire p q source → q.web ≡ v → KeepsPorts p.web v → (CanRewire p → CanRewire q) → StaysBuilt p q
stays_built p q v source S web K can = λ names file rate b.
    rebuilt p q names file rate S.grove S.names S.timers S.values S.rate (subst (λ (x : Web). KeepsPorts p.web x) (sym web) K) (can (runs_rewire p names file rate b)) b

-- Where a wire came.

module _ (p : Patch) (v : Web) (l : Line) (key fan feed : ℕ) (R : IsRoute p.web.sockets.items l) (J : Joins p.web v key l fan feed) (share : ShareCanvas p.grove l.source l.sink) where
  more : HasWireMore p.web v l
  more = joined_more p.web v key l fan feed R J

  pub was_signal : is_signal_line v l ≡ is_signal_line p.web l
  was_signal = signal_same p.web v l more

  pub attach_wired : CanRewire p → is_signal_line v l ≡ true → (ls : Links) → HasOneMore p.links ls l.source l.sink → AreWired p.grove v ls
  attach_wired b t ls h =
      rewired p v ls b J.kept (joined_inside p.grove p.web v l more share b.inside) (signal_links p.web v l more p.links ls (sym was_signal ∙ t) h b.linked)

  pub attach_signal : (q : Patch) → is_signal_line v l ≡ true → StaysButWire p q l.source → q.web ≡ v → HasOneMore p.links q.links l.source l.sink
      → AreOrderedBy q.grove q.links q.orders.items → CanRewire p → CanRewire q
  attach_signal q t S web h o b =
      changed p q v l.source b S web J.kept (joined_inside p.grove p.web v l more share b.inside) (signal_links p.web v l more p.links q.links (sym was_signal ∙ t) h b.linked) o

  pub attach_control : (q : Patch) → is_signal_line v l ≡ false → StaysButWire p q l.source → q.web ≡ v → q.links ≡ p.links → q.orders ≡ p.orders
      → CanRewire p → CanRewire q
  attach_control q f S web links orders b =
      changed p q v l.source b S web J.kept (joined_inside p.grove p.web v l more share b.inside)
      (subst (HasLinks v) (sym links) (control_links p.web v l more p.links (sym was_signal ∙ f) b.linked))
      (rw (S.grove, links, orders) (orders_linked p b))

-- Where a wire went.

module _ (p : Patch) (v : Web) (l : Line) (key : ℕ) (L : HasLaws p.web) (A : LeadsAlong p.web key l) (C : CutsWire p.web v key) where
  less : HasWireMore v p.web l
  less = cut_more p.web v key l L A C

  pub still_signal : is_signal_line p.web l ≡ is_signal_line v l
  still_signal = signal_same v p.web l less

  pub linked_from : CanRewire p → is_signal_line p.web l ≡ true → 0 < tally l.sink (followers_of p.links l.source)
  linked_from b t = followed_there v p.web l less p.links (sym still_signal ∙ t) b.linked

  pub linked_into : CanRewire p → is_signal_line p.web l ≡ true → 0 < tally l.source (feeders_of p.links l.sink)
  linked_into b t = fed_there v p.web l less p.links (sym still_signal ∙ t) b.linked

  pub detach_wired : CanRewire p → is_signal_line p.web l ≡ true → (ls : Links) → HasOneMore ls p.links l.source l.sink → AreWired p.grove v ls
  detach_wired b t ls h =
      rewired p v ls b C.kept (cut_inside p.grove p.web v key C b.inside) (signal_back v p.web l less ls p.links (sym still_signal ∙ t) h b.linked)

  pub detach_signal : (q : Patch) → is_signal_line p.web l ≡ true → StaysButWire p q l.source → q.web ≡ v → HasOneMore q.links p.links l.source l.sink
      → AreOrderedBy q.grove q.links q.orders.items → CanRewire p → CanRewire q
  detach_signal q t S web h o b =
      changed p q v l.source b S web C.kept (cut_inside p.grove p.web v key C b.inside) (signal_back v p.web l less q.links p.links (sym still_signal ∙ t) h b.linked) o

  pub detach_control : (q : Patch) → is_signal_line p.web l ≡ false → StaysButWire p q l.source → q.web ≡ v → q.links ≡ p.links → q.orders ≡ p.orders
      → CanRewire p → CanRewire q
  detach_control q f S web links orders b =
      changed p q v l.source b S web C.kept (cut_inside p.grove p.web v key C b.inside)
      (subst (HasLinks v) (sym links) (control_back v p.web l less p.links (sym still_signal ∙ f) b.linked))
      (rw (S.grove, links, orders) (orders_linked p b))
