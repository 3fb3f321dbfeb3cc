use Rattle.std.proofs.Common.{◌+◌, subst}
use Rattle.std.specs.Prelude.{Option}
use Rattle.pd_order.specs.Graph.{take_out}
use Rattle.pd_order.specs.Listing.{Listing}
use Rattle.pd_wiring.specs.Graphs.{graph_told, signal_told, IsOrderIn}
use Rattle.pd_placing.specs.Room.{HasPlaces}
use Rattle.pd_placing.proofs.joining.join_slot.Goals as goal

pub join-requires-clause-order : goal.join-requires-clause-order
join-requires-clause-order g c =
    let s = c.args.graph.now in
    subst (IsOrderIn (graph_told s) (take_out c.args.key (signal_told s))) c.in-Some.is c.requires.order

pub join-requires-clause-room : goal.join-requires-clause-room
join-requires-clause-room g c = subst (λ (o : Option Listing). HasPlaces o 1) c.in-Some.is c.requires.room

pub returns-in-Some-clause-order : goal.returns-in-Some-clause-order
returns-in-Some-clause-order g c = c.join.ensures.order

pub returns-in-Some-clause-places : goal.returns-in-Some-clause-places
returns-in-Some-clause-places g c = λ n h. c.join.ensures.places n (subst (λ (o : Option Listing). HasPlaces o (n + 1)) c.in-Some.is h)

pub returns-in-None-clause-order : goal.returns-in-None-clause-order
returns-in-None-clause-order g c =
    let s = c.args.graph.now in
    absurd (subst (IsOrderIn (graph_told s) (take_out c.args.key (signal_told s))) c.in-None.is c.requires.order)

pub returns-in-None-clause-places : goal.returns-in-None-clause-places
returns-in-None-clause-places g c = λ n h. absurd (subst (λ (o : Option Listing). HasPlaces o (n + 1)) c.in-None.is h)
