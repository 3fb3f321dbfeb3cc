use Rattle.std.proofs.Common.{subst}
use Rattle.std.specs.Prelude.{Option}
use Rattle.pd_order.specs.Listing.{Listing}
use Rattle.pd_wiring.specs.Graphs.{graph_told, signal_told, IsOrderIn}
use Rattle.pd_placing.specs.Room.{HasPlaces}
use Rattle.pd_placing.proofs.leaving.leave_slot.Goals as goal

pub leave-requires-clause-order : goal.leave-requires-clause-order
leave-requires-clause-order c = let s = c.args.graph.now in subst (IsOrderIn (graph_told s) (signal_told s)) c.in-Some.is c.requires.order

pub returns-in-Some-clause-order : goal.returns-in-Some-clause-order
returns-in-Some-clause-order c = c.leave.ensures.order

pub returns-in-Some-clause-places : goal.returns-in-Some-clause-places
returns-in-Some-clause-places c = λ n h. c.leave.ensures.places n (subst (λ (o : Option Listing). HasPlaces o n) c.in-Some.is h)

pub returns-in-None-clause-order : goal.returns-in-None-clause-order
returns-in-None-clause-order c = let s = c.args.graph.now in absurd (subst (IsOrderIn (graph_told s) (signal_told s)) c.in-None.is c.requires.order)

pub returns-in-None-clause-places : goal.returns-in-None-clause-places
returns-in-None-clause-places c = λ n h. absurd (subst (λ (o : Option Listing). HasPlaces o n) c.in-None.is h)
