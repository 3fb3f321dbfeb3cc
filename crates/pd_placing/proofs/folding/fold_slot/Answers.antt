use Rattle.std.proofs.Common.{length, subst}
use Rattle.std.specs.Prelude.{Option}
use Rattle.pd_order.specs.Listing.{Listing}
use Rattle.pd_placing.specs.Room.{HasPlaces}
use Rattle.pd_placing.proofs.folding.fold_slot.Goals as goal

pub fold_boxes-requires-clause-room : goal.fold_boxes-requires-clause-room
fold_boxes-requires-clause-room g c = subst (λ (o : Option Listing). HasPlaces o (length c.args.signal.now)) c.in-Some.is c.requires.room

pub returns-in-Some-clause-order : goal.returns-in-Some-clause-order
returns-in-Some-clause-order g c = c.fold_boxes.ensures.order

pub returns-in-None-clause-order : goal.returns-in-None-clause-order
returns-in-None-clause-order g c = absurd (subst (λ (o : Option Listing). HasPlaces o (length c.args.signal.now)) c.in-None.is c.requires.room)
