-- Room set aside lasts where wires go.
use Rattle.std.proofs.Common.{arith, ◌+◌, ℕ, sym, ap, ◌∙◌, subst}
use Rattle.std.specs.Prelude.{Option, Some, None, IsSome}
use Rattle.slab.specs.Slab.{get}
use Rattle.pd_atom.specs.Names.{Names}
use Rattle.pd_order.specs.Listing.{Listing}
use Rattle.pd_grove.specs.declared.grove.Grove.{Grove}
use Rattle.pd_patch.specs.declared.patch.Patch.{Patch}
use Rattle.pd_patch.specs.Telling.{order_in}
use Rattle.pd_placing.specs.Room.{HasPlaces}
use Rattle.pd_wiring.specs.Changes.{SamePlaces}
use Rattle.pd_taking.specs.Loosening.{Loosens}
use Rattle.pd_refitting.specs.declared.room.RefitRoom.{RefitRoom}
use Rattle.pd_refitting.specs.Room.{TakesRefit}

pub places_last : (a b : Option Listing) (boxes : ℕ) → SamePlaces a b → HasPlaces a boxes → HasPlaces b boxes
places_last None b boxes S H = absurd H
places_last (Some a) None boxes S H = absurd S
places_last (Some a) (Some b) boxes S H = let e = S.spots in let r = S.room in record {
  room = let h = H.room in omega (arith, e, r, h);
  few = let h = H.few in omega (arith, e, h);
}

pub refit_lasts : (p q : Patch) (key steps steps' : ℕ) (room : RefitRoom) (table : Names) → Loosens p q key steps steps' → TakesRefit p room table → TakesRefit q room table
refit_lasts p q key steps steps' room table L T = record {
  web = λ k some. L.web.room (k + 1) 0 0 (T.web k (subst (λ (g : Grove). IsSome (get g.nodes k)) L.rest.grove some));
  ports = T.ports;
  order = λ n is. places_last (order_in p.orders.items n.board) (order_in q.orders.items n.board) 1 (L.rest.places n.board) (T.order n (ap (λ (g : Grove). get g.nodes room.key) (sym L.rest.grove) ∙ is));
  owner = rw L.rest.names T.owner;
  values = rw L.rest.values T.values;
  blocks = T.blocks;
}
