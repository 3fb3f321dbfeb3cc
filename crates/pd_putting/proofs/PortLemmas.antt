-- A port box that comes in where room was set aside for it.
use Rattle.std.proofs.Common.{◌≡◌, ◌≤◌, ℕ, length, IsSome, sym, ap, ◌∙◌, subst, arith}
use Rattle.slab.specs.Slab.{get}
use Rattle.pd_atom.specs.Names.{Names}
use Rattle.pd_grove.specs.declared.grove.Grove.{Grove}
use Rattle.pd_grove.specs.declared.ports.Side.{Side}
use Rattle.pd_grove.specs.declared.seeds.Seed.{Seed}
use Rattle.pd_web.specs.Canvases.{keys_at}
use Rattle.pd_web.specs.Changes.{Meet}
use Rattle.pd_patch.specs.declared.patch.Patch.{Patch}
use Rattle.pd_boxes.specs.declared.room.Place.{Place}
use Rattle.pd_boxes.specs.Room.{SameButRoom}
use Rattle.pd_boxes.specs.Put.{CanPut, IsLeaf}
use Rattle.pd_following.specs.declared.room.PortBoxRoom.{PortBoxRoom}
use Rattle.pd_following.specs.Ports.{CanPutPort, IsPortAt, IsPortPut}
use Rattle.pd_following.specs.Room.{IsFor}
use Rattle.pd_following.proofs.ReserveLemmas.{holder_same, room_port}
use Rattle.pd_adding.specs.Coming.{zero_in, own_zero}
use Rattle.pd_putting.specs.Places.{PutsPortAt}
use Rattle.pd_putting.proofs.StayLemmas.{more_zero, room_last, room_lives}

module _ (p q : Patch) (S : SameButRoom p q) (place : Place) (s : Seed) (room : PortBoxRoom) (F : IsFor q room place s) where
  port_at : IsPortAt p.grove place s.row.kind room.holder room.side
  port_at = record {
    held = sym (holder_same (get p.grove.boards place.canvas) (get q.grove.boards place.canvas) (S.grove.boards place.canvas)) ∙ F.port.held;
    port = F.port.port;
  }

  could : CanPut p → Meet p.web → IsLeaf s → CanPutPort q place s room.holder room.side
  could can meet leaf = room_port p q place s room.holder room.side S (record { can = can; meet = meet; leaf = leaf; at = port_at })

  pub own_could : CanPut p → Meet p.web → IsLeaf s → CanPutPort q room.own.place room.own.seed room.holder room.side
  own_could can meet leaf = subst (λ (x : Seed). CanPutPort q room.own.place x room.holder room.side) (sym F.box.seed)
      (subst (λ (at : Place). CanPutPort q at s room.holder room.side) (sym F.box.place) (could can meet leaf))

  pub own_lives : IsSome (get p.grove.boards place.canvas) → IsSome (get q.grove.boards room.own.place.canvas)
  own_lives here = subst (λ (at : Place). IsSome (get q.grove.boards at.canvas)) (sym F.box.place) (room_lives p q S place.canvas here)

  pub own_within : place.number ≤ length (keys_at p.grove place.canvas) → room.own.place.number ≤ length (keys_at q.grove room.own.place.canvas)
  own_within within =
      let e = room_last p q S place.canvas in
      subst (λ (at : Place). at.number ≤ length (keys_at q.grove at.canvas)) (sym F.box.place) (omega (arith, e, within))

  pub own_last : place.number ≡ length (keys_at p.grove place.canvas) → room.own.place.number ≡ length (keys_at q.grove room.own.place.canvas)
  own_last last = subst (λ (at : Place). at.number ≡ length (keys_at q.grove at.canvas)) (sym F.box.place) (last ∙ sym (room_last p q S place.canvas))

  -- the box came in, and the box around has the port that it is
  pub puts_port : (r : Patch) (names table : Names) (key : ℕ) → names ≡ table → CanPut p → Meet p.web → IsLeaf s
      → IsPortPut q r names room.own.place room.own.seed key room.holder room.side → PutsPortAt p r table place s key
  puts_port r names table key same can meet leaf I = record {
    holder = room.holder;
    side = room.side;
    at = port_at;
    ready = q;
    room = S;
    could = could can meet leaf;
    put = subst (λ (t : Names). IsPortPut q r t place s key room.holder room.side) same
        (subst (λ (at : Place). IsPortPut q r names at s key room.holder room.side) F.box.place
        (subst (λ (x : Seed). IsPortPut q r names room.own.place x key room.holder room.side) F.box.seed I));
  }

-- `$0` of the patch stays
pub port_zero : (p q : Patch) (table : Names) (place : Place) (s : Seed) (key holder : ℕ) (side : Side) → IsPortPut p q table place s key holder side → own_zero q ≡ own_zero p
port_zero p q table place s key holder side I = ap (λ (g : Grove). zero_in (get g.boards g.root)) I.rest.grove ∙ more_zero p I.ready table place s key I.comes
