-- A port box that an edit names comes into its canvas, and then the box around has the port that it is.
use Rattle.std.proofs.Common.{◌≡◌, ◌≤◌, ℕ, List, length, Some, sym, ◌∙◌, subst}
use Rattle.slab.specs.Slab.{get}
use Rattle.pd_grove.specs.declared.grove.Grove.{Grove}
use Rattle.pd_grove.specs.declared.ports.Side.{Side}
use Rattle.pd_grove.specs.OwnPaths.{sub_reached}
use Rattle.pd_grove.specs.Telling.{inner_in}
use Rattle.pd_web.specs.declared.jacks.Jack.{Jack}
use Rattle.pd_web.specs.Canvases.{keys_at}
use Rattle.pd_ports.specs.Known.{KnowsHomes}
use Rattle.pd_patch.specs.declared.patch.Patch.{Patch}
use Rattle.pd_patch.specs.Linked.{StayInside}
use Rattle.pd_boxes.specs.declared.room.Place.{Place}
use Rattle.pd_boxes.specs.Put.{node_of, keys_before, keys_behind, CanPut}
use Rattle.pd_boxes.proofs.WireLemmas.{inside_still}
use Rattle.pd_reload_law.specs.Wires.{AreNumbered}
use Rattle.pd_putting_law.proofs.PathLemmas.{Forest}
use Rattle.pd_adding.specs.Growing.{Added}
use Rattle.pd_following.specs.Ports.{port_jack}
use Rattle.pd_following.specs.Raising.{IsOneMore}
use Rattle.pd_following.proofs.ComeLemmas.{hold_alone, ready_holds, ready_one_more}
use Rattle.pd_following_law.specs.Raised.{StandsAt}
use Rattle.pd_putting.specs.Adds.{place_at, IsPortBoxPutAt}
use Rattle.pd_put_law.proofs.HomeLemmas.{had_known}
use Rattle.pd_put_law.proofs.AloneLemmas.{ComesAlone, as_whole, leaf_alone}
use Rattle.pd_put_law.proofs.InsideLemmas.{leads_still}
use Rattle.pd_put_law.proofs.AroundLemmas.{HasFollowed, holder_stands}

module _ (old new : Patch) (number now : ℕ) (a : Added) (path : List ℕ) (key : ℕ) (can : CanPut old) (leads : sub_reached old.grove (Some old.grove.root) path ≡ Some a.canvas)
    (within : number ≤ length (keys_at old.grove a.canvas)) (P : IsPortBoxPutAt old new number now a key) where
  -- the patch with the box, before the box around has its port
  abbrev done : Patch
  done = P.put.ready

  abbrev place : Place
  place = place_at a.canvas number

  abbrev holder : ℕ
  holder = P.port.holder

  abbrev side : Side
  side = P.port.side

  abbrev jack : Jack
  jack = port_jack side P.seed.row.kind key

  known : KnowsHomes P.ready.web
  known =
      let runs = P.could.can.runs in
      had_known P.ready.grove P.ready.web runs.ports.ports runs.own (hold_alone P.ready place P.seed holder side P.could) runs.ports.homes runs.ports.homes_found

  forest : Forest done.grove
  forest = subst (λ (g : Grove). Forest g) P.put.rest.grove P.goes_on.forest

  numbered : (c : ℕ) → AreNumbered done.numbers.items (keys_at done.grove c)
  numbered c =
      subst (λ (g : Grove). AreNumbered done.numbers.items (keys_at g c)) P.put.rest.grove
      (subst (λ ns. AreNumbered ns.items (keys_at new.grove c)) P.put.rest.numbers (P.goes_on.runs.numbers c))

  pub port_alone : ComesAlone P.ready done path a.canvas key number
  port_alone = leaf_alone old P.ready done a.known.names path a.canvas key number P.seed P.room can forest numbered leads within P.put.comes

  inside : StayInside done.grove done.web
  inside =
      inside_still P.ready.grove done.grove a.canvas key (node_of a.canvas P.seed) (keys_before P.ready place) (keys_behind P.ready place) P.put.comes.grove P.could.can.runs.own
      P.ready.web done.web P.could.can.runs.inside P.put.comes.ports.fans

  more : IsOneMore done.web new.grove holder side P.put.number jack
  more =
      let one = ready_one_more P.ready done a.known.names place P.seed key holder side P.could P.put.comes known in
      record { within = P.put.raises.within; ports = sym P.put.follows.ports ∙ P.put.raises.ports; boxes = one.boxes; apart = one.apart }

  leads_done : sub_reached done.grove (Some done.grove.root) path ≡ Some a.canvas
  leads_done = leads_still P.ready done path a.canvas key number (as_whole P.ready done path a.canvas key number port_alone)

  holds : inner_in (get done.grove.nodes holder) ≡ Some a.canvas
  holds = ready_holds P.ready done a.known.names place P.seed key holder side P.could P.put.comes known

  around : (way : List ℕ) × (n : ℕ) × StandsAt done.grove way n holder
  around = holder_stands done.grove forest path a.canvas holder leads_done holds

  pub port_followed : HasFollowed done new holder side P.put.number jack
  port_followed = record {
    grove = P.put.rest.grove;
    numbers = P.put.rest.numbers;
    forest = forest;
    inside = inside;
    numbered = numbered;
    raises = P.put.raises;
    more = more;
    follows = P.put.follows;
    meet = P.put.meet;
    path = around.0;
    number = around.1;
    stands = around.2;
  }
