-- Room was set aside in a web: the wires at a port are those that were told before.
use Rattle.std.proofs.Common.{◌≡◌, ℕ, ◌+◌, ◌≤◌, List, map, length, slice_get, IsSome, refl, sym, ap, ◌∙◌, arith}
use Rattle.slab.specs.Slab.{get}
use Rattle.pd_grove.specs.declared.grove.Grove.{Grove}
use Rattle.pd_grove.specs.declared.ports.Side.{Side}
use Rattle.pd_grove.specs.declared.ports.Side.TheVariants.{Inlets, Outlets}
use Rattle.pd_web.specs.declared.web.Hop.{Hop}
use Rattle.pd_web.specs.declared.web.Web.{Web}
use Rattle.pd_web.specs.Changes.{HasRoom, IsSame}
use Rattle.pd_patch.specs.declared.patch.Patch.{Patch}
use Rattle.pd_patch.proofs.BlockLemmas.{live_below}
use Rattle.pd_wiring.specs.Changes.{SameButRoom}
use Rattle.pd_wiring.proofs.BuiltLemmas.{same_links}
use Rattle.pd_taking.specs.Loosening.{hops_at}
use Rattle.pd_misfits.specs.declared.wires.BoxWire.{BoxWire}
use Rattle.pd_misfits.specs.Shedding.{AreWiresAt}
use Rattle.pd_leaving.specs.Wires.{wire_at}

-- the web alone has other room
pub reserved : (p : Patch) (w : Web) → IsSame p.web w → SameButRoom p (record p { web = w })
reserved p w same = record {
  grove = refl;
  web = same;
  links = same_links p.links;
  names = refl;
  timers = refl;
  orders = refl;
  numbers = refl;
  values = refl;
  rate = refl;
  present = refl;
}

module _ (w v : Web) (S : IsSame w v) where
  same_hops : (side : Side) (node port : ℕ) → hops_at v side node port ≡ hops_at w side node port
  same_hops Inlets node port = S.feeds node port
  same_hops Outlets node port = S.fans node port

  pub wires_still : (numbers : List ℕ) (side : Side) (node port : ℕ) (ms : List BoxWire) → ms ≡ map (wire_at numbers side node port) (hops_at w side node port)
      → ms ≡ map (wire_at numbers side node port) (hops_at v side node port)
  wires_still numbers side node port ms told = told ∙ ap (map (wire_at numbers side node port)) (sym (same_hops side node port))

  pub still_at : (box : ℕ) (ms : List BoxWire) → AreWiresAt w box ms → AreWiresAt v box ms
  still_at box ms A = record {
    along = λ i m e. let x = A.along i m e in record { place = x.place; stands = ap (λ (hs : List Hop). slice_get hs x.place) (S.fans m.line.source m.line.outlet) ∙ x.stands };
    at = A.at;
    once = A.once;
  }

-- where the web has room for so many keys, it has room for the boxes of the grove
pub room_near : (g : Grove) (w : Web) (keys : ℕ) → length g.nodes.slots ≤ keys → HasRoom w keys 0 0 → (k : ℕ) → IsSome (get g.nodes k) → HasRoom w (k + 1) 0 0
room_near g w keys all r k live =
    let low = live_below g.nodes k keys keys all refl live in
    record { boxes = (let x = r.boxes in omega (arith, x, low)); homes = (let x = r.homes in omega (arith, x, low)); ends = omega arith; wires = omega arith }
