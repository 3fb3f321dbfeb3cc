-- Room that was set aside.
use Rattle.std.proofs.Common.{◌≡◌, ℕ, ◌+◌, ◌*◌, ◌≤◌, length, IsSome, refl, ap, ◌∙◌, arith}
use Rattle.slab.specs.Slab.{get}
use Rattle.pd_grove.specs.declared.grove.Grove.{Grove}
use Rattle.pd_grove.specs.declared.ports.Side.{Side}
use Rattle.pd_grove.specs.Forest.{holder_in}
use Rattle.pd_web.specs.declared.web.Web.{Web}
use Rattle.pd_web.specs.Changes.{HasRoom, IsSame}
use Rattle.pd_web.specs.Hops.{fan_hops}
use Rattle.pd_patch.specs.declared.patch.Patch.{Patch}
use Rattle.pd_patch.proofs.BlockLemmas.{live_below}
use Rattle.pd_wiring.specs.Changes.{SameButRoom}
use Rattle.pd_wiring.proofs.BuiltLemmas.{roomed}
use Rattle.pd_boxes.proofs.AskingLemmas.{put_rewired}
use Rattle.pd_following.proofs.ReserveLemmas.{meet_same}
use Rattle.pd_sliding.specs.Sliding.{CanSlide}

-- where the web has room for so many keys, it has room for the boxes of the grove
pub room_near : (g : Grove) (w : Web) (keys : ℕ) → length g.nodes.slots ≤ keys → HasRoom w keys 0 0 → (k : ℕ) → IsSome (get g.nodes k) → HasRoom w (k + 1) 0 0
room_near g w keys all r k live =
    let low = live_below g.nodes k keys keys all refl live in
    record { boxes = (let x = r.boxes in omega (arith, x, low)); homes = (let x = r.homes in omega (arith, x, low)); ends = omega arith; wires = omega arith }

-- room for the wires of an outlet, of which each takes two ends
pub fan_fits : (p v w : Web) (node port n capacity : ℕ) → IsSame p v → IsSame v w → n ≡ length (fan_hops p node port) → n ≤ capacity → length (fan_hops w node port) ≤ capacity
fan_fits p v w node port n capacity a b is low = let e = ap length (b.fans node port ∙ a.fans node port) in omega (arith, e, is, low)

pub fan_ends : (p v w : Web) (node port n ends : ℕ) → IsSame p v → IsSame v w → n ≡ length (fan_hops p node port) → ends ≡ n + n → HasRoom w 0 ends 0 → HasRoom w 0 (2 * length (fan_hops w node port)) 0
fan_ends p v w node port n ends a b is twice r =
    let e = ap length (b.fans node port ∙ a.fans node port) in
    record { boxes = r.boxes; homes = r.homes; ends = (let x = r.ends in omega (arith, x, e, is, twice)); wires = r.wires }

-- port boxes can move as they could
pub still_slides : (p q : Patch) (key holder : ℕ) (side : Side) (from : ℕ) → SameButRoom p q → CanSlide p key holder side from → CanSlide q key holder side from
still_slides p q key holder side from S C = record {
  can = put_rewired p q S.grove (roomed p q S C.can.runs) C.can;
  meet = meet_same p.web q.web S.web C.meet;
  node = C.node;
  stands = ap (λ (g : Grove). get g.nodes key) S.grove ∙ C.stands;
  place = C.place;
  canvas = C.canvas;
  at = record { held = ap (λ (g : Grove). holder_in (get g.boards C.place.canvas)) S.grove ∙ C.at.held; port = C.at.port };
  numbered = S.web.kept.homes key ∙ C.numbered;
}
