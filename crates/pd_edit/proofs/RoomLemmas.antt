-- A wire that came into a patch with more room, told of the patch as it was.
use Rattle.std.proofs.Common.{arith, ◌≡◌, ◌+◌, ℕ, List, length, refl, sym, ap, ◌∙◌, subst}
use Rattle.std.specs.Prelude.{Option, Some}
use Rattle.std.specs.List.{insert}
use Rattle.std.proofs.lemmas.List.{length-map}
use Rattle.slab.specs.Slab.{get}
use Rattle.pd_order.specs.Listing.{Listing}
use Rattle.pd_grove.specs.declared.grove.Grove.{Grove}
use Rattle.pd_grove.specs.Owning.{board_in}
use Rattle.pd_web.specs.declared.lines.Line.{Line}
use Rattle.pd_web.specs.declared.web.Hop.{Hop}
use Rattle.pd_web.specs.declared.web.Web.{Web}
use Rattle.pd_web.specs.Changes.{hop_at, IsSame, KeepsRoom, Joins}
use Rattle.pd_web.specs.Hops.{fan_keys, feed_hops, hop_to}
use Rattle.pd_seek.specs.Places.{IsPlace}
use Rattle.pd_patch.specs.declared.patch.Patch.{Patch}
use Rattle.pd_patch.specs.Telling.{order_in}
use Rattle.pd_wiring.specs.Changes.{CanRewire, SameButRoom, SamePlaces, StaysButWire, StaysBuilt}
use Rattle.pd_wiring.specs.Plans.{Attached}

fan_length : (w m : Web) (k o : ℕ) → IsSame w m → length (fan_keys m k o) ≡ length (fan_keys w k o)
fan_length w m k o S =
    let a = length-map (fan_keys w k o) (hop_to w) in
    let b = length-map (fan_keys m k o) (hop_to m) in
    let e = ap (λ (hs : List Hop). length hs) (S.fans k o) in omega (arith, a, b, e)

-- a wire joined after room was made is one joined to the web as it was
pub joins_same : (w m v : Web) (key : ℕ) (l : Line) (fan feed : ℕ) → IsSame w m → KeepsRoom w m → Joins m v key l fan feed → Joins w v key l fan feed
joins_same w m v key l fan feed S R J = record {
  was_vacant = sym (S.lines key) ∙ J.was_vacant;
  line = J.line;
  other_lines = λ k differ. J.other_lines k differ ∙ S.lines k;
  fan = J.fan ∙ ap (λ (hs : List Hop). insert hs fan (hop_at key l.sink l.inlet)) (S.fans l.source l.outlet);
  other_fans = λ node outlet differ. J.other_fans node outlet differ ∙ S.fans node outlet;
  feeds = J.feeds ∙ ap (λ (hs : List Hop). insert hs feed (hop_at key l.source l.outlet)) (S.feeds l.sink l.inlet);
  other_feeds = λ node inlet differ. J.other_feeds node inlet differ ∙ S.feeds node inlet;
  kept = record {
    ports = λ side k. J.kept.ports side k ∙ S.kept.ports side k;
    made = λ k. J.kept.made k ∙ S.kept.made k;
    homes = λ j. J.kept.homes j ∙ S.kept.homes j;
  };
  room = λ k p n h. J.room k p n (R k (p + 2) (n + 1) h);
}

-- what stayed where the wire came stayed from before on
stays_same : (p m q : Patch) (source : ℕ) → SameButRoom p m → StaysButWire m q source → StaysButWire p q source
stays_same p m q source S T = record {
  grove = T.grove ∙ S.grove;
  names = T.names ∙ S.names;
  timers = T.timers ∙ S.timers;
  numbers = T.numbers ∙ S.numbers;
  values = T.values ∙ S.values;
  rate = T.rate ∙ S.rate;
  present = T.present ∙ S.present;
  orders = λ c differ. T.orders c (λ e. differ (subst (λ (g : Grove). board_in (get g.nodes source) ≡ Some c) S.grove e)) ∙ rw S.orders refl;
  places = λ c. subst (λ (os : List (Option Listing)). SamePlaces (order_in os c) (order_in q.orders.items c)) (ap (λ v. v.items) S.orders) (T.places c);
}

pub attached_same : (p m q : Patch) (l : Line) (key place : ℕ) → SameButRoom p m → KeepsRoom p.web m.web → StaysBuilt p m → IsPlace m.numbers.items l (feed_hops m.web l.sink l.inlet) place
    → Joins m.web q.web key l (length (fan_keys m.web l.source l.outlet)) place → StaysButWire m q l.source → CanRewire q → StaysBuilt m q → Attached p q l
attached_same p m q l key place S R B at J T can built = record {
  key = key;
  place = place;
  is_place = subst (λ (ns : List ℕ). IsPlace ns l (feed_hops p.web l.sink l.inlet) place) (numbers_same S.numbers) (subst (λ (hs : List Hop). IsPlace m.numbers.items l hs place) (S.web.feeds l.sink l.inlet) at);
  joins = joins_same p.web m.web q.web key l (length (fan_keys p.web l.source l.outlet)) place S.web R
      (subst (λ (n : ℕ). Joins m.web q.web key l n place) (fan_length p.web m.web l.source l.outlet S.web) J);
  rest = stays_same p m q l.source S T;
  rewires = can;
  built = λ names file rate b. built names file rate (B names file rate b);
} where
  numbers_same : m.numbers ≡ p.numbers → m.numbers.items ≡ p.numbers.items
  numbers_same e = rw e refl
