-- What stays where room is set aside for a port box, and that the box around takes no more.
use Rattle.std.proofs.Common.{◌≡◌, ℕ, zero, suc, ◌<◌, ◌≤◌, Bool, true, false, ◌||◌, List, [], ◌∷◌, length, slice_get, Option, Some, None, refl, sym, ap, ◌∙◌, arith}
use Rattle.std.specs.Prelude.{option_map}
use Rattle.std.specs.List.{list_any}
use Rattle.std.proofs.lemmas.Option.{none-some, same_Some}
use Rattle.slab.specs.Slab.{get}
use Rattle.pd_grove.specs.declared.boards.Board.{Board}
use Rattle.pd_grove.specs.declared.seeds.Seed.{Seed}
use Rattle.pd_grove.specs.declared.ports.Side.{Side}
use Rattle.pd_grove.specs.Forest.{holder_in}
use Rattle.pd_grove.specs.Standing.{BoardSeen, board_seen}
use Rattle.pd_web.specs.declared.jacks.Jack.{Jack}
use Rattle.pd_web.specs.declared.web.Hop.{Hop}
use Rattle.pd_web.specs.declared.web.Web.{Web}
use Rattle.pd_web.specs.Changes.{IsSame, Meet}
use Rattle.pd_web.specs.Hops.{signal_in}
use Rattle.pd_patch.specs.declared.patch.Patch.{Patch}
use Rattle.pd_patch.specs.Telling.{order_in}
use Rattle.pd_patch.specs.Values.{blocks_told}
use Rattle.pd_wiring.proofs.BuiltLemmas.{same_links}
use Rattle.pd_boxes.specs.declared.room.Place.{Place}
use Rattle.pd_boxes.specs.Room.{SameButRoom}
use Rattle.pd_boxes.proofs.ReserveLemmas.{same_grove, same_order, longer_self}
use Rattle.pd_boxes.proofs.RoomLemmas.{room_put}
use Rattle.pd_following.specs.Ports.{CanPutPort}

-- the web alone has other room
pub room_web : (p : Patch) (w : Web) → IsSame p.web w → SameButRoom p (record p { web = w })
room_web p w S = record {
  grove = same_grove p.grove;
  web = S;
  names = λ class name. refl;
  links = same_links p.links;
  orders = λ d. same_order (order_in p.orders.items d);
  numbers = longer_self 0 p.numbers.items;
  values = longer_self [] (blocks_told p);
  clocks = refl;
  end = omega arith;
  rate = refl;
  present = refl;
}

-- and then more is set aside
pub room_after : (p q : Patch) (w : Web) → IsSame p.web w → SameButRoom (record p { web = w }) q → SameButRoom p q
room_after p q w S R = record {
  grove = R.grove;
  web = record {
    kept = record {
      ports = λ side k. R.web.kept.ports side k ∙ S.kept.ports side k;
      made = λ k. R.web.kept.made k ∙ S.kept.made k;
      homes = λ j. R.web.kept.homes j ∙ S.kept.homes j;
    };
    lines = λ k. R.web.lines k ∙ S.lines k;
    fans = λ n o. R.web.fans n o ∙ S.fans n o;
    feeds = λ n i. R.web.feeds n i ∙ S.feeds n i;
  };
  names = R.names;
  links = R.links;
  orders = R.orders;
  numbers = R.numbers;
  values = R.values;
  clocks = R.clocks;
  end = R.end;
  rate = R.rate;
  present = R.present;
}

pub holder_same : (old new : Option Board) → option_map board_seen new ≡ option_map board_seen old → holder_in new ≡ holder_in old
holder_same None None e = refl
holder_same None (Some b) e = absurd (none-some (board_seen b) (sym e))
holder_same (Some b) None e = absurd (none-some (board_seen b) e)
holder_same (Some b) (Some c) e = ap (λ (s : BoardSeen). s.holder) (same_Some (board_seen c) (board_seen b) e)

pub meet_same : (w w' : Web) → IsSame w w' → Meet w → Meet w'
meet_same w w' S M = record {
  fed = λ node outlet i h x.
      let m = M.fed node outlet i h (ap (λ (hops : List Hop). slice_get hops i) (sym (S.fans node outlet)) ∙ x) in
      (m.0, ap (λ (hops : List Hop). slice_get hops m.0) (S.feeds h.node h.port) ∙ m.1);
  fanned = λ node inlet i h x.
      let m = M.fanned node inlet i h (ap (λ (hops : List Hop). slice_get hops i) (sym (S.feeds node inlet)) ∙ x) in
      (m.0, ap (λ (hops : List Hop). slice_get hops m.0) (S.fans h.node h.port) ∙ m.1);
}

-- where room was set aside, port boxes can come as they could
pub room_port : (p q : Patch) (place : Place) (s : Seed) (holder : ℕ) (side : Side) → SameButRoom p q → CanPutPort p place s holder side → CanPutPort q place s holder side
room_port p q place s holder side S P = record {
  can = room_put p q S P.can;
  meet = meet_same p.web q.web S.web P.meet;
  leaf = P.leaf;
  at = record {
    held = holder_same (get p.grove.boards place.canvas) (get q.grove.boards place.canvas) (S.grove.boards place.canvas) ∙ P.at.held;
    port = P.at.port;
  };
}

pub some_signal : (js : List Jack) (i : ℕ) → signal_in (slice_get js i) ≡ true → list_any (λ j. j.is_signal) js ≡ true
some_signal [] i h = cc
some_signal (j ∷ js) zero h = ap (λ (b : Bool). b || list_any (λ (x : Jack). x.is_signal) js) h
some_signal (j ∷ js) (suc i) h = ap (λ (b : Bool). j.is_signal || b) (some_signal js i h) ∙ or_true j.is_signal
  where
    or_true : (b : Bool) → (b || true) ≡ true
    or_true true = refl
    or_true false = refl

pub no_signal : (js : List Jack) (n : ℕ) → length js ≤ n → ((i : ℕ) → i < n → signal_in (slice_get js i) ≡ false) → list_any (λ j. j.is_signal) js ≡ false
no_signal [] n l h = refl
no_signal (j ∷ js) zero l h = absurd (omega (arith, l))
no_signal (j ∷ js) (suc n) l h =
    ap (λ b. b || list_any (λ (x : Jack). x.is_signal) js) (h zero (omega arith)) ∙ no_signal js n (omega (arith, l)) (λ i less. h (suc i) (omega (arith, less)))
