-- What stays where room is set aside and where a box comes: canvases, ports of boxes around, `$0` and the number of wires.
use Rattle.std.proofs.Common.{◌≡◌, ◌≢◌, ℕ, Bool, is_some, List, [], Option, Some, None, inl, inr, refl, sym, ap, ◌∙◌, subst, length, arith}
use Rattle.std.specs.Prelude.{IsSome, option_map, slice_index_or}
use mathlib.Core.Logic.{⊎_elim}
use Rattle.std.proofs.lemmas.Bool.{cases_eq}
use Rattle.std.proofs.lemmas.Option.{none-some, same_Some}
use Rattle.slab.specs.Slab.{get}
use Rattle.pd_atom.specs.Names.{Names}
use Rattle.pd_object.specs.declared.kinds.Kind.{Kind}
use Rattle.pd_order.specs.Listing.{Listing}
use Rattle.pd_grove.specs.declared.boards.Board.{Board}
use Rattle.pd_grove.specs.declared.grove.Grove.{Grove}
use Rattle.pd_grove.proofs.UseLemmas.{not_both}
use Rattle.pd_grove.specs.declared.ports.Side.{Side}
use Rattle.pd_grove.specs.declared.seeds.Seed.{Seed}
use Rattle.pd_grove.specs.Forest.{holder_in, IsForest}
use Rattle.pd_grove.specs.Grafts.{HasOtherKeys}
use Rattle.pd_grove.specs.Ports.{port_signal}
use Rattle.pd_grove.specs.Standing.{BoardSeen, board_seen, depth_of}
use Rattle.pd_tree.specs.declared.rows.Sheet.{Sheet}
use Rattle.pd_web.specs.declared.jacks.Jack.{Jack}
use Rattle.pd_web.specs.declared.web.Web.{Web}
use Rattle.pd_web.specs.Canvases.{keys_at}
use Rattle.pd_web.specs.Changes.{line_told, wires_told, Meet}
use Rattle.pd_web.proofs.CountLemmas.{held_alike, holds, same_are_as_many}
use Rattle.pd_ports.specs.Boxes.{HasPorts}
use Rattle.pd_patch.specs.declared.patch.Patch.{Patch}
use Rattle.pd_patch.specs.Orders.{HasOrder}
use Rattle.pd_patch.specs.Telling.{order_in}
use Rattle.pd_patch.specs.Values.{blocks_told}
use Rattle.pd_boxes.specs.declared.room.Place.{Place}
use Rattle.pd_boxes.specs.declared.room.Room.{Room}
use Rattle.pd_wiring.proofs.BuiltLemmas.{same_links}
use Rattle.pd_boxes.specs.Room.{SameButRoom, IsFor}
use Rattle.pd_boxes.specs.Put.{CanPut, ComesIn, IsPut, IsNoPort}
use Rattle.pd_boxes.proofs.ReserveLemmas.{same_grove, same_web, same_order, longer_self}
use Rattle.pd_boxes.proofs.RoomLemmas.{keys_same}
use Rattle.pd_following.proofs.ReserveLemmas.{meet_same, holder_same}
use Rattle.pd_subpatches.specs.Shell.{ShellComesIn}
use Rattle.pd_adding.specs.Coming.{zero_in, own_zero}
use Rattle.pd_putting.specs.Places.{PutsAt}

-- a patch is as it was
pub same_patch : (p : Patch) → SameButRoom p p
same_patch p = record {
  grove = same_grove p.grove;
  web = same_web p.web;
  names = λ class name. refl;
  links = same_links p.links;
  orders = λ c. same_order (order_in p.orders.items c);
  numbers = longer_self 0 p.numbers.items;
  values = longer_self [] (blocks_told p);
  clocks = refl;
  end = omega arith;
  rate = refl;
  present = refl;
}

-- ---- canvases with more room

live_seen : (o o' : Option Board) → option_map board_seen o' ≡ option_map board_seen o → IsSome o → IsSome o'
live_seen None None e h = h
live_seen (Some b) None e h = absurd (none-some (board_seen b) e)
live_seen None (Some b') e h = refl
live_seen (Some b) (Some b') e h = refl

zero_seen : (o o' : Option Board) → option_map board_seen o' ≡ option_map board_seen o → zero_in o' ≡ zero_in o
zero_seen None None e = refl
zero_seen None (Some b') e = absurd (none-some (board_seen b') (sym e))
zero_seen (Some b) None e = absurd (none-some (board_seen b) e)
zero_seen (Some b) (Some b') e = ap (λ (s : BoardSeen). s.sheet.zero) (same_Some (board_seen b') (board_seen b) e)

depth_seen : (o o' : Option Board) → option_map board_seen o' ≡ option_map board_seen o → depth_of o' ≡ depth_of o
depth_seen None None e = refl
depth_seen None (Some b') e = absurd (none-some (board_seen b') (sym e))
depth_seen (Some b) None e = absurd (none-some (board_seen b) e)
depth_seen (Some b) (Some b') e = ap (λ (s : BoardSeen). s.depth) (same_Some (board_seen b') (board_seen b) e)

module _ (p q : Patch) (S : SameButRoom p q) where
  pub room_depth : (c : ℕ) → depth_of (get q.grove.boards c) ≡ depth_of (get p.grove.boards c)
  room_depth c = depth_seen (get p.grove.boards c) (get q.grove.boards c) (S.grove.boards c)

  pub room_lives : (c : ℕ) → IsSome (get p.grove.boards c) → IsSome (get q.grove.boards c)
  room_lives c h = live_seen (get p.grove.boards c) (get q.grove.boards c) (S.grove.boards c) h

  pub room_zero : own_zero q ≡ own_zero p
  room_zero = ap (λ (r : ℕ). zero_in (get q.grove.boards r)) S.grove.root ∙ zero_seen (get p.grove.boards p.grove.root) (get q.grove.boards p.grove.root) (S.grove.boards p.grove.root)

  pub room_wires : wires_told q.web ≡ wires_told p.web
  room_wires = same_are_as_many p.web q.web S.web

  pub room_meets : Meet p.web → Meet q.web
  room_meets meet = meet_same p.web q.web S.web meet

  pub room_last : (c : ℕ) → length (keys_at q.grove c) ≡ length (keys_at p.grove c)
  room_last c = ap (λ (ks : List ℕ). length ks) (keys_same p.grove q.grove S.grove c)

  pub room_no_port : (at : Place) (k : Kind) → IsNoPort p at k → IsNoPort q at k
  room_no_port at k h = ⊎_elim
      (λ (a : holder_in (get p.grove.boards at.canvas) ≡ None). inl (holder_same (get p.grove.boards at.canvas) (get q.grove.boards at.canvas) (S.grove.boards at.canvas) ∙ a))
      (λ (b : (side : Side) → port_signal side k ≡ None). inr b) h

-- a canvas that lives has its order
order_lives : (g : Grove) (w : Web) (o : Option Board) (x : Option Listing) → HasOrder g w o x → IsSome o → IsSome x
order_lives g w None x h s = cc
order_lives g w (Some b) None h s = absurd h
order_lives g w (Some b) (Some x) h s = refl

pub is_ordered : (p : Patch) (c : ℕ) → CanPut p → IsSome (get p.grove.boards c) → IsSome (order_in p.orders.items c)
is_ordered p c P lives = order_lives p.grove p.web (get p.grove.boards c) (order_in p.orders.items c) (P.runs.orders c) lives

-- ---- a box that came

zero_of_board : (o : Option Board) (b : Board) → o ≡ Some b → zero_in o ≡ b.sheet.zero
zero_of_board o b e = ap zero_in e

zero_more : (boards boards' : ℕ → Option Board) (c : ℕ) (ks ks' : List ℕ) → HasOtherKeys boards boards' c ks ks' → (x : ℕ) → zero_in (boards' x) ≡ zero_in (boards x)
zero_more boards boards' c ks ks' K x = ⊎_elim
    (λ (e : x ≡ c). subst (λ (y : ℕ). zero_in (boards' y) ≡ zero_in (boards y)) (sym e)
    (zero_of_board (boards' c) K.after K.is ∙ ap (λ (s : Sheet). s.zero) K.sheet ∙ sym (zero_of_board (boards c) K.before K.was)))
    (λ (f : x ≢ c). ap zero_in (K.others x f)) (cases_eq x c)

mapped_some : {X Y : Type 0} (f : X → Y) (o : Option X) → is_some (option_map f o) ≡ is_some o
mapped_some f None = refl
mapped_some f (Some x) = refl

told_holds : (w : Web) (k : ℕ) → is_some (line_told w k) ≡ holds w.book.wires k
told_holds w k = mapped_some _ (slice_index_or w.book.wires k None)

wires_stay : (w v : Web) (key : ℕ) (jacks : Side → List Jack) (is_made : Bool) → HasPorts w v key jacks is_made → wires_told v ≡ wires_told w
wires_stay w v key jacks is_made H = held_alike w.book.wires v.book.wires (λ j. sym (told_holds v j) ∙ ap is_some (H.lines j) ∙ told_holds w j)

module _ (p q : Patch) (table : Names) (place : Place) (s : Seed) (key : ℕ) (I : ComesIn p q table place s key) where
  pub more_zero : own_zero q ≡ own_zero p
  more_zero = ap (λ (r : ℕ). zero_in (get q.grove.boards r)) I.root ∙ zero_more (get p.grove.boards) (get q.grove.boards) place.canvas _ _ I.grove.keys p.grove.root

  pub more_wires : wires_told q.web ≡ wires_told p.web
  more_wires = wires_stay p.web q.web key _ _ I.ports

-- ---- a box that came with an empty canvas inside

module _ (p q : Patch) (table : Names) (place : Place) (s : Seed) (key : ℕ) (I : ShellComesIn p q table place s key) where
  root_other : IsForest (get p.grove.nodes) (get p.grove.boards) p.grove.root → p.grove.root ≢ I.canvas
  root_other F e = ⊎_elim
      (λ (f : I.canvas ≡ place.canvas). none-some I.grove.box.keys.after (sym I.grove.canvas.vacant ∙ ap I.grove.boards_between f ∙ I.grove.box.keys.is))
      (λ (d : I.canvas ≢ place.canvas). not_both (get p.grove.boards p.grove.root) (ap (get p.grove.boards) e ∙ sym (I.grove.box.keys.others I.canvas d) ∙ I.grove.canvas.vacant) F.rooted.0)
      (cases_eq I.canvas place.canvas)

  pub shell_zero : CanPut p → own_zero q ≡ own_zero p
  shell_zero P =
      ap (λ (r : ℕ). zero_in (get q.grove.boards r)) I.root
      ∙ ap zero_in (I.grove.canvas.stay p.grove.root (root_other P.forest))
      ∙ zero_more (get p.grove.boards) I.grove.boards_between place.canvas _ _ I.grove.box.keys p.grove.root

  pub shell_wires : wires_told q.web ≡ wires_told p.web
  shell_wires = wires_stay p.web q.web key _ _ I.ports

-- ---- both

-- a box came in where room was set aside for it
pub puts_at : (p q r : Patch) (names table : Names) (key : ℕ) (room : Room) (at : Place) (s : Seed) → SameButRoom p q → names ≡ table → IsFor room at s
    → IsPut q r names room.place room.seed key → PutsAt p r table at s key
puts_at p q r names table key room at s S e F I = record {
  ready = q;
  room = S;
  put = subst (λ (t : Names). IsPut q r t at s key) e
      (subst (λ (x : Place). IsPut q r names x s key) F.place (subst (λ (x : Seed). IsPut q r names room.place x key) F.seed I));
}
