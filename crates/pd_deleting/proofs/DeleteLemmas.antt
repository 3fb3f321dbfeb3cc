-- A patch with room for a box that goes, and which box that is.
use Rattle.std.proofs.Common.{◌≡◌, ℕ, ◌+◌, List, [], ◌∷◌, ◌++◌, length, map, slice_get, Option, Some, None, IsSome, IsTrue, refl, sym, ap, ◌∙◌, subst, ◌≤◌, arith}
use Rattle.std.specs.Prelude.{◌⊎◌, Result, Ok, Err}
use Rattle.std.proofs.lemmas.List.{length-map}
use Rattle.std.proofs.lemmas.Option.{none-some, same_Some}
use Rattle.slab.specs.Slab.{get}
use Rattle.pd_clock.specs.declared.times.Rate.{Rate}
use Rattle.pd_atom.specs.Names.{Names}
use Rattle.pd_grove.specs.declared.grove.Grove.{Grove}
use Rattle.pd_grove.specs.declared.nodes.Node.{Node}
use Rattle.pd_grove.specs.declared.spots.Spot.{Spot}
use Rattle.pd_grove.specs.declared.ports.Side.{Side}
use Rattle.pd_grove.specs.Forest.{holder_in, IsForest}
use Rattle.pd_grove.specs.OwnPaths.{sub_reached}
use Rattle.pd_grove.specs.Owning.{board_in}
use Rattle.pd_grove.specs.Ports.{port_signal}
use Rattle.pd_grove.specs.TextOrder.{cell_under, keys_of_spots}
use Rattle.pd_web.specs.declared.web.Hop.{Hop}
use Rattle.pd_web.specs.declared.web.Web.{Web}
use Rattle.pd_web.specs.Canvases.{keys_at}
use Rattle.pd_web.specs.Changes.{hop_at, HasRoom, IsListed, IsSame, Meet, wires_told}
use Rattle.pd_web.proofs.CountLemmas.{same_are_as_many}
use Rattle.pd_patch.specs.declared.patch.Patch.{Patch}
use Rattle.pd_patch.proofs.BlockLemmas.{live_below}
use Rattle.pd_wiring.specs.declared.refusals.EditRefusal.{EditRefusal}
use Rattle.pd_wiring.specs.Changes.{SameButRoom}
use Rattle.pd_wiring.proofs.BuiltLemmas.{roomed, same_links}
use Rattle.pd_owning.specs.Bound.{is_among}
use Rattle.pd_owning.specs.Parts.{ArePart}
use Rattle.pd_boxes.specs.Put.{CanPut}
use Rattle.pd_boxes.proofs.AskingLemmas.{put_rewired}
use Rattle.pd_adding.specs.declared.counts.Counts.{Counts}
use Rattle.pd_adding.specs.Counted.{sound_seen, sound_among, with_wires}
use Rattle.pd_adding.specs.Counts.{counts_less, AreWithin}
use Rattle.pd_boxes.specs.declared.room.Place.{Place}
use Rattle.pd_clearing.specs.Clearing.{CanClear, IsCleared}
use Rattle.pd_clearing.proofs.PartLemmas.{part_live}
use Rattle.pd_deleting.specs.Deletes.{going, going_box, going_in, values_of}

-- Room.

pub reserved : (p : Patch) (w : Web) → IsSame p.web w → SameButRoom p (record p { web = w })
reserved p w same = record {
  grove = refl;
  web = same;
  links = same_links p.links;
  names = refl;
  timers = refl;
  orders = refl;
  numbers = refl;
  values = refl;
  rate = refl;
  present = refl;
}

pub still_put : (p q : Patch) → SameButRoom p q → CanPut p → CanPut q
still_put p q S C = put_rewired p q S.grove (roomed p q S C.runs) C

pub still_meet : (w v : Web) → IsSame w v → Meet w → Meet v
still_meet w v S m = record {
  fed = λ node outlet i h e. subst (λ (hs : List Hop). IsListed hs (hop_at h.key node outlet)) (sym (S.feeds h.node h.port))
      (m.fed node outlet i h (ap (λ (hs : List Hop). slice_get hs i) (sym (S.fans node outlet)) ∙ e));
  fanned = λ node inlet i h e. subst (λ (hs : List Hop). IsListed hs (hop_at h.key node inlet)) (sym (S.fans h.node h.port))
      (m.fanned node inlet i h (ap (λ (hs : List Hop). slice_get hs i) (sym (S.feeds node inlet)) ∙ e));
}

pub still_clear : (p q : Patch) (place : Place) (key : ℕ) → SameButRoom p q → CanClear p place key → CanClear q place key
still_clear p q place key S C = record {
  can = still_put p q S C.can;
  is = ap (λ (g : Grove). slice_get (keys_at g place.canvas) place.number) S.grove ∙ C.is;
  plain = λ n was. subst (λ (g : Grove). (holder_in (get g.boards place.canvas) ≡ None) ⊎ ((side : Side) → port_signal side n.kind ≡ None)) (sym S.grove)
      (C.plain n (ap (λ (g : Grove). get g.nodes key) (sym S.grove) ∙ was));
  meet = still_meet p.web q.web S.web C.meet;
}

-- Which box goes.

ok_part : Result (ℕ × ℕ) EditRefusal → Option (ℕ × ℕ)
ok_part (Ok x) = Some x
ok_part (Err why) = None

found_box : (g : Grove) (number d : ℕ) (o : Option ℕ) (canvas key : ℕ) → slice_get (keys_at g d) number ≡ o → going_box g d number o ≡ Ok (canvas, key)
    → slice_get (keys_at g canvas) number ≡ Some key
unfolding ok_part
found_box g number d None canvas key at e = cc
found_box g number d (Some x) canvas key at e =
    let same : (d, x) ≡ (canvas, key) = same_Some (d, x) (canvas, key) (ap ok_part e) in
    ap (λ (y : ℕ × ℕ). slice_get (keys_at g y.0) number) (sym same) ∙ at ∙ ap (λ (y : ℕ × ℕ). Some y.1) same

pub found_there : (g : Grove) (number : ℕ) (o : Option ℕ) (canvas key : ℕ) → going_in g number o ≡ Ok (canvas, key) → slice_get (keys_at g canvas) number ≡ Some key
found_there g number None canvas key e = cc
found_there g number (Some d) canvas key e = found_box g number d (slice_get (keys_at g d) number) canvas key refl e

-- the path leads to its canvas
canvas_same : (g : Grove) (number d : ℕ) (o : Option ℕ) (canvas key : ℕ) → going_box g d number o ≡ Ok (canvas, key) → d ≡ canvas
unfolding ok_part
canvas_same g number d None canvas key e = cc
canvas_same g number d (Some x) canvas key e = ap (λ (y : ℕ × ℕ). y.0) (same_Some (d, x) (canvas, key) (ap ok_part e))

pub leads_there : (g : Grove) (number : ℕ) (o : Option ℕ) (canvas key : ℕ) → going_in g number o ≡ Ok (canvas, key) → o ≡ Some canvas
leads_there g number None canvas key e = cc
leads_there g number (Some d) canvas key e = ap (λ x. Some x) (canvas_same g number d (slice_get (keys_at g d) number) canvas key e)

pub stands_there : (p : Patch) (path : List ℕ) (number canvas key : ℕ) → going p path number ≡ Ok (canvas, key) → slice_get (keys_at p.grove canvas) number ≡ Some key
stands_there p path number canvas key e = found_there p.grove number (sub_reached p.grove (Some p.grove.root) path) canvas key e

-- the box lives
lies_there : (o : Option Node) (c : ℕ) → board_in o ≡ Some c → IsSome o
lies_there None c e = absurd (none-some c e)
lies_there (Some n) c e = refl

pub box_lives : (p : Patch) (path : List ℕ) (number canvas key : ℕ) → CanPut p → going p path number ≡ Ok (canvas, key) → IsSome (get p.grove.nodes key)
box_lives p path number canvas key C e = lies_there (get p.grove.nodes key) canvas (C.forest.own.home canvas number key (stands_there p path number canvas key e))

pub box_stands : (p : Patch) (place : Place) (key : ℕ) → CanClear p place key → IsSome (get p.grove.nodes key)
box_stands p place key C = lies_there (get p.grove.nodes key) place.canvas (C.can.forest.own.home place.canvas place.number key C.is)

-- room for as many boxes as keys
room_for : (g : Grove) (w : Web) (end k : ℕ) → length g.nodes.slots ≤ end → HasRoom w end 0 0 → IsSome (get g.nodes k) → HasRoom w (k + 1) 0 0
room_for g w end k far R live =
    let l = live_below g.nodes k end end far refl live in
    let boxes = R.boxes in
    let homes = R.homes in
    record { boxes = omega (arith, l, boxes); homes = omega (arith, l, homes); ends = R.ends; wires = R.wires }

-- for each box of a part
pub part_room : (g : Grove) (w : Web) (end key : ℕ) (part : List ℕ) → IsForest (get g.nodes) (get g.boards) g.root → IsSome (get g.nodes key) → ArePart (get g.nodes) (get g.boards) key part
    → length g.nodes.slots ≤ end → HasRoom w end 0 0 → (k : ℕ) → IsTrue (is_among part k) → HasRoom w (k + 1) 0 0
part_room g w end key part F live A far R k at = room_for g w end k far R (part_live (get g.nodes) (get g.boards) g.root F key part A live k at)

-- Counts.

pub within_less : (n : Counts) (boxes values wires : ℕ) → wires ≤ n.wires → AreWithin n → AreWithin (counts_less n boxes values wires)
within_less n boxes values wires l W =
    let b = W.boxes in
    let w = W.wires in
    let s = W.sound in
    record { boxes = omega (arith, b); wires = omega (arith, w, l); sound = omega (arith, s); zeros = W.zeros }

pub fewer_wires : (p q ready : Patch) (table : Names) (place : Place) (key steps steps' : ℕ) → SameButRoom p ready → IsCleared ready q table place key steps steps' → wires_told q.web ≤ wires_told p.web
fewer_wires p q ready table place key steps steps' S I =
    let a = I.count in
    let b = same_are_as_many p.web ready.web S.web in
    omega (arith, a, b)

-- one box more
pub values_next : (rate : Rate) (nodes : ℕ → Option Node) (spots : List Spot) (p : Spot)
    → sound_among rate (map (cell_under nodes) (keys_of_spots (spots ++ p ∷ []))) ≡ sound_among rate (map (cell_under nodes) (keys_of_spots spots)) + sound_seen rate (cell_under nodes p.node)
values_next rate nodes [] p = omega arith
values_next rate nodes (s ∷ spots) p = let rest = values_next rate nodes spots p in omega (arith, rest)

-- the counts without a part
pub counted_so : (rate : Rate) (g : Grove) (n left : Counts) (part : List ℕ) (spots told : List Spot) (wires : ℕ) → left ≡ counts_less n (length told) (values_of rate g (keys_of_spots told)) n.wires
    → told ≡ spots → part ≡ keys_of_spots spots
    → record { boxes = left.boxes; wires = wires; sound = left.sound; next_zero = left.next_zero } ≡ counts_less n (length part) (values_of rate g part) wires
counted_so rate g n left part spots told wires is same are =
    let keys : keys_of_spots told ≡ part = ap keys_of_spots same ∙ sym are in
    ap (with_wires wires) is
    ∙ ap (λ (l : ℕ). counts_less n l (values_of rate g (keys_of_spots told)) wires) (sym (length-map told (λ (p : Spot). p.node)))
    ∙ ap (λ (ks : List ℕ). counts_less n (length ks) (values_of rate g ks) wires) keys
