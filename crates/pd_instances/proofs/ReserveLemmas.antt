-- Room for a part was set aside in every layer.
use Rattle.std.proofs.Common.{◌≡◌, ◌≢◌, ℕ, suc, ◌+◌, ◌*◌, ◌<◌, ◌≤◌, ◌^◌, List, [], ◌∷◌, ◌++◌, map, length, Option, Some, None, refl, sym, ap, ◌∙◌, subst, arith}
use Rattle.std.specs.Prelude.{option_map, vec_capacity, vec_len}
use Rattle.std.specs.List.{AllByRecursion, AllZip}
use Rattle.std.proofs.lemmas.List.{length-map}
use Rattle.std.proofs.lemmas.Option.{none-some, same_Some}
use Rattle.slab.specs.Slab.{get}
use Rattle.pd_atom.specs.Names.{Names}
use Rattle.pd_name.specs.declared.Class.{Class}
use Rattle.pd_order.specs.Listing.{Listing}
use Rattle.pd_tree.specs.declared.rows.Row.{Row}
use Rattle.pd_tree.specs.Trees.{Trees, Done, Leaf, Holder, Stand, stand_of, stands_in, stands_of, weight, width}
use Rattle.pd_grove.specs.declared.boards.Board.{Board}
use Rattle.pd_grove.specs.declared.seeds.Seed.{Seed}
use Rattle.pd_grove.specs.Planting.{seed_stand, seeds_in, stands_ready, AreRoomy}
use Rattle.pd_grove.specs.Room.{HasPlace}
use Rattle.pd_grove.specs.Standing.{board_seen, depth_of, BoardSeen}
use Rattle.pd_grove.specs.States.{SeedsSmall}
use Rattle.pd_owning.specs.Bound.{HasRoom as HasOwnerRoom}
use Rattle.pd_web.specs.Canvases.{keys_at}
use Rattle.pd_web.specs.Changes.{HasRoom as HasWebRoom}
use Rattle.pd_patch.specs.declared.patch.Patch.{Patch}
use Rattle.pd_patch.specs.Telling.{order_in}
use Rattle.pd_placing.specs.Room.{HasPlaces, IsSameButRoom as IsSameOrder}
use Rattle.pd_instances.specs.declared.room.PartRoom.{PartRoom}
use Rattle.pd_instances.specs.declared.needs.Need.{Need}
use Rattle.pd_instances.specs.Needs.{insides_in, insides_of, needs_of, wires_all, AreLinkRooms, AreRoomsFor, Inside, IsOrderRoom}
use Rattle.pd_instances.specs.Room.{owning_among, stands_for, IsEmptyFor, IsOnePart, ReachesAll, TakesPart}
use Rattle.pd_instances.proofs.NeedLemmas.{insides_all}
use Rattle.pd_instances.proofs.TellLemmas.{stands_counted}

pub order_still : (a b c : Option Listing) → IsSameOrder a b → IsSameOrder b c → IsSameOrder a c
order_still None b c e f = by b e f
  where
    by : (x : Option Listing) → x ≡ None → IsSameOrder x c → c ≡ None
    by None q h = h
    by (Some x) q h = absurd (none-some x (sym q))
order_still (Some a) None c e f = absurd e
order_still (Some a) (Some b) None e f = absurd f
order_still (Some a) (Some b) (Some c) e f = record { chain = f.chain ∙ e.chain; stuck = f.stuck ∙ e.stuck; spots = f.spots ∙ e.spots; room = (let x = e.room in let y = f.room in omega (arith, x, y)) }

pub depth_seen : (a b : Option Board) → option_map board_seen a ≡ option_map board_seen b → depth_of a ≡ depth_of b
depth_seen None None e = refl
depth_seen None (Some b) e = absurd (none-some (board_seen b) e)
depth_seen (Some a) None e = absurd (none-some (board_seen a) (sym e))
depth_seen (Some a) (Some b) e = ap (λ (s : BoardSeen). s.depth) (same_Some (board_seen a) (board_seen b) e)

wide : (t : Trees) → width t ≤ weight t
wide Done = omega arith
wide (Leaf c rest) = let h = wide rest in omega (arith, h)
wide (Holder c s inner rest) = let h = wide rest in omega (arith, h)

both : {X : Type 0} (P : X → Type 0) (xs ys : List X) → AllByRecursion P xs → AllByRecursion P ys → AllByRecursion P (xs ++ ys)
both P [] ys a b = b
both P (x ∷ xs) ys a b = (a.0, both P xs ys a.1 b)

insides_small : (m : ℕ) (t : Trees) → weight t ≤ m → AllByRecursion (λ (i : Inside). i.boxes ≤ m) (insides_in t)
insides_small m Done l = tt
insides_small m (Leaf c rest) l = insides_small m rest (omega (arith, l))
insides_small m (Holder c s inner rest) l = (
  let w = wide inner in omega (arith, w, l),
  both (λ (i : Inside). i.boxes ≤ m) (insides_in inner) (insides_in rest) (insides_small m inner (omega (arith, l))) (insides_small m rest (omega (arith, l))),
)

pub takes_part : (old p : Patch) (room : PartRoom) (table : Names) (rows : List Row) (end wires : ℕ) (needs : List Need) → stands_for room ≡ stands_in rows → IsOnePart old room.place (stands_in rows)
    → depth_of (get p.grove.boards room.place.canvas) ≡ depth_of (get old.grove.boards room.place.canvas) → SeedsSmall (room.seed ∷ seeds_in room.inside) → AreRoomy (room.seed ∷ seeds_in room.inside)
    → length rows ≤ 4294966000 → ReachesAll p end → HasPlace p.grove room.place.canvas (length rows) → length (keys_at p.grove room.place.canvas) + 1 < 2 ^ 32
    → wires ≡ wires_all (insides_of (stands_in rows)) → HasWebRoom p.web end (2 * wires) wires → needs ≡ needs_of (stands_in rows) → AreRoomsFor needs room.boxes.items
    → AllZip AreLinkRooms (insides_of (stands_in rows)) (map (λ v. v.items) room.links.items) → AllZip IsOrderRoom (insides_of (stands_in rows)) room.orders.items → HasPlaces (order_in p.orders.items room.place.canvas) 1
    → ((class : Class) (name : ℕ) → owning_among table class name (stands_in rows) ≢ 0 → HasOwnerRoom p.names (Some (class, name)) (owning_among table class name (stands_in rows)))
    → IsEmptyFor (length rows) room.spots.items (vec_len room.spots) (vec_capacity room.spots) → length rows ≤ vec_capacity room.signal → TakesPart p room table
takes_part old p room table rows end wires needs ss P depth small roomy count keys grove few wire web need boxes links orders outer owners spots signal =
    let counted : suc (length (seeds_in room.inside)) ≡ length rows = ap suc (sym (length-map (seeds_in room.inside) seed_stand)) ∙ ap (λ (xs : List Stand). length xs) ss ∙ length-map rows stand_of in
    let stood : length (stands_for room) ≡ length rows = ap (λ (xs : List Stand). length xs) ss ∙ length-map rows stand_of in
    let back = sym ss in
    record {
      part = record { tree = P.tree; is_tree = ss ∙ P.is_tree; single = P.single; shallow = (let s = P.shallow in omega (arith, s, depth)) };
      small = small;
      roomy = roomy.1;
      countable = omega (arith, counted, count);
      seed = roomy.0;
      end = end;
      keys = keys;
      grove = subst (λ n. HasPlace p.grove room.place.canvas n) (omega (arith, counted)) grove;
      few = few;
      web = subst (λ n. HasWebRoom p.web end (2 * n) n) (wire ∙ ap (λ xs. wires_all (insides_of xs)) back) web;
      boxes = subst (λ ns. AreRoomsFor ns room.boxes.items) (need ∙ ap needs_of back) boxes;
      links = subst (λ xs. AllZip AreLinkRooms (insides_of xs) (map (λ v. v.items) room.links.items)) back links;
      orders = subst (λ xs. AllZip IsOrderRoom (insides_of xs) room.orders.items) back orders;
      outer = outer;
      owners = subst (λ xs. (class : Class) (name : ℕ) → owning_among table class name xs ≢ 0 → HasOwnerRoom p.names (Some (class, name)) (owning_among table class name xs)) back owners;
      spots = subst (λ n. IsEmptyFor n room.spots.items (vec_len room.spots) (vec_capacity room.spots)) (sym stood) spots;
      all = omega (arith, stood, signal);
      signal = subst (λ is. AllByRecursion (λ (i : Inside). i.boxes ≤ vec_capacity room.signal) is) (sym (insides_all (stands_for room) P.tree (ss ∙ P.is_tree)))
          (insides_small (vec_capacity room.signal) P.tree (let w = stands_counted P.tree in let e = ap (λ (xs : List Stand). length xs) (ss ∙ P.is_tree) in omega (arith, w, e, stood, signal)));
    }
