-- Room for what a box becomes, and the names of the box that was and of the one that is.
use Rattle.std.proofs.Common.{◌≡◌, ℕ, ℤ, suc, ◌+◌, ◌≤◌, ◌^◌, Bool, true, false, List, ◌++◌, take, drop, length, Option, Some, None, IsSome, inl, inr, nat_eq, refl, sym, ap, ◌∙◌, subst, arith}
use Rattle.std.specs.Prelude.{option_map, option_and_then, position, remove, replicate}
use Rattle.std.specs.Option.{option_map_or}
use mathlib.Core.Logic.{⊎_elim}
use Rattle.std.proofs.lemmas.List.{length-append, length-drop, length-take}
use Rattle.std.proofs.lemmas.Option.{none-some, same_Some}
use Rattle.slab.specs.Slab.{get}
use Rattle.pd_atom.specs.Names.{Names}
use Rattle.pd_kind.specs.States.{silent_block}
use Rattle.pd_object.specs.declared.kinds.Kind.{Kind}
use Rattle.pd_object.specs.declared.kinds.Kind.TheVariants as kind
use Rattle.pd_name.specs.declared.Class.{Class}
use Rattle.pd_name.specs.Rows.{Row, owners_of, spare_of, without, OthersStay as OthersLeft}
use Rattle.pd_tree.specs.Trees.{Cell}
use Rattle.pd_grove.specs.declared.boards.Board.{Board}
use Rattle.pd_grove.specs.declared.grove.Grove.{Grove}
use Rattle.pd_grove.specs.declared.nodes.Node.{Node}
use Rattle.pd_grove.specs.declared.seeds.Seed.{Seed}
use Rattle.pd_grove.specs.declared.spots.Spot.{Spot}
use Rattle.pd_grove.specs.declared.ports.Side.{Side}
use Rattle.pd_grove.specs.declared.ports.Side.TheVariants.{Outlets}
use Rattle.pd_grove.specs.Forest.{holder_in}
use Rattle.pd_grove.specs.Ports.{port_signal}
use Rattle.pd_grove.specs.Standing.{BoardSeen, board_seen, node_seen}
use Rattle.pd_bind.specs.Naming.{Owned, owned_by, owned_by_kind}
use Rattle.pd_bind.specs.Owning.{is_owned, owned_at}
use Rattle.pd_owning.specs.Bound.{HasRoom, OthersStay}
use Rattle.pd_owning.proofs.BoundLemmas.{owned_other, owned_same}
use Rattle.pd_web.specs.declared.jacks.Jack.{Jack}
use Rattle.pd_web.specs.declared.web.Web.{Web}
use Rattle.pd_web.specs.Changes.{HasRoom as HasWebRoom}
use Rattle.pd_web.specs.Hops.{ports_told}
use Rattle.pd_web.specs.Jacks.{kind_jacks}
use Rattle.pd_patch.specs.declared.patch.Patch.{Patch}
use Rattle.pd_patch.proofs.BlockLemmas.{live_below}
use Rattle.pd_patch.specs.Values.{Blocks, block_count, first_blocks}
use Rattle.pd_boxes.specs.Room.{SameButRoom}
use Rattle.pd_boxes.specs.Rows.{PutsUnder}
use Rattle.pd_boxes.proofs.RoomLemmas.{room_put}
use Rattle.pd_refitting.specs.Refits.{CanRefit, IsPlainIn, OthersStay as BothStay}
use Rattle.pd_refitting.proofs.WireLemmas.{meet_by, takes_same}

-- Where room was set aside.

holder_seen : (a b : Option Board) → option_map board_seen b ≡ option_map board_seen a → holder_in b ≡ holder_in a
holder_seen None None e = refl
holder_seen None (Some y) e = absurd (none-some (board_seen y) (sym e))
holder_seen (Some x) None e = absurd (none-some (board_seen x) e)
holder_seen (Some x) (Some y) e = ap (λ (s : BoardSeen). s.holder) (same_Some (board_seen y) (board_seen x) e)

pub plain_still : (p q : Patch) (c : ℕ) (k : Kind) → SameButRoom p q → IsPlainIn p c k → IsPlainIn q c k
plain_still p q c k S h = ⊎_elim
    (λ (e : holder_in (get p.grove.boards c) ≡ None). inl (holder_seen (get p.grove.boards c) (get q.grove.boards c) (S.grove.boards c) ∙ e))
    (λ (e : (side : Side) → port_signal side k ≡ None). inr e)
    h

pub refit_still : (p q : Patch) (key : ℕ) (n : Node) (s : Seed) → SameButRoom p q → CanRefit p key n s → CanRefit q key n s
refit_still p q key n s S C = record {
  can = room_put p q S C.can;
  is = S.grove.nodes key ∙ C.is;
  bare = C.bare;
  leaf = C.leaf;
  wires = takes_same p.web q.web key s.row.kind S.web C.wires;
  meet = meet_by p.web q.web S.web.fans S.web.feeds C.meet;
  plain = plain_still p q n.board n.kind S C.plain;
  stays_plain = plain_still p q n.board s.row.kind S C.stays_plain;
}

-- Room for the ports of each box that lives.

pub room_below : (g : Grove) (w : Web) (end : ℕ) → length g.nodes.slots ≤ end → HasWebRoom w end 0 0 → (k : ℕ) → IsSome (get g.nodes k) → HasWebRoom w (k + 1) 0 0
room_below g w end far room k live =
    let low = live_below g.nodes k end end far refl live in
    let boxes = room.boxes in
    let homes = room.homes in
    record { boxes = omega (arith, low, boxes); homes = omega (arith, low, homes); ends = room.ends; wires = room.wires }

-- Room for owners where one was unbound.

removed_shorter : (xs : List ℕ) (i : ℕ) → length (take i xs ++ drop (suc i) xs) ≤ length xs
removed_shorter xs i =
    let a = length-take i xs in
    let b = length-drop (suc i) xs in
    let c = length-append (take i xs) (drop (suc i) xs) in
    omega (arith, a, b, c)

shorter : (k : ℕ) (xs : List ℕ) → length (without k xs) ≤ length xs
shorter k xs = by (position (nat_eq k) xs) refl
  where
    by : (o : Option ℕ) → position (nat_eq k) xs ≡ o → length (without k xs) ≤ length xs
    by None e = subst (λ o. length (option_map_or (λ place. remove xs place) o xs) ≤ length xs) (sym e) (omega arith)
    by (Some i) e = subst (λ o. length (option_map_or (λ place. remove xs place) o xs) ≤ length xs) (sym e) (removed_shorter xs i)

-- where an owner of a name is unbound, there is room for as many as before
pub room_kept : (old new : List Row) (class : Class) (name k : ℕ) → owners_of new class name ≡ without k (owners_of old class name)
    → length (owners_of new class name) + spare_of new class name ≡ length (owners_of old class name) + spare_of old class name → OthersLeft old new class name
    → (o : Option Owned) (n : ℕ) → HasRoom old o n → HasRoom new o n
room_kept old new class name k is places others None n room = tt
room_kept old new class name k is places others (Some o) n room = by (is_owned o.0 o.1 (Some (class, name))) refl
  where
    here : HasRoom old (Some (class, name)) n → HasRoom new (Some (class, name)) n
    here h =
        let less = shorter k (owners_of old class name) in
        let long = ap length is in
        let spare = h.0 in
        let few = h.1 in
        (omega (arith, less, long, places, spare), omega (arith, less, long, few))

    by : (b : Bool) → is_owned o.0 o.1 (Some (class, name)) ≡ b → HasRoom new (Some o) n
    by true e =
        let same = owned_same o.0 class o.1 name e in
        let q : (class, name) ≡ o = sym (ap (λ c. (c, o.1)) same.0 ∙ ap (λ x. (class, x)) same.1) in
        subst (λ (x : Owned). HasRoom new (Some x) n) q (here (subst (λ (x : Owned). HasRoom old (Some x) n) (sym q) room))
    by false e =
        let other = owned_other o.0 class o.1 name e in
        (subst (λ x. n ≤ x) (sym (others.spare o.0 o.1 other)) room.0, subst (λ (xs : List ℕ). length xs + n ≤ 2 ^ 32) (sym (others.owners o.0 o.1 other)) room.1)

-- The names of both boxes, in the patch's own document or not.

owner_kind : (names : List Row) (table : Names) (c : Cell) (k : Kind) → HasRoom names (owned_by_kind table true c k) 1 → HasRoom names (owned_by_kind table false c k) 1
owner_kind names table c (kind.Glue g) h = h
owner_kind names table c (kind.Signal s) h = h
owner_kind names table c (kind.Panel p) h = h
owner_kind names table c kind.Canvas h = tt
owner_kind names table c _ h = h

owner_room : (names : List Row) (table : Names) (top : Bool) (c : Cell) → HasRoom names (owned_by table true c) 1 → HasRoom names (owned_by table top c) 1
owner_room names table true c h = h
owner_room names table false c h = owner_kind names table c c.kind h

others_kind : (old new : List Row) (table : Names) (c : Cell) (k : Kind) → OthersStay old new (owned_by_kind table false c k) → OthersStay old new (owned_by_kind table true c k)
others_kind old new table c (kind.Glue g) h = h
others_kind old new table c (kind.Signal s) h = h
others_kind old new table c (kind.Panel p) h = h
others_kind old new table c kind.Canvas h = record { owners = λ class name f. h.owners class name refl; spare = λ class name f. h.spare class name refl }
others_kind old new table c _ h = h

others_top : (old new : List Row) (table : Names) (top : Bool) (c : Cell) → OthersStay old new (owned_by table top c) → OthersStay old new (owned_by table true c)
others_top old new table true c h = h
others_top old new table false c h = others_kind old new table c c.kind h

-- what the box of a key owns
owned_here : (g : Grove) (table : Names) (key : ℕ) (n : Node) (spot : Spot) → spot.node ≡ key → get g.nodes key ≡ Some n
    → owned_at table (get g.nodes) spot ≡ owned_by table spot.is_top (node_seen n).cell
owned_here g table key n spot e is = ap (option_and_then (λ (c : Cell). owned_by table spot.is_top c))
    (ap (λ x. option_map (λ (m : Node). (node_seen m).cell) (get g.nodes x)) e ∙ ap (option_map (λ (m : Node). (node_seen m).cell)) is)

module _ (g h : Grove) (table : Names) (key : ℕ) (n m : Node) (was : get g.nodes key ≡ Some n) (is : get h.nodes key ≡ Some m) (spot : Spot) (at : spot.node ≡ key) where
  pub owner_fits : (names : List Row) → HasRoom names (owned_by table true (node_seen m).cell) 1 → HasRoom names (owned_at table (get h.nodes) spot) 1
  owner_fits names room = subst (λ o. HasRoom names o 1) (sym (owned_here h table key m spot at is)) (owner_room names table spot.is_top (node_seen m).cell room)

  -- the owners of names that neither box owns stay
  pub both_stay : (old mid new : List Row) → OthersStay old mid (owned_at table (get g.nodes) spot) → OthersStay mid new (owned_at table (get h.nodes) spot)
      → BothStay old new (owned_by table true (node_seen n).cell) (owned_by table true (node_seen m).cell)
  both_stay old mid new first second =
      let a : OthersStay old mid (owned_by table true (node_seen n).cell) =
      others_top old mid table spot.is_top (node_seen n).cell (subst (λ o. OthersStay old mid o) (owned_here g table key n spot at was) first) in
      let b : OthersStay mid new (owned_by table true (node_seen m).cell) =
      others_top mid new table spot.is_top (node_seen m).cell (subst (λ o. OthersStay mid new o) (owned_here h table key m spot at is) second) in
      record {
        owners = λ class name x y. b.owners class name y ∙ a.owners class name x;
        spare = λ class name x y. b.spare class name y ∙ a.spare class name x;
      }

-- Blocks: the box has the outlets of its kind.

pub silent_put : (w : Web) (key : ℕ) (k : Kind) (old new : Blocks) (blocks : List (List ℤ)) → ports_told w Outlets key ≡ kind_jacks Outlets k → blocks ≡ replicate (block_count (kind_jacks Outlets k)) silent_block
    → PutsUnder old new key blocks → PutsUnder old new key (first_blocks w key)
silent_put w key k old new blocks told silent P = record {
  is = P.is ∙ ap (λ (bs : List (List ℤ)). Some bs) (silent ∙ ap (λ (js : List Jack). replicate (block_count js) silent_block) (sym told));
  others = P.others;
}
