-- In a patch in which a tree stands the canvases that own names are near.
use Rattle.std.proofs.Common.{◌≡◌, ℕ, zero, suc, ◌+◌, ◌≤◌, ◌==◌, max, Bool, true, false, List, [], ◌∷◌, ◌++◌, length, Option, Some, None, sym, ap, ◌∙◌, subst, arith}
use Rattle.std.specs.Prelude.{option_map, option_and_then}
use Rattle.std.specs.List.{AllByRecursion, filter}
use Rattle.std.proofs.lemmas.List.{length-reverse}
use Rattle.std.proofs.lemmas.Option.{none-some, same_Some}
use Rattle.slab.specs.Slab.{get}
use Rattle.slab.specs.Slab.{Slab}
use Rattle.pd_atom.specs.Names.{Names}
use Rattle.pd_name.specs.Rows.{owners_of}
use Rattle.pd_name.specs.declared.Class.{Class}
use Rattle.pd_name.specs.declared.Class.TheVariants.{Receiver}
use Rattle.pd_tree.specs.Trees.{Trees, Done, Leaf, Holder, Tree}
use Rattle.pd_grove.specs.declared.nodes.Node.{Node}
use Rattle.pd_grove.specs.declared.boards.Board.{Board}
use Rattle.pd_grove.specs.declared.spots.Spot.{Spot}
use Rattle.pd_grove.specs.Standing.{NodeSeen, node_seen, BoardSeen, board_seen, Stands, GroveStands}
use Rattle.pd_grove.specs.Telling.{inner_in}
use Rattle.pd_grove.specs.TextOrder.{deep, keys_standing, keys_of_spots, spots_in_order}
use Rattle.pd_grove.proofs.SpotLemmas.{grove_spots, keys_stand}
use Rattle.pd_bind.specs.declared.owners.Owner.TheVariants as owner
use Rattle.pd_bind.specs.Owning.{root_owner, is_owned, owned_at, boxes_owning, owner_if, root_owning, box_or_canvas, owners_in}
use Rattle.pd_bind.specs.Naming.{owned, canvas_symbol}
use Rattle.pd_patch.specs.declared.patch.Patch.{Patch}
use Rattle.pd_patch.specs.Paths.{spot_of, holder_in, around, outward, path_told}
use Rattle.pd_patch.specs.Telling.{number_in}
use Rattle.pd_hearing.specs.Worlds.{bare, net_of}
use Rattle.pd_stack.specs.Tasks.{owner_told}
use Rattle.pd_guards.specs.Near.{IsNearOwner, AreNear}
use Rattle.pd_guards.proofs.FactLemmas.{either, all-append}

-- how far it is from a canvas out to the root
module _ (nodes : ℕ → Option Node) (boards : Slab Board) (numbers : List ℕ) where
  -- however far one goes out of a canvas, there are at most so many numbers
  abbrev IsWithin : ℕ → ℕ → Type 0
  IsWithin d canvas = (m : ℕ) → length (outward nodes boards numbers m (around nodes boards numbers canvas)) ≤ d

  none_outward : (m : ℕ) → length (outward nodes boards numbers m None) ≤ 0
  unfolding outward
  none_outward zero = omega arith
  none_outward (suc m) = none_outward m

  one_outward : (d board number : ℕ) → IsWithin d board → (m : ℕ) → length (outward nodes boards numbers m (Some (board, number))) ≤ d + 1
  unfolding outward
  one_outward d board number h zero = omega arith
  one_outward d board number h (suc m) = let l : length (outward nodes boards numbers m (around nodes boards numbers board)) ≤ d = h m in omega (arith, l)

  around_by : (canvas : ℕ) (o : Option ℕ) → holder_in (get boards canvas) ≡ o → around nodes boards numbers canvas ≡ option_and_then (λ k. spot_of numbers k (nodes k)) o
  around_by canvas o e = ap (λ (x : Option ℕ). option_and_then (λ k. spot_of numbers k (nodes k)) x) e

  root_within : (canvas : ℕ) → holder_in (get boards canvas) ≡ None → IsWithin 0 canvas
  root_within canvas e m = subst (λ (x : Option (ℕ × ℕ)). length (outward nodes boards numbers m x) ≤ 0) (sym (around_by canvas None e)) (none_outward m)

  held_within : (d canvas k board number : ℕ) → holder_in (get boards canvas) ≡ Some k → spot_of numbers k (nodes k) ≡ Some (board, number) → IsWithin d board → IsWithin (d + 1) canvas
  held_within d canvas k board number e f h m =
      subst (λ (x : Option (ℕ × ℕ)). length (outward nodes boards numbers m x) ≤ d + 1) (sym (around_by canvas (Some k) e ∙ f)) (one_outward d board number h m)

  path_short : (d canvas : ℕ) → IsWithin d canvas → d ≤ 255 → length (path_told nodes boards numbers canvas) ≤ 255
  unfolding path_told
  path_short d canvas h l =
      let out : List ℕ = outward nodes boards numbers 256 (around nodes boards numbers canvas) in
      let m : length out ≤ d = h 256 in
      let e = length-reverse out in
      omega (arith, l, m, e)

-- what is seen of boxes and canvases
holder_seen : (o : Option Board) (s : BoardSeen) → option_map board_seen o ≡ Some s → holder_in o ≡ s.holder
holder_seen None s h = absurd (none-some s h)
holder_seen (Some b) s h = ap (λ (x : BoardSeen). x.holder) (same_Some (board_seen b) s h)

inner_seen : (o : Option Node) (s : NodeSeen) → option_map node_seen o ≡ Some s → inner_in (bare o) ≡ s.inner
inner_seen None s h = absurd (none-some s h)
inner_seen (Some n) s h = ap (λ (x : NodeSeen). x.inner) (same_Some (node_seen n) s h)

spot_seen : (numbers : List ℕ) (k : ℕ) (o : Option Node) (s : NodeSeen) → option_map node_seen o ≡ Some s → spot_of numbers k (bare o) ≡ Some (s.board, number_in numbers k)
spot_seen numbers k None s h = absurd (none-some s h)
spot_seen numbers k (Some n) s h = ap (λ (x : NodeSeen). Some (x.board, number_in numbers k)) (same_Some (node_seen n) s h)

-- what holds of the keys of all boxes holds of those of some
keys_kept : (P : ℕ → Type 0) (f : Spot → Bool) (spots : List Spot) → AllByRecursion P (keys_of_spots spots) → AllByRecursion P (keys_of_spots (filter f spots))
keys_kept P f [] h = tt
keys_kept P f (x ∷ xs) h =
    let rest : AllByRecursion P (keys_of_spots (filter f xs)) = keys_kept P f xs h.1 in
    either (λ (l : List Spot). AllByRecursion P (keys_of_spots l)) (f x) (x ∷ filter f xs) (filter f xs) (h.0, rest) rest

one_owner : (P : ℕ → Type 0) (b : Bool) (k : ℕ) → P k → AllByRecursion P (owner_if b k)
one_owner P true k h = (h, tt)
one_owner P false k h = tt

-- the canvases of a patch
module _ (p : Patch) where
  abbrev IsNearKey : ℕ → Type 0
  IsNearKey k = IsNearOwner (net_of p) (box_or_canvas k (inner_in (bare (get p.grove.nodes k))))

  abbrev IsIn : ℕ → ℕ → Type 0
  IsIn d canvas = IsWithin (net_of p).nodes p.grove.boards p.numbers.items d canvas

  key_near : (k : ℕ) (o : Option ℕ) → inner_in (bare (get p.grove.nodes k)) ≡ o → IsNearOwner (net_of p) (box_or_canvas k o) → IsNearKey k
  key_near k o e h = subst (λ (x : Option ℕ). IsNearOwner (net_of p) (box_or_canvas k x)) (sym e) h

  canvas_near : (d canvas : ℕ) → IsIn d canvas → d ≤ 255 → IsNearOwner (net_of p) (owner.Canvas canvas)
  canvas_near d canvas h l = path_short (net_of p).nodes p.grove.boards p.numbers.items d canvas h l

  boxes_near : (b d : ℕ) (ks : List ℕ) (t : Trees) → (S : Stands (get p.grove.nodes) (get p.grove.boards) b d ks t) → IsIn d b → d + deep t ≤ 255
      → AllByRecursion IsNearKey (keys_standing (get p.grove.nodes) (get p.grove.boards) b d ks t S)
  boxes_near b d [] Done S h l = tt
  boxes_near b d (k ∷ ks) Done S h l = absurd S
  boxes_near b d [] (Leaf c rest) S h l = absurd S
  boxes_near b d (k ∷ ks) (Leaf c rest) S h l = (key_near k None (inner_seen (get p.grove.nodes k) _ S.0) tt, boxes_near b d ks rest S.1 h (omega (arith, l)))
  boxes_near b d [] (Holder c s inner rest) S h l = absurd S
  boxes_near b d (k ∷ ks) (Holder c s inner rest) S h l =
      let low : d + max (deep inner + 1) (deep rest) ≤ 255 = l in
      let within : IsIn (d + 1) S.0 =
      held_within (net_of p).nodes p.grove.boards p.numbers.items d S.0 k b (number_in p.numbers.items k)
      (holder_seen (get p.grove.boards S.0) _ S.3) (spot_seen p.numbers.items k (get p.grove.nodes k) _ S.2) h in (
        key_near k (Some S.0) (inner_seen (get p.grove.nodes k) _ S.2) (canvas_near (d + 1) S.0 within (omega (arith, low))),
        all-append IsNearKey (keys_standing (get p.grove.nodes) (get p.grove.boards) S.0 (d + 1) S.1 inner S.4) (keys_standing (get p.grove.nodes) (get p.grove.boards) b d ks rest S.5)
            (boxes_near S.0 (d + 1) S.1 inner S.4 within (omega (arith, low))) (boxes_near b d ks rest S.5 h (omega (arith, low))),
      )

  -- an owner is the root canvas, a box, or the canvas that it holds
  abbrev IsNearOne : ℕ → Type 0
  IsNearOne k = IsNearOwner (net_of p) (owner_told (net_of p) k)

  owner_near : IsIn 0 p.grove.root → (k : ℕ) → IsNearKey k → IsNearOne k
  owner_near root k h =
      either (IsNearOwner (net_of p)) (k == root_owner) (owner.Canvas p.grove.root) (box_or_canvas k (inner_in (bare (get p.grove.nodes k)))) (canvas_near 0 p.grove.root root (omega arith)) h

  owners_near : IsIn 0 p.grove.root → (ks : List ℕ) → AllByRecursion IsNearKey ks → AllByRecursion IsNearOne ks
  owners_near root [] h = tt
  owners_near root (k ∷ ks) h = (owner_near root k h.0, owners_near root ks h.1)

-- where a tree stands with the root at most 256 canvases deep, and under each name stand its owners
pub standing_near : (p : Patch) (names : Names) (file : List ℕ) (t : Tree) → GroveStands p.grove t.sheet t.boxes → deep t.boxes ≤ 255 → get p.grove.nodes root_owner ≡ None
    → ((class : Class) (name : ℕ) → owners_of p.names class name ≡ owners_in names file p.grove class name) → AreNear (net_of p)
standing_near p names file tree G low apart owned_so name =
    let nodes = get p.grove.nodes in
    let boards = get p.grove.boards in
    let t : Trees = tree.boxes in
    let root : IsIn p 0 p.grove.root = root_within (net_of p).nodes p.grove.boards p.numbers.items p.grove.root (holder_seen (get p.grove.boards p.grove.root) _ G.root) in
    let keys : keys_of_spots (spots_in_order p.grove) ≡ keys_standing nodes boards p.grove.root 0 G.keys t G.stands =
    ap keys_of_spots (grove_spots p.grove tree.sheet t G (omega (arith, low))) ∙ keys_stand nodes boards p.grove.root 0 true G.keys t G.stands in
    let all : AllByRecursion (IsNearKey p) (keys_of_spots (spots_in_order p.grove)) =
    subst (AllByRecursion (IsNearKey p)) (sym keys) (boxes_near p p.grove.root 0 G.keys t G.stands root (omega (arith, low))) in
    let some : AllByRecursion (IsNearKey p) (boxes_owning names nodes Receiver name (spots_in_order p.grove)) =
    keys_kept (IsNearKey p) (λ x. is_owned Receiver name (owned_at names nodes x)) (spots_in_order p.grove) all in
    let first : IsNearKey p root_owner = key_near p root_owner None (ap (λ (o : Option Node). inner_in (bare o)) apart) tt in
    let both : AllByRecursion (IsNearKey p) (root_owning names file Receiver name ++ boxes_owning names nodes Receiver name (spots_in_order p.grove)) =
    all-append (IsNearKey p) (root_owning names file Receiver name) (boxes_owning names nodes Receiver name (spots_in_order p.grove))
    (one_owner (IsNearKey p) (is_owned Receiver name (owned Receiver (canvas_symbol names file))) root_owner first) some in
    owners_near p root (owners_of p.names Receiver name) (subst (AllByRecursion (IsNearKey p)) (sym (owned_so Receiver name)) both)
