-- A box is written over in a tree, and a patch of which that is done.
use Rattle.std.proofs.Common.{◌≡◌, ◌≢◌, ℕ, ◌+◌, ◌≤◌, cond, List, [], ◌∷◌, length, Option, Some, None, IsSome, slice_get, refl, sym, ap, ◌∙◌, subst, ne_eqb}
use mathlib.Core.Logic.{⊎_elim}
use Rattle.std.proofs.lemmas.Bool.{cases_eq}
use Rattle.std.proofs.lemmas.Option.{same_Some}
use Rattle.slab.specs.Slab.{get, ContainsKey}
use Rattle.slab.proofs.SlabLemmas.{Updates-with_value}
use Rattle.pd_atom.specs.Names.{Names}
use Rattle.pd_name.specs.declared.Class.{Class}
use Rattle.pd_name.specs.Rows.{Row, owners_of}
use Rattle.pd_grove.specs.declared.grove.Grove.{Grove}
use Rattle.pd_grove.specs.declared.nodes.Node.{Node}
use Rattle.pd_grove.specs.declared.seeds.Seed.{Seed}
use Rattle.pd_grove.specs.declared.spots.Spot.{Spot}
use Rattle.pd_grove.specs.Forest.{IsForest}
use Rattle.pd_grove.specs.Lending.{with_node}
use Rattle.pd_grove.specs.TextOrder.{spots_in_order}
use Rattle.pd_tree.specs.Ports.{is_made}
use Rattle.pd_grove.specs.declared.ports.Side.{Side}
use Rattle.pd_grove.specs.declared.ports.Side.TheVariants.{Inlets, Outlets}
use Rattle.pd_web.specs.declared.jacks.Jack.{Jack}
use Rattle.pd_web.specs.declared.web.Web.{Web}
use Rattle.pd_web.specs.Changes.{HasRoom}
use Rattle.pd_web.specs.Homes.{IsPortOf}
use Rattle.pd_web.specs.Hops.{port_told}
use Rattle.pd_web.specs.Jacks.{KindsSmall, kind_jacks, jacks_at, made_in}
use Rattle.pd_ports.specs.declared.room.PortRoom.{PortRoom}
use Rattle.pd_ports.specs.Room.{HasLists}
use Rattle.pd_ports.specs.Boxes.{HasPorts, IsTrueOf, but_of}
use Rattle.pd_ports.specs.Moves.{keys_at as keys_under}
use Rattle.pd_bind.specs.Owning.{root_owner, owners_in}
use Rattle.pd_owning.specs.Bound.{AreOwnersBut}
use Rattle.pd_patch.specs.declared.patch.Patch.{Patch}
use Rattle.pd_boxes.specs.Put.{node_of, HasOwners}
use Rattle.pd_refitting.specs.Refits.{Becomes, CanRefit}
use Rattle.pd_refitting.proofs.OwnerLemmas.{order_same, owners_follow}
use Rattle.pd_refitting.proofs.BoxLemmas.{forest_as, none_as, small_as, jacks_new, made_new, no_home, had_no_home, IsOther}
use Rattle.pd_refitting.proofs.WireLemmas.{keys_beyond}

pub is_live : (g : Grove) (k : ℕ) (n : Node) → get g.nodes k ≡ Some n → ContainsKey g.nodes k
is_live g k n is = rw is refl

pub written : (g : Grove) (k : ℕ) (found w : Node) (s : Seed) → get g.nodes k ≡ Some found → (found.inner ≡ None → w ≡ node_of found.board s)
    → (n : Node) → get g.nodes k ≡ Some n → n.inner ≡ None → Becomes g (with_node g k w) k (node_of n.board s)
written g k found w s is made n at bare =
    let same : found ≡ n = same_Some found n (sym is ∙ at) in
    let u = Updates-with_value g.nodes k w (is_live g k found is) in
    record {
      is = u.changed ∙ ap (λ (x : Node). Some x) (made (ap (λ (x : Node). x.inner) same ∙ bare)) ∙ ap (λ (x : Node). Some (node_of x.board s)) same;
      others = u.others;
      boards = refl;
      labels = refl;
      root = refl;
    }

-- of the one box that stands under a key
pub can_at : (p : Patch) (key : ℕ) (n n' : Node) (s : Seed) → CanRefit p key n s → get p.grove.nodes key ≡ Some n' → CanRefit p key n' s
can_at p key n n' s C at = subst (λ (x : Node). CanRefit p key x s) (same_Some n n' (sym C.is ∙ at)) C

but_same : (key : ℕ) (o : Option (ℕ × ℕ)) → ((i : ℕ) → o ≡ Some (key, i) → ⊥) → but_of key o ≡ o
but_same key None h = refl
but_same key (Some x) h = ⊎_elim
    (λ (e : x.0 ≡ key). absurd (h x.1 (ap (λ k. Some (k, x.1)) e)))
    (λ (d : x.0 ≢ key). ap (λ b. cond b None (Some x)) (ne_eqb x.0 key d)) (cases_eq x.0 key)

module _ (p : Patch) (key : ℕ) (n : Node) (s : Seed) (C : CanRefit p key n s) (h : Grove) (B : Becomes p.grove h key (node_of n.board s)) where
  is_other : IsOther p.grove h key n (node_of n.board s)
  is_other = record { was = C.is; box = B; lies = refl; bare = C.bare; still_bare = refl; plain = C.plain; still_plain = C.stays_plain }

  pub forest : IsForest (get h.nodes) (get h.boards) h.root
  forest = forest_as p.grove h key n (node_of n.board s) is_other C.can.forest

  pub apart : get h.nodes root_owner ≡ None
  apart = none_as p.grove h key n (node_of n.board s) is_other root_owner C.can.apart

  pub small : KindsSmall h
  small = small_as p.grove h key n (node_of n.board s) is_other C.leaf.small C.can.small

  -- The ports that the box gets.

  lives : (k : ℕ) → IsSome (get h.nodes k) → IsSome (get p.grove.nodes k)
  lives k live = ⊎_elim
      (λ (e : k ≡ key). subst (λ o. IsSome o) (sym (ap (get p.grove.nodes) e ∙ C.is)) refl)
      (λ (d : k ≢ key). subst (λ o. IsSome o) (B.others k d) live) (cases_eq k key)

  pub near : ((k : ℕ) → IsSome (get p.grove.nodes k) → HasRoom p.web (k + 1) 0 0) → (k : ℕ) → IsSome (get h.nodes k) → HasRoom p.web (k + 1) 0 0
  near room k live = room k (lives k live)

  jacks : (side : Side) → jacks_at side h key ≡ kind_jacks side s.row.kind
  jacks = jacks_new p.grove h key n (node_of n.board s) is_other

  pub lists : (room : PortRoom) → HasLists room (length (kind_jacks Inlets s.row.kind)) (length (kind_jacks Outlets s.row.kind)) → HasLists room (length (jacks_at Inlets h key)) (length (jacks_at Outlets h key))
  lists room L =
      subst (λ (js : List Jack). HasLists room (length js) (length (jacks_at Outlets h key))) (sym (jacks Inlets))
      (subst (λ (js : List Jack). HasLists room (length (kind_jacks Inlets s.row.kind)) (length js)) (sym (jacks Outlets)) L)

  pub beyond : (side : Side) (i : ℕ) → length (jacks_at side h key) ≤ i → keys_under p.web side key i ≡ []
  beyond side i l = keys_beyond p.web key s.row.kind C.meet C.wires side i (subst (λ (js : List Jack). length js ≤ i) (jacks side) l)

  never_home : (j i : ℕ) → port_told p.web j ≡ Some (key, i) → ⊥
  never_home j i e = had_no_home p.grove h key n (node_of n.board s) is_other j i (C.can.runs.ports.homes j key i e)

  pub true_of : IsTrueOf p.web key
  true_of j i e = absurd (never_home j i e)

  pub no_home_now : (j i : ℕ) → IsPortOf h j key i → ⊥
  no_home_now = no_home p.grove h key n (node_of n.board s) is_other

  pub homes : (w' : Web) → ((j : ℕ) → ((i : ℕ) → IsPortOf h j key i → ⊥) → port_told w' j ≡ but_of key (port_told p.web j)) → (j : ℕ) → port_told w' j ≡ port_told p.web j
  homes w' others j = others j (no_home_now j) ∙ but_same key (port_told p.web j) (never_home j)

  pub ports : (w' : Web) → HasPorts p.web w' key (λ side. jacks_at side h key) (made_in (get h.nodes key)) → HasPorts p.web w' key (λ side. kind_jacks side s.row.kind) (is_made s.row.kind)
  ports w' P = record {
    ports = λ side. P.ports side ∙ jacks side;
    made = P.made ∙ made_new p.grove h key n (node_of n.board s) is_other;
    other_ports = P.other_ports;
    others_made = P.others_made;
    lines = P.lines;
    fans = P.fans;
    feeds = P.feeds;
  }

  -- the box stands where it stood in text order
  pub stands : (spot : Spot) → (i : ℕ) × (slice_get (spots_in_order p.grove) i ≡ Some spot) → (i : ℕ) × (slice_get (spots_in_order h) i ≡ Some spot)
  stands spot at = (at.0, ap (λ (ps : List Spot). slice_get ps at.0) (order_same p.grove h key n (node_of n.board s) C.is C.bare refl B) ∙ at.1)

  -- names are bound as those of the patch were
  pub owners : (mid new : List Row) (table : Names) (spot : Spot) → spot.node ≡ key
      → ((file away : List ℕ) → AreOwnersBut p.names table file p.grove away → AreOwnersBut mid table file p.grove (spot.node ∷ away))
      → ((file : List ℕ) → AreOwnersBut mid table file h (spot.node ∷ []) → AreOwnersBut new table file h [])
      → (file : List ℕ) → HasOwners p table file → (class : Class) (name : ℕ) → owners_of new class name ≡ owners_in table file h class name
  owners mid new table spot e unbinds binds file H =
      owners_follow p.grove h key n (node_of n.board s) C.is C.bare refl B p.names mid new table file
      (λ a. subst (λ k. AreOwnersBut mid table file p.grove (k ∷ [])) e (unbinds file [] a))
      (λ a. binds file (subst (λ k. AreOwnersBut mid table file h (k ∷ [])) (sym e) a)) H
