-- The wires at a port box, and at the port that it is, are gone: it is ready to go.
use Rattle.std.proofs.Common.{◌≡◌, ◌≢◌, ℕ, ℤ, ◌≤◌, List, [], filter, map, length, slice_get, Option, Some, None, IsSome, refl, sym, ap, ◌∙◌, subst}
use Rattle.std.specs.Prelude.{replicate}
use Rattle.std.specs.List.{insert}
use Rattle.std.proofs.lemmas.Option.{none-some, same_Some}
use Rattle.slab.specs.Slab.{get}
use Rattle.pd_kind.specs.States.{silent_block}
use Rattle.pd_grove.specs.declared.nodes.Node.{Node}
use Rattle.pd_grove.specs.declared.grove.Grove.{Grove}
use Rattle.pd_grove.specs.declared.ports.Side.{Side}
use Rattle.pd_grove.specs.declared.ports.Side.TheVariants.{Inlets, Outlets}
use Rattle.pd_grove.specs.Forest.{holder_in}
use Rattle.pd_grove.specs.Owning.{board_in}
use Rattle.pd_grove.specs.Ports.{port_signal}
use Rattle.pd_grove.specs.Telling.{inner_in}
use Rattle.pd_web.specs.declared.jacks.Jack.{Jack}
use Rattle.pd_web.specs.Canvases.{keys_at}
use Rattle.pd_web.specs.Changes.{KeepsRoom}
use Rattle.pd_web.specs.Hops.{port_told, ports_told}
use Rattle.pd_patch.specs.declared.patch.Patch.{Patch}
use Rattle.pd_patch.specs.Telling.{order_in}
use Rattle.pd_patch.specs.Values.{block_count, blocks_told, first_blocks}
use Rattle.pd_wiring.specs.Changes.{StaysBuilt}
use Rattle.pd_boxes.specs.declared.room.Place.{Place}
use Rattle.pd_boxes.specs.Put.{CanPut}
use Rattle.pd_boxes.specs.Rows.{PutsUnder}
use Rattle.pd_boxes.proofs.AskingLemmas.{put_rewired}
use Rattle.pd_taking.specs.Loosening.{hops_at, is_of_other, Loosens, LosesWires}
use Rattle.pd_misfits.specs.Shedding.{Sheds}
use Rattle.pd_following.specs.Ports.{BlocksFollow}
use Rattle.pd_following.specs.Raising.{Raises}
use Rattle.pd_leaving.specs.Leaving.{CanTakePort}
use Rattle.pd_leaving.specs.Room.{without_at}
use Rattle.pd_leaving.specs.Wires.{port_wires}
use Rattle.pd_leaving.proofs.BlockLemmas.{without_inserted}
use Rattle.pd_leaving.proofs.PortWireLemmas.{port_bare}

module _ (p u r : Patch) (place : Place) (key holder : ℕ) (side : Side) (port first between last : ℕ) (C : CanTakePort p place key holder side port) (A : Loosens p u holder first between)
    (S : Sheds p.web u.web (port_wires p holder side port)) (B : Loosens u r key between last) (W : LosesWires u.web r.web key) where
  pub same_grove : r.grove ≡ p.grove
  same_grove = B.rest.grove ∙ A.rest.grove

  pub can_then : CanPut r
  can_then = put_rewired p r same_grove B.rewires C.can

  pub stands_then : slice_get (keys_at r.grove place.canvas) place.number ≡ Some key
  stands_then = ap (λ (g : Grove). slice_get (keys_at g place.canvas) place.number) same_grove ∙ C.is

  pub leaf_then : inner_in (get r.grove.nodes key) ≡ None
  leaf_then = ap (λ (g : Grove). inner_in (get g.nodes key)) same_grove ∙ ap inner_in C.stands ∙ C.leaf

  pub held_then : holder_in (get r.grove.boards place.canvas) ≡ Some holder
  held_then = ap (λ (g : Grove). holder_in (get g.boards place.canvas)) same_grove ∙ C.at.held

  pub told_then : port_told r.web key ≡ Some (holder, port)
  told_then = W.kept.homes key ∙ A.web.kept.homes key ∙ C.numbered

  pub port_then : (n : Node) → get r.grove.nodes key ≡ Some n → IsSome (port_signal side n.kind)
  port_then n was =
      let same : C.node ≡ n = same_Some C.node n (sym C.stands ∙ ap (λ (g : Grove). get g.nodes key) (sym same_grove) ∙ was) in
      subst (λ (m : Node). IsSome (port_signal side m.kind)) same C.at.port

  pub ports_then : (t : Side) (k : ℕ) → ports_told r.web t k ≡ ports_told p.web t k
  ports_then t k = W.kept.ports t k ∙ A.web.kept.ports t k

  pub values_then : r.values ≡ p.values
  values_then = B.rest.values ∙ A.rest.values

  pub built_then : StaysBuilt p r
  built_then names file rate b = B.built names file rate (A.built names file rate b)

  pub room_then : KeepsRoom p.web r.web
  room_then k n m h = W.room k n m (A.web.room k n m h)

  pub live_then : (k : ℕ) → IsSome (get r.grove.nodes k) → IsSome (get p.grove.nodes k)
  live_then k s = subst (λ (g : Grove). IsSome (get g.nodes k)) same_grove s

  holder_holds : inner_in (get p.grove.nodes holder) ≡ Some place.canvas
  holder_holds = C.can.forest.held place.canvas holder C.at.held

  pub holder_lives : IsSome (get p.grove.nodes holder)
  holder_lives = by (get p.grove.nodes holder) holder_holds
    where
      by : (o : Option Node) → inner_in o ≡ Some place.canvas → IsSome o
      by None e = absurd (none-some place.canvas e)
      by (Some n) e = refl

  key_lies : board_in (get p.grove.nodes key) ≡ Some place.canvas
  key_lies = C.can.forest.own.home place.canvas place.number key C.is

  pub key_lives : IsSome (get p.grove.nodes key)
  key_lives = subst (λ o. IsSome o) (sym C.stands) refl

  apart : holder ≢ key
  apart e = none-some place.canvas (sym (ap inner_in C.stands ∙ C.leaf) ∙ ap (λ x. inner_in (get p.grove.nodes x)) (sym e) ∙ holder_holds)

  -- no wire stands at the port
  pub none_then : hops_at r.web side holder port ≡ []
  none_then = by side (port_bare p.web u.web p.numbers.items side holder port S)
    where
      by : (t : Side) → hops_at u.web t holder port ≡ [] → hops_at r.web t holder port ≡ []
      by Inlets e = W.feeds holder port apart ∙ ap (filter (is_of_other key)) e
      by Outlets e = W.fans holder port apart ∙ ap (filter (is_of_other key)) e

  pub orders_then : (c : ℕ) → c ≢ place.canvas → board_in (get p.grove.nodes holder) ≢ Some c → order_in r.orders.items c ≡ order_in p.orders.items c
  orders_then c f away =
      B.rest.orders c (λ lies. f (same_Some c place.canvas (sym lies ∙ ap (λ (g : Grove). board_in (get g.nodes key)) A.rest.grove ∙ key_lies))) ∙ A.rest.orders c away

-- The box around has the blocks that were set aside, where an outlet went.
module _ (o q : Patch) (holder : ℕ) (side : Side) (port : ℕ) (jack : Jack) (X : Raises q.web o.web holder side port jack) (had : List Jack) (same : ports_told o.web Outlets holder ≡ had)
    (blocks : List (List ℤ)) (are : blocks ≡ replicate (block_count (without_at had port)) silent_block) where
  blocks_then : side ≡ Outlets → blocks ≡ first_blocks q.web holder
  blocks_then e =
      let more : had ≡ insert (ports_told q.web Outlets holder) port jack =
      sym same ∙ subst (λ (t : Side). ports_told o.web t holder ≡ insert (ports_told q.web t holder) port jack) e X.ports in
      are ∙ ap (λ (js : List Jack). replicate (block_count js) silent_block)
      (ap (λ (js : List Jack). without_at js port) more
      ∙ without_inserted (ports_told q.web Outlets holder) port jack (subst (λ (t : Side). port ≤ length (ports_told q.web t holder)) e X.within))

  pub blocks_lost : (side ≡ Inlets → q.values ≡ o.values) → (side ≡ Outlets → PutsUnder (blocks_told o) (blocks_told q) holder blocks) → BlocksFollow side o q holder
  blocks_lost inlets outlets = by side refl
    where
      by : (t : Side) → side ≡ t → BlocksFollow t o q holder
      by Inlets e = ap (λ vs. map (λ b. b.items) vs.items) (inlets e)
      by Outlets e = subst (λ (bs : List (List ℤ)). PutsUnder (blocks_told o) (blocks_told q) holder bs) (blocks_then e) (outlets e)
