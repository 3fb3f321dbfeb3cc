-- The box around has lost its port: a patch that ran goes on to run.
use Rattle.std.proofs.Common.{◌≡◌, ◌≢◌, ℕ, ℤ, ◌<◌, List, [], ◌∷◌, slice_get, Option, Some, None, IsSome, inl, inr, refl, sym, ap, ◌∙◌, subst}
use Rattle.std.specs.Prelude.{option_map, option_and_then, replicate}
use Rattle.std.proofs.lemmas.Bool.{cases_eq, false≢true}
use Rattle.std.proofs.lemmas.Option.{none-some}
use Rattle.slab.specs.Slab.{get}
use Rattle.pd_atom.specs.Names.{Names}
use Rattle.pd_clock.specs.declared.times.Rate.{Rate}
use Rattle.pd_links.specs.declared.links.Links.{Links}
use Rattle.pd_grove.specs.declared.grove.Grove.{Grove}
use Rattle.pd_grove.specs.declared.ports.Side.{Side}
use Rattle.pd_grove.specs.declared.ports.Side.TheVariants.{Inlets, Outlets}
use Rattle.pd_grove.specs.Forest.{holder_in, IsForest}
use Rattle.pd_grove.specs.Owning.{AreOwn}
use Rattle.pd_grove.specs.Ports.{port_signal}
use Rattle.pd_grove.specs.Telling.{inner_in}
use Rattle.pd_bind.specs.Owning.{root_owner, owners_in}
use Rattle.pd_name.specs.Rows.{owners_of}
use Rattle.pd_web.specs.declared.jacks.Jack.{Jack}
use Rattle.pd_web.specs.Canvases.{keys_at}
use Rattle.pd_web.specs.Changes.{KeepsRoom, Meet}
use Rattle.pd_web.specs.Hops.{ports_told}
use Rattle.pd_web.specs.Jacks.{jacks_at, jacks_in, made_in, KindsSmall}
use Rattle.pd_web.specs.Sockets.{made_at}
use Rattle.pd_ports.specs.Boxes.{HasNoWires}
use Rattle.pd_ports.specs.Known.{KnowsHomes}
use Rattle.pd_patch.specs.declared.patch.Patch.{Patch}
use Rattle.pd_patch.specs.Built.{block_sizes, HasPorts, IsBuilt}
use Rattle.pd_patch.specs.Linked.{HasLinks, StayInside}
use Rattle.pd_patch.specs.Numbers.{AreUnder}
use Rattle.pd_patch.specs.Orders.{AreOrdered}
use Rattle.pd_patch.specs.Values.{block_at, block_count, blocks_told}
use Rattle.pd_wiring.specs.Changes.{CanRewire}
use Rattle.pd_wiring.specs.Graphs.{AreWired}
use Rattle.pd_wiring.proofs.GraphLemmas.{ordered_by_wires}
use Rattle.pd_placing.specs.Placing.{LacksBox}
use Rattle.pd_boxes.specs.declared.room.Place.{Place}
use Rattle.pd_boxes.specs.Put.{CanPut}
use Rattle.pd_clearing.proofs.ReadyLemmas.{apart_left, small_left}
use Rattle.pd_following.specs.Ports.{port_jack, BlocksFollow}
use Rattle.pd_following.proofs.ComeLemmas.{same_side}
use Rattle.pd_following.proofs.RunLemmas.{known_found, known_had, outlets_differ, silent_sizes}
use Rattle.pd_leaving.specs.Leaving.{GoesOut, LeavesPort}
use Rattle.pd_leaving.proofs.BackLemmas.{inside_lowered, links_lowered}
use Rattle.pd_leaving.proofs.GoneLemmas.{holder_other, holds_now, inside_out, linked_out, live_before, numbered_out, ordered_out, same_jacks, F, R, X}

module _ (r o q : Patch) (table : Names) (place : Place) (key : ℕ) (can : CanPut r) (is : slice_get (keys_at r.grove place.canvas) place.number ≡ Some key) (leaf : inner_in (get r.grove.nodes key) ≡ None)
    (meet : Meet r.web) (bare : HasNoWires r.web key) (O : GoesOut r o table place key) (known : KnowsHomes o.web) (lacks : LacksBox r.grove r.links o.orders.items place.canvas key)
    (room : KeepsRoom r.web o.web) (holder : ℕ) (held : holder_in (get r.grove.boards place.canvas) ≡ Some holder) (side : Side) (port_is : IsSome (port_signal side O.node.kind)) (port : ℕ)
    (L : LeavesPort o q holder side port (port_jack side O.node.kind key)) where
  forest : IsForest (get o.grove.nodes) (get o.grove.boards) r.grove.root
  forest = F r o table place key can is leaf meet bare O known lacks room

  other : holder ≢ key
  other = holder_other r o table place key can is leaf meet bare O known lacks room holder held side port_is

  stays : (l : ℕ) → l ≢ key → get r.grove.nodes l ≡ get o.grove.nodes l
  stays = (X r o table place key can is leaf meet bare O known lacks room).others

  -- Ports.

  ports_by : (t : Side) (l : ℕ) → (l ≡ holder → t ≢ side) → ports_told q.web t l ≡ jacks_at t o.grove l
  ports_by t l differ = L.follows.other_ports t l differ ∙ elim (cases_eq l key) [
    | inl e ↦ ap (ports_told o.web t) e ∙ O.ports.ports t ∙ sym (ap (jacks_in t o.grove) (ap (get o.grove.nodes) e ∙ O.grove.gone))
    | inr d ↦ O.ports.other_ports t l d ∙ can.runs.ports.ports t l ∙ same_jacks r o table place key can is leaf meet bare O known lacks room holder held side port_is t l d differ
  ]

  ports_now : ports_told q.web side holder ≡ jacks_at side o.grove holder
  ports_now = L.follows.ports ∙ ap (λ (g : Grove). jacks_at side g holder) L.rest.grove

  all_ports : (t : Side) (l : ℕ) → ports_told q.web t l ≡ jacks_at t o.grove l
  all_ports t l = elim (same_side t side) [
    | inr d ↦ ports_by t l (λ _. d)
    | inl e ↦ elim (cases_eq l holder) [
      | inr d ↦ ports_by t l (λ h. absurd (d h))
      | inl h ↦ ap (λ x. ports_told q.web t x) h ∙ subst (λ (u : Side). ports_told q.web u holder ≡ jacks_at u o.grove holder) (sym e) ports_now ∙ ap (jacks_at t o.grove) (sym h)
    ]
  ]

  all_made : (l : ℕ) → made_at q.web.sockets.items l ≡ made_in (get o.grove.nodes l)
  all_made l = L.follows.made l ∙ elim (cases_eq l key) [
    | inl e ↦ ap (made_at o.web.sockets.items) e ∙ O.ports.made ∙ sym (ap made_in (ap (get o.grove.nodes) e ∙ O.grove.gone))
    | inr d ↦ O.ports.others_made l d ∙ can.runs.ports.made l ∙ ap made_in (stays l d)
  ]

  has_ports : HasPorts o.grove q.web
  has_ports = record {
    ports = all_ports;
    made = all_made;
    homes = known_had o.grove q.web all_ports L.known;
    homes_found = known_found o.grove q.web all_ports L.known;
  }

  -- Wires.

  inside : StayInside o.grove q.web
  inside = inside_lowered q.web o.web holder side port (port_jack side O.node.kind key) L.lowers o.grove (inside_out r o table place key can is leaf meet bare O known lacks room)

  linked : HasLinks q.web r.links
  linked = links_lowered q.web o.web holder side port (port_jack side O.node.kind key) L.lowers r.links (linked_out r o table place key can is leaf meet bare O known lacks room)

  wired : AreWired o.grove q.web r.links
  wired = record { own = forest.own; ports = all_ports; inside = inside; linked = linked }

  ordered : AreOrdered o.grove q.web o.orders.items
  ordered = ordered_by_wires o.grove q.web r.links wired o.orders.items (ordered_out r o table place key can is leaf meet bare O known lacks room)

  same_links : q.links ≡ r.links
  same_links = L.rest.links ∙ O.links

  pub lost_rewires : CanRewire q
  lost_rewires = record {
    own = subst (λ (g : Grove). AreOwn (get g.nodes) (get g.boards)) (sym L.rest.grove) forest.own;
    ports = subst (λ (g : Grove). HasPorts g q.web) (sym L.rest.grove) has_ports;
    inside = subst (λ (g : Grove). StayInside g q.web) (sym L.rest.grove) inside;
    linked = subst (λ (l : Links). HasLinks q.web l) (sym same_links) linked;
    orders = subst (λ (g : Grove). AreOrdered g q.web q.orders.items) (sym L.rest.grove) (subst (λ os. AreOrdered o.grove q.web os.items) (sym L.orders) ordered);
    numbers = λ d. subst (λ (g : Grove). AreUnder q.numbers.items (keys_at g d)) (sym L.rest.grove)
        (subst (λ ns. AreUnder ns.items (keys_at o.grove d)) (sym L.rest.numbers) (numbered_out r o table place key can is leaf meet bare O known lacks room d));
  }

  pub lost_can : CanPut q
  lost_can = record {
    forest = subst (λ (g : Grove). IsForest (get g.nodes) (get g.boards) g.root) (sym L.rest.grove) (subst (λ (x : ℕ). IsForest (get o.grove.nodes) (get o.grove.boards) x) (sym O.root) forest);
    small = subst (λ (g : Grove). KindsSmall g) (sym L.rest.grove) (small_left r place key (key ∷ []) (R r o table place key can is leaf meet bare O known lacks room) o.grove O.node O.grove);
    apart = subst (λ (g : Grove). get g.nodes root_owner ≡ None) (sym L.rest.grove) (apart_left r place key (key ∷ []) (R r o table place key can is leaf meet bare O known lacks room) o.grove O.node O.grove);
    runs = lost_rewires;
  }

  -- Blocks.

  not_key : (l : ℕ) → IsSome (get o.grove.nodes l) → l ≢ key
  not_key l live e = gone (get o.grove.nodes l) (ap (get o.grove.nodes) e ∙ O.grove.gone) live
    where
      gone : {Y : Type 0} (y : Option Y) → y ≡ None → IsSome y → ⊥
      gone None e h = false≢true h
      gone (Some y) e h = none-some y (sym e)

  live : (l : ℕ) → IsSome (get o.grove.nodes l) → IsSome (get r.grove.nodes l)
  live = live_before r o table place key can is leaf meet bare O known lacks room

  module _ (file : List ℕ) (rate : Rate) (b : IsBuilt r table file rate) where
    out_blocks : (l : ℕ) → IsSome (get o.grove.nodes l) → option_map block_sizes (slice_get (blocks_told o) l) ≡ Some (replicate (block_count (ports_told o.web Outlets l)) 64)
    out_blocks l s =
        ap (option_map block_sizes) (O.blocks.others l (not_key l s)) ∙ b.blocks l (live l s)
        ∙ ap (λ (js : List Jack). Some (replicate (block_count js) 64)) (sym (O.ports.other_ports Outlets l (not_key l s)))

    lost_blocks : (t : Side) → t ≡ side → BlocksFollow t o q holder → (l : ℕ) → IsSome (get o.grove.nodes l)
        → option_map block_sizes (slice_get (blocks_told q) l) ≡ Some (replicate (block_count (ports_told q.web Outlets l)) 64)
    lost_blocks Inlets same B l s =
        ap (λ (bs : List (List (List ℤ))). option_map block_sizes (slice_get bs l)) B ∙ out_blocks l s
        ∙ ap (λ (js : List Jack). Some (replicate (block_count js) 64)) (sym (L.follows.other_ports Outlets l (λ _ e. outlets_differ (same ∙ sym e))))
    lost_blocks Outlets same B l s = elim (cases_eq l holder) [
      | inl e ↦
          ap (λ x. option_map block_sizes (slice_get (blocks_told q) x)) e ∙ ap (option_map block_sizes) B.is
          ∙ ap (λ (ns : List ℕ). Some ns) (silent_sizes (block_count (ports_told q.web Outlets holder)))
          ∙ ap (λ x. Some (replicate (block_count (ports_told q.web Outlets x)) 64)) (sym e)
      | inr d ↦ ap (option_map block_sizes) (B.others l d) ∙ out_blocks l s
          ∙ ap (λ (js : List Jack). Some (replicate (block_count js) 64)) (sym (L.follows.other_ports Outlets l (λ e. absurd (d e))))
    ]

    out_none : (l outlet : ℕ) → get o.grove.nodes l ≡ None → block_at (blocks_told o) l outlet ≡ None
    out_none l outlet none = elim (cases_eq l key) [
      | inl e ↦ ap (λ x. block_at (blocks_told o) x outlet) e ∙ ap (option_and_then (λ own. slice_get own outlet)) O.blocks.is
      | inr d ↦ ap (option_and_then (λ own. slice_get own outlet)) (O.blocks.others l d) ∙ b.no_others l outlet (stays l d ∙ none)
    ]

    not_holder : (l : ℕ) → get o.grove.nodes l ≡ None → l ≢ holder
    not_holder l none e =
        none-some place.canvas (sym (ap inner_in none) ∙ ap (λ x. inner_in (get o.grove.nodes x)) e
        ∙ holds_now r o table place key can is leaf meet bare O known lacks room holder held side port_is)

    lost_none : (t : Side) → BlocksFollow t o q holder → (l outlet : ℕ) → get o.grove.nodes l ≡ None → block_at (blocks_told q) l outlet ≡ None
    lost_none Inlets B l outlet none = ap (λ (bs : List (List (List ℤ))). block_at bs l outlet) B ∙ out_none l outlet none
    lost_none Outlets B l outlet none = ap (option_and_then (λ own. slice_get own outlet)) (B.others l (not_holder l none)) ∙ out_none l outlet none

    was_built : (l : ℕ) → IsSome (get q.grove.nodes l) → IsSome (get o.grove.nodes l)
    was_built l s = subst (λ (g : Grove). IsSome (get g.nodes l)) L.rest.grove s

    pub lost_built : IsBuilt q table file rate
    lost_built = record {
      own = lost_rewires.own;
      keys = λ l s. b.keys l (live l (was_built l s));
      ports = lost_rewires.ports;
      owners = λ class name. ap (λ ns. owners_of ns class name) L.rest.names ∙ O.owners file b.owners class name ∙ ap (λ (g : Grove). owners_in table file g class name) (sym L.rest.grove);
      apart = lost_can.apart;
      inside = lost_rewires.inside;
      linked = lost_rewires.linked;
      orders = lost_rewires.orders;
      numbers = lost_rewires.numbers;
      blocks = λ l s. lost_blocks side refl L.blocks l (was_built l s);
      no_others = λ l outlet none. lost_none side L.blocks l outlet (ap (λ (g : Grove). get g.nodes l) (sym L.rest.grove) ∙ none);
      room = λ l s. subst (λ n. l < n) (sym (ap (λ ts. ts.end) L.rest.clocks ∙ O.clock_room)) (b.room l (live l (was_built l s)));
      same_rate = L.rest.rate ∙ O.rate ∙ b.same_rate;
    }
