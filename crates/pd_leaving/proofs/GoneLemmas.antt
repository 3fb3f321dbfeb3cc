-- A port box without wires is out of its canvas: what is left of a running patch, and what the box around asks to lose its port.
use Rattle.std.proofs.Common.{◌≡◌, ◌≢◌, ℕ, suc, ◌+◌, ◌≤◌, ◌==◌, ◌||◌, Bool, true, false, cond, [], ◌∷◌, length, slice_get, Option, Some, None, IsSome, inl, inr, eq-eqb, eqb-true, refl, sym, ap, ◌∙◌, subst, arith}
use mathlib.Core.Logic.{⊎_elim}
use Rattle.std.proofs.lemmas.Bool.{cases_eq, false≢true}
use Rattle.std.proofs.lemmas.Option.{same_Some}
use Rattle.slab.specs.Slab.{get}
use Rattle.pd_atom.specs.Names.{Names}
use Rattle.pd_grove.specs.declared.ports.Side.{Side}
use Rattle.pd_grove.specs.declared.ports.Side.TheVariants.{Inlets, Outlets}
use Rattle.pd_grove.specs.Forest.{holder_in, IsForest}
use Rattle.pd_grove.specs.Grafts.{HasBoxMore}
use Rattle.pd_grove.specs.Ports.{port_signal}
use Rattle.pd_grove.specs.Telling.{inner_in}
use Rattle.pd_owning.specs.Bound.{is_among}
use Rattle.pd_web.specs.declared.web.Web.{Web}
use Rattle.pd_web.specs.Canvases.{keys_at}
use Rattle.pd_web.specs.Changes.{KeepsRoom, Meet}
use Rattle.pd_web.specs.Hops.{ports_told, port_told}
use Rattle.pd_web.specs.Jacks.{jacks_at}
use Rattle.pd_web.specs.Sockets.{made_at}
use Rattle.pd_ports.specs.Boxes.{but_of, HasNoWires}
use Rattle.pd_ports.specs.Known.{AreBareWithout, AreFreeFor, KnowsHomes}
use Rattle.pd_patch.specs.declared.patch.Patch.{Patch}
use Rattle.pd_patch.specs.Linked.{HasLinks, StayInside}
use Rattle.pd_patch.specs.Numbers.{AreUnder}
use Rattle.pd_wiring.specs.Graphs.{AreOrderedBy}
use Rattle.pd_placing.specs.Placing.{LacksBox}
use Rattle.pd_boxes.specs.declared.room.Place.{Place}
use Rattle.pd_boxes.specs.Put.{keys_before, CanPut}
use Rattle.pd_taking.specs.Loosening.{hops_at}
use Rattle.pd_clearing.specs.Clearing.{keys_past}
use Rattle.pd_clearing.specs.Layers.{but_of_all, ClosesAll}
use Rattle.pd_clearing.proofs.ReadyLemmas.{drop_at, forest_left, keys_stay, ordered_left, was_live, IsReady}
use Rattle.pd_clearing.proofs.WireLemmas.{inside_left, linked_left}
use Rattle.pd_following.specs.Ports.{port_jack}
use Rattle.pd_following.specs.Raising.{IsOneMore}
use Rattle.pd_following.proofs.ComeLemmas.{same_side}
use Rattle.pd_following.proofs.JackLemmas.{holder_old, jacks_same}
use Rattle.pd_following.proofs.ListLemmas.{insert_length}
use Rattle.pd_leaving.specs.Leaving.{GoesOut}
use Rattle.pd_leaving.proofs.BackLemmas.{no_keys}
use Rattle.pd_leaving.proofs.GraftLemmas.{one_box_more}
use Rattle.pd_leaving.proofs.LeaveLemmas.{bare_without, free_for_left, has_more, one_more_before}
use Rattle.pd_leaving.proofs.OutLemmas.{leaf_ready, no_orders_go, only_one}

or_false : (b : Bool) → (b || false) ≡ b
or_false true = refl
or_false false = refl

not_one : (x key : ℕ) → is_among (key ∷ []) x ≡ false → x ≢ key
not_one x key f e = false≢true (sym f ∙ or_false (x == key) ∙ eq-eqb x key e)

but_one : (key : ℕ) (o : Option (ℕ × ℕ)) → but_of_all (key ∷ []) o ≡ but_of key o
but_one key None = refl
but_one key (Some x) = ap (λ (b : Bool). cond b None (Some x)) (or_false (x.0 == key))

differ_test : (a b : ℕ) → a ≢ b → (a == b) ≡ false
differ_test a b d = step (a == b) refl
  where
    step : (t : Bool) → (a == b) ≡ t → (a == b) ≡ false
    step true e = absurd (d (eqb-true a b e))
    step false e = e

module _ (r o : Patch) (table : Names) (place : Place) (key : ℕ) (can : CanPut r) (is : slice_get (keys_at r.grove place.canvas) place.number ≡ Some key) (leaf : inner_in (get r.grove.nodes key) ≡ None)
    (meet : Meet r.web) (bare : HasNoWires r.web key) (O : GoesOut r o table place key) (known : KnowsHomes o.web) (lacks : LacksBox r.grove r.links o.orders.items place.canvas key)
    (room : KeepsRoom r.web o.web) where
  pub R : IsReady r place key (key ∷ [])
  R = leaf_ready r place key can is leaf meet bare

  closes : ClosesAll r.web o.web (key ∷ [])
  closes = record {
    gone = λ side k t. ap (ports_told o.web side) (only_one k key t) ∙ O.ports.ports side;
    unmade = λ k t. ap (made_at o.web.sockets.items) (only_one k key t) ∙ O.ports.made;
    ports = λ side k f. O.ports.other_ports side k (not_one k key f);
    made = λ k f. O.ports.others_made k (not_one k key f);
    lines = O.ports.lines;
    fans = O.ports.fans;
    feeds = O.ports.feeds;
    homes = λ j. O.homes j ∙ sym (but_one key (port_told r.web j));
    room = room;
    known = known;
  }

  holds_none : O.node.inner ≡ None
  holds_none = sym (ap inner_in O.grove.was) ∙ leaf

  pub X : HasBoxMore (get o.grove.nodes) (get r.grove.nodes) (get o.grove.boards) (get r.grove.boards) place.canvas key O.node (keys_before r place) (keys_past r place)
  X = one_box_more (get r.grove.nodes) (get o.grove.nodes) (get r.grove.boards) (get o.grove.boards) place.canvas key O.node (keys_before r place) (keys_past r place) O.grove holds_none

  pub F : IsForest (get o.grove.nodes) (get o.grove.boards) r.grove.root
  F = forest_left r place key (key ∷ []) R o.grove O.node O.grove

  pub inside_out : StayInside o.grove o.web
  inside_out = inside_left r place key (key ∷ []) R o.grove O.node O.grove o.web closes

  pub linked_out : HasLinks o.web r.links
  linked_out = linked_left r place key (key ∷ []) R o.grove O.node O.grove o.web closes

  pub ordered_out : AreOrderedBy o.grove r.links o.orders.items
  ordered_out = ordered_left r place key (key ∷ []) R o.grove O.node O.grove o.orders.items o.orders.items lacks O.other_orders (no_orders_go r key o.orders.items leaf)

  pub numbered_out : (d : ℕ) → AreUnder o.numbers.items (keys_at o.grove d)
  numbered_out d = ⊎_elim
      (λ (e : d ≡ place.canvas). subst (λ x. AreUnder o.numbers.items (keys_at o.grove x)) (sym e) O.numbers)
      (λ (f : d ≢ place.canvas). λ i x at.
      let was : slice_get (keys_at r.grove d) i ≡ Some x = keys_stay r place key (key ∷ []) R o.grove O.node O.grove d i x f at in
      O.other_numbers x (λ j there. f (same_Some d place.canvas (sym (can.forest.own.home d i x was)
      ∙ can.forest.own.home place.canvas (place.number + 1 + j) x (drop_at (keys_at r.grove place.canvas) (place.number + 1) j x there)))) ∙ can.runs.numbers d i x was)
      (cases_eq d place.canvas)

  pub live_before : (l : ℕ) → IsSome (get o.grove.nodes l) → IsSome (get r.grove.nodes l)
  live_before = was_live r place key (key ∷ []) R o.grove O.node O.grove

  -- The box is a port of the box around.
  module _ (holder : ℕ) (held : holder_in (get r.grove.boards place.canvas) ≡ Some holder) (side : Side) (port_is : IsSome (port_signal side O.node.kind)) where
    held_now : holder_in (get o.grove.boards place.canvas) ≡ Some holder
    held_now = ap holder_in O.grove.without ∙ O.grove.holder ∙ sym (ap holder_in O.grove.board) ∙ held

    pub holds_now : inner_in (get o.grove.nodes holder) ≡ Some place.canvas
    holds_now = F.held place.canvas holder held_now

    pub holder_other : holder ≢ key
    holder_other = holder_old o.grove r.grove place.canvas key O.node (keys_before r place) (keys_past r place) X r.grove.root F holder held_now side port_is

    -- every other box has the ports that it had, and the box around has those of the other side
    pub same_jacks : (t : Side) (l : ℕ) → l ≢ key → (l ≡ holder → t ≢ side) → jacks_at t r.grove l ≡ jacks_at t o.grove l
    same_jacks = jacks_same o.grove r.grove place.canvas key O.node (keys_before r place) (keys_past r place) X r.grove.root F holder held_now side port_is

    pub ports_had : ports_told o.web side holder ≡ jacks_at side r.grove holder
    ports_had = O.ports.other_ports side holder holder_other ∙ can.runs.ports.ports side holder

    module _ (port : ℕ) (told : port_told r.web key ≡ Some (holder, port)) where
      told_now : port_told o.web key ≡ Some (holder, port)
      told_now = O.homes key ∙ ap (but_of key) told ∙ ap (λ (b : Bool). cond b None (Some (holder, port))) (differ_test holder key holder_other)

      pub one_more : (w : Web) → ports_told w side holder ≡ jacks_at side o.grove holder → IsOneMore w r.grove holder side port (port_jack side O.node.kind key)
      one_more = one_more_before o.grove r.grove place.canvas key O.node (keys_before r place) (keys_past r place) X r.grove.root F holder held_now side port_is o.web ports_had known port told_now

      -- there were no fewer ports on either side
      pub no_fewer : (t : Side) → length (jacks_at t o.grove holder) ≤ length (ports_told r.web t holder)
      no_fewer t = elim (same_side t side) [
        | inl e ↦
            let now : length (ports_told r.web t holder) ≡ suc (length (jacks_at t o.grove holder)) =
            subst (λ (x : Side). length (ports_told r.web x holder) ≡ suc (length (jacks_at x o.grove holder))) (sym e)
            (ap length (sym (O.ports.other_ports side holder holder_other))
            ∙ ap length (has_more o.grove r.grove place.canvas key O.node (keys_before r place) (keys_past r place) X r.grove.root F holder held_now side port_is o.web ports_had known port told_now)
            ∙ insert_length (jacks_at side o.grove holder) port (port_jack side O.node.kind key)) in
            omega (arith, now)
        | inr d ↦ let now = ap length (can.runs.ports.ports t holder ∙ same_jacks t holder holder_other (λ _. d)) in omega (arith, now)
      ]

      pub free_out : AreFreeFor o.web holder side (jacks_at side o.grove holder)
      free_out = free_for_left o.grove r.grove place.canvas key O.node (keys_before r place) (keys_past r place) X r.grove.root F holder held_now side port_is o.web ports_had known port told_now

      pub bare_out : hops_at r.web side holder port ≡ [] → AreBareWithout o.web holder side (jacks_at side o.grove holder)
      bare_out none =
          bare_without o.grove r.grove place.canvas key O.node (keys_before r place) (keys_past r place) X r.grove.root F holder held_now side port_is o.web ports_had known port told_now
          (no_keys o.web side holder port (same_hops side ∙ none))
        where
          same_hops : (s : Side) → hops_at o.web s holder port ≡ hops_at r.web s holder port
          same_hops Inlets = O.ports.feeds holder port
          same_hops Outlets = O.ports.fans holder port
