-- A patch that runs, of which a port box stands elsewhere, and with it a port of the box around.
use Rattle.std.proofs.Common.{◌≡◌, ◌≢◌, ℕ, ℤ, zero, suc, ◌<◌, ◌||◌, Bool, true, false, List, [], ◌∷◌, map, length, slice_get, Some, IsSome, inl, inr, refl, sym, ap, ◌∙◌, subst, arith}
use Rattle.std.specs.Prelude.{if◌then◌else◌}
use Rattle.std.specs.List.{insert, list_any, AllByRecursion}
use Rattle.std.proofs.lemmas.Bool.{cases_eq}
use Rattle.std.proofs.lemmas.Option.{same_Some}
use Rattle.slab.specs.Slab.{get}
use Rattle.pd_links.specs.declared.links.Links.{Links}
use Rattle.pd_grove.specs.declared.grove.Grove.{Grove}
use Rattle.pd_grove.specs.declared.ports.PortSpot.{PortSpot}
use Rattle.pd_grove.specs.declared.ports.Side.{Side}
use Rattle.pd_grove.specs.declared.ports.Side.TheVariants.{Inlets, Outlets}
use Rattle.pd_grove.specs.Forest.{holder_in}
use Rattle.pd_grove.specs.Refits.{at_place, Alters}
use Rattle.pd_grove.specs.Ports.{ports_among}
use Rattle.pd_grove.specs.Telling.{inner_in as canvas_in, keys_in}
use Rattle.pd_bind.specs.Owning.{root_owner}
use Rattle.pd_web.specs.declared.jacks.Jack.{Jack}
use Rattle.pd_web.specs.declared.web.Hop.{Hop}
use Rattle.pd_web.specs.declared.web.Web.{Web}
use Rattle.pd_web.specs.Homes.{inner_in}
use Rattle.pd_web.specs.Hops.{ports_told, jack_told, fan_hops}
use Rattle.pd_web.specs.Jacks.{jacks_at, spot_jack}
use Rattle.pd_ports.specs.Known.{HoldAlone, KnowsHomes}
use Rattle.pd_patch.specs.declared.patch.Patch.{Patch}
use Rattle.pd_patch.specs.Built.{HasPorts}
use Rattle.pd_patch.specs.Linked.{HasLinks, StayInside, ShareCanvas}
use Rattle.pd_patch.specs.Orders.{AreOrdered}
use Rattle.pd_patch.specs.Values.{block_count}
use Rattle.pd_wiring.specs.Graphs.{AreOrderedBy, AreWired}
use Rattle.pd_wiring.proofs.GraphLemmas.{ordered_by_links, ordered_by_wires}
use Rattle.pd_placing.proofs.ChangeLemmas.{alike_all}
use Rattle.pd_boxes.specs.Put.{CanPut}
use Rattle.pd_following.specs.Ports.{port_jack}
use Rattle.pd_following.proofs.ComeLemmas.{same_side}
use Rattle.pd_following.proofs.JackLemmas.{ports_held}
use Rattle.pd_following.proofs.ListLemmas.{insert_here, insert_length}
use Rattle.pd_following.proofs.RunLemmas.{known_found, known_had}
use Rattle.pd_sliding.specs.Slides.{IsOneElsewhere, Slides}
use Rattle.pd_sliding.specs.Sliding.{CanSlide, StaysButPorts}
use Rattle.pd_sliding.proofs.GroveLemmas.{forest_as, holds, holds_then, jacks_same, made_as, new, none_as, old, rest_jacks, signal_as, small_as, StandsAmong}
use Rattle.pd_sliding.proofs.WireLemmas.{inside_slid, links_slid}

-- the one is among the boxes wherever it is put
any_insert : {X : Type 0} (t : X → Bool) (xs : List X) (at : ℕ) (x : X) → list_any t (insert xs at x) ≡ (t x || list_any t xs)
any_insert t xs zero x = refl
any_insert t [] (suc at) x = refl
any_insert t (y ∷ xs) (suc at) x = ap (λ (b : Bool). t y || b) (any_insert t xs at x) ∙ swap (t y) (t x) (list_any t xs)
  where
    swap : (a b c : Bool) → (a || (b || c)) ≡ (b || (a || c))
    swap true true c = refl
    swap true false c = refl
    swap false b c = refl

count_by : Bool → ℕ → ℕ
count_by b n = if b then n else 0

-- each port of a canvas is a box
spot_boxes : (spots : List PortSpot) (i : ℕ) → i < length (map spot_jack spots) → IsSome (inner_in (slice_get (map spot_jack spots) i))
spot_boxes [] i l = absurd (omega (arith, l))
spot_boxes (s ∷ spots) zero l = refl
spot_boxes (s ∷ spots) (suc i) l = spot_boxes spots i (omega (arith, l))

-- no two boxes of a patch hold one canvas
pub hold_alone : (p : Patch) → CanPut p → HoldAlone p.grove
hold_alone p C k l c a b = same_Some k l (sym (C.forest.inside k c a) ∙ C.forest.inside l c b)

module _ (p : Patch) (h : Grove) (key holder : ℕ) (side : Side) (from : ℕ) (x y : ℤ) (C : CanSlide p key holder side from) (A : Alters p.grove h key (at_place x y)) where
  pub held : holder_in (get p.grove.boards C.node.board) ≡ Some holder
  held = ap (λ c. holder_in (get p.grove.boards c)) (sym C.canvas) ∙ C.at.held

  pub box_holds : canvas_in (get h.nodes holder) ≡ Some C.node.board
  box_holds = holds_then p.grove h key x y A C.can.forest C.node C.stands holder held side C.at.port

  -- the port stood and stands among these others
  pub rest : List Jack
  rest = rest_jacks p.grove h key x y A C.can.forest C.node C.stands holder held side C.at.port

  stood : StandsAmong rest (port_jack side C.node.kind key) (jacks_at side p.grove holder)
  unfolding rest
  stood = old p.grove h key x y A C.can.forest C.node C.stands holder held side C.at.port

  pub stands : StandsAmong rest (port_jack side C.node.kind key) (jacks_at side h holder)
  unfolding rest
  stands = new p.grove h key x y A C.can.forest C.node C.stands holder held side C.at.port

  ports_were : ports_told p.web side holder ≡ jacks_at side p.grove holder
  ports_were = C.can.runs.ports.ports side holder

  box_held : canvas_in (get p.grove.nodes holder) ≡ Some C.node.board
  box_held = holds p.grove h key x y A C.can.forest C.node C.stands holder held side C.at.port

  boxes_were : (i : ℕ) → i < length (ports_told p.web side holder) → IsSome (inner_in (jack_told p.web side holder i))
  boxes_were i = subst (λ (js : List Jack). i < length js → IsSome (inner_in (slice_get js i))) (sym (ports_were ∙ ports_held p.grove side holder C.node.board box_held))
      (spot_boxes (ports_among side (get p.grove.nodes) (keys_in (get p.grove.boards C.node.board))) i)

  from_is : KnowsHomes p.web → stood.place ≡ from
  from_is known =
      let there : inner_in (jack_told p.web side holder stood.place) ≡ Some key =
      ap (λ (js : List Jack). inner_in (slice_get js stood.place)) (ports_were ∙ stood.is) ∙ ap inner_in (insert_here rest stood.place (port_jack side C.node.kind key) stood.within) in
      ap (λ (z : ℕ × ℕ). z.1) (same_Some (holder, stood.place) (holder, from) (sym (known.found side key holder stood.place there) ∙ C.numbered))

  pub one_elsewhere : KnowsHomes p.web → IsOneElsewhere p.web (jacks_at side h holder) holder side key from stands.place
  one_elsewhere known = record {
    rest = rest;
    jack = port_jack side C.node.kind key;
    is_it = refl;
    goes = (let w = stood.within in let e = from_is known in omega (arith, w, e));
    comes = stands.within;
    was = ports_were ∙ stood.is ∙ ap (λ n. insert rest n (port_jack side C.node.kind key)) (from_is known);
    is = stands.is;
    boxes = boxes_were;
  }

  -- the box around has as many ports as before
  pub other_jacks : (s : Side) (k : ℕ) → (k ≡ holder → s ≢ side) → jacks_at s h k ≡ jacks_at s p.grove k
  other_jacks = jacks_same p.grove h key x y A C.can.forest C.node C.stands holder held side C.at.port

module _ (p q : Patch) (key holder : ℕ) (side : Side) (x y : ℤ) (from to : ℕ) (C : CanSlide p key holder side from) (A : Alters p.grove q.grove key (at_place x y))
    (S : Slides p.web q.web holder side from to) (now : ports_told q.web side holder ≡ jacks_at side q.grove holder) (K : KnowsHomes q.web) (R : StaysButPorts p q) where
  ports_then : (s : Side) (k : ℕ) → ports_told q.web s k ≡ jacks_at s q.grove k
  ports_then s k = elim (same_side s side) [
    | inr d ↦ other s k (λ _. d)
    | inl e ↦ elim (cases_eq k holder) [
      | inr d ↦ other s k (λ z. absurd (d z))
      | inl z ↦ ap (λ n. ports_told q.web s n) z ∙ subst (λ (t : Side). ports_told q.web t holder ≡ jacks_at t q.grove holder) (sym e) now ∙ ap (jacks_at s q.grove) (sym z)
    ]
  ]
    where
      other : (t : Side) (n : ℕ) → (n ≡ holder → t ≢ side) → ports_told q.web t n ≡ jacks_at t q.grove n
      other t n d = S.other_ports t n d ∙ C.can.runs.ports.ports t n ∙ sym (other_jacks p q.grove key holder side from x y C A t n d)

  has_ports : HasPorts q.grove q.web
  has_ports = record {
    ports = ports_then;
    made = λ k. S.made k ∙ C.can.runs.ports.made k ∙ sym (made_as p.grove q.grove key x y A k);
    homes = known_had q.grove q.web ports_then K;
    homes_found = known_found q.grove q.web ports_then K;
  }

  all_of : {X : Type 0} (P Q : X → Type 0) → ((z : X) → P z → Q z) → (zs : List X) → AllByRecursion P zs → AllByRecursion Q zs
  all_of P Q f [] a = tt
  all_of P Q f (z ∷ zs) a = (f z a.0, all_of P Q f zs a.1)

  inside_then : StayInside q.grove q.web
  inside_then k o =
      all_of (λ (z : Hop). ShareCanvas p.grove k z.node) (λ (z : Hop). ShareCanvas q.grove k z.node) (λ z s. share k z.node s) (fan_hops q.web k o)
      (inside_slid p.web q.web holder from to side S p.grove C.can.runs.inside k o)
    where
      share : (n m : ℕ) → ShareCanvas p.grove n m → ShareCanvas q.grove n m
      share n m s = record { canvas = s.canvas; one = rw A.boards s.one; other = rw A.boards s.other }

  linked_then : HasLinks q.web q.links
  linked_then = subst (λ (l : Links). HasLinks q.web l) (sym R.links) (links_slid p.web q.web holder from to side S p.links C.can.runs.linked)

  wired_then : AreWired q.grove q.web q.links
  wired_then = record { own = (forest_as p.grove q.grove key x y A C.can.forest).own; ports = ports_then; inside = inside_then; linked = linked_then }

  wired_before : AreWired p.grove p.web p.links
  wired_before = record { own = C.can.runs.own; ports = C.can.runs.ports.ports; inside = C.can.runs.inside; linked = C.can.runs.linked }

  ordered_then : AreOrdered q.grove q.web q.orders.items
  ordered_then = ordered_by_wires q.grove q.web q.links wired_then q.orders.items
      (subst (λ (l : Links). AreOrderedBy q.grove l q.orders.items) (sym R.links) (rw R.orders
      (alike_all p.grove q.grove p.links p.orders.items (record { one = C.can.runs.own; other = wired_then.own }) A.boards (signal_as p.grove q.grove key x y A)
      (ordered_by_links p.grove p.web p.links wired_before p.orders.items C.can.runs.orders))))

  pub can_then : CanPut q
  can_then = record {
    forest = forest_as p.grove q.grove key x y A C.can.forest;
    small = small_as p.grove q.grove key x y A C.can.small;
    apart = none_as p.grove q.grove key x y A root_owner C.can.apart;
    runs = record {
      own = wired_then.own;
      ports = has_ports;
      inside = inside_then;
      linked = linked_then;
      orders = ordered_then;
      numbers = λ c. rw (R.numbers, A.boards) (C.can.runs.numbers c);
    };
  }

-- each box asks for as many blocks as it did
pub blocks_stay : (w w' : Web) (jacks : List Jack) (key : ℕ) (side : Side) (port from to : ℕ) → IsOneElsewhere w jacks key side port from to → Slides w w' key side from to
    → ports_told w' side key ≡ jacks → (k : ℕ) → block_count (ports_told w' Outlets k) ≡ block_count (ports_told w Outlets k)
unfolding count_by
blocks_stay w w' jacks key Inlets port from to O S now k = ap block_count (S.other_ports Outlets k (λ _ e. cc))
blocks_stay w w' jacks key Outlets port from to O S now k = elim (cases_eq k key) [
  | inl e ↦
      ap (λ n. block_count (ports_told w' Outlets n)) e ∙ ap block_count (now ∙ O.is)
      ∙ ap (λ (b : Bool). count_by b (length (insert O.rest to O.jack))) (any_insert (λ (j : Jack). j.is_signal) O.rest to O.jack ∙ sym (any_insert (λ (j : Jack). j.is_signal) O.rest from O.jack))
      ∙ ap (count_by (list_any (λ (j : Jack). j.is_signal) (insert O.rest from O.jack))) (insert_length O.rest to O.jack ∙ sym (insert_length O.rest from O.jack))
      ∙ ap block_count (sym O.was) ∙ sym (ap (λ n. block_count (ports_told w Outlets n)) e)
  | inr d ↦ ap block_count (S.other_ports Outlets k (λ e. absurd (d e)))
]
