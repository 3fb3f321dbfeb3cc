-- Wires that can come back, and canvases that have the wires that they had.
use Rattle.std.proofs.Common.{◌≡◌, ℕ, zero, suc, ◌+◌, ◌*◌, ◌<◌, ◌≤◌, true, cond, List, [], ◌∷◌, ◌++◌, length, map, slice_get, Option, Some, None, refl, sym, ap, ◌∙◌, subst, eq-eqb, ne_eqb, arith}
use Rattle.std.specs.Prelude.{IsSome}
use Rattle.std.specs.List.{flat_map, range_with_len}
use mathlib.Core.Logic.{⊎_elim}
use Rattle.std.proofs.lemmas.Bool.{cases_eq}
use Rattle.std.proofs.lemmas.List.{length-map}
use Rattle.std.proofs.lemmas.Option.{slice_get_within}
use Rattle.slab.specs.Slab.{get}
use Rattle.pd_atom.specs.Names.{Names}
use Rattle.pd_links.specs.declared.links.Links.{Links}
use Rattle.pd_links.specs.Linked.{KeepsLinkRoom}
use Rattle.pd_links.proofs.LinkLemmas.{same_room}
use Rattle.pd_canvas.specs.declared.wires.Wire.{Wire}
use Rattle.pd_grove.specs.Telling.{keys_in}
use Rattle.pd_grove.specs.declared.boards.Board.{Board}
use Rattle.pd_grove.specs.declared.grove.Grove.{Grove}
use Rattle.pd_grove.specs.declared.nodes.Node.{Node}
use Rattle.pd_grove.specs.declared.ports.Side.{Side}
use Rattle.pd_grove.specs.declared.ports.Side.TheVariants.{Inlets, Outlets}
use Rattle.pd_grove.specs.declared.seeds.Seed.{Seed}
use Rattle.pd_web.specs.declared.jacks.Jack.{Jack}
use Rattle.pd_web.specs.declared.lines.Line.{Line}
use Rattle.pd_web.specs.declared.sockets.Port.{Port}
use Rattle.pd_web.specs.declared.web.Hop.{Hop}
use Rattle.pd_web.specs.declared.web.Web.{Web}
use Rattle.pd_web.specs.Canvases.{keys_at}
use Rattle.pd_web.specs.Changes.{KeepsRoom, Meet}
use Rattle.pd_web.specs.Hops.{fan_hops, jack_told, places_of, ports_told}
use Rattle.pd_web.specs.Jacks.{kind_jacks}
use Rattle.pd_web.specs.Lines.{IsRoute}
use Rattle.pd_web.specs.Sockets.{ports_at}
use Rattle.pd_present.specs.Presents.{box_wires, number_in, outlet_wires, wire_along, wires_among}
use Rattle.pd_patch.specs.declared.patch.Patch.{Patch}
use Rattle.pd_patch.specs.Linked.{ShareCanvas}
use Rattle.pd_patch.specs.Listing.{IsThere}
use Rattle.pd_wiring.specs.Changes.{CanRewire, SameButRoom}
use Rattle.pd_wiring.proofs.WebLemmas.{line_inside}
use Rattle.pd_taking.specs.Loosening.{Loosens}
use Rattle.pd_taking.proofs.LoosenLemmas.{none_beyond}
use Rattle.pd_refitting.specs.declared.room.RefitRoom.{RefitRoom}
use Rattle.pd_refitting.specs.Room.{TakesRefit}
use Rattle.pd_refitting.specs.Refits.{jack_with, made_with, CanRefit, IsRefitted}
use Rattle.pd_refitting.proofs.BoxLemmas.{still_put}
use Rattle.pd_refitting.proofs.WireLemmas.{meet_by}
use Rattle.pd_misfits.specs.declared.wires.BoxWire.{BoxWire}
use Rattle.pd_misfits.specs.Misfits.{fits_between, is_fit, turning}
use Rattle.pd_misfits.specs.Shedding.{AreWiresAt, IsWired, Sheds}
use Rattle.pd_misfits.proofs.ListLemmas.{in_listed}
use Rattle.pd_misfits.proofs.ToldLemmas.{turning_fits}
use Rattle.pd_turning.specs.declared.noting.NotedWire.{NotedWire}
use Rattle.pd_turning.specs.Notes.{notes_of, StandOnce}
use Rattle.pd_turning.specs.Returns.{CanReturn, Restores}
use Rattle.pd_turning.specs.Room.{count_from, count_into, TakesBack}
use Rattle.pd_turning.proofs.FollowLemmas.{told_follow}
use Rattle.pd_turning.proofs.ListLemmas.{flat_like}

-- Room lasts.

pub back_lasts : (p q : Patch) (ms : List BoxWire) → KeepsRoom p.web q.web → KeepsLinkRoom p.links q.links → TakesBack p ms → TakesBack q ms
back_lasts p q ms web links T = record {
  web = web 0 (2 * length ms) (length ms) T.web;
  from = λ x. links.from x (count_from ms x) (T.from x);
  into = λ x. links.into x (count_into ms x) (T.into x);
}

pub back_loosened : (p q : Patch) (ms : List BoxWire) (key steps steps' : ℕ) → Loosens p q key steps steps' → KeepsLinkRoom p.links q.links → TakesBack p ms → TakesBack q ms
back_loosened p q ms key steps steps' L links T = back_lasts p q ms L.web.room links T

pub back_refitted : (p q : Patch) (ms : List BoxWire) (table : Names) (key : ℕ) (n : Node) (s : Seed) → IsRefitted p q table key n s → KeepsRoom p.web q.web → TakesBack p ms → TakesBack q ms
back_refitted p q ms table key n s R web T = back_lasts p q ms web (subst (λ (l : Links). KeepsLinkRoom p.links l) (sym R.links) (same_room p.links)) T

pub refit_stays : (p q : Patch) (room : RefitRoom) (table : Names) → SameButRoom p q → KeepsRoom p.web q.web → TakesRefit p room table → TakesRefit q room table
refit_stays p q room table S web T = record {
  web = λ k some. web (k + 1) 0 0 (T.web k (subst (λ (g : Grove). IsSome (get g.nodes k)) S.grove some));
  ports = T.ports;
  order = λ n is. rw S.orders (T.order n (ap (λ (g : Grove). get g.nodes room.key) (sym S.grove) ∙ is));
  owner = rw S.names T.owner;
  values = rw S.values T.values;
  blocks = T.blocks;
}

-- The ports of a wire that fits are there.

fitting_ports : (a b : Option Jack) (made : _) → fits_between a b made ≡ true → ((j : Jack) × (a ≡ Some j)) × ((j : Jack) × (b ≡ Some j))
fitting_ports None b made e = cc
fitting_ports (Some from) None made e = cc
fitting_ports (Some from) (Some to) made e = ((from, refl), (to, refl))

port_at : (w : Web) (side : Side) (node port : ℕ) (j : Jack) → jack_told w side node port ≡ Some j → port < length (ports_at w.sockets.items side node)
port_at w side node port j e =
    let l = slice_get_within (ports_told w side node) port j e in
    let same = length-map (ports_at w.sockets.items side node) (λ (x : Port). x.jack) in
    omega (arith, l, same)

module _ (p free q : Patch) (table : Names) (key steps steps' : ℕ) (n : Node) (s : Seed) (L : Loosens p free key steps steps') (R : IsRefitted free q table key n s) where
  jack_now : (side : Side) (node port : ℕ) → jack_told q.web side node port ≡ jack_with p.web key s.row.kind side node port
  jack_now side node port = ⊎_elim
      (λ (e : node ≡ key).
      ap (λ k. jack_told q.web side k port) e ∙ ap (λ (js : List Jack). slice_get js port) (R.ports.ports side)
      ∙ sym (ap (λ b. cond b (slice_get (kind_jacks side s.row.kind) port) (jack_told p.web side node port)) (eq-eqb node key e)))
      (λ (d : node ≡ key → ⊥).
      ap (λ (js : List Jack). slice_get js port) (R.ports.other_ports side node d ∙ L.web.kept.ports side node)
      ∙ sym (ap (λ b. cond b (slice_get (kind_jacks side s.row.kind) port) (jack_told p.web side node port)) (ne_eqb node key d)))
      (cases_eq node key)

  route_now : (l : Line) → is_fit p.web key s.row.kind l ≡ true → IsRoute q.web.sockets.items l
  route_now l fit =
      let F = fitting_ports (jack_with p.web key s.row.kind Outlets l.source l.outlet) (jack_with p.web key s.row.kind Inlets l.sink l.inlet) (made_with p.web key s.row.kind l.sink) fit in
      record {
        from = port_at q.web Outlets l.source l.outlet F.0.0 (jack_now Outlets l.source l.outlet ∙ F.0.1);
        to = port_at q.web Inlets l.sink l.inlet F.1.0 (jack_now Inlets l.sink l.inlet ∙ F.1.1);
      }

  keys_now : (c : ℕ) → keys_at q.grove c ≡ keys_at p.grove c
  keys_now c = ap (λ (f : ℕ → Option Board). keys_in (f c)) (ap get R.grove.boards) ∙ ap (λ (g : Grove). keys_at g c) L.rest.grove

  share_now : (a b : ℕ) → ShareCanvas p.grove a b → ShareCanvas q.grove a b
  share_now a b share = record {
    canvas = share.canvas;
    one = subst (λ ks. IsThere ks a) (sym (keys_now share.canvas)) share.one;
    other = subst (λ ks. IsThere ks b) (sym (keys_now share.canvas)) share.other;
  }

  pub can_return : (canvas : ℕ) (notes : List NotedWire) → CanRewire p → Meet p.web → IsWired p.web → StandOnce p.web → IsThere (keys_at p.grove canvas) key
      → AreWiresAt p.web key (turning p canvas key s.row.kind) → notes ≡ notes_of p.web (turning p canvas key s.row.kind) → Sheds p.web free.web (turning p canvas key s.row.kind) → CanRefit free key n s
      → TakesBack q (turning p canvas key s.row.kind) → CanReturn p.web q key (turning p canvas key s.row.kind) notes
  can_return canvas notes runs meet W once here A noted S C room =
      let ms = turning p canvas key s.row.kind in
      record {
        wires = A;
        order = told_follow p canvas key s.row.kind runs meet W once here;
        wired = W;
        once = once;
        noted = noted;
        out = record {
          fans = λ node outlet. R.ports.fans node outlet ∙ S.fans node outlet;
          feeds = λ node inlet. R.ports.feeds node inlet ∙ S.feeds node inlet;
        };
        runs = (still_put free q table key n s C R).runs;
        meet = meet_by free.web q.web R.ports.fans R.ports.feeds L.web.meet;
        routes = λ i m at. route_now m.line (turning_fits p canvas key s.row.kind m (in_listed m ms i at));
        together = λ i m at. share_now m.line.source m.line.sink (line_inside p.grove p.web m.key m.line runs.inside (A.along i m at));
        room = room;
      }

-- The wires of a canvas.

abbrev wire_by : List ℕ → ℕ → ℕ → ℕ × ℕ → Wire
wire_by numbers key outlet x = record { source = number_in numbers key; outlet = outlet; sink = number_in numbers x.0; inlet = x.1 }

wires_by : (numbers : List ℕ) (key outlet : ℕ) (hops : List Hop) → map (wire_along numbers key outlet) hops ≡ map (wire_by numbers key outlet) (places_of hops)
wires_by numbers key outlet [] = refl
wires_by numbers key outlet (h ∷ hops) = ap (λ (ws : List Wire). wire_along numbers key outlet h ∷ ws) (wires_by numbers key outlet hops)

none_in_range : {X : Type 0} (f : ℕ → List X) (a n : ℕ) → ((x : ℕ) → a ≤ x → f x ≡ []) → flat_map f (range_with_len a n) ≡ []
none_in_range f a zero h = refl
none_in_range {X} f a (suc n) h = ap (λ (xs : List X). xs ++ flat_map f (range_with_len (a + 1) n)) (h a (omega arith)) ∙ none_in_range f (a + 1) n (λ x l. h x (omega (arith, l)))

-- what gives nothing beyond a number gives no more there
none_more : {X : Type 0} (f : ℕ → List X) (a n d : ℕ) → ((x : ℕ) → a + n ≤ x → f x ≡ []) → flat_map f (range_with_len a (n + d)) ≡ flat_map f (range_with_len a n)
none_more f a zero d h = let e : 0 + d ≡ d = omega arith in ap (λ k. flat_map f (range_with_len a k)) e ∙ none_in_range f a d (λ x l. h x (omega (arith, l)))
none_more {X} f a (suc n) d h =
    let e : suc n + d ≡ suc (n + d) = omega arith in
    ap (λ k. flat_map f (range_with_len a k)) e ∙ ap (λ (xs : List X). f a ++ xs) (none_more f (a + 1) n d (λ x l. h x (omega (arith, l))))

any_range : {X : Type 0} (f : ℕ → List X) (m n : ℕ) → ((x : ℕ) → m ≤ x → f x ≡ []) → ((x : ℕ) → n ≤ x → f x ≡ []) → flat_map f (range_with_len 0 m) ≡ flat_map f (range_with_len 0 n)
any_range f m n a b =
    let e : m + n ≡ n + m = omega arith in
    sym (none_more f 0 m n (λ x l. a x (omega (arith, l)))) ∙ ap (λ k. flat_map f (range_with_len 0 k)) e ∙ none_more f 0 n m (λ x l. b x (omega (arith, l)))

module _ (w v : Web) (ms : List BoxWire) (numbers : List ℕ) (R : Restores w v ms) where
  outlet_has : (key outlet : ℕ) → outlet_wires v numbers key outlet ≡ outlet_wires w numbers key outlet
  outlet_has key outlet =
      wires_by numbers key outlet (fan_hops v key outlet) ∙ ap (map (wire_by numbers key outlet)) (R.places key outlet) ∙ sym (wires_by numbers key outlet (fan_hops w key outlet))

  no_more : (u : Web) (key outlet : ℕ) → length (ports_told u Outlets key) ≤ outlet → outlet_wires u numbers key outlet ≡ []
  no_more u key outlet l = ap (map (wire_along numbers key outlet)) (none_beyond u Outlets key outlet l)

  box_has : (key : ℕ) → box_wires v numbers key ≡ box_wires w numbers key
  box_has key =
      any_range (outlet_wires v numbers key) (length (ports_told v Outlets key)) (length (ports_told w Outlets key)) (no_more v key) (λ x l. outlet_has key x ∙ no_more w key x l)
      ∙ flat_like (outlet_wires v numbers key) (outlet_wires w numbers key) (range_with_len 0 (length (ports_told w Outlets key))) (λ x i. outlet_has key x)

  pub canvas_has : (keys : List ℕ) → wires_among v numbers keys ≡ wires_among w numbers keys
  canvas_has keys = flat_like (box_wires v numbers) (box_wires w numbers) keys (λ x i. box_has x)
