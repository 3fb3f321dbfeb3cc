-- A patch into which wires come back.
use Rattle.std.proofs.Common.{◌≡◌, ◌≢◌, ℕ, suc, ◌+◌, ◌-◌, ◌*◌, ◌<◌, ◌≤◌, Bool, true, false, cond, List, [], ◌∷◌, drop, filter, get_or, length, map, slice_get, Option, Some, None, refl, sym, ap, ◌∙◌, subst, eq-eqb, ne_eqb, arith}
use Rattle.std.specs.Prelude.{option_map}
use mathlib.Core.Logic.{⊎_elim}
use Rattle.std.proofs.lemmas.Bool.{cases_eq}
use Rattle.std.proofs.lemmas.Option.{none-some, same_Some, slice_get-map, slice_get_read, slice_get_within}
use Rattle.slab.specs.Slab.{get}
use Rattle.pd_wire.specs.Book.{StandsAt}
use Rattle.pd_links.specs.declared.links.Links.{Links}
use Rattle.pd_links.specs.Linked.{TakesFrom, TakesInto, TakesOne, UsesLinkRoom}
use Rattle.pd_links.proofs.LinkLemmas.{takes_one}
use Rattle.pd_grove.specs.declared.grove.Grove.{Grove}
use Rattle.pd_grove.specs.Owning.{board_in}
use Rattle.pd_web.specs.declared.lines.Line.{Line}
use Rattle.pd_web.specs.declared.web.Hop.{Hop}
use Rattle.pd_web.specs.declared.web.Web.{Web}
use Rattle.pd_web.specs.Canvases.{keys_at}
use Rattle.pd_web.specs.Hops.{fan_hops, fan_keys, feed_hops}
use Rattle.pd_web.specs.Lines.{IsRoute}
use Rattle.pd_web.specs.Changes.{HasRoom, Joins, KeepsPorts, Meet}
use Rattle.pd_web.proofs.CountLemmas.{joined_is_one_more}
use Rattle.pd_seek.specs.Places.{AreInOrder, IsPlace}
use Rattle.pd_moving.specs.Orders.{AreAllInOrder}
use Rattle.pd_moving.proofs.LayLemmas.{still_route}
use Rattle.pd_moving.proofs.MeetLemmas.{joined_meet, same_port}
use Rattle.pd_moving.proofs.PlaceLemmas.{feeds_ordered}
use Rattle.pd_patch.specs.declared.patch.Patch.{Patch}
use Rattle.pd_patch.specs.Linked.{ShareCanvas}
use Rattle.pd_patch.specs.Listing.{IsThere}
use Rattle.pd_patch.specs.Telling.{order_in}
use Rattle.pd_wiring.specs.Changes.{graph_in, is_signal_line, most_mending, CanRewire, StaysBuilt, StaysButWire, TakesWire}
use Rattle.pd_wiring.specs.Plans.{Attaches, most_looks}
use Rattle.pd_wiring.proofs.PlaceLemmas.{places_none, places_on}
use Rattle.pd_taking.specs.Loosening.{IsAt}
use Rattle.pd_misfits.specs.declared.wires.BoxWire.{BoxWire}
use Rattle.pd_misfits.specs.Shedding.{is_left}
use Rattle.pd_turning.specs.declared.noting.NotedWire.{NotedWire}
use Rattle.pd_turning.specs.Notes.{note_of}
use Rattle.pd_turning.specs.Returns.{CanReturn, PutsBack, Tightens}
use Rattle.pd_turning.specs.Room.{count_from, count_into}
use Rattle.pd_turning.proofs.BackLemmas.{comes_in, drop_at, like_keys, like_places, like_self, others_like, AreLike, ComesIn}

-- The patch with one wire more.

-- what putting a wire in tells
pub record PutsIn (q r : Patch) (key : ℕ) (l : Line) (before : Option ℕ) (steps steps' : ℕ) : Type 0 where
  pub joins : (fan_place : ℕ) → StandsAt (fan_keys q.web l.source l.outlet) fan_place before
      → (place : ℕ) × IsPlace q.numbers.items l (feed_hops q.web l.sink l.inlet) place × Joins q.web r.web key l fan_place place
  pub rest : StaysButWire q r l.source
  pub rewires : CanRewire r
  pub built : StaysBuilt q r
  pub left : UsesLinkRoom q.links r.links l.source l.sink
  pub control : is_signal_line q.web l ≡ false → steps' ≡ steps
  pub looks : (c : ℕ) → board_in (get q.grove.nodes l.source) ≡ Some c → steps' ≤ steps + most_mending (graph_in r c) l.sink (order_in q.orders.items c) (order_in r.orders.items c)

looks_one : (q r : Patch) (key : ℕ) (l : Line) (before : Option ℕ) (s s' : ℕ) → PutsIn q r key l before s s' → (c : ℕ) → board_in (get q.grove.nodes l.source) ≡ Some c → s' ≤ s + most_looks (Attaches c l) q r
looks_one q r key l before s s' D c lies = step (is_signal_line q.web l) refl
  where
    most : ℕ
    most = most_mending (graph_in r c) l.sink (order_in q.orders.items c) (order_in r.orders.items c)

    step : (b : Bool) → is_signal_line q.web l ≡ b → s' ≤ s + cond b most 0
    step true e = D.looks c lies
    step false e = let same = D.control e in omega (arith, same)

lies_in : (p : Patch) (c k : ℕ) → CanRewire p → IsThere (keys_at p.grove c) k → board_in (get p.grove.nodes k) ≡ Some c
lies_in p c k R t = R.own.home c t.0 k t.1

same_canvas : (p : Patch) (box : ℕ) (l : Line) → CanRewire p → IsAt box l → ShareCanvas p.grove l.source l.sink → board_in (get p.grove.nodes l.source) ≡ board_in (get p.grove.nodes box)
same_canvas p box l R at share = ⊎_elim
    (λ (s : l.source ≡ box). ap (λ k. board_in (get p.grove.nodes k)) s)
    (λ (s : l.sink ≡ box). lies_in p share.canvas l.source R share.one ∙ sym (lies_in p share.canvas l.sink R share.other) ∙ ap (λ k. board_in (get p.grove.nodes k)) s)
    at

pub tightens_none : (p : Patch) (box looks : ℕ) → CanRewire p → (T : Tightens p p box looks looks) × (length T.back ≡ 0)
tightens_none p box looks R = (
  record {
    back = [];
    one_by_one = refl;
    looks = λ c lies. omega arith;
    count = omega arith;
    rest = record { grove = refl; names = refl; timers = refl; numbers = refl; values = refl; rate = refl; present = refl; orders = λ c d. refl; places = λ c. places_none (order_in p.orders.items c) };
    rewires = R;
    built = λ names file rate b. b;
  },
  refl,
)

pub tightens_more : (p q r : Patch) (box key : ℕ) (l : Line) (before : Option ℕ) (fan_place s s' s'' : ℕ) (T : Tightens p q box s s') → IsAt box l → ShareCanvas q.grove l.source l.sink
    → StandsAt (fan_keys q.web l.source l.outlet) fan_place before → PutsIn q r key l before s' s'' → (U : Tightens p r box s s'') × (length U.back ≡ length T.back + 1)
tightens_more p q r box key l before fan_place s s' s'' T at share stands D =
    let S = D.rest in
    let J = D.joins fan_place stands in
    let same = same_canvas q box l T.rewires at share in
    let here : (c : ℕ) → board_in (get p.grove.nodes box) ≡ Some c → board_in (get q.grove.nodes l.source) ≡ Some c = (λ (c : ℕ) (lies : board_in (get p.grove.nodes box) ≡ Some c).
    same ∙ ap (λ (g : Grove). board_in (get g.nodes box)) T.rest.grove ∙ lies) in (
      record {
        back = record { key = key; line = l; before = q } ∷ T.back;
        one_by_one = (record { at = at; fan_place = fan_place; place = J.0; is_place = J.1; joins = J.2; rest = S; rewires = D.rewires; built = D.built }, T.one_by_one);
        looks = λ c lies.
            let a = T.looks c lies in
            let b = looks_one q r key l before s' s'' D c (here c lies) in
            omega (arith, a, b);
        count =
            let a = joined_is_one_more q.web r.web key l fan_place J.0 J.2 in
            let b = T.count in
            omega (arith, a, b);
        rest = record {
          grove = S.grove ∙ T.rest.grove;
          names = S.names ∙ T.rest.names;
          timers = S.timers ∙ T.rest.timers;
          numbers = S.numbers ∙ T.rest.numbers;
          values = S.values ∙ T.rest.values;
          rate = S.rate ∙ T.rest.rate;
          present = S.present ∙ T.rest.present;
          orders = λ c d. S.orders c (λ e. d (ap (λ (g : Grove). board_in (get g.nodes box)) (sym T.rest.grove) ∙ sym same ∙ e)) ∙ T.rest.orders c d;
          places = λ c. places_on (order_in p.orders.items c) (order_in q.orders.items c) (order_in r.orders.items c) (T.rest.places c) (S.places c);
        };
        rewires = D.rewires;
        built = λ names file rate b. D.built names file rate (T.built names file rate b);
      },
      omega arith,
    )

-- feeds in order are with one more at its place
pub all_ordered : (labels : List ℕ) (w v : Web) (key : ℕ) (l : Line) (fan_place place : ℕ) → IsPlace labels l (feed_hops w l.sink l.inlet) place → Joins w v key l fan_place place → AreAllInOrder labels w → AreAllInOrder labels v
all_ordered labels w v key l fan_place place is J order node inlet = same_port node inlet l.sink l.inlet
    (λ a b. subst (λ n. AreInOrder labels (feed_hops v n inlet)) (sym a) (subst (λ o. AreInOrder labels (feed_hops v l.sink o)) (sym b)
    (subst (λ (hs : List Hop). AreInOrder labels hs) (sym J.feeds) (feeds_ordered labels l key (feed_hops w l.sink l.inlet) place (order l.sink l.inlet) is))))
    (λ other. subst (λ (hs : List Hop). AreInOrder labels hs) (sym (J.other_feeds node inlet other)) (order node inlet))

-- Room.

pub from_more : (l k : Links) (ms : List BoxWire) (m : BoxWire) → UsesLinkRoom l k m.line.source m.line.sink → ((x : ℕ) → TakesFrom l x (count_from (m ∷ ms) x)) → (x : ℕ) → TakesFrom k x (count_from ms x)
from_more l k ms m U T x = ⊎_elim
    (λ (e : x ≡ m.line.source).
    let one : count_from (m ∷ ms) x ≡ count_from ms x + 1 = ap (λ b. cond b 1 0 + count_from ms x) (eq-eqb m.line.source x (sym e)) ∙ omega arith in
    subst (λ y. TakesFrom k y (count_from ms x)) (sym e) (U.from (count_from ms x) (subst (λ y. TakesFrom l y (count_from ms x + 1)) e (subst (TakesFrom l x) one (T x)))))
    (λ (d : x ≢ m.line.source).
    let same : count_from (m ∷ ms) x ≡ count_from ms x = ap (λ b. cond b 1 0 + count_from ms x) (ne_eqb m.line.source x (λ e. d (sym e))) ∙ omega arith in
    U.other_from x (count_from ms x) d (subst (TakesFrom l x) same (T x)))
    (cases_eq x m.line.source)

pub into_more : (l k : Links) (ms : List BoxWire) (m : BoxWire) → UsesLinkRoom l k m.line.source m.line.sink → ((x : ℕ) → TakesInto l x (count_into (m ∷ ms) x)) → (x : ℕ) → TakesInto k x (count_into ms x)
into_more l k ms m U T x = ⊎_elim
    (λ (e : x ≡ m.line.sink).
    let one : count_into (m ∷ ms) x ≡ count_into ms x + 1 = ap (λ b. cond b 1 0 + count_into ms x) (eq-eqb m.line.sink x (sym e)) ∙ omega arith in
    subst (λ y. TakesInto k y (count_into ms x)) (sym e) (U.into (count_into ms x) (subst (λ y. TakesInto l y (count_into ms x + 1)) e (subst (TakesInto l x) one (T x)))))
    (λ (d : x ≢ m.line.sink).
    let same : count_into (m ∷ ms) x ≡ count_into ms x = ap (λ b. cond b 1 0 + count_into ms x) (ne_eqb m.line.sink x (λ e. d (sym e))) ∙ omega arith in
    U.other_into x (count_into ms x) d (subst (TakesInto l x) same (T x)))
    (cases_eq x m.line.sink)

-- One after the other.

pub record Returning (w : Web) (p q : Patch) (box : ℕ) (ms : List BoxWire) (i s s' : ℕ) : Type 0 where
  pub tight : Tightens p q box s s'
  pub many : length tight.back ≡ i
  pub few : i ≤ length ms
  pub like : (node outlet : ℕ) → AreLike ms (fan_hops q.web node outlet) (filter (is_left (drop i ms)) (fan_hops w node outlet))
  pub kept : KeepsPorts p.web q.web
  pub order : AreAllInOrder p.numbers.items p.web → AreAllInOrder q.numbers.items q.web
  pub meet : Meet q.web
  pub web : HasRoom q.web 0 (2 * (length ms - i)) (length ms - i)
  pub from : (x : ℕ) → TakesFrom q.links x (count_from (drop i ms) x)
  pub into : (x : ℕ) → TakesInto q.links x (count_into (drop i ms) x)

module _ (w : Web) (p : Patch) (box : ℕ) (ms : List BoxWire) (notes : List NotedWire) (C : CanReturn w p box ms notes) where
  pub returning_begun : (s : ℕ) → Returning w p p box ms 0 s s
  returning_begun s = record {
    tight = (tightens_none p box s C.runs).0;
    many = (tightens_none p box s C.runs).1;
    few = omega arith;
    like = λ node outlet. subst (λ (xs : List Hop). AreLike ms xs (filter (is_left ms) (fan_hops w node outlet))) (sym (C.out.fans node outlet)) (like_self ms (filter (is_left ms) (fan_hops w node outlet)));
    kept = record { ports = λ side k. refl; made = λ k. refl; homes = λ j. refl };
    order = λ o. o;
    meet = C.meet;
    web =
        let n : length ms - 0 ≡ length ms = omega arith in
        subst (λ k. HasRoom p.web 0 (2 * k) k) (sym n) C.room.web;
    from = C.room.from;
    into = C.room.into;
  }

  -- the note at a place is that of the wire there
  pub record NotedAs (i : ℕ) (note : NotedWire) : Type 0 where
    pub of : BoxWire
    pub at : slice_get ms i ≡ Some of
    pub is : note ≡ note_of w ms of

  pub noted_as : (i : ℕ) (note : NotedWire) → slice_get notes i ≡ Some note → NotedAs i note
  noted_as i note e = found (slice_get ms i) refl (sym (slice_get-map (note_of w ms) ms i) ∙ ap (λ (ns : List NotedWire). slice_get ns i) (sym C.noted) ∙ e)
    where
      found : (o : Option BoxWire) → slice_get ms i ≡ o → option_map (note_of w ms) o ≡ Some note → NotedAs i note
      found None at f = absurd (none-some note f)
      found (Some m) at f = record { of = m; at = at; is = sym (same_Some (note_of w ms m) note f) }

  pub noted_item : (i : ℕ) (note : NotedWire) → i < length notes → note ≡ get_or notes i note → NotedAs i note
  noted_item i note l e = noted_as i note (slice_get_read notes (length notes) i note refl l e)

  module _ (q : Patch) (i : ℕ) (note : NotedWire) (N : NotedAs i note) (s s' : ℕ) (R : Returning w p q box ms i s s') where
    within : i < length ms
    within = slice_get_within ms i N.of N.at

    -- what the next one asks

    line_is : note.line ≡ N.of.line
    line_is = ap (λ (x : NotedWire). x.line) N.is

    together_so : ShareCanvas q.grove N.of.line.source N.of.line.sink
    together_so = subst (λ (g : Grove). ShareCanvas g N.of.line.source N.of.line.sink) (sym R.tight.rest.grove) (C.together i N.of N.at)

    pub next_together : ShareCanvas q.grove note.line.source note.line.sink
    next_together = subst (λ (x : Line). ShareCanvas q.grove x.source x.sink) (sym line_is) together_so

    pub next_route : IsRoute q.web.sockets.items note.line
    next_route = subst (λ (x : Line). IsRoute q.web.sockets.items x) (sym line_is) (still_route p.web q.web N.of.line R.kept (C.routes i N.of N.at))

    from_here : (x : ℕ) → TakesFrom q.links x (count_from (N.of ∷ drop (i + 1) ms) x)
    from_here x = subst (λ (ns : List BoxWire). TakesFrom q.links x (count_from ns x)) (drop_at ms i N.of N.at) (R.from x)

    into_here : (x : ℕ) → TakesInto q.links x (count_into (N.of ∷ drop (i + 1) ms) x)
    into_here x = subst (λ (ns : List BoxWire). TakesInto q.links x (count_into ns x)) (drop_at ms i N.of N.at) (R.into x)

    links_so : TakesOne q.links N.of.line.source N.of.line.sink
    links_so =
        let ns = drop (i + 1) ms in
        let a : count_from (N.of ∷ ns) N.of.line.source ≡ 1 + count_from ns N.of.line.source = ap (λ b. cond b 1 0 + count_from ns N.of.line.source) (eq-eqb N.of.line.source N.of.line.source refl) in
        let b : count_into (N.of ∷ ns) N.of.line.sink ≡ 1 + count_into ns N.of.line.sink = ap (λ b. cond b 1 0 + count_into ns N.of.line.sink) (eq-eqb N.of.line.sink N.of.line.sink refl) in
        takes_one q.links N.of.line.source N.of.line.sink (count_from (N.of ∷ ns) N.of.line.source) (count_into (N.of ∷ ns) N.of.line.sink) (omega (arith, a)) (omega (arith, b)) (from_here N.of.line.source)
        (into_here N.of.line.sink)

    pub next_room : TakesWire q note.line
    next_room = subst (λ (x : Line). TakesWire q x) (sym line_is) (record {
      web =
          let r = R.web in
          let low = within in
          record { boxes = r.boxes; homes = r.homes; ends = (let e = r.ends in omega (arith, e, low)); wires = (let e = r.wires in omega (arith, e, low)) };
      links = links_so;
    })

    abbrev In : Type 0
    In = ComesIn w box ms C.wires C.order C.wired C.once i N.of N.at q.web

    coming : In
    coming = comes_in w box ms C.wires C.order C.wired C.once i N.of N.at q.web (R.like N.of.line.source N.of.line.outlet)

    stands_so : StandsAt (fan_keys q.web note.line.source note.line.outlet) coming.place note.before
    stands_so = subst (λ (x : NotedWire). StandsAt (fan_keys q.web x.line.source x.line.outlet) coming.place x.before) (sym N.is) coming.stands

    pub next_before : (place : ℕ) × StandsAt (fan_keys q.web note.line.source note.line.outlet) place note.before
    next_before = (coming.place, stands_so)

    -- and the next one is in
    module _ (r : Patch) (key s'' : ℕ) (D : PutsIn q r key note.line note.before s' s'') where
      in_so : PutsIn q r key N.of.line note.before s' s''
      in_so = subst (λ (x : Line). PutsIn q r key x note.before s' s'') line_is D

      before_so : StandsAt (fan_keys q.web N.of.line.source N.of.line.outlet) coming.place note.before
      before_so = subst (λ (x : Line). StandsAt (fan_keys q.web x.source x.outlet) coming.place note.before) line_is stands_so

      abbrev feed_place : ℕ
      feed_place = (in_so.joins coming.place before_so).0

      joined : Joins q.web r.web key N.of.line coming.place feed_place
      joined = (in_so.joins coming.place before_so).2

      fans_like : (node outlet : ℕ) → AreLike ms (fan_hops r.web node outlet) (filter (is_left (drop (i + 1) ms)) (fan_hops w node outlet))
      fans_like node outlet = same_port node outlet N.of.line.source N.of.line.outlet
          (λ a b. subst (λ n. AreLike ms (fan_hops r.web n outlet) (filter (is_left (drop (i + 1) ms)) (fan_hops w n outlet))) (sym a)
          (subst (λ o. AreLike ms (fan_hops r.web N.of.line.source o) (filter (is_left (drop (i + 1) ms)) (fan_hops w N.of.line.source o))) (sym b)
          (subst (λ (xs : List Hop). AreLike ms xs (filter (is_left (drop (i + 1) ms)) (fan_hops w N.of.line.source N.of.line.outlet))) (sym joined.fan) (coming.like key))))
          (λ other. subst (λ (xs : List Hop). AreLike ms xs (filter (is_left (drop (i + 1) ms)) (fan_hops w node outlet))) (sym (joined.other_fans node outlet other))
          (subst (AreLike ms (fan_hops q.web node outlet)) (others_like w box ms C.wires C.order C.wired C.once i N.of N.at node outlet other) (R.like node outlet)))

      pub returning_more : Returning w p r box ms (i + 1) s s''
      returning_more =
          let T = tightens_more p q r box key N.of.line note.before coming.place s s' s'' R.tight (C.wires.at i N.of N.at) together_so before_so in_so in
          record {
            tight = T.0;
            many = T.1 ∙ ap (λ n. n + 1) R.many;
            few = let l = within in omega (arith, l);
            like = fans_like;
            kept = record {
              ports = λ side k. joined.kept.ports side k ∙ R.kept.ports side k;
              made = λ k. joined.kept.made k ∙ R.kept.made k;
              homes = λ j. joined.kept.homes j ∙ R.kept.homes j;
            };
            order = λ o. subst (λ (ns : List ℕ). AreAllInOrder ns r.web) (ap (λ (v : _). v.items) (sym in_so.rest.numbers))
                (all_ordered q.numbers.items q.web r.web key N.of.line coming.place feed_place (in_so.joins coming.place before_so).1 joined (R.order o));
            meet = joined_meet q.web r.web key N.of.line coming.place feed_place joined R.meet;
            web = joined.room 0 (2 * (length ms - (i + 1))) (length ms - (i + 1))
                (let r = R.web in
                let low = within in
                record { boxes = r.boxes; homes = r.homes; ends = (let e = r.ends in omega (arith, e, low)); wires = (let e = r.wires in omega (arith, e, low)) });
            from = from_more q.links r.links (drop (i + 1) ms) N.of in_so.left from_here;
            into = into_more q.links r.links (drop (i + 1) ms) N.of in_so.left into_here;
          }

  -- all are in
  pub returned : (q : Patch) (i s s' : ℕ) → length notes ≤ i → Returning w p q box ms i s s' → PutsBack w p q box ms s s'
  returned q i s s' low R =
      let len : length notes ≡ length ms = ap length C.noted ∙ length_map ms in
      let high = R.few in
      let all : i ≡ length ms = omega (arith, low, high, len) in
      let like : (node outlet : ℕ) → AreLike ms (fan_hops q.web node outlet) (fan_hops w node outlet) = (λ (node outlet : ℕ).
      subst (AreLike ms (fan_hops q.web node outlet))
      (ap (λ n. filter (is_left (drop n ms)) (fan_hops w node outlet)) all ∙ ap (λ (ns : List BoxWire). filter (is_left ns) (fan_hops w node outlet)) (drop_all ms) ∙ all_stay (fan_hops w node outlet)) (R.like node outlet)) in
      record {
        tightens = R.tight;
        as_many = R.many ∙ all;
        restores = record {
          places = λ node outlet. like_places ms (fan_hops q.web node outlet) (fan_hops w node outlet) (like node outlet);
          keys = λ node outlet j h at left. like_keys ms (fan_hops q.web node outlet) (fan_hops w node outlet) j h (like node outlet) at left;
        };
        kept = R.kept;
        in_order = R.order;
        meet = R.meet;
      }
    where
      length_map : (ns : List BoxWire) → length (map (note_of w ms) ns) ≡ length ns
      length_map [] = refl
      length_map (n ∷ ns) = ap suc (length_map ns)

      drop_all : (ns : List BoxWire) → drop (length ns) ns ≡ []
      drop_all [] = refl
      drop_all (n ∷ ns) = drop_all ns

      all_stay : (hs : List Hop) → filter (is_left []) hs ≡ hs
      all_stay [] = refl
      all_stay (h ∷ hs) = ap (λ (xs : List Hop). h ∷ xs) (all_stay hs)
