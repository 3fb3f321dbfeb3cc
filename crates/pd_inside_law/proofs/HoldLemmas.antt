-- The wires inside abstractions stay through an edit of wires, through more room, and through what messages change.
use Rattle.std.proofs.Common.{◌≡◌, ◌≢◌, ◌≤◌, ℕ, suc, ◌==◌, ◌&&◌, Bool, true, false, cond, not, List, [], ◌∷◌, map, slice_get, Option, Some, None, Ok, refl, sym, ap, ◌∙◌, subst, arith}
use Rattle.std.specs.Prelude.{option_map, option_and_then}
use Rattle.std.proofs.lemmas.Bool.Decides.{nat_tests}
use Rattle.std.proofs.lemmas.Option.{none-some, same_Some}
use Rattle.slab.specs.Slab.{Slab, get}
use Rattle.pd_canvas.specs.declared.edits.Edit.{Edit}
use Rattle.pd_canvas.specs.declared.edits.Edit.TheVariants as edit
use Rattle.pd_canvas.specs.declared.wires.Wire.{Wire}
use Rattle.pd_tree.specs.Ports.{Sockets}
use Rattle.pd_tree.specs.Trees.{Tree}
use Rattle.pd_grove.specs.declared.boards.Board.{Board}
use Rattle.pd_grove.specs.declared.grove.Grove.{Grove}
use Rattle.pd_grove.specs.declared.nodes.Node.{Node}
use Rattle.pd_grove.specs.declared.ports.Side.TheVariants.{Inlets, Outlets}
use Rattle.pd_grove.specs.OwnPaths.{sub_in, sub_step_in, sub_reached}
use Rattle.pd_grove.specs.Standing.{GroveStands}
use Rattle.pd_grove.specs.Telling.{inner_in, keys_in, with_state, step_in, reached}
use Rattle.pd_grove.specs.TextOrder.{deep}
use Rattle.pd_web.specs.declared.jacks.Jack.{Jack}
use Rattle.pd_web.specs.declared.lines.Line.{Line}
use Rattle.pd_web.specs.declared.web.Hop.{Hop}
use Rattle.pd_web.specs.declared.web.Web.{Web}
use Rattle.pd_web.specs.Canvases.{keys_at}
use Rattle.pd_web.specs.Changes.{hop_at, line_by, line_told, without_hop, KeepsPorts, IsListed, IsSame, Meet}
use Rattle.pd_web.specs.Hops.{boxes_told, ports_told, fan_hops, feed_hops, feed_keys, places_of}
use Rattle.pd_web.specs.Lines.{seen_by, seen_at, laid_at}
use Rattle.pd_web.specs.Sockets.{made_at}
use Rattle.pd_seek.specs.Places.{leads_to, key_to, AreInOrder}
use Rattle.pd_patch.specs.declared.patch.Patch.{Patch}
use Rattle.pd_patch.specs.Numbers.{AreApart}
use Rattle.pd_patch.specs.Wired.{LeadsHere}
use Rattle.pd_patch.proofs.WayLemmas.{path_whole}
use Rattle.pd_wiring.specs.Changes.{AreAlike, CanRewire, SameButRoom}
use Rattle.pd_wiring.specs.Plans.{Plan, Attaches, Detaches, Attached, Detached, IsCarriedOut, IsRewired, planned}
use Rattle.pd_reload_law.specs.Wires.{IsAmong}
use Rattle.pd_saved_law.proofs.EditLemmas.{IsLine, comes, goes, never_plan, elsewhere, sub_leads}
use Rattle.pd_saved_law.proofs.FitLemmas.{boxes_seen}
use Rattle.pd_alike_law.specs.Feeds.{FedOnce}
use Rattle.pd_alike_law.proofs.FeedLemmas.{keys_of, feed_keys_of}
use Rattle.pd_alike_law.proofs.MeetLemmas.{edits_meet, edits_order}
use Rattle.pd_alike_law.proofs.OnceLemmas.{edits_fed}
use Rattle.pd_inside_law.specs.Inside.{HasWiresOf, LeadsInside, IsWiredInside, HoldsWires}

-- ---- one canvas

-- the boxes have the ports and wires of the canvas still, where those are as they were
same_canvas : (w v : Web) (keys : List ℕ) (u : Tree) → boxes_told v keys ≡ boxes_told w keys → ((k o : ℕ) → IsAmong keys k → fan_hops v k o ≡ fan_hops w k o)
    → ((k i : ℕ) → IsAmong keys k → feed_hops v k i ≡ feed_hops w k i) → HasWiresOf w keys u → HasWiresOf v keys u
same_canvas w v keys u ports fans feeds h = record {
  ports = ports ∙ h.ports;
  fans = λ i o k e. ap places_of (fans k o (i, e)) ∙ h.fans i o k e;
  feeds = λ i o k e. ap places_of (feeds k o (i, e)) ∙ h.feeds i o k e;
}

-- ports are those of the boxes, whatever wires there are
ports_stay : (p q : Patch) (keys : List ℕ) → q.grove ≡ p.grove → CanRewire p → CanRewire q → boxes_told q.web keys ≡ boxes_told p.web keys
ports_stay p q keys same r s =
    boxes_seen q.grove q.web keys s.ports.ports s.ports.made ∙ ap (λ (g : Grove). map (seen_at g) keys) same
    ∙ sym (boxes_seen p.grove p.web keys r.ports.ports r.ports.made)

-- ---- the wire of an edit is in no other canvas

-- a canvas to which a path through subpatches alone leads is none inside an abstraction
apart : (p : Patch) (t : Tree) (path way : List ℕ) (c d : ℕ) (u : Tree) → GroveStands p.grove t.sheet t.boxes → deep t.boxes ≤ 256 → CanRewire p → sub_reached p.grove (Some p.grove.root) path ≡ Some d
    → LeadsInside p.grove t way c u → c ≢ d
apart p t path way c d u G low r at l e =
    let to : reached p.grove (Some p.grove.root) path ≡ Some c = sub_leads p.grove p.grove.root d path at ∙ ap (λ x. Some x) (sym e) in
    let same : path ≡ way =
    sym (path_whole p.grove p.numbers.items t.sheet t.boxes path c G r.numbers low to)
    ∙ path_whole p.grove p.numbers.items t.sheet t.boxes way c G r.numbers low l.here.key in
    none-some d (sym l.inside ∙ ap (sub_reached p.grove (Some p.grove.root)) (sym same) ∙ at)

-- hops of which none has the key
spared : (key : ℕ) (hops : List Hop) → ((n : ℕ) (h : Hop) → slice_get hops n ≡ Some h → h.key ≢ key) → without_hop key hops ≡ hops
spared key [] out = refl
spared key (h ∷ hops) out = keeps (not (h.key == key)) (other h.key key (out 0 h refl)) (spared key hops (λ n x e. out (suc n) x e))
  where
    other : (a b : ℕ) → a ≢ b → not (a == b) ≡ true
    other a b n = grind (arith, nat_tests)

    keeps : (b : Bool) → b ≡ true → without_hop key hops ≡ hops → cond b (h ∷ without_hop key hops) (without_hop key hops) ≡ h ∷ hops
    keeps true t e = ap (λ (l : List Hop). h ∷ l) e
    keeps false t e = cc

first_same : (a b c d : ℕ) → (a == c && b == d) ≡ true → a ≡ c
first_same a b c d t = grind (arith, nat_tests)

second_same : (a b c d : ℕ) → (a == c && b == d) ≡ true → b ≡ d
second_same a b c d t = grind (arith, nat_tests)

hop_is : (h : Hop) (key sink inlet : ℕ) → h.key ≡ key → (h.node == sink && h.port == inlet) ≡ true → h ≡ hop_at key sink inlet
hop_is h key sink inlet k t =
    ap (λ x. hop_at x h.node h.port) k ∙ ap (λ x. hop_at key x h.port) (first_same h.node h.port sink inlet t)
    ∙ ap (hop_at key sink) (second_same h.node h.port sink inlet t)

-- the wire that was found leads along the line
found_listed : (l : Line) (hops : List Hop) (key : ℕ) → key_to l hops ≡ Some key → IsListed hops (hop_at key l.sink l.inlet)
found_listed l [] key e = absurd (none-some key e)
found_listed l (h ∷ hops) key e = by (λ f. found_listed l hops key f) (leads_to l h) refl e
  where
    by : (key_to l hops ≡ Some key → IsListed hops (hop_at key l.sink l.inlet)) → (b : Bool) → leads_to l h ≡ b → cond b (Some h.key) (key_to l hops) ≡ Some key
        → IsListed (h ∷ hops) (hop_at key l.sink l.inlet)
    by on true t f = (0, ap (λ x. Some x) (hop_is h key l.sink l.inlet (same_Some h.key key f) t))
    by on false t f = let r = on f in (suc r.0, r.1)

-- each wire of a fan-out is told by its line
told : (w : Web) → FedOnce w → Meet w → (node outlet : ℕ) (h : Hop) → IsListed (fan_hops w node outlet) h → line_told w h.key ≡ Some (line_by (hop_at h.key node outlet) h)
told w fed m node outlet h i =
    let f = m.fed node outlet i.0 h i.1 in
    fed.lines h.node h.port f.0 (hop_at h.key node outlet) f.1

module _ (w : Web) (fed : FedOnce w) (m : Meet w) (key : ℕ) (l : Line) (first : key_to l (fan_hops w l.source l.outlet) ≡ Some key) where
  line_is : line_told w key ≡ Some (line_by (hop_at key l.source l.outlet) (hop_at key l.sink l.inlet))
  line_is = told w fed m l.source l.outlet (hop_at key l.sink l.inlet) (found_listed l (fan_hops w l.source l.outlet) key first)

  fan_source : (k o n : ℕ) (h : Hop) → slice_get (fan_hops w k o) n ≡ Some h → h.key ≡ key → k ≡ l.source
  fan_source k o n h e is =
      ap (λ (x : Line). x.source) (same_Some (line_by (hop_at h.key k o) h) (line_by (hop_at key l.source l.outlet) (hop_at key l.sink l.inlet))
      (sym (told w fed m k o h (n, e)) ∙ ap (line_told w) is ∙ line_is))

  feed_sink : (k i n : ℕ) (h : Hop) → slice_get (feed_hops w k i) n ≡ Some h → h.key ≡ key → k ≡ l.sink
  feed_sink k i n h e is =
      ap (λ (x : Line). x.sink) (same_Some (line_by h (hop_at h.key k i)) (line_by (hop_at key l.source l.outlet) (hop_at key l.sink l.inlet))
      (sym (fed.lines k i n h e) ∙ ap (line_told w) is ∙ line_is))

module _ (p q : Patch) (t : Tree) (path : List ℕ) (canvas : ℕ) (v : Wire) (l : Line) (G : GroveStands p.grove t.sheet t.boxes) (low : deep t.boxes ≤ 256) (r : CanRewire p) (h : HoldsWires p t)
    (at : sub_reached p.grove (Some p.grove.root) path ≡ Some canvas) (is : IsLine p.grove canvas v l) where
  -- neither box of the line lies in another canvas
  no_source : (way : List ℕ) (c : ℕ) (u : Tree) → LeadsInside p.grove t way c u → IsAmong (keys_at p.grove c) l.source → ⊥
  no_source way c u i a = elsewhere p canvas c v.source l.source r (apart p t path way c canvas u G low r at i) is.source a

  no_sink : (way : List ℕ) (c : ℕ) (u : Tree) → LeadsInside p.grove t way c u → IsAmong (keys_at p.grove c) l.sink → ⊥
  no_sink way c u i a = elsewhere p canvas c v.sink l.sink r (apart p t path way c canvas u G low r at i) is.sink a

  attached_inside : Attached p q l → IsWiredInside p.grove q.web t
  attached_inside a = record {
    all = λ way c u i.
        let keys = keys_at p.grove c in
        same_canvas p.web q.web keys u (ports_stay p q keys a.rest.grove r a.rewires)
        (λ k o b. a.joins.other_fans k o (λ e. absurd (no_source way c u i (subst (IsAmong keys) e b))))
        (λ k o b. a.joins.other_feeds k o (λ e. absurd (no_sink way c u i (subst (IsAmong keys) e b))))
        (h.inside.all way c u i);
  }

  detached_inside : (key : ℕ) → key_to l (fan_hops p.web l.source l.outlet) ≡ Some key → Detached p q key l → IsWiredInside p.grove q.web t
  detached_inside key first a = record {
    all = λ way c u i.
        let keys = keys_at p.grove c in
        same_canvas p.web q.web keys u (ports_stay p q keys a.rest.grove r a.rewires)
        (λ k o b. a.cuts.fans k o ∙ spared key (fan_hops p.web k o)
        (λ n x e s. no_source way c u i (subst (IsAmong keys) (fan_source p.web h.fed h.meet key l first k o n x e s) b)))
        (λ k o b. a.cuts.feeds k o ∙ spared key (feed_hops p.web k o)
        (λ n x e s. no_sink way c u i (subst (IsAmong keys) (feed_sink p.web h.fed h.meet key l first k o n x e s) b)))
        (h.inside.all way c u i);
  }

-- ---- an edit of wires

grove_same : (p q : Patch) (plan : Plan) → IsCarriedOut plan p q → q.grove ≡ p.grove
grove_same p q (Attaches c l) a = a.rest.grove
grove_same p q (Detaches c key l) a = a.rest.grove

edit_inside : (p q : Patch) (t : Tree) (path : List ℕ) (e : Edit) (plan : Plan) → GroveStands p.grove t.sheet t.boxes → deep t.boxes ≤ 256 → CanRewire p → HoldsWires p t → planned p path e ≡ Ok plan
    → IsCarriedOut plan p q → IsWiredInside p.grove q.web t
edit_inside p q t path (edit.Connect v) plan G low r h e done =
    let x = comes p v _ plan e in
    attached_inside p q t path x.canvas v x.line G low r h x.at x.is (subst (λ y. IsCarriedOut y p q) x.plan_is done)
edit_inside p q t path (edit.Disconnect v) plan G low r h e done =
    let x = goes p v _ plan e in
    detached_inside p q t path x.canvas v x.line G low r h x.at x.is x.key x.first (subst (λ y. IsCarriedOut y p q) x.plan_is done)
edit_inside p q t path e plan G low r h is done = absurd (never_plan _ plan is)

pub edits_hold : (p q : Patch) (t : Tree) (path : List ℕ) (e : Edit) (canvas : ℕ) → GroveStands p.grove t.sheet t.boxes → deep t.boxes ≤ 256 → CanRewire p → IsRewired p q path e canvas → HoldsWires p t → HoldsWires q t
edits_hold p q t path e canvas G low r x h =
    let same : q.grove ≡ p.grove = grove_same p q x.plan x.done in
    record {
      fed = edits_fed p q path e canvas x h.fed;
      meet = edits_meet p q path e canvas x h.meet;
      inside = subst (λ (g : Grove). IsWiredInside g q.web t) (sym same) (edit_inside p q t path e x.plan G low r h x.is_planned x.done);
      order = λ way c at. edits_order p q path e canvas c x (h.order way c (ap (λ (g : Grove). sub_reached g (Some g.root) way) (sym same) ∙ at));
    }

-- ---- more room

same_fed : (w v : Web) → IsSame w v → FedOnce w → FedOnce v
same_fed w v s f = record {
  lines = λ node inlet i h e.
      s.lines h.key ∙ f.lines node inlet i h (ap (λ (hs : List Hop). slice_get hs i) (sym (s.feeds node inlet)) ∙ e);
  once = λ node inlet. subst AreApart
      (sym (feed_keys_of w (feed_keys w node inlet)) ∙ ap keys_of (sym (s.feeds node inlet)) ∙ feed_keys_of v (feed_keys v node inlet)) (f.once node inlet);
}

same_meet : (w v : Web) → IsSame w v → Meet w → Meet v
same_meet w v s m = record {
  fed = λ node outlet i h e.
      subst (λ (hs : List Hop). IsListed hs (hop_at h.key node outlet)) (sym (s.feeds h.node h.port))
      (m.fed node outlet i h (ap (λ (hs : List Hop). slice_get hs i) (sym (s.fans node outlet)) ∙ e));
  fanned = λ node inlet i h e.
      subst (λ (hs : List Hop). IsListed hs (hop_at h.key node inlet)) (sym (s.fans h.node h.port))
      (m.fanned node inlet i h (ap (λ (hs : List Hop). slice_get hs i) (sym (s.feeds node inlet)) ∙ e));
}

told_same : (w v : Web) (keys : List ℕ) → KeepsPorts w v → boxes_told v keys ≡ boxes_told w keys
told_same w v [] k = refl
told_same w v (x ∷ keys) k =
    ap (λ (y : Sockets). y ∷ boxes_told v keys) one ∙ ap (λ (l : List Sockets). laid_at w.sockets.items x ∷ l) (told_same w v keys k)
  where
    one : laid_at v.sockets.items x ≡ laid_at w.sockets.items x
    one =
        ap (λ (y : List Jack). seen_by y (ports_told v Outlets x) (made_at v.sockets.items x)) (k.ports Inlets x)
        ∙ ap (λ (y : List Jack). seen_by (ports_told w Inlets x) y (made_at v.sockets.items x)) (k.ports Outlets x)
        ∙ ap (seen_by (ports_told w Inlets x) (ports_told w Outlets x)) (k.made x)

pub room_holds : (p q : Patch) (t : Tree) → SameButRoom p q → HoldsWires p t → HoldsWires q t
room_holds p q t s h = record {
  fed = same_fed p.web q.web s.web h.fed;
  meet = same_meet p.web q.web s.web h.meet;
  inside = subst (λ (g : Grove). IsWiredInside g q.web t) (sym s.grove) (record {
    all = λ way c u i.
        same_canvas p.web q.web (keys_at p.grove c) u (told_same p.web q.web (keys_at p.grove c) s.web.kept) (λ k o b. s.web.fans k o) (λ k o b. s.web.feeds k o) (h.inside.all way c u i);
  });
  order = λ way c at.
      let f = h.order way c (ap (λ (g : Grove). sub_reached g (Some g.root) way) (sym s.grove) ∙ at) in
      record {
        all = λ i k inlet e.
            subst (λ (x : _). AreInOrder x.items (feed_hops q.web k inlet)) (sym s.numbers)
            (subst (AreInOrder p.numbers.items) (sym (s.web.feeds k inlet)) (f.all i k inlet (ap (λ (g : Grove). slice_get (keys_at g c) i) (sym s.grove) ∙ e)));
      };
}

-- ---- what boxes keep

abbrev bare : Option Node → Option Node
bare o = option_map (with_state None) o

bare_sub : (o : Option Node) → sub_in (bare o) ≡ sub_in o
bare_sub None = refl
bare_sub (Some n) = refl

bare_inner : (o : Option Node) → inner_in (bare o) ≡ inner_in o
bare_inner None = refl
bare_inner (Some n) = refl

module _ (g g2 : Grove) (nodes : (k : ℕ) → bare (get g2.nodes k) ≡ bare (get g.nodes k)) (boards : g2.boards ≡ g.boards) where
  keys_same : (c : ℕ) → keys_at g2 c ≡ keys_at g c
  keys_same c = ap (λ (b : Slab Board). keys_in (get b c)) boards

  same_inner : (o : Option ℕ) → option_and_then (λ k. inner_in (get g2.nodes k)) o ≡ option_and_then (λ k. inner_in (get g.nodes k)) o
  same_inner None = refl
  same_inner (Some k) = sym (bare_inner (get g2.nodes k)) ∙ ap inner_in (nodes k) ∙ bare_inner (get g.nodes k)

  same_sub : (o : Option ℕ) → option_and_then (λ k. sub_in (get g2.nodes k)) o ≡ option_and_then (λ k. sub_in (get g.nodes k)) o
  same_sub None = refl
  same_sub (Some k) = sym (bare_sub (get g2.nodes k)) ∙ ap sub_in (nodes k) ∙ bare_sub (get g.nodes k)

  next_inner : (n : ℕ) (here : Option ℕ) → option_and_then (λ c. step_in g2 c n) here ≡ option_and_then (λ c. step_in g c n) here
  next_inner n None = refl
  next_inner n (Some c) = ap (λ (ks : List ℕ). option_and_then (λ k. inner_in (get g2.nodes k)) (slice_get ks n)) (keys_same c) ∙ same_inner (slice_get (keys_at g c) n)

  next_sub : (n : ℕ) (here : Option ℕ) → option_and_then (λ c. sub_step_in g2 c n) here ≡ option_and_then (λ c. sub_step_in g c n) here
  next_sub n None = refl
  next_sub n (Some c) = ap (λ (ks : List ℕ). option_and_then (λ k. sub_in (get g2.nodes k)) (slice_get ks n)) (keys_same c) ∙ same_sub (slice_get (keys_at g c) n)

  same_reached : (path : List ℕ) (here : Option ℕ) → reached g2 here path ≡ reached g here path
  same_reached [] here = refl
  same_reached (n ∷ path) here = ap (λ o. reached g2 o path) (next_inner n here) ∙ same_reached path (option_and_then (λ c. step_in g c n) here)

  same_sub_reached : (path : List ℕ) (here : Option ℕ) → sub_reached g2 here path ≡ sub_reached g here path
  same_sub_reached [] here = refl
  same_sub_reached (n ∷ path) here = ap (λ o. sub_reached g2 o path) (next_sub n here) ∙ same_sub_reached path (option_and_then (λ c. sub_step_in g c n) here)

  module _ (root : g2.root ≡ g.root) where
    from_root : (path : List ℕ) → sub_reached g2 (Some g2.root) path ≡ sub_reached g (Some g.root) path
    from_root path = same_sub_reached path (Some g2.root) ∙ ap (λ (r : ℕ). sub_reached g (Some r) path) root

    inside_alike : (w : Web) (t : Tree) → IsWiredInside g w t → IsWiredInside g2 w t
    inside_alike w t h = record {
      all = λ path c u l.
          let here : LeadsHere g t path c u = record {
            key = ap (λ (r : ℕ). reached g (Some r) path) (sym root) ∙ sym (same_reached path (Some g2.root)) ∙ l.here.key;
            canvas = l.here.canvas;
          } in
          subst (λ (ks : List ℕ). HasWiresOf w ks u) (sym (keys_same c)) (h.all path c u (record { here = here; inside = sym (from_root path) ∙ l.inside }));
    }

pub alike_hold : (p q : Patch) (t : Tree) → AreAlike p q → q.grove.root ≡ p.grove.root → HoldsWires p t → HoldsWires q t
alike_hold p q t a root h = record {
  fed = subst FedOnce (sym a.web) h.fed;
  meet = subst Meet (sym a.web) h.meet;
  inside = subst (λ (w : Web). IsWiredInside q.grove w t) (sym a.web) (inside_alike p.grove q.grove a.nodes a.boards root p.web t h.inside);
  order = λ path c at.
      let f = h.order path c (sym (from_root p.grove q.grove a.nodes a.boards root path) ∙ at) in
      record {
        all = λ i k inlet e.
            subst (λ (x : _). AreInOrder x.items (feed_hops q.web k inlet)) (sym a.numbers)
            (subst (λ (w : Web). AreInOrder p.numbers.items (feed_hops w k inlet)) (sym a.web)
            (f.all i k inlet (ap (λ (ks : List ℕ). slice_get ks i) (sym (keys_same p.grove q.grove a.nodes a.boards c)) ∙ e)));
      };
}
