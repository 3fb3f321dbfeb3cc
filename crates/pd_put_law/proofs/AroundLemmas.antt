-- Where the box around a canvas has a port more, the wires of the patch hold and fit.
use Rattle.std.proofs.Common.{◌≡◌, ◌≢◌, ◌==◌, ℕ, suc, Bool, true, cond, List, [], ◌∷◌, map, slice_get, Option, Some, inl, inr, eq-eqb, refl, sym, ap, ◌∙◌, subst}
use Rattle.std.specs.Prelude.{option_and_then}
use Rattle.std.specs.List.{AllByRecursion}
use Rattle.std.proofs.lemmas.Bool.{cases_eq}
use Rattle.std.proofs.lemmas.Option.{none-some, same_Some}
use Rattle.slab.specs.Slab.{get}
use Rattle.pd_canvas.specs.declared.wires.Wire.{Wire}
use Rattle.pd_tree.specs.Ports.{Sockets, fits}
use Rattle.pd_tree.specs.Trees.{Tree}
use Rattle.pd_grove.specs.declared.grove.Grove.{Grove}
use Rattle.pd_grove.specs.declared.ports.Side.{Side}
use Rattle.pd_grove.specs.declared.ports.Side.TheVariants.{Inlets, Outlets}
use Rattle.pd_grove.specs.Forest.{holder_in}
use Rattle.pd_grove.specs.OwnPaths.{sub_in, sub_step_in, sub_reached}
use Rattle.pd_grove.specs.Telling.{inner_in}
use Rattle.pd_web.specs.declared.jacks.Jack.{Jack}
use Rattle.pd_web.specs.declared.web.Hop.{Hop}
use Rattle.pd_web.specs.declared.web.Web.{Web}
use Rattle.pd_web.specs.Canvases.{keys_at}
use Rattle.pd_web.specs.Changes.{hop_at, Meet}
use Rattle.pd_web.specs.Hops.{boxes_told, feed_hops, fan_hops}
use Rattle.pd_web.specs.Jacks.{jacks_at}
use Rattle.pd_seek.specs.Places.{label_at, AreInOrder, IsNoLater}
use Rattle.pd_present.specs.Presents.{wires_among}
use Rattle.pd_patch.specs.declared.patch.Patch.{Patch}
use Rattle.pd_patch.specs.Linked.{ShareCanvas, StayInside}
use Rattle.pd_ports.specs.Moves.{FollowsPorts}
use Rattle.pd_wiring.proofs.HeardLemmas.{all_at}
use Rattle.pd_reload_law.specs.Wires.{AreNumbered, IsAmong, StayAmong}
use Rattle.pd_reload_law.proofs.EditLemmas.{sub_inner}
use Rattle.pd_saved_law.specs.Fitting.{WiresFit}
use Rattle.pd_inside_law.specs.Inside.{HasWiresOf, LeadsInside, HoldsWires}
use Rattle.pd_putting_law.proofs.PathLemmas.{Forest, subs, sub_leads, paths_once}
use Rattle.pd_following.specs.Raising.{up, raised, Raises, IsOneMore}
use Rattle.pd_following.proofs.FeedLemmas.{mapped_from, none_ordered, raised_later}
use Rattle.pd_following.proofs.ListLemmas.{up_or}
use Rattle.pd_following.proofs.RaiseLemmas.{differ_test}
use Rattle.pd_following_law.specs.Raised.{StandsAt, raised_wire}
use Rattle.pd_following_law.proofs.WireLemmas.{wires_here, wires_away}
use Rattle.pd_put_law.proofs.RoomLemmas.{same_canvas, told_same, laid_same, label_is}
use Rattle.pd_put_law.proofs.FollowLemmas.{fits_raised, fed_raised}

-- ---- where the box around stands

-- a box stands in a canvas to which a path leads from another one
record StandsFrom (g : Grove) (e k : ℕ) : Type 0 where
  path : List ℕ
  canvas : ℕ
  number : ℕ
  leads : sub_reached g (Some e) path ≡ Some canvas
  at : slice_get (keys_at g canvas) number ≡ Some k

stands_on_way : (g : Grove) → Forest g → (n : ℕ) (path : List ℕ) (e c k : ℕ) → sub_reached g (Some e) (n ∷ path) ≡ Some c → inner_in (get g.nodes k) ≡ Some c → StandsFrom g e k
stands_on_way g F n [] e c k h holds =
    let s = subs g e n [] c h in
    let inner : inner_in (get g.nodes s.key) ≡ Some s.inner = sub_inner (get g.nodes s.key) s.inner s.sub in
    let same : s.key ≡ k =
    same_Some s.key k (sym (F.inside s.key s.inner inner) ∙ ap (λ x. holder_in (get g.boards x)) (same_Some s.inner c s.on) ∙ F.inside k c holds) in
    record { path = []; canvas = e; number = n; leads = refl; at = s.is ∙ ap (λ x. Some x) same }
stands_on_way g F n (m ∷ path) e c k h holds =
    let s = subs g e n (m ∷ path) c h in
    let r = stands_on_way g F m path s.inner c k s.on holds in
    let step : sub_step_in g e n ≡ Some s.inner = ap (λ (o : Option ℕ). option_and_then (λ x. sub_in (get g.nodes x)) o) s.is ∙ s.sub in
    record {
      path = n ∷ r.path;
      canvas = r.canvas;
      number = r.number;
      leads = ap (λ (o : Option ℕ). sub_reached g o r.path) step ∙ r.leads;
      at = r.at;
    }

-- the box that holds a canvas of the document stands in a canvas of the document
pub holder_stands : (g : Grove) → Forest g → (path : List ℕ) (c k : ℕ) → sub_reached g (Some g.root) path ≡ Some c → inner_in (get g.nodes k) ≡ Some c
    → (way : List ℕ) × (n : ℕ) × StandsAt g way n k
holder_stands g F [] c k leads holds =
    absurd (none-some k (sym F.rooted.1 ∙ ap (λ x. holder_in (get g.boards x)) (same_Some g.root c leads) ∙ F.inside k c holds))
holder_stands g F (n ∷ path) c k leads holds =
    let s = stands_on_way g F n path g.root c k leads holds in (s.path, s.number, record { canvas = s.canvas; leads = s.leads; at = s.at })

-- ---- a port more

-- A box of the document has a port more on a side, and the wires at the ports behind it are where they are then. The boxes and their numbers stay.
pub record HasFollowed (p q : Patch) (holder : ℕ) (side : Side) (at : ℕ) (jack : Jack) : Type 0 where
  pub grove : q.grove ≡ p.grove
  pub numbers : q.numbers ≡ p.numbers
  pub forest : Forest p.grove
  pub inside : StayInside p.grove p.web
  pub numbered : (c : ℕ) → AreNumbered p.numbers.items (keys_at p.grove c)
  pub raises : Raises p.web q.web holder side at jack
  pub more : IsOneMore p.web q.grove holder side at jack
  pub follows : FollowsPorts p.web q.web holder side (jacks_at side q.grove holder)
  pub meet : Meet q.web
  pub path : List ℕ
  pub number : ℕ
  pub stands : StandsAt p.grove path number holder

all_turned : {X : Type 0} (P Q : X → Type 0) (f : X → X) (xs : List X) → ((x : X) → P x → Q (f x)) → AllByRecursion P xs → AllByRecursion Q (map f xs)
all_turned P Q f [] h a = tt
all_turned P Q f (x ∷ xs) h a = (h x a.0, all_turned P Q f xs h a.1)

map_none : {X : Type 0} (f : X → X) (xs : List X) → ((i : ℕ) (x : X) → slice_get xs i ≡ Some x → f x ≡ x) → map f xs ≡ xs
map_none f [] h = refl
map_none {X} f (x ∷ xs) h = ap (λ (y : X). y ∷ map f xs) (h 0 x refl) ∙ ap (λ (l : List X). x ∷ l) (map_none f xs (λ i. h (suc i)))

-- a wire that leads to another box leads there still
raised_off : (key at : ℕ) (h : Hop) → h.node ≢ key → raised key at h ≡ h
raised_off key at h d = ap (λ (b : Bool). record { key = h.key; node = h.node; port = cond b (up at h.port) h.port }) (differ_test h.node key d)

module _ (p q : Patch) (holder : ℕ) (side : Side) (at : ℕ) (jack : Jack) (F : HasFollowed p q holder side at jack) where
  abbrev here : ℕ
  here = F.stands.canvas

  abbrev keys : ℕ → List ℕ
  keys c = keys_at p.grove c

  among : (c : ℕ) → StayAmong p.web (keys c)
  among c k o i h a is =
      let t : ShareCanvas p.grove k h.node = all_at (λ (x : Hop). ShareCanvas p.grove k x.node) (fan_hops p.web k o) i h (F.inside k o) is in
      let same : t.canvas ≡ c = same_Some t.canvas c (sym (F.forest.own.home t.canvas t.one.0 k t.one.1) ∙ F.forest.own.home c a.0 k a.1) in
      subst (λ x. IsAmong (keys x) h.node) same t.other

  -- the box stands in its canvas alone
  only_here : (c : ℕ) → IsAmong (keys c) holder → c ≡ here
  only_here c there = same_Some c here (sym (F.forest.own.home c there.0 holder there.1) ∙ F.forest.own.home here F.number holder F.stands.at)

  -- ---- wires that fit

  same_number : (i k : ℕ) → slice_get (keys here) i ≡ Some k → (k == holder) ≡ (i == F.number)
  same_number i k e = elim (cases_eq k holder) [
    | inl s ↦ eq-eqb k holder s ∙ sym (eq-eqb i F.number (F.forest.own.once here i F.number k e (F.stands.at ∙ ap (λ x. Some x) (sym s))))
    | inr d ↦ differ_test k holder d ∙ sym (differ_test i F.number (λ s. d (same_Some k holder (sym e ∙ ap (slice_get (keys here)) s ∙ F.stands.at))))
  ]

  told_away : (c : ℕ) → (IsAmong (keys c) holder → ⊥) → boxes_told q.web (keys c) ≡ boxes_told p.web (keys c)
  told_away c away = told_same p.web q.web (keys c) (λ i k e.
      let other : k ≢ holder = (λ s. away (i, e ∙ ap (λ x. Some x) s)) in
      laid_same p.web q.web k (F.raises.other_ports Inlets k (λ s. absurd (other s))) (F.raises.other_ports Outlets k (λ s. absurd (other s))) (F.raises.made k))

  abbrev Fits : Web → List ℕ → Wire → Type 0
  Fits w ks v = fits (boxes_told w ks) v ≡ true

  fit_here : WiresFit p → AllByRecursion (Fits q.web (keys here)) (wires_among q.web p.numbers.items (keys here))
  fit_here f =
      subst (AllByRecursion (Fits q.web (keys here)))
      (sym (wires_here p.web q.web p.numbers.items (keys here) holder F.number at jack (F.numbered here) (among here) F.stands.at side F.raises))
      (all_turned (Fits p.web (keys here)) (Fits q.web (keys here)) (raised_wire side F.number at) (wires_among p.web p.numbers.items (keys here))
      (fits_raised p.web q.web holder at jack (keys here) F.number same_number side F.raises) (f.all here))

  fit_away : WiresFit p → (c : ℕ) → (IsAmong (keys c) holder → ⊥) → AllByRecursion (Fits q.web (keys c)) (wires_among q.web p.numbers.items (keys c))
  fit_away f c away =
      subst (AllByRecursion (Fits q.web (keys c))) (sym (wires_away p.web q.web p.numbers.items (keys c) holder at jack (among c) away side F.raises))
      (subst (λ (x : List Sockets). AllByRecursion (λ v. fits x v ≡ true) (wires_among p.web p.numbers.items (keys c))) (sym (told_away c away)) (f.all c))

  fit_there : WiresFit p → (c : ℕ) → AllByRecursion (Fits q.web (keys c)) (wires_among q.web p.numbers.items (keys c))
  fit_there f c = elim (cases_eq c here) [
    | inl e ↦ subst (λ x. AllByRecursion (Fits q.web (keys x)) (wires_among q.web p.numbers.items (keys x))) (sym e) (fit_here f)
    | inr d ↦ fit_away f c (λ there. d (only_here c there))
  ]

  -- the wires fit
  pub fits_followed : WiresFit p → WiresFit q
  fits_followed f = record {
    all = λ c.
        subst (λ (g : Grove). AllByRecursion (Fits q.web (keys_at g c)) (wires_among q.web q.numbers.items (keys_at g c))) (sym F.grove)
        (subst (λ ns. AllByRecursion (Fits q.web (keys c)) (wires_among q.web ns.items (keys c))) (sym F.numbers) (fit_there f c));
  }

  -- ---- lists of wires, in a canvas where the box isn't

  -- from the boxes of a canvas the wires to its boxes come
  feeds_among : Meet p.web → (c k i j : ℕ) (h : Hop) → IsAmong (keys c) k → slice_get (feed_hops p.web k i) j ≡ Some h → IsAmong (keys c) h.node
  feeds_among M c k i j h a e =
      let m = M.fanned k i j h e in
      let t : ShareCanvas p.grove h.node k =
      all_at (λ (x : Hop). ShareCanvas p.grove h.node x.node) (fan_hops p.web h.node h.port) m.0 (hop_at h.key k i) (F.inside h.node h.port) m.1 in
      let same : t.canvas ≡ c = same_Some t.canvas c (sym (F.forest.own.home t.canvas t.other.0 k t.other.1) ∙ F.forest.own.home c a.0 k a.1) in
      subst (λ x. IsAmong (keys x) h.node) same t.one

  fans_off : (c k o : ℕ) → (IsAmong (keys c) holder → ⊥) → IsAmong (keys c) k → map (raised holder at) (fan_hops p.web k o) ≡ fan_hops p.web k o
  fans_off c k o away a =
      map_none (raised holder at) (fan_hops p.web k o) (λ i h e. raised_off holder at h (λ s. away (subst (IsAmong (keys c)) s (among c k o i h a e))))

  feeds_off : Meet p.web → (c k i : ℕ) → (IsAmong (keys c) holder → ⊥) → IsAmong (keys c) k → map (raised holder at) (feed_hops p.web k i) ≡ feed_hops p.web k i
  feeds_off M c k i away a =
      map_none (raised holder at) (feed_hops p.web k i) (λ j h e. raised_off holder at h (λ s. away (subst (IsAmong (keys c)) s (feeds_among M c k i j h a e))))

  other_box : (c k : ℕ) → (IsAmong (keys c) holder → ⊥) → IsAmong (keys c) k → k ≢ holder
  other_box c k away a s = away (subst (IsAmong (keys c)) s a)

  fans_away : (s : Side) → Raises p.web q.web holder s at jack → (c k o : ℕ) → (IsAmong (keys c) holder → ⊥) → IsAmong (keys c) k → fan_hops q.web k o ≡ fan_hops p.web k o
  fans_away Inlets X c k o away a = X.across k o ∙ fans_off c k o away a
  fans_away Outlets X c k o away a = X.others k o (other_box c k away a)

  feeds_away : (s : Side) → Raises p.web q.web holder s at jack → Meet p.web → (c k i : ℕ) → (IsAmong (keys c) holder → ⊥) → IsAmong (keys c) k → feed_hops q.web k i ≡ feed_hops p.web k i
  feeds_away Inlets X M c k i away a = X.others k i (other_box c k away a)
  feeds_away Outlets X M c k i away a = X.across k i ∙ feeds_off M c k i away a

  -- inside an abstraction the box isn't
  not_inside : (t : Tree) (way : List ℕ) (d : ℕ) (u : Tree) → LeadsInside p.grove t way d u → IsAmong (keys d) holder → ⊥
  not_inside t way d u l there =
      let same : F.path ≡ way =
      paths_once p.grove F.forest F.path way p.grove.root here (sub_leads p.grove p.grove.root here F.path F.stands.leads) (l.here.key ∙ ap (λ x. Some x) (only_here d there)) in
      none-some here (sym l.inside ∙ ap (sub_reached p.grove (Some p.grove.root)) (sym same) ∙ F.stands.leads)

  inside_followed : (t : Tree) → HoldsWires p t → (way : List ℕ) (d : ℕ) (u : Tree) → LeadsInside p.grove t way d u → HasWiresOf q.web (keys d) u
  inside_followed t h way d u l =
      let away = not_inside t way d u l in
      same_canvas p.web q.web (keys d) u (told_away d away) (λ k o a. fans_away side F.raises d k o away a) (λ k i a. feeds_away side F.raises h.meet d k i away a)
      (h.inside.all way d u l)

  -- ---- feeds in their order

  -- no other box of its canvas has its number
  own_label : (x : ℕ) → IsAmong (keys here) x → label_at p.numbers.items x ≡ label_at p.numbers.items holder → x ≡ holder
  own_label x a e =
      let same : a.0 ≡ F.number =
      sym (label_is p.numbers.items x a.0 (F.numbered here a.0 x a.1)) ∙ e ∙ label_is p.numbers.items holder F.number (F.numbered here F.number holder F.stands.at) in
      same_Some x holder (sym a.1 ∙ ap (slice_get (keys here)) same ∙ F.stands.at)

  abbrev InOrder : List Hop → Type 0
  InOrder hops = AreInOrder p.numbers.items hops

  inlets_order : Raises p.web q.web holder Inlets at jack → (k : ℕ) → ((i : ℕ) → InOrder (feed_hops p.web k i)) → (i : ℕ) → InOrder (feed_hops q.web k i)
  inlets_order X k o i = elim (cases_eq k holder) [
    | inr d ↦ subst InOrder (sym (X.others k i d)) (o i)
    | inl e ↦ elim (up_or at i) [
      | inl new ↦ none_ordered p.numbers.items (feed_hops q.web k i) (ap (λ x. feed_hops q.web x i) e ∙ ap (feed_hops q.web holder) new ∙ X.came)
      | inr j ↦
          subst InOrder (sym (ap (λ x. feed_hops q.web x i) e ∙ ap (feed_hops q.web holder) j.1 ∙ X.own j.0)) (subst (λ x. InOrder (feed_hops p.web x j.0)) e (o j.0))
    ]
  ]

  outlets_order : Raises p.web q.web holder Outlets at jack → Meet p.web → (k i : ℕ) → IsAmong (keys here) k → InOrder (feed_hops p.web k i) → InOrder (feed_hops q.web k i)
  outlets_order X M k i a o = subst InOrder (sym (X.across k i)) (λ m n g' h' l e f.
      let g = mapped_from (raised holder at) (feed_hops p.web k i) m g' e in
      let h = mapped_from (raised holder at) (feed_hops p.web k i) n h' f in
      subst (λ (x : Hop). IsNoLater p.numbers.items x h') g.2 (subst (λ (x : Hop). IsNoLater p.numbers.items (raised holder at g.0) x) h.2
      (raised_later p.web q.web holder at jack p.numbers.items g.0 h.0 (own_label g.0.node (feeds_among M here k i m g.0 a g.1)) (own_label h.0.node (feeds_among M here k i n h.0 a h.1))
      (o m n g.0 h.0 l g.1 h.1))))

  order_by : (s : Side) → Raises p.web q.web holder s at jack → Meet p.web → (c k : ℕ) → IsAmong (keys c) k → ((i : ℕ) → InOrder (feed_hops p.web k i)) → (i : ℕ) → InOrder (feed_hops q.web k i)
  order_by Inlets X M c k a o i = inlets_order X k o i
  order_by Outlets X M c k a o i = elim (cases_eq c here) [
    | inl e ↦ outlets_order X M k i (subst (λ x. IsAmong (keys x) k) e a) (o i)
    | inr d ↦ subst InOrder (sym (feeds_away Outlets X M c k i (λ there. d (only_here c there)) a)) (o i)
  ]

  -- the wires hold
  pub holds_followed : (t : Tree) → HoldsWires p t → HoldsWires q t
  holds_followed t h = record {
    fed = fed_raised p.web q.web holder at jack q.grove h.meet h.fed side F.raises F.more F.follows;
    meet = F.meet;
    inside = record {
      all = λ way d u l.
          subst (λ (g : Grove). HasWiresOf q.web (keys_at g d) u) (sym F.grove) (inside_followed t h way d u (subst (λ (g : Grove). LeadsInside g t way d u) F.grove l));
    };
    order = λ way d leads. record {
      all = λ i k inlet e.
          let was = h.order way d (subst (λ (g : Grove). sub_reached g (Some g.root) way ≡ Some d) F.grove leads) in
          let there : slice_get (keys d) i ≡ Some k = subst (λ (g : Grove). slice_get (keys_at g d) i ≡ Some k) F.grove e in
          subst (λ ns. AreInOrder ns.items (feed_hops q.web k inlet)) (sym F.numbers)
          (order_by side F.raises h.meet d k (i, there) (λ m. was.all i k m there) inlet);
    };
  }
