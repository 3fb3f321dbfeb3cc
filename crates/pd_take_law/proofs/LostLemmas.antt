-- Where the box around a canvas has a port fewer, the wires of the patch hold and fit.
use Rattle.std.proofs.Common.{◌≡◌, ◌≢◌, ◌<◌, ◌≤◌, ◌==◌, ℕ, suc, Bool, true, cond, List, [], ◌∷◌, map, length, slice_get, Some, IsSome, inl, inr, eq-eqb, refl, sym, ap, ◌∙◌, subst, arith}
use Rattle.std.specs.Prelude.{option_map}
use Rattle.std.specs.List.{AllByRecursion}
use Rattle.std.proofs.lemmas.Bool.{cases_eq, cases_lt}
use Rattle.std.proofs.lemmas.Option.{same_Some, slice_get-map}
use Rattle.pd_canvas.specs.declared.wires.Wire.{Wire}
use Rattle.pd_tree.specs.Ports.{Sockets, fits}
use Rattle.pd_tree.specs.Trees.{Tree}
use Rattle.pd_grove.specs.declared.grove.Grove.{Grove}
use Rattle.pd_grove.specs.declared.ports.Side.{Side}
use Rattle.pd_grove.specs.declared.ports.Side.TheVariants.{Inlets, Outlets}
use Rattle.pd_grove.specs.OwnPaths.{sub_reached}
use Rattle.pd_web.specs.declared.jacks.Jack.{Jack}
use Rattle.pd_web.specs.declared.web.Hop.{Hop}
use Rattle.pd_web.specs.declared.web.Web.{Web}
use Rattle.pd_web.specs.Canvases.{keys_at}
use Rattle.pd_web.specs.Changes.{Meet}
use Rattle.pd_web.specs.Homes.{inner_in}
use Rattle.pd_web.specs.Hops.{boxes_told, fan_hops, feed_hops, jack_told, places_of, ports_told}
use Rattle.pd_web.specs.Lines.{seen_by}
use Rattle.pd_web.specs.Sockets.{made_at}
use Rattle.pd_seek.specs.Places.{label_at, AreInOrder, IsNoLater}
use Rattle.pd_present.specs.Presents.{wires_among}
use Rattle.pd_patch.specs.declared.patch.Patch.{Patch}
use Rattle.pd_ports.specs.Moves.{FollowsPorts}
use Rattle.pd_boxes.specs.Put.{CanPut}
use Rattle.pd_reload_law.specs.Wires.{IsAmong, StayAmong}
use Rattle.pd_saved_law.specs.Fitting.{WiresFit}
use Rattle.pd_inside_law.specs.Inside.{HasWiresOf, HoldsWires, LeadsInside}
use Rattle.pd_following.specs.Raising.{up, raised, Raises}
use Rattle.pd_following.proofs.ListLemmas.{up_before, up_behind}
use Rattle.pd_following.proofs.RaiseLemmas.{differ_test}
use Rattle.pd_following_law.specs.Raised.{raised_wire, StandsAt}
use Rattle.pd_following_law.proofs.WireLemmas.{wires_away, wires_here}
use Rattle.pd_take_law.proofs.GoneLemmas.{stay_among}
use Rattle.pd_take_law.proofs.FitLemmas.{told_same}
use Rattle.pd_take_law.proofs.OrderLemmas.{label_is}
use Rattle.pd_take_law.proofs.AroundLemmas.{feeds_among, not_inside, only_here}
use Rattle.pd_take_law.proofs.LowerLemmas.{fed_lowered, fits_lowered}

-- ---- lists

all_turned : {X Y : Type 0} (P : X → Type 0) (Q : Y → Type 0) (f : X → Y) (xs : List X) → ((x : X) → Q (f x) → P x) → AllByRecursion Q (map f xs) → AllByRecursion P xs
all_turned P Q f [] h a = tt
all_turned P Q f (x ∷ xs) h a = (h x a.0, all_turned P Q f xs h a.1)

map_none : {X : Type 0} (f : X → X) (xs : List X) → ((i : ℕ) (x : X) → slice_get xs i ≡ Some x → f x ≡ x) → map f xs ≡ xs
map_none f [] h = refl
map_none {X} f (x ∷ xs) h = ap (λ (y : X). y ∷ map f xs) (h 0 x refl) ∙ ap (λ (l : List X). x ∷ l) (map_none f xs (λ i. h (suc i)))

-- a wire that leads to another box leads where it led
raised_off : (key at : ℕ) (h : Hop) → h.node ≢ key → raised key at h ≡ h
raised_off key at h d = ap (λ (b : Bool). record { key = h.key; node = h.node; port = cond b (up at h.port) h.port }) (differ_test h.node key d)

-- ---- order

up_back : (at i j : ℕ) → up at i ≤ up at j → i ≤ j
up_back at i j h = elim (cases_lt i at) [
  | inl l ↦ elim (cases_lt j at) [
    | inl m ↦ let u = up_before at i l in let v = up_before at j m in omega (arith, u, v, h)
    | inr m ↦ omega (arith, l, m)
  ]
  | inr l ↦ elim (cases_lt j at) [
    | inl m ↦ let u = up_behind at i l in let v = up_before at j m in omega (arith, u, v, h, m, l)
    | inr m ↦ let u = up_behind at i l in let v = up_behind at j m in omega (arith, u, v, h)
  ]
]

module _ (key at : ℕ) (labels : List ℕ) where
  -- of two feeds, of which no other box than this one has its label, the one is no later than the other where it was
  back_later : (g h : Hop) → (label_at labels g.node ≡ label_at labels key → g.node ≡ key) → (label_at labels h.node ≡ label_at labels key → h.node ≡ key)
      → IsNoLater labels (raised key at g) (raised key at h) → IsNoLater labels g h
  back_later g h own also (inl less) = inl less
  back_later g h own also (inr same) = inr (
    same.0,
    elim (cases_eq g.node key) [
      | inl e ↦
          let f : h.node ≡ key = also (sym same.0 ∙ ap (label_at labels) e) in
          let a = ap (λ (b : Bool). cond b (up at g.port) g.port) (eq-eqb g.node key e) in
          let b = ap (λ (b : Bool). cond b (up at h.port) h.port) (eq-eqb h.node key f) in
          let l = same.1 in
          up_back at g.port h.port (omega (arith, a, b, l))
      | inr d ↦
          let f : h.node ≢ key = (λ e. d (own (same.0 ∙ ap (label_at labels) e))) in
          let a = ap (λ (b : Bool). cond b (up at g.port) g.port) (differ_test g.node key d) in
          let b = ap (λ (b : Bool). cond b (up at h.port) h.port) (differ_test h.node key f) in
          let l = same.1 in
          omega (arith, a, b, l)
    ],
  )

  raised_at : (hops : List Hop) (i : ℕ) (h : Hop) → slice_get hops i ≡ Some h → slice_get (map (raised key at) hops) i ≡ Some (raised key at h)
  raised_at hops i h e = slice_get-map (raised key at) hops i ∙ ap (option_map (raised key at)) e

  -- so feeds are in order where they were
  back_ordered : (hops : List Hop) → ((i : ℕ) (h : Hop) → slice_get hops i ≡ Some h → label_at labels h.node ≡ label_at labels key → h.node ≡ key) → AreInOrder labels (map (raised key at) hops)
      → AreInOrder labels hops
  back_ordered hops own order i j g h l a b =
      back_later g h (own i g a) (own j h b) (order i j (raised key at g) (raised key at h) l (raised_at hops i g a) (raised_at hops j h b))

-- ---- patches

-- A box of the document has a port fewer on a side, and the wires at the ports behind it are where they are then. The boxes and their numbers stay.
pub record HasLost (p q : Patch) (holder : ℕ) (side : Side) (at : ℕ) (jack : Jack) (jacks : List Jack) : Type 0 where
  pub grove : q.grove ≡ p.grove
  pub numbers : q.numbers ≡ p.numbers
  pub can : CanPut q
  pub lowers : Raises q.web p.web holder side at jack
  pub follows : FollowsPorts p.web q.web holder side jacks
  pub boxes : (s : Side) (i : ℕ) → i < length (ports_told q.web s holder) → IsSome (inner_in (jack_told q.web s holder i))
  pub meet : Meet q.web
  pub path : List ℕ
  pub number : ℕ
  pub stands : StandsAt q.grove path number holder

module _ (p q : Patch) (holder : ℕ) (side : Side) (at : ℕ) (jack : Jack) (jacks : List Jack) (L : HasLost p q holder side at jack jacks) where
  abbrev here : ℕ
  here = L.stands.canvas

  abbrev keys : ℕ → List ℕ
  keys c = keys_at q.grove c

  among : (c : ℕ) → StayAmong q.web (keys c)
  among c = stay_among q L.can.runs c

  here_only : (c : ℕ) → IsAmong (keys c) holder → c ≡ here
  here_only = only_here q.grove L.can.forest L.path L.number holder L.stands

  -- ---- wires that fit

  same_number : (i k : ℕ) → slice_get (keys here) i ≡ Some k → (k == holder) ≡ (i == L.number)
  same_number i k e = elim (cases_eq k holder) [
    | inl s ↦ eq-eqb k holder s ∙ sym (eq-eqb i L.number (L.can.forest.own.once here i L.number k e (L.stands.at ∙ ap (λ x. Some x) (sym s))))
    | inr d ↦ differ_test k holder d ∙ sym (differ_test i L.number (λ s. d (same_Some k holder (sym e ∙ ap (slice_get (keys here)) s ∙ L.stands.at))))
  ]

  told_away : (c : ℕ) → (IsAmong (keys c) holder → ⊥) → boxes_told q.web (keys c) ≡ boxes_told p.web (keys c)
  told_away c away = told_same p.web q.web (keys c) (λ i k e.
      let other : k ≢ holder = (λ s. away (i, e ∙ ap (λ x. Some x) s)) in
      let X = L.lowers in
      ap (λ (js : List Jack). seen_by js (ports_told q.web Outlets k) (made_at q.web.sockets.items k)) (sym (X.other_ports Inlets k (λ s. absurd (other s))))
      ∙ ap (λ (js : List Jack). seen_by (ports_told p.web Inlets k) js (made_at q.web.sockets.items k)) (sym (X.other_ports Outlets k (λ s. absurd (other s))))
      ∙ ap (seen_by (ports_told p.web Inlets k) (ports_told p.web Outlets k)) (sym (X.made k)))

  abbrev Fits : Web → List ℕ → Wire → Type 0
  Fits w ks v = fits (boxes_told w ks) v ≡ true

  fit_here : AllByRecursion (Fits p.web (keys here)) (wires_among p.web q.numbers.items (keys here)) → AllByRecursion (Fits q.web (keys here)) (wires_among q.web q.numbers.items (keys here))
  fit_here f =
      all_turned (Fits q.web (keys here)) (Fits p.web (keys here)) (raised_wire side L.number at) (wires_among q.web q.numbers.items (keys here))
      (λ v e. sym (fits_lowered q.web p.web holder at jack (keys here) L.number same_number side L.lowers v) ∙ e)
      (subst (AllByRecursion (Fits p.web (keys here)))
      (wires_here q.web p.web q.numbers.items (keys here) holder L.number at jack (L.can.runs.numbers here) (among here) L.stands.at side L.lowers) f)

  fit_away : (c : ℕ) → (IsAmong (keys c) holder → ⊥) → AllByRecursion (Fits p.web (keys c)) (wires_among p.web q.numbers.items (keys c))
      → AllByRecursion (Fits q.web (keys c)) (wires_among q.web q.numbers.items (keys c))
  fit_away c away f =
      subst (AllByRecursion (Fits q.web (keys c))) (wires_away q.web p.web q.numbers.items (keys c) holder at jack (among c) away side L.lowers)
      (subst (λ (x : List Sockets). AllByRecursion (λ v. fits x v ≡ true) (wires_among p.web q.numbers.items (keys c))) (sym (told_away c away)) f)

  was_fit : WiresFit p → (c : ℕ) → AllByRecursion (Fits p.web (keys c)) (wires_among p.web q.numbers.items (keys c))
  was_fit f c =
      subst (λ (g : Grove). AllByRecursion (Fits p.web (keys_at g c)) (wires_among p.web q.numbers.items (keys_at g c))) (sym L.grove)
      (subst (λ ns. AllByRecursion (Fits p.web (keys_at p.grove c)) (wires_among p.web ns.items (keys_at p.grove c))) (sym L.numbers) (f.all c))

  -- the wires fit
  pub fits_lost : WiresFit p → WiresFit q
  fits_lost f = record {
    all = λ c. elim (cases_eq c here) [
      | inl e ↦ subst (λ x. AllByRecursion (Fits q.web (keys x)) (wires_among q.web q.numbers.items (keys x))) (sym e) (fit_here (was_fit f here))
      | inr d ↦ fit_away c (λ there. d (here_only c there)) (was_fit f c)
    ];
  }

  -- ---- lists of wires, in a canvas where the box isn't

  other_box : (c k : ℕ) → (IsAmong (keys c) holder → ⊥) → IsAmong (keys c) k → k ≢ holder
  other_box c k away a s = away (subst (IsAmong (keys c)) s a)

  feeds_there : (c k i j : ℕ) (h : Hop) → IsAmong (keys c) k → slice_get (feed_hops q.web k i) j ≡ Some h → IsAmong (keys c) h.node
  feeds_there c k i j h a e = feeds_among q.grove q.web L.can.runs.own L.can.runs.inside L.meet c k i j h a e

  fans_away : (s : Side) → Raises q.web p.web holder s at jack → (c k o : ℕ) → (IsAmong (keys c) holder → ⊥) → IsAmong (keys c) k → fan_hops q.web k o ≡ fan_hops p.web k o
  fans_away Inlets X c k o away a =
      sym (X.across k o ∙ map_none (raised holder at) (fan_hops q.web k o) (λ i h e. raised_off holder at h (λ s. away (subst (IsAmong (keys c)) s (among c k o i h a e)))))
  fans_away Outlets X c k o away a = sym (X.others k o (other_box c k away a))

  feeds_away : (s : Side) → Raises q.web p.web holder s at jack → (c k i : ℕ) → (IsAmong (keys c) holder → ⊥) → IsAmong (keys c) k → feed_hops q.web k i ≡ feed_hops p.web k i
  feeds_away Inlets X c k i away a = sym (X.others k i (other_box c k away a))
  feeds_away Outlets X c k i away a =
      sym (X.across k i ∙ map_none (raised holder at) (feed_hops q.web k i) (λ j h e. raised_off holder at h (λ s. away (subst (IsAmong (keys c)) s (feeds_there c k i j h a e)))))

  -- ---- feeds in their order

  abbrev labels : List ℕ
  labels = q.numbers.items

  -- no other box of its canvas has its number
  own_label : (x : ℕ) → IsAmong (keys here) x → label_at labels x ≡ label_at labels holder → x ≡ holder
  own_label x a e =
      let same : a.0 ≡ L.number = sym (label_is labels x a.0 (L.can.runs.numbers here a.0 x a.1)) ∙ e ∙ label_is labels holder L.number (L.can.runs.numbers here L.number holder L.stands.at) in
      same_Some x holder (sym a.1 ∙ ap (slice_get (keys here)) same ∙ L.stands.at)

  order_by : (s : Side) → Raises q.web p.web holder s at jack → (c k : ℕ) → IsAmong (keys c) k → ((i : ℕ) → AreInOrder labels (feed_hops p.web k i)) → (i : ℕ) → AreInOrder labels (feed_hops q.web k i)
  order_by Inlets X c k a o i = elim (cases_eq k holder) [
    | inr d ↦ subst (AreInOrder labels) (X.others k i d) (o i)
    | inl e ↦ subst (AreInOrder labels) (ap (λ x. feed_hops p.web x (up at i)) e ∙ X.own i ∙ sym (ap (λ x. feed_hops q.web x i) e)) (o (up at i))
  ]
  order_by Outlets X c k a o i = elim (cases_eq c here) [
    | inl e ↦
        let b : IsAmong (keys here) k = subst (λ x. IsAmong (keys x) k) e a in
        back_ordered holder at labels (feed_hops q.web k i) (λ j h s. own_label h.node (feeds_there here k i j h b s)) (subst (AreInOrder labels) (X.across k i) (o i))
    | inr d ↦ subst (AreInOrder labels) (sym (feeds_away Outlets X c k i (λ there. d (here_only c there)) a)) (o i)
  ]

  module _ (t : Tree) (h : HoldsWires p t) where
    inside_lost : (way : List ℕ) (d : ℕ) (u : Tree) → LeadsInside q.grove t way d u → HasWiresOf q.web (keys d) u
    inside_lost way d u l =
        let away = not_inside q.grove L.can.forest L.path L.number holder L.stands t way d u l in
        let w = subst (λ (g : Grove). HasWiresOf p.web (keys_at g d) u) (sym L.grove) (h.inside.all way d u (subst (λ (g : Grove). LeadsInside g t way d u) L.grove l)) in
        record {
          ports = told_away d away ∙ w.ports;
          fans = λ i o k e. ap places_of (fans_away side L.lowers d k o away (i, e)) ∙ w.fans i o k e;
          feeds = λ i inlet k e. ap places_of (feeds_away side L.lowers d k inlet away (i, e)) ∙ w.feeds i inlet k e;
        }

    -- the wires hold
    pub holds_lost : HoldsWires q t
    holds_lost = record {
      fed = fed_lowered q.web p.web holder at jack jacks L.meet h.fed L.boxes side L.lowers L.follows;
      meet = L.meet;
      inside = record { all = inside_lost };
      order = λ way d leads. record {
        all = λ i k inlet e.
            let was = h.order way d (subst (λ (g : Grove). sub_reached g (Some g.root) way ≡ Some d) L.grove leads) in
            order_by side L.lowers d k (i, e)
            (λ m. subst (λ ns. AreInOrder ns.items (feed_hops p.web k m)) (sym L.numbers) (was.all i k m (subst (λ (g : Grove). slice_get (keys_at g d) i ≡ Some k) L.grove e))) inlet;
      };
    }
