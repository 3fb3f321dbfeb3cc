-- Where a port box moved, the wires of the patch hold and fit.
use Rattle.std.proofs.Common.{◌≡◌, ◌≢◌, ℕ, zero, suc, ℤ, ◌==◌, ◌&&◌, not, Bool, true, false, cond, List, [], ◌∷◌, map, slice_get, Some, None, inl, inr, eq-eqb, refl, sym, ap, ◌∙◌, subst}
use Rattle.std.specs.List.{AllByRecursion}
use Rattle.std.proofs.lemmas.Bool.{cases_eq}
use Rattle.std.proofs.lemmas.Option.{none-some, same_Some}
use Rattle.slab.specs.Slab.{Slab, get}
use Rattle.pd_canvas.specs.declared.wires.Wire.{Wire}
use Rattle.pd_tree.specs.Ports.{Sockets, fits}
use Rattle.pd_tree.specs.Trees.{Tree}
use Rattle.pd_grove.specs.declared.boards.Board.{Board}
use Rattle.pd_grove.specs.declared.grove.Grove.{Grove}
use Rattle.pd_grove.specs.declared.ports.Side.{Side}
use Rattle.pd_grove.specs.declared.ports.Side.TheVariants.{Inlets, Outlets}
use Rattle.pd_grove.specs.OwnPaths.{sub_reached}
use Rattle.pd_grove.specs.Owning.{AreOwn}
use Rattle.pd_grove.specs.Telling.{keys_in, reached}
use Rattle.pd_web.specs.declared.jacks.Jack.{Jack}
use Rattle.pd_web.specs.declared.web.Hop.{Hop}
use Rattle.pd_web.specs.declared.web.Web.{Web}
use Rattle.pd_web.specs.Canvases.{keys_at}
use Rattle.pd_web.specs.Changes.{hop_at, Meet}
use Rattle.pd_web.specs.Hops.{boxes_told, fan_hops, feed_hops, places_of, ports_told}
use Rattle.pd_web.specs.Lines.{laid_at, seen_by}
use Rattle.pd_web.specs.Sockets.{made_at}
use Rattle.pd_seek.specs.Places.{label_at, AreInOrder}
use Rattle.pd_present.specs.Presents.{wires_among}
use Rattle.pd_patch.specs.declared.patch.Patch.{Patch}
use Rattle.pd_patch.specs.Linked.{ShareCanvas, StayInside}
use Rattle.pd_moving.specs.Outlets.{from_others}
use Rattle.pd_wiring.proofs.HeardLemmas.{all_at}
use Rattle.pd_reload_law.specs.Wires.{AreNumbered, IsAmong, StayAmong}
use Rattle.pd_saved_law.specs.Fitting.{WiresFit}
use Rattle.pd_saved_law.proofs.EditLemmas.{stays_among}
use Rattle.pd_alike_law.specs.Feeds.{FedOnce, FeedsInOrder}
use Rattle.pd_inside_law.specs.Inside.{HasWiresOf}
use Rattle.pd_putting_law.proofs.PathLemmas.{Forest, paths_once, sub_leads}
use Rattle.pd_following.proofs.RaiseLemmas.{differ_test}
use Rattle.pd_following_law.specs.Raised.{StandsAt}
use Rattle.pd_sliding.specs.Slides.{slid, inlet_slid, hop_slid, Slides}
use Rattle.pd_sliding.specs.Sliding.{CanSlide, IsSlid}
use Rattle.pd_sliding_law.proofs.SlidLemmas.{slid_back}
use Rattle.pd_sliding_law.proofs.WireLemmas.{places_away, slid_around, slid_away}
use Rattle.pd_shift_law.proofs.FitLemmas.{all_fit}

-- ---- lists

told_same : (w v : Web) (keys : List ℕ) → ((i k : ℕ) → slice_get keys i ≡ Some k → laid_at v.sockets.items k ≡ laid_at w.sockets.items k) → boxes_told v keys ≡ boxes_told w keys
told_same w v [] h = refl
told_same w v (k ∷ keys) h =
    ap (λ (s : Sockets). s ∷ boxes_told v keys) (h 0 k refl) ∙ ap (λ (l : List Sockets). laid_at w.sockets.items k ∷ l) (told_same w v keys (λ i. h (suc i)))

label_is : (labels : List ℕ) (k i : ℕ) → slice_get labels k ≡ Some i → label_at labels k ≡ i
label_is [] k i e = absurd (none-some i e)
label_is (x ∷ xs) zero i e = same_Some x i e
label_is (x ∷ xs) (suc k) i e = label_is xs k i e

-- where none of these wires comes from a box, none comes from an outlet of it
all_others : (key port : ℕ) (hops : List Hop) → ((i : ℕ) (h : Hop) → slice_get hops i ≡ Some h → h.node ≢ key) → from_others key port hops ≡ hops
all_others key port [] d = refl
all_others key port (h ∷ hops) d =
    ap (λ (b : Bool). cond (not (b && h.port == port)) (h ∷ from_others key port hops) (from_others key port hops)) (differ_test h.node key (d 0 h refl))
    ∙ ap (λ (l : List Hop). h ∷ l) (all_others key port hops (λ i. d (suc i)))

none_slid : (key from to : ℕ) (hops : List Hop) → ((i : ℕ) (h : Hop) → slice_get hops i ≡ Some h → h.node ≢ key) → map (hop_slid key from to) hops ≡ hops
none_slid key from to [] d = refl
none_slid key from to (h ∷ hops) d =
    ap (λ (b : Bool). record { key = h.key; node = h.node; port = cond b (slid from to h.port) h.port } ∷ map (hop_slid key from to) hops) (differ_test h.node key (d 0 h refl))
    ∙ ap (λ (l : List Hop). h ∷ l) (none_slid key from to hops (λ i. d (suc i)))

-- from the boxes of a canvas the wires to its boxes come
feeds_among : (g : Grove) (w : Web) → AreOwn (get g.nodes) (get g.boards) → StayInside g w → Meet w → (c k i j : ℕ) (h : Hop) → IsAmong (keys_at g c) k
    → slice_get (feed_hops w k i) j ≡ Some h → IsAmong (keys_at g c) h.node
feeds_among g w own inside M c k i j h a e =
    let m = M.fanned k i j h e in
    let t : ShareCanvas g h.node k = all_at (λ (x : Hop). ShareCanvas g h.node x.node) (fan_hops w h.node h.port) m.0 (hop_at h.key k i) (inside h.node h.port) m.1 in
    let same : t.canvas ≡ c = same_Some t.canvas c (sym (own.home t.canvas t.other.0 k t.other.1) ∙ own.home c a.0 k a.1) in
    subst (λ x. IsAmong (keys_at g x) h.node) same t.one

-- which inlet had this number
abbrev was : Side → (key from to : ℕ) → (node inlet : ℕ) → ℕ
was Inlets key from to node inlet = cond (node == key) (slid to from inlet) inlet
was Outlets key from to node inlet = inlet

now : (side : Side) (key from to node inlet : ℕ) → inlet_slid side key from to node (was side key from to node inlet) ≡ inlet
now Inlets key from to node inlet = by (node == key)
  where
    by : (b : Bool) → cond b (slid from to (cond b (slid to from inlet) inlet)) (cond b (slid to from inlet) inlet) ≡ inlet
    by true = slid_back from to inlet
    by false = refl
now Outlets key from to node inlet = refl

module _ (p q : Patch) (key holder : ℕ) (side : Side) (x y : ℤ) (from to : ℕ) (C : CanSlide p key holder side from) (I : IsSlid p q key holder side x y from to) (path : List ℕ) (n : ℕ)
    (A : StandsAt q.grove path n holder) where
  abbrev here : ℕ
  here = A.canvas

  abbrev keys : ℕ → List ℕ
  keys c = keys_at q.grove c

  forest : Forest q.grove
  forest = I.can.forest

  keys_still : (c : ℕ) → keys c ≡ keys_at p.grove c
  keys_still c = ap (λ (s : Slab Board). keys_in (get s c)) I.box.boards

  among : (c : ℕ) → StayAmong p.web (keys c)
  among c = subst (StayAmong p.web) (sym (keys_still c)) (stays_among p c C.can.runs)

  numbered : (c : ℕ) → AreNumbered q.numbers.items (keys c)
  numbered = I.can.runs.numbers

  here_only : (c : ℕ) → IsAmong (keys c) holder → c ≡ here
  here_only c there = same_Some c here (sym (forest.own.home c there.0 holder there.1) ∙ forest.own.home here n holder A.at)

  -- ---- wires that fit

  same_number : (i k : ℕ) → slice_get (keys here) i ≡ Some k → (k == holder) ≡ (i == n)
  same_number i k e = elim (cases_eq k holder) [
    | inl s ↦ eq-eqb k holder s ∙ sym (eq-eqb i n (forest.own.once here i n k e (A.at ∙ ap (λ z. Some z) (sym s))))
    | inr d ↦ differ_test k holder d ∙ sym (differ_test i n (λ s. d (same_Some k holder (sym e ∙ ap (slice_get (keys here)) s ∙ A.at))))
  ]

  told_away : (c : ℕ) → (IsAmong (keys c) holder → ⊥) → boxes_told q.web (keys c) ≡ boxes_told p.web (keys c)
  told_away c away = told_same p.web q.web (keys c) (λ i k e.
      let other : k ≢ holder = (λ s. away (i, e ∙ ap (λ z. Some z) s)) in
      let X = I.slides in
      ap (λ (js : List Jack). seen_by js (ports_told q.web Outlets k) (made_at q.web.sockets.items k)) (X.other_ports Inlets k (λ s. absurd (other s)))
      ∙ ap (λ (js : List Jack). seen_by (ports_told p.web Inlets k) js (made_at q.web.sockets.items k)) (X.other_ports Outlets k (λ s. absurd (other s)))
      ∙ ap (seen_by (ports_told p.web Inlets k) (ports_told p.web Outlets k)) (X.made k))

  abbrev Fit : Web → List ℕ → List Wire → Type 0
  Fit w ks ws = AllByRecursion (λ v. fits (boxes_told w ks) v ≡ true) ws

  was_fit : WiresFit p → (c : ℕ) → Fit p.web (keys c) (wires_among p.web q.numbers.items (keys c))
  was_fit f c =
      subst (λ (ks : List ℕ). Fit p.web ks (wires_among p.web q.numbers.items ks)) (sym (keys_still c))
      (subst (λ ns. Fit p.web (keys_at p.grove c) (wires_among p.web ns.items (keys_at p.grove c))) (sym I.rest.numbers) (f.all c))

  fit_here : WiresFit p → Fit q.web (keys here) (wires_among q.web q.numbers.items (keys here))
  fit_here f =
      subst (Fit q.web (keys here)) (sym (slid_around p.web q.web q.numbers.items (keys here) holder n from to (numbered here) (among here) A.at side I.slides))
      (all_fit p.web q.web holder from to (keys here) n same_number side I.slides (wires_among p.web q.numbers.items (keys here)) (was_fit f here))

  fit_away : (c : ℕ) → (IsAmong (keys c) holder → ⊥) → WiresFit p → Fit q.web (keys c) (wires_among q.web q.numbers.items (keys c))
  fit_away c away f =
      subst (Fit q.web (keys c)) (sym (slid_away p.web q.web q.numbers.items (keys c) holder from to (numbered c) (among c) away side I.slides))
      (subst (λ (z : List Sockets). AllByRecursion (λ v. fits z v ≡ true) (wires_among p.web q.numbers.items (keys c))) (sym (told_away c away)) (was_fit f c))

  -- the wires fit
  pub slid_fit : WiresFit p → WiresFit q
  slid_fit f = record {
    all = λ c. elim (cases_eq c here) [
      | inl e ↦ subst (λ z. Fit q.web (keys z) (wires_among q.web q.numbers.items (keys z))) (sym e) (fit_here f)
      | inr d ↦ fit_away c (λ there. d (here_only c there)) f
    ];
  }

  -- ---- feeds

  feeders : (c k i j : ℕ) (h : Hop) → IsAmong (keys c) k → slice_get (feed_hops p.web k i) j ≡ Some h → IsAmong (keys c) h.node
  feeders c k i j h a e =
      subst (λ (ks : List ℕ). IsAmong ks h.node) (sym (keys_still c))
      (feeds_among p.grove p.web C.can.runs.own C.can.runs.inside C.meet c k i j h (subst (λ (ks : List ℕ). IsAmong ks k) (keys_still c) a) e)

  feeds_by : (s : Side) → Slides p.web q.web holder s from to → (c k i : ℕ) → (IsAmong (keys c) holder → ⊥) → IsAmong (keys c) k → feed_hops q.web k i ≡ feed_hops p.web k i
  feeds_by Inlets X c k i away a =
      ap (λ (b : Bool). feed_hops q.web k (cond b (slid from to i) i)) (sym (differ_test k holder (λ s. away (subst (IsAmong (keys c)) s a)))) ∙ X.feeds k i
  feeds_by Outlets X c k i away a =
      let before : (j : ℕ) (h : Hop) → slice_get (feed_hops p.web k i) j ≡ Some h → h.node ≢ holder = (λ j h e s. away (subst (IsAmong (keys c)) s (feeders c k i j h a e))) in
      let after : (j : ℕ) (h : Hop) → slice_get (feed_hops q.web k i) j ≡ Some h → h.node ≢ holder =
      (λ j h e s. away (subst (IsAmong (keys c)) s (feeds_among q.grove q.web I.can.runs.own I.can.runs.inside I.meet c k i j h a e))) in
      sym (all_others holder to (feed_hops q.web k i) after) ∙ X.feeds k i
      ∙ ap (map (hop_slid holder from to)) (all_others holder from (feed_hops p.web k i) before) ∙ none_slid holder from to (feed_hops p.web k i) before

  -- in a canvas where the box isn't they stay
  feeds_away : (c k i : ℕ) → (IsAmong (keys c) holder → ⊥) → IsAmong (keys c) k → feed_hops q.web k i ≡ feed_hops p.web k i
  feeds_away = feeds_by side I.slides

  -- no other box of its canvas has its number
  own_label : (k : ℕ) → IsAmong (keys here) k → label_at q.numbers.items k ≡ label_at q.numbers.items holder → k ≡ holder
  own_label k a e =
      let same : a.0 ≡ n = sym (label_is q.numbers.items k a.0 (numbered here a.0 k a.1)) ∙ e ∙ label_is q.numbers.items holder n (numbered here n holder A.at) in
      same_Some k holder (sym a.1 ∙ ap (slice_get (keys here)) same ∙ A.at)

  order_here : (k : ℕ) → IsAmong (keys here) k → ((i : ℕ) → AreInOrder p.numbers.items (feed_hops p.web k i)) → (i : ℕ) → AreInOrder p.numbers.items (feed_hops q.web k i)
  order_here k a o i =
      let old = was side holder from to k i in
      subst (λ z. AreInOrder p.numbers.items (feed_hops q.web k z)) (now side holder from to k i)
      (I.in_order k old (λ j h e same. own_label h.node (feeders here k old j h a e) (ap (λ ns. label_at ns.items h.node) I.rest.numbers ∙ same ∙ sym (ap (λ ns. label_at ns.items holder) I.rest.numbers))) (o old))

  order_by : (c k : ℕ) → IsAmong (keys c) k → ((i : ℕ) → AreInOrder p.numbers.items (feed_hops p.web k i)) → (i : ℕ) → AreInOrder p.numbers.items (feed_hops q.web k i)
  order_by c k a o i = elim (cases_eq c here) [
    | inl e ↦ order_here k (subst (λ z. IsAmong (keys z) k) e a) o i
    | inr d ↦ subst (AreInOrder p.numbers.items) (sym (feeds_away c k i (λ there. d (here_only c there)) a)) (o i)
  ]

  -- they are in order
  pub slid_order : (c : ℕ) → FeedsInOrder p c → FeedsInOrder q c
  slid_order c F = record {
    all = λ i k inlet e. subst (λ ns. AreInOrder ns.items (feed_hops q.web k inlet)) (sym I.rest.numbers)
        (order_by c k (i, e) (λ m. F.all i k m (ap (λ (ks : List ℕ). slice_get ks i) (sym (keys_still c)) ∙ e)) inlet);
  }

  -- ---- canvases inside abstractions

  not_inside : (way : List ℕ) (d : ℕ) → reached q.grove (Some q.grove.root) way ≡ Some d → sub_reached q.grove (Some q.grove.root) way ≡ None → IsAmong (keys d) holder → ⊥
  not_inside way d leads off there =
      let same : path ≡ way =
      paths_once q.grove forest path way q.grove.root here (sub_leads q.grove q.grove.root here path A.leads) (leads ∙ ap (λ z. Some z) (here_only d there)) in
      none-some here (sym off ∙ ap (sub_reached q.grove (Some q.grove.root)) (sym same) ∙ A.leads)

  pub slid_inside : (way : List ℕ) (d : ℕ) (u : Tree) → reached q.grove (Some q.grove.root) way ≡ Some d → sub_reached q.grove (Some q.grove.root) way ≡ None
      → HasWiresOf p.web (keys_at p.grove d) u → HasWiresOf q.web (keys d) u
  slid_inside way d u leads off h =
      let away = not_inside way d leads off in
      let w = subst (λ (ks : List ℕ). HasWiresOf p.web ks u) (sym (keys_still d)) h in
      record {
        ports = told_away d away ∙ w.ports;
        fans = λ i o k e. places_away p.web q.web q.numbers.items (keys d) holder from to (numbered d) (among d) away side I.slides k o (i, e) ∙ w.fans i o k e;
        feeds = λ i inlet k e. ap places_of (feeds_away d k inlet away (i, e)) ∙ w.feeds i inlet k e;
      }

  pub slid_fed : FedOnce q.web
  slid_fed = record { lines = I.fed.lines; once = I.fed.once }
