-- A patch from which wires at a box of the own document went: what wires it has still hold and fit.
use Rattle.std.proofs.Common.{◌≡◌, ◌≢◌, ◌==◌, ℕ, true, not, List, [], ◌∷◌, length, map, slice_get, Some, sym, ap, ◌∙◌, subst, arith}
use Rattle.std.specs.List.{AllByRecursion, flat_map, range_with_len}
use Rattle.std.proofs.lemmas.Bool.Decides.{nat_tests}
use Rattle.std.proofs.lemmas.Option.{none-some, same_Some}
use Rattle.slab.specs.Slab.{get}
use Rattle.pd_canvas.specs.declared.wires.Wire.{Wire}
use Rattle.pd_tree.specs.Ports.{Sockets, fits}
use Rattle.pd_tree.specs.Trees.{Tree}
use Rattle.pd_grove.specs.declared.grove.Grove.{Grove}
use Rattle.pd_grove.specs.declared.ports.Side.TheVariants.{Inlets, Outlets}
use Rattle.pd_grove.specs.OwnPaths.{sub_reached}
use Rattle.pd_grove.specs.Owning.{AreOwn, board_in}
use Rattle.pd_web.specs.declared.jacks.Jack.{Jack}
use Rattle.pd_web.specs.declared.web.Hop.{Hop}
use Rattle.pd_web.specs.declared.web.Web.{Web}
use Rattle.pd_web.specs.Canvases.{keys_at}
use Rattle.pd_web.specs.Changes.{hop_at, line_told, KeepsPorts, Meet}
use Rattle.pd_web.specs.Hops.{boxes_told, ports_told, fan_hops, feed_hops, feed_keys}
use Rattle.pd_seek.specs.Places.{AreInOrder}
use Rattle.pd_present.specs.Presents.{wire_along, outlet_wires, box_wires, wires_among}
use Rattle.pd_patch.specs.declared.patch.Patch.{Patch}
use Rattle.pd_patch.specs.Linked.{ShareCanvas}
use Rattle.pd_patch.specs.Numbers.{AreApart}
use Rattle.pd_wiring.specs.Changes.{CanRewire}
use Rattle.pd_wiring.proofs.HeardLemmas.{all_at}
use Rattle.pd_taking.specs.Loosening.{is_of_other, AreGone, Gone, Loosens}
use Rattle.pd_misfits.specs.declared.wires.BoxWire.{BoxWire}
use Rattle.pd_misfits.specs.Shedding.{is_left, Sheds}
use Rattle.pd_reload_law.specs.Wires.{IsAmong, StayAmong}
use Rattle.pd_reload_law.proofs.SortedLemmas.{all_append}
use Rattle.pd_saved_law.specs.Fitting.{WiresFit}
use Rattle.pd_saved_law.proofs.EditLemmas.{stays_among}
use Rattle.pd_alike_law.specs.Feeds.{FedOnce}
use Rattle.pd_alike_law.proofs.FeedLemmas.{keys_of, feed_keys_of}
use Rattle.pd_alike_law.proofs.MeetLemmas.{passed}
use Rattle.pd_inside_law.specs.Inside.{HoldsWires, IsWiredInside, LeadsInside}
use Rattle.pd_putting_law.proofs.PathLemmas.{Forest, paths_once, sub_leads}
use Rattle.pd_put_law.proofs.RoomLemmas.{laid_same, same_canvas, told_same}
use Rattle.pd_retype_law.proofs.FitLemmas.{first_all, last_all}
use Rattle.pd_retype_law.proofs.KeptLemmas.{all_left, left_all, left_apart, left_ordered}

-- ---- lines

other_key : (a b : ℕ) → not (a == b) ≡ true → a ≢ b
other_key a b t e = grind (arith, nat_tests)

-- a wire that is left leads where it led
told_still : (box : ℕ) (p : Patch) (xs : List Gone) (q : Patch) → AreGone box p xs q → (node inlet i : ℕ) (h : Hop) → slice_get (feed_hops q.web node inlet) i ≡ Some h
    → line_told q.web h.key ≡ line_told p.web h.key
told_still box p [] q e node inlet i h at = ap (λ (x : Patch). line_told x.web h.key) e
told_still box p (x ∷ xs) q a node inlet i h at =
    let c = a.0.done.cuts in
    let was = passed (λ (g : Hop). not (g.key == x.key)) (feed_hops x.before.web node inlet) h i (ap (λ (hs : List Hop). slice_get hs i) (sym (c.feeds node inlet)) ∙ at) in
    c.other_lines h.key (other_key h.key x.key was.passes) ∙ told_still box p xs x.before a.1 node inlet was.place h was.stood

-- ---- boxes of a canvas

-- what feeds a box of a canvas lies in it
feeds_among : (p : Patch) (c k inlet i : ℕ) (h : Hop) → CanRewire p → Meet p.web → IsAmong (keys_at p.grove c) k → slice_get (feed_hops p.web k inlet) i ≡ Some h → IsAmong (keys_at p.grove c) h.node
feeds_among p c k inlet i h R M t e =
    let f = M.fanned k inlet i h e in
    let s = all_at (λ (x : Hop). ShareCanvas p.grove h.node x.node) (fan_hops p.web h.node h.port) f.0 (hop_at h.key k inlet) (R.inside h.node h.port) f.1 in
    let same : s.canvas ≡ c = same_Some s.canvas c (sym (R.own.home s.canvas s.other.0 k s.other.1) ∙ R.own.home c t.0 k t.1) in
    (s.one.0, ap (λ x. slice_get (keys_at p.grove x) s.one.0) (sym same) ∙ s.one.1)

of_other : (box : ℕ) (h : Hop) → h.node ≢ box → is_of_other box h ≡ true
of_other box h d = grind (arith, nat_tests)

pub kept_told : (w v : Web) (keys : List ℕ) → KeepsPorts w v → boxes_told v keys ≡ boxes_told w keys
kept_told w v keys k = told_same w v keys (λ i x e. laid_same w v x (k.ports Inlets x) (k.ports Outlets x) (k.made x))

-- ---- a canvas of the own document

-- no box of another canvas is that box
pub elsewhere : (g : Grove) → AreOwn (get g.nodes) (get g.boards) → (canvas number box : ℕ) → slice_get (keys_at g canvas) number ≡ Some box
    → (c k : ℕ) → c ≢ canvas → IsAmong (keys_at g c) k → k ≢ box
elsewhere g own canvas number box here c k d t e =
    d (same_Some c canvas (sym (own.home c t.0 k t.1) ∙ ap (λ x. board_in (get g.nodes x)) e ∙ own.home canvas number box here))

-- no canvas inside an abstraction is one to which a path through subpatches alone leads
pub not_own : (g : Grove) → Forest g → (path : List ℕ) (canvas : ℕ) → sub_reached g (Some g.root) path ≡ Some canvas → (t u : Tree) (way : List ℕ) (c : ℕ) → LeadsInside g t way c u → c ≢ canvas
not_own g F path canvas leads t u way c l e =
    let same : path ≡ way = paths_once g F path way g.root c (sub_leads g g.root c path (leads ∙ ap (λ x. Some x) (sym e))) l.here.key in
    none-some canvas (sym l.inside ∙ ap (sub_reached g (Some g.root)) (sym same) ∙ leads)

-- ---- wires that are saved

flat_less : {X : Type 0} (P : X → Type 0) (f g : ℕ → List X) (xs : List ℕ) → ((x : ℕ) → AllByRecursion P (f x) → AllByRecursion P (g x))
    → AllByRecursion P (flat_map f xs) → AllByRecursion P (flat_map g xs)
flat_less P f g [] on h = tt
flat_less P f g (x ∷ xs) on h =
    all_append P (g x) (flat_map g xs) (on x (first_all P (f x) (flat_map f xs) h)) (flat_less P f g xs on (last_all P (f x) (flat_map f xs) h))

saved_less : (w v : Web) (numbers keys : List ℕ) (ms : List BoxWire) (P : Wire → Type 0) → KeepsPorts w v → Sheds w v ms
    → AllByRecursion P (wires_among w numbers keys) → AllByRecursion P (wires_among v numbers keys)
saved_less w v numbers keys ms P K S h =
    flat_less P (box_wires w numbers) (box_wires v numbers) keys (λ k a.
    subst (λ (js : List Jack). AllByRecursion P (flat_map (outlet_wires v numbers k) (range_with_len 0 (length js)))) (sym (K.ports Outlets k))
    (flat_less P (outlet_wires w numbers k) (outlet_wires v numbers k) (range_with_len 0 (length (ports_told w Outlets k))) (λ o b.
    subst (λ (hs : List Hop). AllByRecursion P (map (wire_along numbers k o) hs)) (sym (S.fans k o)) (left_all P (wire_along numbers k o) (is_left ms) (fan_hops w k o) b)) a)) h

-- ---- wires at a box went

module _ (p q : Patch) (box s s' : ℕ) (L : Loosens p q box s s') (ms : List BoxWire) (S : Sheds p.web q.web ms) where
  loose_fed : FedOnce p.web → FedOnce q.web
  loose_fed F = record {
    lines = λ node inlet i h e.
        let was = passed (is_left ms) (feed_hops p.web node inlet) h i (ap (λ (hs : List Hop). slice_get hs i) (sym (S.feeds node inlet)) ∙ e) in
        told_still box p L.gone q L.one_by_one node inlet i h e ∙ F.lines node inlet was.place h was.stood;
    once = λ node inlet.
        let was : AreApart (keys_of (feed_hops p.web node inlet)) = subst AreApart (sym (feed_keys_of p.web (feed_keys p.web node inlet))) (F.once node inlet) in
        subst AreApart (ap keys_of (sym (S.feeds node inlet)) ∙ feed_keys_of q.web (feed_keys q.web node inlet)) (left_apart (is_left ms) (feed_hops p.web node inlet) was);
  }

  pub loose_fits : WiresFit p → WiresFit q
  loose_fits F = record { all = λ c. rw (L.rest.numbers, L.rest.grove) (fitting c) }
    where
      fitting : (c : ℕ) → AllByRecursion (λ v. fits (boxes_told q.web (keys_at p.grove c)) v ≡ true) (wires_among q.web p.numbers.items (keys_at p.grove c))
      fitting c =
          let keys = keys_at p.grove c in
          subst (λ (x : List Sockets). AllByRecursion (λ v. fits x v ≡ true) (wires_among q.web p.numbers.items keys)) (sym (kept_told p.web q.web keys L.web.kept))
          (saved_less p.web q.web p.numbers.items keys ms (λ v. fits (boxes_told p.web keys) v ≡ true) L.web.kept S (F.all c))

  -- the box lies in this canvas of the own document
  module _ (P : CanRewire p) (F : Forest p.grove) (M : Meet p.web) (path : List ℕ) (canvas number : ℕ) (leads : sub_reached p.grove (Some p.grove.root) path ≡ Some canvas)
      (here : slice_get (keys_at p.grove canvas) number ≡ Some box) where
    fans_aside : (c k o : ℕ) → c ≢ canvas → IsAmong (keys_at p.grove c) k → fan_hops q.web k o ≡ fan_hops p.web k o
    fans_aside c k o d t =
        let now : StayAmong q.web (keys_at p.grove c) = subst (λ (g : Grove). StayAmong q.web (keys_at g c)) L.rest.grove (stays_among q c L.rewires) in
        sym (all_left (is_of_other box) (fan_hops q.web k o) (λ i h e. of_other box h (elsewhere p.grove P.own canvas number box here c h.node d (now k o i h t e))))
        ∙ L.web.fans k o (elsewhere p.grove P.own canvas number box here c k d t)
        ∙ all_left (is_of_other box) (fan_hops p.web k o) (λ i h e. of_other box h (elsewhere p.grove P.own canvas number box here c h.node d (stays_among p c P k o i h t e)))

    feeds_aside : (c k o : ℕ) → c ≢ canvas → IsAmong (keys_at p.grove c) k → feed_hops q.web k o ≡ feed_hops p.web k o
    feeds_aside c k o d t =
        let there : IsAmong (keys_at q.grove c) k = subst (λ (g : Grove). IsAmong (keys_at g c) k) (sym L.rest.grove) t in
        sym (all_left (is_of_other box) (feed_hops q.web k o) (λ i h e.
        of_other box h (elsewhere p.grove P.own canvas number box here c h.node d (subst (λ (g : Grove). IsAmong (keys_at g c) h.node) L.rest.grove (feeds_among q c k o i h L.rewires L.web.meet there e)))))
        ∙ L.web.feeds k o (elsewhere p.grove P.own canvas number box here c k d t)
        ∙ all_left (is_of_other box) (feed_hops p.web k o) (λ i h e. of_other box h (elsewhere p.grove P.own canvas number box here c h.node d (feeds_among p c k o i h P M t e)))

    inside_still : (t : Tree) → IsWiredInside p.grove p.web t → IsWiredInside p.grove q.web t
    inside_still t I = record {
      all = λ way c u l.
          let keys = keys_at p.grove c in
          let d = not_own p.grove F path canvas leads t u way c l in
          same_canvas p.web q.web keys u (kept_told p.web q.web keys L.web.kept) (λ k o a. fans_aside c k o d a) (λ k o a. feeds_aside c k o d a) (I.all way c u l);
    }

    pub loose_holds : (t : Tree) → HoldsWires p t → HoldsWires q t
    loose_holds t H = record {
      fed = loose_fed H.fed;
      meet = L.web.meet;
      inside = subst (λ (g : Grove). IsWiredInside g q.web t) (sym L.rest.grove) (inside_still t H.inside);
      order = λ way c at.
          let O = H.order way c (ap (λ (g : Grove). sub_reached g (Some g.root) way) (sym L.rest.grove) ∙ at) in
          record {
            all = λ i k inlet e.
                subst (λ (x : _). AreInOrder x.items (feed_hops q.web k inlet)) (sym L.rest.numbers)
                (subst (AreInOrder p.numbers.items) (sym (S.feeds k inlet))
                (left_ordered p.numbers.items (is_left ms) (feed_hops p.web k inlet) (O.all i k inlet (ap (λ (g : Grove). slice_get (keys_at g c) i) (sym L.rest.grove) ∙ e))));
          };
    }
