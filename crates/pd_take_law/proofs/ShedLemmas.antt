-- Where wires at a box went, those that are left hold and fit.
use Rattle.std.proofs.Common.{◌≡◌, ◌≢◌, ℕ, Bool, true, false, not, ◌==◌, cond, List, [], ◌∷◌, ◌++◌, filter, map, length, slice_get, Some, sym, ap, ◌∙◌, subst, arith}
use Rattle.std.specs.List.{AllByRecursion, flat_map, range_with_len}
use Rattle.std.proofs.lemmas.Bool.Decides.{nat_tests}
use Rattle.slab.specs.Slab.{get}
use Rattle.pd_canvas.specs.declared.wires.Wire.{Wire}
use Rattle.pd_tree.specs.Ports.{Sockets, fits}
use Rattle.pd_tree.specs.Trees.{Tree}
use Rattle.pd_grove.specs.declared.grove.Grove.{Grove}
use Rattle.pd_grove.specs.declared.ports.Side.TheVariants.{Inlets, Outlets}
use Rattle.pd_grove.specs.OwnPaths.{sub_reached}
use Rattle.pd_grove.specs.Owning.{AreOwn}
use Rattle.pd_web.specs.declared.jacks.Jack.{Jack}
use Rattle.pd_web.specs.declared.web.Hop.{Hop}
use Rattle.pd_web.specs.declared.web.Web.{Web}
use Rattle.pd_web.specs.Canvases.{keys_at}
use Rattle.pd_web.specs.Changes.{CutsWire, KeepsPorts, Meet}
use Rattle.pd_web.specs.Hops.{boxes_told, fan_hops, feed_hops, places_of, ports_told}
use Rattle.pd_web.specs.Lines.{laid_at, seen_by}
use Rattle.pd_web.specs.Sockets.{made_at}
use Rattle.pd_seek.specs.Places.{AreInOrder, IsNoLater}
use Rattle.pd_present.specs.Presents.{box_wires, outlet_wires, wire_along, wires_among}
use Rattle.pd_patch.specs.declared.patch.Patch.{Patch}
use Rattle.pd_patch.specs.Linked.{StayInside}
use Rattle.pd_wiring.specs.Changes.{CanRewire}
use Rattle.pd_reload_law.specs.Wires.{IsAmong, StayAmong}
use Rattle.pd_saved_law.specs.Fitting.{WiresFit}
use Rattle.pd_alike_law.specs.Feeds.{FedOnce}
use Rattle.pd_inside_law.specs.Inside.{HasWiresOf, HoldsWires, LeadsInside}
use Rattle.pd_putting_law.proofs.PathLemmas.{Forest}
use Rattle.pd_taking.specs.Loosening.{is_of_other, AreGone, Gone}
use Rattle.pd_taking_law.proofs.WireLemmas.{none_gone}
use Rattle.pd_following_law.specs.Raised.{StandsAt}
use Rattle.pd_take_law.proofs.GoneLemmas.{stay_among}
use Rattle.pd_take_law.proofs.FitLemmas.{told_same}
use Rattle.pd_take_law.proofs.FeedLemmas.{once_left, passed}
use Rattle.pd_take_law.proofs.OrderLemmas.{order_kept}
use Rattle.pd_take_law.proofs.AroundLemmas.{feeds_among, not_inside}

-- ---- wires that stand once

without_key : (key : ℕ) (h : Hop) → not (h.key == key) ≡ true → h.key ≢ key
without_key key h t e = grind (arith, nat_tests)

cut_fed : (w v : Web) (key : ℕ) → CutsWire w v key → FedOnce w → FedOnce v
cut_fed w v key C F = record {
  lines = λ node inlet i h e.
      let p = passed (λ (x : Hop). not (x.key == key)) (feed_hops w node inlet) h i (ap (λ (hs : List Hop). slice_get hs i) (sym (C.feeds node inlet)) ∙ e) in
      C.other_lines h.key (without_key key h p.passes) ∙ F.lines node inlet p.place h p.stood;
  once = λ node inlet i j k x y. once_left w v (λ (h : Hop). not (h.key == key)) node inlet (C.feeds node inlet) (F.once node inlet) i j k x y;
}

-- where wires went one after the other, those that are left stand once
pub gone_fed : (box : ℕ) (p q : Patch) (xs : List Gone) → AreGone box p xs q → FedOnce p.web → FedOnce q.web
gone_fed box p q [] e F = subst (λ (r : Patch). FedOnce r.web) (sym e) F
gone_fed box p q (x ∷ xs) A F = cut_fed x.before.web q.web x.key A.0.done.cuts (gone_fed box p x.before xs A.1 F)

-- ---- wires that fit

all_both : {X : Type 0} (P : X → Type 0) (xs ys : List X) → AllByRecursion P xs → AllByRecursion P ys → AllByRecursion P (xs ++ ys)
all_both P [] ys a b = b
all_both P (x ∷ xs) ys a b = (a.0, all_both P xs ys a.1 b)

all_first : {X : Type 0} (P : X → Type 0) (xs ys : List X) → AllByRecursion P (xs ++ ys) → AllByRecursion P xs
all_first P [] ys a = tt
all_first P (x ∷ xs) ys a = (a.0, all_first P xs ys a.1)

all_last : {X : Type 0} (P : X → Type 0) (xs ys : List X) → AllByRecursion P (xs ++ ys) → AllByRecursion P ys
all_last P [] ys a = a
all_last P (x ∷ xs) ys a = all_last P xs ys a.1

all_left : {X Y : Type 0} (P : Y → Type 0) (f : X → Y) (keep : X → Bool) (xs : List X) → AllByRecursion P (map f xs) → AllByRecursion P (map f (filter keep xs))
all_left P f keep [] a = tt
all_left {X} P f keep (x ∷ xs) a = step (keep x) (all_left P f keep xs a.1)
  where
    step : (b : Bool) → AllByRecursion P (map f (filter keep xs)) → AllByRecursion P (map f (cond b (x ∷ filter keep xs) (filter keep xs)))
    step true rest = (a.0, rest)
    step false rest = rest

all_flat : {X Y : Type 0} (P : Y → Type 0) (f g : X → List Y) (xs : List X) → ((x : X) → AllByRecursion P (f x) → AllByRecursion P (g x)) → AllByRecursion P (flat_map f xs)
    → AllByRecursion P (flat_map g xs)
all_flat P f g [] h a = tt
all_flat P f g (x ∷ xs) h a = all_both P (g x) (flat_map g xs) (h x (all_first P (f x) (flat_map f xs) a)) (all_flat P f g xs h (all_last P (f x) (flat_map f xs) a))

-- what holds of the wires of a canvas holds of those that are left
all_wires : (P : Wire → Type 0) (w v : Web) (numbers keys : List ℕ) (keep : Hop → Bool) → ((k : ℕ) → ports_told v Outlets k ≡ ports_told w Outlets k)
    → ((k o : ℕ) → fan_hops v k o ≡ filter keep (fan_hops w k o)) → AllByRecursion P (wires_among w numbers keys) → AllByRecursion P (wires_among v numbers keys)
all_wires P w v numbers keys keep ports fans = all_flat P (box_wires w numbers) (box_wires v numbers) keys (λ k a.
    subst (λ (js : List Jack). AllByRecursion P (flat_map (outlet_wires v numbers k) (range_with_len 0 (length js)))) (sym (ports k))
    (all_flat P (outlet_wires w numbers k) (outlet_wires v numbers k) (range_with_len 0 (length (ports_told w Outlets k))) (λ o b.
    subst (λ (hs : List Hop). AllByRecursion P (map (wire_along numbers k o) hs)) (sym (fans k o)) (all_left P (wire_along numbers k o) keep (fan_hops w k o) b)) a))

pub laid_kept : (w v : Web) → KeepsPorts w v → (k : ℕ) → laid_at v.sockets.items k ≡ laid_at w.sockets.items k
laid_kept w v K k =
    ap (λ (js : List Jack). seen_by js (ports_told v Outlets k) (made_at v.sockets.items k)) (K.ports Inlets k)
    ∙ ap (λ (js : List Jack). seen_by (ports_told w Inlets k) js (made_at v.sockets.items k)) (K.ports Outlets k)
    ∙ ap (seen_by (ports_told w Inlets k) (ports_told w Outlets k)) (K.made k)

-- ---- patches

-- Wires at a box went. Each list has the others as it had them, and no wire between other boxes went.
pub record WiresShed (p q : Patch) (box : ℕ) (keep : Hop → Bool) : Type 0 where
  pub grove : q.grove ≡ p.grove
  pub numbers : q.numbers ≡ p.numbers
  pub kept : KeepsPorts p.web q.web
  pub fans : (k o : ℕ) → fan_hops q.web k o ≡ filter keep (fan_hops p.web k o)
  pub feeds : (k i : ℕ) → feed_hops q.web k i ≡ filter keep (feed_hops p.web k i)
  pub other_fans : (k o : ℕ) → k ≢ box → filter (is_of_other box) (fan_hops q.web k o) ≡ filter (is_of_other box) (fan_hops p.web k o)
  pub other_feeds : (k i : ℕ) → k ≢ box → filter (is_of_other box) (feed_hops q.web k i) ≡ filter (is_of_other box) (feed_hops p.web k i)
  pub was : CanRewire p
  pub rewires : CanRewire q
  pub fed : FedOnce p.web → FedOnce q.web
  pub meet : Meet q.web

module _ (p q : Patch) (box : ℕ) (keep : Hop → Bool) (S : WiresShed p q box keep) where
  abbrev keys : ℕ → List ℕ
  keys c = keys_at p.grove c

  boxes_same : (c : ℕ) → boxes_told q.web (keys c) ≡ boxes_told p.web (keys c)
  boxes_same c = told_same p.web q.web (keys c) (λ i k at. laid_kept p.web q.web S.kept k)

  abbrev Fits : Web → List ℕ → Wire → Type 0
  Fits w ks v = fits (boxes_told w ks) v ≡ true

  fit_there : WiresFit p → (c : ℕ) → AllByRecursion (Fits q.web (keys c)) (wires_among q.web p.numbers.items (keys c))
  fit_there f c =
      all_wires (Fits q.web (keys c)) p.web q.web p.numbers.items (keys c) keep (S.kept.ports Outlets) S.fans
      (subst (λ (bs : List Sockets). AllByRecursion (λ v. fits bs v ≡ true) (wires_among p.web p.numbers.items (keys c))) (sym (boxes_same c)) (f.all c))

  -- the wires fit
  pub fits_shed : WiresFit p → WiresFit q
  fits_shed f = record {
    all = λ c.
        subst (λ (g : Grove). AllByRecursion (Fits q.web (keys_at g c)) (wires_among q.web q.numbers.items (keys_at g c))) (sym S.grove)
        (subst (λ ns. AllByRecursion (Fits q.web (keys c)) (wires_among q.web ns.items (keys c))) (sym S.numbers) (fit_there f c));
  }

  -- ---- lists of wires, in a canvas where the box isn't

  among_now : (c : ℕ) → StayAmong q.web (keys c)
  among_now c = subst (λ (g : Grove). StayAmong q.web (keys_at g c)) S.grove (stay_among q S.rewires c)

  own_now : AreOwn (get p.grove.nodes) (get p.grove.boards)
  own_now = S.was.own

  inside_now : StayInside p.grove q.web
  inside_now = subst (λ (g : Grove). StayInside g q.web) S.grove S.rewires.inside

  fans_away : (c k o : ℕ) → (IsAmong (keys c) box → ⊥) → IsAmong (keys c) k → fan_hops q.web k o ≡ fan_hops p.web k o
  fans_away c k o away a =
      sym (none_gone box (fan_hops q.web k o) (λ j x e s. away (subst (IsAmong (keys c)) s (among_now c k o j x a e))))
      ∙ S.other_fans k o (λ s. away (subst (IsAmong (keys c)) s a))
      ∙ none_gone box (fan_hops p.web k o) (λ j x e s. away (subst (IsAmong (keys c)) s (stay_among p S.was c k o j x a e)))

  feeds_away : Meet p.web → (c k i : ℕ) → (IsAmong (keys c) box → ⊥) → IsAmong (keys c) k → feed_hops q.web k i ≡ feed_hops p.web k i
  feeds_away M c k i away a =
      sym (none_gone box (feed_hops q.web k i) (λ j x e s. away (subst (IsAmong (keys c)) s (feeds_among p.grove q.web own_now inside_now S.meet c k i j x a e))))
      ∙ S.other_feeds k i (λ s. away (subst (IsAmong (keys c)) s a))
      ∙ none_gone box (feed_hops p.web k i) (λ j x e s. away (subst (IsAmong (keys c)) s (feeds_among p.grove p.web own_now S.was.inside M c k i j x a e)))

  module _ (F : Forest p.grove) (path : List ℕ) (n : ℕ) (A : StandsAt p.grove path n box) (t : Tree) (h : HoldsWires p t) where
    inside_shed : (way : List ℕ) (d : ℕ) (u : Tree) → LeadsInside p.grove t way d u → HasWiresOf q.web (keys d) u
    inside_shed way d u l =
        let away = not_inside p.grove F path n box A t way d u l in
        let w = h.inside.all way d u l in
        record {
          ports = boxes_same d ∙ w.ports;
          fans = λ i o k at. ap places_of (fans_away d k o away (i, at)) ∙ w.fans i o k at;
          feeds = λ i inlet k at. ap places_of (feeds_away h.meet d k inlet away (i, at)) ∙ w.feeds i inlet k at;
        }

    -- the wires hold
    pub holds_shed : HoldsWires q t
    holds_shed = record {
      fed = S.fed h.fed;
      meet = S.meet;
      inside = record {
        all = λ way d u l.
            subst (λ (g : Grove). HasWiresOf q.web (keys_at g d) u) (sym S.grove) (inside_shed way d u (subst (λ (g : Grove). LeadsInside g t way d u) S.grove l));
      };
      order = λ way d leads. record {
        all = λ i k inlet e.
            let was = h.order way d (subst (λ (g : Grove). sub_reached g (Some g.root) way ≡ Some d) S.grove leads) in
            subst (λ ns. AreInOrder ns.items (feed_hops q.web k inlet)) (sym S.numbers)
            (subst (AreInOrder p.numbers.items) (sym (S.feeds k inlet))
            (order_kept (λ r s. IsNoLater p.numbers.items r s) keep (feed_hops p.web k inlet)
            (was.all i k inlet (subst (λ (g : Grove). slice_get (keys_at g d) i ≡ Some k) S.grove e))));
      };
    }
