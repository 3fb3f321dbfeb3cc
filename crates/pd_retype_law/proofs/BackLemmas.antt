-- A patch to which wires at a box of the own document came back: its wires still hold.
use Rattle.std.proofs.Common.{◌≡◌, ◌≢◌, ℕ, zero, suc, List, [], ◌∷◌, slice_get, Option, Some, None, refl, sym, ap, ◌∙◌, subst, inl, inr, arith}
use Rattle.std.specs.Prelude.{◌⊎◌, option_map}
use Rattle.std.specs.List.{insert}
use Rattle.std.proofs.lemmas.Option.{none-some, same_Some, slice_get-map}
use mathlib.Core.Logic.{⊎_elim}
use Rattle.slab.specs.Slab.{get}
use Rattle.pd_tree.specs.Trees.{Tree}
use Rattle.pd_grove.specs.declared.grove.Grove.{Grove}
use Rattle.pd_grove.specs.OwnPaths.{sub_reached}
use Rattle.pd_grove.specs.Owning.{AreOwn, board_in}
use Rattle.pd_web.specs.declared.lines.Line.{Line}
use Rattle.pd_web.specs.declared.web.Hop.{Hop}
use Rattle.pd_web.specs.declared.web.Web.{Web}
use Rattle.pd_web.specs.Canvases.{keys_at}
use Rattle.pd_web.specs.Changes.{hop_at, line_by, line_told, IsListed, Joins}
use Rattle.pd_web.specs.Hops.{fan_hops, feed_hops, feed_keys}
use Rattle.pd_seek.specs.Places.{AreInOrder, IsPlace}
use Rattle.pd_patch.specs.declared.patch.Patch.{Patch}
use Rattle.pd_patch.specs.Linked.{ShareCanvas}
use Rattle.pd_patch.specs.Numbers.{AreApart}
use Rattle.pd_wiring.proofs.FeedLemmas.{feeds_ordered}
use Rattle.pd_wiring.proofs.HeardLemmas.{all_at}
use Rattle.pd_turning.specs.Returns.{AreBack, Back, Comes}
use Rattle.pd_reload_law.specs.Wires.{IsAmong}
use Rattle.pd_alike_law.specs.Feeds.{FedOnce}
use Rattle.pd_alike_law.proofs.FeedLemmas.{keys_of, feed_keys_of}
use Rattle.pd_alike_law.proofs.MeetLemmas.{inserted_from, joined_meet, same_port}
use Rattle.pd_inside_law.specs.Inside.{HoldsWires, IsWiredInside}
use Rattle.pd_putting_law.proofs.PathLemmas.{Forest}
use Rattle.pd_put_law.proofs.RoomLemmas.{same_canvas}
use Rattle.pd_retype_law.proofs.LooseLemmas.{elsewhere, kept_told, not_own}

-- ---- lists with one more

inserted_here : {X : Type 0} (xs : List X) (p : ℕ) (x : X) → IsListed (insert xs p x) x
inserted_here xs zero x = (0, refl)
inserted_here [] (suc p) x = (0, refl)
inserted_here (y ∷ xs) (suc p) x = let r = inserted_here xs p x in (suc r.0, r.1)

apart_cons : (x : ℕ) (xs : List ℕ) → AreApart xs → ((i : ℕ) → slice_get xs i ≡ Some x → ⊥) → AreApart (x ∷ xs)
apart_cons x xs a n zero zero k e f = refl
apart_cons x xs a n zero (suc j) k e f = absurd (n j (f ∙ sym e))
apart_cons x xs a n (suc i) zero k e f = absurd (n i (e ∙ sym f))
apart_cons x xs a n (suc i) (suc j) k e f = ap (λ m. suc m) (a i j k e f)

apart_rest : (x : ℕ) (xs : List ℕ) → AreApart (x ∷ xs) → AreApart xs
apart_rest x xs a i j k e f = less i j (a (suc i) (suc j) k e f)
  where
    less : (i j : ℕ) → suc i ≡ suc j → i ≡ j
    less i j e = omega (arith, e)

apart_first : (x : ℕ) (xs : List ℕ) → AreApart (x ∷ xs) → (i : ℕ) → slice_get xs i ≡ Some x → ⊥
apart_first x xs a i e = never i (a 0 (suc i) x refl e)
  where
    never : (i : ℕ) → 0 ≡ suc i → ⊥
    never i e = omega (arith, e)

apart_insert : (xs : List ℕ) (p x : ℕ) → AreApart xs → ((i : ℕ) → slice_get xs i ≡ Some x → ⊥) → AreApart (insert xs p x)
apart_insert xs zero x a n = apart_cons x xs a n
apart_insert [] (suc p) x a n = apart_cons x [] a n
apart_insert (z ∷ xs) (suc p) x a n =
    apart_cons z (insert xs p x) (apart_insert xs p x (apart_rest z xs a) (λ i e. n (suc i) e)) (λ i e. out (inserted_from xs p x z i e))
  where
    out : (x ≡ z) ⊎ IsListed xs z → ⊥
    out (inl s) = n 0 (ap (λ y. Some y) (sym s))
    out (inr l) = apart_first z xs a l.0 l.1

keys_inserted : (hops : List Hop) (p : ℕ) (x : Hop) → keys_of (insert hops p x) ≡ insert (keys_of hops) p x.key
keys_inserted hops zero x = refl
keys_inserted [] (suc p) x = refl
keys_inserted (h ∷ hops) (suc p) x = ap (λ (l : List ℕ). h.key ∷ l) (keys_inserted hops p x)

-- ---- a web with one wire more

module _ (w v : Web) (key : ℕ) (l : Line) (fan_place place : ℕ) (J : Joins w v key l fan_place place) (F : FedOnce w) where
  -- the key was no wire's, and so it was none of the feeds
  was_out : (node inlet i : ℕ) → slice_get (keys_of (feed_hops w node inlet)) i ≡ Some key → ⊥
  was_out node inlet i e = by (slice_get (feed_hops w node inlet) i) refl (sym (slice_get-map (λ (h : Hop). h.key) (feed_hops w node inlet) i) ∙ e)
    where
      by : (o : Option Hop) → slice_get (feed_hops w node inlet) i ≡ o → option_map (λ (h : Hop). h.key) o ≡ Some key → ⊥
      by None s e = none-some key e
      by (Some h) s e =
          none-some (line_by h (hop_at h.key node inlet)) (sym J.was_vacant ∙ ap (line_told w) (sym (same_Some h.key key e)) ∙ F.lines node inlet i h s)

  abbrev Told : ℕ → ℕ → Hop → Type 0
  Told node inlet h = line_told v h.key ≡ Some (line_by h (hop_at h.key node inlet))

  old_told : (node inlet i : ℕ) (h : Hop) → slice_get (feed_hops w node inlet) i ≡ Some h → Told node inlet h
  old_told node inlet i h e =
      J.other_lines h.key (λ s. none-some (line_by h (hop_at h.key node inlet)) (sym J.was_vacant ∙ ap (line_told w) (sym s) ∙ F.lines node inlet i h e))
      ∙ F.lines node inlet i h e

  new_told : (h : Hop) → (hop_at key l.source l.outlet ≡ h) ⊎ IsListed (feed_hops w l.sink l.inlet) h → Told l.sink l.inlet h
  new_told h (inl s) = subst (Told l.sink l.inlet) s J.line
  new_told h (inr i) = old_told l.sink l.inlet i.0 h i.1

  was_apart : (node inlet : ℕ) → AreApart (keys_of (feed_hops w node inlet))
  was_apart node inlet = subst AreApart (sym (feed_keys_of w (feed_keys w node inlet))) (F.once node inlet)

  now_apart : (node inlet : ℕ) → AreApart (keys_of (feed_hops v node inlet))
  now_apart node inlet = same_port node inlet l.sink l.inlet
      (λ a b. subst (λ n. AreApart (keys_of (feed_hops v n inlet))) (sym a) (subst (λ n. AreApart (keys_of (feed_hops v l.sink n))) (sym b)
      (subst AreApart (sym (ap keys_of J.feeds ∙ keys_inserted (feed_hops w l.sink l.inlet) place (hop_at key l.source l.outlet)))
      (apart_insert (keys_of (feed_hops w l.sink l.inlet)) place key (was_apart l.sink l.inlet) (was_out l.sink l.inlet)))))
      (λ other. subst (λ (hs : List Hop). AreApart (keys_of hs)) (sym (J.other_feeds node inlet other)) (was_apart node inlet))

  joined_fed : FedOnce v
  joined_fed = record {
    lines = λ node inlet i h e. same_port node inlet l.sink l.inlet
        (λ a b. subst (λ n. Told n inlet h) (sym a) (subst (λ n. Told l.sink n h) (sym b)
        (new_told h (inserted_from (feed_hops w l.sink l.inlet) place (hop_at key l.source l.outlet) h i
        (ap (λ (hs : List Hop). slice_get hs i) (sym J.feeds) ∙ ap (λ n. slice_get (feed_hops v n l.inlet) i) (sym a) ∙ ap (λ n. slice_get (feed_hops v node n) i) (sym b) ∙ e)))))
        (λ other. old_told node inlet i h (ap (λ (hs : List Hop). slice_get hs i) (sym (J.other_feeds node inlet other)) ∙ e));
    once = λ node inlet. subst AreApart (feed_keys_of v (feed_keys v node inlet)) (now_apart node inlet);
  }

-- feeds in order are with one more at its place
feeds_in_order : (labels : List ℕ) (w v : Web) (key : ℕ) (l : Line) (fan_place place : ℕ) → IsPlace labels l (feed_hops w l.sink l.inlet) place → Joins w v key l fan_place place
    → (node inlet : ℕ) → AreInOrder labels (feed_hops w node inlet) → AreInOrder labels (feed_hops v node inlet)
feeds_in_order labels w v key l fan_place place is J node inlet order = same_port node inlet l.sink l.inlet
    (λ a b. subst (λ n. AreInOrder labels (feed_hops v n inlet)) (sym a) (subst (λ n. AreInOrder labels (feed_hops v l.sink n)) (sym b)
    (subst (AreInOrder labels) (sym J.feeds)
    (feeds_ordered labels l key (feed_hops w l.sink l.inlet) place
    (subst (λ n. AreInOrder labels (feed_hops w n l.inlet)) a (subst (λ n. AreInOrder labels (feed_hops w node n)) b order)) is))))
    (λ other. subst (AreInOrder labels) (sym (J.other_feeds node inlet other)) order)

-- ---- a patch to which one wire came back

module _ (box : ℕ) (x : Back) (q : Patch) (C : Comes box x q) (F : Forest x.before.grove) (path : List ℕ) (canvas number : ℕ)
    (leads : sub_reached x.before.grove (Some x.before.grove.root) path ≡ Some canvas) (here : slice_get (keys_at x.before.grove canvas) number ≡ Some box) where
  abbrev p : Patch
  p = x.before

  abbrev l : Line
  l = x.line

  own : AreOwn (get p.grove.nodes) (get p.grove.boards)
  own = subst (λ (g : Grove). AreOwn (get g.nodes) (get g.boards)) C.rest.grove C.rewires.own

  -- both boxes of the wire lie in one canvas
  shared : ShareCanvas p.grove l.source l.sink
  shared =
      let h = hop_at x.key l.sink l.inlet in
      let i = subst (λ (hs : List Hop). IsListed hs h) (sym C.joins.fan) (inserted_here (fan_hops p.web l.source l.outlet) C.fan_place h) in
      subst (λ (g : Grove). ShareCanvas g l.source l.sink) C.rest.grove
      (all_at (λ (y : Hop). ShareCanvas q.grove l.source y.node) (fan_hops q.web l.source l.outlet) i.0 h (C.rewires.inside l.source l.outlet) i.1)

  -- which is the box's
  shared_here : shared.canvas ≡ canvas
  shared_here =
      let home = own.home canvas number box here in
      same_Some shared.canvas canvas (⊎_elim
      (λ (e : l.source ≡ box). sym (own.home shared.canvas shared.one.0 l.source shared.one.1) ∙ ap (λ k. board_in (get p.grove.nodes k)) e)
      (λ (e : l.sink ≡ box). sym (own.home shared.canvas shared.other.0 l.sink shared.other.1) ∙ ap (λ k. board_in (get p.grove.nodes k)) e)
      C.at ∙ home)

  not_source : (c k : ℕ) → c ≢ canvas → IsAmong (keys_at p.grove c) k → k ≢ l.source
  not_source c k d t = elsewhere p.grove own canvas shared.one.0 l.source (ap (λ y. slice_get (keys_at p.grove y) shared.one.0) (sym shared_here) ∙ shared.one.1) c k d t

  not_sink : (c k : ℕ) → c ≢ canvas → IsAmong (keys_at p.grove c) k → k ≢ l.sink
  not_sink c k d t = elsewhere p.grove own canvas shared.other.0 l.sink (ap (λ y. slice_get (keys_at p.grove y) shared.other.0) (sym shared_here) ∙ shared.other.1) c k d t

  inside_still : (t : Tree) → IsWiredInside p.grove p.web t → IsWiredInside p.grove q.web t
  inside_still t I = record {
    all = λ way c u i.
        let keys = keys_at p.grove c in
        let d = not_own p.grove F path canvas leads t u way c i in
        same_canvas p.web q.web keys u (kept_told p.web q.web keys C.joins.kept)
        (λ k o a. C.joins.other_fans k o (λ e. absurd (not_source c k d a e)))
        (λ k o a. C.joins.other_feeds k o (λ e. absurd (not_sink c k d a e)))
        (I.all way c u i);
  }

  one_holds : (t : Tree) → HoldsWires p t → HoldsWires q t
  one_holds t H = record {
    fed = joined_fed p.web q.web x.key l C.fan_place C.place C.joins H.fed;
    meet = joined_meet p.web q.web x.key l C.fan_place C.place C.joins H.meet;
    inside = subst (λ (g : Grove). IsWiredInside g q.web t) (sym C.rest.grove) (inside_still t H.inside);
    order = λ way c at.
        let O = H.order way c (ap (λ (g : Grove). sub_reached g (Some g.root) way) (sym C.rest.grove) ∙ at) in
        record {
          all = λ i k inlet e.
              subst (λ (y : _). AreInOrder y.items (feed_hops q.web k inlet)) (sym C.rest.numbers)
              (feeds_in_order p.numbers.items p.web q.web x.key l C.fan_place C.place C.is_place C.joins k inlet
              (O.all i k inlet (ap (λ (g : Grove). slice_get (keys_at g c) i) (sym C.rest.grove) ∙ e)));
        };
  }

-- ---- one after the other

back_grove : (box : ℕ) (p : Patch) (xs : List Back) (q : Patch) → AreBack box p xs q → q.grove ≡ p.grove
back_grove box p [] q e = ap (λ (y : Patch). y.grove) e
back_grove box p (x ∷ xs) q a = a.0.rest.grove ∙ back_grove box p xs x.before a.1

module _ (box : ℕ) (p : Patch) (F : Forest p.grove) (path : List ℕ) (canvas number : ℕ) (leads : sub_reached p.grove (Some p.grove.root) path ≡ Some canvas)
    (here : slice_get (keys_at p.grove canvas) number ≡ Some box) where
  pub back_holds : (xs : List Back) (q : Patch) → AreBack box p xs q → (t : Tree) → HoldsWires p t → HoldsWires q t
  back_holds [] q e t H = subst (λ (y : Patch). HoldsWires y t) (sym e) H
  back_holds (x ∷ xs) q a t H =
      let same = back_grove box p xs x.before a.1 in
      one_holds box x q a.0 (subst Forest (sym same) F) path canvas number
      (ap (λ (g : Grove). sub_reached g (Some g.root) path) same ∙ leads) (ap (λ (g : Grove). slice_get (keys_at g canvas) number) same ∙ here) t
      (back_holds xs x.before a.1 t H)
