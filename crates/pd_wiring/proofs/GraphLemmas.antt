-- The graph of a canvas, by the links of the whole patch.
use Rattle.std.proofs.Common.{arith, ◌≡◌, ℕ, zero, suc, ◌+◌, ◌<◌, ◌≤◌, ◌==◌, ◌^◌, Bool, true, false, cond, List, [], ◌∷◌, length, refl, sym, ap, ◌∙◌, subst}
use Rattle.std.specs.Prelude.{Option, Some, None, slice_get, ◌↔◌}
use Rattle.std.proofs.lemmas.Option.{none-some, same_Some}
use Rattle.slab.specs.Slab.{get}
use Rattle.pd_order.specs.Graph.{tally, IsLawful, IsOrder}
use Rattle.pd_order.specs.Listing.{Listing}
use Rattle.pd_order.proofs.Basics.{by_test, same_node, same_test, other_node, other_test, ltb', ltb-true', ltb-false'}
use Rattle.pd_order.proofs.SameLemmas.{same_order}
use Rattle.pd_chain.specs.Wires.{place_of, sources_into, graph_of}
use Rattle.pd_links.specs.declared.links.Links.{Links}
use Rattle.pd_links.specs.Linked.{feeders_of, followers_of}
use Rattle.pd_label.specs.Labels.{label_of as label_in, Rise}
use Rattle.pd_grove.specs.declared.boards.Board.{Board}
use Rattle.pd_grove.specs.declared.grove.Grove.{Grove}
use Rattle.pd_grove.specs.Owning.{AreOwn, board_in}
use Rattle.pd_grove.specs.Labelled.{label_of}
use Rattle.pd_grove.specs.Telling.{keys_in}
use Rattle.pd_web.specs.declared.web.Web.{Web}
use Rattle.pd_web.specs.Canvases.{keys_at}
use Rattle.pd_patch.specs.Listing.{IsThere}
use Rattle.pd_patch.specs.Orders.{is_signal_node, signal_among, signal_wires_among, HasOrder, AreOrdered}
use Rattle.pd_patch.specs.Telling.{order_in}
use Rattle.pd_patch.proofs.ListingLemmas.{place_in, counted_at}
use Rattle.pd_patch.proofs.CanvasLemmas.{once_apart, fewer_kept, kept_there}
use Rattle.pd_patch.proofs.LinkingLemmas.{fed_none, fed_one}
use Rattle.pd_wiring.specs.Graphs.{is_key, lies_in, signal_boxes, canvas_graph, AreWired, HasOrderBy, AreOrderedBy}
use Rattle.pd_wiring.proofs.HeardLemmas.{AreJoined, joined_boxes}

-- Boxes of a canvas.

key_is : (c : ℕ) (o : Option ℕ) → is_key c o ≡ true → o ≡ Some c
key_is c None h = cc
key_is c (Some d) h = ap (λ x. Some x) (same_node d c h)

-- a box of a canvas lies in it
pub lies_there : (g : Grove) (c k : ℕ) → AreOwn (get g.nodes) (get g.boards) → IsThere (keys_at g c) k → lies_in g c k ≡ true
lies_there g c k O at = ap (is_key c) (O.home c at.0 k at.1) ∙ same_test c

-- where a box of one canvas lies in another, they are one
pub one_canvas : (g : Grove) (c d k : ℕ) → AreOwn (get g.nodes) (get g.boards) → lies_in g c k ≡ true → IsThere (keys_at g d) k → d ≡ c
one_canvas g c d k O h at = same_Some d c (sym (O.home d at.0 k at.1) ∙ key_is c (board_in (get g.nodes k)) h)

pub signal_there : (g : Grove) (c k : ℕ) → IsThere (keys_at g c) k → is_signal_node (get g.nodes k) ≡ true → 0 < tally k (signal_boxes g c)
signal_there g c k at s = kept_there (λ x. is_signal_node (get g.nodes x)) (keys_at g c) k s (counted_at k (keys_at g c) at.0 at.1)

-- a box of the order stands in the canvas
pub box_there : (g : Grove) (c k : ℕ) → 0 < tally k (signal_boxes g c) → IsThere (keys_at g c) k
box_there g c k l = let f = fewer_kept (λ x. is_signal_node (get g.nodes x)) (keys_at g c) k in place_in k (keys_at g c) (omega (arith, l, f))

pub signal_lies : (g : Grove) (c k : ℕ) → AreOwn (get g.nodes) (get g.boards) → 0 < tally k (signal_boxes g c) → lies_in g c k ≡ true
signal_lies g c k O l = lies_there g c k O (box_there g c k l)

signal_once : (g : Grove) (c k : ℕ) → AreOwn (get g.nodes) (get g.boards) → tally k (signal_boxes g c) ≤ 1
signal_once g c k O =
    let a = once_apart (keys_at g c) (O.once c) k in
    let b = fewer_kept (λ x. is_signal_node (get g.nodes x)) (keys_at g c) k in omega (arith, a, b)

-- where a box has a wire in the graph of a canvas, it has those of the links
pub some_inside : (b : Bool) (xs : List ℕ) (i : ℕ) → i < length (cond b xs []) → cond b xs [] ≡ xs
some_inside true xs i l = refl
some_inside false xs i l = absurd (omega (arith, l))

pub some_there : (b : Bool) (xs : List ℕ) (i : ℕ) → i < length (cond b xs []) → i < length xs
some_there b xs i l = subst (λ (ys : List ℕ). i < length ys) (some_inside b xs i l) l

-- Places and labels of boxes.

place_is : (keys : List ℕ) (i k : ℕ) → ((i j k : ℕ) → slice_get keys i ≡ Some k → slice_get keys j ≡ Some k → i ≡ j) → slice_get keys i ≡ Some k → place_of keys k ≡ i
place_is [] i k once at = absurd (none-some k at)
place_is (x ∷ keys) zero k once at = let t : (x == k) ≡ true = ap (λ y. y == k) (same_Some x k at) ∙ same_test k in rw t refl
place_is (x ∷ keys) (suc i) k once at =
    let differ : x ≡ k → ⊥ = (λ (e : x ≡ k). apart (once 0 (suc i) k (ap (λ y. Some y) e) at)) in
    let f : (x == k) ≡ false = other_test x k differ in
    let rest : place_of keys k ≡ i = place_is keys i k (λ a b y p q. down a b (once (suc a) (suc b) y p q)) at in
    rw f (omega (arith, rest)) where
      apart : 0 ≡ suc i → ⊥
      apart e = omega (arith, e)

      down : (a b : ℕ) → suc a ≡ suc b → a ≡ b
      down a b e = omega (arith, e)

-- along keys whose labels rise, a smaller label stands earlier
label_earlier : (labels keys : List ℕ) (i j x y : ℕ) → Rise labels keys → slice_get keys i ≡ Some x → slice_get keys j ≡ Some y → label_in labels x < label_in labels y → i < j
label_earlier labels keys i j x y R at bt h = by_test (ltb' i j)
    (λ t. ltb-true' i j t)
    (λ f. let l : j ≤ i = ltb-false' i j f in by_test (ltb' j i)
    (λ t. let m : label_in labels y < label_in labels x = R j i y x (ltb-true' j i t) bt at in absurd (omega (arith, h, m)))
    (λ u. let m : i ≤ j = ltb-false' j i u in
    let same : i ≡ j = omega (arith, l, m) in
    let one : x ≡ y = same_Some x y (sym at ∙ ap (slice_get keys) same ∙ bt) in
    let e : label_in labels x ≡ label_in labels y = ap (label_in labels) one in absurd (omega (arith, h, e))))

-- and one label is that of one place
label_once : (labels keys : List ℕ) (i j x y : ℕ) → Rise labels keys → slice_get keys i ≡ Some x → slice_get keys j ≡ Some y → label_in labels x ≡ label_in labels y → x ≡ y
label_once labels keys i j x y R at bt e = by_test (ltb' i j)
    (λ t. let m : label_in labels x < label_in labels y = R i j x y (ltb-true' i j t) at bt in absurd (omega (arith, e, m)))
    (λ f. let l : j ≤ i = ltb-false' i j f in by_test (ltb' j i)
    (λ t. let m : label_in labels y < label_in labels x = R j i y x (ltb-true' j i t) bt at in absurd (omega (arith, e, m)))
    (λ u. let m : i ≤ j = ltb-false' j i u in
    let same : i ≡ j = omega (arith, l, m) in
    same_Some x y (sym at ∙ ap (slice_get keys) same ∙ bt)))

-- Wires of a canvas.

module _ (g : Grove) (w : Web) (l : Links) (W : AreWired g w l) where
  fed_joined : (u x : ℕ) → 0 < tally u (feeders_of l x) → AreJoined g u x
  fed_joined u x h = let e = W.linked.feeders u x in joined_boxes g w u x W.ports W.inside (omega (arith, h, e))

  -- what feeds a box of a canvas is of the same canvas, and both stand in its order
  pub fed_inside : (c u x : ℕ) → lies_in g c x ≡ true → 0 < tally u (feeders_of l x) → (0 < tally u (signal_boxes g c)) × (0 < tally x (signal_boxes g c)) × (lies_in g c u ≡ true)
  fed_inside c u x lies h =
      let j = fed_joined u x h in
      let d : j.together.canvas ≡ c = one_canvas g c j.together.canvas x W.own lies j.together.other in
      let one : IsThere (keys_at g c) u = subst (λ (k : ℕ). IsThere (keys_at g k) u) d j.together.one in
      let other : IsThere (keys_at g c) x = subst (λ (k : ℕ). IsThere (keys_at g k) x) d j.together.other in
      (signal_there g c u one j.source, signal_there g c x other j.sink, lies_there g c u W.own one)

  -- what a box of a canvas feeds is of the same canvas
  followed_inside : (c u x : ℕ) → lies_in g c u ≡ true → 0 < tally u (feeders_of l x) → lies_in g c x ≡ true
  followed_inside c u x lies h =
      let j = fed_joined u x h in
      let d : j.together.canvas ≡ c = one_canvas g c j.together.canvas u W.own lies j.together.one in
      lies_there g c x W.own (subst (λ (k : ℕ). IsThere (keys_at g k) x) d j.together.other)

  both_ends : (x u : ℕ) → tally u (feeders_of l x) ≡ tally x (followers_of l u)
  both_ends x u = W.linked.feeders u x ∙ sym (W.linked.followers u x)

  -- an impossible wire is none
  none_fed : (x u : ℕ) → (0 < tally u (feeders_of l x) → ⊥) → tally u (feeders_of l x) ≡ 0
  none_fed x u h = none (tally u (feeders_of l x)) h where
    none : (n : ℕ) → (0 < n → ⊥) → n ≡ 0
    none zero h = refl
    none (suc n) h = absurd (h (omega arith))

  joined_in : (c x u : ℕ) → tally u (cond (lies_in g c x) (feeders_of l x) []) ≡ tally x (cond (lies_in g c u) (followers_of l u) [])
  joined_in c x u = by_test (lies_in g c x)
      (λ s. by_test (lies_in g c u)
      (λ t. rw (s, t) (both_ends x u))
      (λ t. let e : tally u (feeders_of l x) ≡ 0 = none_fed x u (λ h. differ (lies_in g c u) (fed_inside c u x s h).2 t) in rw (s, t) e))
      (λ s. by_test (lies_in g c u)
      (λ t. let e : tally u (feeders_of l x) ≡ 0 = none_fed x u (λ h. differ (lies_in g c x) (followed_inside c u x t h) s) in rw (s, t) (sym (sym (both_ends x u) ∙ e)))
      (λ t. rw (s, t) refl)) where
        differ : (b : Bool) → b ≡ true → b ≡ false → ⊥
        differ b p q = cc

  -- a feeder in the graph of a canvas
  fed_by : (c x u : ℕ) → 0 < tally u (cond (lies_in g c x) (feeders_of l x) []) → (0 < tally u (signal_boxes g c)) × (0 < tally x (signal_boxes g c))
  fed_by c x u h = by_test (lies_in g c x)
      (λ t. let k : 0 < tally u (feeders_of l x) = rw t at h in let r = fed_inside c u x t k in (r.0, r.1))
      (λ f. let k : 0 < tally u [] = rw f at h in absurd (omega (arith, k)))

  few_in : (c x : ℕ) → length (cond (lies_in g c x) (feeders_of l x) []) + 1 < 2 ^ 32
  few_in c x = by_test (lies_in g c x) (λ t. rw t (l.few_into x)) (λ f. rw f (omega arith))

  -- the graph of a canvas is one that its order may ask
  pub canvas_lawful : (c : ℕ) → IsLawful (canvas_graph g l c) (signal_boxes g c)
  canvas_lawful c = record {
    once = λ x. signal_once g c x W.own;
    apart = λ x y p q e. let a = box_there g c x p in let b = box_there g c y q in
        label_once g.labels (keys_at g c) a.0 b.0 x y (g.labelled.rise c) a.1 b.1 e;
    joined = λ x u. joined_in c x u;
    sources = λ x u h. (fed_by c x u h).0;
    sinks = λ x u h. (fed_by c x u h).1;
    few = λ x. few_in c x;
  }

  -- the wires of a canvas, at a box of it, are its links
  fed_alike : (c x u : ℕ) → 0 < tally x (signal_boxes g c) → tally u (sources_into (signal_wires_among w (signal_boxes g c)) x) ≡ tally u (cond (lies_in g c x) (feeders_of l x) [])
  fed_alike c x u at =
      let lies : lies_in g c x ≡ true = signal_lies g c x W.own at in
      let told = W.linked.feeders u x in
      let once = signal_once g c u W.own in
      by_test (tally u (signal_boxes g c) == 0)
      (λ t. let none : tally u (signal_boxes g c) ≡ 0 = same_node (tally u (signal_boxes g c)) 0 t in
      let e : tally u (feeders_of l x) ≡ 0 = none_fed x u (λ h. let r = (fed_inside c u x lies h).0 in omega (arith, r, none)) in
      rw lies (fed_none w (signal_boxes g c) u x none ∙ sym e))
      (λ f. let some : tally u (signal_boxes g c) ≡ 1 = (let n = other_node (tally u (signal_boxes g c)) 0 f in one (tally u (signal_boxes g c)) once n) in
      rw lies (fed_one w (signal_boxes g c) u x some ∙ sym told)) where
        one : (n : ℕ) → n ≤ 1 → (n ≡ 0 → ⊥) → n ≡ 1
        one zero h k = absurd (k refl)
        one (suc n) h k = omega (arith, h)

  ranks_alike : (c x y : ℕ) → 0 < tally x (signal_boxes g c) → 0 < tally y (signal_boxes g c) → (place_of (keys_at g c) x < place_of (keys_at g c) y) ↔ (label_of g x < label_of g y)
  ranks_alike c x y p q =
      let at = box_there g c x p in
      let bt = box_there g c y q in
      let a : place_of (keys_at g c) x ≡ at.0 = place_is (keys_at g c) at.0 x (W.own.once c) at.1 in
      let b : place_of (keys_at g c) y ≡ bt.0 = place_is (keys_at g c) bt.0 y (W.own.once c) bt.1 in (
        λ h. g.labelled.rise c at.0 bt.0 x y (omega (arith, a, b, h)) at.1 bt.1,
        λ h. let m : at.0 < bt.0 = label_earlier g.labels (keys_at g c) at.0 bt.0 x y (g.labelled.rise c) at.1 bt.1 h in omega (arith, a, b, m),
      )

  -- the order of a canvas by its wires is the one by its links
  pub order_by_links : (c : ℕ) (chain stuck : List ℕ) → IsOrder (graph_of (keys_at g c) (signal_wires_among w (signal_boxes g c))) (signal_boxes g c) chain stuck → IsOrder (canvas_graph g l c) (signal_boxes g c) chain stuck
  order_by_links c chain stuck o = same_order (graph_of (keys_at g c) (signal_wires_among w (signal_boxes g c))) (canvas_graph g l c) (signal_boxes g c) (signal_boxes g c) chain stuck
      (record { ranks = λ x y p q. ranks_alike c x y p q; feeders = λ x u p. fed_alike c x u p }) (λ x. refl) o

  pub order_by_wires : (c : ℕ) (chain stuck : List ℕ) → IsOrder (canvas_graph g l c) (signal_boxes g c) chain stuck → IsOrder (graph_of (keys_at g c) (signal_wires_among w (signal_boxes g c))) (signal_boxes g c) chain stuck
  order_by_wires c chain stuck o = same_order (canvas_graph g l c) (graph_of (keys_at g c) (signal_wires_among w (signal_boxes g c))) (signal_boxes g c) (signal_boxes g c) chain stuck
      (record { ranks = λ x y p q. let r = ranks_alike c x y p q in (r.1, r.0); feeders = λ x u p. sym (fed_alike c x u p) }) (λ x. refl) o

  chained_by : (c : ℕ) (b : Option Board) (o : Option Listing) → b ≡ get g.boards c → HasOrder g w b o → HasOrderBy (canvas_graph g l c) (signal_boxes g c) b o
  chained_by c None o e h = h
  chained_by c (Some b) None e h = h
  chained_by c (Some b) (Some o) e h =
      let keys : b.nodes.items ≡ keys_at g c = ap keys_in e in
      order_by_links c o.chain o.stuck (subst (λ (ks : List ℕ). IsOrder (graph_of ks (signal_wires_among w (signal_among g ks))) (signal_among g ks) o.chain o.stuck) keys h)

  wired_by : (c : ℕ) (b : Option Board) (o : Option Listing) → b ≡ get g.boards c → HasOrderBy (canvas_graph g l c) (signal_boxes g c) b o → HasOrder g w b o
  wired_by c None o e h = h
  wired_by c (Some b) None e h = h
  wired_by c (Some b) (Some o) e h =
      let keys : b.nodes.items ≡ keys_at g c = ap keys_in e in
      subst (λ (ks : List ℕ). IsOrder (graph_of ks (signal_wires_among w (signal_among g ks))) (signal_among g ks) o.chain o.stuck) (sym keys) (order_by_wires c o.chain o.stuck h)

  pub ordered_by_links : (orders : List (Option Listing)) → AreOrdered g w orders → AreOrderedBy g l orders
  ordered_by_links orders h c = chained_by c (get g.boards c) (order_in orders c) refl (h c)

  pub ordered_by_wires : (orders : List (Option Listing)) → AreOrderedBy g l orders → AreOrdered g w orders
  ordered_by_wires orders h c = wired_by c (get g.boards c) (order_in orders c) refl (h c)
