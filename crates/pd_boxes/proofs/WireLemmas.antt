-- Wires, links and signal orders, where a box without wires came.
use Rattle.std.proofs.Common.{◌≡◌, ◌≢◌, ℕ, zero, suc, Bool, cond, List, [], ◌∷◌, ◌++◌, map, length, Option, Some, None, refl, sym, ap, ◌∙◌, subst, arith}
use Rattle.std.specs.Prelude.{slice_get, option_and_then}
use mathlib.Core.Logic.{⊎_elim}
use Rattle.std.specs.List.{AllByRecursion}
use Rattle.std.proofs.lemmas.Bool.{cases_eq}
use Rattle.slab.specs.Slab.{get}
use Rattle.pd_order.specs.Graph.{tally, IsOrder}
use Rattle.pd_order.specs.Listing.{Listing}
use Rattle.pd_order.proofs.Basics.{by_test}
use Rattle.pd_chain.specs.declared.graph.SignalWire.{SignalWire}
use Rattle.pd_chain.specs.Wires.{graph_of}
use Rattle.pd_links.specs.declared.links.Links.{Links}
use Rattle.pd_grove.specs.declared.nodes.Node.{Node}
use Rattle.pd_grove.specs.declared.boards.Board.{Board}
use Rattle.pd_grove.specs.declared.grove.Grove.{Grove}
use Rattle.pd_grove.specs.declared.ports.Side.{Side}
use Rattle.pd_grove.specs.declared.ports.Side.TheVariants.{Inlets, Outlets}
use Rattle.pd_grove.specs.Telling.{keys_in}
use Rattle.pd_grove.specs.Owning.{AreOwn}
use Rattle.pd_grove.specs.Grafts.{HasBoxMore}
use Rattle.pd_grove.proofs.GraftLemmas.{keys_had, keys_has, not_new, raised, raised_at}
use Rattle.pd_web.specs.declared.jacks.Jack.{Jack}
use Rattle.pd_web.specs.declared.sockets.Port.{Port}
use Rattle.pd_web.specs.declared.web.Hop.{Hop}
use Rattle.pd_web.specs.declared.web.Web.{Web}
use Rattle.pd_web.specs.Canvases.{keys_at}
use Rattle.pd_web.specs.Hops.{ports_told, jack_told, signal_in, hop_to, fan_under, fan_hops}
use Rattle.pd_web.specs.Sockets.{ports_at, jacks_of}
use Rattle.pd_ports.specs.Boxes.{HasPorts as GetsPorts}
use Rattle.pd_patch.specs.Linked.{HasLinks, StayInside, ShareCanvas}
use Rattle.pd_patch.specs.Listing.{IsThere}
use Rattle.pd_patch.specs.Orders.{is_signal_node, signal_among, is_heard, wires_by, wires_from, wires_below, box_wires, signal_wires_among, HasOrder}
use Rattle.pd_wiring.proofs.HeardLemmas.{sinks_of}

no_ports : (ps : List Port) → jacks_of ps ≡ [] → ps ≡ []
no_ports [] e = refl
no_ports (p ∷ ps) e = let q = ap length e in absurd (omega (arith, q))

-- a box without ports has no wires
pub no_fans : (w : Web) (k : ℕ) → ports_told w Outlets k ≡ [] → (o : ℕ) → fan_hops w k o ≡ []
no_fans w k e o =
    ap (λ (ps : List Port). map (hop_to w) (fan_under w.book (option_and_then (λ (p : Port). p.end) (slice_get ps o)))) (no_ports (ports_at w.sockets.items Outlets k) e)

none_from : (w : Web) (k : ℕ) → ((o : ℕ) → fan_hops w k o ≡ []) → (n : ℕ) → wires_below w k n ≡ []
none_from w k none zero = refl
none_from w k none (suc n) = ap (λ (vs : List SignalWire). vs ++ wires_from w k n) (none_from w k none n) ∙ by_test (signal_in (jack_told w Outlets k n))
    (λ t. rw t (ap (wires_by w k) (none n)))
    (λ f. rw f refl)

pub all_imply : {X : Type 0} (P Q : X → Type 0) → ((x : X) → P x → Q x) → (xs : List X) → AllByRecursion P xs → AllByRecursion Q xs
all_imply P Q f [] h = tt
all_imply P Q f (x ∷ xs) h = (f x h.0, all_imply P Q f xs h.1)

among_same : (w w' : Web) → ((k : ℕ) → box_wires w' k ≡ box_wires w k) → (ks : List ℕ) → signal_wires_among w' ks ≡ signal_wires_among w ks
among_same w w' same [] = refl
among_same w w' same (k ∷ ks) =
    ap (λ (vs : List SignalWire). vs ++ signal_wires_among w' ks) (same k) ∙ ap (λ (vs : List SignalWire). box_wires w k ++ vs) (among_same w w' same ks)

module _ (g g' : Grove) (c k : ℕ) (n : Node) (a b : List ℕ) (M : HasBoxMore (get g.nodes) (get g'.nodes) (get g.boards) (get g'.boards) c k n a b) (own : AreOwn (get g.nodes) (get g.boards)) where
  -- the boxes of a canvas that were there are none of the new keys
  pub old_key : (d x : ℕ) → IsThere (keys_at g d) x → x ≢ k
  old_key d x t = not_new (get g.nodes) k x d M.vacant (own.home d t.0 x t.1)

  pub there_still : (d x : ℕ) → IsThere (keys_at g d) x → IsThere (keys_at g' d) x
  there_still d x t = ⊎_elim
      (λ (e : d ≡ c). subst (λ y. IsThere (keys_at g' y) x) (sym e) (raise (subst (λ y. IsThere (keys_at g y) x) e t)))
      (λ (f : d ≢ c). (t.0, ap (λ (o : Option Board). slice_get (keys_in o) t.0) (M.keys.others d f) ∙ t.1)) (cases_eq d c)
    where
      raise : IsThere (keys_at g c) x → IsThere (keys_at g' c) x
      raise u =
          let had = keys_had (get g.boards) (get g'.boards) c (a ++ b) (a ++ k ∷ b) M.keys in
          let has = keys_has (get g.boards) (get g'.boards) c (a ++ b) (a ++ k ∷ b) M.keys in
          (raised a u.0, ap (λ (ks : List ℕ). slice_get ks (raised a u.0)) has ∙ raised_at a b k u.0 ∙ ap (λ (ks : List ℕ). slice_get ks u.0) (sym had) ∙ u.1)

  share_still : (u x : ℕ) → ShareCanvas g u x → ShareCanvas g' u x
  share_still u x s = record { canvas = s.canvas; one = there_still s.canvas u s.one; other = there_still s.canvas x s.other }

  pub inside_still : (w w' : Web) → StayInside g w → ((u o : ℕ) → fan_hops w' u o ≡ fan_hops w u o) → StayInside g' w'
  inside_still w w' inside fans = λ u o.
      subst (AllByRecursion (λ (h : Hop). ShareCanvas g' u h.node)) (sym (fans u o))
      (all_imply (λ (h : Hop). ShareCanvas g u h.node) (λ (h : Hop). ShareCanvas g' u h.node) (λ h s. share_still u h.node s) (fan_hops w u o) (inside u o))

  signals_same : (ks : List ℕ) → ((i x : ℕ) → slice_get ks i ≡ Some x → x ≢ k) → signal_among g' ks ≡ signal_among g ks
  signals_same [] old = refl
  signals_same (x ∷ ks) old =
      ap (λ (o : Option Node). cond (is_signal_node o) (x ∷ signal_among g' ks) (signal_among g' ks)) (M.others x (old zero x refl))
      ∙ ap (λ (ys : List ℕ). cond (is_signal_node (get g.nodes x)) (x ∷ ys) ys) (signals_same ks (λ i. old (suc i)))

  module _ (w w' : Web) (jacks : Side → List Jack) (made : Bool) (G : GetsPorts w w' k jacks made) (inside : StayInside g w) (bare : ports_told w Outlets k ≡ []) where
    heard_same : (h : Hop) → h.node ≢ k → is_heard w' h ≡ is_heard w h
    heard_same h d = ap (λ (js : List Jack). signal_in (slice_get js h.port)) (G.other_ports Inlets h.node d)

    by_same : (u : ℕ) (hops : List Hop) → AllByRecursion (λ (h : Hop). h.node ≢ k) hops → wires_by w' u hops ≡ wires_by w u hops
    by_same u [] A = refl
    by_same u (h ∷ hops) A =
        let same = heard_same h A.0 in
        by_test (is_heard w h)
        (λ t. rw (same, t) (ap (λ (vs : List SignalWire). record { source = u; sink = h.node } ∷ vs) (by_same u hops A.1)))
        (λ f. rw (same, f) (by_same u hops A.1))

    old_hops : (u o : ℕ) → AllByRecursion (λ (h : Hop). h.node ≢ k) (fan_hops w u o)
    old_hops u o = all_imply (λ (h : Hop). ShareCanvas g u h.node) (λ (h : Hop). h.node ≢ k) (λ h s. old_key s.canvas h.node s.other) (fan_hops w u o) (inside u o)

    from_same : (u o : ℕ) → u ≢ k → wires_from w' u o ≡ wires_from w u o
    from_same u o d =
        let sounds : signal_in (jack_told w' Outlets u o) ≡ signal_in (jack_told w Outlets u o) = ap (λ (js : List Jack). signal_in (slice_get js o)) (G.other_ports Outlets u d) in
        by_test (signal_in (jack_told w Outlets u o))
        (λ t. rw (sounds, t) (ap (wires_by w' u) (G.fans u o) ∙ by_same u (fan_hops w u o) (old_hops u o)))
        (λ f. rw (sounds, f) refl)

    below_same : (u m : ℕ) → u ≢ k → wires_below w' u m ≡ wires_below w u m
    below_same u zero d = refl
    below_same u (suc m) d =
        ap (λ (vs : List SignalWire). vs ++ wires_from w' u m) (below_same u m d) ∙ ap (λ (vs : List SignalWire). wires_below w u m ++ vs) (from_same u m d)

    -- the box that came has none
    pub wires_none : box_wires w' k ≡ []
    wires_none = none_from w' k (λ o. G.fans k o ∙ no_fans w k bare o) (length (ports_told w' Outlets k))

    -- each box has the signal wires that it had
    pub wires_same : (u : ℕ) → box_wires w' u ≡ box_wires w u
    wires_same u = ⊎_elim
        (λ (e : u ≡ k). subst (λ x. box_wires w' x ≡ box_wires w x) (sym e) (
        wires_none
        ∙ sym (none_from w k (no_fans w k bare) (length (ports_told w Outlets k)))))
        (λ (d : u ≢ k). ap (λ (js : List Jack). wires_below w' u (length js)) (G.other_ports Outlets u d) ∙ below_same u (length (ports_told w Outlets u)) d)
        (cases_eq u k)

    pub links_same : (l : Links) → HasLinks w l → HasLinks w' l
    links_same l H = record {
      followers = λ u j. H.followers u j ∙ sym (ap (λ (vs : List SignalWire). tally j (sinks_of vs)) (wires_same u));
      feeders = λ u j. H.feeders u j ∙ sym (ap (λ (vs : List SignalWire). tally j (sinks_of vs)) (wires_same u));
    }

    order_same : (o : Option Listing) (q : Option Board) → ((i x : ℕ) → slice_get (keys_in q) i ≡ Some x → x ≢ k) → HasOrder g w q o → HasOrder g' w' q o
    order_same o None old h = h
    order_same None (Some q) old h = h
    order_same (Some o) (Some q) old h =
        let ks = q.nodes.items in
        let signal : signal_among g' ks ≡ signal_among g ks = signals_same ks old in
        let wires : signal_wires_among w' (signal_among g' ks) ≡ signal_wires_among w (signal_among g ks) = ap (signal_wires_among w') signal ∙ among_same w w' wires_same (signal_among g ks) in
        subst (λ (xs : List ℕ). IsOrder (graph_of ks (signal_wires_among w' (signal_among g' ks))) xs o.chain o.stuck) (sym signal)
        (subst (λ (vs : List SignalWire). IsOrder (graph_of ks vs) (signal_among g ks) o.chain o.stuck) (sym wires) h)

    -- another canvas has the order that it had
    pub other_order : (d : ℕ) (o : Option Listing) → d ≢ c → HasOrder g w (get g.boards d) o → HasOrder g' w' (get g'.boards d) o
    other_order d o f h =
        subst (λ (q : Option Board). HasOrder g' w' q o) (sym (M.keys.others d f))
        (order_same o (get g.boards d) (λ i x at. old_key d x (i, at)) h)
