-- The signal wires of boxes, where others got their ports.
use Rattle.std.proofs.Common.{◌≡◌, ◌≢◌, ℕ, zero, suc, false, true, List, [], ◌∷◌, ◌++◌, length, Option, Some, IsTrue, refl, sym, ap, ◌∙◌, subst, inl, inr}
use Rattle.std.specs.Prelude.{slice_get, ◌⊎◌}
use Rattle.std.specs.List.{AllByRecursion}
use mathlib.Core.Logic.{⊎_elim}
use Rattle.std.proofs.lemmas.Bool.{cases_eq}
use Rattle.slab.specs.Slab.{get}
use Rattle.pd_order.specs.Graph.{tally}
use Rattle.pd_order.proofs.Basics.{by_test}
use Rattle.pd_chain.specs.declared.graph.SignalWire.{SignalWire}
use Rattle.pd_links.specs.declared.links.Links.{Links}
use Rattle.pd_grove.specs.declared.nodes.Node.{Node}
use Rattle.pd_grove.specs.declared.boards.Board.{Board}
use Rattle.pd_grove.specs.declared.grove.Grove.{Grove}
use Rattle.pd_grove.specs.declared.ports.Side.{Side}
use Rattle.pd_grove.specs.declared.ports.Side.TheVariants.{Inlets, Outlets}
use Rattle.pd_grove.specs.Grafts.{HasPartMore}
use Rattle.pd_grove.specs.Telling.{keys_in}
use Rattle.pd_grove.specs.Owning.{AreOwn}
use Rattle.pd_grove.proofs.GraftLemmas.{raised, raised_at, is_some}
use Rattle.pd_grove.proofs.NestLemmas.{board_there}
use Rattle.pd_owning.specs.Bound.{is_among}
use Rattle.pd_web.specs.declared.jacks.Jack.{Jack}
use Rattle.pd_web.specs.declared.web.Hop.{Hop}
use Rattle.pd_web.specs.declared.web.Web.{Web}
use Rattle.pd_web.specs.Canvases.{keys_at}
use Rattle.pd_web.specs.Hops.{ports_told, jack_told, signal_in, fan_hops}
use Rattle.pd_patch.specs.Linked.{HasLinks, StayInside, ShareCanvas}
use Rattle.pd_patch.specs.Listing.{IsThere}
use Rattle.pd_patch.specs.Orders.{is_heard, wires_by, wires_from, wires_below, box_wires}
use Rattle.pd_wiring.proofs.HeardLemmas.{sinks_of}
use Rattle.pd_boxes.proofs.WireLemmas.{no_fans, all_imply}

none_from : (w : Web) (k : ℕ) → ((o : ℕ) → fan_hops w k o ≡ []) → (n : ℕ) → wires_below w k n ≡ []
none_from w k none zero = refl
none_from w k none (suc n) = ap (λ (vs : List SignalWire). vs ++ wires_from w k n) (none_from w k none n) ∙ by_test (signal_in (jack_told w Outlets k n))
    (λ t. rw t (ap (wires_by w k) (none n)))
    (λ f. rw f refl)

-- Boxes that were there share the canvases that they shared.

module _ (g h : Grove) (c key : ℕ) (before behind : List ℕ) (M : HasPartMore (get g.nodes) (get h.nodes) (get g.boards) (get h.boards) c key before behind) where
  pub there_still : (d x : ℕ) → IsThere (keys_at g d) x → IsThere (keys_at h d) x
  there_still d x t = ⊎_elim
      (λ (e : d ≡ c). subst (λ y. IsThere (keys_at h y) x) (sym e) (raise (subst (λ y. IsThere (keys_at g y) x) e t)))
      (λ (f : d ≢ c).
      let B = board_there (get g.boards d) t.0 x t.1 in
      (t.0, ap (λ (o : Option Board). slice_get (keys_in o) t.0) (M.canvases_stay d f (is_some (get g.boards d) B.0 B.1)) ∙ t.1)) (cases_eq d c)
    where
      raise : IsThere (keys_at g c) x → IsThere (keys_at h c) x
      raise u = (raised before u.0, ap (λ (ks : List ℕ). slice_get ks (raised before u.0)) M.has ∙ raised_at before behind key u.0 ∙ ap (λ (ks : List ℕ). slice_get ks u.0) (sym M.had) ∙ u.1)

  pub share_still : (u x : ℕ) → ShareCanvas g u x → ShareCanvas h u x
  share_still u x s = record { canvas = s.canvas; one = there_still s.canvas u s.one; other = there_still s.canvas x s.other }

  pub inside_still : (w w' : Web) → StayInside g w → ((u o : ℕ) → fan_hops w' u o ≡ fan_hops w u o) → StayInside h w'
  inside_still w w' inside fans = λ u o.
      subst (AllByRecursion (λ (x : Hop). ShareCanvas h u x.node)) (sym (fans u o))
      (all_imply (λ (x : Hop). ShareCanvas g u x.node) (λ (x : Hop). ShareCanvas h u x.node) (λ x s. share_still u x.node s) (fan_hops w u o) (inside u o))

-- These boxes got ports, and had none before.

module _ (g : Grove) (w w' : Web) (part : List ℕ) (inside : StayInside g w) (old : (c x : ℕ) → IsThere (keys_at g c) x → is_among part x ≡ false)
    (other_ports : (side : Side) (k : ℕ) → is_among part k ≡ false → ports_told w' side k ≡ ports_told w side k) (fans : (k o : ℕ) → fan_hops w' k o ≡ fan_hops w k o)
    (bare : (k : ℕ) → IsTrue (is_among part k) → ports_told w Outlets k ≡ []) where
  heard_same : (x : Hop) → is_among part x.node ≡ false → is_heard w' x ≡ is_heard w x
  heard_same x f = ap (λ (js : List Jack). signal_in (slice_get js x.port)) (other_ports Inlets x.node f)

  by_same : (u : ℕ) (hops : List Hop) → AllByRecursion (λ (x : Hop). is_among part x.node ≡ false) hops → wires_by w' u hops ≡ wires_by w u hops
  by_same u [] A = refl
  by_same u (x ∷ hops) A =
      let same = heard_same x A.0 in
      by_test (is_heard w x)
      (λ t. rw (same, t) (ap (λ (vs : List SignalWire). record { source = u; sink = x.node } ∷ vs) (by_same u hops A.1)))
      (λ f. rw (same, f) (by_same u hops A.1))

  old_hops : (u o : ℕ) → AllByRecursion (λ (x : Hop). is_among part x.node ≡ false) (fan_hops w u o)
  old_hops u o = all_imply (λ (x : Hop). ShareCanvas g u x.node) (λ (x : Hop). is_among part x.node ≡ false) (λ x s. old s.canvas x.node s.other) (fan_hops w u o) (inside u o)

  from_same : (u o : ℕ) → is_among part u ≡ false → wires_from w' u o ≡ wires_from w u o
  from_same u o d =
      let sounds : signal_in (jack_told w' Outlets u o) ≡ signal_in (jack_told w Outlets u o) = ap (λ (js : List Jack). signal_in (slice_get js o)) (other_ports Outlets u d) in
      by_test (signal_in (jack_told w Outlets u o))
      (λ t. rw (sounds, t) (ap (wires_by w' u) (fans u o) ∙ by_same u (fan_hops w u o) (old_hops u o)))
      (λ f. rw (sounds, f) refl)

  below_same : (u m : ℕ) → is_among part u ≡ false → wires_below w' u m ≡ wires_below w u m
  below_same u zero d = refl
  below_same u (suc m) d =
      ap (λ (vs : List SignalWire). vs ++ wires_from w' u m) (below_same u m d) ∙ ap (λ (vs : List SignalWire). wires_below w u m ++ vs) (from_same u m d)

  -- each box has the signal wires that it had
  pub wires_same : (u : ℕ) → box_wires w' u ≡ box_wires w u
  wires_same u = by_test (is_among part u)
      (λ t. none_from w' u (λ o. fans u o ∙ no_fans w u (bare u t) o) (length (ports_told w' Outlets u)) ∙ sym (none_from w u (no_fans w u (bare u t)) (length (ports_told w Outlets u))))
      (λ f. ap (λ (js : List Jack). wires_below w' u (length js)) (other_ports Outlets u f) ∙ below_same u (length (ports_told w Outlets u)) f)

  pub links_same : (l : Links) → HasLinks w l → HasLinks w' l
  links_same l H = record {
    followers = λ u j. H.followers u j ∙ sym (ap (λ (vs : List SignalWire). tally j (sinks_of vs)) (wires_same u));
    feeders = λ u j. H.feeders u j ∙ sym (ap (λ (vs : List SignalWire). tally j (sinks_of vs)) (wires_same u));
  }
