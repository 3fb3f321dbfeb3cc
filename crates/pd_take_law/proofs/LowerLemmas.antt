-- Where a box has a port fewer on a side, the wires at the others fit where they are then, and each stands once.
use Rattle.std.proofs.Common.{◌≡◌, ◌≢◌, ◌⊎◌, ◌<◌, ◌==◌, ℕ, Bool, cond, List, ◌∷◌, [], map, length, slice_get, Option, Some, None, IsSome, inl, inr, eq-eqb, refl, sym, ap, ◌∙◌, subst}
use Rattle.std.specs.Prelude.{option_map}
use Rattle.std.proofs.lemmas.Bool.{cases_eq}
use Rattle.std.proofs.lemmas.Option.{slice_get-map}
use Rattle.pd_canvas.specs.declared.wires.Wire.{Wire}
use Rattle.pd_tree.specs.Ports.{Sockets, joins, fits, fits_between}
use Rattle.pd_grove.specs.declared.ports.Side.{Side}
use Rattle.pd_grove.specs.declared.ports.Side.TheVariants.{Inlets, Outlets}
use Rattle.pd_web.specs.declared.jacks.Jack.{Jack}
use Rattle.pd_web.specs.declared.lines.Line.{Line}
use Rattle.pd_web.specs.declared.web.Hop.{Hop}
use Rattle.pd_web.specs.declared.web.Web.{Web}
use Rattle.pd_web.specs.Changes.{hop_at, line_by, line_told, Meet}
use Rattle.pd_web.specs.Homes.{inner_in}
use Rattle.pd_web.specs.Hops.{boxes_told, fan_hops, fan_keys, feed_hops, feed_keys, hop_from, hop_to, jack_told, ports_told}
use Rattle.pd_web.specs.Lines.{laid_at, signals_of}
use Rattle.pd_web.specs.Sockets.{made_at}
use Rattle.pd_web.specs.Wiring.{sink_at, source_at}
use Rattle.pd_patch.specs.Numbers.{AreApart}
use Rattle.pd_ports.specs.Moves.{Goes, FollowsPorts, StandsOn}
use Rattle.pd_alike_law.specs.Feeds.{FedOnce}
use Rattle.pd_alike_law.proofs.FeedLemmas.{keys_of, feed_keys_of}
use Rattle.pd_following.specs.Raising.{up, raised, Raises}
use Rattle.pd_following.proofs.FeedLemmas.{mapped_from}
use Rattle.pd_following.proofs.ListLemmas.{insert_up}
use Rattle.pd_following.proofs.RaiseLemmas.{differ_test, hop_key, keys_within, some_of}
use Rattle.pd_following_law.specs.Raised.{raised_wire}

-- `w` is the web where the box has the port no more, and `w'` the one where it has it.
module _ (w w' : Web) (key at : ℕ) (jack : Jack) where
  -- ---- ports

  signals_up : (side : Side) → Raises w w' key side at jack → (i : ℕ) → slice_get (signals_of (ports_told w' side key)) (up at i) ≡ slice_get (signals_of (ports_told w side key)) i
  signals_up side X i =
      slice_get-map (λ (j : Jack). j.is_signal) (ports_told w' side key) (up at i)
      ∙ ap (option_map (λ (j : Jack). j.is_signal)) (ap (λ (js : List Jack). slice_get js (up at i)) X.ports ∙ insert_up (ports_told w side key) at i jack X.within)
      ∙ sym (slice_get-map (λ (j : Jack). j.is_signal) (ports_told w side key) i)

  -- a port of that side carries what it carried at its number before
  port_up : (side : Side) → Raises w w' key side at jack → (k i : ℕ)
      → slice_get (signals_of (ports_told w' side k)) (cond (k == key) (up at i) i) ≡ slice_get (signals_of (ports_told w side k)) i
  port_up side X k i = elim (cases_eq k key) [
    | inl e ↦
        ap (λ (b : Bool). slice_get (signals_of (ports_told w' side k)) (cond b (up at i) i)) (eq-eqb k key e)
        ∙ ap (λ x. slice_get (signals_of (ports_told w' side x)) (up at i)) e ∙ signals_up side X i ∙ ap (λ x. slice_get (signals_of (ports_told w side x)) i) (sym e)
    | inr d ↦
        ap (λ (b : Bool). slice_get (signals_of (ports_told w' side k)) (cond b (up at i) i)) (differ_test k key d)
        ∙ ap (λ (js : List Jack). slice_get (signals_of js) i) (X.other_ports side k (λ e. absurd (d e)))
  ]

  -- ---- wires that fit, in a canvas of which the box is the one of this number

  module _ (keys : List ℕ) (n : ℕ) (same : (i k : ℕ) → slice_get keys i ≡ Some k → (k == key) ≡ (i == n)) where
    abbrev between : Web → Option ℕ → Option ℕ → Wire → Bool
    between v a b u = fits_between (option_map (laid_at v.sockets.items) a) (option_map (laid_at v.sockets.items) b) u

    told_at : (v : Web) (i : ℕ) → slice_get (boxes_told v keys) i ≡ option_map (laid_at v.sockets.items) (slice_get keys i)
    told_at v i = slice_get-map (laid_at v.sockets.items) keys i

    fits_told : (v : Web) (u : Wire) → fits (boxes_told v keys) u ≡ between v (slice_get keys u.source) (slice_get keys u.sink) u
    fits_told v u =
        ap (λ (o : Option Sockets). fits_between o (slice_get (boxes_told v keys) u.sink) u) (told_at v u.source)
        ∙ ap (λ (o : Option Sockets). fits_between (option_map (laid_at v.sockets.items) (slice_get keys u.source)) o u) (told_at v u.sink)

    inlets_between : Raises w w' key Inlets at jack → (v : Wire) (a b : Option ℕ) → slice_get keys v.sink ≡ b → between w' a b (raised_wire Inlets n at v) ≡ between w a b v
    inlets_between X v None b f = refl
    inlets_between X v (Some x) None f = refl
    inlets_between X v (Some x) (Some y) f =
        ap (λ (t : Bool). joins (made_at w'.sockets.items y) (slice_get (signals_of (ports_told w' Outlets x)) v.outlet)
        (slice_get (signals_of (ports_told w' Inlets y)) (cond t (up at v.inlet) v.inlet))) (sym (same v.sink y f))
        ∙ ap (joins (made_at w'.sockets.items y) (slice_get (signals_of (ports_told w' Outlets x)) v.outlet)) (port_up Inlets X y v.inlet)
        ∙ ap (λ (js : List Jack). joins (made_at w'.sockets.items y) (slice_get (signals_of js) v.outlet) (slice_get (signals_of (ports_told w Inlets y)) v.inlet))
        (X.other_ports Outlets x (λ _ e. cc))
        ∙ ap (λ (m : Bool). joins m (slice_get (signals_of (ports_told w Outlets x)) v.outlet) (slice_get (signals_of (ports_told w Inlets y)) v.inlet)) (X.made y)

    outlets_between : Raises w w' key Outlets at jack → (v : Wire) (a b : Option ℕ) → slice_get keys v.source ≡ a → between w' a b (raised_wire Outlets n at v) ≡ between w a b v
    outlets_between X v None b e = refl
    outlets_between X v (Some x) None e = refl
    outlets_between X v (Some x) (Some y) e =
        ap (λ (t : Bool). joins (made_at w'.sockets.items y) (slice_get (signals_of (ports_told w' Outlets x)) (cond t (up at v.outlet) v.outlet))
        (slice_get (signals_of (ports_told w' Inlets y)) v.inlet)) (sym (same v.source x e))
        ∙ ap (λ (o : Option Bool). joins (made_at w'.sockets.items y) o (slice_get (signals_of (ports_told w' Inlets y)) v.inlet)) (port_up Outlets X x v.outlet)
        ∙ ap (λ (js : List Jack). joins (made_at w'.sockets.items y) (slice_get (signals_of (ports_told w Outlets x)) v.outlet) (slice_get (signals_of js) v.inlet))
        (X.other_ports Inlets y (λ _ e. cc))
        ∙ ap (λ (m : Bool). joins m (slice_get (signals_of (ports_told w Outlets x)) v.outlet) (slice_get (signals_of (ports_told w Inlets y)) v.inlet)) (X.made y)

    -- a wire fits where it fitted at its port before
    pub fits_lowered : (side : Side) → Raises w w' key side at jack → (v : Wire) → fits (boxes_told w' keys) (raised_wire side n at v) ≡ fits (boxes_told w keys) v
    fits_lowered Inlets X v =
        fits_told w' (raised_wire Inlets n at v) ∙ inlets_between X v (slice_get keys v.source) (slice_get keys v.sink) refl ∙ sym (fits_told w v)
    fits_lowered Outlets X v =
        fits_told w' (raised_wire Outlets n at v) ∙ outlets_between X v (slice_get keys v.source) (slice_get keys v.sink) refl ∙ sym (fits_told w v)

  -- ---- the line of a wire

  -- a wire to an inlet from this outlet of its box
  abbrev line_from : ℕ → ℕ → Hop → ℕ → Line
  line_from n i h x = record { source = h.node; outlet = x; sink = n; inlet = i }

  -- a wire of this key stands where its hop does
  feed_key : (v : Web) (n i p : ℕ) (h : Hop) → slice_get (feed_hops v n i) p ≡ Some h → slice_get (feed_keys v n i) p ≡ Some h.key
  feed_key v n i p h e =
      let x = mapped_from (hop_from v) (feed_keys v n i) p h e in
      x.1 ∙ ap (λ k. Some k) (sym (hop_key x.0 (slice_get v.spots.items (source_at v.book x.0))) ∙ ap (λ (y : Hop). y.key) x.2)

  fan_key : (v : Web) (n o p : ℕ) (h : Hop) → slice_get (fan_hops v n o) p ≡ Some h → slice_get (fan_keys v n o) p ≡ Some h.key
  fan_key v n o p h e =
      let x = mapped_from (hop_to v) (fan_keys v n o) p h e in
      x.1 ∙ ap (λ k. Some k) (sym (hop_key x.0 (slice_get v.spots.items (sink_at v.book x.0))) ∙ ap (λ (y : Hop). y.key) x.2)

  module _ (jacks : List Jack) (M : Meet w) (fed : FedOnce w') (boxes : (side : Side) (i : ℕ) → i < length (ports_told w side key) → IsSome (inner_in (jack_told w side key i))) where
    goes_down : (side : Side) → Raises w w' key side at jack → FollowsPorts w' w key side jacks → (i : ℕ) → i < length (ports_told w side key) → Goes (ports_told w' side key) jacks (up at i) i
    goes_down side X F i l =
        let j = some_of (inner_in (jack_told w side key i)) (boxes side i l) in (
          j.0,
          ap (λ (js : List Jack). inner_in (slice_get js (up at i))) X.ports ∙ ap inner_in (insert_up (ports_told w side key) at i jack X.within) ∙ j.1,
          ap (λ (js : List Jack). inner_in (slice_get js i)) (sym F.ports) ∙ j.1,
        )

    stands : (n i p : ℕ) (h : Hop) → slice_get (feed_hops w' n i) p ≡ Some h → StandsOn w' Inlets h.key (line_by h (hop_at h.key n i))
    stands n i p h e = (p, feed_key w' n i p h e)

    inlets_lines : Raises w w' key Inlets at jack → FollowsPorts w' w key Inlets jacks → (n i p : ℕ) (h : Hop) → slice_get (feed_hops w n i) p ≡ Some h
        → line_told w h.key ≡ Some (line_by h (hop_at h.key n i))
    inlets_lines X F n i p h e = elim (cases_eq n key) [
      | inr d ↦
          let there : slice_get (feed_hops w' n i) p ≡ Some h = ap (λ (hs : List Hop). slice_get hs p) (X.others n i d) ∙ e in
          F.other_lines h.key (line_by h (hop_at h.key n i)) Inlets (fed.lines n i p h there) (stands n i p h there) d
      | inl same ↦
          let here : slice_get (feed_hops w key i) p ≡ Some h = ap (λ x. slice_get (feed_hops w x i) p) (sym same) ∙ e in
          let there : slice_get (feed_hops w' key (up at i)) p ≡ Some h = ap (λ (hs : List Hop). slice_get hs p) (X.own i) ∙ here in
          let low : i < length (ports_told w Inlets key) = keys_within w Inlets key i p h.key (feed_key w key i p h here) in
          F.lines h.key i (line_by h (hop_at h.key key (up at i))) Inlets (fed.lines key (up at i) p h there) (stands key (up at i) p h there) refl (goes_down Inlets X F i low)
          ∙ ap (λ x. Some (line_by h (hop_at h.key x i))) (sym same)
    ]

    outlets_lines : Raises w w' key Outlets at jack → FollowsPorts w' w key Outlets jacks → (n i p : ℕ) (h : Hop) → slice_get (feed_hops w n i) p ≡ Some h
        → line_told w h.key ≡ Some (line_by h (hop_at h.key n i))
    outlets_lines X F n i p h e =
        let there : slice_get (feed_hops w' n i) p ≡ Some (raised key at h) =
        ap (λ (hs : List Hop). slice_get hs p) (X.across n i) ∙ slice_get-map (raised key at) (feed_hops w n i) p ∙ ap (option_map (raised key at)) e in
        by n i p h e there (cases_eq h.node key)
      where
        by : (n i p : ℕ) (h : Hop) → slice_get (feed_hops w n i) p ≡ Some h → slice_get (feed_hops w' n i) p ≡ Some (raised key at h) → (h.node ≡ key) ⊎ (h.node ≢ key)
            → line_told w h.key ≡ Some (line_by h (hop_at h.key n i))
        by n i p h e there (inl same) =
            let m = M.fanned n i p h e in
            let low : h.port < length (ports_told w Outlets key) =
            subst (λ x. h.port < length (ports_told w Outlets x)) same (keys_within w Outlets h.node h.port m.0 h.key (fan_key w h.node h.port m.0 (hop_at h.key n i) m.1)) in
            let turned : cond (h.node == key) (up at h.port) h.port ≡ up at h.port = ap (λ (b : Bool). cond b (up at h.port) h.port) (eq-eqb h.node key same) in
            F.lines h.key h.port (line_from n i h (cond (h.node == key) (up at h.port) h.port)) Inlets (fed.lines n i p (raised key at h) there) (stands n i p (raised key at h) there) same
            (subst (λ x. Goes (ports_told w' Outlets key) jacks x h.port) (sym turned) (goes_down Outlets X F h.port low))
        by n i p h e there (inr d) =
            F.other_lines h.key (line_from n i h (cond (h.node == key) (up at h.port) h.port)) Inlets (fed.lines n i p (raised key at h) there) (stands n i p (raised key at h) there) d
            ∙ ap (λ (b : Bool). Some (line_from n i h (cond b (up at h.port) h.port))) (differ_test h.node key d)

    -- ---- wires that stand once

    abbrev AreOnce : List Hop → Type 0
    AreOnce hops = AreApart (keys_of hops)

    hops_once : (n i : ℕ) → AreOnce (feed_hops w' n i)
    hops_once n i = subst AreApart (sym (feed_keys_of w' (feed_keys w' n i))) (fed.once n i)

    keys_raised : (hops : List Hop) → keys_of (map (raised key at) hops) ≡ keys_of hops
    keys_raised [] = refl
    keys_raised (h ∷ hops) = ap (λ (l : List ℕ). h.key ∷ l) (keys_raised hops)

    once_then : (side : Side) → Raises w w' key side at jack → (n i : ℕ) → AreOnce (feed_hops w n i)
    once_then Outlets X n i = subst AreApart (ap keys_of (X.across n i) ∙ keys_raised (feed_hops w n i)) (hops_once n i)
    once_then Inlets X n i = elim (cases_eq n key) [
      | inr d ↦ subst AreOnce (X.others n i d) (hops_once n i)
      | inl same ↦ subst AreOnce (X.own i ∙ sym (ap (λ x. feed_hops w x i) same)) (hops_once key (up at i))
    ]

    lines_then : (side : Side) → Raises w w' key side at jack → FollowsPorts w' w key side jacks → (n i p : ℕ) (h : Hop) → slice_get (feed_hops w n i) p ≡ Some h
        → line_told w h.key ≡ Some (line_by h (hop_at h.key n i))
    lines_then Inlets X F = inlets_lines X F
    lines_then Outlets X F = outlets_lines X F

    -- each wire stands once
    pub fed_lowered : (side : Side) → Raises w w' key side at jack → FollowsPorts w' w key side jacks → FedOnce w
    fed_lowered side X F = record {
      lines = lines_then side X F;
      once = λ n i. subst AreApart (feed_keys_of w (feed_keys w n i)) (once_then side X n i);
    }
