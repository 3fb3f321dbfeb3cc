-- Where a box has a port more on a side, the wires at it fit where they are then, and each stands once.
use Rattle.std.proofs.Common.{◌≡◌, ◌≢◌, ◌≤◌, ◌==◌, ℕ, Bool, true, false, cond, List, [], ◌∷◌, map, length, slice_get, Option, Some, None, inl, inr, eq-eqb, true≢false, refl, sym, ap, ◌∙◌, subst}
use Rattle.std.specs.Prelude.{option_map}
use Rattle.std.specs.List.{insert}
use Rattle.std.proofs.lemmas.Bool.{cases_eq}
use Rattle.std.proofs.lemmas.Option.{none-some, slice_get-map}
use Rattle.pd_canvas.specs.declared.wires.Wire.{Wire}
use Rattle.pd_tree.specs.Ports.{Sockets, joins, fits, fits_between}
use Rattle.pd_grove.specs.declared.grove.Grove.{Grove}
use Rattle.pd_grove.specs.declared.ports.Side.{Side}
use Rattle.pd_grove.specs.declared.ports.Side.TheVariants.{Inlets, Outlets}
use Rattle.pd_web.specs.declared.jacks.Jack.{Jack}
use Rattle.pd_web.specs.declared.lines.Line.{Line}
use Rattle.pd_web.specs.declared.web.Hop.{Hop}
use Rattle.pd_web.specs.declared.web.Web.{Web}
use Rattle.pd_web.specs.Changes.{hop_at, line_by, line_told, Meet}
use Rattle.pd_web.specs.Hops.{boxes_told, ports_told, hop_from, fan_hops, feed_hops, feed_keys}
use Rattle.pd_web.specs.Jacks.{jacks_at}
use Rattle.pd_web.specs.Lines.{laid_at, signals_of}
use Rattle.pd_web.specs.Sockets.{made_at}
use Rattle.pd_web.specs.Wiring.{source_at}
use Rattle.pd_patch.specs.Numbers.{AreApart}
use Rattle.pd_ports.specs.Moves.{FollowsPorts, box_of, port_of, with_port}
use Rattle.pd_alike_law.specs.Feeds.{FedOnce}
use Rattle.pd_alike_law.proofs.FeedLemmas.{keys_of, feed_keys_of}
use Rattle.pd_following.specs.Raising.{up, raised, Raises, IsOneMore}
use Rattle.pd_following.proofs.FeedLemmas.{mapped_from}
use Rattle.pd_following.proofs.ListLemmas.{up_or, insert_up}
use Rattle.pd_following.proofs.RaiseLemmas.{differ_test, hop_key, moved_told}
use Rattle.pd_following_law.specs.Raised.{raised_wire}

-- ---- ports

signals_up : (jacks : List Jack) (at i : ℕ) (x : Jack) → at ≤ length jacks → slice_get (signals_of (insert jacks at x)) (up at i) ≡ slice_get (signals_of jacks) i
signals_up jacks at i x l =
    slice_get-map (λ (j : Jack). j.is_signal) (insert jacks at x) (up at i) ∙ ap (option_map (λ (j : Jack). j.is_signal)) (insert_up jacks at i x l)
    ∙ sym (slice_get-map (λ (j : Jack). j.is_signal) jacks i)

module _ (w w' : Web) (key at : ℕ) (jack : Jack) where
  -- a port of that side carries at its number then what it carried
  port_up : (side : Side) → Raises w w' key side at jack → (k i : ℕ)
      → slice_get (signals_of (ports_told w' side k)) (cond (k == key) (up at i) i) ≡ slice_get (signals_of (ports_told w side k)) i
  port_up side X k i = elim (cases_eq k key) [
    | inl e ↦
        ap (λ (b : Bool). slice_get (signals_of (ports_told w' side k)) (cond b (up at i) i)) (eq-eqb k key e)
        ∙ ap (λ x. slice_get (signals_of (ports_told w' side x)) (up at i)) e ∙ ap (λ (js : List Jack). slice_get (signals_of js) (up at i)) X.ports
        ∙ signals_up (ports_told w side key) at i jack X.within ∙ ap (λ x. slice_get (signals_of (ports_told w side x)) i) (sym e)
    | inr d ↦
        ap (λ (b : Bool). slice_get (signals_of (ports_told w' side k)) (cond b (up at i) i)) (differ_test k key d)
        ∙ ap (λ (js : List Jack). slice_get (signals_of js) i) (X.other_ports side k (λ e. absurd (d e)))
  ]

  -- ---- wires that fit, in a canvas of which the box is the one of this number

  module _ (keys : List ℕ) (n : ℕ) (same : (i k : ℕ) → slice_get keys i ≡ Some k → (k == key) ≡ (i == n)) where
    told_at : (v : Web) (i : ℕ) (o : Option ℕ) → slice_get keys i ≡ o → slice_get (boxes_told v keys) i ≡ option_map (laid_at v.sockets.items) o
    told_at v i o e = slice_get-map (laid_at v.sockets.items) keys i ∙ ap (option_map (laid_at v.sockets.items)) e

    abbrev FitsBetween : Web → Option ℕ → Option ℕ → Wire → Type 0
    FitsBetween v a b u = fits_between (option_map (laid_at v.sockets.items) a) (option_map (laid_at v.sockets.items) b) u ≡ true

    fits_told : (v : Web) (u : Wire) (a b : Option ℕ) → slice_get keys u.source ≡ a → slice_get keys u.sink ≡ b → fits (boxes_told v keys) u
        ≡ fits_between (option_map (laid_at v.sockets.items) a) (option_map (laid_at v.sockets.items) b) u
    fits_told v u a b e f =
        ap (λ (o : Option Sockets). fits_between o (slice_get (boxes_told v keys) u.sink) u) (told_at v u.source a e)
        ∙ ap (λ (o : Option Sockets). fits_between (option_map (laid_at v.sockets.items) a) o u) (told_at v u.sink b f)

    inlets_between : Raises w w' key Inlets at jack → (v : Wire) (a b : Option ℕ) → slice_get keys v.sink ≡ b → FitsBetween w a b v → FitsBetween w' a b (raised_wire Inlets n at v)
    inlets_between X v None b f h = absurd (true≢false (sym h))
    inlets_between X v (Some x) None f h = absurd (true≢false (sym h))
    inlets_between X v (Some x) (Some y) f h =
        ap (λ (t : Bool). joins (made_at w'.sockets.items y) (slice_get (signals_of (ports_told w' Outlets x)) v.outlet)
        (slice_get (signals_of (ports_told w' Inlets y)) (cond t (up at v.inlet) v.inlet))) (sym (same v.sink y f))
        ∙ ap (joins (made_at w'.sockets.items y) (slice_get (signals_of (ports_told w' Outlets x)) v.outlet)) (port_up Inlets X y v.inlet)
        ∙ ap (λ (js : List Jack). joins (made_at w'.sockets.items y) (slice_get (signals_of js) v.outlet) (slice_get (signals_of (ports_told w Inlets y)) v.inlet))
        (X.other_ports Outlets x (λ _ e. cc))
        ∙ ap (λ (m : Bool). joins m (slice_get (signals_of (ports_told w Outlets x)) v.outlet) (slice_get (signals_of (ports_told w Inlets y)) v.inlet)) (X.made y)
        ∙ h

    outlets_between : Raises w w' key Outlets at jack → (v : Wire) (a b : Option ℕ) → slice_get keys v.source ≡ a → FitsBetween w a b v → FitsBetween w' a b (raised_wire Outlets n at v)
    outlets_between X v None b e h = absurd (true≢false (sym h))
    outlets_between X v (Some x) None e h = absurd (true≢false (sym h))
    outlets_between X v (Some x) (Some y) e h =
        ap (λ (t : Bool). joins (made_at w'.sockets.items y) (slice_get (signals_of (ports_told w' Outlets x)) (cond t (up at v.outlet) v.outlet))
        (slice_get (signals_of (ports_told w' Inlets y)) v.inlet)) (sym (same v.source x e))
        ∙ ap (λ (o : Option Bool). joins (made_at w'.sockets.items y) o (slice_get (signals_of (ports_told w' Inlets y)) v.inlet)) (port_up Outlets X x v.outlet)
        ∙ ap (λ (js : List Jack). joins (made_at w'.sockets.items y) (slice_get (signals_of (ports_told w Outlets x)) v.outlet) (slice_get (signals_of js) v.inlet))
        (X.other_ports Inlets y (λ _ e. cc))
        ∙ ap (λ (m : Bool). joins m (slice_get (signals_of (ports_told w Outlets x)) v.outlet) (slice_get (signals_of (ports_told w Inlets y)) v.inlet)) (X.made y)
        ∙ h

    -- a wire that fits does so where it is then
    pub fits_raised : (side : Side) → Raises w w' key side at jack → (v : Wire) → fits (boxes_told w keys) v ≡ true → fits (boxes_told w' keys) (raised_wire side n at v) ≡ true
    fits_raised Inlets X v h =
        let a = slice_get keys v.source in
        let b = slice_get keys v.sink in
        fits_told w' (raised_wire Inlets n at v) a b refl refl ∙ inlets_between X v a b refl (sym (fits_told w v a b refl refl) ∙ h)
    fits_raised Outlets X v h =
        let a = slice_get keys v.source in
        let b = slice_get keys v.sink in
        fits_told w' (raised_wire Outlets n at v) a b refl refl ∙ outlets_between X v a b refl (sym (fits_told w v a b refl refl) ∙ h)

  -- ---- the line of a wire

  module _ (g : Grove) (M : Meet w) (fed : FedOnce w) where
    fans_lines : (node outlet i : ℕ) (h : Hop) → slice_get (fan_hops w node outlet) i ≡ Some h → line_told w h.key ≡ Some (line_by (hop_at h.key node outlet) h)
    fans_lines node outlet i h e = let f = M.fed node outlet i h e in fed.lines h.node h.port f.0 (hop_at h.key node outlet) f.1

    line_then : (side : Side) → IsOneMore w g key side at jack → FollowsPorts w w' key side (jacks_at side g key) → (n i p : ℕ) (h : Hop) → slice_get (feed_hops w n i) p ≡ Some h
        → line_told w' h.key ≡ Some (cond (box_of side (line_by h (hop_at h.key n i)) == key)
        (with_port side (up at (port_of side (line_by h (hop_at h.key n i)))) (line_by h (hop_at h.key n i))) (line_by h (hop_at h.key n i)))
    line_then side O F n i p h e =
        let x = mapped_from (hop_from w) (feed_keys w n i) p h e in
        let under : slice_get (feed_keys w n i) p ≡ Some h.key = x.1 ∙ ap (λ k. Some k) (sym (hop_key x.0 (slice_get w.spots.items (source_at w.book x.0))) ∙ ap (λ (y : Hop). y.key) x.2) in
        moved_told w w' key side g at jack O F M fans_lines fed.lines Inlets n i p h.key (line_by h (hop_at h.key n i)) under (fed.lines n i p h e) refl refl

    inlets_lines : Raises w w' key Inlets at jack → IsOneMore w g key Inlets at jack → FollowsPorts w w' key Inlets (jacks_at Inlets g key)
        → (n i p : ℕ) (h : Hop) → slice_get (feed_hops w' n i) p ≡ Some h → line_told w' h.key ≡ Some (line_by h (hop_at h.key n i))
    inlets_lines X O F n i p h e = elim (cases_eq n key) [
      | inr d ↦
          let l = line_by h (hop_at h.key n i) in
          line_then Inlets O F n i p h (ap (λ (hs : List Hop). slice_get hs p) (sym (X.others n i d)) ∙ e)
          ∙ ap (λ (b : Bool). Some (cond b (with_port Inlets (up at i) l) l)) (differ_test n key d)
      | inl same ↦ elim (up_or at i) [
        | inl new ↦
            absurd (none-some h (ap (λ (hs : List Hop). slice_get hs p) (sym (ap (λ x. feed_hops w' x i) same ∙ ap (feed_hops w' key) new ∙ X.came)) ∙ e))
        | inr j ↦
            let l = line_by h (hop_at h.key key j.0) in
            let there : slice_get (feed_hops w key j.0) p ≡ Some h =
            ap (λ (hs : List Hop). slice_get hs p) (sym (ap (λ x. feed_hops w' x i) same ∙ ap (feed_hops w' key) j.1 ∙ X.own j.0)) ∙ e in
            line_then Inlets O F key j.0 p h there ∙ ap (λ (b : Bool). Some (cond b (with_port Inlets (up at j.0) l) l)) (eq-eqb key key refl)
            ∙ ap (λ x. Some (line_by h (hop_at h.key key x))) (sym j.1) ∙ ap (λ x. Some (line_by h (hop_at h.key x i))) (sym same)
      ]
    ]

    outlets_lines : Raises w w' key Outlets at jack → IsOneMore w g key Outlets at jack → FollowsPorts w w' key Outlets (jacks_at Outlets g key)
        → (n i p : ℕ) (h : Hop) → slice_get (feed_hops w' n i) p ≡ Some h → line_told w' h.key ≡ Some (line_by h (hop_at h.key n i))
    outlets_lines X O F n i p h e =
        let x = mapped_from (raised key at) (feed_hops w n i) p h (ap (λ (hs : List Hop). slice_get hs p) (sym (X.across n i)) ∙ e) in
        subst (λ (y : Hop). line_told w' y.key ≡ Some (line_by y (hop_at y.key n i))) x.2 (line_then Outlets O F n i p x.0 x.1 ∙ ap (λ (l : Line). Some l) (raised_line x.0 (x.0.node == key)))
      where
        raised_line : (h : Hop) (b : Bool) → cond b (with_port Outlets (up at h.port) (line_by h (hop_at h.key n i))) (line_by h (hop_at h.key n i))
            ≡ record { source = h.node; outlet = cond b (up at h.port) h.port; sink = n; inlet = i }
        raised_line h true = refl
        raised_line h false = refl

    -- ---- wires that stand once

    abbrev AreOnce : List Hop → Type 0
    AreOnce hops = AreApart (keys_of hops)

    hops_once : (n i : ℕ) → AreOnce (feed_hops w n i)
    hops_once n i = subst AreApart (sym (feed_keys_of w (feed_keys w n i))) (fed.once n i)

    none_once : (hops : List Hop) → hops ≡ [] → AreOnce hops
    none_once hops e i j k a b = absurd (none-some k (sym (ap (λ (hs : List Hop). slice_get (keys_of hs) i) e) ∙ a))

    keys_raised : (hops : List Hop) → keys_of (map (raised key at) hops) ≡ keys_of hops
    keys_raised [] = refl
    keys_raised (h ∷ hops) = ap (λ (l : List ℕ). h.key ∷ l) (keys_raised hops)

    once_then : (side : Side) → Raises w w' key side at jack → (n i : ℕ) → AreOnce (feed_hops w' n i)
    once_then Outlets X n i = subst AreApart (sym (ap keys_of (X.across n i) ∙ keys_raised (feed_hops w n i))) (hops_once n i)
    once_then Inlets X n i = elim (cases_eq n key) [
      | inr d ↦ subst AreOnce (sym (X.others n i d)) (hops_once n i)
      | inl same ↦ elim (up_or at i) [
        | inl new ↦ none_once (feed_hops w' n i) (ap (λ x. feed_hops w' x i) same ∙ ap (feed_hops w' key) new ∙ X.came)
        | inr j ↦ subst AreOnce (sym (ap (λ x. feed_hops w' x i) same ∙ ap (feed_hops w' key) j.1 ∙ X.own j.0)) (hops_once key j.0)
      ]
    ]

    lines_then : (side : Side) → Raises w w' key side at jack → IsOneMore w g key side at jack → FollowsPorts w w' key side (jacks_at side g key)
        → (n i p : ℕ) (h : Hop) → slice_get (feed_hops w' n i) p ≡ Some h → line_told w' h.key ≡ Some (line_by h (hop_at h.key n i))
    lines_then Inlets X O F = inlets_lines X O F
    lines_then Outlets X O F = outlets_lines X O F

    -- each wire stands once
    pub fed_raised : (side : Side) → Raises w w' key side at jack → IsOneMore w g key side at jack → FollowsPorts w w' key side (jacks_at side g key) → FedOnce w'
    fed_raised side X O F = record {
      lines = lines_then side X O F;
      once = λ n i. subst AreApart (feed_keys_of w' (feed_keys w' n i)) (once_then side X n i);
    }
