-- The wires of a box that gets other ports, where all of them stay.
use Rattle.std.proofs.Common.{◌≡◌, ◌≢◌, ℕ, zero, suc, ◌+◌, ◌-◌, ◌<◌, ◌≤◌, ◌==◌, Bool, true, false, ◌&&◌, not, cond, List, [], ◌∷◌, ◌++◌, map, length, Option, Some, refl, sym, ap, ◌∙◌, subst, inl, inr, eq-eqb, ne_eqb, append-nil, arith}
use Rattle.std.specs.Prelude.{slice_get, if◌then◌else◌, ◌⊎◌}
use Rattle.std.specs.List.{filter}
use mathlib.Core.Logic.{⊎_elim}
use Rattle.std.proofs.lemmas.Bool.{cases_eq, false≢true}
use Rattle.std.proofs.lemmas.Option.{none-some, slice_get_past}
use Rattle.pd_object.specs.declared.kinds.Kind.{Kind}
use Rattle.pd_order.specs.Graph.{tally}
use Rattle.pd_chain.specs.declared.graph.SignalWire.{SignalWire}
use Rattle.pd_links.specs.declared.links.Links.{Links}
use Rattle.pd_links.specs.Linked.{feeders_of, followers_of}
use Rattle.pd_tree.specs.Ports.{is_made}
use Rattle.pd_grove.specs.declared.ports.Side.{Side}
use Rattle.pd_grove.specs.declared.ports.Side.TheVariants.{Inlets, Outlets}
use Rattle.pd_web.specs.declared.jacks.Jack.{Jack}
use Rattle.pd_web.specs.declared.lines.Line.{Line}
use Rattle.pd_web.specs.declared.web.Hop.{Hop}
use Rattle.pd_web.specs.declared.web.Web.{Web}
use Rattle.pd_web.specs.Changes.{hop_at, IsSame, Meet}
use Rattle.pd_web.specs.Hops.{ports_told, jack_told, signal_in, fan_hops, feed_hops, hop_to, hop_from, fan_keys, feed_keys}
use Rattle.pd_web.specs.Jacks.{kind_jacks}
use Rattle.pd_ports.specs.Boxes.{HasPorts as GetsPorts}
use Rattle.pd_ports.specs.Moves.{keys_at as keys_under}
use Rattle.pd_patch.specs.Linked.{HasLinks, signal_sinks}
use Rattle.pd_patch.specs.Orders.{is_heard, wire_to, wires_by, wires_from, wires_below, box_wires, signal_wires_among}
use Rattle.pd_patch.proofs.ListingLemmas.{counted_at}
use Rattle.pd_wiring.specs.Changes.{is_signal_line}
use Rattle.pd_wiring.proofs.HeardLemmas.{heard_from, sinks_of}
use Rattle.pd_placing.specs.Placing.{IsLoose}
use Rattle.pd_taking.specs.Loosening.{hops_at, line_at}
use Rattle.pd_refitting.specs.Refits.{jack_with, StaysWire, TakesWires}

-- Webs that tell the same of wires, and of ports.

pub meet_by : (w w' : Web) → ((u o : ℕ) → fan_hops w' u o ≡ fan_hops w u o) → ((u o : ℕ) → feed_hops w' u o ≡ feed_hops w u o) → Meet w → Meet w'
meet_by w w' fans feeds M = record {
  fed = λ u o i h at.
      let m = M.fed u o i h (ap (λ (hops : List Hop). slice_get hops i) (sym (fans u o)) ∙ at) in
      (m.0, ap (λ (hops : List Hop). slice_get hops m.0) (feeds h.node h.port) ∙ m.1);
  fanned = λ u o i h at.
      let m = M.fanned u o i h (ap (λ (hops : List Hop). slice_get hops i) (sym (feeds u o)) ∙ at) in
      (m.0, ap (λ (hops : List Hop). slice_get hops m.0) (fans h.node h.port) ∙ m.1);
}

module _ (w w' : Web) (key : ℕ) (k : Kind) (S : IsSame w w') where
  same_line : (l : Line) → is_signal_line w' l ≡ is_signal_line w l
  same_line l =
      ap (λ (js : List Jack). signal_in (slice_get js l.outlet) && signal_in (jack_told w' Inlets l.sink l.inlet)) (S.kept.ports Outlets l.source)
      ∙ ap (λ (js : List Jack). signal_in (jack_told w Outlets l.source l.outlet) && signal_in (slice_get js l.inlet)) (S.kept.ports Inlets l.sink)

  same_jack : (side : Side) (u i : ℕ) → jack_with w' key k side u i ≡ jack_with w key k side u i
  same_jack side u i = ap (λ (js : List Jack). cond (u == key) (slice_get (kind_jacks side k) i) (slice_get js i)) (S.kept.ports side u)

  stays_same : (l : Line) → StaysWire w key k l → StaysWire w' key k l
  stays_same l T = record {
    from = T.from;
    to = T.to;
    source = same_jack Outlets l.source l.outlet ∙ T.source;
    sink = same_jack Inlets l.sink l.inlet ∙ T.sink;
    fits = ap (λ b. T.from.is_signal && (not T.to.is_signal && cond (l.sink == key) (is_made k) b)) (S.kept.made l.sink) ∙ T.fits;
    same = T.same ∙ sym (same_line l);
  }

  same_hops : (side : Side) (i : ℕ) → hops_at w' side key i ≡ hops_at w side key i
  same_hops Inlets i = S.feeds key i
  same_hops Outlets i = S.fans key i

  pub takes_same : TakesWires w key k → TakesWires w' key k
  takes_same T side i j h at = stays_same (line_at side key i h) (T side i j h (ap (λ (hops : List Hop). slice_get hops j) (sym (same_hops side i)) ∙ at))

-- Lists.

filter_same : (p q : Hop → Bool) (hops : List Hop) → ((i : ℕ) (h : Hop) → slice_get hops i ≡ Some h → p h ≡ q h) → filter p hops ≡ filter q hops
filter_same p q [] e = refl
filter_same p q (h ∷ hops) e =
    ap (λ b. cond b (h ∷ filter p hops) (filter p hops)) (e 0 h refl) ∙ ap (λ hs. cond (q h) (h ∷ hs) hs) (filter_same p q hops (λ i. e (suc i)))

none_kept : (hops : List Hop) → filter (λ h. false) hops ≡ []
none_kept [] = refl
none_kept (h ∷ hops) = none_kept hops

not_counted : (xs : List ℕ) → ((x : ℕ) → tally x xs ≡ 0) → xs ≡ []
not_counted [] h = refl
not_counted (x ∷ xs) h = let there = counted_at x (x ∷ xs) 0 refl in let none = h x in absurd (omega (arith, there, none))

none_or_more : (n : ℕ) → (0 < n → ⊥) → n ≡ 0
none_or_more zero h = refl
none_or_more (suc n) h = absurd (h (omega arith))

-- The signal wires of a box.

-- whether a wire from an outlet is a signal wire
abbrev pub carries : Web → ℕ → ℕ → Hop → Bool
carries w u o h = signal_in (jack_told w Outlets u o) && is_heard w h

carried : (w : Web) (u : ℕ) (b : Bool) (hops : List Hop) → (if b then wires_by w u hops else []) ≡ map (wire_to u) (filter (λ h. b && is_heard w h) hops)
carried w u true hops = refl
carried w u false hops = ap (map (wire_to u)) (sym (none_kept hops))

wires_past : (w : Web) (u o : ℕ) → length (ports_told w Outlets u) ≤ o → wires_from w u o ≡ []
wires_past w u o l = ap (λ (j : Option Jack). if signal_in j then wires_by w u (fan_hops w u o) else []) (slice_get_past (ports_told w Outlets u) o l)

wires_far : (w : Web) (u n m : ℕ) → length (ports_told w Outlets u) ≤ n → wires_below w u (m + n) ≡ wires_below w u n
wires_far w u n zero l = let e : 0 + n ≡ n = omega arith in ap (wires_below w u) e
wires_far w u n (suc m) l =
    let e : suc m + n ≡ suc (m + n) = omega arith in
    ap (wires_below w u) e ∙ ap (λ (vs : List SignalWire). wires_below w u (m + n) ++ vs) (wires_past w u (m + n) (omega (arith, l))) ∙ append-nil (wires_below w u (m + n)) ∙ wires_far w u n m l

-- beyond its outlets a box has none
wires_all : (w : Web) (u n : ℕ) → length (ports_told w Outlets u) ≤ n → wires_below w u n ≡ box_wires w u
wires_all w u n l =
    let len = length (ports_told w Outlets u) in
    let e : n ≡ (n - len) + len = omega (arith, l) in
    ap (wires_below w u) e ∙ wires_far w u len (n - len) (omega arith)

-- boxes with the signal wires that they had
pub among_same : (w w' : Web) → ((u : ℕ) → box_wires w' u ≡ box_wires w u) → (ks : List ℕ) → signal_wires_among w' ks ≡ signal_wires_among w ks
among_same w w' same [] = refl
among_same w w' same (k ∷ ks) =
    ap (λ (vs : List SignalWire). vs ++ signal_wires_among w' ks) (same k) ∙ ap (λ (vs : List SignalWire). box_wires w k ++ vs) (among_same w w' same ks)

-- no signal wire comes to a box or leads from it
pub loose_by : (w : Web) (l : Links) (key : ℕ) → HasLinks w l
    → ((u o i : ℕ) (h : Hop) → slice_get (fan_hops w u o) i ≡ Some h → (u ≡ key) ⊎ (h.node ≡ key) → carries w u o h ≡ false) → IsLoose l key
loose_by w l key H none = record {
  unfed = not_counted (feeders_of l key) (λ u. H.feeders u key ∙ never u key (λ o i h at to. none u o i h at (inr to)));
  unfollowed = not_counted (followers_of l key) (λ j. H.followers key j ∙ never key j (λ o i h at to. none key o i h at (inl refl)));
} where
  never : (u j : ℕ) → ((o i : ℕ) (h : Hop) → slice_get (fan_hops w u o) i ≡ Some h → h.node ≡ j → carries w u o h ≡ false) → tally j (signal_sinks w u) ≡ 0
  never u j silent = none_or_more (tally j (signal_sinks w u)) (λ m.
      let f = heard_from w u j m in
      let x = f.found in
      false≢true (sym (silent f.outlet x.place x.hop x.stands x.to) ∙ ap (λ b. b && is_heard w x.hop) f.sounds ∙ x.heard))

module _ (w : Web) (key : ℕ) (k : Kind) (M : Meet w) (T : TakesWires w key k) where
  -- the wires that leave the box fit, and so do those that lead to it
  fan_fits : (o i : ℕ) (h : Hop) → slice_get (fan_hops w key o) i ≡ Some h → StaysWire w key k (line_at Outlets key o h)
  fan_fits o i h at = T Outlets o i h at

  feed_fits : (u o i : ℕ) (h : Hop) → slice_get (fan_hops w u o) i ≡ Some h → h.node ≡ key → StaysWire w key k (line_at Inlets key h.port (hop_at h.key u o))
  feed_fits u o i h at e =
      let m = M.fed u o i h at in
      T Inlets h.port m.0 (hop_at h.key u o) (ap (λ x. slice_get (feed_hops w x h.port) m.0) (sym e) ∙ m.1)

  -- where the new box has no port that carries signals, the old one has no signal wire
  pub loose_new : (l : Links) → HasLinks w l → ((side : Side) (i : ℕ) → signal_in (slice_get (kind_jacks side k) i) ≡ false) → IsLoose l key
  loose_new l H none = loose_by w l key H (λ u o i h at. ⊎_elim
      (λ (e : u ≡ key). subst (λ x. carries w x o h ≡ false) (sym e) (from o h (fan_fits o i h (ap (λ x. slice_get (fan_hops w x o) i) (sym e) ∙ at))))
      (λ (e : h.node ≡ key). subst (λ x. (signal_in (jack_told w Outlets u o) && signal_in (jack_told w Inlets x h.port)) ≡ false) (sym e) (to u o h (feed_fits u o i h at e))))
    where
      silent : (side : Side) (i : ℕ) (j : Jack) → jack_with w key k side key i ≡ Some j → j.is_signal ≡ false
      silent side i j e =
          ap signal_in (sym (sym (ap (λ b. cond b (slice_get (kind_jacks side k) i) (jack_told w side key i)) (eq-eqb key key refl)) ∙ e)) ∙ none side i

      and_false : (a b : Bool) → b ≡ false → (a && b) ≡ false
      and_false true b e = e
      and_false false b e = refl

      from : (o : ℕ) (h : Hop) → StaysWire w key k (line_at Outlets key o h) → carries w key o h ≡ false
      from o h S = sym S.same ∙ ap (λ b. b && S.to.is_signal) (silent Outlets o S.from S.source)

      to : (u o : ℕ) (h : Hop) → StaysWire w key k (line_at Inlets key h.port (hop_at h.key u o)) → is_signal_line w (line_at Inlets key h.port (hop_at h.key u o)) ≡ false
      to u o h S = sym S.same ∙ and_false S.from.is_signal S.to.is_signal (silent Inlets h.port S.to S.sink)

  -- no wire stands at a port of the box beyond those of the new one
  hops_beyond : (side : Side) (i : ℕ) → length (kind_jacks side k) ≤ i → hops_at w side key i ≡ []
  hops_beyond side i l = none (hops_at w side key i) refl
    where
      here : (side : Side) (j : Jack) → jack_with w key k side key i ≡ Some j → length (kind_jacks side k) ≤ i → ⊥
      here side j e l = none-some j (sym (slice_get_past (kind_jacks side k) i l) ∙ sym (ap (λ b. cond b (slice_get (kind_jacks side k) i) (jack_told w side key i)) (eq-eqb key key refl)) ∙ e)

      never : (side : Side) (h : Hop) → StaysWire w key k (line_at side key i h) → length (kind_jacks side k) ≤ i → ⊥
      never Inlets h S l = here Inlets S.to S.sink l
      never Outlets h S l = here Outlets S.from S.source l

      none : (hops : List Hop) → hops_at w side key i ≡ hops → hops_at w side key i ≡ []
      none [] e = e
      none (h ∷ hops) e = absurd (never side h (T side i 0 h (ap (λ hs. slice_get hs 0) e)) l)

  unmapped : (f : ℕ → Hop) (ks : List ℕ) → map f ks ≡ [] → ks ≡ []
  unmapped f [] e = refl
  unmapped f (x ∷ ks) e = let m = ap length e in absurd (omega (arith, m))

  pub keys_beyond : (side : Side) (i : ℕ) → length (kind_jacks side k) ≤ i → keys_under w side key i ≡ []
  keys_beyond Inlets i l = unmapped (hop_from w) (feed_keys w key i) (hops_beyond Inlets i l)
  keys_beyond Outlets i l = unmapped (hop_to w) (fan_keys w key i) (hops_beyond Outlets i l)

  -- The box gets the ports of its kind.

  module _ (w' : Web) (G : GetsPorts w w' key (λ side. kind_jacks side k) (is_made k)) where
    jack_now : (side : Side) (u i : ℕ) → jack_told w' side u i ≡ jack_with w key k side u i
    jack_now side u i = ⊎_elim
        (λ (e : u ≡ key).
        ap (λ x. jack_told w' side x i) e ∙ ap (λ (js : List Jack). slice_get js i) (G.ports side)
        ∙ sym (ap (λ b. cond b (slice_get (kind_jacks side k) i) (jack_told w side u i)) (eq-eqb u key e)))
        (λ (d : u ≢ key).
        ap (λ (js : List Jack). slice_get js i) (G.other_ports side u d) ∙ sym (ap (λ b. cond b (slice_get (kind_jacks side k) i) (jack_told w side u i)) (ne_eqb u key d)))
        (cases_eq u key)

    line_now : (x : Line) → StaysWire w key k x → is_signal_line w' x ≡ is_signal_line w x
    line_now x S =
        ap (λ (j : Option Jack). signal_in j && signal_in (jack_told w' Inlets x.sink x.inlet)) (jack_now Outlets x.source x.outlet ∙ S.source)
        ∙ ap (λ (j : Option Jack). S.from.is_signal && signal_in j) (jack_now Inlets x.sink x.inlet ∙ S.sink) ∙ S.same

    -- each wire is a signal wire just where it was one
    carries_now : (u o i : ℕ) (h : Hop) → slice_get (fan_hops w u o) i ≡ Some h → carries w' u o h ≡ carries w u o h
    carries_now u o i h at = ⊎_elim
        (λ (e : u ≡ key). subst (λ x. carries w' x o h ≡ carries w x o h) (sym e)
        (line_now (line_at Outlets key o h) (fan_fits o i h (ap (λ x. slice_get (fan_hops w x o) i) (sym e) ∙ at))))
        (λ (d : u ≢ key). ⊎_elim
        (λ (e : h.node ≡ key). subst
        (λ x. (signal_in (jack_told w' Outlets u o) && signal_in (jack_told w' Inlets x h.port)) ≡ (signal_in (jack_told w Outlets u o) && signal_in (jack_told w Inlets x h.port))) (sym e)
        (line_now (line_at Inlets key h.port (hop_at h.key u o)) (feed_fits u o i h at e)))
        (λ (f : h.node ≢ key).
        ap (λ (js : List Jack). signal_in (slice_get js o) && is_heard w' h) (G.other_ports Outlets u d)
        ∙ ap (λ (js : List Jack). signal_in (jack_told w Outlets u o) && signal_in (slice_get js h.port)) (G.other_ports Inlets h.node f))
        (cases_eq h.node key))
        (cases_eq u key)

    from_now : (u o : ℕ) → wires_from w' u o ≡ wires_from w u o
    from_now u o =
        carried w' u (signal_in (jack_told w' Outlets u o)) (fan_hops w' u o)
        ∙ ap (λ hops. map (wire_to u) (filter (carries w' u o) hops)) (G.fans u o)
        ∙ ap (map (wire_to u)) (filter_same (carries w' u o) (carries w u o) (fan_hops w u o) (carries_now u o))
        ∙ sym (carried w u (signal_in (jack_told w Outlets u o)) (fan_hops w u o))

    below_now : (u n : ℕ) → wires_below w' u n ≡ wires_below w u n
    below_now u zero = refl
    below_now u (suc n) = ap (λ (vs : List SignalWire). vs ++ wires_from w' u n) (below_now u n) ∙ ap (λ (vs : List SignalWire). wires_below w u n ++ vs) (from_now u n)

    pub wires_now : (u : ℕ) → box_wires w' u ≡ box_wires w u
    wires_now u =
        let a = length (ports_told w Outlets u) in
        let b = length (ports_told w' Outlets u) in
        sym (wires_all w' u (a + b) (omega arith)) ∙ below_now u (a + b) ∙ wires_all w u (a + b) (omega arith)

    pub links_now : (l : Links) → HasLinks w l → HasLinks w' l
    links_now l H = record {
      followers = λ u j. H.followers u j ∙ sym (ap (λ (vs : List SignalWire). tally j (sinks_of vs)) (wires_now u));
      feeders = λ u j. H.feeders u j ∙ sym (ap (λ (vs : List SignalWire). tally j (sinks_of vs)) (wires_now u));
    }

    pub meet_now : Meet w'
    meet_now = meet_by w w' G.fans G.feeds M
