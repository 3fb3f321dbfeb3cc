-- How the signal wires of boxes stand to one another in a web with a wire more.
use Rattle.std.proofs.Common.{arith, ◌≡◌, ◌≢◌, ℕ, zero, suc, ◌+◌, ◌<◌, ◌≤◌, ◌==◌, Bool, true, false, cond, List, [], ◌∷◌, ◌++◌, length, take, drop, refl, sym, ap, ◌∙◌, subst, inl, inr}
use Rattle.std.specs.Prelude.{slice_get, ◌&&◌}
use Rattle.std.specs.List.{insert}
use Rattle.std.proofs.lemmas.Bool.{cases_eq}
use Rattle.pd_order.specs.Graph.{tally}
use Rattle.pd_order.proofs.Basics.{by_test, same_node, same_test, other_test, tally-append}
use Rattle.pd_chain.specs.declared.graph.SignalWire.{SignalWire}
use Rattle.pd_links.specs.declared.links.Links.{Links}
use Rattle.pd_links.specs.Linked.{feeders_of, followers_of, HasOneMore}
use Rattle.pd_links.proofs.LinkLemmas.{more_of, less_of}
use Rattle.pd_grove.specs.declared.ports.Side.{Side}
use Rattle.pd_grove.specs.declared.ports.Side.TheVariants.{Inlets, Outlets}
use Rattle.pd_web.specs.declared.jacks.Jack.{Jack}
use Rattle.pd_web.specs.declared.web.Hop.{Hop}
use Rattle.pd_web.specs.declared.web.Web.{Web}
use Rattle.pd_web.specs.declared.lines.Line.{Line}
use Rattle.pd_web.specs.Hops.{ports_told, jack_told, signal_in, fan_hops}
use Rattle.pd_web.specs.Changes.{hop_at}
use Rattle.pd_patch.specs.Linked.{signal_sinks, HasLinks}
use Rattle.pd_patch.specs.Orders.{is_heard, wires_by, wires_from, wires_below}
use Rattle.pd_wiring.specs.Changes.{is_signal_line}
use Rattle.pd_wiring.proofs.HeardLemmas.{sinks_of, sinks_parts}

-- `more` has a wire more along the line, at some place in the fan-out of its outlet, and else the same ports and fan-outs
pub record HasWireMore (less more : Web) (l : Line) : Type 0 where
  pub ports : (side : Side) (k : ℕ) → ports_told more side k ≡ ports_told less side k
  pub outlet : l.outlet < length (ports_told less Outlets l.source)
  pub key : ℕ
  pub place : ℕ
  pub fan : fan_hops more l.source l.outlet ≡ insert (fan_hops less l.source l.outlet) place (hop_at key l.sink l.inlet)
  pub others : (k o : ℕ) → (k ≡ l.source → o ≢ l.outlet) → fan_hops more k o ≡ fan_hops less k o

-- an element more anywhere counts like one in front
front_append : (x y : ℕ) (fs bs : List ℕ) → tally x (fs ++ y ∷ bs) ≡ tally x (y ∷ fs ++ bs)
front_append x y fs bs = let a = tally-append x fs (y ∷ bs) in let b = tally-append x fs bs in omega (arith, a, b)

take_drop : (place : ℕ) (hops : List Hop) → take place hops ++ drop place hops ≡ hops
take_drop zero hops = refl
take_drop (suc n) [] = refl
take_drop (suc n) (h ∷ hops) = ap (λ xs. h ∷ xs) (take_drop n hops)

hops_parts : (w : Web) (k : ℕ) (fs bs : List Hop) → sinks_of (wires_by w k (fs ++ bs)) ≡ sinks_of (wires_by w k fs) ++ sinks_of (wires_by w k bs)
hops_parts w k [] bs = refl
hops_parts w k (h ∷ fs) bs = by_test (is_heard w h)
    (λ t. rw t (ap (λ xs. h.node ∷ xs) (hops_parts w k fs bs)))
    (λ f. rw f (hops_parts w k fs bs))

-- the sinks of hops with one more
inserted : (w : Web) (k x : ℕ) (hops : List Hop) (place : ℕ) (h : Hop)
    → tally x (sinks_of (wires_by w k (insert hops place h))) ≡ tally x (cond (is_heard w h) (h.node ∷ sinks_of (wires_by w k hops)) (sinks_of (wires_by w k hops)))
inserted w k x hops place h =
    let fs = take place hops in
    let bs = drop place hops in
    let whole : sinks_of (wires_by w k fs) ++ sinks_of (wires_by w k bs) ≡ sinks_of (wires_by w k hops) = sym (hops_parts w k fs bs) ∙ ap (λ (hs : List Hop). sinks_of (wires_by w k hs)) (take_drop place hops) in
    let parts = hops_parts w k fs (h ∷ bs) in
    by_test (is_heard w h)
    (λ t. let p : sinks_of (wires_by w k (fs ++ h ∷ bs)) ≡ sinks_of (wires_by w k fs) ++ h.node ∷ sinks_of (wires_by w k bs) = rw t at parts in
    rw t (ap (tally x) p ∙ front_append x h.node (sinks_of (wires_by w k fs)) (sinks_of (wires_by w k bs)) ∙ ap (λ (xs : List ℕ). tally x (h.node ∷ xs)) whole))
    (λ f. let p : sinks_of (wires_by w k (fs ++ h ∷ bs)) ≡ sinks_of (wires_by w k fs) ++ sinks_of (wires_by w k bs) = rw f at parts in
    rw f (ap (tally x) (p ∙ whole)))

module _ (less more : Web) (l : Line) (M : HasWireMore less more l) where
  jacks : (side : Side) (k i : ℕ) → jack_told more side k i ≡ jack_told less side k i
  jacks side k i = ap (λ (js : List Jack). slice_get js i) (M.ports side k)

  pub signal_same : is_signal_line more l ≡ is_signal_line less l
  signal_same =
      ap (λ (b : Bool). b && signal_in (jack_told more Inlets l.sink l.inlet)) (ap signal_in (jacks Outlets l.source l.outlet))
      ∙ ap (λ (b : Bool). signal_in (jack_told less Outlets l.source l.outlet) && b) (ap signal_in (jacks Inlets l.sink l.inlet))

  heard_same : (h : Hop) → is_heard more h ≡ is_heard less h
  heard_same h = ap signal_in (jacks Inlets h.node h.port)

  by_same : (k : ℕ) (hops : List Hop) → wires_by more k hops ≡ wires_by less k hops
  by_same k [] = refl
  by_same k (h ∷ hops) =
      let same = heard_same h in
      by_test (is_heard less h)
      (λ t. rw (same, t) (ap (λ vs. record { source = k; sink = h.node } ∷ vs) (by_same k hops)))
      (λ f. rw (same, f) (by_same k hops))

  -- an outlet that isn't the line's has the same signal wires
  other_outlet : (k o : ℕ) → (k ≡ l.source → o ≢ l.outlet) → wires_from more k o ≡ wires_from less k o
  other_outlet k o differ =
      let sounds : signal_in (jack_told more Outlets k o) ≡ signal_in (jack_told less Outlets k o) = ap signal_in (jacks Outlets k o) in
      by_test (signal_in (jack_told less Outlets k o))
      (λ t. rw (sounds, t) (by_same k (fan_hops more k o) ∙ ap (wires_by less k) (M.others k o differ)))
      (λ f. rw (sounds, f) refl)

  -- the line's outlet has its wire more, where that is a signal wire
  line_outlet : (x : ℕ) → tally x (sinks_of (wires_from more l.source l.outlet)) ≡ tally x (cond (is_signal_line less l) (l.sink ∷ sinks_of (wires_from less l.source l.outlet)) (sinks_of (wires_from less l.source l.outlet)))
  line_outlet x =
      let sounds : signal_in (jack_told more Outlets l.source l.outlet) ≡ signal_in (jack_told less Outlets l.source l.outlet) = ap signal_in (jacks Outlets l.source l.outlet) in
      by_test (signal_in (jack_told less Outlets l.source l.outlet))
      (λ t.
      let hops = fan_hops less l.source l.outlet in
      let h = hop_at M.key l.sink l.inlet in
      let same : sinks_of (wires_by more l.source (fan_hops more l.source l.outlet)) ≡ sinks_of (wires_by less l.source (insert hops M.place h)) =
      ap sinks_of (by_same l.source (fan_hops more l.source l.outlet)) ∙ ap (λ (hs : List Hop). sinks_of (wires_by less l.source hs)) M.fan in
      rw (sounds, t) (ap (tally x) same ∙ inserted less l.source x hops M.place h))
      (λ f. rw (sounds, f) refl)

  -- the sinks of the first so many outlets
  below_other : (k n x : ℕ) → (k ≡ l.source → n ≤ l.outlet) → tally x (sinks_of (wires_below more k n)) ≡ tally x (sinks_of (wires_below less k n))
  below_other k zero x h = refl
  below_other k (suc n) x h =
      sinks_parts more k n x
      ∙ ap (λ (m : ℕ). m + tally x (sinks_of (wires_from more k n))) (below_other k n x (λ e. let low = h e in omega (arith, low)))
      ∙ ap (λ (vs : List SignalWire). tally x (sinks_of (wires_below less k n)) + tally x (sinks_of vs)) (other_outlet k n (λ e same. low_of e same))
      ∙ sym (sinks_parts less k n x) where
        low_of : k ≡ l.source → n ≡ l.outlet → ⊥
        low_of e same = let low = h e in omega (arith, low, same)

  below_line : (n x : ℕ) → l.outlet < n → tally x (sinks_of (wires_below more l.source n)) ≡ tally x (cond (is_signal_line less l) (l.sink ∷ sinks_of (wires_below less l.source n)) (sinks_of (wires_below less l.source n)))
  below_line zero x low = absurd (omega (arith, low))
  below_line (suc n) x low =
      let a = sinks_parts more l.source n x in
      let b = sinks_parts less l.source n x in
      elim (cases_eq n l.outlet) [
        | inl same ↦
            let first = below_other l.source n x (λ _. omega (arith, same)) in
            let here = at_line n same x in
            by_test (is_signal_line less l)
            (λ t. let k = rw t at here in rw t (omega (arith, a, b, first, k)))
            (λ f. let k = rw f at here in rw f (omega (arith, a, b, first, k)))
        | inr differ ↦
            let before = below_line n x (omega (arith, low, differ)) in
            let here : tally x (sinks_of (wires_from more l.source n)) ≡ tally x (sinks_of (wires_from less l.source n)) = ap (λ (vs : List SignalWire). tally x (sinks_of vs)) (other_outlet l.source n (λ _. differ)) in
            by_test (is_signal_line less l)
            (λ t. let k = rw t at before in rw t (omega (arith, a, b, here, k)))
            (λ f. let k = rw f at before in rw f (omega (arith, a, b, here, k)))
      ] where
        at_line : (n : ℕ) → n ≡ l.outlet → (x : ℕ) → tally x (sinks_of (wires_from more l.source n)) ≡ tally x (cond (is_signal_line less l) (l.sink ∷ sinks_of (wires_from less l.source n)) (sinks_of (wires_from less l.source n)))
        at_line n same x =
            subst (λ (m : ℕ). tally x (sinks_of (wires_from more l.source m)) ≡ tally x (cond (is_signal_line less l) (l.sink ∷ sinks_of (wires_from less l.source m)) (sinks_of (wires_from less l.source m)))) (sym same) (line_outlet x)

  same_count : (k : ℕ) → length (ports_told more Outlets k) ≡ length (ports_told less Outlets k)
  same_count k = ap (λ (js : List Jack). length js) (M.ports Outlets k)

  -- another box has the same signal wires
  pub other_sinks : (k x : ℕ) → k ≢ l.source → tally x (signal_sinks more k) ≡ tally x (signal_sinks less k)
  other_sinks k x differ =
      ap (λ (n : ℕ). tally x (sinks_of (wires_below more k n))) (same_count k) ∙ below_other k (length (ports_told less Outlets k)) x (λ e. absurd (differ e))

  -- the line's box has one more, where that is a signal wire
  pub line_sinks : (x : ℕ) → tally x (signal_sinks more l.source) ≡ tally x (cond (is_signal_line less l) (l.sink ∷ signal_sinks less l.source) (signal_sinks less l.source))
  line_sinks x =
      ap (λ (n : ℕ). tally x (sinks_of (wires_below more l.source n))) (same_count l.source) ∙ below_line (length (ports_told less Outlets l.source)) x M.outlet

  -- a control wire changes no signal wire
  pub control_sinks : is_signal_line less l ≡ false → (k x : ℕ) → tally x (signal_sinks more k) ≡ tally x (signal_sinks less k)
  control_sinks f k x = elim (cases_eq k l.source) [
    | inl same ↦ subst (λ (y : ℕ). tally x (signal_sinks more y) ≡ tally x (signal_sinks less y)) (sym same) (rw f at (line_sinks x))
    | inr differ ↦ other_sinks k x differ
  ]

  pub control_links : (ls : Links) → is_signal_line less l ≡ false → HasLinks less ls → HasLinks more ls
  control_links ls f H = record {
    followers = λ k j. H.followers k j ∙ sym (control_sinks f k j);
    feeders = λ k j. H.feeders k j ∙ sym (control_sinks f k j);
  }

  pub control_back : (ls : Links) → is_signal_line less l ≡ false → HasLinks more ls → HasLinks less ls
  control_back ls f H = record {
    followers = λ k j. H.followers k j ∙ control_sinks f k j;
    feeders = λ k j. H.feeders k j ∙ control_sinks f k j;
  }

  -- the signal wires of a box, one more at the source
  signal_sinks_more : is_signal_line less l ≡ true → (k x : ℕ) → tally x (signal_sinks more k) ≡ tally x (cond (k == l.source) (l.sink ∷ signal_sinks less k) (signal_sinks less k))
  signal_sinks_more t k x = by_test (k == l.source)
      (λ s. let same : k ≡ l.source = same_node k l.source s in
      rw s (subst (λ (y : ℕ). tally x (signal_sinks more y) ≡ tally x (l.sink ∷ signal_sinks less y)) (sym same) (rw t at (line_sinks x))))
      (λ f. rw f (other_sinks k x (differs f))) where
        differs : (k == l.source) ≡ false → k ≢ l.source
        differs f e = contrary (sym (ap (λ (y : ℕ). y == l.source) e ∙ same_test l.source) ∙ f) where
          contrary : true ≡ false → ⊥
          contrary q = cc

  -- the same counted at the sink
  signal_fed_more : is_signal_line less l ≡ true → (j k : ℕ) → tally j (signal_sinks more k) ≡ cond (j == l.sink) (cond (l.source == k) 1 0) 0 + tally j (signal_sinks less k)
  signal_fed_more t j k =
      let e = signal_sinks_more t k j in
      by_test (k == l.source)
      (λ s. let a : tally j (signal_sinks more k) ≡ cond (l.sink == j) 1 0 + tally j (signal_sinks less k) = rw s at e in
      let b : (l.source == k) ≡ true = turned k l.source s in
      by_test (j == l.sink)
      (λ p. let q : (l.sink == j) ≡ true = turned j l.sink p in let c = rw q at a in rw (p, b) c)
      (λ p. let q : (l.sink == j) ≡ false = turned_not j l.sink p in let c = rw q at a in rw p c))
      (λ s. let a : tally j (signal_sinks more k) ≡ tally j (signal_sinks less k) = rw s at e in
      let b : (l.source == k) ≡ false = turned_not k l.source s in
      by_test (j == l.sink) (λ p. rw (p, b) (omega (arith, a))) (λ p. rw p (omega (arith, a)))) where
        turned : (x y : ℕ) → (x == y) ≡ true → (y == x) ≡ true
        turned x y h = ap (λ (z : ℕ). y == z) (same_node x y h) ∙ same_test y

        turned_not : (x y : ℕ) → (x == y) ≡ false → (y == x) ≡ false
        turned_not x y h = other_test y x (λ e. other_way x y h (sym e)) where
          other_way : (x y : ℕ) → (x == y) ≡ false → x ≡ y → ⊥
          other_way x y h e = contrary (sym (ap (λ (z : ℕ). z == y) e ∙ same_test y) ∙ h) where
            contrary : true ≡ false → ⊥
            contrary q = cc

  counted_cond : (b : Bool) (v u : ℕ) (ys : List ℕ) → tally u (cond b (v ∷ ys) ys) ≡ cond b (cond (v == u) 1 0) 0 + tally u ys
  counted_cond b v u ys = by_test b (λ t. rw t refl) (λ f. rw f (omega arith))

  -- links with the wire more are those of the web that has it
  pub signal_links : (ls ms : Links) → is_signal_line less l ≡ true → HasOneMore ls ms l.source l.sink → HasLinks less ls → HasLinks more ms
  signal_links ls ms t h H = record {
    followers = λ k j. more_of l.sink j (followers_of ms k) (followers_of ls k) (signal_sinks less k) (k == l.source) (h.followers k j) (H.followers k j) ∙ sym (signal_sinks_more t k j);
    feeders = λ k j. let a = h.feeders j k ∙ counted_cond (j == l.sink) l.source k (feeders_of ls j) in
        let b = H.feeders k j in
        let c = signal_fed_more t j k in omega (arith, a, b, c);
  }

  pub signal_back : (ls ms : Links) → is_signal_line less l ≡ true → HasOneMore ls ms l.source l.sink → HasLinks more ms → HasLinks less ls
  signal_back ls ms t h H = record {
    followers = λ k j. less_of l.sink j (followers_of ms k) (followers_of ls k) (signal_sinks less k) (k == l.source) (h.followers k j) (H.followers k j ∙ signal_sinks_more t k j);
    feeders = λ k j. let a = h.feeders j k ∙ counted_cond (j == l.sink) l.source k (feeders_of ls j) in
        let b = H.feeders k j in
        let c = signal_fed_more t j k in omega (arith, a, b, c);
  }

  -- the wire is one of the links of the web that has it
  pub followed_there : (ms : Links) → is_signal_line less l ≡ true → HasLinks more ms → 0 < tally l.sink (followers_of ms l.source)
  followed_there ms t H =
      let a = H.followers l.source l.sink in
      let b : tally l.sink (signal_sinks more l.source) ≡ tally l.sink (l.sink ∷ signal_sinks less l.source) = rw t at (line_sinks l.sink) in
      let c : tally l.sink (signal_sinks more l.source) ≡ 1 + tally l.sink (signal_sinks less l.source) = rw (same_test l.sink) at b in
      omega (arith, a, c)

  pub fed_there : (ms : Links) → is_signal_line less l ≡ true → HasLinks more ms → 0 < tally l.source (feeders_of ms l.sink)
  fed_there ms t H =
      let a = H.feeders l.source l.sink in
      let b = H.followers l.source l.sink in
      let c = followed_there ms t H in omega (arith, a, b, c)
