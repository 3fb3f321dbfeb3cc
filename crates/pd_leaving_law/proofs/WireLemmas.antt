-- The wires that are saved of a canvas where the wires at a port went, and where the port is gone.
use Rattle.std.proofs.Common.{◌≡◌, ◌⊎◌, ℕ, zero, suc, ◌-◌, ◌≤◌, ◌==◌, ◌&&◌, nat_lt, Bool, true, false, not, cond, List, [], ◌∷◌, ◌++◌, filter, map, length, slice_get, Some, inl, inr, eq-eqb, eqb-true, lt-ltb, refl, sym, ap, ◌∙◌, subst, arith}
use Rattle.std.specs.List.{flat_map, range_with_len}
use Rattle.std.proofs.lemmas.Bool.{cases_eq, cases_lt, false≢true, or_cases}
use Rattle.std.proofs.lemmas.Bool.Decides.{nat_tests}
use Rattle.std.proofs.lemmas.Option.{same_Some}
use Rattle.pd_canvas.specs.declared.wires.Wire.{Wire}
use Rattle.pd_grove.specs.declared.ports.Side.{Side}
use Rattle.pd_grove.specs.declared.ports.Side.TheVariants.{Inlets, Outlets}
use Rattle.pd_web.specs.declared.jacks.Jack.{Jack}
use Rattle.pd_web.specs.declared.lines.Line.{Line}
use Rattle.pd_web.specs.declared.web.Hop.{Hop}
use Rattle.pd_web.specs.declared.web.Web.{Web}
use Rattle.pd_web.specs.Changes.{hop_at, line_told, KeepsPorts, Meet}
use Rattle.pd_web.specs.Hops.{ports_told, fan_hops, feed_hops}
use Rattle.pd_present.specs.Presents.{number_in, wire_along, outlet_wires, box_wires, wires_among}
use Rattle.pd_reload_law.specs.Wires.{AreNumbered, IsAmong, StayAmong}
use Rattle.pd_reload_law.proofs.FanLemmas.{number_is}
use Rattle.pd_taking.specs.Loosening.{hops_at, line_at}
use Rattle.pd_misfits.specs.declared.wires.BoxWire.{BoxWire}
use Rattle.pd_misfits.specs.Shedding.{is_among, is_left, IsWired, Sheds}
use Rattle.pd_following.specs.Raising.{up, Raises}
use Rattle.pd_following.proofs.ListLemmas.{up_before, up_behind}
use Rattle.pd_following.proofs.RaiseLemmas.{differ_test}
use Rattle.pd_following_law.specs.Raised.{raised_wire}
use Rattle.pd_following_law.proofs.WireLemmas.{wires_away, wires_here}
use Rattle.pd_leaving.specs.Wires.{wire_at}
use Rattle.pd_leaving.proofs.PortWireLemmas.{among_told}
use Rattle.pd_leaving_law.specs.Lowered.{down, lowered_wire, misses}

-- ---- lists

filter_mapped : {X Y : Type 0} (keep : X → Bool) (stay : Y → Bool) (f : X → Y) (xs : List X) → ((i : ℕ) (x : X) → slice_get xs i ≡ Some x → keep x ≡ stay (f x)) → map f (filter keep xs) ≡ filter stay (map f xs)
filter_mapped keep stay f [] h = refl
filter_mapped keep stay f (x ∷ xs) h = step (keep x) refl (filter_mapped keep stay f xs (λ i. h (suc i)))
  where
    step : (b : Bool) → keep x ≡ b → map f (filter keep xs) ≡ filter stay (map f xs) → map f (cond (keep x) (x ∷ filter keep xs) (filter keep xs)) ≡ cond (stay (f x)) (f x ∷ filter stay (map f xs)) (filter stay (map f xs))
    step true e rec =
        ap (λ (b : Bool). map f (cond b (x ∷ filter keep xs) (filter keep xs))) e ∙ ap (λ ys. f x ∷ ys) rec
        ∙ ap (λ (b : Bool). cond b (f x ∷ filter stay (map f xs)) (filter stay (map f xs))) (sym e ∙ h 0 x refl)
    step false e rec =
        ap (λ (b : Bool). map f (cond b (x ∷ filter keep xs) (filter keep xs))) e ∙ rec
        ∙ ap (λ (b : Bool). cond b (f x ∷ filter stay (map f xs)) (filter stay (map f xs))) (sym e ∙ h 0 x refl)

filter_joined : {Y : Type 0} (stay : Y → Bool) (xs ys : List Y) → filter stay (xs ++ ys) ≡ filter stay xs ++ filter stay ys
filter_joined stay [] ys = refl
filter_joined stay (x ∷ xs) ys = step (stay x) (filter_joined stay xs ys)
  where
    step : (b : Bool) → filter stay (xs ++ ys) ≡ filter stay xs ++ filter stay ys
        → cond b (x ∷ filter stay (xs ++ ys)) (filter stay (xs ++ ys)) ≡ cond b (x ∷ filter stay xs) (filter stay xs) ++ filter stay ys
    step true rec = ap (λ zs. x ∷ zs) rec
    step false rec = rec

flat_filtered : {X Y : Type 0} (g' g : X → List Y) (stay : Y → Bool) (xs : List X) → ((i : ℕ) (x : X) → slice_get xs i ≡ Some x → g' x ≡ filter stay (g x)) → flat_map g' xs ≡ filter stay (flat_map g xs)
flat_filtered g' g stay [] h = refl
flat_filtered g' g stay (x ∷ xs) h =
    ap (λ ys. ys ++ flat_map g' xs) (h 0 x refl) ∙ ap (λ ys. filter stay (g x) ++ ys) (flat_filtered g' g stay xs (λ i. h (suc i)))
    ∙ sym (filter_joined stay (g x) (flat_map g xs))

all_stay : {Y : Type 0} (stay : Y → Bool) (ys : List Y) → ((i : ℕ) (y : Y) → slice_get ys i ≡ Some y → stay y ≡ true) → filter stay ys ≡ ys
all_stay stay [] h = refl
all_stay stay (y ∷ ys) h =
    ap (λ (b : Bool). cond b (y ∷ filter stay ys) (filter stay ys)) (h 0 y refl) ∙ ap (λ zs. y ∷ zs) (all_stay stay ys (λ i. h (suc i)))

both_true : (a b : Bool) → (a ≡ true → b ≡ true) → (b ≡ true → a ≡ true) → a ≡ b
both_true true b f g = sym (f refl)
both_true false true f g = g refl
both_true false false f g = refl

and_both : (a b : Bool) → (a && b) ≡ true → (a ≡ true) × (b ≡ true)
and_both true true e = (refl, refl)
and_both true false e = absurd (false≢true e)
and_both false b e = absurd (false≢true e)

two_true : (a b : Bool) → a ≡ true → b ≡ true → (a && b) ≡ true
two_true a b e f = ap (λ (x : Bool). x && b) e ∙ f

flat_alike : {X Y : Type 0} (g' g : X → List Y) (xs : List X) → ((i : ℕ) (x : X) → slice_get xs i ≡ Some x → g' x ≡ g x) → flat_map g' xs ≡ flat_map g xs
flat_alike g' g [] h = refl
flat_alike g' g (x ∷ xs) h = ap (λ ys. ys ++ flat_map g' xs) (h 0 x refl) ∙ ap (λ ys. g x ++ ys) (flat_alike g' g xs (λ i. h (suc i)))

-- a box of a canvas is the one by its number just where it is by its key
same_box : (numbers keys : List ℕ) (holder n : ℕ) → AreNumbered numbers keys → slice_get keys n ≡ Some holder → (k : ℕ) → IsAmong keys k → (k == holder) ≡ (number_in numbers k == n)
same_box numbers keys holder n num there k a = elim (cases_eq k holder) [
  | inl e ↦ eq-eqb k holder e ∙ sym (eq-eqb (number_in numbers k) n (number_is numbers k n (num n k (there ∙ ap (λ x. Some x) (sym e)))))
  | inr d ↦ differ_test k holder d ∙ sym (differ_test (number_in numbers k) n (λ e. d (same_Some k holder (
      sym a.1 ∙ ap (slice_get keys) (sym (number_is numbers k a.0 (num a.0 k a.1)) ∙ e) ∙ there))))
]

other_box : (keys : List ℕ) (holder : ℕ) → (IsAmong keys holder → ⊥) → (x : ℕ) → IsAmong keys x → (x == holder) ≡ false
other_box keys holder away x a = differ_test x holder (λ e. away (subst (IsAmong keys) e a))

-- ---- the wires at a port went

-- a wire with such a key stands in the list
among_there : (numbers : List ℕ) (side : Side) (key port : ℕ) (hops : List Hop) (x : ℕ) → is_among (map (wire_at numbers side key port) hops) x ≡ true → (i : ℕ) × (g : Hop) × (slice_get hops i ≡ Some g) × (x ≡ g.key)
among_there numbers side key port [] x t = absurd (false≢true t)
among_there numbers side key port (h ∷ hops) x t = by (or_cases (x == h.key) (is_among (map (wire_at numbers side key port) hops) x) t) (λ r. among_there numbers side key port hops x r)
  where
    by : ((x == h.key) ≡ true) ⊎ (is_among (map (wire_at numbers side key port) hops) x ≡ true)
        → (is_among (map (wire_at numbers side key port) hops) x ≡ true → (i : ℕ) × (g : Hop) × (slice_get hops i ≡ Some g) × (x ≡ g.key)) → (i : ℕ) × (g : Hop) × (slice_get (h ∷ hops) i ≡ Some g) × (x ≡ g.key)
    by (inl e) f = (zero, h, refl, eqb-true x h.key e)
    by (inr r) f = let s = f r in (suc s.0, s.1, s.2, s.3)

module _ (w w' : Web) (numbers keys : List ℕ) (holder port : ℕ) (M : Meet w) (W : IsWired w) (stay : StayAmong w keys) (K : KeepsPorts w w') where
  module _ (S : Sheds w w' (map (wire_at numbers Inlets holder port) (feed_hops w holder port))) where
    abbrev lost : List BoxWire
    lost = map (wire_at numbers Inlets holder port) (feed_hops w holder port)

    leads_to : (k o i : ℕ) (h : Hop) → slice_get (fan_hops w k o) i ≡ Some h → is_among lost h.key ≡ (h.node == holder && h.port == port)
    leads_to k o i h e = both_true (is_among lost h.key) (h.node == holder && h.port == port)
        (λ t.
        let a = among_there numbers Inlets holder port (feed_hops w holder port) h.key t in
        let same : line_at Outlets k o h ≡ line_at Inlets holder port a.1 = same_Some (line_at Outlets k o h) (line_at Inlets holder port a.1)
        (sym (W.fans k o i h e) ∙ ap (line_told w) a.3 ∙ W.feeds holder port a.0 a.1 a.2) in
        two_true (h.node == holder) (h.port == port) (eq-eqb h.node holder (ap (λ (l : Line). l.sink) same)) (eq-eqb h.port port (ap (λ (l : Line). l.inlet) same)))
        (λ t.
        let b = and_both (h.node == holder) (h.port == port) t in
        let f = M.fed k o i h e in
        among_told numbers Inlets holder port (feed_hops w holder port) f.0 (hop_at h.key k o)
        (ap (λ x. slice_get (feed_hops w x port) f.0) (sym (eqb-true h.node holder b.0)) ∙ ap (λ x. slice_get (feed_hops w h.node x) f.0) (sym (eqb-true h.port port b.1)) ∙ f.1))

    inlets_here : (n : ℕ) → AreNumbered numbers keys → slice_get keys n ≡ Some holder → wires_among w' numbers keys ≡ filter (misses Inlets n port) (wires_among w numbers keys)
    inlets_here n num there = flat_filtered (box_wires w' numbers) (box_wires w numbers) (misses Inlets n port) keys (λ j k at.
        ap (λ (js : List Jack). flat_map (outlet_wires w' numbers k) (range_with_len 0 (length js))) (K.ports Outlets k)
        ∙ flat_filtered (outlet_wires w' numbers k) (outlet_wires w numbers k) (misses Inlets n port) (range_with_len 0 (length (ports_told w Outlets k))) (λ m o _.
        ap (map (wire_along numbers k o)) (S.fans k o)
        ∙ filter_mapped (is_left lost) (misses Inlets n port) (wire_along numbers k o) (fan_hops w k o) (λ i h e.
        ap not (leads_to k o i h e ∙ ap (λ (b : Bool). b && h.port == port) (same_box numbers keys holder n num there h.node (stay k o i h (j, at) e))))))

    inlets_far : (IsAmong keys holder → ⊥) → wires_among w' numbers keys ≡ wires_among w numbers keys
    inlets_far away = flat_alike (box_wires w' numbers) (box_wires w numbers) keys (λ j k at.
        ap (λ (js : List Jack). flat_map (outlet_wires w' numbers k) (range_with_len 0 (length js))) (K.ports Outlets k)
        ∙ flat_alike (outlet_wires w' numbers k) (outlet_wires w numbers k) (range_with_len 0 (length (ports_told w Outlets k))) (λ m o _.
        ap (map (wire_along numbers k o)) (S.fans k o
        ∙ all_stay (is_left lost) (fan_hops w k o) (λ i h e. ap not (leads_to k o i h e ∙ ap (λ (b : Bool). b && h.port == port) (other_box keys holder away h.node (stay k o i h (j, at) e)))))))

  module _ (S : Sheds w w' (map (wire_at numbers Outlets holder port) (fan_hops w holder port))) where
    abbrev gone : List BoxWire
    gone = map (wire_at numbers Outlets holder port) (fan_hops w holder port)

    leads_from : (k o i : ℕ) (h : Hop) → slice_get (fan_hops w k o) i ≡ Some h → is_among gone h.key ≡ (k == holder && o == port)
    leads_from k o i h e = both_true (is_among gone h.key) (k == holder && o == port)
        (λ t.
        let a = among_there numbers Outlets holder port (fan_hops w holder port) h.key t in
        let same : line_at Outlets k o h ≡ line_at Outlets holder port a.1 = same_Some (line_at Outlets k o h) (line_at Outlets holder port a.1)
        (sym (W.fans k o i h e) ∙ ap (line_told w) a.3 ∙ W.fans holder port a.0 a.1 a.2) in
        two_true (k == holder) (o == port) (eq-eqb k holder (ap (λ (l : Line). l.source) same)) (eq-eqb o port (ap (λ (l : Line). l.outlet) same)))
        (λ t.
        let b = and_both (k == holder) (o == port) t in
        among_told numbers Outlets holder port (fan_hops w holder port) i h
        (ap (λ x. slice_get (fan_hops w x port) i) (sym (eqb-true k holder b.0)) ∙ ap (λ x. slice_get (fan_hops w k x) i) (sym (eqb-true o port b.1)) ∙ e))

    outlets_here : (n : ℕ) → AreNumbered numbers keys → slice_get keys n ≡ Some holder → wires_among w' numbers keys ≡ filter (misses Outlets n port) (wires_among w numbers keys)
    outlets_here n num there = flat_filtered (box_wires w' numbers) (box_wires w numbers) (misses Outlets n port) keys (λ j k at.
        ap (λ (js : List Jack). flat_map (outlet_wires w' numbers k) (range_with_len 0 (length js))) (K.ports Outlets k)
        ∙ flat_filtered (outlet_wires w' numbers k) (outlet_wires w numbers k) (misses Outlets n port) (range_with_len 0 (length (ports_told w Outlets k))) (λ m o _.
        ap (map (wire_along numbers k o)) (S.fans k o)
        ∙ filter_mapped (is_left gone) (misses Outlets n port) (wire_along numbers k o) (fan_hops w k o) (λ i h e.
        ap not (leads_from k o i h e ∙ ap (λ (b : Bool). b && o == port) (same_box numbers keys holder n num there k (j, at))))))

    outlets_far : (IsAmong keys holder → ⊥) → wires_among w' numbers keys ≡ wires_among w numbers keys
    outlets_far away = flat_alike (box_wires w' numbers) (box_wires w numbers) keys (λ j k at.
        ap (λ (js : List Jack). flat_map (outlet_wires w' numbers k) (range_with_len 0 (length js))) (K.ports Outlets k)
        ∙ flat_alike (outlet_wires w' numbers k) (outlet_wires w numbers k) (range_with_len 0 (length (ports_told w Outlets k))) (λ m o _.
        ap (map (wire_along numbers k o)) (S.fans k o
        ∙ all_stay (is_left gone) (fan_hops w k o) (λ i h e. ap not (leads_from k o i h e ∙ ap (λ (b : Bool). b && o == port) (other_box keys holder away k (j, at)))))))

  -- in the canvas of the box the wires at the port are gone
  pub cut_here : (side : Side) → Sheds w w' (map (wire_at numbers side holder port) (hops_at w side holder port)) → (n : ℕ) → AreNumbered numbers keys → slice_get keys n ≡ Some holder
      → wires_among w' numbers keys ≡ filter (misses side n port) (wires_among w numbers keys)
  cut_here Inlets S = inlets_here S
  cut_here Outlets S = outlets_here S

  -- and no others
  pub cut_away : (side : Side) → Sheds w w' (map (wire_at numbers side holder port) (hops_at w side holder port)) → (IsAmong keys holder → ⊥) → wires_among w' numbers keys ≡ wires_among w numbers keys
  cut_away Inlets S = inlets_far S
  cut_away Outlets S = outlets_far S

-- ---- the port is gone

down_up : (at i : ℕ) → down at (up at i) ≡ i
down_up at i = elim (cases_lt i at) [
  | inl l ↦ ap (down at) (up_before at i l) ∙ ap (λ (b : Bool). cond b i (i - 1)) (lt-ltb i at l)
  | inr l ↦ ap (down at) (up_behind at i l) ∙ ap (λ (b : Bool). cond b (suc i) (suc i - 1)) (not_less (suc i) at (omega (arith, l))) ∙ one_back i
]
  where
    not_less : (a b : ℕ) → b ≤ a → nat_lt a b ≡ false
    not_less a b h = grind (arith, nat_tests)

    one_back : (x : ℕ) → suc x - 1 ≡ x
    one_back x = omega arith

lower_port : (b : Bool) (at i : ℕ) → cond b (down at (cond b (up at i) i)) (cond b (up at i) i) ≡ i
lower_port true at i = down_up at i
lower_port false at i = refl

lowered_back : (side : Side) (n at : ℕ) (v : Wire) → lowered_wire side n at (raised_wire side n at v) ≡ v
lowered_back Inlets n at v = ap (λ x. record { source = v.source; outlet = v.outlet; sink = v.sink; inlet = x }) (lower_port (v.sink == n) at v.inlet)
lowered_back Outlets n at v = ap (λ x. record { source = v.source; outlet = x; sink = v.sink; inlet = v.inlet }) (lower_port (v.source == n) at v.outlet)

all_back : (side : Side) (n at : ℕ) (vs : List Wire) → map (lowered_wire side n at) (map (raised_wire side n at) vs) ≡ vs
all_back side n at [] = refl
all_back side n at (v ∷ vs) = ap (λ x. x ∷ map (lowered_wire side n at) (map (raised_wire side n at) vs)) (lowered_back side n at v) ∙ ap (λ xs. v ∷ xs) (all_back side n at vs)

-- the wires of the canvas lead to where the ports are then
pub lower_here : (w w' : Web) (numbers keys : List ℕ) (holder n at : ℕ) (jack : Jack) → AreNumbered numbers keys → StayAmong w keys → slice_get keys n ≡ Some holder → (side : Side) → Raises w w' holder side at jack
    → wires_among w numbers keys ≡ map (lowered_wire side n at) (wires_among w' numbers keys)
lower_here w w' numbers keys holder n at jack num stay there side X =
    sym (all_back side n at (wires_among w numbers keys)) ∙ sym (ap (map (lowered_wire side n at)) (wires_here w w' numbers keys holder n at jack num stay there side X))

pub lower_away : (w w' : Web) (numbers keys : List ℕ) (holder at : ℕ) (jack : Jack) → StayAmong w keys → (IsAmong keys holder → ⊥) → (side : Side) → Raises w w' holder side at jack
    → wires_among w numbers keys ≡ wires_among w' numbers keys
lower_away w w' numbers keys holder at jack stay away side X = sym (wires_away w w' numbers keys holder at jack stay away side X)
