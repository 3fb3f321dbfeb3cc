-- Wires of a canvas that fit, which are saved as they were laid.
use Rattle.std.proofs.Common.{◌≡◌, ◌≢◌, ℕ, zero, suc, Bool, true, false, cond, ◌&&◌, ◌==◌, List, [], ◌∷◌, map, filter, slice_get, Option, Some, None, refl, sym, ap, ◌∙◌, arith}
use Rattle.std.specs.Prelude.{option_map, slice_index_or}
use Rattle.std.specs.List.{AllByRecursion}
use Rattle.std.proofs.lemmas.Bool.Decides.{nat_tests}
use Rattle.std.proofs.lemmas.Option.{none-some, same_Some, slice_get-map}
use Rattle.pd_canvas.specs.declared.wires.Wire.{Wire}
use Rattle.pd_canvas.specs.Wiring.{precedes, AreSorted, fan_out}
use Rattle.pd_tree.specs.Ports.{Sockets, joins, fits_between, fits}
use Rattle.pd_web.specs.declared.web.Hop.{Hop}
use Rattle.pd_web.specs.declared.web.Web.{Web}
use Rattle.pd_web.specs.Lines.{laid_at}
use Rattle.pd_web.specs.Canvases.{sink_place}
use Rattle.pd_web.specs.Hops.{boxes_told, fan_hops, places_of}
use Rattle.pd_present.specs.Presents.{number_in, wire_along, wires_among}
use Rattle.pd_reload_law.specs.Wires.{AreNumbered, JoinsAmong}
use Rattle.pd_reload_law.proofs.SortedLemmas.{from, all_on, fan_none, sorted_same}
use Rattle.pd_reload_law.proofs.FanLemmas.{number_is, saved_sorted, saved_fan, saved_none}

-- ---- what stays sorted

all_filter : {X : Type 0} (P : X → Type 0) (p : X → Bool) (xs : List X) → AllByRecursion P xs → AllByRecursion P (filter p xs)
all_filter P p [] h = tt
all_filter P p (x ∷ xs) h = step (p x) h.0 (all_filter P p xs h.1)
  where
    step : (b : Bool) → P x → AllByRecursion P (filter p xs) → AllByRecursion P (cond b (x ∷ filter p xs) (filter p xs))
    step true k m = (k, m)
    step false k m = m

pub sorted_filter : (p : Wire → Bool) (ws : List Wire) → AreSorted ws → AreSorted (filter p ws)
sorted_filter p [] h = tt
sorted_filter p (w ∷ ws) h = step (p w) (all_filter (λ v. precedes v w ≡ false) p ws h.0) (sorted_filter p ws h.1)
  where
    step : (b : Bool) → AllByRecursion (λ v. precedes v w ≡ false) (filter p ws) → AreSorted (filter p ws) → AreSorted (cond b (w ∷ filter p ws) (filter p ws))
    step true k m = (k, m)
    step false k m = m

pub passes : {X : Type 0} (p : X → Bool) (xs : List X) → AllByRecursion (λ x. p x ≡ true) (filter p xs)
passes p [] = tt
passes p (x ∷ xs) = step (p x) refl (passes p xs)
  where
    step : (b : Bool) → p x ≡ b → AllByRecursion (λ y. p y ≡ true) (filter p xs) → AllByRecursion (λ y. p y ≡ true) (cond b (x ∷ filter p xs) (filter p xs))
    step true e m = (e, m)
    step false e m = m

-- ---- a wire that fits

key_of : (w : Web) (o : Option ℕ) → (option_map (laid_at w.sockets.items) o ≡ None → ⊥) → (k : ℕ) × (o ≡ Some k)
key_of w None n = absurd (n refl)
key_of w (Some k) n = (k, refl)

never_none : (v : Wire) (d : Option Sockets) → fits_between None d v ≡ true → ⊥
never_none v d e = cc

never_sink : (v : Wire) (s : Option Sockets) → fits_between s None v ≡ true → ⊥
never_sink v None e = cc
never_sink v (Some s) e = cc

pub fitting_joins : (w : Web) (keys : List ℕ) (v : Wire) → fits (boxes_told w keys) v ≡ true → JoinsAmong keys v
fitting_joins w keys v e =
    let boxes = boxes_told w keys in
    let at : (n : ℕ) → slice_get boxes n ≡ option_map (laid_at w.sockets.items) (slice_get keys n) = λ n. slice_get-map (laid_at w.sockets.items) keys n in
    let source = key_of w (slice_get keys v.source) (λ n. never_none v (slice_get boxes v.sink)
    (sym (ap (λ o. fits_between o (slice_get boxes v.sink) v) (at v.source ∙ n)) ∙ e)) in
    let sink = key_of w (slice_get keys v.sink) (λ n. never_sink v (slice_get boxes v.source)
    (sym (ap (λ o. fits_between (slice_get boxes v.source) o v) (at v.sink ∙ n)) ∙ e)) in
    record { from = source.0; to = sink.0; source = source.1; sink = sink.1 }

-- ---- wires told by their places

abbrev pub back : List ℕ → ℕ → ℕ → ℕ × ℕ → Wire
back numbers k o p = record { source = number_in numbers k; outlet = o; sink = number_in numbers p.0; inlet = p.1 }

pub along_back : (numbers : List ℕ) (k o : ℕ) (hops : List Hop) → map (wire_along numbers k o) hops ≡ map (back numbers k o) (places_of hops)
along_back numbers k o [] = refl
along_back numbers k o (h ∷ hops) = ap (λ (l : List Wire). wire_along numbers k o h ∷ l) (along_back numbers k o hops)

index_is : (keys : List ℕ) (i k : ℕ) → slice_get keys i ≡ Some k → slice_index_or keys i 0 ≡ k
index_is [] i k e = absurd (none-some k e)
index_is (x ∷ xs) zero k e = same_Some x k e
index_is (x ∷ xs) (suc i) k e = index_is xs i k e

pub wire_is : (a b c d e f g h : ℕ) → a ≡ e → b ≡ f → c ≡ g → d ≡ h
    → ◌≡◌ {A = Wire} (record { source = a; outlet = b; sink = c; inlet = d }) (record { source = e; outlet = f; sink = g; inlet = h })
wire_is a b c d e f g h p q r s =
    let w : ℕ → ℕ → ℕ → ℕ → Wire = λ a b c d. record { source = a; outlet = b; sink = c; inlet = d } in
    ap (λ x. w x b c d) p ∙ ap (λ x. w e x c d) q ∙ ap (λ x. w e f x d) r ∙ ap (λ x. w e f g x) s

own_source : (a b s o : ℕ) → (a == s && b == o) ≡ true → a ≡ s
own_source a b s o t = grind (arith, nat_tests)

own_outlet : (a b s o : ℕ) → (a == s && b == o) ≡ true → b ≡ o
own_outlet a b s o t = grind (arith, nat_tests)

back_is : (numbers keys : List ℕ) (s k o : ℕ) (v : Wire) → AreNumbered numbers keys → slice_get keys s ≡ Some k → JoinsAmong keys v → from s o v ≡ true
    → back numbers k o (sink_place keys v) ≡ v
back_is numbers keys s k o v h is j t =
    wire_is (number_in numbers k) o (number_in numbers (slice_index_or keys v.sink 0)) v.inlet v.source v.outlet v.sink v.inlet
    (number_is numbers k s (h s k is) ∙ sym (own_source v.source v.outlet s o t))
    (sym (own_outlet v.source v.outlet s o t))
    (ap (number_in numbers) (index_is keys v.sink j.to j.sink) ∙ number_is numbers j.to v.sink (h v.sink j.to j.sink)) refl

back_step : (b : Bool) (f : ℕ × ℕ → Wire) (g : Wire → ℕ × ℕ) (v : Wire) (vs : List Wire) → (b ≡ true → f (g v) ≡ v) → map f (map g vs) ≡ vs
    → map f (map g (cond b (v ∷ vs) vs)) ≡ cond b (v ∷ vs) vs
back_step true f g v vs e k = ap (λ x. x ∷ map f (map g vs)) (e refl) ∙ ap (λ (l : List Wire). v ∷ l) k
back_step false f g v vs e k = k

pub backs : (numbers keys : List ℕ) (s k o : ℕ) (ws : List Wire) → AreNumbered numbers keys → slice_get keys s ≡ Some k → AllByRecursion (JoinsAmong keys) ws
    → map (back numbers k o) (map (sink_place keys) (fan_out s o ws)) ≡ fan_out s o ws
backs numbers keys s k o [] h is j = refl
backs numbers keys s k o (v ∷ vs) h is j =
    back_step (from s o v) (back numbers k o) (sink_place keys) v (fan_out s o vs) (back_is numbers keys s k o v h is j.0) (backs numbers keys s k o vs h is j.1)

other_source : (a b s o : ℕ) → a ≢ s → (a == s && b == o) ≡ false
other_source a b s o n = grind (arith, nat_tests)

by_option : {X : Type 0} {P : Type 0} (o : Option X) → (o ≡ None → P) → ((x : X) → o ≡ Some x → P) → P
by_option None n s = n refl
by_option (Some x) n s = s x refl

pub laid_saved : (w : Web) (numbers keys : List ℕ) (ws : List Wire) → AreNumbered numbers keys → AreSorted ws → AllByRecursion (JoinsAmong keys) ws
    → ((i k o : ℕ) → slice_get keys i ≡ Some k → places_of (fan_hops w k o) ≡ map (sink_place keys) (fan_out i o ws))
    → wires_among w numbers keys ≡ ws
laid_saved w numbers keys ws h sorted joins fans =
    sorted_same (wires_among w numbers keys) ws (saved_sorted w numbers keys h) sorted (λ s o.
    by_option (slice_get keys s)
    (λ none. saved_none w numbers keys s o h none ∙ sym (fan_none s o ws (all_on (JoinsAmong keys) (λ v. from s o v ≡ false) ws
    (λ v j. other_source v.source v.outlet s o (λ e. none-some j.from (sym none ∙ ap (slice_get keys) (sym e) ∙ j.source))) joins)))
    (λ k is. saved_fan w numbers keys s k o h is ∙ along_back numbers k o (fan_hops w k o) ∙ ap (map (back numbers k o)) (fans s k o is)
    ∙ backs numbers keys s k o ws h is joins))

pub fitting_saved : (w : Web) (numbers keys : List ℕ) (ws : List Wire) → AreNumbered numbers keys → AreSorted ws
    → ((i k o : ℕ) → slice_get keys i ≡ Some k → places_of (fan_hops w k o) ≡ map (sink_place keys) (fan_out i o (filter (fits (boxes_told w keys)) ws)))
    → wires_among w numbers keys ≡ filter (fits (boxes_told w keys)) ws
fitting_saved w numbers keys ws h sorted fans =
    laid_saved w numbers keys (filter (fits (boxes_told w keys)) ws) h (sorted_filter (fits (boxes_told w keys)) ws sorted)
    (all_on (λ v. fits (boxes_told w keys) v ≡ true) (JoinsAmong keys) (filter (fits (boxes_told w keys)) ws) (fitting_joins w keys) (passes (fits (boxes_told w keys)) ws)) fans
