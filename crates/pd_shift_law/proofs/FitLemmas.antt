-- Where a port of a box went to another number, the wires at its side fit where they are then.
use Rattle.std.proofs.Common.{◌≡◌, ℕ, ◌==◌, Bool, true, cond, List, [], ◌∷◌, map, length, slice_get, Option, Some, None, inl, inr, eq-eqb, refl, sym, ap, ◌∙◌, arith}
use Rattle.std.specs.Prelude.{option_map}
use Rattle.std.specs.List.{AllByRecursion}
use Rattle.std.proofs.lemmas.Bool.{cases_eq, cases_lt}
use Rattle.std.proofs.lemmas.Option.{slice_get-map, slice_get_past}
use Rattle.pd_canvas.specs.declared.wires.Wire.{Wire}
use Rattle.pd_canvas.specs.Wiring.{with_wire}
use Rattle.pd_canvas.proofs.SortLemmas.{all_with}
use Rattle.pd_tree.specs.Ports.{Sockets, joins, fits, fits_between}
use Rattle.pd_grove.specs.declared.ports.Side.{Side}
use Rattle.pd_grove.specs.declared.ports.Side.TheVariants.{Inlets, Outlets}
use Rattle.pd_web.specs.declared.jacks.Jack.{Jack}
use Rattle.pd_web.specs.declared.web.Web.{Web}
use Rattle.pd_web.specs.Hops.{boxes_told, ports_told}
use Rattle.pd_web.specs.Lines.{laid_at, signals_of}
use Rattle.pd_web.specs.Sockets.{made_at}
use Rattle.pd_following.proofs.RaiseLemmas.{differ_test}
use Rattle.pd_sliding.specs.Slides.{slid, Slides}
use Rattle.pd_sliding_law.specs.Slid.{slid_wire, slid_wires, with_all}
use Rattle.pd_sliding_law.proofs.SlidLemmas.{slid_beyond}

-- ---- lists

all_turned : {X Y : Type 0} (P : X → Type 0) (Q : Y → Type 0) (f : X → Y) (xs : List X) → ((x : X) → P x → Q (f x)) → AllByRecursion P xs → AllByRecursion Q (map f xs)
all_turned P Q f [] h a = tt
all_turned P Q f (x ∷ xs) h a = (h x a.0, all_turned P Q f xs h a.1)

all_put : (P : Wire → Type 0) (vs ws : List Wire) → AllByRecursion P vs → AllByRecursion P ws → AllByRecursion P (with_all vs ws)
all_put P vs [] a b = a
all_put P vs (w ∷ ws) a b = all_put P (with_wire w vs) ws (all_with P w vs b.0 a) b.1

module _ (w w' : Web) (key from to : ℕ) where
  -- ---- ports

  jack_slid : (side : Side) → Slides w w' key side from to → (i : ℕ) → slice_get (ports_told w' side key) (slid from to i) ≡ slice_get (ports_told w side key) i
  jack_slid side X i = elim (cases_lt i (length (ports_told w side key))) [
    | inl l ↦ X.ports i l
    | inr l ↦
        let many = X.as_many in
        ap (slice_get (ports_told w' side key)) (slid_beyond from to (length (ports_told w side key)) i X.goes X.comes l)
        ∙ slice_get_past (ports_told w' side key) i (omega (arith, l, many)) ∙ sym (slice_get_past (ports_told w side key) i l)
  ]

  -- a port of that side carries at its number then what it carried
  port_slid : (side : Side) → Slides w w' key side from to → (k i : ℕ)
      → slice_get (signals_of (ports_told w' side k)) (cond (k == key) (slid from to i) i) ≡ slice_get (signals_of (ports_told w side k)) i
  port_slid side X k i = elim (cases_eq k key) [
    | inl e ↦
        ap (λ (b : Bool). slice_get (signals_of (ports_told w' side k)) (cond b (slid from to i) i)) (eq-eqb k key e)
        ∙ ap (λ x. slice_get (signals_of (ports_told w' side x)) (slid from to i)) e
        ∙ slice_get-map (λ (j : Jack). j.is_signal) (ports_told w' side key) (slid from to i) ∙ ap (option_map (λ (j : Jack). j.is_signal)) (jack_slid side X i)
        ∙ sym (slice_get-map (λ (j : Jack). j.is_signal) (ports_told w side key) i) ∙ ap (λ x. slice_get (signals_of (ports_told w side x)) i) (sym e)
    | inr d ↦
        ap (λ (b : Bool). slice_get (signals_of (ports_told w' side k)) (cond b (slid from to i) i)) (differ_test k key d)
        ∙ ap (λ (js : List Jack). slice_get (signals_of js) i) (X.other_ports side k (λ e. absurd (d e)))
  ]

  -- ---- wires that fit, in a canvas of which the box is the one of this number

  module _ (keys : List ℕ) (n : ℕ) (same : (i k : ℕ) → slice_get keys i ≡ Some k → (k == key) ≡ (i == n)) where
    abbrev between : Web → Option ℕ → Option ℕ → Wire → Bool
    between v a b u = fits_between (option_map (laid_at v.sockets.items) a) (option_map (laid_at v.sockets.items) b) u

    told_at : (v : Web) (i : ℕ) → slice_get (boxes_told v keys) i ≡ option_map (laid_at v.sockets.items) (slice_get keys i)
    told_at v i = slice_get-map (laid_at v.sockets.items) keys i

    fits_told : (v : Web) (u : Wire) → fits (boxes_told v keys) u ≡ between v (slice_get keys u.source) (slice_get keys u.sink) u
    fits_told v u =
        ap (λ (o : Option Sockets). fits_between o (slice_get (boxes_told v keys) u.sink) u) (told_at v u.source)
        ∙ ap (λ (o : Option Sockets). fits_between (option_map (laid_at v.sockets.items) (slice_get keys u.source)) o u) (told_at v u.sink)

    inlets_between : Slides w w' key Inlets from to → (v : Wire) (a b : Option ℕ) → slice_get keys v.sink ≡ b → between w' a b (slid_wire Inlets n from to v) ≡ between w a b v
    inlets_between X v None b f = refl
    inlets_between X v (Some x) None f = refl
    inlets_between X v (Some x) (Some y) f =
        ap (λ (t : Bool). joins (made_at w'.sockets.items y) (slice_get (signals_of (ports_told w' Outlets x)) v.outlet)
        (slice_get (signals_of (ports_told w' Inlets y)) (cond t (slid from to v.inlet) v.inlet))) (sym (same v.sink y f))
        ∙ ap (joins (made_at w'.sockets.items y) (slice_get (signals_of (ports_told w' Outlets x)) v.outlet)) (port_slid Inlets X y v.inlet)
        ∙ ap (λ (js : List Jack). joins (made_at w'.sockets.items y) (slice_get (signals_of js) v.outlet) (slice_get (signals_of (ports_told w Inlets y)) v.inlet))
        (X.other_ports Outlets x (λ _ e. cc))
        ∙ ap (λ (m : Bool). joins m (slice_get (signals_of (ports_told w Outlets x)) v.outlet) (slice_get (signals_of (ports_told w Inlets y)) v.inlet)) (X.made y)

    outlets_between : Slides w w' key Outlets from to → (v : Wire) (a b : Option ℕ) → slice_get keys v.source ≡ a → between w' a b (slid_wire Outlets n from to v) ≡ between w a b v
    outlets_between X v None b e = refl
    outlets_between X v (Some x) None e = refl
    outlets_between X v (Some x) (Some y) e =
        ap (λ (t : Bool). joins (made_at w'.sockets.items y) (slice_get (signals_of (ports_told w' Outlets x)) (cond t (slid from to v.outlet) v.outlet))
        (slice_get (signals_of (ports_told w' Inlets y)) v.inlet)) (sym (same v.source x e))
        ∙ ap (λ (o : Option Bool). joins (made_at w'.sockets.items y) o (slice_get (signals_of (ports_told w' Inlets y)) v.inlet)) (port_slid Outlets X x v.outlet)
        ∙ ap (λ (js : List Jack). joins (made_at w'.sockets.items y) (slice_get (signals_of (ports_told w Outlets x)) v.outlet) (slice_get (signals_of js) v.inlet))
        (X.other_ports Inlets y (λ _ e. cc))
        ∙ ap (λ (m : Bool). joins m (slice_get (signals_of (ports_told w Outlets x)) v.outlet) (slice_get (signals_of (ports_told w Inlets y)) v.inlet)) (X.made y)

    -- a wire fits where it is then as it did
    fits_slid : (side : Side) → Slides w w' key side from to → (v : Wire) → fits (boxes_told w' keys) (slid_wire side n from to v) ≡ fits (boxes_told w keys) v
    fits_slid Inlets X v =
        fits_told w' (slid_wire Inlets n from to v) ∙ inlets_between X v (slice_get keys v.source) (slice_get keys v.sink) refl ∙ sym (fits_told w v)
    fits_slid Outlets X v =
        fits_told w' (slid_wire Outlets n from to v) ∙ outlets_between X v (slice_get keys v.source) (slice_get keys v.sink) refl ∙ sym (fits_told w v)

    abbrev Fits : Web → Wire → Type 0
    Fits v u = fits (boxes_told v keys) u ≡ true

    pub all_fit : (side : Side) → Slides w w' key side from to → (ws : List Wire) → AllByRecursion (Fits w) ws → AllByRecursion (Fits w') (slid_wires side n from to ws)
    all_fit Inlets X ws a = all_turned (Fits w) (Fits w') (slid_wire Inlets n from to) ws (λ v e. fits_slid Inlets X v ∙ e) a
    all_fit Outlets X ws a =
        all_put (Fits w') [] (map (slid_wire Outlets n from to) ws) tt (all_turned (Fits w) (Fits w') (slid_wire Outlets n from to) ws (λ v e. fits_slid Outlets X v ∙ e) a)
