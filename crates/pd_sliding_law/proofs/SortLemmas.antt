-- Wires put in order by their outlets.
use Rattle.std.proofs.Common.{◌≡◌, ℕ, Bool, true, false, cond, ◌&&◌, ◌==◌, List, [], ◌∷◌, ◌++◌, map, filter, append_assoc, append-nil, refl, sym, ap, ◌∙◌, arith}
use Rattle.std.specs.List.{AllByRecursion}
use Rattle.std.proofs.lemmas.Bool.Decides.{nat_tests}
use Rattle.pd_canvas.specs.declared.wires.Wire.{Wire}
use Rattle.pd_canvas.specs.Wiring.{precedes, with_wire, AreSorted, fan_out}
use Rattle.pd_canvas.proofs.SortLemmas.{sorted_with, fan_out_last, fan_out_other}
use Rattle.pd_reload_law.proofs.SortedLemmas.{sorted_same}
use Rattle.pd_sliding_law.specs.Slid.{with_all, by_outlet}

own_source : (a b s o : ℕ) → (a == s && b == o) ≡ true → a ≡ s
own_source a b s o t = grind (arith, nat_tests)

own_outlet : (a b s o : ℕ) → (a == s && b == o) ≡ true → b ≡ o
own_outlet a b s o t = grind (arith, nat_tests)

all_sorted : (vs ws : List Wire) → AreSorted vs → AreSorted (with_all vs ws)
all_sorted vs [] h = h
all_sorted vs (w ∷ ws) h = all_sorted (with_wire w vs) ws (sorted_with w vs h)

-- each outlet gets its wires in their order, behind those that it had
all_fans : (vs ws : List Wire) → AreSorted vs → (s o : ℕ) → fan_out s o (with_all vs ws) ≡ fan_out s o vs ++ fan_out s o ws
all_fans vs [] h s o = sym (append-nil (fan_out s o vs))
all_fans vs (w ∷ ws) h s o = all_fans (with_wire w vs) ws (sorted_with w vs h) s o ∙ step (w.source == s && w.outlet == o) refl
  where
    step : (b : Bool) → (w.source == s && w.outlet == o) ≡ b
        → fan_out s o (with_wire w vs) ++ fan_out s o ws ≡ fan_out s o vs ++ cond (w.source == s && w.outlet == o) (w ∷ fan_out s o ws) (fan_out s o ws)
    step true e =
        let a : w.source ≡ s = own_source w.source w.outlet s o e in
        let c : w.outlet ≡ o = own_outlet w.source w.outlet s o e in
        ap (λ (l : List Wire). l ++ fan_out s o ws)
        (sym (ap (λ x. fan_out x w.outlet (with_wire w vs)) a ∙ ap (λ x. fan_out s x (with_wire w vs)) c) ∙ last a c)
        ∙ append_assoc (fan_out s o vs) (w ∷ []) (fan_out s o ws)
        ∙ sym (ap (λ (b : Bool). fan_out s o vs ++ cond b (w ∷ fan_out s o ws) (fan_out s o ws)) e)
      where
        last : w.source ≡ s → w.outlet ≡ o → fan_out w.source w.outlet (with_wire w vs) ≡ fan_out s o vs ++ w ∷ []
        last a c =
            fan_out_last w vs h ∙ ap (λ x. fan_out x w.outlet vs ++ w ∷ []) a ∙ ap (λ x. fan_out s x vs ++ w ∷ []) c
    step false e =
        ap (λ (l : List Wire). l ++ fan_out s o ws) (fan_out_other w vs s o e)
        ∙ sym (ap (λ (b : Bool). fan_out s o vs ++ cond b (w ∷ fan_out s o ws) (fan_out s o ws)) e)

-- wires that are in order, with those of each outlet as they are in others, are the others in order
pub by_outlet_is : (xs ws : List Wire) → AreSorted xs → ((s o : ℕ) → fan_out s o xs ≡ fan_out s o ws) → xs ≡ by_outlet ws
by_outlet_is xs ws h f = sorted_same xs (with_all [] ws) h (all_sorted [] ws tt) (λ s o. f s o ∙ sym (all_fans [] ws tt s o))

-- wires from the same outlets in the same order are in order
later_same : (f : Wire → Wire) → ((v w : Wire) → precedes (f v) (f w) ≡ precedes v w) → (w : Wire) (ws : List Wire) → AllByRecursion (λ v. precedes v w ≡ false) ws
    → AllByRecursion (λ v. precedes v (f w) ≡ false) (map f ws)
later_same f e w [] h = tt
later_same f e w (v ∷ vs) h = (e v w ∙ h.0, later_same f e w vs h.1)

pub sorted_alike : (f : Wire → Wire) → ((v w : Wire) → precedes (f v) (f w) ≡ precedes v w) → (ws : List Wire) → AreSorted ws → AreSorted (map f ws)
sorted_alike f e [] h = tt
sorted_alike f e (w ∷ ws) h = (later_same f e w ws h.0, sorted_alike f e ws h.1)

-- of wires that are turned those remain that came from ones that do
pub filter_turned : (f : Wire → Wire) (keep stay : Wire → Bool) → ((v : Wire) → stay (f v) ≡ keep v) → (ws : List Wire) → filter stay (map f ws) ≡ map f (filter keep ws)
filter_turned f keep stay e [] = refl
filter_turned f keep stay e (w ∷ ws) =
    ap (λ (b : Bool). cond b (f w ∷ filter stay (map f ws)) (filter stay (map f ws))) (e w)
    ∙ ap (λ (l : List Wire). cond (keep w) (f w ∷ l) l) (filter_turned f keep stay e ws) ∙ out (keep w)
  where
    out : (b : Bool) → cond b (f w ∷ map f (filter keep ws)) (map f (filter keep ws)) ≡ map f (cond b (w ∷ filter keep ws) (filter keep ws))
    out true = refl
    out false = refl
