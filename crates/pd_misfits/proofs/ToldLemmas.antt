-- The wires that turn, and those that don't fit, one by one.
use Rattle.std.proofs.Common.{◌≡◌, ℕ, ◌&&◌, Bool, true, false, cond, not, List, [], ◌∷◌, ◌++◌, filter, length, slice_get, Some, refl, sym, ap, ◌∙◌, subst, inl, inr}
use Rattle.std.specs.List.{flat_map, range_with_len}
use Rattle.std.proofs.lemmas.Option.{same_Some}
use Rattle.pd_object.specs.declared.kinds.Kind.{Kind}
use Rattle.pd_grove.specs.declared.grove.Grove.{Grove}
use Rattle.pd_grove.specs.declared.ports.Side.TheVariants.{Outlets}
use Rattle.pd_web.specs.declared.jacks.Jack.{Jack}
use Rattle.pd_web.specs.declared.lines.Line.{Line}
use Rattle.pd_web.specs.declared.web.Web.{Web}
use Rattle.pd_web.specs.declared.web.Hop.{Hop}
use Rattle.pd_web.specs.Canvases.{keys_at}
use Rattle.pd_web.specs.Hops.{fan_hops, ports_told}
use Rattle.pd_web.specs.Changes.{hop_at, line_told, KeepsPorts, Meet}
use Rattle.pd_patch.specs.declared.patch.Patch.{Patch}
use Rattle.pd_patch.specs.Listing.{IsThere}
use Rattle.pd_wiring.specs.Changes.{is_signal_line, CanRewire}
use Rattle.pd_taking.specs.Loosening.{line_at}
use Rattle.pd_misfits.specs.declared.wires.BoxWire.{BoxWire}
use Rattle.pd_misfits.specs.declared.wires.Fate.TheVariants.{Goes, Turns}
use Rattle.pd_misfits.specs.Misfits.{box_wires, differ, is_at, is_fit, is_signal_with, misfits, outlet_wires, turning, turns, wire_from, wire_of, wires_among}
use Rattle.pd_misfits.specs.Shedding.{is_among, is_left, AreWiresAt, IsWired, Sheds}
use Rattle.pd_misfits.proofs.FitLemmas.{turns_still}
use Rattle.pd_misfits.proofs.GatherLemmas.{both_left, both_right, not_so}
use Rattle.pd_misfits.proofs.ListLemmas.{in_listed, listed_in, IsIn}
use Rattle.pd_misfits.proofs.ShedLemmas.{among_some, in_filter}
use Rattle.pd_misfits.proofs.WireLemmas.{goes_of, line_told_all, picked_all}

flat_same : {X Y : Type 0} (f g : X → List Y) (xs : List X) → ((x : X) → f x ≡ g x) → flat_map f xs ≡ flat_map g xs
flat_same f g [] h = refl
flat_same {X} {Y} f g (x ∷ xs) h = ap (λ (ys : List Y). ys ++ flat_map f xs) (h x) ∙ ap (λ (ys : List Y). g x ++ ys) (flat_same f g xs h)

-- those that a test lets pass give the same, where the others give nothing
flat_kept : {X Y : Type 0} (f : X → List Y) (q : X → Bool) (xs : List X) → ((x : X) → IsIn x xs → q x ≡ false → f x ≡ []) → flat_map f (filter q xs) ≡ flat_map f xs
flat_kept f q [] h = refl
flat_kept {X} {Y} f q (x ∷ xs) h = step (q x) refl (flat_kept f q xs (λ y i. h y (inr i)))
  where
    step : (b : Bool) → q x ≡ b → flat_map f (filter q xs) ≡ flat_map f xs → flat_map f (cond b (x ∷ filter q xs) (filter q xs)) ≡ f x ++ flat_map f xs
    step true t rec = ap (λ (ys : List Y). f x ++ ys) rec
    step false t rec = rec ∙ ap (λ (ys : List Y). ys ++ flat_map f xs) (sym (h x (inl refl) t))

module _ (p : Patch) (canvas key : ℕ) (k : Kind) where
  -- a wire of an outlet of the canvas that is one at the box and turns is among them
  pub turning_among : CanRewire p → Meet p.web → IsThere (keys_at p.grove canvas) key → (node outlet place : ℕ) (h : Hop) → slice_get (keys_at p.grove canvas) place ≡ Some node → IsIn h (fan_hops p.web node outlet)
      → (is_at key (line_at Outlets node outlet h) && turns p.web key k (line_at Outlets node outlet h)) ≡ true → is_among (turning p canvas key k) h.key ≡ true
  turning_among R meet here node outlet place h at i e = goes_of Turns p canvas key k R meet here node outlet place h at i e

  pub turning_told : (m : BoxWire) → IsWired p.web → IsIn m (turning p canvas key k) → line_told p.web m.key ≡ Some m.line
  turning_told m W i = line_told_all Turns p.web p.numbers.items key k (keys_at p.grove canvas) m W i

  pub turning_picked : (m : BoxWire) → IsIn m (turning p canvas key k) → (is_at key m.line && turns p.web key k m.line) ≡ true
  turning_picked m i = picked_all Turns p.web p.numbers.items key k (keys_at p.grove canvas) m i

  pub misfit_told : (m : BoxWire) → IsWired p.web → IsIn m (misfits p canvas key k) → line_told p.web m.key ≡ Some m.line
  misfit_told m W i = line_told_all Goes p.web p.numbers.items key k (keys_at p.grove canvas) m W i

  pub misfit_picked : (m : BoxWire) → IsIn m (misfits p canvas key k) → (is_at key m.line && not (is_fit p.web key k m.line)) ≡ true
  misfit_picked m i = picked_all Goes p.web p.numbers.items key k (keys_at p.grove canvas) m i

-- Where the wires that don't fit are gone, the same ones turn.

fits_no_more : (w : Web) (key : ℕ) (k : Kind) (l : Line) → is_fit w key k l ≡ false → turns w key k l ≡ false
fits_no_more w key k l e = ap (λ b. b && differ (is_signal_with w key k l) (is_signal_line w l)) e

module _ (p : Patch) (v : Web) (canvas key : ℕ) (k : Kind) (W : IsWired p.web) (K : KeepsPorts p.web v) (S : Sheds p.web v (misfits p canvas key k)) where
  abbrev numbers : List ℕ
  numbers = p.numbers.items

  abbrev gone : List BoxWire
  gone = misfits p canvas key k

  wire_still : (node outlet : ℕ) (h : Hop) → wire_from Turns v numbers key k node outlet h ≡ wire_from Turns p.web numbers key k node outlet h
  wire_still node outlet h =
      ap (λ b. cond (is_at key (line_at Outlets node outlet h) && b) (wire_of numbers h.key (line_at Outlets node outlet h) ∷ []) []) (turns_still p.web v key k (line_at Outlets node outlet h) K)

  -- a wire that is gone doesn't fit
  gone_unfit : (node outlet place : ℕ) (h : Hop) → slice_get (fan_hops p.web node outlet) place ≡ Some h → is_left gone h ≡ false → is_fit p.web key k (line_at Outlets node outlet h) ≡ false
  gone_unfit node outlet place h at e =
      let s = among_some gone h.key (turned (is_among gone h.key) e) in
      let line : s.0.line ≡ line_at Outlets node outlet h =
      same_Some s.0.line (line_at Outlets node outlet h) (sym (misfit_told p canvas key k s.0 W s.1.0) ∙ ap (line_told p.web) (sym s.1.1) ∙ W.fans node outlet place h at) in
      subst (λ (x : Line). is_fit p.web key k x ≡ false) line (not_so (is_fit p.web key k s.0.line) (both_right (is_at key s.0.line) (not (is_fit p.web key k s.0.line)) (misfit_picked p canvas key k s.0 s.1.0)))
    where
      turned : (b : Bool) → not b ≡ false → b ≡ true
      turned true e = refl
      turned false e = cc

  not_told : (node outlet : ℕ) (h : Hop) → IsIn h (fan_hops p.web node outlet) → is_left gone h ≡ false → wire_from Turns p.web numbers key k node outlet h ≡ []
  not_told node outlet h i e =
      let l = listed_in h (fan_hops p.web node outlet) i in
      let x = line_at Outlets node outlet h in
      ap (λ b. cond (is_at key x && b) (wire_of numbers h.key x ∷ []) []) (fits_no_more p.web key k x (gone_unfit node outlet l.0 h l.1 e)) ∙ none (is_at key x) (wire_of numbers h.key x)
    where
      none : (b : Bool) (m : BoxWire) → cond (b && false) (m ∷ []) [] ≡ []
      none true m = refl
      none false m = refl

  outlet_still : (node outlet : ℕ) → outlet_wires Turns v numbers key k node outlet ≡ outlet_wires Turns p.web numbers key k node outlet
  outlet_still node outlet =
      flat_same (wire_from Turns v numbers key k node outlet) (wire_from Turns p.web numbers key k node outlet) (fan_hops v node outlet) (wire_still node outlet)
      ∙ ap (flat_map (wire_from Turns p.web numbers key k node outlet)) (S.fans node outlet)
      ∙ flat_kept (wire_from Turns p.web numbers key k node outlet) (is_left gone) (fan_hops p.web node outlet) (not_told node outlet)

  box_still : (node : ℕ) → box_wires Turns v numbers key k node ≡ box_wires Turns p.web numbers key k node
  box_still node =
      flat_same (outlet_wires Turns v numbers key k node) (outlet_wires Turns p.web numbers key k node) (range_with_len 0 (length (ports_told v Outlets node))) (outlet_still node)
      ∙ ap (λ (js : List Jack). flat_map (outlet_wires Turns p.web numbers key k node) (range_with_len 0 (length js))) (K.ports Outlets node)

  pub turning_among_still : (keys : List ℕ) → wires_among Turns v numbers key k keys ≡ wires_among Turns p.web numbers key k keys
  turning_among_still keys = flat_same (box_wires Turns v numbers key k) (box_wires Turns p.web numbers key k) keys box_still

  -- a wire that turns is none of those that are gone
  pub turning_left : (m : BoxWire) → IsIn m (turning p canvas key k) → is_among gone m.key ≡ false
  turning_left m i = step (is_among gone m.key) refl
    where
      contrary : true ≡ false → ⊥
      contrary e = cc

      step : (b : Bool) → is_among gone m.key ≡ b → b ≡ false
      step false e = refl
      step true e =
          let s = among_some gone m.key e in
          let line : s.0.line ≡ m.line = same_Some s.0.line m.line (sym (misfit_told p canvas key k s.0 W s.1.0) ∙ ap (line_told p.web) (sym s.1.1) ∙ turning_told p canvas key k m W i) in
          let unfit : is_fit p.web key k m.line ≡ false =
          subst (λ (x : Line). is_fit p.web key k x ≡ false) line (not_so (is_fit p.web key k s.0.line) (both_right (is_at key s.0.line) (not (is_fit p.web key k s.0.line)) (misfit_picked p canvas key k s.0 s.1.0))) in
          let turning_so : turns p.web key k m.line ≡ true = both_right (is_at key m.line) (turns p.web key k m.line) (turning_picked p canvas key k m i) in
          absurd (contrary (sym turning_so ∙ fits_no_more p.web key k m.line unfit))

  pub turning_wires_stay : AreWiresAt p.web key (turning p canvas key k) → AreWiresAt v key (turning p canvas key k)
  turning_wires_stay A = record {
    along = λ i m at.
        let L = A.along i m at in
        let h : Hop = hop_at m.key m.line.sink m.line.inlet in
        let stays : IsIn h (filter (is_left gone) (fan_hops p.web m.line.source m.line.outlet)) =
        in_filter (is_left gone) (fan_hops p.web m.line.source m.line.outlet) h (in_listed h (fan_hops p.web m.line.source m.line.outlet) L.place L.stands)
        (ap not (turning_left m (in_listed m (turning p canvas key k) i at))) in
        let l = listed_in h (fan_hops v m.line.source m.line.outlet) (subst (λ (xs : List Hop). IsIn h xs) (sym (S.fans m.line.source m.line.outlet)) stays) in
        record { place = l.0; stands = l.1 };
    at = A.at;
    once = A.once;
  }

pub turning_still : (p q : Patch) (canvas key : ℕ) (k : Kind) → IsWired p.web → q.grove ≡ p.grove → q.numbers ≡ p.numbers → KeepsPorts p.web q.web → Sheds p.web q.web (misfits p canvas key k)
    → turning q canvas key k ≡ turning p canvas key k
turning_still p q canvas key k W g n K S =
    ap (λ ns. wires_among Turns q.web ns key k (keys_at q.grove canvas)) (ap (λ t. t.items) n)
    ∙ ap (λ (x : Grove). wires_among Turns q.web p.numbers.items key k (keys_at x canvas)) g
    ∙ turning_among_still p q.web canvas key k W K S (keys_at p.grove canvas)

-- a wire that turns fits
pub turning_fits : (p : Patch) (canvas key : ℕ) (k : Kind) (m : BoxWire) → IsIn m (turning p canvas key k) → is_fit p.web key k m.line ≡ true
turning_fits p canvas key k m i =
    both_left (is_fit p.web key k m.line) (differ (is_signal_with p.web key k m.line) (is_signal_line p.web m.line)) (both_right (is_at key m.line) (turns p.web key k m.line) (turning_picked p canvas key k m i))
