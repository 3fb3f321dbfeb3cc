-- Wires that fit, where a box went.
use Rattle.std.proofs.Common.{◌≡◌, ◌≢◌, ℕ, zero, suc, ◌==◌, ◌&&◌, Bool, true, false, cond, not, List, [], ◌∷◌, map, filter, slice_get, Option, Some, None, IsSome, refl, sym, ap, ◌∙◌, subst, arith}
use Rattle.std.specs.Prelude.{remove}
use Rattle.std.specs.List.{AllByRecursion}
use mathlib.Core.Logic.{⊎_elim}
use Rattle.std.proofs.lemmas.Bool.Decides.{nat_tests}
use Rattle.std.proofs.lemmas.Bool.{cases_eq}
use Rattle.std.proofs.lemmas.Option.{slice_get_past}
use Rattle.slab.specs.Slab.{get}
use Rattle.pd_canvas.specs.declared.wires.Wire.{Wire}
use Rattle.pd_canvas.specs.Wiring.{lowered, lowered_wire, spares, without_box}
use Rattle.pd_tree.specs.Ports.{Sockets as Seen, fits, fits_between}
use Rattle.pd_grove.specs.declared.boards.Board.{Board}
use Rattle.pd_grove.specs.declared.ports.Side.TheVariants.{Inlets, Outlets}
use Rattle.pd_grove.specs.Telling.{keys_in}
use Rattle.pd_grove.proofs.UseLemmas.{none_or_some}
use Rattle.pd_web.specs.declared.jacks.Jack.{Jack}
use Rattle.pd_web.specs.declared.web.Web.{Web}
use Rattle.pd_web.specs.Canvases.{keys_at}
use Rattle.pd_web.specs.Hops.{boxes_told, ports_told}
use Rattle.pd_web.specs.Lines.{laid_at, seen_by}
use Rattle.pd_web.specs.Sockets.{made_at}
use Rattle.pd_present.specs.Presents.{wires_among}
use Rattle.pd_patch.specs.declared.patch.Patch.{Patch}
use Rattle.pd_boxes.specs.Put.{CanPut}
use Rattle.pd_owning.specs.Bound.{is_among}
use Rattle.pd_saved_law.specs.Fitting.{WiresFit}
use Rattle.pd_taking_law.proofs.StayLemmas.{keys_less, map_less}
use Rattle.pd_taking_law.proofs.WireLemmas.{wires_aside, wires_here}
use Rattle.pd_take_law.proofs.GoneLemmas.{BoxWent, lies_out, wires_gone}

-- Lists with an element less.

lowered_on : (n i : ℕ) → i ≢ n → lowered (suc n) (suc i) ≡ suc (lowered n i)
lowered_on n i d = grind (arith, nat_tests)

pub less_at : {X : Type 0} (xs : List X) (n i : ℕ) → i ≢ n → slice_get (remove xs n) (lowered n i) ≡ slice_get xs i
less_at [] zero i d = slice_get_past [] (lowered zero i) (omega arith) ∙ sym (slice_get_past [] i (omega arith))
less_at [] (suc n) i d = slice_get_past [] (lowered (suc n) i) (omega arith) ∙ sym (slice_get_past [] i (omega arith))
less_at (x ∷ xs) zero zero d = absurd (d refl)
less_at (x ∷ xs) zero (suc i) d = let e : lowered 0 (suc i) ≡ i = grind (arith, nat_tests) in ap (slice_get xs) e
less_at (x ∷ xs) (suc n) zero d = let e : lowered (suc n) 0 ≡ 0 = grind (arith, nat_tests) in ap (slice_get (x ∷ remove xs n)) e
less_at (x ∷ xs) (suc n) (suc i) d = ap (slice_get (x ∷ remove xs n)) (lowered_on n i (λ e. d (ap suc e))) ∙ less_at xs n i (λ e. d (ap suc e))

spared : (a b n : ℕ) → (not (a == n) && not (b == n)) ≡ true → (a ≢ n) × (b ≢ n)
spared a b n t = (λ e. grind (arith, nat_tests), λ e. grind (arith, nat_tests))

between_same : (n : ℕ) (v : Wire) (a b : Option Seen) → fits_between a b (lowered_wire n v) ≡ fits_between a b v
between_same n v None b = refl
between_same n v (Some s) None = refl
between_same n v (Some s) (Some d) = refl

fits_less : (boxes : List Seen) (n : ℕ) (v : Wire) → spares n v ≡ true → fits (remove boxes n) (lowered_wire n v) ≡ fits boxes v
fits_less boxes n v t =
    let d = spared v.source v.sink n t in
    between_same n v (slice_get (remove boxes n) (lowered n v.source)) (slice_get (remove boxes n) (lowered n v.sink))
    ∙ ap (λ o. fits_between o (slice_get (remove boxes n) (lowered n v.sink)) v) (less_at boxes n v.source d.0) ∙ ap (λ o. fits_between (slice_get boxes v.source) o v) (less_at boxes n v.sink d.1)

all_less : (boxes : List Seen) (n : ℕ) (ws : List Wire) → AllByRecursion (λ v. fits boxes v ≡ true) ws → AllByRecursion (λ v. fits (remove boxes n) v ≡ true) (without_box n ws)
all_less boxes n [] h = tt
all_less boxes n (v ∷ ws) h = step (spares n v) refl (all_less boxes n ws h.1)
  where
    step : (b : Bool) → spares n v ≡ b → AllByRecursion (λ x. fits (remove boxes n) x ≡ true) (without_box n ws)
        → AllByRecursion (λ x. fits (remove boxes n) x ≡ true) (map (lowered_wire n) (cond b (v ∷ filter (spares n) ws) (filter (spares n) ws)))
    step true t rest = (fits_less boxes n v t ∙ h.0, rest)
    step false t rest = rest

-- Ports.

pub told_same : (w w' : Web) (ks : List ℕ) → ((i k : ℕ) → slice_get ks i ≡ Some k → laid_at w'.sockets.items k ≡ laid_at w.sockets.items k) → boxes_told w' ks ≡ boxes_told w ks
told_same w w' [] same = refl
told_same w w' (k ∷ ks) same =
    ap (λ (s : Seen). s ∷ boxes_told w' ks) (same 0 k refl) ∙ ap (λ (ss : List Seen). laid_at w.sockets.items k ∷ ss) (told_same w w' ks (λ i. same (suc i)))

module _ (old new : Patch) (path : List ℕ) (canvas key number : ℕ) (part : List ℕ) (D : BoxWent old new path canvas key number part) (C : CanPut old) where
  pub box_same : (k : ℕ) → is_among part k ≡ false → laid_at new.web.sockets.items k ≡ laid_at old.web.sockets.items k
  box_same k out =
      ap (λ (js : List Jack). seen_by js (ports_told new.web Outlets k) (made_at new.web.sockets.items k)) (D.ports Inlets k out)
      ∙ ap (λ (js : List Jack). seen_by (ports_told old.web Inlets k) js (made_at new.web.sockets.items k)) (D.ports Outlets k out)
      ∙ ap (seen_by (ports_told old.web Inlets k) (ports_told old.web Outlets k)) (D.made k out)

  -- the boxes of a canvas have the ports that they had
  told_still : (c : ℕ) → boxes_told new.web (keys_at new.grove c) ≡ boxes_told old.web (keys_at new.grove c)
  told_still c = told_same old.web new.web (keys_at new.grove c) (λ i k at. box_same k (lies_out old.grove new.grove path canvas key number D.at part D.is_part c i k at))

  fits_here : WiresFit old → AllByRecursion (λ v. fits (boxes_told new.web (keys_at new.grove canvas)) v ≡ true) (wires_among new.web new.numbers.items (keys_at new.grove canvas))
  fits_here F =
      let B = D.at in
      let W = wires_gone old new path canvas key number part D C in
      let ws = wires_among old.web old.numbers.items (keys_at old.grove canvas) in
      let boxes : boxes_told new.web (keys_at new.grove canvas) ≡ remove (boxes_told old.web (keys_at old.grove canvas)) number =
      told_still canvas ∙ ap (boxes_told old.web) (keys_less old.grove new.grove path canvas key number B)
      ∙ map_less (laid_at old.web.sockets.items) (keys_at old.grove canvas) number in
      subst (λ (vs : List Wire). AllByRecursion (λ v. fits (boxes_told new.web (keys_at new.grove canvas)) v ≡ true) vs)
      (sym (wires_here old.grove new.grove path canvas key number B old.web new.web old.numbers.items new.numbers.items W))
      (subst (λ (bs : List Seen). AllByRecursion (λ v. fits bs v ≡ true) (without_box number ws)) (sym boxes) (all_less (boxes_told old.web (keys_at old.grove canvas)) number ws (F.all canvas)))

  fits_aside : WiresFit old → (c : ℕ) → c ≢ canvas → get new.grove.boards c ≡ get old.grove.boards c
      → AllByRecursion (λ v. fits (boxes_told new.web (keys_at new.grove c)) v ≡ true) (wires_among new.web new.numbers.items (keys_at new.grove c))
  fits_aside F c d stays =
      let B = D.at in
      let W = wires_gone old new path canvas key number part D C in
      let boxes : boxes_told new.web (keys_at new.grove c) ≡ boxes_told old.web (keys_at old.grove c) = told_still c ∙ ap (λ (o : Option Board). boxes_told old.web (keys_in o)) stays in
      subst (λ (vs : List Wire). AllByRecursion (λ v. fits (boxes_told new.web (keys_at new.grove c)) v ≡ true) vs)
      (sym (wires_aside old.grove new.grove path canvas key number B old.web new.web old.numbers.items new.numbers.items W c d stays))
      (subst (λ (bs : List Seen). AllByRecursion (λ v. fits bs v ≡ true) (wires_among old.web old.numbers.items (keys_at old.grove c))) (sym boxes) (F.all c))

  -- a canvas that went has no boxes and no wires
  fits_nowhere : (c : ℕ) → get new.grove.boards c ≡ None → AllByRecursion (λ v. fits (boxes_told new.web (keys_at new.grove c)) v ≡ true) (wires_among new.web new.numbers.items (keys_at new.grove c))
  fits_nowhere c none =
      subst (λ (o : Option Board). AllByRecursion (λ v. fits (boxes_told new.web (keys_in o)) v ≡ true) (wires_among new.web new.numbers.items (keys_in o))) (sym none) tt

  fits_by : WiresFit old → (c : ℕ) → c ≢ canvas → AllByRecursion (λ v. fits (boxes_told new.web (keys_at new.grove c)) v ≡ true) (wires_among new.web new.numbers.items (keys_at new.grove c))
  fits_by F c d = ⊎_elim
      (λ (none : get new.grove.boards c ≡ None). fits_nowhere c none)
      (λ (some : IsSome (get new.grove.boards c)). fits_aside F c d (D.at.takes.no_canvas_comes c d some))
      (none_or_some (get new.grove.boards c))

  pub still_fit : WiresFit old → WiresFit new
  still_fit F = record {
    all = λ c. ⊎_elim
        (λ (e : c ≡ canvas). subst (λ x. AllByRecursion (λ v. fits (boxes_told new.web (keys_at new.grove x)) v ≡ true) (wires_among new.web new.numbers.items (keys_at new.grove x))) (sym e) (fits_here F))
        (λ (d : c ≢ canvas). fits_by F c d) (cases_eq c canvas);
  }
