-- Rows behind an element.
use Rattle.std.proofs.Common.{◌≡◌, ℕ, zero, suc, ◌+◌, ◌<◌, List, [], ◌∷◌, ◌++◌, length, map, take, drop, set, get_or, refl, sym, ap, ◌∙◌, arith, Some, add-one, ◌/◌, Ok, subst}
use Rattle.std.specs.Prelude.{ℤ, pos, negsuc, ◌≤ℤ◌, ◌<ℤ◌, unsigned_abs}
use Rattle.std.proofs.lemmas.Int.{ints}
use Rattle.std.proofs.lemmas.List.{reverse-append}
use Rattle.pd_canvas.specs.Views.{entry_of}
use Rattle.pd_canvas.specs.declared.tree.Element.{Element}
use Rattle.pd_doc.specs.States.{last_of, in_last, placed, overlaid, with_last, with_boxes, first_boxes, in_first, State, Level}
use Rattle.pd_doc.specs.Records.{row, row_of, row_behind}
use Rattle.pd_doc.specs.Results.{◌>>=◌, Refuses}
use Rattle.pd_doc.specs.declared.refusal.DocRefusal.{DocRefusal}
use Rattle.pd_doc.proofs.ResultLemmas.{refused_then}
use Rattle.pd_lex.specs.Text.{Piece}
use Rattle.pd_atom.specs.Names.{Names}
use Rattle.pd_doc.specs.Views.{level_of, levels_of}
use Rattle.pd_doc.specs.declared.levels.OpenCanvas.{OpenCanvas}

set_step : {A : Type 0} (row vs : List A) (i : ℕ) (x : A) → i < length row → i < length vs → x ≡ get_or row i x →
    set (take i row ++ drop i vs) i x ≡ take (suc i) row ++ drop (suc i) vs
set_step [] vs i x h k e = absurd (omega arith)
set_step (r ∷ rs) [] i x h k e = absurd (omega arith)
set_step (r ∷ rs) (v ∷ vs) zero x h k e = ap (λ y. y ∷ vs) e
set_step (r ∷ rs) (v ∷ vs) (suc i) x h k e = ap (λ l. r ∷ l) (set_step rs vs i x (omega arith) (omega arith) e)

pub overlay_step : {A : Type 0} (row vs : List A) (i : ℕ) (x : A) → i < length row → i < length vs → x ≡ get_or row i x →
    set (take i row ++ drop i vs) i x ≡ take (i + 1) row ++ drop (i + 1) vs
overlay_step row vs i x h k e = rw add-one (set_step row vs i x h k e)

pub last_mapped : (es : List Element) (e : Element) → last_of (map entry_of (es ++ e ∷ [])) ≡ Some (entry_of e)
last_mapped [] e = refl
last_mapped (f ∷ []) e = refl
last_mapped (f ∷ g ∷ es) e = last_mapped (g ∷ es) e

pub in_last_mapped : (es : List Element) (e f : Element) → in_last (entry_of f) (map entry_of (es ++ e ∷ [])) ≡ map entry_of (es ++ f ∷ [])
in_last_mapped [] e f = refl
in_last_mapped (g ∷ []) e f = refl
in_last_mapped (g ∷ h ∷ es) e f = ap (λ l. entry_of g ∷ l) (in_last_mapped (h ∷ es) e f)

pub ruleset row_steps = (last_mapped, in_last_mapped)

pub placed_up : (z : ℤ) (row vs : List ℤ) → pos 0 ≤ℤ z →
    placed z row vs ≡ take (unsigned_abs z / 1000000) vs ++ overlaid row (drop (unsigned_abs z / 1000000) vs)
placed_up (pos m) row vs h = refl
placed_up (negsuc m) row vs h = absurd (omega (arith, ints))

pub placed_down : (z : ℤ) (row vs : List ℤ) → z <ℤ pos 0 → placed z row vs ≡ overlaid (drop (unsigned_abs z / 1000000) row) vs
placed_down (pos m) row vs h = absurd (omega (arith, ints))
placed_down (negsuc m) row vs h = refl

-- the state of these canvases
abbrev pub St : List OpenCanvas → ℕ → ℕ → State
St cs k w = record { levels = levels_of cs; elements = k; wires = w }

pub levels_pushed : (cs : List OpenCanvas) (c : OpenCanvas) → levels_of (cs ++ c ∷ []) ≡ level_of c ∷ levels_of cs
levels_pushed cs c = ap (map level_of) (reverse-append cs (c ∷ []))

pub row_is : (all cs : List OpenCanvas) (c : OpenCanvas) (es : List Element) (e : Element) (k w n : ℕ) (names : Names) (ps : List Piece) →
    all ≡ cs ++ c ∷ [] → c.boxes.items ≡ es ++ e ∷ [] →
    row (St all k w) names n ps ≡ (row_of (entry_of e) names n ps >>= (λ r. Ok (with_last r.0 (St all k w), r.1)))
unfolding row
row_is all cs c es e k w n names ps h g =
    let b : last_of (first_boxes (levels_of all)) ≡ Some (entry_of e) =
    ap (λ x. last_of (first_boxes (levels_of x))) h ∙ ap (λ x. last_of (first_boxes x)) (levels_pushed cs c)
    ∙ ap (λ x. last_of (map entry_of x)) g ∙ last_mapped es e in
    ap (λ o. row_behind o (St all k w) names n ps) b

pub row_refused : (all cs : List OpenCanvas) (c : OpenCanvas) (es : List Element) (e : Element) (k w n : ℕ) (names : Names) (ps : List Piece) (r : DocRefusal) →
    all ≡ cs ++ c ∷ [] → c.boxes.items ≡ es ++ e ∷ [] → Refuses r (row_of (entry_of e) names n ps) → Refuses r (row (St all k w) names n ps)
row_refused all cs c es e k w n names ps r h g f =
    subst (Refuses r) (sym (row_is all cs c es e k w n names ps h g))
    (refused_then r (row_of (entry_of e) names n ps) (λ x. Ok (with_last x.0 (St all k w), x.1)) f)

pub row_done : (all cs : List OpenCanvas) (c : OpenCanvas) (es : List Element) (e f : Element) (all' : List OpenCanvas) (c' : OpenCanvas) (k w n : ℕ) (names names' : Names) (ps : List Piece) →
    all ≡ cs ++ c ∷ [] → c.boxes.items ≡ es ++ e ∷ [] → all' ≡ cs ++ c' ∷ [] → level_of c' ≡ with_boxes (map entry_of (es ++ f ∷ [])) (level_of c) →
    row_of (entry_of e) names n ps ≡ Ok (entry_of f, names') → row (St all k w) names n ps ≡ Ok (St all' k w, names')
row_done all cs c es e f all' c' k w n names names' ps h g h' l r =
    let step : List Level → List Level = in_first (λ x. with_boxes (in_last (entry_of f) x.boxes) x) in
    let old : step (levels_of all) ≡ with_boxes (map entry_of (es ++ f ∷ [])) (level_of c) ∷ levels_of cs =
    ap (λ x. step (levels_of x)) h ∙ ap step (levels_pushed cs c)
    ∙ ap (λ x. with_boxes (in_last (entry_of f) (map entry_of x)) (level_of c) ∷ levels_of cs) g
    ∙ ap (λ x. with_boxes x (level_of c) ∷ levels_of cs) (in_last_mapped es e f) in
    let new : levels_of all' ≡ with_boxes (map entry_of (es ++ f ∷ [])) (level_of c) ∷ levels_of cs =
    ap levels_of h' ∙ levels_pushed cs c' ∙ ap (λ x. x ∷ levels_of cs) l in
    row_is all cs c es e k w n names ps h g ∙ ap (λ x. x >>= (λ y. Ok (with_last y.0 (St all k w), y.1))) r
    ∙ ap (λ x. Ok (record { levels = x; elements = k; wires = w }, names')) (old ∙ sym new)

pub ruleset place_steps = (placed_up, placed_down)
