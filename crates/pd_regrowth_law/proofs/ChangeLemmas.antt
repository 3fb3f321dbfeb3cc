-- A library that answers otherwise for one name, and boxes that don't ask for it.
use Rattle.std.proofs.Common.{◌≡◌, ℕ, ◌==◌, Bool, true, false, ◌||◌, List, [], ◌∷◌, Option, Some, None, if◌then◌else◌, refl, sym, ap, ◌∙◌, subst, true≢false}
use Rattle.std.specs.List.{list_any}
use Rattle.std.proofs.lemmas.Bool.{eqb-true, eqb-false, eq-eqb, or_parts}
use Rattle.std.proofs.lemmas.List.Folds.{list_any-append}
use Rattle.pd_atom.specs.Names.{Names}
use Rattle.pd_atom.proofs.CaseLemmas.{by_test}
use Rattle.pd_canvas.specs.declared.tree.Doc.{Doc}
use Rattle.pd_canvas.specs.Pages.{Boxes, End}
use Rattle.pd_library.specs.declared.answers.Answer.{Answer}
use Rattle.pd_library.specs.declared.answers.Answer.TheVariants.{Found, Absent, Bad}
use Rattle.pd_library.specs.Files.{answer_in, with_answer}
use Rattle.pd_tree.specs.Trees.{Cell, Trees, Done, Leaf, Holder, Stand, join, stands_of}
use Rattle.pd_regrowth_law.specs.Suits.{TextsOf, IsLibraryOf, AnswersAlike}
use Rattle.pd_regrowth_law.specs.Asking.{cell_asks, asks_for, AnswersAlikeBut}
use Rattle.pd_regrowth_law.proofs.AskLemmas.{IsAlikeIn}

-- ---- what boxes ask for

pub asks_in_order : (name : ℕ) (t : Trees) → asks_for name t ≡ list_any (λ (s : Stand). cell_asks name s.cell) (stands_of t)
asks_in_order name Done = refl
asks_in_order name (Leaf c rest) = ap (λ b. cell_asks name c || b) (asks_in_order name rest)
asks_in_order name (Holder c s inner rest) =
    ap (λ b. cell_asks name c || (b || asks_for name rest)) (asks_in_order name inner)
    ∙ ap (λ b. cell_asks name c || (list_any (λ (s : Stand). cell_asks name s.cell) (stands_of inner) || b)) (asks_in_order name rest)
    ∙ ap (λ b. cell_asks name c || b) (sym (list_any-append (λ (s : Stand). cell_asks name s.cell) (stands_of inner) (stands_of rest)))

or_assoc : (a b c : Bool) → (a || (b || c)) ≡ ((a || b) || c)
or_assoc true b c = refl
or_assoc false b c = refl

pub asks_join : (name : ℕ) (t r : Trees) → asks_for name (join t r) ≡ (asks_for name t || asks_for name r)
asks_join name Done r = refl
asks_join name (Leaf c t) r = ap (λ b. cell_asks name c || b) (asks_join name t r) ∙ or_assoc (cell_asks name c) (asks_for name t) (asks_for name r)
asks_join name (Holder c s inner t) r =
    let i = asks_for name inner in
    ap (λ b. cell_asks name c || (i || b)) (asks_join name t r)
    ∙ ap (λ b. cell_asks name c || b) (or_assoc i (asks_for name t) (asks_for name r))
    ∙ or_assoc (cell_asks name c) (i || asks_for name t) (asks_for name r)

-- ---- libraries that answer alike for what boxes ask for

pub alike_all : (lib lib2 : ℕ → Option Answer) (t : Trees) → AnswersAlike lib lib2 → IsAlikeIn lib lib2 t
alike_all lib lib2 Done like = tt
alike_all lib lib2 (Leaf c rest) like = (λ s y. like s, alike_all lib lib2 rest like)
alike_all lib lib2 (Holder c s inner rest) like = (λ s y. like s, alike_all lib lib2 inner like, alike_all lib lib2 rest like)

-- a box that doesn't ask for the name asks for another one, if it asks
not_this : (name : ℕ) (c : Cell) (s : ℕ) → cell_asks name c ≡ false → cell_asks s c ≡ true → s ≡ name → ⊥
not_this name c s none y is = true≢false (sym y ∙ ap (λ k. cell_asks k c) is ∙ none)

pub alike_but : (name : ℕ) (lib lib2 : ℕ → Option Answer) (t : Trees) → AnswersAlikeBut name lib lib2 → asks_for name t ≡ false → IsAlikeIn lib lib2 t
alike_but name lib lib2 Done like none = tt
alike_but name lib lib2 (Leaf c rest) like none =
    let parts = or_parts (cell_asks name c) (asks_for name rest) none in
    (λ s y x. like s x (not_this name c s parts.0 y), alike_but name lib lib2 rest like parts.1)
alike_but name lib lib2 (Holder c s inner rest) like none =
    let parts = or_parts (cell_asks name c) (asks_for name inner || asks_for name rest) none in
    let both = or_parts (asks_for name inner) (asks_for name rest) parts.1 in
    (λ s y x. like s x (not_this name c s parts.0 y), alike_but name lib lib2 inner like both.0, alike_but name lib lib2 rest like both.1)

-- ---- files in which a document is published

published_else : (name : ℕ) (answer : Answer) (es : List (ℕ × Answer)) (s : ℕ) → (s ≡ name → ⊥) → answer_in (with_answer name answer es) s ≡ answer_in es s
published_else name answer [] s other =
    by_test (name == s) (λ y. absurd (other (sym (eqb-true name s y)))) (λ n. (λ i. if n i then Some answer else None))
published_else name answer (e ∷ es) s other =
    by_test (e.0 == name)
    (λ t. by_test (e.0 == s) (λ y. absurd (other (sym (eqb-true e.0 s y) ∙ eqb-true e.0 name t)))
    (λ n. (λ i. answer_in (if t i then (e.0, answer) ∷ es else e ∷ with_answer name answer es) s)
    ∙ (λ i. if n i then Some answer else answer_in es s) ∙ sym (λ i. if n i then Some e.1 else answer_in es s)))
    (λ f. (λ i. answer_in (if f i then (e.0, answer) ∷ es else e ∷ with_answer name answer es) s)
    ∙ (λ i. if e.0 == s then Some e.1 else published_else name answer es s other i))

published_here : (name : ℕ) (answer : Answer) (es : List (ℕ × Answer)) → answer_in (with_answer name answer es) name ≡ Some answer
published_here name answer [] = (λ i. if eq-eqb name name refl i then Some answer else None)
published_here name answer (e ∷ es) =
    by_test (e.0 == name)
    (λ t. (λ i. answer_in (if t i then (e.0, answer) ∷ es else e ∷ with_answer name answer es) name) ∙ (λ i. if t i then Some answer else answer_in es name))
    (λ f. (λ i. answer_in (if f i then (e.0, answer) ∷ es else e ∷ with_answer name answer es) name)
    ∙ (λ i. if f i then Some e.1 else answer_in (with_answer name answer es) name) ∙ published_here name answer es)

pub alike_published : (name : ℕ) (answer : Answer) (es : List (ℕ × Answer)) → AnswersAlikeBut name (answer_in es) (answer_in (with_answer name answer es))
alike_published name answer es s x other at = published_else name answer es s other ∙ at

boxes_or : Boxes → Option Answer → Boxes
boxes_or b (Some (Found d)) = d.root.boxes
boxes_or b (Some Absent) = b
boxes_or b (Some (Bad n)) = b
boxes_or b None = b

same_boxes : (d e : Doc) → Some (Found d) ≡ Some (Found e) → d.root.boxes ≡ e.root.boxes
unfolding boxes_or
same_boxes d e h = ap (boxes_or End) h

pub library_published : (names : Names) (name : ℕ) (d : Doc) (es : List (ℕ × Answer)) → TextsOf names d.root.boxes → IsLibraryOf names (answer_in es)
    → IsLibraryOf names (answer_in (with_answer name (Found d) es))
library_published names name d es k l = record {
  texts = λ s e at. by_test (s == name)
      (λ y. let here : answer_in (with_answer name (Found d) es) s ≡ Some (Found d) =
      ap (answer_in (with_answer name (Found d) es)) (eqb-true s name y) ∙ published_here name (Found d) es in
      subst (TextsOf names) (same_boxes d e (sym here ∙ at)) k)
      (λ n. l.texts s e (sym (published_else name (Found d) es s (eqb-false s name n)) ∙ at));
}
