-- Drafts as the entries of a map.
use Rattle.std.proofs.Common.{◌≡◌, ℕ, false, cond, List, [], ◌∷◌, nat_eq, None, Some, refl, ◌∙◌, if◌then◌else◌, arith}
use Rattle.std.specs.List.{AllByRecursion, IsDistinct}
use Rattle.std.specs.Map.{lookup, keys_of}
use Rattle.std.proofs.lemmas.Bool.Decides.{nat_tests}
use Rattle.indexmap.specs.IndexMap.{insert_entry, shift_remove_entry}
use Rattle.pd_canvas.specs.declared.tree.Doc.{Doc}
use Rattle.pd_library.specs.Drafts.{draft_in, with_draft, without_draft, HasDistinctDrafts}

turned : (m n : ℕ) → nat_eq m n ≡ nat_eq n m
turned m n = grind (arith, nat_tests)

-- what a look-up finds is the draft
pub draft_found : (es : List (ℕ × Doc)) (name : ℕ) → lookup (nat_eq name) es ≡ draft_in es name
draft_found [] name = refl
draft_found (e ∷ es) name = (λ i. cond (turned name e.0 i) (Some e.1) (draft_found es name i))

-- a name keeps its place
pub drafted : (es : List (ℕ × Doc)) (name : ℕ) (d : Doc) → insert_entry nat_eq es name d ≡ with_draft name d es
drafted [] name d = refl
drafted (e ∷ es) name d = (λ i. if turned name e.0 i then (e.0, d) ∷ es else (e ∷ drafted es name d i))

-- the others keep their order
pub ended : (es : List (ℕ × Doc)) (name : ℕ) → shift_remove_entry (nat_eq name) es ≡ without_draft name es
ended [] name = refl
ended (e ∷ es) name = (λ i. if turned name e.0 i then es else (e ∷ ended es name i))

-- keys that are distinct are distinct names
pub distinct_drafts : (es : List (ℕ × Doc)) → IsDistinct nat_eq (keys_of es) → HasDistinctDrafts es
unfolding IsDistinct
distinct_drafts [] h = tt
distinct_drafts (e ∷ es) h = (none_later e.0 es h.0, distinct_drafts es h.1)
  where
    none_later : (name : ℕ) (fs : List (ℕ × Doc)) → AllByRecursion (λ y. nat_eq name y ≡ false) (keys_of fs) → draft_in fs name ≡ None
    none_later name [] h = refl
    none_later name (f ∷ fs) h = (λ i. if (turned f.0 name ∙ h.0) i then Some f.1 else none_later name fs h.1 i)
