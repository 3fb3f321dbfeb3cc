-- Drafts, by the names of abstractions.
use Rattle.std.specs.Prelude.{◌≡◌, ℕ, ◌==◌, List, [], ◌∷◌, Option, Some, None, if◌then◌else◌}
use Rattle.pd_canvas.specs.declared.tree.Doc.{Doc}

-- the draft of an abstraction: nothing where its name isn't there
abbrev pub draft_in : List (ℕ × Doc) → ℕ → Option Doc
draft_in [] name = None
draft_in (e ∷ es) name = if e.0 == name then Some e.1 else draft_in es name

-- the drafts once this is a name's: in the place of the one that it had, or last
abbrev pub with_draft : ℕ → Doc → List (ℕ × Doc) → List (ℕ × Doc)
with_draft name doc [] = (name, doc) ∷ []
with_draft name doc (e ∷ es) = if e.0 == name then (e.0, doc) ∷ es else e ∷ with_draft name doc es

-- the drafts without a name's
abbrev pub without_draft : ℕ → List (ℕ × Doc) → List (ℕ × Doc)
without_draft name [] = []
without_draft name (e ∷ es) = if e.0 == name then es else e ∷ without_draft name es

-- no name stands at two places
abbrev pub HasDistinctDrafts : List (ℕ × Doc) → Type 0
HasDistinctDrafts [] = Unit {0}
HasDistinctDrafts (e ∷ es) = (draft_in es e.0 ≡ None) × HasDistinctDrafts es
