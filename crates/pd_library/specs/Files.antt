-- What is known of files, by the names of abstractions.
use Rattle.std.specs.Prelude.{◌≡◌, ℕ, ◌==◌, List, [], ◌∷◌, Option, Some, None, if◌then◌else◌}
use Rattle.pd_library.specs.declared.answers.Answer.{Answer}

-- what is known of the file of an abstraction: nothing where its name isn't there
abbrev pub answer_in : List (ℕ × Answer) → ℕ → Option Answer
answer_in [] name = None
answer_in (e ∷ es) name = if e.0 == name then Some e.1 else answer_in es name

-- the files once this is known of a name: in the place of what was known of it, or last
abbrev pub with_answer : ℕ → Answer → List (ℕ × Answer) → List (ℕ × Answer)
with_answer name answer [] = (name, answer) ∷ []
with_answer name answer (e ∷ es) = if e.0 == name then (e.0, answer) ∷ es else e ∷ with_answer name answer es

-- no name stands at two places
abbrev pub HasDistinctNames : List (ℕ × Answer) → Type 0
HasDistinctNames [] = Unit {0}
HasDistinctNames (e ∷ es) = (answer_in es e.0 ≡ None) × HasDistinctNames es
