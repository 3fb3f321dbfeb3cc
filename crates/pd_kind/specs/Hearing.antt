-- What a hearing leaves, and how a list is spread over the inlets of a box that doesn't speak of lists.
use Rattle.std.specs.Prelude.{ℕ, ℤ, List, Option, Some, slice_get}
use Rattle.pd_atom.specs.declared.Atom.{Atom}
use Rattle.pd_atom.specs.declared.Atom.TheVariants as atom
use Rattle.pd_kind.specs.declared.messages.Sort.{Sort}
use Rattle.pd_kind.specs.declared.messages.Sort.TheVariants as sort
use Rattle.pd_kind.specs.declared.states.State.{State}
use Rattle.pd_naming.specs.Naming.{number_at}
use Rattle.pd_kind.specs.Said.{Said}

-- what a hearing leaves: the state and what is said
pub record Heard : Type 0 where
  pub state : State
  pub said : Said

-- the selector of a list's first atom, which is heard once the others are stored
abbrev pub sort_of_atom : Option Atom → Sort
sort_of_atom (Some (atom.Number z)) = sort.Float z
sort_of_atom (Some (atom.Symbol s)) = sort.Symbol s
sort_of_atom _ = sort.Other

-- what a list is heard as at inlet 0, once its other atoms are stored; another message is heard as it is
abbrev pub first_sort : Sort → List Atom → Sort
first_sort sort.List atoms = sort_of_atom (slice_get atoms 0)
first_sort s atoms = s

-- the selector that a line tells: a spread list is told as its first atom
abbrev pub told : Sort → ℕ → ℕ
told (sort.Float z) selector = 1
told (sort.Symbol s) selector = 2
told s selector = selector

-- the number that a list stores at its i-th inlet, where it has one there
abbrev pub stored : Sort → List Atom → ℕ → ℤ → ℤ
stored sort.List atoms i z = number_at atoms i z
stored s atoms i z = z
