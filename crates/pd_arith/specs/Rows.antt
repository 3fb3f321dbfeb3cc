-- What the arithmetic objects do with a message.
use Rattle.std.specs.Prelude.{ℕ, ℤ, pos, ◌==◌, Bool, int_lt, unsigned_abs, List, [], ◌∷◌, if◌then◌else◌}
use Rattle.pd_atom.specs.declared.Atom.{Atom}
use Rattle.pd_object.specs.declared.kinds.Arith.{Arith}
use Rattle.pd_object.specs.declared.kinds.Arith.TheVariants as arith
use Rattle.pd_object.specs.declared.kinds.Kind.{Kind}
use Rattle.pd_object.specs.declared.kinds.Kind.TheVariants as kind
use Rattle.pd_object.specs.declared.kinds.Operation.{Operation}
use Rattle.pd_object.specs.declared.kinds.Comparison.{Comparison}
use Rattle.pd_object.specs.declared.kinds.Division.{Division}
use Rattle.pd_object.specs.declared.kinds.Function.{Function}
use Rattle.pd_object.specs.declared.kinds.Function.TheVariants as function
use Rattle.pd_kind.specs.declared.messages.Sort.{Sort}
use Rattle.pd_kind.specs.declared.messages.Sort.TheVariants as sort
use Rattle.pd_object.specs.declared.row_names.Row.{Row}
use Rattle.pd_object.specs.declared.row_names.Row.TheVariants as row
use Rattle.pd_kind.specs.declared.states.State.{State}
use Rattle.pd_kind.specs.declared.states.State.TheVariants as state
use Rattle.pd_kind.specs.Messages.{sort_of}
use Rattle.pd_kind.specs.Said.{Said, silent, sends_only, number_to, deaf}
use Rattle.pd_kind.specs.Hearing.{Heard, first_sort, told, stored}
use Rattle.pd_arith.specs.declared.pairs.Binary.{Binary}
use Rattle.pd_arith.specs.declared.pairs.Binary.TheVariants as binary
use Rattle.pd_arith.specs.Operations.{operation_of, comparison_of, division_of}
use Rattle.pd_arith.specs.Frequency.{frequency_of}

-- two numbers and what is said
pub record Pair : Type 0 where
  pub left : ℤ
  pub right : ℤ
  pub said : Said

-- the objects with two inlets: what they compute, and their row
abbrev pub binary_of : Binary → ℤ → ℤ → ℤ
binary_of (binary.Operation o) a b = operation_of o a b
binary_of (binary.Comparison c) a b = comparison_of c a b
binary_of (binary.Division d) a b = division_of d a b

abbrev pub row_of : Binary → Row
row_of (binary.Operation o) = row.Operation
row_of (binary.Comparison c) = row.Comparison
row_of (binary.Division d) = row.Division

abbrev pub computed : Binary → ℤ → ℤ → Pair
computed b left right = record { left = left; right = right; said = sends_only (number_to 0 (binary_of b left right) ∷ []) }

-- Inlet 0: a float becomes the left value and computes, a bang computes.
abbrev pub pair_hot : Binary → ℤ → ℤ → ℕ → Sort → Pair
pair_hot b left right selector (sort.Float z) = computed b z right
pair_hot b left right selector sort.Bang = computed b left right
pair_hot b left right selector s = record { left = left; right = right; said = deaf (row_of b) (told s selector) }

-- Inlet 1: a float becomes the right value.
abbrev pub pair_cold : Binary → ℤ → ℤ → ℕ → Sort → Pair
pair_cold b left right selector (sort.Float z) = record { left = left; right = z; said = silent }
pair_cold b left right selector s = record { left = left; right = right; said = deaf (row_of b) selector }

abbrev pub pair_row : Binary → ℤ → ℤ → ℕ → ℕ → List Atom → Pair
pair_row b left right inlet selector atoms =
    if inlet == 0 then pair_hot b left (stored (sort_of selector atoms) atoms 1 right) selector (first_sort (sort_of selector atoms) atoms)
    else pair_cold b left right selector (sort_of selector atoms)

-- a number limited to two others
abbrev pub clipped : ℤ → ℤ → ℤ → ℤ
clipped low high z = if int_lt z low then low else if int_lt high z then high else z

-- Inlet 0: a float is clipped.
abbrev pub clip_hot : ℤ → ℤ → ℕ → Sort → Said
clip_hot low high selector (sort.Float z) = sends_only (number_to 0 (clipped low high z) ∷ [])
clip_hot low high selector s = deaf row.Clip (told s selector)

-- Inlets 1 and 2: a float becomes the lower and the upper limit.
abbrev pub clip_cold : ℤ → ℤ → ℕ → ℕ → Sort → Pair
clip_cold low high inlet selector (sort.Float z) = if inlet == 1 then record { left = z; right = high; said = silent } else record { left = low; right = z; said = silent }
clip_cold low high inlet selector s = record { left = low; right = high; said = deaf row.Clip selector }

abbrev pub clip_with : ℤ → ℤ → Said → Pair
clip_with low high said = record { left = low; right = high; said = said }

abbrev pub clip_heard : ℤ → ℤ → ℕ → Sort → Pair
clip_heard low high selector s = clip_with low high (clip_hot low high selector s)

abbrev pub clip_row : ℤ → ℤ → ℕ → ℕ → List Atom → Pair
clip_row low high inlet selector atoms =
    if inlet == 0
    then clip_heard (stored (sort_of selector atoms) atoms 1 low) (stored (sort_of selector atoms) atoms 2 high) selector (first_sort (sort_of selector atoms) atoms)
    else clip_cold low high inlet selector (sort_of selector atoms)

-- the magnitude, and the frequency of a note's number
abbrev pub function_of : Function → ℤ → ℤ
function_of function.Magnitude z = pos (unsigned_abs z)
function_of function.Frequency z = frequency_of z

abbrev pub function_heard : Function → ℕ → Sort → Said
function_heard f selector (sort.Float z) = sends_only (number_to 0 (function_of f z) ∷ [])
function_heard f selector s = deaf row.Function (told s selector)

abbrev pub function_row : Function → ℕ → List Atom → Said
function_row f selector atoms = function_heard f selector (first_sort (sort_of selector atoms) atoms)

abbrev pub with_pair : (ℤ → ℤ → State) → Pair → Heard
with_pair make p = record { state = make p.left p.right; said = p.said }

-- What an arithmetic box that keeps this does with a message at an inlet. A state of another kind hears nothing.
abbrev pub arith_row : Arith → State → ℕ → ℕ → List Atom → Heard
arith_row (arith.Operation o z) (state.Operation left right) inlet selector atoms = with_pair state.Operation (pair_row (binary.Operation o) left right inlet selector atoms)
arith_row (arith.Comparison c z) (state.Comparison left right) inlet selector atoms = with_pair state.Comparison (pair_row (binary.Comparison c) left right inlet selector atoms)
arith_row (arith.Division d z) (state.Division left right) inlet selector atoms = with_pair state.Division (pair_row (binary.Division d) left right inlet selector atoms)
arith_row (arith.Clip l h) (state.Clip low high) inlet selector atoms = with_pair state.Clip (clip_row low high inlet selector atoms)
arith_row (arith.Function f) s inlet selector atoms = record { state = s; said = function_row f selector atoms }
arith_row a s inlet selector atoms = record { state = s; said = silent }

-- the same for a box of any kind; those of other families hear nothing
unfoldable pub heard : Kind → State → ℕ → ℕ → List Atom → Heard
heard (kind.Arith a) s inlet selector atoms = arith_row a s inlet selector atoms
heard k s inlet selector atoms = record { state = s; said = silent }
