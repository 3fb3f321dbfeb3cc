-- Brief messages: those without atoms, and those of one number.
use Rattle.std.specs.Prelude.{ℕ, suc, ◌==◌, Bool, true, false, ◌&&◌, ◌||◌, List, [], ◌∷◌, Option, Some, None}
use Rattle.pd_atom.specs.declared.Atom.{Atom}
use Rattle.pd_atom.specs.declared.Atom.TheVariants.{Number}
use Rattle.pd_object.specs.declared.kinds.Kind.{Kind}
use Rattle.pd_object.specs.declared.kinds.Kind.TheVariants as kind
use Rattle.pd_object.specs.declared.kinds.Arith.{Arith}
use Rattle.pd_object.specs.declared.kinds.Arith.TheVariants as arith
use Rattle.pd_object.specs.declared.kinds.Glue.{Glue}
use Rattle.pd_object.specs.declared.kinds.Glue.TheVariants as glue
use Rattle.pd_object.specs.declared.kinds.Side.TheVariants.{Inlet}
use Rattle.pd_kind.specs.declared.states.State.{State}
use Rattle.pd_kind.specs.declared.states.State.TheVariants as state
use Rattle.pd_kind.specs.Said.{Said, silent, sends_only, send_to, bang_to}
use Rattle.pd_kind.specs.declared.messages.Deed.TheVariants.{Again}
use Rattle.pd_grove.specs.Telling.{kind_in}
use Rattle.pd_hearing.specs.Worlds.{Net}
use Rattle.pd_hearing.specs.declared.briefs.Asked.{Asked}
use Rattle.pd_hearing.specs.declared.briefs.Asked.TheVariants as asked
use Rattle.pd_hearing.specs.declared.briefs.Brief.{Brief}
use Rattle.pd_hearing.specs.declared.briefs.Brief.TheVariants as brief
use Rattle.pd_hearing.specs.declared.briefs.Reaction.{Reaction}
use Rattle.pd_hearing.specs.declared.briefs.Reaction.TheVariants as reaction

-- `bang` and `float` are the first names of every table
abbrev pub selector_of : Brief → ℕ
selector_of brief.Bang = 0
selector_of (brief.Float z) = 1

abbrev pub atoms_of : Brief → List Atom
atoms_of brief.Bang = []
atoms_of (brief.Float z) = Number z ∷ []

-- what a box says, in whose place this message stands: nothing, or it to its first outlet
abbrev pub said_of : Reaction → Brief → Said
said_of reaction.Says m = sends_only (send_to 0 (selector_of m) (atoms_of m) ∷ [])
said_of r m = silent

-- this holds where a box has heard the message
abbrev pub IfHeard : Reaction → Type 0 → Type 0
IfHeard reaction.Unheard P = Unit {0}
IfHeard r P = P

-- and this where it has not
abbrev pub IfUnheard : Reaction → Type 0 → Type 0
IfUnheard reaction.Unheard P = P
IfUnheard r P = Unit {0}

-- what an `until` says that goes on: a bang, and that it is to be resumed
abbrev pub again : Said
again = record { sends = bang_to 0 ∷ []; deed = Again; notices = [] }

-- a box has heard the message
abbrev pub is_heard : Reaction → Bool
is_heard reaction.Unheard = false
is_heard r = true

-- what a box takes that keeps numbers: a number at any inlet, or a bang at the first one
abbrev pub is_taken : ℕ → Brief → Bool
is_taken inlet brief.Bang = inlet == 0
is_taken inlet (brief.Float z) = true

-- an arithmetic object with two inlets that keeps its two numbers
abbrev pub is_pair : Arith → State → Bool
is_pair (arith.Operation o z) (state.Operation left right) = true
is_pair (arith.Comparison c z) (state.Comparison left right) = true
is_pair (arith.Division d z) (state.Division left right) = true
is_pair a s = false

-- a `float` or an `int` that keeps its number
abbrev pub is_value : Glue → State → Bool
is_value (glue.Float w z) (state.Float v) = true
is_value (glue.Int w z) (state.Int v) = true
is_value g s = false

-- `bang`, `receive` and the `inlet` of a canvas
abbrev pub is_passage : Glue → Bool
is_passage (glue.Bang w) = true
is_passage (glue.Receive w n) = true
is_passage (glue.Port Inlet) = true
is_passage g = false

-- The brief messages that are answered at a box of a kind that keeps this. All others are left to the general hearing.
abbrev pub is_answered : Kind → State → ℕ → Brief → Bool
is_answered (kind.Arith a) s inlet m = is_pair a s && is_taken inlet m
is_answered (kind.Glue g) s inlet m = is_passage g || is_value g s && is_taken inlet m
is_answered k s inlet m = false

-- the same of a box, which answers nothing while its state is out
abbrev pub is_answered_in : Option Kind → Option State → ℕ → Brief → Bool
is_answered_in (Some k) (Some s) inlet m = is_answered k s inlet m
is_answered_in k s inlet m = false

-- the same of the box of a key
abbrev pub is_answered_at : Net → (ℕ → Option State) → ℕ → ℕ → Brief → Bool
is_answered_at net states node inlet m = is_answered_in (kind_in (net.nodes node)) (states node) inlet m

-- the kinds to which most brief messages go: `float`, and the operations, as `+`
abbrev pub is_common : Kind → Bool
is_common (kind.Glue (glue.Float w z)) = true
is_common (kind.Arith (arith.Operation o z)) = true
is_common k = false

-- the boxes of a kind are asked
abbrev pub is_asked : Asked → Kind → Bool
is_asked asked.All k = true
is_asked asked.Common k = is_common k

abbrev pub is_asked_in : Asked → Option Kind → Bool
is_asked_in a (Some k) = is_asked a k
is_asked_in a None = false

-- an `until` has a turn left: it runs, and its count isn't 0
abbrev pub has_turn_left : Bool → Option ℕ → Bool
has_turn_left true None = true
has_turn_left true (Some (suc n)) = true
has_turn_left running count = false

-- a box of a kind that keeps this goes on when it is resumed: it is an `until` that has a turn left
abbrev pub has_turn : Kind → State → Bool
has_turn (kind.Glue glue.Until) (state.Until running count) = has_turn_left running count
has_turn k s = false

-- the same of a box, which doesn't go on while its state is out
abbrev pub has_turn_in : Option Kind → Option State → Bool
has_turn_in (Some k) (Some s) = has_turn k s
has_turn_in k s = false

-- the same of the box of a key
abbrev pub has_turn_at : Net → (ℕ → Option State) → ℕ → Bool
has_turn_at net states node = has_turn_in (kind_in (net.nodes node)) (states node)
