-- What boxes keep that a save writes: texts that read back as they are, and as many values as at first.
use Rattle.std.specs.Prelude.{◌≡◌, ℕ, List, length, Option, IfSome}
use Rattle.std.specs.List.{AllByRecursion}
use Rattle.std.specs.Option.{option_map_or}
use Rattle.pd_atom.specs.declared.Atom.{Atom}
use Rattle.pd_atom.specs.Names.{Names, Extends, IsTable}
use Rattle.pd_atom.specs.Tokens.{IsSettled}
use Rattle.pd_clock.specs.declared.times.Rate.TheVariants.{R44100}
use Rattle.pd_object.specs.declared.kinds.Kind.{Kind}
use Rattle.pd_object.specs.declared.kinds.Kind.TheVariants as kind
use Rattle.pd_object.specs.declared.kinds.Glue.{Glue}
use Rattle.pd_object.specs.declared.kinds.Glue.TheVariants as glue
use Rattle.pd_kind.specs.declared.states.State.{State}
use Rattle.pd_kind.specs.declared.states.State.TheVariants as state
use Rattle.pd_hearing.specs.Worlds.{Kept}
use Rattle.pd_kind.specs.Fit.{fixed_count}
use Rattle.pd_kind.specs.States.{start_of}

-- each atom is what its spelling reads as, in this table of names and wherever it goes on
abbrev pub StaySettled : Names → List Atom → Type 0
StaySettled names text = (later : Names) → Extends names later → IsTable later → AllByRecursion (IsSettled later) text

-- a message box keeps a text that stays so, and an array or a table so many values
abbrev pub HasContents : ℕ → Names → State → Type 0
HasContents count names (state.Message text) = StaySettled names text
HasContents count names (state.Array values) = length values ≡ count
HasContents count names (state.Table values) = length values ≡ count
HasContents count names s = Unit {0}

-- these boxes, where so many values are those of each
abbrev pub HaveContents : (ℕ → Type 0) → (ℕ → ℕ) → Names → (ℕ → Option State) → Type 0
HaveContents Own counts names states = (k : ℕ) → Own k → IfSome (states k) (HasContents (counts k) names)

-- what is kept after a table of names: it goes on, and the contents are there in it
pub record GoesOn (Own : ℕ → Type 0) (counts : ℕ → ℕ) (first : Names) (kept : Kept) : Type 0 where
  pub names : Extends first kept.names
  pub contents : HaveContents Own counts kept.names kept.states

-- how many values a box of a kind keeps at first
abbrev pub count_of : Kind → ℕ
count_of k = fixed_count (start_of k R44100)

-- of each of these boxes, and none under a key without a box
abbrev pub counts_of : (ℕ → Option Kind) → ℕ → ℕ
counts_of kinds k = option_map_or count_of (kinds k) 0

abbrev pub IsGlueSettled : Names → Glue → Type 0
IsGlueSettled names (glue.Message text) = StaySettled names text
IsGlueSettled names g = Unit {0}

-- the text of a message box, as it was loaded, stays so
abbrev pub IsKindSettled : Names → Kind → Type 0
IsKindSettled names (kind.Glue g) = IsGlueSettled names g
IsKindSettled names k = Unit {0}

-- of these boxes
abbrev pub AreKindsSettled : (ℕ → Type 0) → Names → (ℕ → Option Kind) → Type 0
AreKindsSettled Own names kinds = (k : ℕ) → Own k → IfSome (kinds k) (IsKindSettled names)
