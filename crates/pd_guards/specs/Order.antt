-- When messages, boxes and what boxes say are in order: names are of the table, lists have at most 1,024 atoms, and numbers are in their
-- range.
use Rattle.std.specs.Prelude.{ℕ, ℤ, ◌<◌, ◌≤◌, ◌^◌, List, length, IfSome}
use Rattle.std.specs.List.{AllByRecursion}
use Rattle.pd_num.specs.Scale.{millionths, billionths, IsInRange}
use Rattle.pd_atom.specs.Names.{Names, Extends}
use Rattle.pd_atom.specs.Atoms.{IsOf, HoldsNumber}
use Rattle.pd_atom.specs.declared.Atom.{Atom}
use Rattle.pd_object.specs.declared.kinds.Kind.{Kind}
use Rattle.pd_object.specs.declared.kinds.Kind.TheVariants as kind
use Rattle.pd_object.specs.declared.kinds.Glue.{Glue}
use Rattle.pd_object.specs.declared.kinds.Glue.TheVariants as glue
use Rattle.pd_object.specs.declared.kinds.Panel.{Panel}
use Rattle.pd_object.specs.declared.kinds.Panel.TheVariants as panel
use Rattle.pd_object.specs.declared.kinds.Trigger.{Trigger}
use Rattle.pd_object.specs.declared.kinds.Trigger.TheVariants as trigger
use Rattle.pd_kind.specs.declared.states.State.{State}
use Rattle.pd_kind.specs.declared.states.State.TheVariants as state
use Rattle.pd_kind.specs.declared.messages.Target.{Target}
use Rattle.pd_kind.specs.declared.messages.Target.TheVariants as target
use Rattle.pd_kind.specs.declared.messages.Deed.{Deed}
use Rattle.pd_kind.specs.declared.messages.Deed.TheVariants as deed
use Rattle.pd_kind.specs.declared.messages.Notice.{Notice}
use Rattle.pd_kind.specs.declared.messages.Notice.TheVariants as notice
use Rattle.pd_object.specs.Ports.{IsSmallGlue}
use Rattle.pd_kind.specs.Rows.{Send}
use Rattle.pd_kind.specs.Said.{Said}
use Rattle.pd_kind.specs.Hearing.{Heard}
use Rattle.pd_glue.specs.Rows.{Hearing}

abbrev pub IsNumber : ℤ → Type 0
IsNumber z = IsInRange millionths z

-- a table has `bang`, `float`, `symbol` and `list`
abbrev pub HasFirst : Names → Type 0
HasFirst names = 4 ≤ length names

abbrev pub IsName : Names → ℕ → Type 0
IsName names s = s < length names

abbrev pub IsAtom : Names → Atom → Type 0
IsAtom names a = IsOf names a × HoldsNumber a

abbrev pub AreAtoms : Names → List Atom → Type 0
AreAtoms names atoms = AllByRecursion (IsAtom names) atoms

-- at most 1,024 atoms in order
pub record IsList (names : Names) (atoms : List Atom) : Type 0 where
  pub few : length atoms ≤ 1024
  pub all : AreAtoms names atoms

pub record IsMessage (names : Names) (selector : ℕ) (atoms : List Atom) : Type 0 where
  pub known : IsName names selector
  pub list : IsList names atoms

-- fewer than 2^32 numbers
pub record IsTable (values : List ℤ) : Type 0 where
  pub few : length values < 2 ^ 32
  pub numbers : AllByRecursion IsNumber values

-- what a box keeps at a time: a `vline~` has run no block beyond it
abbrev pub IsKept : Names → ℕ → State → Type 0
IsKept names now (state.Message text) = IsList names text
IsKept names now (state.FloatBox z) = IsNumber z
IsKept names now (state.SymbolBox s) = IsName names s
IsKept names now (state.Array values) = IsTable values
IsKept names now (state.Float z) = IsNumber z
IsKept names now (state.Int z) = IsNumber z
IsKept names now (state.Symbol s) = IsName names s
IsKept names now (state.Pack slots) = IsList names slots
IsKept names now (state.Route args) = IsList names args
IsKept names now (state.Select args) = IsList names args
IsKept names now (state.Swap left right) = IsNumber left × IsNumber right
IsKept names now (state.Change z) = IsNumber z
IsKept names now (state.Send name) = IfSome name (IsName names)
IsKept names now (state.Random seed range) = (seed < 2 ^ 32) × IsNumber range
IsKept names now (state.ListAppend stored) = IsList names stored
IsKept names now (state.ListPrepend stored) = IsList names stored
IsKept names now (state.Operation left right) = IsNumber left × IsNumber right
IsKept names now (state.Comparison left right) = IsNumber left × IsNumber right
IsKept names now (state.Division left right) = IsNumber left × IsNumber right
IsKept names now (state.Clip low high) = IsNumber low × IsNumber high
IsKept names now (state.Table values) = IsTable values
IsKept names now (state.Toggle value other saved) = IsNumber value × IsNumber other
IsKept names now (state.Snapshot held last) = IsInRange billionths last
IsKept names now (state.Vline r) = r.end ≤ now
IsKept names now s = Unit {0}

-- an outlet of a `trigger` that sends a number
abbrev pub IsConstant : Trigger → Type 0
IsConstant (trigger.Constant z) = IsNumber z
IsConstant t = Unit {0}

-- the atoms and numbers of a kind that boxes tell or send
abbrev pub HasWords : Names → Glue → Type 0
HasWords names (glue.FloatBox text) = AreAtoms names text
HasWords names (glue.SymbolBox text) = AreAtoms names text
HasWords names (glue.Trigger w outlets) = AllByRecursion IsConstant outlets
HasWords names (glue.Print words) = AreAtoms names words
HasWords names g = Unit {0}

pub record IsGlue (names : Names) (g : Glue) : Type 0 where
  pub small : IsSmallGlue g
  pub words : HasWords names g

-- the send name of a `bng` or a `tgl`
abbrev pub IsPanel : Names → Panel → Type 0
IsPanel names (panel.Bng button) = IfSome button.send (IsName names)
IsPanel names (panel.Tgl toggle) = IfSome toggle.send (IsName names)

abbrev pub IsKind : Names → Kind → Type 0
IsKind names (kind.Glue g) = IsGlue names g
IsKind names (kind.Panel p) = IsPanel names p
IsKind names k = Unit {0}

abbrev pub IsTarget : Names → Target → Type 0
IsTarget names (target.Outlet i) = Unit {0}
IsTarget names (target.Name s loud) = IsName names s

pub record IsSend (names : Names) (s : Send) : Type 0 where
  pub target : IsTarget names s.target
  pub message : IsMessage names s.selector s.atoms

abbrev pub IsDeed : Deed → Type 0
IsDeed (deed.WriteTable i z) = IsNumber z
IsDeed d = Unit {0}

abbrev pub IsNotice : Names → Notice → Type 0
IsNotice names (notice.NoMethod row selector) = IsName names selector
IsNotice names (notice.NoReceiver a) = IsOf names a
IsNotice names n = Unit {0}

-- what a box says
pub record IsSaid (names : Names) (said : Said) : Type 0 where
  pub sends : AllByRecursion (IsSend names) said.sends
  pub deed : IsDeed said.deed
  pub notices : AllByRecursion (IsNotice names) said.notices

-- what a hearing leaves, in a table that stays
pub record IsHeard (names : Names) (now : ℕ) (h : Heard) : Type 0 where
  pub kept : IsKept names now h.state
  pub said : IsSaid names h.said

-- what a hearing leaves, and the table of names goes on
pub record IsHearing (names : Names) (now : ℕ) (h : Hearing) : Type 0 where
  pub extends : Extends names h.names
  pub kept : IsKept h.names now h.state
  pub said : IsSaid h.names h.said
