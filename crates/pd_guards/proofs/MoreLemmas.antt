-- Where a table goes on, what is in order stays in order.
use Rattle.std.proofs.Common.{◌≡◌, ℕ, ◌+◌, ◌≤◌, List, length, Option, IfSome, ap, ◌∙◌, arith, length-append}
use Rattle.pd_atom.specs.Names.{Names, Extends}
use Rattle.pd_atom.specs.Atoms.{IsOf}
use Rattle.pd_atom.specs.declared.Atom.{Atom}
use Rattle.pd_atom.specs.declared.Atom.TheVariants as atom
use Rattle.pd_object.specs.declared.kinds.Kind.{Kind}
use Rattle.pd_object.specs.declared.kinds.Kind.TheVariants as kind
use Rattle.pd_object.specs.declared.kinds.Glue.{Glue}
use Rattle.pd_object.specs.declared.kinds.Glue.TheVariants as glue
use Rattle.pd_object.specs.declared.kinds.Panel.{Panel}
use Rattle.pd_object.specs.declared.kinds.Panel.TheVariants as panel
use Rattle.pd_kind.specs.declared.states.State.{State}
use Rattle.pd_kind.specs.declared.states.State.TheVariants as state
use Rattle.pd_kind.specs.declared.messages.Target.{Target}
use Rattle.pd_kind.specs.declared.messages.Target.TheVariants as target
use Rattle.pd_kind.specs.declared.messages.Notice.{Notice}
use Rattle.pd_kind.specs.declared.messages.Notice.TheVariants as notice
use Rattle.pd_kind.specs.Rows.{Send}
use Rattle.pd_kind.specs.Said.{Said}
use Rattle.pd_guards.specs.Order.{HasFirst, IsName, IsAtom, AreAtoms, IsList, IsMessage, IsKept, HasWords, IsPanel, IsKind, IsTarget, IsSend, IsNotice, IsSaid}
use Rattle.pd_guards.proofs.FactLemmas.{all-weaker, some-weaker}

pub longer : (old new : Names) → Extends old new → length old ≤ length new
longer old new e = let l : length new ≡ length old + length e.0 = ap length e.1 ∙ length-append old e.0 in omega arith

module _ (old new : Names) (l : length old ≤ length new) where
  pub first_more : HasFirst old → HasFirst new
  first_more h = omega (arith, h, l)

  pub name_more : (s : ℕ) → IsName old s → IsName new s
  name_more s h = omega (arith, h, l)

  pub of_more : (a : Atom) → IsOf old a → IsOf new a
  of_more (atom.Number z) h = tt
  of_more (atom.Symbol s) h = name_more s h
  of_more (atom.Dollar n) h = h
  of_more (atom.DollarSymbol s) h = name_more s h
  of_more atom.Comma h = tt
  of_more atom.Semi h = tt

  pub atom_more : (a : Atom) → IsAtom old a → IsAtom new a
  atom_more a h = (of_more a h.0, h.1)

  pub atoms_more : (atoms : List Atom) → AreAtoms old atoms → AreAtoms new atoms
  atoms_more atoms h = all-weaker (IsAtom old) (IsAtom new) atom_more atoms h

  pub list_more : (atoms : List Atom) → IsList old atoms → IsList new atoms
  list_more atoms h = record { few = h.few; all = atoms_more atoms h.all }

  pub message_more : (selector : ℕ) (atoms : List Atom) → IsMessage old selector atoms → IsMessage new selector atoms
  message_more selector atoms h = record { known = name_more selector h.known; list = list_more atoms h.list }

  pub maybe_more : (o : Option ℕ) → IfSome o (IsName old) → IfSome o (IsName new)
  maybe_more o h = some-weaker (IsName old) (IsName new) name_more o h

  pub kept_more : (limit : ℕ) (s : State) → IsKept old limit s → IsKept new limit s
  kept_more limit (state.Message text) h = list_more text h
  kept_more limit (state.SymbolBox s) h = name_more s h
  kept_more limit (state.Symbol s) h = name_more s h
  kept_more limit (state.Pack slots) h = list_more slots h
  kept_more limit (state.Route args) h = list_more args h
  kept_more limit (state.Select args) h = list_more args h
  kept_more limit (state.Send name) h = maybe_more name h
  kept_more limit (state.ListAppend stored) h = list_more stored h
  kept_more limit (state.ListPrepend stored) h = list_more stored h
  kept_more limit s h = h

  pub words_more : (g : Glue) → HasWords old g → HasWords new g
  words_more (glue.FloatBox text) h = atoms_more text h
  words_more (glue.SymbolBox text) h = atoms_more text h
  words_more (glue.Print words) h = atoms_more words h
  words_more g h = h

  pub panel_more : (p : Panel) → IsPanel old p → IsPanel new p
  panel_more (panel.Bng button) h = maybe_more button.send h
  panel_more (panel.Tgl toggle) h = maybe_more toggle.send h

  pub kind_more : (k : Kind) → IsKind old k → IsKind new k
  kind_more (kind.Glue g) h = record { small = h.small; words = words_more g h.words }
  kind_more (kind.Panel p) h = panel_more p h
  kind_more k h = tt

  pub target_more : (t : Target) → IsTarget old t → IsTarget new t
  target_more (target.Outlet i) h = tt
  target_more (target.Name s loud) h = name_more s h

  pub send_more : (s : Send) → IsSend old s → IsSend new s
  send_more s h = record { target = target_more s.target h.target; message = message_more s.selector s.atoms h.message }

  pub notice_more : (n : Notice) → IsNotice old n → IsNotice new n
  notice_more (notice.NoMethod row selector) h = name_more selector h
  notice_more (notice.NoReceiver a) h = of_more a h
  notice_more n h = tt

  pub said_more : (s : Said) → IsSaid old s → IsSaid new s
  said_more s h = record {
    sends = all-weaker (IsSend old) (IsSend new) send_more s.sends h.sends;
    deed = h.deed;
    notices = all-weaker (IsNotice old) (IsNotice new) notice_more s.notices h.notices;
  }
