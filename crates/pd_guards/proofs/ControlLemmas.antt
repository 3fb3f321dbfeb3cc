-- The control objects and the signal objects keep and say what is in order.
use Rattle.std.proofs.Common.{ℕ, ℤ, List, Option, IfSome}
use Rattle.pd_atom.specs.Names.{Names}
use Rattle.pd_atom.specs.declared.Atom.{Atom}
use Rattle.pd_object.specs.declared.kinds.Kind.{Kind}
use Rattle.pd_object.specs.declared.kinds.Kind.TheVariants as kind
use Rattle.pd_object.specs.declared.kinds.Glue.{Glue}
use Rattle.pd_object.specs.declared.kinds.Glue.TheVariants as glue
use Rattle.pd_kind.specs.declared.states.State.{State}
use Rattle.pd_kind.specs.Hearing.{Heard}
use Rattle.pd_glue.specs.Rows.{with_names, quiet, tone_row, signal_row, glue_heard, heard, fired, resumed}
use Rattle.pd_guards.specs.Order.{HasFirst, IsMessage, IsTable, IsKept, IsGlue, IsKind, IsSaid, IsHeard, IsHearing}
use Rattle.pd_guards.proofs.BaseLemmas.{silence, quietly}
use Rattle.pd_guards.proofs.NameLemmas.{same_table}
use Rattle.pd_guards.proofs.PlainLemmas.{plain_in, fired_in, resumed_plain}
use Rattle.pd_guards.proofs.ListLemmas.{list_in}
use Rattle.pd_guards.proofs.BoxLemmas.{box_in}
use Rattle.pd_guards.proofs.SoundLemmas.{sounding_in}

pub stays : (names : Names) (limit : ℕ) (h : Heard) → IsHeard names limit h → IsHearing names limit (with_names names h)
stays names limit h k = record { extends = same_table names; kept = k.kept; said = k.said }

module _ (names : Names) (first : HasFirst names) (limit : ℕ) where
  pub quiet_in : (s : State) → IsKept names limit s → IsHearing names limit (quiet names s)
  quiet_in s h = record { extends = same_table names; kept = h; said = silence names first }

  glue_in : (g : Glue) (s : State) (inlet selector : ℕ) (atoms : List Atom) (now : ℕ) (table : Option (List ℤ)) → IsGlue names g → IsKept names limit s → IsMessage names selector atoms → IfSome table IsTable
      → IsHearing names limit (glue_heard names g s inlet selector atoms now table)
  glue_in (glue.Message text) s inlet selector atoms now table h k m t = box_in names first limit s selector atoms k m
  glue_in (glue.Trigger w outs) s inlet selector atoms now table h k m t = stays names limit _ (list_in names first limit (glue.Trigger w outs) s inlet selector atoms h.words k m)
  glue_in (glue.Pack slots) s inlet selector atoms now table h k m t = stays names limit _ (list_in names first limit (glue.Pack slots) s inlet selector atoms h.words k m)
  glue_in (glue.Unpack slots) s inlet selector atoms now table h k m t = stays names limit _ (list_in names first limit (glue.Unpack slots) s inlet selector atoms h.words k m)
  glue_in (glue.Route args) s inlet selector atoms now table h k m t = stays names limit _ (list_in names first limit (glue.Route args) s inlet selector atoms h.words k m)
  glue_in (glue.Select w args) s inlet selector atoms now table h k m t = stays names limit _ (list_in names first limit (glue.Select w args) s inlet selector atoms h.words k m)
  glue_in (glue.ListAppend w a) s inlet selector atoms now table h k m t = stays names limit _ (list_in names first limit (glue.ListAppend w a) s inlet selector atoms h.words k m)
  glue_in (glue.ListPrepend a) s inlet selector atoms now table h k m t = stays names limit _ (list_in names first limit (glue.ListPrepend a) s inlet selector atoms h.words k m)
  glue_in (glue.ListSplit z) s inlet selector atoms now table h k m t = stays names limit _ (list_in names first limit (glue.ListSplit z) s inlet selector atoms h.words k m)
  glue_in glue.ListTrim s inlet selector atoms now table h k m t = stays names limit _ (list_in names first limit glue.ListTrim s inlet selector atoms h.words k m)
  glue_in glue.ListLength s inlet selector atoms now table h k m t = stays names limit _ (list_in names first limit glue.ListLength s inlet selector atoms h.words k m)
  glue_in g s inlet selector atoms now table h k m t = stays names limit _ (plain_in names first limit g s inlet selector atoms now table h.words k m t)

  pub control_in : (k : Kind) (s : State) (inlet selector : ℕ) (atoms : List Atom) (now : ℕ) (table : Option (List ℤ)) → IsKind names k → IsKept names limit s → IsMessage names selector atoms → IfSome table IsTable
      → IsHearing names limit (heard names k s inlet selector atoms now table)
  unfolding heard
  control_in (kind.Glue g) s inlet selector atoms now table h k m t = glue_in g s inlet selector atoms now table h k m t
  control_in (kind.Tone x) s inlet selector atoms now table h k m t = stays names limit _ (sounding_in names first limit (tone_row x) s inlet selector atoms k m)
  control_in (kind.Signal x) s inlet selector atoms now table h k m t = stays names limit _ (sounding_in names first limit (signal_row x) s inlet selector atoms k m)
  control_in x s inlet selector atoms now table h k m t = quiet_in s k

  pub fired_said : (k : Kind) (s : State) → IsSaid names (fired k s)
  unfolding fired
  fired_said (kind.Glue g) s = fired_in names first limit g s
  fired_said k s = silence names first

  pub resumed_kind : (k : Kind) (s : State) → IsKept names limit s → IsHeard names limit (resumed k s)
  unfolding resumed
  resumed_kind (kind.Glue g) s h = resumed_plain names first limit g s h
  resumed_kind k s h = quietly names first limit s h
