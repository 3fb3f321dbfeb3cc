use Rattle.std.proofs.Common.{List}
use Rattle.pd_web.specs.declared.web.Web.{Web}
use Rattle.pd_misfits.specs.declared.wires.BoxWire.{BoxWire}
use Rattle.pd_turning.specs.Returns.{CanReturn}
use Rattle.pd_turning.proofs.ReturnLemmas.{Returning}
use Rattle.pd_turning.proofs.returning.put_back.Given as goal

abbrev pub invariant-loop-note : goal.invariant-loop-note
invariant-loop-note g l = (w : Web) (ms : List BoxWire) → CanReturn w l.fn.patch l.key ms l.notes → Returning w l.fn.patch l.patch l.key ms l.note-index l.fn.steps l.steps
