use Rattle.pd_play.specs.Ending.{status_line}
use Rattle.pd_play.proofs.report.put_status.Goals as goal

pub returns-in-Usage-clause-err : goal.returns-in-Usage-clause-err
unfolding status_line
returns-in-Usage-clause-err g c = rw c.in-Usage.is c.put.ensures.err

pub returns-in-PatchAbsent-clause-ok : goal.returns-in-PatchAbsent-clause-ok
unfolding status_line
returns-in-PatchAbsent-clause-ok g c = rw c.in-PatchAbsent.is c.put_three.ensures.ok

pub returns-in-PatchAbsent-clause-err : goal.returns-in-PatchAbsent-clause-err
unfolding status_line
returns-in-PatchAbsent-clause-err g c = rw c.in-PatchAbsent.is c.put_three.ensures.err

pub returns-in-ScriptBad-clause-ok : goal.returns-in-ScriptBad-clause-ok
unfolding status_line
returns-in-ScriptBad-clause-ok g c = rw c.in-ScriptBad.is c.put_counted.ensures.ok

pub returns-in-ScriptBad-clause-err : goal.returns-in-ScriptBad-clause-err
unfolding status_line
returns-in-ScriptBad-clause-err g c = rw c.in-ScriptBad.is c.put_counted.ensures.err

pub returns-in-ReadFault-clause-ok : goal.returns-in-ReadFault-clause-ok
unfolding status_line
returns-in-ReadFault-clause-ok g c = rw c.in-ReadFault.is c.put-in-ReadFault.ensures.ok

pub returns-in-ReadFault-clause-err : goal.returns-in-ReadFault-clause-err
unfolding status_line
returns-in-ReadFault-clause-err g c = rw c.in-ReadFault.is c.put-in-ReadFault.ensures.err

pub returns-in-ShelfFault-clause-ok : goal.returns-in-ShelfFault-clause-ok
unfolding status_line
returns-in-ShelfFault-clause-ok g c = rw c.in-ShelfFault.is c.put-in-ShelfFault.ensures.ok

pub returns-in-ShelfFault-clause-err : goal.returns-in-ShelfFault-clause-err
unfolding status_line
returns-in-ShelfFault-clause-err g c = rw c.in-ShelfFault.is c.put-in-ShelfFault.ensures.err
