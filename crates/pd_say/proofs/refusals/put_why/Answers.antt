use Rattle.pd_say.proofs.refusals.put_why.Goals as goal

pub returns-in-NoDocument-clause-err : goal.returns-in-NoDocument-clause-err
returns-in-NoDocument-clause-err g c = rw c.in-NoDocument.is c.put-in-NoDocument.ensures.err

pub returns-in-SignalIntoControl-clause-ok : goal.returns-in-SignalIntoControl-clause-ok
returns-in-SignalIntoControl-clause-ok g c = rw c.in-SignalIntoControl.is c.put-in-SignalIntoControl.ensures.ok

pub returns-in-SignalIntoControl-clause-err : goal.returns-in-SignalIntoControl-clause-err
returns-in-SignalIntoControl-clause-err g c = rw c.in-SignalIntoControl.is c.put-in-SignalIntoControl.ensures.err

pub returns-in-ShelfFault-clause-ok : goal.returns-in-ShelfFault-clause-ok
returns-in-ShelfFault-clause-ok g c = rw c.in-ShelfFault.is c.put-in-ShelfFault.ensures.ok

pub returns-in-ShelfFault-clause-err : goal.returns-in-ShelfFault-clause-err
returns-in-ShelfFault-clause-err g c = rw c.in-ShelfFault.is c.put-in-ShelfFault.ensures.err

pub returns-in-TooManyWires-clause-ok : goal.returns-in-TooManyWires-clause-ok
returns-in-TooManyWires-clause-ok g c = rw c.in-TooManyWires.is c.put-in-TooManyWires.ensures.ok

pub returns-in-TooManyWires-clause-err : goal.returns-in-TooManyWires-clause-err
returns-in-TooManyWires-clause-err g c = rw c.in-TooManyWires.is c.put-in-TooManyWires.ensures.err
