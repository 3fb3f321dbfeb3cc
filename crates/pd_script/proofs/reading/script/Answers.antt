use Rattle.pd_script.proofs.reading.script.Goals as goal

pub returns-in_ok-show-in-Show-clause-of_table : goal.returns-in_ok-show-in-Show-clause-of_table
returns-in_ok-show-in-Show-clause-of_table c = c.in_ok-show-in-Show.ensures.of_table c.args.symbols.now
