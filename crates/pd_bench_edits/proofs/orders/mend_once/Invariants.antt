use Rattle.pd_bench_edits.proofs.orders.mend_once.Given as goal

abbrev pub ghosts-mend_time : goal.ghosts-mend_time
ghosts-mend_time g a = record { name = a.blank.name; parts = a.blank.parts }
