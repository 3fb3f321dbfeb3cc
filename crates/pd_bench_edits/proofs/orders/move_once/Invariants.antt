use Rattle.pd_bench_edits.proofs.orders.move_once.Given as goal

abbrev pub ghosts-move_time : goal.ghosts-move_time
ghosts-move_time g a = record { name = a.blank.name; parts = a.blank.parts }
