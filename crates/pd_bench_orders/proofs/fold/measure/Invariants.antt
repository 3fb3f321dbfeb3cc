use Rattle.pd_bench_orders.proofs.fold.measure.Given as goal

abbrev pub ghosts-measure_in : goal.ghosts-measure_in
ghosts-measure_in g a = record { name = a.blank.name; parts = a.blank.parts }
