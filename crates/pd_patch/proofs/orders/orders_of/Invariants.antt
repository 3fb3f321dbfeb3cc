use Rattle.pd_patch.proofs.orders.orders_of.Given as goal

abbrev pub ghosts-orders_in : goal.ghosts-orders_in
ghosts-orders_in a = record { name = a.blank.name; parts = a.blank.parts }
