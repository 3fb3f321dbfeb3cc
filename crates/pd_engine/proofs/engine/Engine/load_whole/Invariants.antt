use Rattle.pd_engine.proofs.engine.Engine.load_whole.Given as goal

abbrev pub ghosts-load : goal.ghosts-load
ghosts-load g a = record { name = a.blank.name; parts = a.blank.parts }
