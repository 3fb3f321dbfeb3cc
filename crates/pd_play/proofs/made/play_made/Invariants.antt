use Rattle.pd_play.proofs.made.play_made.Given as goal

abbrev pub ghosts-play_script : goal.ghosts-play_script
ghosts-play_script g a = record { name = a.blank.name; parts = a.blank.parts }
