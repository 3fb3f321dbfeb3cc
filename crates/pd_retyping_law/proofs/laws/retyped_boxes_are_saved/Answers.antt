use Rattle.pd_retyping_law.proofs.SavedLemmas.{box_saved, box_written}
use Rattle.pd_retyping_law.proofs.laws.retyped_boxes_are_saved.Goals as goal

pub returns-clause-saved : goal.returns-clause-saved
returns-clause-saved c = λ g h path canvas key number n n' B plain. box_saved g h path canvas key number n n' B plain

pub returns-clause-written : goal.returns-clause-written
returns-clause-written c = λ g h path canvas key number n n' rate now e B f plain made keeps document.
    box_written g h path canvas key number n n' B rate now e f plain made keeps document
