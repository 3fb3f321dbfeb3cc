use Rattle.pd_owning.proofs.spots.+is_in_own_document.Given as goal

abbrev pub decreases-is_in_own_document : goal.decreases-is_in_own_document
decreases-is_in_own_document l = l.boxes
