use Rattle.pd_putting_law.proofs.AgainLemmas.{grown_stands, stands_made, stands_on, now_regrows, present_grows, canvas_regrows, change_stands, boxes_stand, one_stands, put_stands, box_stands, box_is, made_more, new_made}
use Rattle.pd_putting_law.proofs.laws.standing_trees_grow_again.Goals as goal

pub returns-clause-grown : goal.returns-clause-grown
returns-clause-grown c = grown_stands

pub returns-clause-made : goal.returns-clause-made
returns-clause-made c = stands_made

pub returns-clause-learned : goal.returns-clause-learned
returns-clause-learned c = stands_on

pub returns-clause-now : goal.returns-clause-now
returns-clause-now c = now_regrows

pub returns-clause-own : goal.returns-clause-own
returns-clause-own c = present_grows

pub returns-clause-canvas : goal.returns-clause-canvas
returns-clause-canvas c = canvas_regrows

pub returns-clause-changed : goal.returns-clause-changed
returns-clause-changed c = change_stands

pub returns-clause-boxes_before : goal.returns-clause-boxes_before
returns-clause-boxes_before c = boxes_stand

pub returns-clause-one_before : goal.returns-clause-one_before
returns-clause-one_before c = one_stands

pub returns-clause-boxes : goal.returns-clause-boxes
returns-clause-boxes c = put_stands

pub returns-clause-one : goal.returns-clause-one
returns-clause-one c = box_stands

pub returns-clause-element : goal.returns-clause-element
returns-clause-element c = box_is

pub returns-clause-new_before : goal.returns-clause-new_before
returns-clause-new_before c = made_more

pub returns-clause-new : goal.returns-clause-new
returns-clause-new c = new_made
