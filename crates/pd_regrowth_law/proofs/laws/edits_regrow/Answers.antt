use Rattle.pd_regrowth_law.proofs.NestLemmas.{patch_inside, patch_edited}
use Rattle.pd_regrowth_law.proofs.EditLemmas.{texts_nested, canvas_changed, patch_grown, patch_wired, patch_less}
use Rattle.pd_regrowth_law.proofs.laws.edits_regrow.Goals as goal

pub returns-clause-canvas : goal.returns-clause-canvas
returns-clause-canvas c = patch_inside

pub returns-clause-patch : goal.returns-clause-patch
returns-clause-patch c = patch_edited

pub returns-clause-texts : goal.returns-clause-texts
returns-clause-texts c = texts_nested

pub returns-clause-boxes : goal.returns-clause-boxes
returns-clause-boxes c = canvas_changed

pub returns-clause-grown : goal.returns-clause-grown
returns-clause-grown c = patch_grown

pub returns-clause-wires : goal.returns-clause-wires
returns-clause-wires c = patch_wired

pub returns-clause-less : goal.returns-clause-less
returns-clause-less c = patch_less
