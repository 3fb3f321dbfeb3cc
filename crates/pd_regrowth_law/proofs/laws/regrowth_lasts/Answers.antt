use Rattle.pd_tree.specs.Trees.{weight, zeros_in, zeros_of, document_boxes, document_in}
use Rattle.pd_canvas.specs.Pages.{listed}
use Rattle.pd_growth.specs.Growth.{boxes_grown, grown}
use Rattle.pd_regrowth_law.specs.Regrowth.{inner_of}
use Rattle.pd_regrowth_law.proofs.LastLemmas.{again_later, patch_once}
use Rattle.pd_regrowth_law.proofs.laws.regrowth_lasts.Goals as goal

pub returns-clause-table : goal.returns-clause-table
returns-clause-table c = λ s names left t x h.
    again_later (boxes_grown s.lib s.root left (inner_of s.lib s.root left) s.around (listed (document_boxes t))) t s.names names (zeros_in t) (weight t) x h

pub returns-clause-patch : goal.returns-clause-patch
returns-clause-patch c = λ lib file names names2 t x h. again_later (grown lib file (document_in t)) t names names2 (zeros_of t) (weight t.boxes) x h

pub returns-clause-once : goal.returns-clause-once
returns-clause-once c = patch_once
