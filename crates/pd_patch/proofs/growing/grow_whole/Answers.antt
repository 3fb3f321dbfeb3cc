use Rattle.std.proofs.Common.{◌<◌, ◌≤◌, List, sym, ap, ◌∙◌, subst}
use Rattle.pd_library.specs.Files.{answer_in}
use Rattle.pd_tree.specs.declared.rows.Row.{Row}
use Rattle.pd_tree.specs.Trees.{stands_in}
use Rattle.pd_growth.specs.Steps.{beginning}
use Rattle.pd_growth.specs.Growth.{grown}
use Rattle.pd_gather.proofs.SuitLemmas.{root_suits, files_suit}
use Rattle.pd_patch.specs.Grown.{IsFresh}
use Rattle.pd_patch.specs.Sounds.{sound_in}
use Rattle.pd_patch.proofs.GrowingLemmas.{few_fitting, much_sound, few_values, sound_cause, is_wide, tree_planted}
use Rattle.pd_patch.proofs.growing.grow_whole.Goals as goal

pub grow-requires-clause-doc : goal.grow-requires-clause-doc
grow-requires-clause-doc c = root_suits c.args.symbols.now c.args.doc.now.root c.requires.proper

pub grow-requires-clause-files : goal.grow-requires-clause-files
grow-requires-clause-files c = files_suit c.args.symbols.now c.args.files.now c.requires.found

pub returns-then-is_too_much-clause-cause : goal.returns-then-is_too_much-clause-cause
returns-then-is_too_much-clause-cause c =
    let g = c.in_ok-sheet.field-0 in
    let s = grown (answer_in c.args.files.now) c.args.name.now c.args.doc.now.root (beginning c.args.symbols.now c.args.first_zero) in
    let G = c.in_ok-sheet.ensures.grows in
    let told = c.in_ok-has_too_many_wires.ensures G.tree.boxes (ap stands_in c.as_slice.ensures.value ∙ G.rows) in
    sound_cause g c.grow.new.symbols s c.args.rate G
    (few_fitting g c.grow.new.symbols s G c.in_ok-has_too_many_wires.field-0 c.if-branch.false told)
    (subst (λ (rows : List Row). 16777216 < sound_in c.args.rate rows) c.as_slice-2.ensures.value (much_sound _ (sym c.if-is_too_much.true ∙ c.is_too_much.ensures)))

pub returns-clause-tree : goal.returns-clause-tree
returns-clause-tree c =
    let g = c.in_ok-sheet.field-0 in
    let lib = answer_in c.args.files.now in
    let page = c.args.doc.now.root in
    let w = beginning c.args.symbols.now c.args.first_zero in
    let s = grown lib c.args.name.now page w in
    let G = c.in_ok-sheet.ensures.grows in
    let told = c.in_ok-has_too_many_wires.ensures G.tree.boxes (ap stands_in c.as_slice.ensures.value ∙ G.rows) in
    let wide = is_wide lib c.args.name.now page w g c.grow.new.symbols G c.in_ok-count.count c.in_ok-count.ensures in
    let p = c.in_ok-planted.planted.0 in
    let fresh = subst (λ table. IsFresh p table c.args.name.now c.args.rate) (sym c.in_ok-planted.ensures.table) c.in_ok-planted.ensures.fresh in
    tree_planted lib c.args.name.now page w g c.grow.new.symbols c.plant_whole.new.symbols c.args.rate G p fresh c.in_ok-planted.ensures.table c.requires.proper.limits.levels
    (few_fitting g c.grow.new.symbols s G c.in_ok-has_too_many_wires.field-0 c.if-branch.false told)
    (subst (λ (rows : List Row). sound_in c.args.rate rows ≤ 16777216) c.as_slice-2.ensures.value (few_values _ (sym c.if-is_too_much.false ∙ c.is_too_much.ensures)))
    (c.in_ok-planted.ensures.stands G.tree.boxes G.rows wide) (c.in_ok-planted.ensures.of_tree G.tree.boxes G.rows)
    (c.in_ok-planted.ensures.forest G.tree.boxes G.rows wide) c.in_ok-planted.ensures.small
