use Rattle.std.proofs.Common.{List, length, sym, ap, subst, ◌∙◌, arith}
use Rattle.std.specs.List.{AllByRecursion}
use Rattle.std.proofs.lemmas.List.{length-map}
use Rattle.pd_canvas.specs.Pages.{Entry, elements_of}
use Rattle.pd_canvas.specs.Views.{entry_of}
use Rattle.pd_growth.specs.Suits.{EntrySuits}
use Rattle.pd_growth.specs.Growth.{around_root}
use Rattle.pd_growth.specs.Growing.{stock, lib_of, Grows, boxes_in_turn}
use Rattle.pd_growth.proofs.SuitLemmas.{boxes_suit}
use Rattle.pd_growth.proofs.StepLemmas.{grows_same, page_boxes}
use Rattle.pd_growth.proofs.documents.grow_root.Goals as goal

pub grow_boxes-requires-clause-boxes : goal.grow_boxes-requires-clause-boxes
grow_boxes-requires-clause-boxes c =
    let names = c.args.symbols.now in
    let doc = c.requires.doc in
    let room = doc.1 in
    subst (λ (es : List Entry). AllByRecursion (EntrySuits names 255) es) (sym c.elements-boxes.ensures.elements) (boxes_suit names 255 c.args.doc.now.boxes doc.0.0 doc.0.1 (omega (arith, room)))

pub returns-clause-grows : goal.returns-clause-grows
returns-clause-grows c =
    let lib = lib_of c.args.setting.now in
    let root = c.args.setting.now.root.now in
    let a = around_root c.args.zero in
    let w = stock c.args.symbols.now c.args.supply.now in
    let w' = stock c.grow_boxes.new.symbols c.grow_boxes.new.supply in
    let before = c.args.rows.now.items in
    let after = c.grow_boxes.new.rows.items in
    let es = c.elements-boxes.result.now in
    let wide = sym (length-map es entry_of) ∙ ap (λ (xs : List Entry). length xs) c.elements-boxes.ensures.elements in
    grows_same (length (elements_of c.args.doc.now)) c.grow_boxes.result before after w' _ _ (page_boxes lib root 255 a c.args.doc.now w)
    (subst (λ n. Grows n c.grow_boxes.result before after w' (boxes_in_turn lib root 255 a (elements_of c.args.doc.now) w)) wide
    (subst (λ (xs : List Entry). Grows (length es) c.grow_boxes.result before after w' (boxes_in_turn lib root 255 a xs w)) c.elements-boxes.ensures.elements c.grow_boxes.ensures.grows))
