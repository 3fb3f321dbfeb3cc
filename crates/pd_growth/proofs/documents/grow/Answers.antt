use Rattle.std.proofs.Common.{List, ℕ, length, subst}
use Rattle.std.proofs.lemmas.Result.{err_from_is_err_and}
use Rattle.pd_canvas.specs.Pages.{elements_of}
use Rattle.pd_library.specs.Files.{answer_in}
use Rattle.pd_tree.specs.declared.rows.Row.{Row}
use Rattle.pd_growth.specs.declared.documents.Grown.{Grown}
use Rattle.pd_growth.specs.Steps.{Stock}
use Rattle.pd_growth.specs.Growth.{grown, page_grown, around_root, without_ending}
use Rattle.pd_growth.specs.Growing.{stock, Refuses, HasGrown, GivesTree, EndsUnlessMemory}
use Rattle.pd_growth.proofs.SuitLemmas.{page_extended, files_extended}
use Rattle.pd_growth.proofs.GrownLemmas.{no_number, no_receiver, no_boxes_grown, document_grown, rows_small}
use Rattle.pd_growth.proofs.documents.grow.Goals as goal

pub returns-in_err-zero-clause-grows : goal.returns-in_err-zero-clause-grows
returns-in_err-zero-clause-grows c =
    let p = err_from_is_err_and c.from_residual.result c.from_residual.ensures.1 in
    let names = c.args.symbols.now in
    let e = c.in_err-zero.field-0.0 in
    rw (p.1, p.2) (subst (λ (w : Stock). EndsUnlessMemory e names (grown (answer_in c.args.files.now) c.args.name.now c.args.doc.now w)) (c.new-supply.ensures names)
    (no_number (answer_in c.args.files.now) c.args.name.now c.args.doc.now (stock names c.new-supply.result) (stock names c.number.new.self) e (c.in_err-zero.ensures.exact names)))

pub returns-in_err-bring_receiver-clause-grows : goal.returns-in_err-bring_receiver-clause-grows
returns-in_err-bring_receiver-clause-grows c =
    let p = err_from_is_err_and c.from_residual-in_err-bring_receiver.result c.from_residual-in_err-bring_receiver.ensures.1 in
    let names = c.args.symbols.now in
    let names' = c.bring_receiver.new.symbols in
    let v = stock names c.number.new.self in
    let e = c.in_err-bring_receiver.field-0.0 in
    rw (p.1, p.2) (subst (λ (w : Stock). EndsUnlessMemory e names' (grown (answer_in c.args.files.now) c.args.name.now c.args.doc.now w)) (c.new-supply.ensures names)
    (no_receiver (answer_in c.args.files.now) c.args.name.now c.args.doc.now (stock names c.new-supply.result) v (stock names' c.number.new.self) c.in_ok-zero.zero e
    (c.in_ok-zero.ensures.exact names) (c.in_err-bring_receiver.ensures.exact v)))

pub grow_root-requires-clause-doc : goal.grow_root-requires-clause-doc
grow_root-requires-clause-doc c =
    (page_extended c.args.symbols.now c.bring_receiver.new.symbols c.args.doc.now c.in_ok-bring_receiver.ensures.extends c.requires.doc.0, c.requires.doc.1)

pub grow_root-requires-clause-files : goal.grow_root-requires-clause-files
grow_root-requires-clause-files c =
    files_extended c.args.symbols.now c.bring_receiver.new.symbols (answer_in c.args.files.now) c.in_ok-bring_receiver.ensures.extends c.requires.files

pub returns-in_err-grow_root-clause-grows : goal.returns-in_err-grow_root-clause-grows
returns-in_err-grow_root-clause-grows c =
    let p = err_from_is_err_and c.from_residual-in_err-grow_root.result c.from_residual-in_err-grow_root.ensures.1 in
    let names = c.args.symbols.now in
    let names' = c.grow_root.new.symbols in
    let lib = answer_in c.args.files.now in
    let z = c.in_ok-zero.zero in
    let v = stock names c.number.new.self in
    let u = stock c.bring_receiver.new.symbols c.number.new.self in
    let w' = stock names' c.grow_root.new.supply in
    let e = c.in_err-grow_root.field-0.0 in
    rw (p.1, p.2) (subst (λ (w : Stock). EndsUnlessMemory e names' (grown lib c.args.name.now c.args.doc.now w)) (c.new-supply.ensures names)
    (no_boxes_grown lib c.args.name.now c.args.doc.now (stock names c.new-supply.result) v u w' z c.in_ok-bring_receiver.field-0 e
    (c.in_ok-zero.ensures.exact names) (c.in_ok-bring_receiver.ensures.exact v)
    (subst (λ (root : List ℕ). Refuses e w' (page_grown lib root 255 (around_root z) c.args.doc.now u)) c.without_ending.ensures c.in_err-grow_root.ensures.grows)))

pub returns-clause-grows : goal.returns-clause-grows
returns-clause-grows c =
    let names = c.args.symbols.now in
    let names' = c.grow_root.new.symbols in
    let lib = answer_in c.args.files.now in
    let z = c.in_ok-zero.zero in
    let k = length (elements_of c.args.doc.now) in
    let v = stock names c.number.new.self in
    let u = stock c.bring_receiver.new.symbols c.number.new.self in
    let w' = stock names' c.grow_root.new.supply in
    let rows = c.grow_root.new.rows.items in
    let g : Grown = record { sheet = c.in_ok-sheet.sheet; rows = c.grow_root.new.rows } in
    subst (λ (w : Stock). GivesTree g names' (grown lib c.args.name.now c.args.doc.now w)) (c.new-supply.ensures names)
    (document_grown lib c.args.name.now c.args.doc.now (stock names c.new-supply.result) v u w' z k c.in_ok-bring_receiver.field-0 g
    (c.in_ok-zero.ensures.exact names) (c.in_ok-bring_receiver.ensures.exact v) c.in_ok-sheet.ensures
    (subst (λ (before : List Row). HasGrown k before rows w' (page_grown lib (without_ending c.args.name.now) 255 (around_root z) c.args.doc.now u)) c.new-rows.ensures.items
    (subst (λ (root : List ℕ). HasGrown k c.new-rows.result.items rows w' (page_grown lib root 255 (around_root z) c.args.doc.now u)) c.without_ending.ensures c.in_ok-grow_root.ensures.grows)))

pub returns-clause-small : goal.returns-clause-small
returns-clause-small c = rows_small c.grow_root.new.symbols c.grow_root.new.rows.items c.in_ok-grow_root.ensures.grows.suit
