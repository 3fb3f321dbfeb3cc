use Rattle.std.proofs.Common.{◌+◌, ◌-◌, List, length, drop, sym, ap, subst, ◌∙◌, arith}
use Rattle.std.specs.List.{AllByRecursion}
use Rattle.std.proofs.lemmas.Result.{err_from_is_err_and}
use Rattle.pd_atom.specs.declared.Atom.{Atom}
use Rattle.pd_naming.specs.Naming.{arguments_of}
use Rattle.pd_canvas.specs.Pages.{Entry, Page}
use Rattle.pd_canvas.specs.Views.{entry_of, entries_of}
use Rattle.pd_growth.specs.declared.making.Made.{Made}
use Rattle.pd_growth.specs.Growth.{receiver_brought, canvas_grown, box_made}
use Rattle.pd_growth.specs.Growing.{stock, around_of, lib_of, making_of, HasGrown, Grows, inside_grown, boxes_in_turn}
use Rattle.pd_growth.specs.Suits.{EntrySuits}
use Rattle.pd_growth.proofs.TextLemmas.{extends_on, drop_item, text_extended, arguments_suit}
use Rattle.pd_growth.proofs.SuitLemmas.{scope_extended, files_extended, entry_extended, entries_extended, page_extended, rows_extended, split_suits, boxes_suit, names_with}
use Rattle.pd_growth.proofs.StepLemmas.{then_grows, halfway_next, halfway_refused, halfway_end, plain_grows, canvas_grows}
use Rattle.pd_growth.proofs.boxes.+growth.Goals as goal

pub grow_box-grow_form-requires : goal.grow_box-grow_form-requires
grow_box-grow_form-requires t c =
    let old = c.args.symbols.now in
    let new = c.own_text.new.symbols in
    let more = c.in_ok-text.ensures.extends in (
      omega (arith, c.decreases),
      (
        scope_extended old new c.args.scope.now more c.requires.scope,
        (
          files_extended old new (lib_of c.args.setting.now) more c.requires.files,
          (entry_extended old new c.args.left (entry_of c.args.element.now) more c.requires.element, (c.in_ok-text.ensures.suits, rows_extended old new c.args.rows.now.items more c.requires.rows)),
        ),
      ),
    )

pub grow_boxes-grow_box-requires : goal.grow_boxes-grow_box-requires
grow_boxes-grow_box-requires t c =
    let old = c.args.symbols.now in
    let new = c.loop-element.symbols in
    let inv = c.loop-element.invariant in
    let i = c.loop-element.element-index in
    let es = c.args.elements.now in
    let e = c.element-item.result in (
      omega (arith, c.decreases),
      (
        scope_extended old new c.args.scope.now inv.extends c.requires.scope,
        (
          files_extended old new (lib_of c.args.setting.now) inv.extends c.requires.files,
          ((split_suits new c.args.left (drop i es) (drop (i + 1) es) e (drop_item es i e (omega arith) c.element-item.is) inv.rest).0, inv.halfway.suit),
        ),
      ),
    )

pub grow_boxes-returns-in_err-grow_box-clause-grows : goal.grow_boxes-returns-in_err-grow_box-clause-grows
grow_boxes-returns-in_err-grow_box-clause-grows t c =
    let p = err_from_is_err_and c.from_residual.result c.from_residual.ensures.1 in
    let i = c.loop-element.element-index in
    let es = c.args.elements.now in
    let e = c.element-item.result in
    rw (p.1, p.2) (halfway_refused (lib_of c.args.setting.now) c.args.setting.now.root.now c.args.left (around_of c.args.scope.now) es (stock c.args.symbols.now c.args.supply.now)
    (stock c.loop-element.symbols c.loop-element.supply) (stock c.grow_box.new.symbols c.grow_box.new.supply) c.args.rows.now.items c.loop-element.rows.items i e c.in_err-grow_box.field-0.0
    (drop_item es i e (omega arith) c.element-item.is) c.loop-element.invariant.halfway c.in_err-grow_box.ensures.grows)

pub grow_boxes-loop-element-preserved : goal.grow_boxes-loop-element-preserved
grow_boxes-loop-element-preserved t c =
    let inv = c.loop-element.invariant in
    let i = c.loop-element.element-index in
    let es = c.args.elements.now in
    let e = c.element-item.result in
    let names = c.loop-element.symbols in
    let names' = c.grow_box.new.symbols in
    let d = drop_item es i e (omega arith) c.element-item.is in
    record {
      halfway = halfway_next (lib_of c.args.setting.now) c.args.setting.now.root.now c.args.left (around_of c.args.scope.now) es (stock c.args.symbols.now c.args.supply.now)
          (stock names c.loop-element.supply) (stock names' c.grow_box.new.supply) c.args.rows.now.items c.loop-element.rows.items c.grow_box.new.rows.items i e d inv.halfway c.in_ok-grow_box.ensures.grows;
      rest = entries_extended names names' c.args.left (entries_of (drop (i + 1) es)) c.in_ok-grow_box.ensures.extends (split_suits names c.args.left (drop i es) (drop (i + 1) es) e d inv.rest).1;
      extends = extends_on c.args.symbols.now names names' inv.extends c.in_ok-grow_box.ensures.extends;
    }

pub grow_boxes-returns-clause-grows : goal.grow_boxes-returns-clause-grows
grow_boxes-returns-clause-grows t c =
    halfway_end (lib_of c.args.setting.now) c.args.setting.now.root.now c.args.left (around_of c.args.scope.now) c.args.elements.now (stock c.args.symbols.now c.args.supply.now)
    (stock c.loop-element.symbols c.loop-element.supply) c.args.rows.now.items c.loop-element.rows.items c.loop-element.element-index (omega arith) c.loop-element.invariant.halfway

pub grow_canvas-grow_boxes-requires : goal.grow_canvas-grow_boxes-requires
grow_canvas-grow_boxes-requires t c =
    let names = c.args.symbols.now in
    let canvas = c.requires.canvas in
    let room = c.requires.levels in (
      omega (arith, c.decreases, room),
      (
        c.requires.scope,
        (
          c.requires.files,
          (
            subst (λ (es : List Entry). AllByRecursion (EntrySuits names (c.args.left - 1)) es) (sym c.elements-boxes.ensures.elements)
                (boxes_suit names (c.args.left - 1) c.args.canvas.now.boxes canvas.0 canvas.1 (omega (arith, room))),
            c.in_ok-push_holder.ensures.suit names c.requires.text c.requires.rows,
          ),
        ),
      ),
    )

pub grow_canvas-returns-clause-grows : goal.grow_canvas-returns-clause-grows
grow_canvas-returns-clause-grows t c =
    let lib = lib_of c.args.setting.now in
    let root = c.args.setting.now.root.now in
    let a = around_of c.args.scope.now in
    let w = stock c.args.symbols.now c.args.supply.now in
    let w' = stock c.grow_boxes.new.symbols c.grow_boxes.new.supply in
    let n = length c.elements-boxes.result.now in
    let room = c.requires.levels in
    canvas_grows lib root c.args.left a c.args.canvas.now (entry_of c.args.element.now).head c.args.text n w w' c.in_ok-sheet.sheet c.args.rows.now.items c.push_holder.new.rows.items c.grow_boxes.new.rows.items c.grow_boxes.result
    (omega (arith, room)) c.in_ok-sheet.ensures c.in_ok-push_holder.ensures.rows
    (subst (λ (es : List Entry). Grows n c.grow_boxes.result c.push_holder.new.rows.items c.grow_boxes.new.rows.items w' (boxes_in_turn lib root (c.args.left - 1) a es w)) c.elements-boxes.ensures.elements c.grow_boxes.ensures.grows)

pub grow_file-grow_canvas-requires : goal.grow_file-grow_canvas-requires
grow_file-grow_canvas-requires t c =
    let names = c.args.symbols.now in
    let list = c.as_slice-2.result.now in
    let is = c.as_slice-2.ensures.value ∙ c.in_ok-arguments.ensures.items ∙ ap (λ (x : List Atom). arguments_of (drop 1 x)) c.as_slice.ensures in
    let few = c.in_ok-arguments.ensures.few in
    let same = ap (λ (x : List Atom). length x) c.as_slice-2.ensures.value in
    let text = ap (λ (x : List Atom). length x) c.as_slice.ensures in (
      omega (arith, c.decreases),
      (
        (
          arguments_suit names c.args.text list is (omega (arith, few, same, text)) c.requires.text,
          names_with names c.args.name c.args.scope.now.inside.now c.as_slice-3.result.now (c.as_slice-3.ensures.value ∙ c.in_ok-inside.ensures) c.requires.name c.requires.scope.1,
          c.in_ok-zero.ensures.small,
        ),
        (c.requires.files, (c.requires.canvas, (c.requires.levels, (c.requires.text, c.requires.rows)))),
      ),
    )

pub grow_subpatch-grow_canvas-requires : goal.grow_subpatch-grow_canvas-requires
grow_subpatch-grow_canvas-requires t c =
    let old = c.args.symbols.now in
    let new = c.bring_subpatch.new.symbols in
    let more = c.in_ok-bring_subpatch.ensures.extends in (
      omega (arith, c.decreases),
      (
        scope_extended old new c.args.scope.now more c.requires.scope,
        (
          files_extended old new (lib_of c.args.setting.now) more c.requires.files,
          (
            page_extended old new c.args.canvas.now more c.requires.canvas,
            (c.requires.levels, (text_extended old new c.args.text more c.requires.text, rows_extended old new c.args.rows.now.items more c.requires.rows)),
          ),
        ),
      ),
    )

pub grow_subpatch-returns-clause-grows : goal.grow_subpatch-returns-clause-grows
grow_subpatch-returns-clause-grows t c =
    let w = stock c.args.symbols.now c.args.supply.now in
    let v = stock c.bring_subpatch.new.symbols c.args.supply.now in
    let w' = stock c.grow_canvas.new.symbols c.grow_canvas.new.supply in
    let inner = inside_grown (lib_of c.args.setting.now) c.args.setting.now.root.now c.args.left in
    let a = around_of c.args.scope.now in
    let e = entry_of c.args.element.now in
    then_grows 1 c.grow_canvas.result c.args.rows.now.items c.grow_canvas.new.rows.items w' (receiver_brought c.args.scope.now.is_top c.args.text w) c.in_ok-bring_subpatch.field-0 v
    (λ x u. canvas_grown inner a e.page e.head c.args.text u)
    (ap (λ (x : List Atom). receiver_brought c.args.scope.now.is_top x w) (sym c.as_slice.ensures) ∙ c.in_ok-bring_subpatch.ensures.exact w)
    (subst (λ (p : Page). Grows 1 c.grow_canvas.result c.args.rows.now.items c.grow_canvas.new.rows.items w' (canvas_grown inner a p e.head c.args.text v)) c.requires.held c.grow_canvas.ensures.grows)

pub grow_made-returns-in_ok-push_plain-in-Plain-clause-grows : goal.grow_made-returns-in_ok-push_plain-in-Plain-clause-grows
grow_made-returns-in_ok-push_plain-in-Plain-clause-grows t c =
    let w = stock c.args.symbols.now c.args.supply.now in
    let inner = inside_grown (lib_of c.args.setting.now) c.args.setting.now.root.now c.args.left in
    let a = around_of c.args.scope.now in
    let e = entry_of c.args.element.now in
    let pushed = c.in_ok-push_plain-in-Plain.ensures in
    subst (λ (m : Made). HasGrown 1 c.args.rows.now.items c.push_plain.new.rows.items w (box_made inner a e c.args.text (making_of m) w)) (sym c.in-Plain.is)
    (plain_grows inner a e c.args.text c.in-Plain.kind c.in-Plain.fault w c.args.rows.now.items c.push_plain.new.rows.items pushed.rows (pushed.suit c.args.symbols.now c.requires.text c.requires.rows))
