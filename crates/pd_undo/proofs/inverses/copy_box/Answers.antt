use Rattle.std.proofs.Common.{◌≡◌, ◌<◌, length, get_or, sym, ap, ◌∙◌, subst}
use Rattle.std.proofs.lemmas.Result.{IfOk-weaker}
use Rattle.std.specs.Prelude.{pos, []}
use Rattle.pd_canvas.specs.Pages.{Obj, Entry, empty_page}
use Rattle.pd_canvas.specs.Views.{entry_of, entries_of}
use Rattle.pd_canvas.specs.Edits.{element}
use Rattle.pd_canvas.proofs.TreeLemmas.{within_seen, entries_seen}
use Rattle.pd_undo.specs.Inverses.{box_at}
use Rattle.pd_undo.proofs.inverses.copy_box.Goals as goal

pub copy_from-requires : goal.copy_from-requires
copy_from-requires c =
    subst (λ es. c.args.number < length es) (sym c.as_slice.ensures)
    (within_seen c.canvas.inside c.args.canvas.now c.canvas.view_is c.args.number c.requires)

pub returns : goal.returns
returns c =
    let d : Entry = element Obj empty_page (pos 0) (pos 0) [] in
    IfOk-weaker c.copy_from.result (λ e. (d : Entry) → entry_of e ≡ get_or (entries_of c.as_slice.result.now) c.args.number d)
    (λ e. entry_of e ≡ box_at c.args.number c.args.canvas.now)
    (λ e k. k d ∙ (ap (λ es. get_or (entries_of es) c.args.number d) c.as_slice.ensures
    ∙ ap (λ l. get_or l c.args.number d) (sym (entries_seen c.canvas.inside c.args.canvas.now c.canvas.view_is))))
    c.copy_from.ensures
