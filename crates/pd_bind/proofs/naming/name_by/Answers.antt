use Rattle.std.proofs.Common.{◌&&◌, Bool, List, None, if◌then◌else◌, sym, ap, ◌∙◌}
use Rattle.pd_atom.specs.declared.Atom.{Atom}
use Rattle.pd_name.specs.declared.Class.TheVariants.{Receiver}
use Rattle.pd_grove.specs.TextOrder.{is_sub}
use Rattle.pd_bind.specs.Naming.{owned, subpatch_symbol, owned_by_kind}
use Rattle.pd_bind.proofs.naming.name_by.Goals as goal

pub returns-in-Canvas-clause-value : goal.returns-in-Canvas-clause-value
returns-in-Canvas-clause-value c = λ top cell hears text.
    let names = c.args.symbols.now in
    c.canvas_name.ensures.value ∙ ap (λ (h : Bool). if h then owned Receiver (subpatch_symbol names c.args.text.now) else None) hears
    ∙ ap (λ (atoms : List Atom). if top && is_sub cell.head.form then owned Receiver (subpatch_symbol names atoms) else None) text
    ∙ ap (owned_by_kind names top cell) (sym c.in-Canvas.is)
