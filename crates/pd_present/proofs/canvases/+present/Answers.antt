use Rattle.std.proofs.Common.{◌≡◌, IfOk, ◌-◌, ◌≢◌, sym, ap, ◌∙◌}
use Rattle.std.specs.Option.{option_copied}
use Rattle.slab.specs.Slab.{get}
use Rattle.pd_present.specs.Presents.{page_on, page_within}
use Rattle.pd_present.proofs.PresentLemmas.{within_none, within_some}
use Rattle.pd_present.proofs.canvases.+present.Goals as goal

pub canvas_of-returns-then-canvases-eq0 : goal.canvas_of-returns-then-canvases-eq0
canvas_of-returns-then-canvases-eq0 t c =
    let nodes = get c.args.grove.now.nodes in
    let boards = get c.args.grove.now.boards in
    c.empty_canvas.ensures
    ∙ sym (ap (λ m. page_within c.args.web.now c.args.numbers.now nodes boards m c.args.canvas) c.if-canvases-eq0.true
    ∙ within_none c.args.web.now c.args.numbers.now nodes boards c.args.canvas)

pub canvas_of-returns-in-Some : goal.canvas_of-returns-in-Some
canvas_of-returns-in-Some t c =
    let nodes = get c.args.grove.now.nodes in
    let boards = get c.args.grove.now.boards in
    let inside = page_within c.args.web.now c.args.numbers.now nodes boards (c.args.canvases - 1) in
    let e = within_some c.args.web.now c.args.numbers.now nodes boards c.args.canvases c.args.canvas c.if-canvases-eq0.false
    ∙ ap (page_on c.args.web.now c.args.numbers.now nodes inside) (sym c.board.ensures ∙ ap option_copied c.in-Some.is) in
    rw e c.canvas_on.ensures

pub canvas_of-returns-in-None : goal.canvas_of-returns-in-None
canvas_of-returns-in-None t c =
    let nodes = get c.args.grove.now.nodes in
    let boards = get c.args.grove.now.boards in
    let inside = page_within c.args.web.now c.args.numbers.now nodes boards (c.args.canvases - 1) in
    c.empty_canvas-in-None.ensures
    ∙ sym (within_some c.args.web.now c.args.numbers.now nodes boards c.args.canvases c.args.canvas c.if-canvases-eq0.false
    ∙ ap (page_on c.args.web.now c.args.numbers.now nodes inside) (sym c.board.ensures ∙ ap option_copied c.in-None.is))
