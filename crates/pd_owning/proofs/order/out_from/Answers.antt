use Rattle.std.proofs.Common.{◌≡◌, sym, ap, ◌∙◌, add-one, arith}
use Rattle.std.specs.Prelude.{option_and_then}
use Rattle.slab.specs.Slab.{get}
use Rattle.pd_owning.specs.Order.{holder_of, box_out}
use Rattle.pd_owning.proofs.order.out_from.Goals as goal

pub loop-preserved : goal.loop-preserved
loop-preserved c =
    let nodes = get c.args.grove.now.nodes in
    let boards = get c.args.grove.now.boards in
    record {
      here = c.holder_around-here.ensures ∙ ap (option_and_then (holder_of nodes boards)) c.loop.invariant.here ∙ ap (λ m. box_out nodes boards m c.args.node) (sym (add-one c.loop.counter));
      within = omega (arith, c.loop-test.true);
    }

pub returns : goal.returns
returns c =
    let same : c.loop.counter ≡ c.args.boxes = omega (arith, c.loop-test.false, c.loop.invariant.within) in
    c.loop.invariant.here ∙ ap (λ m. box_out (get c.args.grove.now.nodes) (get c.args.grove.now.boards) m c.args.node) same
