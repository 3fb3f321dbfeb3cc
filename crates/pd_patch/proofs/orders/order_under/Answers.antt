use Rattle.std.proofs.Common.{◌≡◌, List, ℕ, sym, ap, ◌∙◌, subst}
use Rattle.pd_chain.specs.Wires.{IsCanvas}
use Rattle.pd_grove.specs.Telling.{keys_in}
use Rattle.pd_web.specs.Canvases.{keys_at}
use Rattle.pd_patch.specs.Orders.{signal_among, signal_wires_among}
use Rattle.pd_patch.proofs.CanvasLemmas.{is_canvas}
use Rattle.pd_patch.proofs.OrderLemmas.{few_hops}
use Rattle.pd_patch.proofs.orders.order_under.Goals as goal

pub order_in_board-requires : goal.order_in_board-requires
order_in_board-requires g0 c =
    let g = c.args.grove.now in
    let w = c.args.web.now in
    let own = is_canvas g w c.args.key c.requires.own c.requires.laid in
    let same : keys_at g c.args.key ≡ c.as_slice.result.now = ap keys_in (sym c.in-Some.ensures) ∙ sym c.as_slice.ensures.value in
    record {
      canvas = subst (λ (ks : List ℕ). IsCanvas ks (signal_among g ks) (signal_wires_among w (signal_among g ks))) same own;
      few = λ k outlet. few_hops g w k outlet (c.requires.laid.fans k outlet) c.requires.laid.few;
    }
