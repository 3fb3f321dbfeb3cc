use Rattle.std.proofs.Common.{◌≡◌, ◌++◌, append_assoc, sym, ap, ◌∙◌}
use Rattle.std.specs.List.{flat_map, range_with_len}
use Rattle.pd_present.specs.Presents.{outlet_wires}
use Rattle.pd_present.proofs.PresentLemmas.{flat_more}
use Rattle.pd_present.proofs.wires.push_box_wires.Goals as goal

pub loop-outlet-preserved : goal.loop-outlet-preserved
loop-outlet-preserved c =
    let f = outlet_wires c.args.web.now c.args.numbers.now c.args.key in
    let k = c.loop-outlet.outlet in
    c.in_ok-push_outlet_wires.ensures
    ∙ ap (λ xs. xs ++ f k) c.loop-outlet.invariant
    ∙ append_assoc c.args.wires.now.items (flat_map f (range_with_len 0 k)) (f k)
    ∙ ap (λ xs. c.args.wires.now.items ++ xs) (sym (flat_more f k))
