use Rattle.std.proofs.Common.{◌≡◌, ◌+◌, ◌-◌, ◌∷◌, [], ◌++◌, append_assoc, length, map, take, slice_get, Some, sym, ap, ◌∙◌, arith}
use Rattle.std.proofs.lemmas.List.{length-append}
use Rattle.pd_web.specs.Hops.{fan_hops}
use Rattle.pd_present.specs.Presents.{wire_along}
use Rattle.pd_present.proofs.PresentLemmas.{map_more, map_whole}
use Rattle.pd_present.proofs.wires.push_outlet_wires.Goals as goal

pub loop-next-preserved : goal.loop-next-preserved
loop-next-preserved c =
    let f = wire_along c.args.numbers.now c.args.key c.args.outlet in
    let hops = fan_hops c.args.web.now c.args.key c.args.outlet in
    let old = c.args.wires.now.items in
    let i = length c.loop-next.wires.items - length old in
    let pushed = c.in_ok-push_wire.ensures in
    let begun = c.loop-next.invariant.begun in
    let longer = ap length pushed ∙ length-append c.loop-next.wires.items (f c.in-Some.hop ∷ []) in
    let next : length c.push_wire.new.wires.items - length old ≡ i + 1 = omega (arith, longer, begun) in
    let here : slice_get hops i ≡ Some c.in-Some.hop = sym c.loop-next.invariant.next ∙ c.in-Some.is in
    record {
      begun = omega (arith, longer, begun);
      done = pushed
          ∙ ap (λ xs. xs ++ f c.in-Some.hop ∷ []) c.loop-next.invariant.done
          ∙ append_assoc old (map f (take i hops)) (f c.in-Some.hop ∷ [])
          ∙ ap (λ xs. old ++ xs) (sym (map_more f hops i c.in-Some.hop here))
          ∙ ap (λ n. old ++ map f (take n hops)) (sym next);
      next = c.fan_next-next.ensures c.args.key c.args.outlet i here ∙ ap (slice_get hops) (sym next);
    }

pub returns : goal.returns
returns c =
    let f = wire_along c.args.numbers.now c.args.key c.args.outlet in
    let hops = fan_hops c.args.web.now c.args.key c.args.outlet in
    let old = c.args.wires.now.items in
    let i = length c.loop-next.wires.items - length old in
    c.loop-next.invariant.done
    ∙ ap (λ xs. old ++ xs) (map_whole f hops i (sym c.loop-next.invariant.next ∙ c.in_default.is))
