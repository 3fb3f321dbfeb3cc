use Rattle.std.proofs.Common.{List, slice_get, sym, ap, ◌∙◌}
use Rattle.pd_web.specs.declared.web.Hop.{Hop}
use Rattle.pd_ports.proofs.laws.wires_still_meet.Goals as goal

pub returns : goal.returns
returns c = λ w w' key jacks is_made has meet. record {
  fed = λ node outlet i h x.
      let m = meet.fed node outlet i h (ap (λ (hops : List Hop). slice_get hops i) (sym (has.fans node outlet)) ∙ x) in
      (m.0, ap (λ (hops : List Hop). slice_get hops m.0) (has.feeds h.node h.port) ∙ m.1);
  fanned = λ node inlet i h x.
      let m = meet.fanned node inlet i h (ap (λ (hops : List Hop). slice_get hops i) (sym (has.feeds node inlet)) ∙ x) in
      (m.0, ap (λ (hops : List Hop). slice_get hops m.0) (has.fans h.node h.port) ∙ m.1);
}
