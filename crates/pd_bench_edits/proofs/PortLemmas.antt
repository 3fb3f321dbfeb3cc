-- Ports that are told are there.
use Rattle.std.proofs.Common.{ℕ, ◌<◌, length, subst}
use Rattle.std.proofs.lemmas.List.{length-map}
use Rattle.pd_grove.specs.declared.ports.Side.TheVariants.{Inlets, Outlets}
use Rattle.pd_web.specs.declared.sockets.Port.{Port}
use Rattle.pd_web.specs.declared.web.Web.{Web}
use Rattle.pd_web.specs.Sockets.{ports_at}
use Rattle.pd_web.specs.declared.lines.Line.{Line}
use Rattle.pd_web.specs.Lines.{IsRoute}
use Rattle.pd_web.specs.Hops.{ports_told}

pub route : (w : Web) (l : Line) → l.outlet < length (ports_told w Outlets l.source) → l.inlet < length (ports_told w Inlets l.sink) → IsRoute w.sockets.items l
route w l a b = record {
  from = subst (λ (n : ℕ). l.outlet < n) (length-map (ports_at w.sockets.items Outlets l.source) (λ (p : Port). p.jack)) a;
  to = subst (λ (n : ℕ). l.inlet < n) (length-map (ports_at w.sockets.items Inlets l.sink) (λ (p : Port). p.jack)) b;
}
