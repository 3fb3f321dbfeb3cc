use Rattle.std.proofs.Common.{◌≡◌, ◌-◌, length, sym, ◌∙◌, arith}
use Rattle.pd_grove.specs.declared.ports.Side.TheVariants.{Outlets}
use Rattle.pd_web.specs.Hops.{ports_told}
use Rattle.pd_leaving.specs.Room.{without_at}
use Rattle.pd_leaving.proofs.BlockLemmas.{as_long, count_then, one_shorter}
use Rattle.pd_leaving.proofs.reserving.blocks_then.Goals as goal

pub returns-then-port-outlets : goal.returns-then-port-outlets
returns-then-port-outlets c =
    let js = ports_told c.args.web.now Outlets c.args.port.node in
    let port = c.args.port.port in
    let count : c.outlets_at-outlets.result ≡ length js = c.outlets_at-outlets.ensures in
    let low = c.if-port-outlets.true in
    let one = one_shorter js port (omega (arith, count, low)) in
    count_then (without_at js port) (c.outlets_at-outlets.result - 1) (sym c.has_other_signal_outlet.ensures ∙ c.if-not-has_other_signal_outlet.false) (omega (arith, one, count))

pub returns-else-port-outlets : goal.returns-else-port-outlets
returns-else-port-outlets c =
    let js = ports_told c.args.web.now Outlets c.args.port.node in
    let port = c.args.port.port in
    let count : c.outlets_at-outlets.result ≡ length js = c.outlets_at-outlets.ensures in
    let past = c.if-port-outlets.false in
    let all = as_long js port (omega (arith, count, past)) in
    count_then (without_at js port) c.outlets_at-outlets.result (sym c.has_other_signal_outlet.ensures ∙ c.if-not-has_other_signal_outlet.false) (omega (arith, all, count))
