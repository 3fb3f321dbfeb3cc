use Rattle.std.proofs.Common.{List, subst}
use Rattle.pd_web.specs.declared.sockets.Port.{Port}
use Rattle.pd_ports.specs.Homes.{Forgets, IsInner}
use Rattle.pd_ports.proofs.HomeLemmas.{forgets_both}
use Rattle.pd_ports.proofs.homes.forget_ports.Goals as goal

pub returns : goal.returns
returns c =
    let a = c.args.homes.now.items in
    let b = c.forget_side.new.homes.items in
    let d = c.forget_side-2.new.homes.items in
    let P : List Port → Type 0 = λ ports. Forgets a b c.args.key (IsInner ports) in
    let Q : List Port → Type 0 = λ ports. Forgets b d c.args.key (IsInner ports) in
    forgets_both a b d c.args.key c.args.own.now (subst P c.as_slice.ensures.value c.forget_side.ensures) (subst Q c.as_slice-2.ensures.value c.forget_side-2.ensures)
