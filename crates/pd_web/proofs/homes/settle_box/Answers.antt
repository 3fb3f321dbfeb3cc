use Rattle.std.proofs.Common.{List, length, ap, subst, arith}
use Rattle.pd_grove.specs.declared.ports.Side.TheVariants.{Inlets, Outlets}
use Rattle.pd_web.specs.declared.sockets.Port.{Port}
use Rattle.pd_web.specs.Homes.{IsAmong, Settles}
use Rattle.pd_web.proofs.HomeLemmas.{settles_both}
use Rattle.pd_web.proofs.homes.settle_box.Goals as goal

pub returns : goal.returns
returns c =
    let P : List Port → Type 0 = λ ports. Settles c.args.homes.now c.settle_all.new.homes (IsAmong Inlets c.args.key ports) in
    let Q : List Port → Type 0 = λ ports. Settles c.settle_all.new.homes c.settle_all-2.new.homes (IsAmong Outlets c.args.key ports) in
    settles_both _ _ _ c.args.own.now c.args.key (subst P c.as_slice.ensures.value c.settle_all.ensures) (subst Q c.as_slice-2.ensures.value c.settle_all-2.ensures)

pub settle_all-requires : goal.settle_all-requires
settle_all-requires c = let e = ap length c.as_slice.ensures.value in let h = c.requires Inlets in omega (arith, e, h)

pub settle_all-requires-2 : goal.settle_all-requires-2
settle_all-requires-2 c = let e = ap length c.as_slice-2.ensures.value in let h = c.requires Outlets in omega (arith, e, h)
