use Rattle.std.proofs.Common.{◌≡◌, ◌<◌, length, arith}
use Rattle.pd_retyping.proofs.TakeLemmas.{never_none, one_popped}
use Rattle.pd_retyping.proofs.renaming.one_of.Goals as goal

pub returns : goal.returns
returns c = one_popped c.args.rows.items c.pop.new.self.items c.pop.result c.in-Some.row c.requires.one c.pop.ensures.items c.in-Some.is

pub unreachable-requires : goal.unreachable-requires
unreachable-requires c =
    let len : c.args.rows.len ≡ length c.args.rows.items = omega (arith, c.args.rows.ok) in
    let one = c.requires.one in
    let some : 0 < c.args.rows.len = omega (arith, len, one) in
    never_none c.pop.result (c.pop.ensures.variant.1 some) c.in-None.is
