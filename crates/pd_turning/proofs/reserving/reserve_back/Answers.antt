use Rattle.std.proofs.Common.{refl}
use Rattle.pd_wiring.proofs.BuiltLemmas.{roomed, roomed_built, same_links}
use Rattle.pd_turning.proofs.reserving.reserve_back.Goals as goal

pub returns-in_err-reserve-2-clause-rewires : goal.returns-in_err-reserve-2-clause-rewires
returns-in_err-reserve-2-clause-rewires c = roomed c.args.patch.now (record c.args.patch.now { web = c.reserve-2.new.self })
    (record { grove = refl; web = c.reserve-2.ensures.same; links = same_links c.args.patch.now.links; names = refl; timers = refl; orders = refl; numbers = refl; values = refl; rate = refl; present = refl })

pub returns-in_err-reserve-2-clause-built : goal.returns-in_err-reserve-2-clause-built
returns-in_err-reserve-2-clause-built c = roomed_built c.args.patch.now (record c.args.patch.now { web = c.reserve-2.new.self })
    (record { grove = refl; web = c.reserve-2.ensures.same; links = same_links c.args.patch.now.links; names = refl; timers = refl; orders = refl; numbers = refl; values = refl; rate = refl; present = refl })

pub returns-in_err-reserve_links-clause-rewires : goal.returns-in_err-reserve_links-clause-rewires
returns-in_err-reserve_links-clause-rewires c = roomed c.args.patch.now (record c.args.patch.now { web = c.reserve-2.new.self; links = c.reserve_links.new.links })
    (record { grove = refl; web = c.reserve-2.ensures.same; links = c.reserve_links.ensures.same; names = refl; timers = refl; orders = refl; numbers = refl; values = refl; rate = refl; present = refl })

pub returns-in_err-reserve_links-clause-built : goal.returns-in_err-reserve_links-clause-built
returns-in_err-reserve_links-clause-built c = roomed_built c.args.patch.now (record c.args.patch.now { web = c.reserve-2.new.self; links = c.reserve_links.new.links })
    (record { grove = refl; web = c.reserve-2.ensures.same; links = c.reserve_links.ensures.same; names = refl; timers = refl; orders = refl; numbers = refl; values = refl; rate = refl; present = refl })

pub returns-clause-rewires : goal.returns-clause-rewires
returns-clause-rewires c = roomed c.args.patch.now (record c.args.patch.now { web = c.reserve-2.new.self; links = c.reserve_links.new.links })
    (record { grove = refl; web = c.reserve-2.ensures.same; links = c.reserve_links.ensures.same; names = refl; timers = refl; orders = refl; numbers = refl; values = refl; rate = refl; present = refl })

pub returns-clause-built : goal.returns-clause-built
returns-clause-built c = roomed_built c.args.patch.now (record c.args.patch.now { web = c.reserve-2.new.self; links = c.reserve_links.new.links })
    (record { grove = refl; web = c.reserve-2.ensures.same; links = c.reserve_links.ensures.same; names = refl; timers = refl; orders = refl; numbers = refl; values = refl; rate = refl; present = refl })
