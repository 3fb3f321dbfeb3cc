use Rattle.std.proofs.Common.{refl}
use Rattle.pd_patch.specs.declared.patch.Patch.{Patch}
use Rattle.pd_wiring.specs.Changes.{SameButRoom}
use Rattle.pd_wiring.proofs.BuiltLemmas.{same_links, roomed, roomed_built}
use Rattle.pd_wiring.proofs.room.reserve_wire.Goals as goal

pub returns-in_err-reserve-clause-same : goal.returns-in_err-reserve-clause-same
returns-in_err-reserve-clause-same c = record { grove = refl; web = c.reserve.ensures.same; links = same_links c.args.patch.now.links; names = refl; timers = refl; orders = refl; numbers = refl; values = refl; rate = refl; present = refl }

pub returns-in_err-reserve-clause-rewires : goal.returns-in_err-reserve-clause-rewires
returns-in_err-reserve-clause-rewires c = roomed c.args.patch.now (record c.args.patch.now { web = c.reserve.new.self })
    (record { grove = refl; web = c.reserve.ensures.same; links = same_links c.args.patch.now.links; names = refl; timers = refl; orders = refl; numbers = refl; values = refl; rate = refl; present = refl })

pub returns-in_err-reserve-clause-built : goal.returns-in_err-reserve-clause-built
returns-in_err-reserve-clause-built c = roomed_built c.args.patch.now (record c.args.patch.now { web = c.reserve.new.self })
    (record { grove = refl; web = c.reserve.ensures.same; links = same_links c.args.patch.now.links; names = refl; timers = refl; orders = refl; numbers = refl; values = refl; rate = refl; present = refl })

pub returns-in_err-reserve_one-clause-same : goal.returns-in_err-reserve_one-clause-same
returns-in_err-reserve_one-clause-same c = record { grove = refl; web = c.reserve.ensures.same; links = c.reserve_one.ensures.same; names = refl; timers = refl; orders = refl; numbers = refl; values = refl; rate = refl; present = refl }

pub returns-in_err-reserve_one-clause-rewires : goal.returns-in_err-reserve_one-clause-rewires
returns-in_err-reserve_one-clause-rewires c = roomed c.args.patch.now (record c.args.patch.now { web = c.reserve.new.self; links = c.reserve_one.new.self })
    (record { grove = refl; web = c.reserve.ensures.same; links = c.reserve_one.ensures.same; names = refl; timers = refl; orders = refl; numbers = refl; values = refl; rate = refl; present = refl })

pub returns-in_err-reserve_one-clause-built : goal.returns-in_err-reserve_one-clause-built
returns-in_err-reserve_one-clause-built c = roomed_built c.args.patch.now (record c.args.patch.now { web = c.reserve.new.self; links = c.reserve_one.new.self })
    (record { grove = refl; web = c.reserve.ensures.same; links = c.reserve_one.ensures.same; names = refl; timers = refl; orders = refl; numbers = refl; values = refl; rate = refl; present = refl })

pub returns-clause-same : goal.returns-clause-same
returns-clause-same c = record { grove = refl; web = c.reserve.ensures.same; links = c.reserve_one.ensures.same; names = refl; timers = refl; orders = refl; numbers = refl; values = refl; rate = refl; present = refl }

pub returns-clause-rewires : goal.returns-clause-rewires
returns-clause-rewires c = roomed c.args.patch.now (record c.args.patch.now { web = c.reserve.new.self; links = c.reserve_one.new.self })
    (record { grove = refl; web = c.reserve.ensures.same; links = c.reserve_one.ensures.same; names = refl; timers = refl; orders = refl; numbers = refl; values = refl; rate = refl; present = refl })

pub returns-clause-built : goal.returns-clause-built
returns-clause-built c = roomed_built c.args.patch.now (record c.args.patch.now { web = c.reserve.new.self; links = c.reserve_one.new.self })
    (record { grove = refl; web = c.reserve.ensures.same; links = c.reserve_one.ensures.same; names = refl; timers = refl; orders = refl; numbers = refl; values = refl; rate = refl; present = refl })

pub returns-clause-room : goal.returns-clause-room
returns-clause-room c = record { web = c.in_ok-reserve.ensures.room; links = c.in_ok-reserve_one.ensures.room }
