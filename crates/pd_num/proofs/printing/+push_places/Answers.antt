use Rattle.std.proofs.Common.{arith}
use Rattle.pd_num.proofs.PlaceLemmas.{place_step}
use Rattle.pd_num.proofs.printing.+push_places.Goals as goal

pub nonzero_div-rest : goal.nonzero_div-rest
nonzero_div-rest t c = (place_step c.args.places c.args.rest c.pow-unit.result c.if-rest-gt0.true c.requires.small c.pow-unit.ensures).above

pub overflow_cast-rest : goal.overflow_cast-rest
overflow_cast-rest t c = let s = place_step c.args.places c.args.rest c.pow-unit.result c.if-rest-gt0.true c.requires.small c.pow-unit.ensures in omega arith

pub overflow_add-rest : goal.overflow_add-rest
overflow_add-rest t c = let s = place_step c.args.places c.args.rest c.pow-unit.result c.if-rest-gt0.true c.requires.small c.pow-unit.ensures in omega arith

pub nonzero_rem-rest : goal.nonzero_rem-rest
nonzero_rem-rest t c = (place_step c.args.places c.args.rest c.pow-unit.result c.if-rest-gt0.true c.requires.small c.pow-unit.ensures).above

pub push_places-requires : goal.push_places-requires
push_places-requires t c = let s = place_step c.args.places c.args.rest c.pow-unit.result c.if-rest-gt0.true c.requires.small c.pow-unit.ensures in (omega arith, (s.below, (omega arith, omega arith)))
