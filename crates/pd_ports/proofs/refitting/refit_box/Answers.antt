use Rattle.std.proofs.Common.{◌≤◌, ◌<◌, ◌^◌, ℕ, List, Option, length, slice_get, sym, ap, ◌∙◌, subst, arith}
use Rattle.std.proofs.lemmas.List.{length-map}
use Rattle.pd_grove.specs.declared.ports.Side.{Side}
use Rattle.pd_web.specs.declared.sockets.Sockets.{Sockets}
use Rattle.pd_web.specs.Jacks.{jacks_at}
use Rattle.pd_web.specs.Sockets.{ports_in, ports_at, side_ports, jacks_of, loose_port, made_of}
use Rattle.pd_ports.proofs.BoxLemmas.{jacks_by, loose_by}
use Rattle.pd_ports.proofs.HomeLemmas.{forgotten_by, ports_found, others_known}
use Rattle.pd_ports.proofs.LiveLemmas.{port_lives}
use Rattle.pd_ports.proofs.RefitLemmas.{refit_few, refit_tied, refit_free, refit_lines, refit_fans, refit_feeds, left_live}
use Rattle.pd_ports.proofs.refitting.refit_box.Goals as goal

pub swap_keeping-left-requires-clause-loose : goal.swap_keeping-left-requires-clause-loose
swap_keeping-left-requires-clause-loose c = λ side i. loose_by c.filled-own.result side (jacks_at side c.args.grove.now c.args.key) i (c.filled-own.ensures.told side)

pub know_ports-requires : goal.know_ports-requires
know_ports-requires c = λ side.
    let w = c.args.web.now in
    let count = λ (side : Side). ap length (c.filled-own.ensures.told side) ∙ length-map (jacks_at side c.args.grove.now c.args.key) loose_port in
    let few = refit_few w.sockets.items c.swap_keeping-left.new.sockets.items w.spots.items w.book w.book w.spare.items c.args.key c.filled-own.result c.swap_keeping-left.result c.swap_keeping-left.ensures w.few w.tied w.free c.filled-own.ensures.few
    (λ side i l. let n = count side in c.requires.beyond side i (omega (arith, n, l))) in
    let at = ap (λ (xs : List Sockets). slice_get xs c.args.key) (sym c.as_slice-sockets.ensures.value) ∙ c.sockets_of.ensures in
    let P : Option Sockets → Type 0 = λ o. length (ports_in side o) < 2 ^ 32 in
    subst P at (few side c.args.key)

pub drop_ends-requires : goal.drop_ends-requires
drop_ends-requires c =
    let w = c.args.web.now in
    let count = λ (side : Side). ap length (c.filled-own.ensures.told side) ∙ length-map (jacks_at side c.args.grove.now c.args.key) loose_port in
    left_live w.sockets.items c.swap_keeping-left.new.sockets.items w.spots.items w.book w.book w.spare.items c.args.key c.filled-own.result c.swap_keeping-left.result c.swap_keeping-left.ensures w.few w.tied w.free c.filled-own.ensures.few
    (λ side i l. let n = count side in c.requires.beyond side i (omega (arith, n, l)))

pub invariant_of-web : goal.invariant_of-web
invariant_of-web c =
    let w = c.args.web.now in
    let all = w.sockets.items in
    let after = c.swap_keeping-left.new.sockets.items in
    let b = c.drop_ends.new.book in
    let own = c.filled-own.result in
    let left = c.swap_keeping-left.result in
    let count = λ (side : Side). ap length (c.filled-own.ensures.told side) ∙ length-map (jacks_at side c.args.grove.now c.args.key) loose_port in
    let beyond = λ (side : Side) (i : ℕ) (l : length (side_ports side own) ≤ i). let n = count side in c.requires.beyond side i (omega (arith, n, l)) in
    record {
      few = refit_few all after w.spots.items w.book b w.spare.items c.args.key own left c.swap_keeping-left.ensures w.few w.tied w.free c.filled-own.ensures.few beyond;
      tied = refit_tied all after w.spots.items w.book b w.spare.items c.args.key own left c.swap_keeping-left.ensures w.few w.tied w.free c.filled-own.ensures.few beyond c.drop_ends.ensures;
      free = refit_free all after w.spots.items w.book b w.spare.items c.args.key own left c.swap_keeping-left.ensures w.few w.tied w.free c.filled-own.ensures.few beyond c.drop_ends.ensures;
    }

pub returns-clause-ports : goal.returns-clause-ports
returns-clause-ports c =
    let w = c.args.web.now in
    let all = w.sockets.items in
    let after = c.swap_keeping-left.new.sockets.items in
    let b = c.drop_ends.new.book in
    let own = c.filled-own.result in
    let left = c.swap_keeping-left.result in
    let refits = c.swap_keeping-left.ensures in
    let count = λ (side : Side). ap length (c.filled-own.ensures.told side) ∙ length-map (jacks_at side c.args.grove.now c.args.key) loose_port in
    let beyond = λ (side : Side) (i : ℕ) (l : length (side_ports side own) ≤ i). let n = count side in c.requires.beyond side i (omega (arith, n, l)) in
    record {
      ports = λ side. refits.jacks side ∙ jacks_by own side (jacks_at side c.args.grove.now c.args.key) (c.filled-own.ensures.told side);
      made = refits.made ∙ c.filled-own.ensures.made;
      other_ports = λ side k ne. ap (λ (o : Option Sockets). jacks_of (ports_in side o)) (refits.others k ne);
      others_made = λ k ne. ap made_of (refits.others k ne);
      lines = refit_lines all after w.spots.items w.book b w.spare.items c.args.key own left refits w.few w.tied w.free c.filled-own.ensures.few beyond c.drop_ends.ensures;
      fans = refit_fans all after w.spots.items w.book b w.spare.items c.args.key own left refits w.few w.tied w.free c.filled-own.ensures.few beyond c.drop_ends.ensures;
      feeds = refit_feeds all after w.spots.items w.book b w.spare.items c.args.key own left refits w.few w.tied w.free c.filled-own.ensures.few beyond c.drop_ends.ensures;
    }

pub returns-clause-homes : goal.returns-clause-homes
returns-clause-homes c =
    let w = c.args.web.now in
    let g = c.args.grove.now in
    let left = c.swap_keeping-left.result in
    let own = c.sockets_of.result.now in
    let refits = c.swap_keeping-left.ensures in
    let at = ap (λ (xs : List Sockets). slice_get xs c.args.key) (sym c.as_slice-sockets.ensures.value) ∙ c.sockets_of.ensures in
    let told = λ (side : Side). ap (λ (o : Option Sockets). jacks_of (ports_in side o)) (sym at) ∙ refits.jacks side ∙ jacks_by c.filled-own.result side (jacks_at side g c.args.key) (c.filled-own.ensures.told side) in
    let gone = forgotten_by c.args.key (λ side. jacks_of (ports_at w.sockets.items side c.args.key)) left w.homes.items c.forget_ports.new.homes.items refits.left_jacks c.forget_ports.ensures c.requires.homes in
    ports_found g own c.args.key c.forget_ports.new.homes.items c.know_ports.new.homes.items told c.know_ports.ensures
    (λ j i is. let r = (c.requires.near j (port_lives g j c.args.key i is)).homes in let f = c.forget_ports.ensures.far in omega (arith, r, f)) (λ j i is. gone j ∙ c.requires.apart j i is)

pub returns-clause-other_homes : goal.returns-clause-other_homes
returns-clause-other_homes c = λ j never.
    let w = c.args.web.now in
    let g = c.args.grove.now in
    let left = c.swap_keeping-left.result in
    let own = c.sockets_of.result.now in
    let refits = c.swap_keeping-left.ensures in
    let at = ap (λ (xs : List Sockets). slice_get xs c.args.key) (sym c.as_slice-sockets.ensures.value) ∙ c.sockets_of.ensures in
    let told = λ (side : Side). ap (λ (o : Option Sockets). jacks_of (ports_in side o)) (sym at) ∙ refits.jacks side ∙ jacks_by c.filled-own.result side (jacks_at side g c.args.key) (c.filled-own.ensures.told side) in
    let gone = forgotten_by c.args.key (λ side. jacks_of (ports_at w.sockets.items side c.args.key)) left w.homes.items c.forget_ports.new.homes.items refits.left_jacks c.forget_ports.ensures c.requires.homes in
    others_known g own c.args.key c.forget_ports.new.homes.items c.know_ports.new.homes.items told c.know_ports.ensures j never ∙ gone j
