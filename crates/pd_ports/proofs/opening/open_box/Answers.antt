use Rattle.std.proofs.Common.{refl, ◌∙◌, arith}
use Rattle.pd_grove.specs.declared.ports.Side.{Side}
use Rattle.pd_web.specs.Jacks.{jacks_at}
use Rattle.pd_ports.proofs.BoxLemmas.{opened_takes, put_few, put_tied, put_free, put_fans, put_feeds, jacks_by, ports_here, ports_there, made_here, made_there}
use Rattle.pd_ports.proofs.HomeLemmas.{ports_found, others_known}
use Rattle.pd_ports.proofs.LiveLemmas.{port_lives}
use Rattle.pd_ports.proofs.opening.open_box.Goals as goal

pub invariant_of-web : goal.invariant_of-web
invariant_of-web c =
    let w = c.args.web.now in
    let own = c.filled-own.result in
    let all = w.sockets.items in
    let after = c.swap_sockets.new.sockets.items in
    let puts = c.swap_sockets.ensures.puts in
    let takes = opened_takes all after w.spots.items w.book c.args.key own (λ side. jacks_at side c.args.grove.now c.args.key) puts c.filled-own.ensures.told c.requires.bare in
    record {
      few = put_few all after c.args.key own puts c.filled-own.ensures.few w.few;
      tied = put_tied all after w.spots.items w.book c.args.key own takes w.tied;
      free = put_free all after w.spots.items w.book w.spare.items c.args.key own takes w.free;
    }

pub returns-clause-ports : goal.returns-clause-ports
returns-clause-ports c =
    let w = c.args.web.now in
    let own = c.filled-own.result in
    let all = w.sockets.items in
    let after = c.swap_sockets.new.sockets.items in
    let puts = c.swap_sockets.ensures.puts in
    let takes = opened_takes all after w.spots.items w.book c.args.key own (λ side. jacks_at side c.args.grove.now c.args.key) puts c.filled-own.ensures.told c.requires.bare in
    record {
      ports = λ side. ports_here all after c.args.key own side puts ∙ jacks_by own side (jacks_at side c.args.grove.now c.args.key) (c.filled-own.ensures.told side);
      made = made_here all after c.args.key own puts ∙ c.filled-own.ensures.made;
      other_ports = λ side k ne. ports_there all after c.args.key own side k puts ne;
      others_made = λ k ne. made_there all after c.args.key own k puts ne;
      lines = λ k. refl;
      fans = put_fans all after w.spots.items w.book c.args.key own takes;
      feeds = put_feeds all after w.spots.items w.book c.args.key own takes;
    }

pub returns-clause-homes : goal.returns-clause-homes
returns-clause-homes c =
    let w = c.args.web.now in
    let g = c.args.grove.now in
    let own = c.filled-own.result in
    let told = λ (side : Side). jacks_by own side (jacks_at side g c.args.key) (c.filled-own.ensures.told side) in
    record {
      found =
          ports_found g own c.args.key w.homes.items c.know_ports.new.homes.items told c.know_ports.ensures
          (λ j i is. let r = (c.requires.near j (port_lives g j c.args.key i is)).homes in omega (arith, r)) c.requires.apart;
      others = others_known g own c.args.key w.homes.items c.know_ports.new.homes.items told c.know_ports.ensures;
    }
