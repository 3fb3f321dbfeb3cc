use Rattle.std.proofs.Common.{ap, ◌∙◌}
use Rattle.pd_web.specs.Sockets.{jacks_of}
use Rattle.pd_ports.proofs.BoxLemmas.{none_at, ports_here, ports_there, made_here, made_there}
use Rattle.pd_ports.proofs.EndLemmas.{olds_live}
use Rattle.pd_ports.proofs.HomeLemmas.{ports_forgotten}
use Rattle.pd_ports.proofs.CloseLemmas.{closes_stays}
use Rattle.pd_ports.proofs.closing.close_box.Goals as goal

pub drop_ends-requires : goal.drop_ends-requires
drop_ends-requires c =
    let w = c.args.web.now in olds_live w.sockets.items w.spots.items w.book c.args.key c.swap_sockets-own.result w.tied c.swap_sockets-own.ensures.was

pub invariant_of-web : goal.invariant_of-web
invariant_of-web c =
    let w = c.args.web.now in
    let s = c.swap_sockets-own in
    let none = c.no_ports in
    let stays = closes_stays w.sockets.items s.new.sockets.items w.spots.items w.book c.drop_ends.new.book w.spare.items c.args.key s.result none.result
    (record {
      few = w.few;
      tied = w.tied;
      free = w.free;
      puts = s.ensures.puts;
      was = s.ensures.was;
      no_inlets = none.ensures.inlets;
      no_outlets = none.ensures.outlets;
      fans = c.requires.bare.fans;
      feeds = c.requires.bare.feeds;
      drops = c.drop_ends.ensures;
    }) in
    record { few = stays.few; tied = stays.tied; free = stays.free }

pub returns-clause-ports : goal.returns-clause-ports
returns-clause-ports c =
    let w = c.args.web.now in
    let s = c.swap_sockets-own in
    let none = c.no_ports in
    let all = w.sockets.items in
    let after = s.new.sockets.items in
    let puts = s.ensures.puts in
    let stays = closes_stays all after w.spots.items w.book c.drop_ends.new.book w.spare.items c.args.key s.result none.result
    (record {
      few = w.few;
      tied = w.tied;
      free = w.free;
      puts = puts;
      was = s.ensures.was;
      no_inlets = none.ensures.inlets;
      no_outlets = none.ensures.outlets;
      fans = c.requires.bare.fans;
      feeds = c.requires.bare.feeds;
      drops = c.drop_ends.ensures;
    }) in
    record {
      ports = λ side. ports_here all after c.args.key none.result side puts ∙ ap jacks_of (none_at none.result side none.ensures.inlets none.ensures.outlets);
      made = made_here all after c.args.key none.result puts ∙ none.ensures.made;
      other_ports = λ side k ne. ports_there all after c.args.key none.result side k puts ne;
      others_made = λ k ne. made_there all after c.args.key none.result k puts ne;
      lines = stays.lines;
      fans = stays.fans;
      feeds = stays.feeds;
    }

pub returns-clause-homes : goal.returns-clause-homes
returns-clause-homes c =
    let w = c.args.web.now in
    ports_forgotten w.sockets.items c.args.key c.swap_sockets-own.result w.homes.items c.forget_ports.new.homes.items c.swap_sockets-own.ensures.was c.forget_ports.ensures c.requires.homes
