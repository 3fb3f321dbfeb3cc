use Rattle.std.proofs.Common.{refl, arith}
use Rattle.pd_web.proofs.ChangeLemmas.{lost_less, wire_of_line}
use Rattle.pd_web.proofs.web.Web.cut.Goals as goal

pub cut-requires : goal.cut-requires
cut-requires c = wire_of_line c.args.self.now.spots.items c.args.self.now.book c.args.key c.requires

pub invariant_of-self : goal.invariant_of-self
invariant_of-self c =
    let w = c.args.self.now in
    let cuts = c.cut.ensures.cuts.4 in
    let less = lost_less w.sockets.items w.spots.items w.book c.cut.new.self w.spare.items c.args.key
    (record { linked = c.laws.ensures; tied = w.tied; free = w.free; wire = cuts.wire; other_wires = cuts.other_wires; fans = c.cut.ensures.fans; feeds = c.cut.ensures.feeds; ends = cuts.ends; no_more_ends = cuts.no_more_ends }) in
    record { few = w.few; tied = less.tied; free = less.free }

pub returns : goal.returns
returns c =
    let w = c.args.self.now in
    let cuts = c.cut.ensures.cuts.4 in
    let less = lost_less w.sockets.items w.spots.items w.book c.cut.new.self w.spare.items c.args.key
    (record { linked = c.laws.ensures; tied = w.tied; free = w.free; wire = cuts.wire; other_wires = cuts.other_wires; fans = c.cut.ensures.fans; feeds = c.cut.ensures.feeds; ends = cuts.ends; no_more_ends = cuts.no_more_ends }) in
    record {
      line = less.line;
      other_lines = less.other_lines;
      fans = less.fans;
      feeds = less.feeds;
      kept = record { ports = λ side k. refl; made = λ k. refl; homes = λ j. refl };
      room = λ k p n h. let more = cuts.spare_wires in let had = h.wires in record { boxes = h.boxes; homes = h.homes; ends = h.ends; wires = omega (arith, more, had) };
    }
