use Rattle.std.proofs.Common.{arith}
use Rattle.pd_links.proofs.LinkLemmas.{room_more, same_room}
use Rattle.pd_wiring.proofs.WebLemmas.{HasLaws}
use Rattle.pd_taking.proofs.LoseLemmas.{IsWeb}
use Rattle.pd_taking.proofs.LoosenLemmas.{loosens_none}
use Rattle.pd_misfits.proofs.ShedLemmas.{item_leads, item_loosens, item_one_less, item_sheds, sheds_all, sheds_none}
use Rattle.pd_misfits.proofs.loosening.loosen_wires.Goals as goal

pub loop-wire-init : goal.loop-wire-init
loop-wire-init g c = record {
  loosens = loosens_none c.args.patch.now c.args.key c.args.steps.now c.requires.runs c.requires.meet;
  sheds = sheds_none c.args.patch.now.web;
  room = same_room c.args.patch.now.links;
  counted = c.requires.counted;
  within = omega arith;
  fewer = omega arith;
}

pub detach-requires-clause-runs : goal.detach-requires-clause-runs
detach-requires-clause-runs g c = c.loop-wire.invariant.loosens.rewires

pub detach-requires-clause-wire : goal.detach-requires-clause-wire
detach-requires-clause-wire g c =
    item_leads c.args.patch.now c.loop-wire.patch c.loop-wire.patch c.args.key c.args.gone.now c.loop-wire.wire-index c.wire-item.result c.requires.wires c.loop-wire.invariant.sheds
    c.loop-wire-test.true c.wire-item.is

pub loop-wire-preserved : goal.loop-wire-preserved
loop-wire-preserved g c =
    let p = c.args.patch.now in
    let q = c.loop-wire.patch in
    let r = c.detach.new.patch in
    let web : IsWeb q.web = record { fans = c.laws.ensures.fans; feeds = c.laws.ensures.feeds } in
    let laws : HasLaws q.web = record { fans = c.laws.ensures.fans; once = c.laws.ensures.once } in
    let e = c.detach.ensures in
    let i = c.loop-wire.wire-index in
    let m = c.wire-item.result in
    let was = c.loop-wire.invariant in
    let sheds = was.sheds in
    record {
      loosens = item_loosens p q r c.args.key c.args.gone.now i m c.requires.wires sheds c.loop-wire-test.true c.wire-item.is c.args.steps.now c.loop-wire.steps c.detach.new.steps was.loosens web laws
          (record { done = record { cuts = e.cuts; rest = e.rest; rewires = e.rewires; built = e.built }; control = e.control; looks = e.looks });
      sheds = item_sheds p q r c.args.key c.args.gone.now i m c.requires.wires sheds c.loop-wire-test.true c.wire-item.is e.cuts;
      room = room_more p.links q.links r.links was.room e.room;
      counted =
          let less = item_one_less p q r c.args.key c.args.gone.now i m c.requires.wires sheds c.loop-wire-test.true c.wire-item.is laws e.cuts in
          let same = was.counted in
          omega (arith, less, same);
      within = let lt = c.loop-wire-test.true in omega (arith, lt);
      fewer =
          let less = item_one_less p q r c.args.key c.args.gone.now i m c.requires.wires sheds c.loop-wire-test.true c.wire-item.is laws e.cuts in
          let same = was.fewer in
          omega (arith, less, same);
    }

pub overflow_sub-left : goal.overflow_sub-left
overflow_sub-left g c =
    let p = c.args.patch.now in
    let q = c.loop-wire.patch in
    let laws : HasLaws q.web = record { fans = c.laws.ensures.fans; once = c.laws.ensures.once } in
    let less = item_one_less p q c.detach.new.patch c.args.key c.args.gone.now c.loop-wire.wire-index c.wire-item.result c.requires.wires c.loop-wire.invariant.sheds c.loop-wire-test.true
    c.wire-item.is laws c.detach.ensures.cuts in
    let same = c.loop-wire.invariant.counted in
    omega (arith, less, same)

pub returns-clause-sheds : goal.returns-clause-sheds
returns-clause-sheds g c = sheds_all c.args.patch.now.web c.loop-wire.patch.web c.args.gone.now c.loop-wire.wire-index c.loop-wire-test.false c.loop-wire.invariant.sheds

pub returns-clause-room : goal.returns-clause-room
returns-clause-room g c = c.loop-wire.invariant.room

pub returns-clause-fewer : goal.returns-clause-fewer
returns-clause-fewer g c =
    let within = c.loop-wire.invariant.within in
    let all = c.loop-wire-test.false in
    let fewer = c.loop-wire.invariant.fewer in
    omega (arith, within, all, fewer)
