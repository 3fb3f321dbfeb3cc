use Rattle.std.proofs.Common.{sym, ◌∙◌, arith}
use Rattle.pd_taking.specs.Loosening.{hops_at}
use Rattle.pd_taking.proofs.LoseLemmas.{IsWeb, empty_list}
use Rattle.pd_taking.proofs.LoosenLemmas.{first_more, first_one_less, first_smaller, leads_first, loosens_none}
use Rattle.pd_taking.proofs.loosening.loosen_port.Goals as goal

pub loop-next-init : goal.loop-next-init
loop-next-init g c = record { loosens = loosens_none c.args.patch.now c.args.key c.args.steps.now c.requires.runs c.requires.meet; counted = c.requires.counted; first = c.first_at-next.ensures }

pub detach-requires-clause-wire : goal.detach-requires-clause-wire
detach-requires-clause-wire g c =
    let p = c.args.patch.now in
    let q = c.loop-next.patch in
    let is : IsWeb q.web = record { fans = c.laws.ensures.fans; feeds = c.laws.ensures.feeds } in
    leads_first p q q c.args.side c.args.key c.args.port c.in-Some.hop c.key.result c.line_at.result c.args.steps.now c.loop-next.steps c.loop-next.steps c.loop-next.invariant.loosens is
    c.loop-next.next c.loop-next.invariant.first c.in-Some.is c.key.ensures c.line_at.ensures

pub loop-next-preserved : goal.loop-next-preserved
loop-next-preserved g c =
    let p = c.args.patch.now in
    let q = c.loop-next.patch in
    let is : IsWeb q.web = record { fans = c.laws.ensures.fans; feeds = c.laws.ensures.feeds } in
    let e = c.detach.ensures in
    let r = e.rest in
    record {
      loosens = first_more p q c.detach.new.patch c.args.side c.args.key c.args.port c.in-Some.hop c.key.result c.line_at.result c.args.steps.now c.loop-next.steps c.detach.new.steps c.loop-next.invariant.loosens is
          c.loop-next.next c.loop-next.invariant.first c.in-Some.is c.key.ensures c.line_at.ensures
          (record { done = record { cuts = e.cuts; rest = r; rewires = e.rewires; built = e.built }; control = e.control; looks = e.looks });
      counted =
          let less = first_one_less p q c.detach.new.patch c.args.side c.args.key c.args.port c.in-Some.hop c.key.result c.line_at.result c.args.steps.now c.loop-next.steps c.loop-next.steps c.loop-next.invariant.loosens is
          c.loop-next.next c.loop-next.invariant.first c.in-Some.is c.key.ensures c.line_at.ensures e.cuts in
          let same = c.loop-next.invariant.counted in
          omega (arith, less, same);
      first = c.first_at-next-in-Some.ensures;
    }

pub loop-next-smaller : goal.loop-next-smaller
loop-next-smaller g c =
    let p = c.args.patch.now in
    let q = c.loop-next.patch in
    let is : IsWeb q.web = record { fans = c.laws.ensures.fans; feeds = c.laws.ensures.feeds } in
    let less = first_smaller p q c.detach.new.patch c.args.side c.args.key c.args.port c.in-Some.hop c.key.result c.line_at.result c.args.steps.now c.loop-next.steps c.loop-next.steps c.loop-next.invariant.loosens is
    c.loop-next.next c.loop-next.invariant.first c.in-Some.is c.key.ensures c.line_at.ensures c.detach.ensures.cuts in
    omega (arith, less)

pub returns-clause-none : goal.returns-clause-none
returns-clause-none g c = empty_list (hops_at c.loop-next.patch.web c.args.side c.args.key c.args.port) (sym c.loop-next.invariant.first ∙ c.in_default.is)

pub overflow_sub-left : goal.overflow_sub-left
overflow_sub-left g c =
    let p = c.args.patch.now in
    let q = c.loop-next.patch in
    let is : IsWeb q.web = record { fans = c.laws.ensures.fans; feeds = c.laws.ensures.feeds } in
    let less = first_one_less p q c.detach.new.patch c.args.side c.args.key c.args.port c.in-Some.hop c.key.result c.line_at.result c.args.steps.now c.loop-next.steps c.loop-next.steps c.loop-next.invariant.loosens is
    c.loop-next.next c.loop-next.invariant.first c.in-Some.is c.key.ensures c.line_at.ensures c.detach.ensures.cuts in
    let same = c.loop-next.invariant.counted in
    omega (arith, less, same)
