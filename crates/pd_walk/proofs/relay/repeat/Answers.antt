use Rattle.std.proofs.Common.{arith, ◌+◌, ◌∷◌, refl, sym, ◌∙◌, ap, subst}
use Rattle.std.specs.Prelude.{None, Some}
use Rattle.pd_hearing.specs.declared.briefs.Brief.TheVariants as brief
use Rattle.pd_hearing.specs.Worlds.{Kept, net_of, kept_of}
use Rattle.pd_hearing.proofs.WorldLemmas.{kept-same}
use Rattle.pd_walk.specs.declared.relay.Saying.{Saying}
use Rattle.pd_stack.specs.Pile.{Pile}
use Rattle.pd_stack.specs.Piles.{LeftOn}
use Rattle.pd_stack.specs.Tasks.{Resume}
use Rattle.pd_walk.specs.Relays.{Leads, resumption}
use Rattle.pd_walk.proofs.StayLemmas.{stay-then}
use Rattle.pd_walk.proofs.RelayLemmas.{again-relayed, again-done, again-goes, again-stay, same-stay}
use Rattle.pd_walk.proofs.relay.repeat.Goals as goal

-- what is left of its bang stands on the pile before its resumption
pub returns-in-Some-clause-goes : goal.returns-in-Some-clause-goes
returns-in-Some-clause-goes c = λ now names queue tasks is two left.
    let l = c.loop-goes_on in
    let net = net_of c.args.patch.now in
    let here : Saying = record { node = c.args.node; depth = c.args.depth + 1; message = brief.Bang } in
    again-goes net now (kept_of c.args.patch.now names queue) (kept_of c.relay.new.patch names queue) c.args.budget.now c.relay.new.budget (resumption c.args.depth c.args.node) tasks c.args.depth c.args.node c.in-Some.rest c.push_rest.new.stack
    (again-relayed net (net_of l.patch) (net_of c.goes_on_at-goes_on.new.patch) l.invariant.net (c.goes_on_at-goes_on.ensures.net ∙ l.invariant.net) now (kept_of c.args.patch.now names queue) (kept_of c.relay.new.patch names queue)
    c.args.budget.now l.budget c.relay.new.budget names queue l.patch c.goes_on_at-goes_on.new.patch c.args.depth c.args.node here (Some c.in-Some.rest)
    l.invariant.uncut c.if-budget-gt0.true c.requires.depth refl c.goes_on_at-goes_on.ensures.clocks (c.goes_on_at-goes_on.ensures.inner c.if-goes_on.true) (c.goes_on_at-goes_on.ensures.goes names c.if-goes_on.true)
    (l.invariant.leads now names queue two) (c.in-Some.ensures.relayed now names queue (resumption c.args.depth c.args.node) two))
    (λ rest goes. c.push_rest.ensures.left net rest (Resume c.args.depth c.args.node ∷ tasks) goes
    (c.push_resumption.ensures.left net tasks (subst (λ (p : Pile). LeftOn net p tasks) (sym l.invariant.stack) left)))

pub returns-in-Some-clause-states : goal.returns-in-Some-clause-states
returns-in-Some-clause-states c =
    stay-then _ _ _ (stay-then _ _ _ c.loop-goes_on.invariant.states (again-stay _ _ _ c.args.node (λ names. c.goes_on_at-goes_on.ensures.goes names c.if-goes_on.true))) c.relay.ensures.states

-- it goes on, and nothing is left of its bang
pub loop-goes_on-preserved-in_default : goal.loop-goes_on-preserved-in_default
loop-goes_on-preserved-in_default c =
    let l = c.loop-goes_on in
    let net = net_of c.args.patch.now in
    let here : Saying = record { node = c.args.node; depth = c.args.depth + 1; message = brief.Bang } in
    record {
      net = c.relay.ensures.net ∙ c.goes_on_at-goes_on.ensures.net ∙ l.invariant.net;
      clocks = c.relay.ensures.clocks ∙ c.goes_on_at-goes_on.ensures.clocks ∙ l.invariant.clocks;
      stack = l.invariant.stack;
      uncut = c.relay.ensures.uncut;
      no_more = omega (arith, l.invariant.no_more);
      less = λ is. omega (arith, l.invariant.no_more);
      budget = λ is. cc;
      kept = λ is. cc;
      routes = c.relay.ensures.routes;
      states = stay-then _ _ _ (stay-then _ _ _ l.invariant.states (again-stay _ _ _ c.args.node (λ names. c.goes_on_at-goes_on.ensures.goes names c.if-goes_on.true))) c.relay.ensures.states;
      leads = λ now names queue two.
          again-done net now (kept_of c.args.patch.now names queue) (kept_of c.relay.new.patch names queue) c.args.budget.now c.relay.new.budget (resumption c.args.depth c.args.node) (resumption c.args.depth c.args.node)
          (again-relayed net (net_of l.patch) (net_of c.goes_on_at-goes_on.new.patch) l.invariant.net (c.goes_on_at-goes_on.ensures.net ∙ l.invariant.net) now (kept_of c.args.patch.now names queue) (kept_of c.relay.new.patch names queue)
          c.args.budget.now l.budget c.relay.new.budget names queue l.patch c.goes_on_at-goes_on.new.patch c.args.depth c.args.node here None
          l.invariant.uncut c.if-budget-gt0.true c.requires.depth refl c.goes_on_at-goes_on.ensures.clocks (c.goes_on_at-goes_on.ensures.inner c.if-goes_on.true) (c.goes_on_at-goes_on.ensures.goes names c.if-goes_on.true)
          (l.invariant.leads now names queue two) (c.in_default.ensures.relayed now names queue (resumption c.args.depth c.args.node) two));
    }

-- it doesn't go on
pub loop-goes_on-preserved : goal.loop-goes_on-preserved
loop-goes_on-preserved c =
    let l = c.loop-goes_on in
    let stays = c.goes_on_at-goes_on.ensures.stays c.if-goes_on.false in
    record {
      net = c.goes_on_at-goes_on.ensures.net ∙ l.invariant.net;
      clocks = c.goes_on_at-goes_on.ensures.clocks ∙ l.invariant.clocks;
      stack = l.invariant.stack;
      uncut = l.invariant.uncut;
      no_more = l.invariant.no_more;
      less = l.invariant.less;
      budget = l.invariant.budget;
      kept = λ is. stays ∙ l.invariant.kept is;
      routes = rw (ap (λ n. n.web) c.goes_on_at-goes_on.ensures.net) l.invariant.routes;
      states = stay-then _ _ _ l.invariant.states (same-stay _ _ stays);
      leads = λ now names queue two.
          subst (λ (k : Kept). Leads (net_of c.args.patch.now) now (kept_of c.args.patch.now names queue) c.args.budget.now (resumption c.args.depth c.args.node) k l.budget (resumption c.args.depth c.args.node))
          (sym (kept-same l.patch c.goes_on_at-goes_on.new.patch names queue stays c.goes_on_at-goes_on.ensures.clocks)) (l.invariant.leads now names queue two);
    }

pub returns-then-has_gone-clause-goes : goal.returns-then-has_gone-clause-goes
returns-then-has_gone-clause-goes c = λ now names queue tasks is two left.
    let l = c.loop-goes_on in
    let net = net_of c.args.patch.now in
    record {
      rest = resumption c.args.depth c.args.node;
      left = c.push_resumption-then-has_gone.ensures.left net tasks (subst (λ (p : Pile). LeftOn net p tasks) (sym l.invariant.stack) left);
      leads = l.invariant.leads now names queue two;
    }
