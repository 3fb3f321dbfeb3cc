use Rattle.std.proofs.Common.{arith, ◌≡◌, ◌+◌, ◌-◌, ◌<◌, ◌≤◌, ℕ, ◌∙◌, refl, sym, ap, subst}
use Rattle.std.specs.Prelude.{IfSome, None, ◌++◌}
use Rattle.pd_hearing.specs.Worlds.{net_of, kept_of}
use Rattle.pd_walk.specs.declared.relay.Rest.{Rest}
use Rattle.pd_walk.specs.declared.relay.Saying.{Saying}
use Rattle.pd_walk.specs.declared.walker.Budget.{Budget}
use Rattle.pd_walk.specs.Relays.{saying_at, deeper, spent, saying_tasks, Relayed}
use Rattle.pd_walk.proofs.StayLemmas.{stay-then}
use Rattle.pd_walk.proofs.RelayLemmas.{deeper-same, given-back, one-more, more-leads, stays-so, rest-relayed, silent-relayed, says-leads, heard-by-stay, same-stay}
use Rattle.pd_walk.proofs.relay.relay.Goals as goal

pub returns-in-Unheard-clause-relayed : goal.returns-in-Unheard-clause-relayed
returns-in-Unheard-clause-relayed c = λ now names queue after two.
    let l = c.loop-turns in
    let net = net_of c.args.patch.now in
    let most : ℕ = c.min-most.result in
    let k : ℕ = most - l.turns in
    let new : Saying = saying_at l.here.depth c.step.new.node c.step.new.message in
    let kept = kept_of c.args.patch.now names queue in
    let b : Budget = c.args.budget.now in
    let within : most ≤ b.left = grind arith in
    let back : record { left = l.budget.left + l.turns; cut = l.budget.cut } ≡ spent k b = given-back most l.turns b l.budget l.invariant.few within l.invariant.lent in
    let at : (c.args.saying.now.depth + most) - l.turns ≡ l.here.depth + k = rw l.invariant.depth (omega (arith, l.invariant.few)) in
    subst (λ (x : Budget). Relayed net now kept b (saying_tasks net c.args.saying.now ++ after) (kept_of c.step.new.patch names queue) x c.rest_of.result after) (sym back)
    (rest-relayed net (net_of c.step.new.patch) (c.step.ensures.net ∙ l.invariant.net) now kept b (spent k b) (saying_tasks net c.args.saying.now) names queue
    c.step.new.patch (deeper k new) c.rest_of.result after c.rest_of.ensures.none c.rest_of.ensures.some
    (subst (λ (d : ℕ). IfSome c.rest_of.result (λ (r : Rest). r.depth ≡ d)) at c.rest_of.ensures.depth) c.rest_of.ensures.message
    (stays-so net (net_of l.patch) l.invariant.net now kept b (spent k b) (saying_tasks net c.args.saying.now) names queue
    l.patch c.step.new.patch (deeper k l.here) (deeper k new) (deeper-same k l.here new (c.in-Unheard.ensures.stepped 0).0 (c.in-Unheard.ensures.stepped 0).1.0 refl) (c.in-Unheard.ensures.stepped 0).1.1 c.step.ensures.clocks (l.invariant.leads now names queue two)))

pub returns-in-Unheard-clause-states : goal.returns-in-Unheard-clause-states
returns-in-Unheard-clause-states c = stay-then _ _ _ c.loop-turns.invariant.states (same-stay _ _ (c.in-Unheard.ensures.stepped 0).1.1)

pub loop-turns-preserved : goal.loop-turns-preserved
loop-turns-preserved c =
    let l = c.loop-turns in
    let net = net_of c.args.patch.now in
    let most : ℕ = c.min-most.result in
    let k : ℕ = most - l.turns in
    let b : Budget = c.args.budget.now in
    record {
      net = c.step.ensures.net ∙ l.invariant.net;
      clocks = c.step.ensures.clocks ∙ l.invariant.clocks;
      few = omega (arith, l.invariant.few);
      lent = l.invariant.lent;
      depth = l.invariant.depth;
      routes = c.step.ensures.routes;
      states = stay-then _ _ _ l.invariant.states (heard-by-stay _ _ _ _ _ _ (c.in-Says.ensures.stepped 0));
      leads = λ now names queue two.
          let kept = kept_of c.args.patch.now names queue in
          let within : most ≤ b.left = grind arith in
          let above : most ≤ 1000 - c.args.saying.now.depth = grind arith in
          let more : 0 < b.left - k = omega (arith, l.invariant.few, within) in
          let less : l.here.depth + k < 1000 = rw l.invariant.depth (omega (arith, l.invariant.few, above, c.requires.depth)) in
          let next : most - (l.turns - 1) ≡ k + 1 = omega (arith, l.invariant.few) in
          more-leads net now kept (kept_of c.step.new.patch names queue) b (saying_tasks net c.args.saying.now) k (most - (l.turns - 1)) l.here.depth c.step.new.node c.step.new.message next
          (says-leads net (net_of l.patch) l.invariant.net now kept b (spent k b) (saying_tasks net c.args.saying.now) names queue
          l.patch c.step.new.patch (deeper k l.here) (saying_at (l.here.depth + k + 1) c.step.new.node c.step.new.message) c.requires.uncut more less two c.step.ensures.clocks (c.in-Says.ensures.stepped (l.here.depth + k)) (l.invariant.leads now names queue two));
    }

pub returns-in-Silent-clause-relayed : goal.returns-in-Silent-clause-relayed
returns-in-Silent-clause-relayed c = λ now names queue after two.
    let l = c.loop-turns in
    let net = net_of c.args.patch.now in
    let most : ℕ = c.min-most.result in
    let k : ℕ = most - l.turns in
    let b : Budget = c.args.budget.now in
    let kept = kept_of c.args.patch.now names queue in
    let within : most ≤ b.left = grind arith in
    let above : most ≤ 1000 - c.args.saying.now.depth = grind arith in
    let more : 0 < b.left - k = omega (arith, l.invariant.few, within) in
    let less : l.here.depth + k < 1000 = rw l.invariant.depth (omega (arith, l.invariant.few, above, c.requires.depth)) in
    let next : most - (l.turns - 1) ≡ k + 1 = omega (arith, l.invariant.few) in
    let back : record { left = l.budget.left + (l.turns - 1); cut = l.budget.cut } ≡ spent (k + 1) b
    = given-back most (l.turns - 1) b l.budget (omega (arith, l.invariant.few)) within l.invariant.lent ∙ ap (λ (n : ℕ). spent n b) next in
    subst (λ (x : Budget). Relayed net now kept b (saying_tasks net c.args.saying.now ++ after) (kept_of c.step.new.patch names queue) x None after) (one-more k (k + 1) b refl ∙ sym back)
    (silent-relayed net (net_of l.patch) l.invariant.net now kept b (spent k b) (saying_tasks net c.args.saying.now) names queue
    l.patch c.step.new.patch (deeper k l.here) (saying_at (l.here.depth + k + 1) c.step.new.node c.step.new.message) after c.requires.uncut more less two c.step.ensures.clocks (c.in-Silent.ensures.stepped (l.here.depth + k)) (l.invariant.leads now names queue two))

pub returns-in-Silent-clause-states : goal.returns-in-Silent-clause-states
returns-in-Silent-clause-states c = stay-then _ _ _ c.loop-turns.invariant.states (heard-by-stay _ _ _ _ _ _ (c.in-Silent.ensures.stepped 0))

pub returns-clause-relayed : goal.returns-clause-relayed
returns-clause-relayed c = λ now names queue after two.
    let l = c.loop-turns in
    let net = net_of c.args.patch.now in
    let most : ℕ = c.min-most.result in
    let k : ℕ = most - l.turns in
    let b : Budget = c.args.budget.now in
    let kept = kept_of c.args.patch.now names queue in
    let within : most ≤ b.left = grind arith in
    let none : l.turns ≡ 0 = omega arith in
    let all : k ≡ most = omega (arith, none) in
    let back : l.budget ≡ spent k b = l.invariant.lent ∙ sym (ap (λ (n : ℕ). spent n b) all) in
    let at : c.args.saying.now.depth + most ≡ l.here.depth + k = rw l.invariant.depth (omega (arith, none)) in
    subst (λ (x : Budget). Relayed net now kept b (saying_tasks net c.args.saying.now ++ after) (kept_of l.patch names queue) x c.rest_of-2.result after) (sym back)
    (rest-relayed net (net_of l.patch) l.invariant.net now kept b (spent k b) (saying_tasks net c.args.saying.now) names queue
    l.patch (deeper k l.here) c.rest_of-2.result after c.rest_of-2.ensures.none c.rest_of-2.ensures.some
    (subst (λ (d : ℕ). IfSome c.rest_of-2.result (λ (r : Rest). r.depth ≡ d)) at c.rest_of-2.ensures.depth) c.rest_of-2.ensures.message (l.invariant.leads now names queue two))
