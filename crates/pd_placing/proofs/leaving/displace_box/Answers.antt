use Rattle.std.proofs.Common.{◌≡◌, true, false, sym, ◌∙◌}
use Rattle.slab.specs.Slab.{get}
use Rattle.pd_patch.specs.Orders.{is_signal_node}
use Rattle.pd_wiring.proofs.GraphLemmas.{signal_there}
use Rattle.pd_placing.proofs.GroveLemmas.{none_silent, lacks_none}
use Rattle.pd_placing.proofs.PlaceLemmas.{alone_in}
use Rattle.pd_placing.proofs.leaving.displace_box.Goals as goal

pub leave_in-requires-clause-alone : goal.leave_in-requires-clause-alone
leave_in-requires-clause-alone c =
    let h = c.args.grove.now in
    let signal : is_signal_node (get h.nodes c.args.key) ≡ true = sym c.is_signal_box.ensures ∙ c.if-not-is_signal_box.false in
    record {
      lawful = c.requires.lawful;
      alone = alone_in h c.args.links.now c.args.canvas c.args.key c.requires.loose;
      there = signal_there h c.args.canvas c.args.key c.requires.here signal;
    }

pub returns-then-not-is_signal_box-clause-lacks : goal.returns-then-not-is_signal_box-clause-lacks
returns-then-not-is_signal_box-clause-lacks c =
    let h = c.args.grove.now in
    let silent : is_signal_node (get h.nodes c.args.key) ≡ false = sym c.is_signal_box.ensures ∙ c.if-not-is_signal_box.true in
    lacks_none h c.args.links.now c.args.canvas c.args.key c.args.orders.now.items (none_silent h c.args.canvas c.args.key silent) c.requires.order

pub returns-then-not-is_signal_box-clause-all : goal.returns-then-not-is_signal_box-clause-all
returns-then-not-is_signal_box-clause-all c =
    let h = c.args.grove.now in
    let silent : is_signal_node (get h.nodes c.args.key) ≡ false = sym c.is_signal_box.ensures ∙ c.if-not-is_signal_box.true in
    λ o. record {
      lacks = lacks_none h c.args.links.now c.args.canvas c.args.key c.args.orders.now.items (none_silent h c.args.canvas c.args.key silent) c.requires.order;
      others = λ d differ. o d;
    }
