use Rattle.std.proofs.Common.{◌∷◌, refl, sym, ◌∙◌, arith}
use Rattle.pd_order.specs.Graph.{IsLawful}
use Rattle.pd_order.specs.Spots.{nodes_of}
use Rattle.pd_order.proofs.FoldLemmas.{lawful_nodes}
use Rattle.pd_order.proofs.MendLemmas.{order_nodes}
use Rattle.pd_links.specs.Linked.{link_graph}
use Rattle.pd_bench_edits.proofs.NetLemmas.{behind_there, on_nodes, fewer_spots, gone, relabelled, under_labels}
use Rattle.pd_bench_edits.proofs.canvas.Canvas.move_alone.Goals as goal

pub remove_alone-requires-clause-there : goal.remove_alone-requires-clause-there
remove_alone-requires-clause-there g c =
    let old = c.args.self.now in
    omega (arith, behind_there old.net.count c.args.node c.requires.behind c.requires.within, old.nodes_are c.args.node)

pub remove_alone-requires-clause-alone : goal.remove_alone-requires-clause-alone
remove_alone-requires-clause-alone g c =
    let old = c.args.self.now in
    (link_graph old.net.labels.items old.net.links, old.order_is, c.requires.alone)

pub insert_alone-requires-clause-fresh : goal.insert_alone-requires-clause-fresh
insert_alone-requires-clause-fresh g c =
    let old = c.args.self.now in
    let law : IsLawful (link_graph old.net.labels.items old.net.links) (nodes_of old.order.spots) = on_nodes (link_graph old.net.labels.items old.net.links) old.net.count old.net.count (nodes_of old.order.spots) refl old.nodes_are old.net.lawful in
    gone c.args.node (nodes_of old.order.spots) (nodes_of c.remove_alone.new.self.spots) law.once c.remove_alone.ensures.nodes

pub insert_alone-requires-clause-room : goal.insert_alone-requires-clause-room
insert_alone-requires-clause-room g c =
    let old = c.args.self.now in
    let law : IsLawful (link_graph old.net.labels.items old.net.links) (nodes_of old.order.spots) = on_nodes (link_graph old.net.labels.items old.net.links) old.net.count old.net.count (nodes_of old.order.spots) refl old.nodes_are old.net.lawful in
    omega (arith, fewer_spots c.args.node old.order.spots c.remove_alone.new.self.spots law.once c.remove_alone.ensures.nodes, c.laws.ensures.room, c.remove_alone.ensures.room)

pub insert_alone-requires-clause-few : goal.insert_alone-requires-clause-few
insert_alone-requires-clause-few g c =
    let old = c.args.self.now in
    let law : IsLawful (link_graph old.net.labels.items old.net.links) (nodes_of old.order.spots) = on_nodes (link_graph old.net.labels.items old.net.links) old.net.count old.net.count (nodes_of old.order.spots) refl old.nodes_are old.net.lawful in
    omega (arith, fewer_spots c.args.node old.order.spots c.remove_alone.new.self.spots law.once c.remove_alone.ensures.nodes, c.laws.ensures.listed.few)

pub insert_alone-requires-clause-alone : goal.insert_alone-requires-clause-alone
insert_alone-requires-clause-alone g c = record { unfed = c.requires.alone.unfed; unfollowed = c.requires.alone.unfollowed }

pub insert_alone-requires-clause-lawful : goal.insert_alone-requires-clause-lawful
insert_alone-requires-clause-lawful g c =
    let old = c.args.self.now in
    lawful_nodes (link_graph c.as_slice.result.now old.net.links) (nodes_of old.order.spots) (c.args.node ∷ nodes_of c.remove_alone.new.self.spots) (λ x. sym (c.remove_alone.ensures.nodes x))
    (under_labels old.net.labels.items c.as_slice.result.now old.net.links old.net.count old.net.count (nodes_of old.order.spots) c.as_slice.ensures.value refl old.nodes_are old.net.lawful)

pub insert_alone-requires-clause-order : goal.insert_alone-requires-clause-order
insert_alone-requires-clause-order g c =
    let old = c.args.self.now in
    let mid = c.remove_alone.new.self in
    let net = link_graph old.net.labels.items old.net.links in
    relabelled old.net.labels.items c.as_slice.result.now old.net.links (nodes_of mid.spots) mid.chain mid.stuck c.as_slice.ensures.value
    (c.remove_alone.ensures.order net (on_nodes net old.net.count old.net.count (nodes_of old.order.spots) refl old.nodes_are old.net.lawful) c.requires.alone old.order_is)

pub invariant_of-self : goal.invariant_of-self
invariant_of-self g c =
    let old = c.args.self.now in
    let mid = c.remove_alone.new.self in
    let new = c.insert_alone.new.self in (
      (old.net.lawful, tt),
      (
        relabelled c.as_slice.result.now old.net.labels.items old.net.links (nodes_of new.spots) new.chain new.stuck (sym c.as_slice.ensures.value)
            (order_nodes (link_graph c.as_slice.result.now old.net.links) (c.args.node ∷ nodes_of mid.spots) (nodes_of new.spots) new.chain new.stuck (λ x. sym (c.insert_alone.ensures.nodes x)) c.insert_alone.ensures.order),
        ((λ x. c.insert_alone.ensures.nodes x ∙ (sym (c.remove_alone.ensures.nodes x) ∙ old.nodes_are x)), tt),
      ),
    )
