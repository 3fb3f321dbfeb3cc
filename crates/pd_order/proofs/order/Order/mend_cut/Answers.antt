use Rattle.std.proofs.Common.{◌≡◌, ℕ, ◌+◌, ◌*◌, ◌≤◌, List, ◌++◌, length, take, drop, arith, subst}
use Rattle.std.proofs.lemmas.List.{take_at}
use Rattle.pd_order.specs.declared.spots.Spot.{Spot}
use Rattle.pd_order.specs.Graph.{Graph, ends, add_wire}
use Rattle.pd_order.specs.Spots.{nodes_of}
use Rattle.pd_order.specs.Listing.{Listing}
use Rattle.pd_order.specs.Window.{first_difference, differences_end, changed_places, changed_ends}
use Rattle.pd_order.proofs.WindowLemmas.{differences_window}
use Rattle.pd_order.proofs.order.Order.mend_cut.Goals as goal

pub invariant_of-self : goal.invariant_of-self
invariant_of-self g c =
    let l : length c.cut_over.new.spots ≡ c.self.inside.spots.vec.len = (let a = c.cut_over.auto.spots in let b = c.as_mut_slice.ensures.len in omega arith) in
    let e : take c.self.inside.spots.vec.len (c.cut_over.new.spots ++ drop (length c.cut_over.new.spots) c.self.inside.spots.vec.items) ≡ c.cut_over.new.spots = take_at c.cut_over.new.spots (drop (length c.cut_over.new.spots) c.self.inside.spots.vec.items) c.self.inside.spots.vec.len l in
    record {
      listed = rw e c.cut_over.ensures.listed;
      no_heap = c.cut_over.ensures.heap;
      no_spare = c.cut_over.ensures.spare;
      within = rw e (let a = c.self.inside.spots.vec.ok in let w = c.self.invariant.within in let r = c.cut_over.ensures.spare_capacity in omega arith);
      in_chain = (let w = c.self.invariant.in_chain in let q = c.cut_over.ensures.chain_capacity in let r = c.cut_over.ensures.spare_capacity in omega arith);
      in_stuck = (let w = c.self.invariant.in_stuck in let q = c.cut_over.ensures.stuck_capacity in let r = c.cut_over.ensures.spare_capacity in omega arith);
      in_spots = (let w = c.self.invariant.in_spots in let r = c.cut_over.ensures.spare_capacity in omega arith);
      in_heap = (let w = c.self.invariant.in_heap in let q = c.cut_over.ensures.heap_capacity in let r = c.cut_over.ensures.spare_capacity in omega arith);
    }

pub returns-clause-looks : goal.returns-clause-looks
returns-clause-looks g c =
    let G : Graph = add_wire (g.G.SignalGraph.meaning c.args.graph.now) c.args.source c.args.sink in
    let C : List ℕ = c.self.inside.chain.vec.items in
    let N : List ℕ = c.cut_over.new.chain.items in
    let k : c.cut_over.new.steps ≤ c.args.steps.now + 4 * (changed_places C N + changed_ends G (nodes_of c.as_mut_slice.result.now) C N) + 4 * ends G c.args.sink + 8 =
    c.cut_over.ensures.looks (first_difference C N) (differences_end C N) (differences_window C N) in
    let m : c.cut_over.new.steps ≤ c.args.steps.now + 4 * (changed_places C N + changed_ends G (nodes_of c.self.inside.spots.vec.items) C N) + 4 * ends G c.args.sink + 8 =
    subst (λ (ss : List Spot). c.cut_over.new.steps ≤ c.args.steps.now + 4 * (changed_places C N + changed_ends G (nodes_of ss) C N) + 4 * ends G c.args.sink + 8) c.as_mut_slice.ensures.value k in
    subst (λ (v : Listing). c.cut_over.new.steps ≤ c.args.steps.now + 4 * (changed_places v.chain N + changed_ends G (nodes_of v.spots) v.chain N) + 4 * ends G c.args.sink + 8) c.self.view_is m
