use Rattle.std.proofs.Common.{◌≡◌, ℕ, ◌+◌, ◌<◌, ◌≤◌, ◌⊎◌, inl, inr, List, length, take, drop, arith, sym, ◌∙◌, refl, ap, subst}
use Rattle.std.proofs.lemmas.List.{length-take-le}
use Rattle.pd_order.specs.Graph.{Graph, tally, total}
use Rattle.pd_order.specs.Spots.{nodes_of, place_in, mark_in, nowhere}
use Rattle.pd_order.specs.Work.{IsRunning, IsTraced, looks_on}
use Rattle.pd_order.proofs.SpotLemmas.{length-nodes}
use Rattle.pd_order.proofs.Basics.{length_le}
use Rattle.pd_order.proofs.RunLemmas.{none_next}
use Rattle.pd_order.proofs.TurnLemmas.{chain_nodes, ahead_view, after_pass, IsTaken, IsPut, taken_work, taken_room, taken_running, taken_far, total_put, drop_more_same, traced_pass, traced_put, taken_was, taken_passed, last_is, max_cases, max_is, listed_or}
use Rattle.pd_order.proofs.turns.run.Goals as goal

pub pass-passed-requires-clause-nodes : goal.pass-passed-requires-clause-nodes
pass-passed-requires-clause-nodes g c =
    let G : Graph = g.G.SignalGraph.meaning c.args.graph.now in
    let nodes : List ℕ = nodes_of c.args.spots.now in
    let old : List ℕ = c.args.chain.now.items in
    let T : List ℕ = take c.turns.listed c.turns.chain.items in
    let was : ℕ → ℕ = place_in c.args.spots.now in
    λ x h. rw c.turns.invariant.nodes (chain_nodes nodes c.turns.chain.items old c.turns.listed x c.turns.invariant.rest c.turns.invariant.running.inside c.requires.old.old_nodes
    (subst (λ (v : List ℕ). 0 < tally x v) c.deref.ensures.value h))

pub pass-passed-requires-clause-ahead : goal.pass-passed-requires-clause-ahead
pass-passed-requires-clause-ahead g c =
    let G : Graph = g.G.SignalGraph.meaning c.args.graph.now in
    let nodes : List ℕ = nodes_of c.args.spots.now in
    let old : List ℕ = c.args.chain.now.items in
    let T : List ℕ = take c.turns.listed c.turns.chain.items in
    let was : ℕ → ℕ = place_in c.args.spots.now in
    let ee : c.len-end.result ≡ length old = (let a = c.len-end.ensures in let b = c.args.chain.now.ok in omega arith) in
    λ i a b. ahead_view G nodes old c.turns.chain.items c.deref.result.now c.turns.listed c.args.from c.turns.passed i was (place_in c.turns.spots) (mark_in c.args.spots.now) (mark_in c.turns.spots) c.turns.heap.items c.turns.spare.items
    c.turns.invariant.running c.requires.old c.turns.invariant.within c.turns.invariant.rest c.deref.ensures.value a (omega arith)

pub pop-requires-clause-few : goal.pop-requires-clause-few
pop-requires-clause-few g c =
    let G : Graph = g.G.SignalGraph.meaning c.args.graph.now in
    let nodes : List ℕ = nodes_of c.args.spots.now in
    let old : List ℕ = c.args.chain.now.items in
    let T : List ℕ = take c.turns.listed c.turns.chain.items in
    let was : ℕ → ℕ = place_in c.args.spots.now in
    let ee : c.len-end.result ≡ length old = (let a = c.len-end.ensures in let b = c.args.chain.now.ok in omega arith) in
    let r : IsRunning G nodes old T c.args.from c.pass-passed.result was (place_in c.pass-passed.new.spots) (mark_in c.pass-passed.new.spots) c.pass-passed.new.heap.items c.pass-passed.new.spare.items =
    after_pass G nodes (nodes_of c.turns.spots) (nodes_of c.pass-passed.new.spots) old c.turns.chain.items c.deref.result.now c.turns.listed c.args.from c.turns.passed c.pass-passed.result c.len-end.result
    was (place_in c.turns.spots) (place_in c.pass-passed.new.spots) (mark_in c.args.spots.now) (mark_in c.turns.spots) (mark_in c.pass-passed.new.spots) c.turns.heap.items c.pass-passed.new.heap.items c.turns.spare.items c.pass-passed.new.spare.items
    c.turns.invariant.running c.requires.old c.turns.invariant.within c.turns.invariant.rest c.deref.ensures.value c.pass-passed.ensures.nodes c.turns.invariant.nodes ee
    c.pass-passed.ensures.work c.pass-passed.ensures.range c.pass-passed.ensures.known c.pass-passed.ensures.are_passed c.pass-passed.ensures.places in
    let more : (x : ℕ) → 0 < mark_in c.args.spots.now x → 0 < mark_in c.pass-passed.new.spots x = λ x h. c.pass-passed.ensures.known x (c.turns.invariant.known x h) in
    let k : length c.pass-passed.new.heap.items ≤ length nodes = length_le c.pass-passed.new.heap.items nodes r.work.heap_once
    (λ x h. let m : mark_in c.pass-passed.new.spots x ≡ 1 = (r.work.free x h).1 in r.work.inside x (omega arith)) in
    let n : length nodes ≡ length c.args.spots.now = length-nodes c.args.spots.now in
    let o = c.pass-passed.new.heap.ok in let f : length c.args.spots.now < nowhere = c.requires.few in omega arith

pub returns-in-None-clause-running : goal.returns-in-None-clause-running
returns-in-None-clause-running g c =
    let G : Graph = g.G.SignalGraph.meaning c.args.graph.now in
    let nodes : List ℕ = nodes_of c.args.spots.now in
    let old : List ℕ = c.args.chain.now.items in
    let T : List ℕ = take c.turns.listed c.turns.chain.items in
    let was : ℕ → ℕ = place_in c.args.spots.now in
    let ee : c.len-end.result ≡ length old = (let a = c.len-end.ensures in let b = c.args.chain.now.ok in omega arith) in
    let r : IsRunning G nodes old T c.args.from c.pass-passed.result was (place_in c.pass-passed.new.spots) (mark_in c.pass-passed.new.spots) c.pass-passed.new.heap.items c.pass-passed.new.spare.items =
    after_pass G nodes (nodes_of c.turns.spots) (nodes_of c.pass-passed.new.spots) old c.turns.chain.items c.deref.result.now c.turns.listed c.args.from c.turns.passed c.pass-passed.result c.len-end.result
    was (place_in c.turns.spots) (place_in c.pass-passed.new.spots) (mark_in c.args.spots.now) (mark_in c.turns.spots) (mark_in c.pass-passed.new.spots) c.turns.heap.items c.pass-passed.new.heap.items c.turns.spare.items c.pass-passed.new.spare.items
    c.turns.invariant.running c.requires.old c.turns.invariant.within c.turns.invariant.rest c.deref.ensures.value c.pass-passed.ensures.nodes c.turns.invariant.nodes ee
    c.pass-passed.ensures.work c.pass-passed.ensures.range c.pass-passed.ensures.known c.pass-passed.ensures.are_passed c.pass-passed.ensures.places in
    let more : (x : ℕ) → 0 < mark_in c.args.spots.now x → 0 < mark_in c.pass-passed.new.spots x = λ x h. c.pass-passed.ensures.known x (c.turns.invariant.known x h) in
    subst (λ (h : List ℕ). IsRunning G nodes old T c.args.from c.pass-passed.result was (place_in c.pass-passed.new.spots) (mark_in c.pass-passed.new.spots) h c.pass-passed.new.spare.items)
    (c.in-None.ensures.none.0 ∙ sym c.in-None.ensures.none.1) r

pub returns-in-None-clause-ended : goal.returns-in-None-clause-ended
returns-in-None-clause-ended g c =
    let G : Graph = g.G.SignalGraph.meaning c.args.graph.now in
    let nodes : List ℕ = nodes_of c.args.spots.now in
    let old : List ℕ = c.args.chain.now.items in
    let T : List ℕ = take c.turns.listed c.turns.chain.items in
    let was : ℕ → ℕ = place_in c.args.spots.now in
    let ee : c.len-end.result ≡ length old = (let a = c.len-end.ensures in let b = c.args.chain.now.ok in omega arith) in
    let r : IsRunning G nodes old T c.args.from c.pass-passed.result was (place_in c.pass-passed.new.spots) (mark_in c.pass-passed.new.spots) c.pass-passed.new.heap.items c.pass-passed.new.spare.items =
    after_pass G nodes (nodes_of c.turns.spots) (nodes_of c.pass-passed.new.spots) old c.turns.chain.items c.deref.result.now c.turns.listed c.args.from c.turns.passed c.pass-passed.result c.len-end.result
    was (place_in c.turns.spots) (place_in c.pass-passed.new.spots) (mark_in c.args.spots.now) (mark_in c.turns.spots) (mark_in c.pass-passed.new.spots) c.turns.heap.items c.pass-passed.new.heap.items c.turns.spare.items c.pass-passed.new.spare.items
    c.turns.invariant.running c.requires.old c.turns.invariant.within c.turns.invariant.rest c.deref.ensures.value c.pass-passed.ensures.nodes c.turns.invariant.nodes ee
    c.pass-passed.ensures.work c.pass-passed.ensures.range c.pass-passed.ensures.known c.pass-passed.ensures.are_passed c.pass-passed.ensures.places in
    let more : (x : ℕ) → 0 < mark_in c.args.spots.now x → 0 < mark_in c.pass-passed.new.spots x = λ x h. c.pass-passed.ensures.known x (c.turns.invariant.known x h) in
    λ _. let ep : c.pass-passed.result ≡ length old = elim c.pass-passed.ensures.behind [ inl e ↦ e ∙ ee | inr b ↦ absurd (let l : 0 < length c.pass-passed.new.heap.items = b.0 in let z : length c.pass-passed.new.heap.items ≡ 0 = ap length c.in-None.ensures.none.0 in omega arith) ] in (
      c.in-None.ensures.none.1,
      ep,
      none_next G nodes old T c.args.from c.pass-passed.result was (place_in c.pass-passed.new.spots) (mark_in c.args.spots.now) (mark_in c.pass-passed.new.spots) c.pass-passed.new.heap.items c.pass-passed.new.spare.items r c.requires.old more c.in-None.ensures.none.0 ep,
    )

pub put_out-was-requires-clause-work : goal.put_out-was-requires-clause-work
put_out-was-requires-clause-work g c =
    let G : Graph = g.G.SignalGraph.meaning c.args.graph.now in
    let nodes : List ℕ = nodes_of c.args.spots.now in
    let old : List ℕ = c.args.chain.now.items in
    let T : List ℕ = take c.turns.listed c.turns.chain.items in
    let was : ℕ → ℕ = place_in c.args.spots.now in
    let ee : c.len-end.result ≡ length old = (let a = c.len-end.ensures in let b = c.args.chain.now.ok in omega arith) in
    let r : IsRunning G nodes old T c.args.from c.pass-passed.result was (place_in c.pass-passed.new.spots) (mark_in c.pass-passed.new.spots) c.pass-passed.new.heap.items c.pass-passed.new.spare.items =
    after_pass G nodes (nodes_of c.turns.spots) (nodes_of c.pass-passed.new.spots) old c.turns.chain.items c.deref.result.now c.turns.listed c.args.from c.turns.passed c.pass-passed.result c.len-end.result
    was (place_in c.turns.spots) (place_in c.pass-passed.new.spots) (mark_in c.args.spots.now) (mark_in c.turns.spots) (mark_in c.pass-passed.new.spots) c.turns.heap.items c.pass-passed.new.heap.items c.turns.spare.items c.pass-passed.new.spare.items
    c.turns.invariant.running c.requires.old c.turns.invariant.within c.turns.invariant.rest c.deref.ensures.value c.pass-passed.ensures.nodes c.turns.invariant.nodes ee
    c.pass-passed.ensures.work c.pass-passed.ensures.range c.pass-passed.ensures.known c.pass-passed.ensures.are_passed c.pass-passed.ensures.places in
    let more : (x : ℕ) → 0 < mark_in c.args.spots.now x → 0 < mark_in c.pass-passed.new.spots x = λ x h. c.pass-passed.ensures.known x (c.turns.invariant.known x h) in
    let t : IsTaken G c.pass-passed.new.heap.items c.pop.new.heap.items (place_in c.pass-passed.new.spots) c.pass-passed.result c.len-end.result c.in-Some.node =
    record { less = c.in-Some.ensures.less; first = c.in-Some.ensures.least; behind = c.pass-passed.ensures.behind } in
    let el : c.turns.listed ≡ length T = sym (length-take-le c.turns.listed c.turns.chain.items c.turns.invariant.within) in
    rw (c.pass-passed.ensures.nodes, c.turns.invariant.nodes) (taken_work G nodes old T c.args.from c.pass-passed.result c.len-end.result was (place_in c.pass-passed.new.spots) (mark_in c.pass-passed.new.spots) c.pass-passed.new.heap.items c.pop.new.heap.items c.pass-passed.new.spare.items c.in-Some.node r t c.in-Some.ensures.heap)

pub put_out-was-requires-clause-few : goal.put_out-was-requires-clause-few
put_out-was-requires-clause-few g c =
    let G : Graph = g.G.SignalGraph.meaning c.args.graph.now in
    let nodes : List ℕ = nodes_of c.args.spots.now in
    let old : List ℕ = c.args.chain.now.items in
    let T : List ℕ = take c.turns.listed c.turns.chain.items in
    let was : ℕ → ℕ = place_in c.args.spots.now in
    let ee : c.len-end.result ≡ length old = (let a = c.len-end.ensures in let b = c.args.chain.now.ok in omega arith) in
    let r : IsRunning G nodes old T c.args.from c.pass-passed.result was (place_in c.pass-passed.new.spots) (mark_in c.pass-passed.new.spots) c.pass-passed.new.heap.items c.pass-passed.new.spare.items =
    after_pass G nodes (nodes_of c.turns.spots) (nodes_of c.pass-passed.new.spots) old c.turns.chain.items c.deref.result.now c.turns.listed c.args.from c.turns.passed c.pass-passed.result c.len-end.result
    was (place_in c.turns.spots) (place_in c.pass-passed.new.spots) (mark_in c.args.spots.now) (mark_in c.turns.spots) (mark_in c.pass-passed.new.spots) c.turns.heap.items c.pass-passed.new.heap.items c.turns.spare.items c.pass-passed.new.spare.items
    c.turns.invariant.running c.requires.old c.turns.invariant.within c.turns.invariant.rest c.deref.ensures.value c.pass-passed.ensures.nodes c.turns.invariant.nodes ee
    c.pass-passed.ensures.work c.pass-passed.ensures.range c.pass-passed.ensures.known c.pass-passed.ensures.are_passed c.pass-passed.ensures.places in
    let more : (x : ℕ) → 0 < mark_in c.args.spots.now x → 0 < mark_in c.pass-passed.new.spots x = λ x h. c.pass-passed.ensures.known x (c.turns.invariant.known x h) in
    let t : IsTaken G c.pass-passed.new.heap.items c.pop.new.heap.items (place_in c.pass-passed.new.spots) c.pass-passed.result c.len-end.result c.in-Some.node =
    record { less = c.in-Some.ensures.less; first = c.in-Some.ensures.least; behind = c.pass-passed.ensures.behind } in
    let el : c.turns.listed ≡ length T = sym (length-take-le c.turns.listed c.turns.chain.items c.turns.invariant.within) in
    let k : length T < length nodes = taken_room G nodes old T c.args.from c.pass-passed.result c.len-end.result was (place_in c.pass-passed.new.spots) (mark_in c.pass-passed.new.spots) c.pass-passed.new.heap.items c.pop.new.heap.items c.pass-passed.new.spare.items c.in-Some.node r t in
    let n : length nodes ≡ length c.args.spots.now = length-nodes c.args.spots.now in
    let f : length c.args.spots.now < nowhere = c.requires.few in omega arith

pub put_out-was-requires-clause-chain_room : goal.put_out-was-requires-clause-chain_room
put_out-was-requires-clause-chain_room g c =
    let G : Graph = g.G.SignalGraph.meaning c.args.graph.now in
    let nodes : List ℕ = nodes_of c.args.spots.now in
    let old : List ℕ = c.args.chain.now.items in
    let T : List ℕ = take c.turns.listed c.turns.chain.items in
    let was : ℕ → ℕ = place_in c.args.spots.now in
    let ee : c.len-end.result ≡ length old = (let a = c.len-end.ensures in let b = c.args.chain.now.ok in omega arith) in
    let r : IsRunning G nodes old T c.args.from c.pass-passed.result was (place_in c.pass-passed.new.spots) (mark_in c.pass-passed.new.spots) c.pass-passed.new.heap.items c.pass-passed.new.spare.items =
    after_pass G nodes (nodes_of c.turns.spots) (nodes_of c.pass-passed.new.spots) old c.turns.chain.items c.deref.result.now c.turns.listed c.args.from c.turns.passed c.pass-passed.result c.len-end.result
    was (place_in c.turns.spots) (place_in c.pass-passed.new.spots) (mark_in c.args.spots.now) (mark_in c.turns.spots) (mark_in c.pass-passed.new.spots) c.turns.heap.items c.pass-passed.new.heap.items c.turns.spare.items c.pass-passed.new.spare.items
    c.turns.invariant.running c.requires.old c.turns.invariant.within c.turns.invariant.rest c.deref.ensures.value c.pass-passed.ensures.nodes c.turns.invariant.nodes ee
    c.pass-passed.ensures.work c.pass-passed.ensures.range c.pass-passed.ensures.known c.pass-passed.ensures.are_passed c.pass-passed.ensures.places in
    let more : (x : ℕ) → 0 < mark_in c.args.spots.now x → 0 < mark_in c.pass-passed.new.spots x = λ x h. c.pass-passed.ensures.known x (c.turns.invariant.known x h) in
    let t : IsTaken G c.pass-passed.new.heap.items c.pop.new.heap.items (place_in c.pass-passed.new.spots) c.pass-passed.result c.len-end.result c.in-Some.node =
    record { less = c.in-Some.ensures.less; first = c.in-Some.ensures.least; behind = c.pass-passed.ensures.behind } in
    let el : c.turns.listed ≡ length T = sym (length-take-le c.turns.listed c.turns.chain.items c.turns.invariant.within) in
    let k : length T < length nodes = taken_room G nodes old T c.args.from c.pass-passed.result c.len-end.result was (place_in c.pass-passed.new.spots) (mark_in c.pass-passed.new.spots) c.pass-passed.new.heap.items c.pop.new.heap.items c.pass-passed.new.spare.items c.in-Some.node r t in
    let n : length nodes ≡ length c.args.spots.now = length-nodes c.args.spots.now in
    let f = c.turns.invariant.chain_capacity in let q = c.requires.chain_room in omega arith

pub returns-then-far-listed-clause-running : goal.returns-then-far-listed-clause-running
returns-then-far-listed-clause-running g c =
    let G : Graph = g.G.SignalGraph.meaning c.args.graph.now in
    let nodes : List ℕ = nodes_of c.args.spots.now in
    let old : List ℕ = c.args.chain.now.items in
    let T : List ℕ = take c.turns.listed c.turns.chain.items in
    let was : ℕ → ℕ = place_in c.args.spots.now in
    let ee : c.len-end.result ≡ length old = (let a = c.len-end.ensures in let b = c.args.chain.now.ok in omega arith) in
    let r : IsRunning G nodes old T c.args.from c.pass-passed.result was (place_in c.pass-passed.new.spots) (mark_in c.pass-passed.new.spots) c.pass-passed.new.heap.items c.pass-passed.new.spare.items =
    after_pass G nodes (nodes_of c.turns.spots) (nodes_of c.pass-passed.new.spots) old c.turns.chain.items c.deref.result.now c.turns.listed c.args.from c.turns.passed c.pass-passed.result c.len-end.result
    was (place_in c.turns.spots) (place_in c.pass-passed.new.spots) (mark_in c.args.spots.now) (mark_in c.turns.spots) (mark_in c.pass-passed.new.spots) c.turns.heap.items c.pass-passed.new.heap.items c.turns.spare.items c.pass-passed.new.spare.items
    c.turns.invariant.running c.requires.old c.turns.invariant.within c.turns.invariant.rest c.deref.ensures.value c.pass-passed.ensures.nodes c.turns.invariant.nodes ee
    c.pass-passed.ensures.work c.pass-passed.ensures.range c.pass-passed.ensures.known c.pass-passed.ensures.are_passed c.pass-passed.ensures.places in
    let more : (x : ℕ) → 0 < mark_in c.args.spots.now x → 0 < mark_in c.pass-passed.new.spots x = λ x h. c.pass-passed.ensures.known x (c.turns.invariant.known x h) in
    let t : IsTaken G c.pass-passed.new.heap.items c.pop.new.heap.items (place_in c.pass-passed.new.spots) c.pass-passed.result c.len-end.result c.in-Some.node =
    record { less = c.in-Some.ensures.less; first = c.in-Some.ensures.least; behind = c.pass-passed.ensures.behind } in
    let el : c.turns.listed ≡ length T = sym (length-take-le c.turns.listed c.turns.chain.items c.turns.invariant.within) in
    let p : IsPut G (nodes_of c.put_out-was.new.spots) (take (c.turns.listed + 1) c.put_out-was.new.chain.items) (place_in c.pass-passed.new.spots) (place_in c.put_out-was.new.spots) (mark_in c.pass-passed.new.spots) (mark_in c.put_out-was.new.spots) c.put_out-was.new.heap.items c.put_out-was.new.spare.items c.turns.listed c.in-Some.node =
    record { known = c.put_out-was.ensures.known; touched = c.put_out-was.ensures.touched; places = c.put_out-was.ensures.places; work = c.put_out-was.ensures.work } in
    taken_running G nodes (nodes_of c.turns.spots) (nodes_of c.pass-passed.new.spots) (nodes_of c.put_out-was.new.spots) old T (take (c.turns.listed + 1) c.put_out-was.new.chain.items) c.args.from c.pass-passed.result c.len-end.result c.turns.listed
    was (place_in c.pass-passed.new.spots) (place_in c.put_out-was.new.spots) (mark_in c.args.spots.now) (mark_in c.pass-passed.new.spots) (mark_in c.put_out-was.new.spots) c.pass-passed.new.heap.items c.pop.new.heap.items c.put_out-was.new.heap.items c.pass-passed.new.spare.items c.put_out-was.new.spare.items c.in-Some.node
    r c.requires.old more t ee p c.put_out-was.ensures.nodes c.pass-passed.ensures.nodes c.turns.invariant.nodes c.put_out-was.ensures.front el

pub returns-then-far-listed-clause-met : goal.returns-then-far-listed-clause-met
returns-then-far-listed-clause-met g c =
    let G : Graph = g.G.SignalGraph.meaning c.args.graph.now in
    let nodes : List ℕ = nodes_of c.args.spots.now in
    let old : List ℕ = c.args.chain.now.items in
    let T : List ℕ = take c.turns.listed c.turns.chain.items in
    let was : ℕ → ℕ = place_in c.args.spots.now in
    let ee : c.len-end.result ≡ length old = (let a = c.len-end.ensures in let b = c.args.chain.now.ok in omega arith) in
    let r : IsRunning G nodes old T c.args.from c.pass-passed.result was (place_in c.pass-passed.new.spots) (mark_in c.pass-passed.new.spots) c.pass-passed.new.heap.items c.pass-passed.new.spare.items =
    after_pass G nodes (nodes_of c.turns.spots) (nodes_of c.pass-passed.new.spots) old c.turns.chain.items c.deref.result.now c.turns.listed c.args.from c.turns.passed c.pass-passed.result c.len-end.result
    was (place_in c.turns.spots) (place_in c.pass-passed.new.spots) (mark_in c.args.spots.now) (mark_in c.turns.spots) (mark_in c.pass-passed.new.spots) c.turns.heap.items c.pass-passed.new.heap.items c.turns.spare.items c.pass-passed.new.spare.items
    c.turns.invariant.running c.requires.old c.turns.invariant.within c.turns.invariant.rest c.deref.ensures.value c.pass-passed.ensures.nodes c.turns.invariant.nodes ee
    c.pass-passed.ensures.work c.pass-passed.ensures.range c.pass-passed.ensures.known c.pass-passed.ensures.are_passed c.pass-passed.ensures.places in
    let more : (x : ℕ) → 0 < mark_in c.args.spots.now x → 0 < mark_in c.pass-passed.new.spots x = λ x h. c.pass-passed.ensures.known x (c.turns.invariant.known x h) in
    let t : IsTaken G c.pass-passed.new.heap.items c.pop.new.heap.items (place_in c.pass-passed.new.spots) c.pass-passed.result c.len-end.result c.in-Some.node =
    record { less = c.in-Some.ensures.less; first = c.in-Some.ensures.least; behind = c.pass-passed.ensures.behind } in
    let el : c.turns.listed ≡ length T = sym (length-take-le c.turns.listed c.turns.chain.items c.turns.invariant.within) in
    let p : IsPut G (nodes_of c.put_out-was.new.spots) (take (c.turns.listed + 1) c.put_out-was.new.chain.items) (place_in c.pass-passed.new.spots) (place_in c.put_out-was.new.spots) (mark_in c.pass-passed.new.spots) (mark_in c.put_out-was.new.spots) c.put_out-was.new.heap.items c.put_out-was.new.spare.items c.turns.listed c.in-Some.node =
    record { known = c.put_out-was.ensures.known; touched = c.put_out-was.ensures.touched; places = c.put_out-was.ensures.places; work = c.put_out-was.ensures.work } in
    λ _. (
      (let a = c.turns.invariant.from_listed in omega arith),
      λ x h. let q : was x < c.max-far.result = taken_far G nodes old T (take (c.turns.listed + 1) c.put_out-was.new.chain.items) c.args.from c.pass-passed.result c.len-end.result c.turns.far c.max-far.result c.put_out-was.result was (place_in c.pass-passed.new.spots) (mark_in c.pass-passed.new.spots) c.pass-passed.new.heap.items c.pop.new.heap.items c.pass-passed.new.spare.items c.in-Some.node
          r t c.put_out-was.ensures.front c.turns.invariant.far c.put_out-was.ensures.place (let a = c.max-far.ensures in omega arith) (let a = c.max-far.ensures in omega arith) x h in let e = c.if-far-listed.true in omega arith,
    )

pub returns-then-far-listed-clause-steps : goal.returns-then-far-listed-clause-steps
returns-then-far-listed-clause-steps g c =
    let G : Graph = g.G.SignalGraph.meaning c.args.graph.now in
    let nodes : List ℕ = nodes_of c.args.spots.now in
    let old : List ℕ = c.args.chain.now.items in
    let T : List ℕ = take c.turns.listed c.turns.chain.items in
    let was : ℕ → ℕ = place_in c.args.spots.now in
    let ee : c.len-end.result ≡ length old = (let a = c.len-end.ensures in let b = c.args.chain.now.ok in omega arith) in
    let r : IsRunning G nodes old T c.args.from c.pass-passed.result was (place_in c.pass-passed.new.spots) (mark_in c.pass-passed.new.spots) c.pass-passed.new.heap.items c.pass-passed.new.spare.items =
    after_pass G nodes (nodes_of c.turns.spots) (nodes_of c.pass-passed.new.spots) old c.turns.chain.items c.deref.result.now c.turns.listed c.args.from c.turns.passed c.pass-passed.result c.len-end.result
    was (place_in c.turns.spots) (place_in c.pass-passed.new.spots) (mark_in c.args.spots.now) (mark_in c.turns.spots) (mark_in c.pass-passed.new.spots) c.turns.heap.items c.pass-passed.new.heap.items c.turns.spare.items c.pass-passed.new.spare.items
    c.turns.invariant.running c.requires.old c.turns.invariant.within c.turns.invariant.rest c.deref.ensures.value c.pass-passed.ensures.nodes c.turns.invariant.nodes ee
    c.pass-passed.ensures.work c.pass-passed.ensures.range c.pass-passed.ensures.known c.pass-passed.ensures.are_passed c.pass-passed.ensures.places in
    let more : (x : ℕ) → 0 < mark_in c.args.spots.now x → 0 < mark_in c.pass-passed.new.spots x = λ x h. c.pass-passed.ensures.known x (c.turns.invariant.known x h) in
    let t : IsTaken G c.pass-passed.new.heap.items c.pop.new.heap.items (place_in c.pass-passed.new.spots) c.pass-passed.result c.len-end.result c.in-Some.node =
    record { less = c.in-Some.ensures.less; first = c.in-Some.ensures.least; behind = c.pass-passed.ensures.behind } in
    let el : c.turns.listed ≡ length T = sym (length-take-le c.turns.listed c.turns.chain.items c.turns.invariant.within) in
    let p : IsPut G (nodes_of c.put_out-was.new.spots) (take (c.turns.listed + 1) c.put_out-was.new.chain.items) (place_in c.pass-passed.new.spots) (place_in c.put_out-was.new.spots) (mark_in c.pass-passed.new.spots) (mark_in c.put_out-was.new.spots) c.put_out-was.new.heap.items c.put_out-was.new.spare.items c.turns.listed c.in-Some.node =
    record { known = c.put_out-was.ensures.known; touched = c.put_out-was.ensures.touched; places = c.put_out-was.ensures.places; work = c.put_out-was.ensures.work } in
    (let a : total (looks_on G) (drop c.args.from (take (c.turns.listed + 1) c.put_out-was.new.chain.items)) ≡ total (looks_on G) (drop c.args.from T) + looks_on G c.in-Some.node =
    total_put (looks_on G) T (take (c.turns.listed + 1) c.put_out-was.new.chain.items) c.args.from c.in-Some.node r.from_listed c.put_out-was.ensures.front in
    let b = c.turns.invariant.steps in let d = c.pass-passed.ensures.steps in let f = c.put_out-was.ensures.steps in omega arith)

pub turns-smaller : goal.turns-smaller
turns-smaller g c =
    let G : Graph = g.G.SignalGraph.meaning c.args.graph.now in
    let nodes : List ℕ = nodes_of c.args.spots.now in
    let old : List ℕ = c.args.chain.now.items in
    let T : List ℕ = take c.turns.listed c.turns.chain.items in
    let was : ℕ → ℕ = place_in c.args.spots.now in
    let ee : c.len-end.result ≡ length old = (let a = c.len-end.ensures in let b = c.args.chain.now.ok in omega arith) in
    let r : IsRunning G nodes old T c.args.from c.pass-passed.result was (place_in c.pass-passed.new.spots) (mark_in c.pass-passed.new.spots) c.pass-passed.new.heap.items c.pass-passed.new.spare.items =
    after_pass G nodes (nodes_of c.turns.spots) (nodes_of c.pass-passed.new.spots) old c.turns.chain.items c.deref.result.now c.turns.listed c.args.from c.turns.passed c.pass-passed.result c.len-end.result
    was (place_in c.turns.spots) (place_in c.pass-passed.new.spots) (mark_in c.args.spots.now) (mark_in c.turns.spots) (mark_in c.pass-passed.new.spots) c.turns.heap.items c.pass-passed.new.heap.items c.turns.spare.items c.pass-passed.new.spare.items
    c.turns.invariant.running c.requires.old c.turns.invariant.within c.turns.invariant.rest c.deref.ensures.value c.pass-passed.ensures.nodes c.turns.invariant.nodes ee
    c.pass-passed.ensures.work c.pass-passed.ensures.range c.pass-passed.ensures.known c.pass-passed.ensures.are_passed c.pass-passed.ensures.places in
    let more : (x : ℕ) → 0 < mark_in c.args.spots.now x → 0 < mark_in c.pass-passed.new.spots x = λ x h. c.pass-passed.ensures.known x (c.turns.invariant.known x h) in
    let t : IsTaken G c.pass-passed.new.heap.items c.pop.new.heap.items (place_in c.pass-passed.new.spots) c.pass-passed.result c.len-end.result c.in-Some.node =
    record { less = c.in-Some.ensures.less; first = c.in-Some.ensures.least; behind = c.pass-passed.ensures.behind } in
    let el : c.turns.listed ≡ length T = sym (length-take-le c.turns.listed c.turns.chain.items c.turns.invariant.within) in
    let k : length T < length nodes = taken_room G nodes old T c.args.from c.pass-passed.result c.len-end.result was (place_in c.pass-passed.new.spots) (mark_in c.pass-passed.new.spots) c.pass-passed.new.heap.items c.pop.new.heap.items c.pass-passed.new.spare.items c.in-Some.node r t in
    let n : length nodes ≡ length c.args.spots.now = length-nodes c.args.spots.now in
    omega arith

pub turns-preserved : goal.turns-preserved
turns-preserved g c =
    let G : Graph = g.G.SignalGraph.meaning c.args.graph.now in
    let nodes : List ℕ = nodes_of c.args.spots.now in
    let old : List ℕ = c.args.chain.now.items in
    let T : List ℕ = take c.turns.listed c.turns.chain.items in
    let was : ℕ → ℕ = place_in c.args.spots.now in
    let ee : c.len-end.result ≡ length old = (let a = c.len-end.ensures in let b = c.args.chain.now.ok in omega arith) in
    let r : IsRunning G nodes old T c.args.from c.pass-passed.result was (place_in c.pass-passed.new.spots) (mark_in c.pass-passed.new.spots) c.pass-passed.new.heap.items c.pass-passed.new.spare.items =
    after_pass G nodes (nodes_of c.turns.spots) (nodes_of c.pass-passed.new.spots) old c.turns.chain.items c.deref.result.now c.turns.listed c.args.from c.turns.passed c.pass-passed.result c.len-end.result
    was (place_in c.turns.spots) (place_in c.pass-passed.new.spots) (mark_in c.args.spots.now) (mark_in c.turns.spots) (mark_in c.pass-passed.new.spots) c.turns.heap.items c.pass-passed.new.heap.items c.turns.spare.items c.pass-passed.new.spare.items
    c.turns.invariant.running c.requires.old c.turns.invariant.within c.turns.invariant.rest c.deref.ensures.value c.pass-passed.ensures.nodes c.turns.invariant.nodes ee
    c.pass-passed.ensures.work c.pass-passed.ensures.range c.pass-passed.ensures.known c.pass-passed.ensures.are_passed c.pass-passed.ensures.places in
    let more : (x : ℕ) → 0 < mark_in c.args.spots.now x → 0 < mark_in c.pass-passed.new.spots x = λ x h. c.pass-passed.ensures.known x (c.turns.invariant.known x h) in
    let t : IsTaken G c.pass-passed.new.heap.items c.pop.new.heap.items (place_in c.pass-passed.new.spots) c.pass-passed.result c.len-end.result c.in-Some.node =
    record { less = c.in-Some.ensures.less; first = c.in-Some.ensures.least; behind = c.pass-passed.ensures.behind } in
    let el : c.turns.listed ≡ length T = sym (length-take-le c.turns.listed c.turns.chain.items c.turns.invariant.within) in
    let p : IsPut G (nodes_of c.put_out-was.new.spots) (take (c.turns.listed + 1) c.put_out-was.new.chain.items) (place_in c.pass-passed.new.spots) (place_in c.put_out-was.new.spots) (mark_in c.pass-passed.new.spots) (mark_in c.put_out-was.new.spots) c.put_out-was.new.heap.items c.put_out-was.new.spare.items c.turns.listed c.in-Some.node =
    record { known = c.put_out-was.ensures.known; touched = c.put_out-was.ensures.touched; places = c.put_out-was.ensures.places; work = c.put_out-was.ensures.work } in
    let tr : IsTraced G old T c.args.from c.pass-passed.result c.turns.far was (mark_in c.args.spots.now) (mark_in c.pass-passed.new.spots) =
    traced_pass G old c.turns.chain.items c.deref.result.now T c.turns.listed c.args.from c.turns.passed c.pass-passed.result c.turns.far was (mark_in c.args.spots.now) (mark_in c.turns.spots) (mark_in c.pass-passed.new.spots)
    c.turns.invariant.traced c.turns.invariant.rest c.deref.ensures.value
    (listed_or G nodes old T c.turns.listed c.args.from c.turns.passed c.pass-passed.result c.len-end.result was (place_in c.turns.spots) (mark_in c.args.spots.now) (mark_in c.turns.spots) c.turns.heap.items c.turns.spare.items c.turns.invariant.running c.requires.old (length-take-le c.turns.listed c.turns.chain.items c.turns.invariant.within) ee c.pass-passed.ensures.range)
    c.turns.invariant.running.from_passed c.pass-passed.ensures.range.0 (let a = c.pass-passed.ensures.range.1 in omega arith) c.pass-passed.ensures.only in
    record {
      by_node = c.put_out-was.ensures.by_node;
      nodes = c.put_out-was.ensures.nodes ∙ c.pass-passed.ensures.nodes ∙ c.turns.invariant.nodes;
      running = taken_running G nodes (nodes_of c.turns.spots) (nodes_of c.pass-passed.new.spots) (nodes_of c.put_out-was.new.spots) old T (take (c.turns.listed + 1) c.put_out-was.new.chain.items) c.args.from c.pass-passed.result c.len-end.result c.turns.listed
          was (place_in c.pass-passed.new.spots) (place_in c.put_out-was.new.spots) (mark_in c.args.spots.now) (mark_in c.pass-passed.new.spots) (mark_in c.put_out-was.new.spots) c.pass-passed.new.heap.items c.pop.new.heap.items c.put_out-was.new.heap.items c.pass-passed.new.spare.items c.put_out-was.new.spare.items c.in-Some.node
          r c.requires.old more t ee p c.put_out-was.ensures.nodes c.pass-passed.ensures.nodes c.turns.invariant.nodes c.put_out-was.ensures.front el;
      from_listed = (let a = c.turns.invariant.from_listed in omega arith);
      within = c.put_out-was.ensures.longer;
      rest = c.put_out-was.ensures.rest ∙ drop_more_same c.turns.listed c.turns.chain.items old c.turns.invariant.rest;
      known = λ x h. c.put_out-was.ensures.known x (more x h);
      far = taken_far G nodes old T (take (c.turns.listed + 1) c.put_out-was.new.chain.items) c.args.from c.pass-passed.result c.len-end.result c.turns.far c.max-far.result c.put_out-was.result was (place_in c.pass-passed.new.spots) (mark_in c.pass-passed.new.spots) c.pass-passed.new.heap.items c.pop.new.heap.items c.pass-passed.new.spare.items c.in-Some.node
          r t c.put_out-was.ensures.front c.turns.invariant.far c.put_out-was.ensures.place (let a = c.max-far.ensures in omega arith) (let a = c.max-far.ensures in omega arith);
      traced = traced_put G old T (take (c.turns.listed + 1) c.put_out-was.new.chain.items) c.args.from c.pass-passed.result c.turns.far c.max-far.result c.in-Some.node c.put_out-was.result was (mark_in c.args.spots.now) (mark_in c.pass-passed.new.spots) (mark_in c.put_out-was.new.spots)
          tr c.put_out-was.ensures.front r.from_listed
          (taken_was G nodes old T c.args.from c.pass-passed.result c.len-end.result c.put_out-was.result was (place_in c.pass-passed.new.spots) (mark_in c.pass-passed.new.spots) c.pass-passed.new.heap.items c.pop.new.heap.items c.pass-passed.new.spare.items c.in-Some.node r t c.put_out-was.ensures.place)
          (max_is c.turns.far (c.put_out-was.result + 1) c.max-far.result c.max-far.ensures) c.put_out-was.ensures.only;
      passed_far = taken_passed G c.pass-passed.new.heap.items c.pop.new.heap.items (place_in c.pass-passed.new.spots) c.turns.passed c.pass-passed.result c.len-end.result c.in-Some.node c.turns.far c.max-far.result c.put_out-was.result t c.pass-passed.ensures.advanced c.turns.invariant.passed_far (max_is c.turns.far (c.put_out-was.result + 1) c.max-far.result c.max-far.ensures) c.put_out-was.ensures.place;
      listed_far = inr c.if-far-listed.false;
      chain_capacity = c.put_out-was.ensures.chain_capacity ∙ c.turns.invariant.chain_capacity;
      heap_capacity = (let a = c.put_out-was.ensures.heap_capacity in let b = c.pop.ensures.capacity in let d = c.pass-passed.ensures.heap_capacity in let e = c.turns.invariant.heap_capacity in omega arith);
      spare_capacity = c.put_out-was.ensures.spare_capacity ∙ c.pass-passed.ensures.spare_capacity ∙ c.turns.invariant.spare_capacity;
      steps = (let a : total (looks_on G) (drop c.args.from (take (c.turns.listed + 1) c.put_out-was.new.chain.items)) ≡ total (looks_on G) (drop c.args.from T) + looks_on G c.in-Some.node =
          total_put (looks_on G) T (take (c.turns.listed + 1) c.put_out-was.new.chain.items) c.args.from c.in-Some.node r.from_listed c.put_out-was.ensures.front in
          let b = c.turns.invariant.steps in let d = c.pass-passed.ensures.steps in let f = c.put_out-was.ensures.steps in omega arith);
    }

pub returns-in-None-clause-traced : goal.returns-in-None-clause-traced
returns-in-None-clause-traced g c =
    let G : Graph = g.G.SignalGraph.meaning c.args.graph.now in
    let nodes : List ℕ = nodes_of c.args.spots.now in
    let old : List ℕ = c.args.chain.now.items in
    let T : List ℕ = take c.turns.listed c.turns.chain.items in
    let was : ℕ → ℕ = place_in c.args.spots.now in
    let ee : c.len-end.result ≡ length old = (let a = c.len-end.ensures in let b = c.args.chain.now.ok in omega arith) in
    let r : IsRunning G nodes old T c.args.from c.pass-passed.result was (place_in c.pass-passed.new.spots) (mark_in c.pass-passed.new.spots) c.pass-passed.new.heap.items c.pass-passed.new.spare.items =
    after_pass G nodes (nodes_of c.turns.spots) (nodes_of c.pass-passed.new.spots) old c.turns.chain.items c.deref.result.now c.turns.listed c.args.from c.turns.passed c.pass-passed.result c.len-end.result
    was (place_in c.turns.spots) (place_in c.pass-passed.new.spots) (mark_in c.args.spots.now) (mark_in c.turns.spots) (mark_in c.pass-passed.new.spots) c.turns.heap.items c.pass-passed.new.heap.items c.turns.spare.items c.pass-passed.new.spare.items
    c.turns.invariant.running c.requires.old c.turns.invariant.within c.turns.invariant.rest c.deref.ensures.value c.pass-passed.ensures.nodes c.turns.invariant.nodes ee
    c.pass-passed.ensures.work c.pass-passed.ensures.range c.pass-passed.ensures.known c.pass-passed.ensures.are_passed c.pass-passed.ensures.places in
    let more : (x : ℕ) → 0 < mark_in c.args.spots.now x → 0 < mark_in c.pass-passed.new.spots x = λ x h. c.pass-passed.ensures.known x (c.turns.invariant.known x h) in
    let tr : IsTraced G old T c.args.from c.pass-passed.result c.turns.far was (mark_in c.args.spots.now) (mark_in c.pass-passed.new.spots) =
    traced_pass G old c.turns.chain.items c.deref.result.now T c.turns.listed c.args.from c.turns.passed c.pass-passed.result c.turns.far was (mark_in c.args.spots.now) (mark_in c.turns.spots) (mark_in c.pass-passed.new.spots)
    c.turns.invariant.traced c.turns.invariant.rest c.deref.ensures.value
    (listed_or G nodes old T c.turns.listed c.args.from c.turns.passed c.pass-passed.result c.len-end.result was (place_in c.turns.spots) (mark_in c.args.spots.now) (mark_in c.turns.spots) c.turns.heap.items c.turns.spare.items c.turns.invariant.running c.requires.old (length-take-le c.turns.listed c.turns.chain.items c.turns.invariant.within) ee c.pass-passed.ensures.range)
    c.turns.invariant.running.from_passed c.pass-passed.ensures.range.0 (let a = c.pass-passed.ensures.range.1 in omega arith) c.pass-passed.ensures.only in
    tr

pub returns-then-far-listed-clause-traced : goal.returns-then-far-listed-clause-traced
returns-then-far-listed-clause-traced g c =
    let G : Graph = g.G.SignalGraph.meaning c.args.graph.now in
    let nodes : List ℕ = nodes_of c.args.spots.now in
    let old : List ℕ = c.args.chain.now.items in
    let T : List ℕ = take c.turns.listed c.turns.chain.items in
    let was : ℕ → ℕ = place_in c.args.spots.now in
    let ee : c.len-end.result ≡ length old = (let a = c.len-end.ensures in let b = c.args.chain.now.ok in omega arith) in
    let r : IsRunning G nodes old T c.args.from c.pass-passed.result was (place_in c.pass-passed.new.spots) (mark_in c.pass-passed.new.spots) c.pass-passed.new.heap.items c.pass-passed.new.spare.items =
    after_pass G nodes (nodes_of c.turns.spots) (nodes_of c.pass-passed.new.spots) old c.turns.chain.items c.deref.result.now c.turns.listed c.args.from c.turns.passed c.pass-passed.result c.len-end.result
    was (place_in c.turns.spots) (place_in c.pass-passed.new.spots) (mark_in c.args.spots.now) (mark_in c.turns.spots) (mark_in c.pass-passed.new.spots) c.turns.heap.items c.pass-passed.new.heap.items c.turns.spare.items c.pass-passed.new.spare.items
    c.turns.invariant.running c.requires.old c.turns.invariant.within c.turns.invariant.rest c.deref.ensures.value c.pass-passed.ensures.nodes c.turns.invariant.nodes ee
    c.pass-passed.ensures.work c.pass-passed.ensures.range c.pass-passed.ensures.known c.pass-passed.ensures.are_passed c.pass-passed.ensures.places in
    let more : (x : ℕ) → 0 < mark_in c.args.spots.now x → 0 < mark_in c.pass-passed.new.spots x = λ x h. c.pass-passed.ensures.known x (c.turns.invariant.known x h) in
    let t : IsTaken G c.pass-passed.new.heap.items c.pop.new.heap.items (place_in c.pass-passed.new.spots) c.pass-passed.result c.len-end.result c.in-Some.node =
    record { less = c.in-Some.ensures.less; first = c.in-Some.ensures.least; behind = c.pass-passed.ensures.behind } in
    let el : c.turns.listed ≡ length T = sym (length-take-le c.turns.listed c.turns.chain.items c.turns.invariant.within) in
    let p : IsPut G (nodes_of c.put_out-was.new.spots) (take (c.turns.listed + 1) c.put_out-was.new.chain.items) (place_in c.pass-passed.new.spots) (place_in c.put_out-was.new.spots) (mark_in c.pass-passed.new.spots) (mark_in c.put_out-was.new.spots) c.put_out-was.new.heap.items c.put_out-was.new.spare.items c.turns.listed c.in-Some.node =
    record { known = c.put_out-was.ensures.known; touched = c.put_out-was.ensures.touched; places = c.put_out-was.ensures.places; work = c.put_out-was.ensures.work } in
    let tr : IsTraced G old T c.args.from c.pass-passed.result c.turns.far was (mark_in c.args.spots.now) (mark_in c.pass-passed.new.spots) =
    traced_pass G old c.turns.chain.items c.deref.result.now T c.turns.listed c.args.from c.turns.passed c.pass-passed.result c.turns.far was (mark_in c.args.spots.now) (mark_in c.turns.spots) (mark_in c.pass-passed.new.spots)
    c.turns.invariant.traced c.turns.invariant.rest c.deref.ensures.value
    (listed_or G nodes old T c.turns.listed c.args.from c.turns.passed c.pass-passed.result c.len-end.result was (place_in c.turns.spots) (mark_in c.args.spots.now) (mark_in c.turns.spots) c.turns.heap.items c.turns.spare.items c.turns.invariant.running c.requires.old (length-take-le c.turns.listed c.turns.chain.items c.turns.invariant.within) ee c.pass-passed.ensures.range)
    c.turns.invariant.running.from_passed c.pass-passed.ensures.range.0 (let a = c.pass-passed.ensures.range.1 in omega arith) c.pass-passed.ensures.only in
    traced_put G old T (take (c.turns.listed + 1) c.put_out-was.new.chain.items) c.args.from c.pass-passed.result c.turns.far c.max-far.result c.in-Some.node c.put_out-was.result was (mark_in c.args.spots.now) (mark_in c.pass-passed.new.spots) (mark_in c.put_out-was.new.spots)
    tr c.put_out-was.ensures.front r.from_listed
    (taken_was G nodes old T c.args.from c.pass-passed.result c.len-end.result c.put_out-was.result was (place_in c.pass-passed.new.spots) (mark_in c.pass-passed.new.spots) c.pass-passed.new.heap.items c.pop.new.heap.items c.pass-passed.new.spare.items c.in-Some.node r t c.put_out-was.ensures.place)
    (max_is c.turns.far (c.put_out-was.result + 1) c.max-far.result c.max-far.ensures) c.put_out-was.ensures.only

pub returns-then-far-listed-clause-met_far : goal.returns-then-far-listed-clause-met_far
returns-then-far-listed-clause-met_far g c = λ _.
    let G : Graph = g.G.SignalGraph.meaning c.args.graph.now in
    let nodes : List ℕ = nodes_of c.args.spots.now in
    let old : List ℕ = c.args.chain.now.items in
    let T : List ℕ = take c.turns.listed c.turns.chain.items in
    let was : ℕ → ℕ = place_in c.args.spots.now in
    let ee : c.len-end.result ≡ length old = (let a = c.len-end.ensures in let b = c.args.chain.now.ok in omega arith) in
    let r : IsRunning G nodes old T c.args.from c.pass-passed.result was (place_in c.pass-passed.new.spots) (mark_in c.pass-passed.new.spots) c.pass-passed.new.heap.items c.pass-passed.new.spare.items =
    after_pass G nodes (nodes_of c.turns.spots) (nodes_of c.pass-passed.new.spots) old c.turns.chain.items c.deref.result.now c.turns.listed c.args.from c.turns.passed c.pass-passed.result c.len-end.result
    was (place_in c.turns.spots) (place_in c.pass-passed.new.spots) (mark_in c.args.spots.now) (mark_in c.turns.spots) (mark_in c.pass-passed.new.spots) c.turns.heap.items c.pass-passed.new.heap.items c.turns.spare.items c.pass-passed.new.spare.items
    c.turns.invariant.running c.requires.old c.turns.invariant.within c.turns.invariant.rest c.deref.ensures.value c.pass-passed.ensures.nodes c.turns.invariant.nodes ee
    c.pass-passed.ensures.work c.pass-passed.ensures.range c.pass-passed.ensures.known c.pass-passed.ensures.are_passed c.pass-passed.ensures.places in
    let more : (x : ℕ) → 0 < mark_in c.args.spots.now x → 0 < mark_in c.pass-passed.new.spots x = λ x h. c.pass-passed.ensures.known x (c.turns.invariant.known x h) in
    let t : IsTaken G c.pass-passed.new.heap.items c.pop.new.heap.items (place_in c.pass-passed.new.spots) c.pass-passed.result c.len-end.result c.in-Some.node =
    record { less = c.in-Some.ensures.less; first = c.in-Some.ensures.least; behind = c.pass-passed.ensures.behind } in
    let el : c.turns.listed ≡ length T = sym (length-take-le c.turns.listed c.turns.chain.items c.turns.invariant.within) in
    let p : IsPut G (nodes_of c.put_out-was.new.spots) (take (c.turns.listed + 1) c.put_out-was.new.chain.items) (place_in c.pass-passed.new.spots) (place_in c.put_out-was.new.spots) (mark_in c.pass-passed.new.spots) (mark_in c.put_out-was.new.spots) c.put_out-was.new.heap.items c.put_out-was.new.spare.items c.turns.listed c.in-Some.node =
    record { known = c.put_out-was.ensures.known; touched = c.put_out-was.ensures.touched; places = c.put_out-was.ensures.places; work = c.put_out-was.ensures.work } in
    (taken_passed G c.pass-passed.new.heap.items c.pop.new.heap.items (place_in c.pass-passed.new.spots) c.turns.passed c.pass-passed.result c.len-end.result c.in-Some.node c.turns.far c.max-far.result c.put_out-was.result t c.pass-passed.ensures.advanced c.turns.invariant.passed_far (max_is c.turns.far (c.put_out-was.result + 1) c.max-far.result c.max-far.ensures) c.put_out-was.ensures.place, c.if-far-listed.true)

pub returns-then-far-listed-clause-last : goal.returns-then-far-listed-clause-last
returns-then-far-listed-clause-last g c = λ _.
    let G : Graph = g.G.SignalGraph.meaning c.args.graph.now in
    let nodes : List ℕ = nodes_of c.args.spots.now in
    let old : List ℕ = c.args.chain.now.items in
    let T : List ℕ = take c.turns.listed c.turns.chain.items in
    let was : ℕ → ℕ = place_in c.args.spots.now in
    let ee : c.len-end.result ≡ length old = (let a = c.len-end.ensures in let b = c.args.chain.now.ok in omega arith) in
    let r : IsRunning G nodes old T c.args.from c.pass-passed.result was (place_in c.pass-passed.new.spots) (mark_in c.pass-passed.new.spots) c.pass-passed.new.heap.items c.pass-passed.new.spare.items =
    after_pass G nodes (nodes_of c.turns.spots) (nodes_of c.pass-passed.new.spots) old c.turns.chain.items c.deref.result.now c.turns.listed c.args.from c.turns.passed c.pass-passed.result c.len-end.result
    was (place_in c.turns.spots) (place_in c.pass-passed.new.spots) (mark_in c.args.spots.now) (mark_in c.turns.spots) (mark_in c.pass-passed.new.spots) c.turns.heap.items c.pass-passed.new.heap.items c.turns.spare.items c.pass-passed.new.spare.items
    c.turns.invariant.running c.requires.old c.turns.invariant.within c.turns.invariant.rest c.deref.ensures.value c.pass-passed.ensures.nodes c.turns.invariant.nodes ee
    c.pass-passed.ensures.work c.pass-passed.ensures.range c.pass-passed.ensures.known c.pass-passed.ensures.are_passed c.pass-passed.ensures.places in
    let more : (x : ℕ) → 0 < mark_in c.args.spots.now x → 0 < mark_in c.pass-passed.new.spots x = λ x h. c.pass-passed.ensures.known x (c.turns.invariant.known x h) in
    let t : IsTaken G c.pass-passed.new.heap.items c.pop.new.heap.items (place_in c.pass-passed.new.spots) c.pass-passed.result c.len-end.result c.in-Some.node =
    record { less = c.in-Some.ensures.less; first = c.in-Some.ensures.least; behind = c.pass-passed.ensures.behind } in
    let el : c.turns.listed ≡ length T = sym (length-take-le c.turns.listed c.turns.chain.items c.turns.invariant.within) in
    let p : IsPut G (nodes_of c.put_out-was.new.spots) (take (c.turns.listed + 1) c.put_out-was.new.chain.items) (place_in c.pass-passed.new.spots) (place_in c.put_out-was.new.spots) (mark_in c.pass-passed.new.spots) (mark_in c.put_out-was.new.spots) c.put_out-was.new.heap.items c.put_out-was.new.spare.items c.turns.listed c.in-Some.node =
    record { known = c.put_out-was.ensures.known; touched = c.put_out-was.ensures.touched; places = c.put_out-was.ensures.places; work = c.put_out-was.ensures.work } in
    let tr : IsTraced G old T c.args.from c.pass-passed.result c.turns.far was (mark_in c.args.spots.now) (mark_in c.pass-passed.new.spots) =
    traced_pass G old c.turns.chain.items c.deref.result.now T c.turns.listed c.args.from c.turns.passed c.pass-passed.result c.turns.far was (mark_in c.args.spots.now) (mark_in c.turns.spots) (mark_in c.pass-passed.new.spots)
    c.turns.invariant.traced c.turns.invariant.rest c.deref.ensures.value
    (listed_or G nodes old T c.turns.listed c.args.from c.turns.passed c.pass-passed.result c.len-end.result was (place_in c.turns.spots) (mark_in c.args.spots.now) (mark_in c.turns.spots) c.turns.heap.items c.turns.spare.items c.turns.invariant.running c.requires.old (length-take-le c.turns.listed c.turns.chain.items c.turns.invariant.within) ee c.pass-passed.ensures.range)
    c.turns.invariant.running.from_passed c.pass-passed.ensures.range.0 (let a = c.pass-passed.ensures.range.1 in omega arith) c.pass-passed.ensures.only in
    let m : (c.turns.far ≤ c.max-far.result) × (c.put_out-was.result + 1 ≤ c.max-far.result) × ((c.max-far.result ≡ c.turns.far) ⊎ (c.max-far.result ≡ c.put_out-was.result + 1)) = max_cases c.turns.far (c.put_out-was.result + 1) c.max-far.result (max_is c.turns.far (c.put_out-was.result + 1) c.max-far.result c.max-far.ensures) in
    last_is G old T (take (c.turns.listed + 1) c.put_out-was.new.chain.items) c.put_out-was.new.chain.items c.args.from c.pass-passed.result c.turns.far c.max-far.result c.turns.listed c.in-Some.node was (mark_in c.args.spots.now) (mark_in c.pass-passed.new.spots)
    tr c.put_out-was.ensures.front refl (sym el) c.turns.invariant.from_listed c.turns.invariant.listed_far m.0 c.if-far-listed.true
