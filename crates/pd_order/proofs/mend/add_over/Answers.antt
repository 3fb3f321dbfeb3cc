use Rattle.std.proofs.Common.{◌≡◌, ℕ, ◌<◌, ◌≤◌, List, [], length, get_or, take, arith, sym, ◌∙◌, refl, ap, subst}
use Rattle.pd_order.specs.Graph.{Graph, tally, missing, total, cut_wire, AreNext}
use Rattle.pd_order.specs.Spots.{nodes_of, place_in, mark_in, nowhere}
use Rattle.pd_order.specs.Work.{IsAtWork, IsRunning, IsMet, IsEnded, looks_back}
use Rattle.pd_order.specs.Window.{IsReached}
use Rattle.pd_order.proofs.Basics.{zero_or}
use Rattle.pd_order.proofs.SpotLemmas.{length-nodes}
use Rattle.pd_order.proofs.RunLemmas.{not_in_front, in_front}
use Rattle.pd_order.proofs.OrderLemmas.{chain_once}
use Rattle.pd_order.proofs.MendLemmas.{listed_short, add_same, listed_at, chain_short, mend_beside, mend_old, mend_running, held_work, held_alone, added_held, cut_alike, ready_less, add_front, add_stuck, mended_order, mended_listed, some_same, none_same}
use Rattle.pd_order.proofs.CutLemmas.{old_same, beside_same, met_same}
use Rattle.pd_order.proofs.LookLemmas.{add_looks}
use Rattle.pd_order.proofs.mend.add_over.Goals as goal

pub returns-then-at-clause-order : goal.returns-then-at-clause-order
returns-then-at-clause-order g c =
    let G : Graph = g.G.SignalGraph.meaning c.args.graph.now in
    let short : length c.args.chain.now.items ≤ length (nodes_of c.args.spots.now) = chain_short (cut_wire G c.args.source c.args.sink) (nodes_of c.args.spots.now) c.args.chain.now.items c.requires.order.listed in
    let ln : length (nodes_of c.args.spots.now) ≡ length c.args.spots.now = length-nodes c.args.spots.now in
    let few : length c.args.spots.now < nowhere = c.requires.listed.few in
    let e : place_in c.args.spots.now c.args.sink ≡ nowhere = sym c.place-at.ensures ∙ c.if-at.true in
    add_stuck G c.args.source c.args.sink (nodes_of c.args.spots.now) c.args.chain.now.items c.args.stuck.now.items c.requires.order
    (zero_or (tally c.args.sink c.args.chain.now.items) (λ l. let p : place_in c.args.spots.now c.args.sink < length c.args.chain.now.items = (c.requires.listed.seated.placed c.args.sink l).0 in absurd (omega arith)))

pub rework-requires-clause-old : goal.rework-requires-clause-old
rework-requires-clause-old g c =
    let G : Graph = g.G.SignalGraph.meaning c.args.graph.now in
    let v : ℕ = c.args.sink in
    let g0 : Graph = cut_wire G c.args.source v in
    let p : ℕ = c.place-at.result in
    let nodes : List ℕ = nodes_of c.args.spots.now in
    let C : List ℕ = c.args.chain.now.items in
    let ep : p ≡ place_in c.args.spots.now v = c.place-at.ensures in
    let ne : place_in c.args.spots.now v ≡ nowhere → ⊥ = λ e. c.if-at.false (ep ∙ e) in
    let there : 0 < tally v nodes = c.requires.lawful.sinks v c.args.source c.requires.wire in
    let inn : 0 < tally v C = listed_at C c.args.stuck.now.items c.args.spots.now v c.requires.listed there ne in
    let at : (place_in c.args.spots.now v < length C) × (get_or C (place_in c.args.spots.now v) 0 ≡ v) = c.requires.listed.seated.placed v inn in
    let at0 : place_in c.args.spots.now v < length C = at.0 in
    let ev : get_or C p 0 ≡ v = ap (λ (k : ℕ). get_or C k 0) ep ∙ at.1 in
    (old_same G nodes (nodes_of c.know_held.new.spots) C p (place_in c.args.spots.now) (place_in c.know_held.new.spots) (mark_in c.know_held.new.spots)
    (mend_old g0 G C c.args.stuck.now.items c.args.spots.now p (mark_in c.know_held.new.spots) c.requires.listed c.requires.order refl (omega arith) (λ z _ r. ready_less G c.args.source v nodes (take p C) z r))
    c.know_held.ensures.nodes c.know_held.ensures.places)

pub rework-requires-clause-beside : goal.rework-requires-clause-beside
rework-requires-clause-beside g c =
    let G : Graph = g.G.SignalGraph.meaning c.args.graph.now in
    let v : ℕ = c.args.sink in
    let g0 : Graph = cut_wire G c.args.source v in
    let p : ℕ = c.place-at.result in
    let nodes : List ℕ = nodes_of c.args.spots.now in
    let C : List ℕ = c.args.chain.now.items in
    let ep : p ≡ place_in c.args.spots.now v = c.place-at.ensures in
    let ne : place_in c.args.spots.now v ≡ nowhere → ⊥ = λ e. c.if-at.false (ep ∙ e) in
    let there : 0 < tally v nodes = c.requires.lawful.sinks v c.args.source c.requires.wire in
    let inn : 0 < tally v C = listed_at C c.args.stuck.now.items c.args.spots.now v c.requires.listed there ne in
    let at : (place_in c.args.spots.now v < length C) × (get_or C (place_in c.args.spots.now v) 0 ≡ v) = c.requires.listed.seated.placed v inn in
    let at0 : place_in c.args.spots.now v < length C = at.0 in
    let ev : get_or C p 0 ≡ v = ap (λ (k : ℕ). get_or C k 0) ep ∙ at.1 in
    beside_same G nodes (nodes_of c.know_held.new.spots) C c.args.stuck.now.items (place_in c.args.spots.now) (place_in c.know_held.new.spots) (mark_in c.know_held.new.spots)
    (mend_beside g0 G C c.args.stuck.now.items c.args.spots.now (mark_in c.know_held.new.spots) c.requires.listed c.requires.order refl c.requires.lawful.once) c.know_held.ensures.nodes c.know_held.ensures.places

pub rework-requires-clause-running : goal.rework-requires-clause-running
rework-requires-clause-running g c =
    let G : Graph = g.G.SignalGraph.meaning c.args.graph.now in
    let v : ℕ = c.args.sink in
    let g0 : Graph = cut_wire G c.args.source v in
    let p : ℕ = c.place-at.result in
    let nodes : List ℕ = nodes_of c.args.spots.now in
    let C : List ℕ = c.args.chain.now.items in
    let ep : p ≡ place_in c.args.spots.now v = c.place-at.ensures in
    let ne : place_in c.args.spots.now v ≡ nowhere → ⊥ = λ e. c.if-at.false (ep ∙ e) in
    let there : 0 < tally v nodes = c.requires.lawful.sinks v c.args.source c.requires.wire in
    let inn : 0 < tally v C = listed_at C c.args.stuck.now.items c.args.spots.now v c.requires.listed there ne in
    let at : (place_in c.args.spots.now v < length C) × (get_or C (place_in c.args.spots.now v) 0 ≡ v) = c.requires.listed.seated.placed v inn in
    let at0 : place_in c.args.spots.now v < length C = at.0 in
    let ev : get_or C p 0 ≡ v = ap (λ (k : ℕ). get_or C k 0) ep ∙ at.1 in
    let behind : p ≤ place_in c.args.spots.now c.args.source = (let x = c.place.ensures in let y = c.if-place-at.false in omega arith) in
    let held : missing (take p C) (G.feeders v) ≡ 1 = added_held G c.args.source v C c.args.stuck.now.items c.args.spots.now p c.requires.listed c.requires.order (omega arith) ev c.requires.wire behind in
    let un : tally v (take p C) ≡ 0 = subst (λ (w : ℕ). tally w (take p C) ≡ 0) ev (not_in_front C p p (chain_once g0 nodes C c.requires.order.listed) (omega arith) (omega arith)) in
    let front : AreNext G nodes [] (take p C) = add_front G c.args.source v nodes C p c.requires.order.listed (omega arith) un in
    let w : IsAtWork G nodes (take p C) (take p C) [] (mark_in c.know_held.new.spots) c.know_held.new.heap.items c.know_held.new.spare.items =
    held_work G nodes (take p C) v 1 (mark_in c.args.spots.now) (mark_in c.know_held.new.spots) c.args.heap.now.items c.know_held.new.heap.items c.args.spare.now.items c.know_held.new.spare.items c.requires.listed.unmarked c.requires.heap c.requires.spare
    there un held c.know_held.ensures.marks c.know_held.ensures.more c.know_held.ensures.spare c.know_held.ensures.heap in
    subst (λ (ns : List ℕ). IsRunning G ns C (take p C) p p (place_in c.know_held.new.spots) (place_in c.know_held.new.spots) (mark_in c.know_held.new.spots) c.know_held.new.heap.items c.know_held.new.spare.items) (sym c.know_held.ensures.nodes)
    (mend_running g0 G C c.args.stuck.now.items c.args.spots.now p (place_in c.know_held.new.spots) (mark_in c.know_held.new.spots) c.know_held.new.heap.items c.know_held.new.spare.items c.requires.listed c.requires.order.listed (omega arith) front w c.know_held.ensures.places)

pub returns-clause-order : goal.returns-clause-order
returns-clause-order g c =
    let G : Graph = g.G.SignalGraph.meaning c.args.graph.now in
    let v : ℕ = c.args.sink in
    let g0 : Graph = cut_wire G c.args.source v in
    let p : ℕ = c.place-at.result in
    let nodes : List ℕ = nodes_of c.args.spots.now in
    let C : List ℕ = c.args.chain.now.items in
    let ep : p ≡ place_in c.args.spots.now v = c.place-at.ensures in
    let ne : place_in c.args.spots.now v ≡ nowhere → ⊥ = λ e. c.if-at.false (ep ∙ e) in
    let there : 0 < tally v nodes = c.requires.lawful.sinks v c.args.source c.requires.wire in
    let inn : 0 < tally v C = listed_at C c.args.stuck.now.items c.args.spots.now v c.requires.listed there ne in
    let at : (place_in c.args.spots.now v < length C) × (get_or C (place_in c.args.spots.now v) 0 ≡ v) = c.requires.listed.seated.placed v inn in
    let at0 : place_in c.args.spots.now v < length C = at.0 in
    let ev : get_or C p 0 ≡ v = ap (λ (k : ℕ). get_or C k 0) ep ∙ at.1 in
    let ls : length c.rework.new.spots ≡ length c.args.spots.now = sym (length-nodes c.rework.new.spots) ∙ ap length (c.rework.ensures.nodes ∙ c.know_held.ensures.nodes) ∙ length-nodes c.args.spots.now in
    let few : length c.args.spots.now < nowhere = c.requires.listed.few in
    let none = none_same c.rework.result (IsEnded G (nodes_of c.know_held.new.spots) c.rework.new.chain.items c.rework.new.stuck.items (place_in c.rework.new.spots)) (IsEnded G nodes c.rework.new.chain.items c.rework.new.stuck.items (place_in c.rework.new.spots))
    (λ e. subst (λ (ns : List ℕ). IsEnded G ns c.rework.new.chain.items c.rework.new.stuck.items (place_in c.rework.new.spots)) c.know_held.ensures.nodes e) c.rework.ensures.ended in
    let some = some_same c.rework.result (λ k. IsMet G (nodes_of c.know_held.new.spots) C c.rework.new.chain.items p k (place_in c.know_held.new.spots) (place_in c.rework.new.spots)) (λ k. IsMet G nodes C c.rework.new.chain.items p k (place_in c.args.spots.now) (place_in c.rework.new.spots))
    (λ k m. met_same G nodes (nodes_of c.know_held.new.spots) C c.rework.new.chain.items p k (place_in c.args.spots.now) (place_in c.know_held.new.spots) (place_in c.rework.new.spots) m c.know_held.ensures.nodes c.know_held.ensures.places) c.rework.ensures.met in
    mended_order g0 G v C c.rework.new.chain.items c.args.stuck.now.items c.rework.new.stuck.items c.args.spots.now c.rework.new.spots p c.rework.result
    (cut_alike G c.args.source v) c.requires.listed c.requires.order none some c.rework.ensures.met_stuck
    (λ k m. let f : 0 < tally (get_or C p 0) (take k C) = in_front C k p m.low (omega arith) in subst (λ (w : ℕ). 0 < tally w (take k C)) ev f)

pub returns-clause-listed : goal.returns-clause-listed
returns-clause-listed g c =
    let G : Graph = g.G.SignalGraph.meaning c.args.graph.now in
    let v : ℕ = c.args.sink in
    let g0 : Graph = cut_wire G c.args.source v in
    let p : ℕ = c.place-at.result in
    let nodes : List ℕ = nodes_of c.args.spots.now in
    let C : List ℕ = c.args.chain.now.items in
    let ep : p ≡ place_in c.args.spots.now v = c.place-at.ensures in
    let ne : place_in c.args.spots.now v ≡ nowhere → ⊥ = λ e. c.if-at.false (ep ∙ e) in
    let there : 0 < tally v nodes = c.requires.lawful.sinks v c.args.source c.requires.wire in
    let inn : 0 < tally v C = listed_at C c.args.stuck.now.items c.args.spots.now v c.requires.listed there ne in
    let at : (place_in c.args.spots.now v < length C) × (get_or C (place_in c.args.spots.now v) 0 ≡ v) = c.requires.listed.seated.placed v inn in
    let at0 : place_in c.args.spots.now v < length C = at.0 in
    let ev : get_or C p 0 ≡ v = ap (λ (k : ℕ). get_or C k 0) ep ∙ at.1 in
    let ls : length c.rework.new.spots ≡ length c.args.spots.now = sym (length-nodes c.rework.new.spots) ∙ ap length (c.rework.ensures.nodes ∙ c.know_held.ensures.nodes) ∙ length-nodes c.args.spots.now in
    let few : length c.args.spots.now < nowhere = c.requires.listed.few in
    let none = none_same c.rework.result (IsEnded G (nodes_of c.know_held.new.spots) c.rework.new.chain.items c.rework.new.stuck.items (place_in c.rework.new.spots)) (IsEnded G nodes c.rework.new.chain.items c.rework.new.stuck.items (place_in c.rework.new.spots))
    (λ e. subst (λ (ns : List ℕ). IsEnded G ns c.rework.new.chain.items c.rework.new.stuck.items (place_in c.rework.new.spots)) c.know_held.ensures.nodes e) c.rework.ensures.ended in
    let some = some_same c.rework.result (λ k. IsMet G (nodes_of c.know_held.new.spots) C c.rework.new.chain.items p k (place_in c.know_held.new.spots) (place_in c.rework.new.spots)) (λ k. IsMet G nodes C c.rework.new.chain.items p k (place_in c.args.spots.now) (place_in c.rework.new.spots))
    (λ k m. met_same G nodes (nodes_of c.know_held.new.spots) C c.rework.new.chain.items p k (place_in c.args.spots.now) (place_in c.know_held.new.spots) (place_in c.rework.new.spots) m c.know_held.ensures.nodes c.know_held.ensures.places) c.rework.ensures.met in
    mended_listed g0 G v C c.rework.new.chain.items c.args.stuck.now.items c.rework.new.stuck.items c.args.spots.now c.rework.new.spots p c.rework.result
    (cut_alike G c.args.source v) c.requires.listed c.requires.order none some c.rework.ensures.met_stuck
    (λ k m. let f : 0 < tally (get_or C p 0) (take k C) = in_front C k p m.low (omega arith) in subst (λ (w : ℕ). 0 < tally w (take k C)) ev f)
    c.rework.ensures.by_node (c.rework.ensures.nodes ∙ c.know_held.ensures.nodes) c.rework.ensures.marks (omega arith)

pub returns-then-place-at-clause-order : goal.returns-then-place-at-clause-order
returns-then-place-at-clause-order g c =
    let G : Graph = g.G.SignalGraph.meaning c.args.graph.now in
    let v : ℕ = c.args.sink in
    let p : ℕ = c.place-at.result in
    let nodes : List ℕ = nodes_of c.args.spots.now in
    let C : List ℕ = c.args.chain.now.items in
    let ep : p ≡ place_in c.args.spots.now v = c.place-at.ensures in
    let ne : place_in c.args.spots.now v ≡ nowhere → ⊥ = λ e. c.if-at.false (ep ∙ e) in
    let there : 0 < tally v nodes = c.requires.lawful.sinks v c.args.source c.requires.wire in
    let inn : 0 < tally v C = listed_at C c.args.stuck.now.items c.args.spots.now v c.requires.listed there ne in
    let at : (place_in c.args.spots.now v < length C) × (get_or C (place_in c.args.spots.now v) 0 ≡ v) = c.requires.listed.seated.placed v inn in
    let at0 : place_in c.args.spots.now v < length C = at.0 in
    let ev : get_or C p 0 ≡ v = ap (λ (k : ℕ). get_or C k 0) ep ∙ at.1 in
    let lt : place_in c.args.spots.now c.args.source < p = (let a = c.place.ensures in let b = c.if-place-at.true in omega arith) in
    let few : length c.args.spots.now < nowhere = c.requires.listed.few in
    let short : length C < nowhere = listed_short C c.args.stuck.now.items c.args.spots.now c.requires.listed in
    let sn : 0 < tally c.args.source nodes = c.requires.lawful.sources v c.args.source c.requires.wire in
    let si : 0 < tally c.args.source C = listed_at C c.args.stuck.now.items c.args.spots.now c.args.source c.requires.listed sn (λ e. absurd (omega arith)) in
    let sp : (place_in c.args.spots.now c.args.source < length C) × (get_or C (place_in c.args.spots.now c.args.source) 0 ≡ c.args.source) = c.requires.listed.seated.placed c.args.source si in
    add_same G c.args.source v nodes C c.args.stuck.now.items p c.args.spots.now c.requires.lawful c.requires.listed c.requires.order (omega arith) ev
    (subst (λ (w : ℕ). 0 < tally w (take p C)) sp.1 (in_front C p (place_in c.args.spots.now c.args.source) lt sp.0))

pub returns-clause-looks : goal.returns-clause-looks
returns-clause-looks g c = λ a b win.
    let G : Graph = g.G.SignalGraph.meaning c.args.graph.now in
    let v : ℕ = c.args.sink in
    let g0 : Graph = cut_wire G c.args.source v in
    let p : ℕ = c.place-at.result in
    let nodes : List ℕ = nodes_of c.args.spots.now in
    let C : List ℕ = c.args.chain.now.items in
    let ep : p ≡ place_in c.args.spots.now v = c.place-at.ensures in
    let ne : place_in c.args.spots.now v ≡ nowhere → ⊥ = λ e. c.if-at.false (ep ∙ e) in
    let there : 0 < tally v nodes = c.requires.lawful.sinks v c.args.source c.requires.wire in
    let inn : 0 < tally v C = listed_at C c.args.stuck.now.items c.args.spots.now v c.requires.listed there ne in
    let at : (place_in c.args.spots.now v < length C) × (get_or C (place_in c.args.spots.now v) 0 ≡ v) = c.requires.listed.seated.placed v inn in
    let at0 : place_in c.args.spots.now v < length C = at.0 in
    let ev : get_or C p 0 ≡ v = ap (λ (k : ℕ). get_or C k 0) ep ∙ at.1 in
    let behind : p ≤ place_in c.args.spots.now c.args.source = (let x = c.place.ensures in let y = c.if-place-at.false in omega arith) in
    let held : missing (take p C) (G.feeders v) ≡ 1 = added_held G c.args.source v C c.args.stuck.now.items c.args.spots.now p c.requires.listed c.requires.order (omega arith) ev c.requires.wire behind in
    let od' = old_same G nodes nodes C p (place_in c.args.spots.now) (place_in c.know_held.new.spots) (mark_in c.know_held.new.spots)
    (mend_old g0 G C c.args.stuck.now.items c.args.spots.now p (mark_in c.know_held.new.spots) c.requires.listed c.requires.order refl (omega arith) (λ z _ r. ready_less G c.args.source v nodes (take p C) z r)) refl c.know_held.ensures.places in
    add_looks G c.args.source v nodes C c.rework.new.chain.items c.args.stuck.now.items c.rework.new.stuck.items p (total (looks_back G) c.know_held.new.spare.items) c.args.steps.now c.rework.new.steps a b (place_in c.know_held.new.spots) (mark_in c.know_held.new.spots)
    c.requires.order (returns-clause-order g c) od' (held_alone v 1 (mark_in c.args.spots.now) (mark_in c.know_held.new.spots) c.requires.listed.unmarked c.know_held.ensures.marks) (omega arith) ev (omega arith)
    (subst (λ (ns : List ℕ). IsReached G ns C c.rework.new.chain.items p (place_in c.know_held.new.spots) (mark_in c.know_held.new.spots) (total (looks_back G) c.know_held.new.spare.items) c.args.steps.now c.rework.new.steps) c.know_held.ensures.nodes c.rework.ensures.reached) win
