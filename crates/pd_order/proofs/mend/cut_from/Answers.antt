use Rattle.std.proofs.Common.{◌≡◌, ℕ, ◌<◌, List, [], length, take, arith, sym, ◌∙◌, refl, ap, subst}
use Rattle.pd_order.specs.Graph.{Graph, add_wire, AreNext}
use Rattle.pd_order.specs.Spots.{nodes_of, place_in, mark_in, nowhere}
use Rattle.pd_order.specs.Work.{IsAtWork, IsMet, IsEnded, IsRunning}
use Rattle.pd_order.proofs.SpotLemmas.{length-nodes}
use Rattle.pd_order.proofs.MendLemmas.{mend_beside, mend_old, mend_running, held_work, held_known, held_alone, mended_order, mended_listed, some_same, none_same}
use Rattle.pd_order.proofs.CutLemmas.{add_alike, ready_with, cut_front, not_yet, cut_fed, old_same, beside_same, met_same}
use Rattle.pd_order.specs.Graph.{total}
use Rattle.pd_order.specs.Work.{looks_back}
use Rattle.pd_order.specs.Window.{IsReached}
use Rattle.pd_order.proofs.LookLemmas.{cut_looks}
use Rattle.pd_order.proofs.mend.cut_from.Goals as goal

pub rework-requires-clause-old : goal.rework-requires-clause-old
rework-requires-clause-old g c =
    let G : Graph = g.G.SignalGraph.meaning c.args.graph.now in
    let v : ℕ = c.args.sink in
    let g0 : Graph = add_wire G c.args.source v in
    let p : ℕ = c.args.from in
    let nodes : List ℕ = nodes_of c.args.spots.now in
    let C : List ℕ = c.args.chain.now.items in
    old_same G nodes (nodes_of c.know_held.new.spots) C p (place_in c.args.spots.now) (place_in c.know_held.new.spots) (mark_in c.know_held.new.spots)
    (mend_old g0 G C c.args.stuck.now.items c.args.spots.now p (mark_in c.know_held.new.spots) c.requires.listed c.requires.order refl c.requires.start.low
    (λ z m r. ready_with G c.args.source v nodes (take p C) z (λ e. let k : 0 < mark_in c.know_held.new.spots v = held_known v 0 (mark_in c.args.spots.now) (mark_in c.know_held.new.spots) c.know_held.ensures.marks in let m' : mark_in c.know_held.new.spots v ≡ 0 = subst (λ (y : ℕ). mark_in c.know_held.new.spots y ≡ 0) e m in absurd (omega arith)) r))
    c.know_held.ensures.nodes c.know_held.ensures.places

pub rework-requires-clause-beside : goal.rework-requires-clause-beside
rework-requires-clause-beside g c =
    let G : Graph = g.G.SignalGraph.meaning c.args.graph.now in
    let v : ℕ = c.args.sink in
    let g0 : Graph = add_wire G c.args.source v in
    let p : ℕ = c.args.from in
    let nodes : List ℕ = nodes_of c.args.spots.now in
    let C : List ℕ = c.args.chain.now.items in
    beside_same G nodes (nodes_of c.know_held.new.spots) C c.args.stuck.now.items (place_in c.args.spots.now) (place_in c.know_held.new.spots) (mark_in c.know_held.new.spots)
    (mend_beside g0 G C c.args.stuck.now.items c.args.spots.now (mark_in c.know_held.new.spots) c.requires.listed c.requires.order refl c.requires.lawful.once) c.know_held.ensures.nodes c.know_held.ensures.places

pub rework-requires-clause-running : goal.rework-requires-clause-running
rework-requires-clause-running g c =
    let G : Graph = g.G.SignalGraph.meaning c.args.graph.now in
    let v : ℕ = c.args.sink in
    let g0 : Graph = add_wire G c.args.source v in
    let p : ℕ = c.args.from in
    let nodes : List ℕ = nodes_of c.args.spots.now in
    let C : List ℕ = c.args.chain.now.items in
    let front : AreNext G nodes [] (take p C) = cut_front G c.args.source v nodes C p c.requires.order.listed c.requires.start in
    let w : IsAtWork G nodes (take p C) (take p C) [] (mark_in c.know_held.new.spots) c.know_held.new.heap.items c.know_held.new.spare.items =
    held_work G nodes (take p C) v 0 (mark_in c.args.spots.now) (mark_in c.know_held.new.spots) c.args.heap.now.items c.know_held.new.heap.items c.args.spare.now.items c.know_held.new.spare.items c.requires.listed.unmarked c.requires.heap c.requires.spare
    c.requires.there (not_yet G C v p c.requires.start) c.requires.start.fed c.know_held.ensures.marks c.know_held.ensures.more c.know_held.ensures.spare c.know_held.ensures.heap in
    subst (λ (ns : List ℕ). IsRunning G ns C (take p C) p p (place_in c.know_held.new.spots) (place_in c.know_held.new.spots) (mark_in c.know_held.new.spots) c.know_held.new.heap.items c.know_held.new.spare.items) (sym c.know_held.ensures.nodes)
    (mend_running g0 G C c.args.stuck.now.items c.args.spots.now p (place_in c.know_held.new.spots) (mark_in c.know_held.new.spots) c.know_held.new.heap.items c.know_held.new.spare.items c.requires.listed c.requires.order.listed c.requires.start.low front w c.know_held.ensures.places)

pub returns-clause-order : goal.returns-clause-order
returns-clause-order g c =
    let G : Graph = g.G.SignalGraph.meaning c.args.graph.now in
    let v : ℕ = c.args.sink in
    let g0 : Graph = add_wire G c.args.source v in
    let p : ℕ = c.args.from in
    let nodes : List ℕ = nodes_of c.args.spots.now in
    let C : List ℕ = c.args.chain.now.items in
    let ls : length c.rework.new.spots ≡ length c.args.spots.now = sym (length-nodes c.rework.new.spots) ∙ ap length (c.rework.ensures.nodes ∙ c.know_held.ensures.nodes) ∙ length-nodes c.args.spots.now in
    let few : length c.args.spots.now < nowhere = c.requires.listed.few in
    let none = none_same c.rework.result (IsEnded G (nodes_of c.know_held.new.spots) c.rework.new.chain.items c.rework.new.stuck.items (place_in c.rework.new.spots)) (IsEnded G nodes c.rework.new.chain.items c.rework.new.stuck.items (place_in c.rework.new.spots))
    (λ e. subst (λ (ns : List ℕ). IsEnded G ns c.rework.new.chain.items c.rework.new.stuck.items (place_in c.rework.new.spots)) c.know_held.ensures.nodes e) c.rework.ensures.ended in
    let some = some_same c.rework.result (λ k. IsMet G (nodes_of c.know_held.new.spots) C c.rework.new.chain.items p k (place_in c.know_held.new.spots) (place_in c.rework.new.spots)) (λ k. IsMet G nodes C c.rework.new.chain.items p k (place_in c.args.spots.now) (place_in c.rework.new.spots))
    (λ k m. met_same G nodes (nodes_of c.know_held.new.spots) C c.rework.new.chain.items p k (place_in c.args.spots.now) (place_in c.know_held.new.spots) (place_in c.rework.new.spots) m c.know_held.ensures.nodes c.know_held.ensures.places) c.rework.ensures.met in
    mended_order g0 G v C c.rework.new.chain.items c.args.stuck.now.items c.rework.new.stuck.items c.args.spots.now c.rework.new.spots p c.rework.result
    (add_alike G c.args.source v) c.requires.listed c.requires.order none some c.rework.ensures.met_stuck (λ k m. cut_fed G c.args.source v nodes C c.args.stuck.now.items c.rework.new.chain.items p k (place_in c.args.spots.now) (place_in c.rework.new.spots) c.requires.order c.requires.start c.requires.there c.requires.lawful m)

pub returns-clause-listed : goal.returns-clause-listed
returns-clause-listed g c =
    let G : Graph = g.G.SignalGraph.meaning c.args.graph.now in
    let v : ℕ = c.args.sink in
    let g0 : Graph = add_wire G c.args.source v in
    let p : ℕ = c.args.from in
    let nodes : List ℕ = nodes_of c.args.spots.now in
    let C : List ℕ = c.args.chain.now.items in
    let ls : length c.rework.new.spots ≡ length c.args.spots.now = sym (length-nodes c.rework.new.spots) ∙ ap length (c.rework.ensures.nodes ∙ c.know_held.ensures.nodes) ∙ length-nodes c.args.spots.now in
    let few : length c.args.spots.now < nowhere = c.requires.listed.few in
    let none = none_same c.rework.result (IsEnded G (nodes_of c.know_held.new.spots) c.rework.new.chain.items c.rework.new.stuck.items (place_in c.rework.new.spots)) (IsEnded G nodes c.rework.new.chain.items c.rework.new.stuck.items (place_in c.rework.new.spots))
    (λ e. subst (λ (ns : List ℕ). IsEnded G ns c.rework.new.chain.items c.rework.new.stuck.items (place_in c.rework.new.spots)) c.know_held.ensures.nodes e) c.rework.ensures.ended in
    let some = some_same c.rework.result (λ k. IsMet G (nodes_of c.know_held.new.spots) C c.rework.new.chain.items p k (place_in c.know_held.new.spots) (place_in c.rework.new.spots)) (λ k. IsMet G nodes C c.rework.new.chain.items p k (place_in c.args.spots.now) (place_in c.rework.new.spots))
    (λ k m. met_same G nodes (nodes_of c.know_held.new.spots) C c.rework.new.chain.items p k (place_in c.args.spots.now) (place_in c.know_held.new.spots) (place_in c.rework.new.spots) m c.know_held.ensures.nodes c.know_held.ensures.places) c.rework.ensures.met in
    mended_listed g0 G v C c.rework.new.chain.items c.args.stuck.now.items c.rework.new.stuck.items c.args.spots.now c.rework.new.spots p c.rework.result
    (add_alike G c.args.source v) c.requires.listed c.requires.order none some c.rework.ensures.met_stuck (λ k m. cut_fed G c.args.source v nodes C c.args.stuck.now.items c.rework.new.chain.items p k (place_in c.args.spots.now) (place_in c.rework.new.spots) c.requires.order c.requires.start c.requires.there c.requires.lawful m)
    c.rework.ensures.by_node (c.rework.ensures.nodes ∙ c.know_held.ensures.nodes) c.rework.ensures.marks (omega arith)

pub returns-clause-looks : goal.returns-clause-looks
returns-clause-looks g c = λ a b win.
    let G : Graph = g.G.SignalGraph.meaning c.args.graph.now in
    let v : ℕ = c.args.sink in
    let g0 : Graph = add_wire G c.args.source v in
    let p : ℕ = c.args.from in
    let nodes : List ℕ = nodes_of c.args.spots.now in
    let C : List ℕ = c.args.chain.now.items in
    let od = mend_old g0 G C c.args.stuck.now.items c.args.spots.now p (mark_in c.know_held.new.spots) c.requires.listed c.requires.order refl c.requires.start.low
    (λ z m r. ready_with G c.args.source v nodes (take p C) z (λ e. let k : 0 < mark_in c.know_held.new.spots v = held_known v 0 (mark_in c.args.spots.now) (mark_in c.know_held.new.spots) c.know_held.ensures.marks in let m' : mark_in c.know_held.new.spots v ≡ 0 = subst (λ (y : ℕ). mark_in c.know_held.new.spots y ≡ 0) e m in absurd (omega arith)) r) in
    let od' = old_same G nodes nodes C p (place_in c.args.spots.now) (place_in c.know_held.new.spots) (mark_in c.know_held.new.spots) od refl c.know_held.ensures.places in
    let k = cut_looks G c.args.source v nodes C c.rework.new.chain.items c.args.stuck.now.items c.rework.new.stuck.items p (total (looks_back G) c.know_held.new.spare.items) c.args.steps.now c.rework.new.steps a b (place_in c.know_held.new.spots) (mark_in c.know_held.new.spots)
    c.requires.lawful c.requires.order (returns-clause-order g c) od' c.requires.start c.requires.there
    (held_alone v 0 (mark_in c.args.spots.now) (mark_in c.know_held.new.spots) c.requires.listed.unmarked c.know_held.ensures.marks)
    c.requires.parts
    (subst (λ (ns : List ℕ). IsReached G ns C c.rework.new.chain.items p (place_in c.know_held.new.spots) (mark_in c.know_held.new.spots) (total (looks_back G) c.know_held.new.spare.items) c.args.steps.now c.rework.new.steps) c.know_held.ensures.nodes c.rework.ensures.reached) win in
    omega arith
