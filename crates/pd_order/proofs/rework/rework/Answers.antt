use Rattle.std.proofs.Common.{◌≡◌, ℕ, ◌+◌, ◌<◌, List, length, take, arith, sym, refl, subst}
use Rattle.std.specs.List.{filter}
use Rattle.pd_order.specs.Graph.{Graph, tally}
use Rattle.pd_order.specs.Spots.{nodes_of, place_in, mark_in, is_nowhere, is_displaced, place_left}
use Rattle.pd_order.specs.Work.{IsMet, IsSeated}
use Rattle.pd_order.proofs.SpotLemmas.{length-nodes}
use Rattle.pd_order.proofs.EndLemmas.{met_is, stands, rest_is, seated_is, Standing, met_placed, looked}
use Rattle.std.proofs.lemmas.List.{take-take, length-take-le}
use Rattle.std.proofs.Common.{inl, inr}
use Rattle.pd_order.proofs.ReachLemmas.{reached_is, ended_reach, passed_listed, le_self}
use Rattle.pd_order.proofs.rework.rework.Goals as goal

pub returns-then-ran-clause-met : goal.returns-then-ran-clause-met
returns-then-ran-clause-met g c =
    let m = c.run-ran.ensures.met c.if-ran.true in
    met_placed (g.G.SignalGraph.meaning c.args.graph.now) (nodes_of c.args.spots.now) c.args.chain.now.items c.run-ran.new.chain.items c.args.from c.run-ran.result.listed (place_in c.args.spots.now) (place_in c.run-ran.new.spots) (place_in c.forget.new.spots)
    (met_is (g.G.SignalGraph.meaning c.args.graph.now) (nodes_of c.args.spots.now) c.args.chain.now.items c.run-ran.new.chain.items c.args.stuck.now.items c.args.from c.run-ran.result.passed c.run-ran.result.listed
    (place_in c.args.spots.now) (place_in c.run-ran.new.spots) (mark_in c.args.spots.now) (mark_in c.run-ran.new.spots) c.run-ran.new.heap.items c.run-ran.new.spare.items
    c.run-ran.ensures.running c.requires.old c.requires.beside c.run-ran.ensures.listed.1 c.run-ran.ensures.rest m.0 m.1)
    c.forget.ensures.places

pub close-requires-clause-fit : goal.close-requires-clause-fit
close-requires-clause-fit g c = λ x.
    let G : Graph = g.G.SignalGraph.meaning c.args.graph.now in
    let nodes : List ℕ = nodes_of c.args.spots.now in
    let T : List ℕ = take c.run-ran.result.listed c.run-ran.new.chain.items in
    let e = c.run-ran.ensures.ended c.if-ran.false in
    let s : Standing (place_in c.run-ran.new.spots) (mark_in c.run-ran.new.spots) (place_in c.args.spots.now) T c.args.stuck.now.items c.run-ran.new.spare.items nodes x =
    stands G nodes c.args.chain.now.items T c.args.stuck.now.items c.args.from c.run-ran.result.passed (place_in c.args.spots.now) (place_in c.run-ran.new.spots) (mark_in c.args.spots.now) (mark_in c.run-ran.new.spots) c.run-ran.new.heap.items c.run-ran.new.spare.items x
    c.run-ran.ensures.running c.requires.old c.requires.beside c.run-ran.ensures.known c.requires.lawful (rw (length-nodes c.args.spots.now) c.requires.few) e.0 e.1 in
    let r : tally x (filter (is_nowhere c.run-ran.new.spots) c.args.stuck.now.items) + tally x (filter (is_displaced c.run-ran.new.spots) c.run-ran.new.spare.items) + tally x T ≡ tally x nodes =
    rest_is (place_in c.run-ran.new.spots) (mark_in c.run-ran.new.spots) (place_in c.args.spots.now) T c.args.stuck.now.items c.run-ran.new.spare.items nodes x s in
    rw (c.deref-2.ensures.value, c.run-ran.ensures.nodes) (omega arith)

pub returns-clause-ended : goal.returns-clause-ended
returns-clause-ended g c =
    let G : Graph = g.G.SignalGraph.meaning c.args.graph.now in
    let nodes : List ℕ = nodes_of c.args.spots.now in
    let T : List ℕ = take c.run-ran.result.listed c.run-ran.new.chain.items in
    let e = c.run-ran.ensures.ended c.if-ran.false in
    let s : (x : ℕ) → Standing (place_in c.run-ran.new.spots) (mark_in c.run-ran.new.spots) (place_in c.args.spots.now) T c.args.stuck.now.items c.run-ran.new.spare.items nodes x = λ x.
    stands G nodes c.args.chain.now.items T c.args.stuck.now.items c.args.from c.run-ran.result.passed (place_in c.args.spots.now) (place_in c.run-ran.new.spots) (mark_in c.args.spots.now) (mark_in c.run-ran.new.spots) c.run-ran.new.heap.items c.run-ran.new.spare.items x
    c.run-ran.ensures.running c.requires.old c.requires.beside c.run-ran.ensures.known c.requires.lawful (rw (length-nodes c.args.spots.now) c.requires.few) e.0 e.1 in
    let v : c.deref-2.result.now ≡ c.run-ran.new.spare.items = c.deref-2.ensures.value in
    let seated : IsSeated nodes T (place_in c.close.new.spots) =
    seated_is (place_in c.run-ran.new.spots) (mark_in c.run-ran.new.spots) (place_in c.args.spots.now) (place_in c.close.new.spots) T c.args.stuck.now.items c.run-ran.new.spare.items nodes s c.run-ran.ensures.running.placed
    (subst (λ (l : List ℕ). (x : ℕ) → 0 < tally x l → place_in c.close.new.spots x ≡ place_left c.run-ran.new.spots x) v c.close.ensures.listed)
    (subst (λ (l : List ℕ). (x : ℕ) → tally x l ≡ 0 → place_in c.close.new.spots x ≡ place_in c.run-ran.new.spots x) v c.close.ensures.others) in
    rw c.truncate.ensures.items (record {
      order = record {
        listed = c.run-ran.ensures.running.built;
        ended = e.2;
        rest = λ x.
            let r : tally x (filter (is_nowhere c.run-ran.new.spots) c.args.stuck.now.items) + tally x (filter (is_displaced c.run-ran.new.spots) c.run-ran.new.spare.items) + tally x T ≡ tally x nodes =
            rest_is (place_in c.run-ran.new.spots) (mark_in c.run-ran.new.spots) (place_in c.args.spots.now) T c.args.stuck.now.items c.run-ran.new.spare.items nodes x (s x) in
            let q : tally x c.close.new.stuck.items ≡ tally x (filter (is_nowhere c.run-ran.new.spots) c.args.stuck.now.items) + tally x (filter (is_displaced c.run-ran.new.spots) c.run-ran.new.spare.items) =
            subst (λ (l : List ℕ). tally x c.close.new.stuck.items ≡ tally x (filter (is_nowhere c.run-ran.new.spots) c.args.stuck.now.items) + tally x (filter (is_displaced c.run-ran.new.spots) l)) v (c.close.ensures.stuck x) in
            omega arith;
        by_rank = c.close.ensures.by_rank;
      };
      seated = seated;
    })

pub returns-then-ran-clause-looks : goal.returns-then-ran-clause-looks
returns-then-ran-clause-looks g c =
    let r = c.run-ran.ensures.running in
    let a = looked (g.G.SignalGraph.meaning c.args.graph.now) (nodes_of c.args.spots.now) c.args.chain.now.items (take c.run-ran.result.listed c.run-ran.new.chain.items) c.args.from c.run-ran.result.passed (place_in c.args.spots.now) (place_in c.run-ran.new.spots) (mark_in c.run-ran.new.spots) c.run-ran.new.heap.items c.run-ran.new.spare.items c.run-ran.ensures.running in
    let s = c.run-ran.ensures.steps in omega arith

pub returns-clause-looks : goal.returns-clause-looks
returns-clause-looks g c =
    let a = looked (g.G.SignalGraph.meaning c.args.graph.now) (nodes_of c.args.spots.now) c.args.chain.now.items (take c.run-ran.result.listed c.run-ran.new.chain.items) c.args.from c.run-ran.result.passed (place_in c.args.spots.now) (place_in c.run-ran.new.spots) (mark_in c.run-ran.new.spots) c.run-ran.new.heap.items c.run-ran.new.spare.items c.run-ran.ensures.running in
    let s = c.run-ran.ensures.steps in omega arith

pub returns-then-ran-clause-reached : goal.returns-then-ran-clause-reached
returns-then-ran-clause-reached g c =
    let G : Graph = g.G.SignalGraph.meaning c.args.graph.now in
    let nodes : List ℕ = nodes_of c.args.spots.now in
    let old : List ℕ = c.args.chain.now.items in
    let new : List ℕ = c.run-ran.new.chain.items in
    let T : List ℕ = take c.run-ran.result.listed new in
    let r = c.run-ran.ensures.running in
    let m = c.run-ran.ensures.met c.if-ran.true in
    let f = c.run-ran.ensures.met_far c.if-ran.true in
    let mt : IsMet G nodes old new c.args.from c.run-ran.result.listed (place_in c.args.spots.now) (place_in c.run-ran.new.spots) =
    met_is G nodes old new c.args.stuck.now.items c.args.from c.run-ran.result.passed c.run-ran.result.listed
    (place_in c.args.spots.now) (place_in c.run-ran.new.spots) (mark_in c.args.spots.now) (mark_in c.run-ran.new.spots) c.run-ran.new.heap.items c.run-ran.new.spare.items
    c.run-ran.ensures.running c.requires.old c.requires.beside c.run-ran.ensures.listed.1 c.run-ran.ensures.rest m.0 m.1 in
    reached_is G nodes old new T c.args.from c.run-ran.result.listed c.run-ran.result.passed c.run-ran.result.far (place_in c.args.spots.now) (place_in c.run-ran.new.spots) (mark_in c.args.spots.now) (mark_in c.run-ran.new.spots) c.run-ran.new.heap.items c.run-ran.new.spare.items
    _ c.args.steps.now c.run-ran.new.steps c.run-ran.ensures.running c.run-ran.ensures.traced refl c.run-ran.ensures.listed.1 c.run-ran.ensures.steps
    (inl (mt.high_old, passed_listed c.run-ran.result.passed c.run-ran.result.far c.run-ran.result.listed f, m.0, c.run-ran.ensures.last c.if-ran.true))

pub returns-clause-reached : goal.returns-clause-reached
returns-clause-reached g c =
    let G : Graph = g.G.SignalGraph.meaning c.args.graph.now in
    let nodes : List ℕ = nodes_of c.args.spots.now in
    let old : List ℕ = c.args.chain.now.items in
    let new : List ℕ = c.run-ran.new.chain.items in
    let T : List ℕ = take c.run-ran.result.listed new in
    let r = c.run-ran.ensures.running in
    let e = c.run-ran.ensures.ended c.if-ran.false in
    let lt : length T ≡ c.run-ran.result.listed = length-take-le c.run-ran.result.listed new c.run-ran.ensures.listed.1 in
    rw c.truncate.ensures.items (reached_is G nodes old T T c.args.from c.run-ran.result.listed c.run-ran.result.passed c.run-ran.result.far (place_in c.args.spots.now) (place_in c.run-ran.new.spots) (mark_in c.args.spots.now) (mark_in c.run-ran.new.spots) c.run-ran.new.heap.items c.run-ran.new.spare.items
    _ c.args.steps.now c.run-ran.new.steps c.run-ran.ensures.running c.run-ran.ensures.traced (take-take c.run-ran.result.listed c.run-ran.result.listed new (le_self c.run-ran.result.listed)) (omega arith) c.run-ran.ensures.steps
    (inr (e.1, sym lt, ended_reach G old T c.args.from c.run-ran.result.passed c.run-ran.result.listed c.run-ran.result.far (place_in c.args.spots.now) (mark_in c.args.spots.now) (mark_in c.run-ran.new.spots) c.run-ran.ensures.traced c.run-ran.ensures.listed.0 (c.run-ran.ensures.ended_far c.if-ran.false))))
