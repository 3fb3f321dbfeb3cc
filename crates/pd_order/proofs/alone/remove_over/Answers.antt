use Rattle.std.proofs.Common.{◌≡◌, ℕ, ◌+◌, ◌<◌, List, ◌∷◌, ◌++◌, length, map, get_or, take, drop, arith, sym, ◌∙◌, ap, subst}
use Rattle.pd_order.specs.declared.spots.Spot.{Spot}
use Rattle.pd_order.specs.Graph.{tally}
use Rattle.pd_order.specs.Spots.{nodes_of, place_in, mark_in, nowhere, reseated, place_lowered}
use Rattle.pd_order.specs.Listing.{IsListed}
use Rattle.pd_order.proofs.RunLemmas.{not_in_front}
use Rattle.pd_order.proofs.AloneLemmas.{take_out_at}
use Rattle.pd_order.proofs.SeatLemmas.{unmarked_without}
use Rattle.pd_order.proofs.ShiftLemmas.{closed_up, nodes_reseated}
use Rattle.pd_order.proofs.alone.remove_over.Goals as goal

pub returns-clause-chain : goal.returns-clause-chain
returns-clause-chain c =
    let C : List ℕ = c.args.chain.now.items in
    let ss : List Spot = c.args.spots.now.items in
    let p : ℕ = c.place-at.result in
    let y : ℕ = c.args.node in
    let D : List ℕ = take p C ++ drop (p + 1) C in
    let q : p ≡ place_in ss y = subst (λ (l : List Spot). p ≡ place_in l y) c.as_slice.ensures.value c.place-at.ensures in
    let at : (p < length C) × (get_or C p 0 ≡ y) = subst (λ (k : ℕ). (k < length C) × (get_or C k 0 ≡ y)) (sym q) (c.requires.listed.seated.placed y c.requires.there) in
    let lp : p < length C = at.0 in
    let e : c.remove.new.self.items ≡ D = c.remove.ensures.by_index.2 in
    let z : tally y (take p C) ≡ 0 = subst (λ (v : ℕ). tally v (take p C) ≡ 0) at.1 (not_in_front C p p c.requires.once (omega arith) lp) in
    e ∙ sym (take_out_at y C p lp at.1 z)

pub returns-clause-listed : goal.returns-clause-listed
returns-clause-listed c =
    let C : List ℕ = c.args.chain.now.items in
    let ss : List Spot = c.args.spots.now.items in
    let p : ℕ = c.place-at.result in
    let y : ℕ = c.args.node in
    let D : List ℕ = take p C ++ drop (p + 1) C in
    let q : p ≡ place_in ss y = subst (λ (l : List Spot). p ≡ place_in l y) c.as_slice.ensures.value c.place-at.ensures in
    let at : (p < length C) × (get_or C p 0 ≡ y) = subst (λ (k : ℕ). (k < length C) × (get_or C k 0 ≡ y)) (sym q) (c.requires.listed.seated.placed y c.requires.there) in
    let e : c.remove.new.self.items ≡ D = c.remove.ensures.by_index.2 in
    let us : List Spot = c.remove_spot.new.spots.items in
    let few : length us < nowhere = (let a = c.remove_spot.ensures.len in let b = c.requires.listed.few in let ok = c.args.spots.now.ok in let ok2 = c.remove_spot.new.spots.ok in omega arith) in
    let marks : (x : ℕ) → mark_in us x ≡ 0 = unmarked_without (mark_in ss) (mark_in us) y c.requires.listed.unmarked c.remove_spot.ensures.mark in
    subst (λ (l : List Spot). IsListed c.remove.new.self.items c.args.stuck.now l) (sym c.close_up.ensures.items)
    (subst (λ (l : List ℕ). IsListed l c.args.stuck.now (map (reseated (place_lowered p)) us)) (sym e)
    (closed_up C c.args.stuck.now ss us y p c.requires.listed c.requires.once at.0 at.1 c.remove_spot.ensures.by_node c.remove_spot.ensures.nodes marks few c.remove_spot.ensures.place))

pub returns-clause-nodes : goal.returns-clause-nodes
returns-clause-nodes c = λ x.
    let us : List Spot = c.remove_spot.new.spots.items in
    let f : ℕ → ℕ = place_lowered c.place-at.result in
    c.remove_spot.ensures.nodes x ∙ ap (λ (v : List ℕ). tally x (c.args.node ∷ v)) (sym (nodes_reseated f us) ∙ ap nodes_of (sym c.close_up.ensures.items))
