use Rattle.std.proofs.Common.{◌≡◌, ℕ, ◌+◌, ◌<◌, ◌≤◌, [], ◌∷◌, length, arith, sym, ◌∙◌, refl}
use Rattle.std.specs.List.{filter}
use Rattle.pd_order.specs.Graph.{tally}
use Rattle.pd_order.specs.Spots.{nodes_of, is_displaced}
use Rattle.pd_order.proofs.SpotLemmas.{length-nodes}
use Rattle.pd_order.proofs.SettleLemmas.{room_for}
use Rattle.pd_order.proofs.settle.gather_one.Goals as goal

pub stick-requires-clause-room : goal.stick-requires-clause-room
stick-requires-clause-room g c =
    let f : (x : ℕ) → tally x (c.args.node ∷ c.args.stuck.now.items) ≤ tally x (nodes_of c.args.spots.now) = λ x.
    (let a = c.requires.fit x in let b : filter (is_displaced c.args.spots.now) (c.args.node ∷ []) ≡ c.args.node ∷ [] = rw (sym c.leaves.ensures ∙ c.if-leaves.true) refl in
    let d : tally x c.args.stuck.now.items + tally x (c.args.node ∷ []) ≤ tally x (nodes_of c.args.spots.now) = rw b at a in omega arith) in
    let k : length c.args.stuck.now.items < length (nodes_of c.args.spots.now) = room_for c.args.node c.args.stuck.now.items (nodes_of c.args.spots.now) c.requires.lawful.once f in
    let n : length (nodes_of c.args.spots.now) ≡ length c.args.spots.now = length-nodes c.args.spots.now in
    let o = c.args.stuck.now.ok in let r = c.requires.room in omega arith
