use Rattle.std.proofs.Common.{◌≡◌, ℕ, ◌<◌, List, length, get_or, arith, sym, ◌∙◌, subst}
use Rattle.pd_order.specs.declared.spots.Spot.{Spot}
use Rattle.pd_order.specs.Listing.{Listing}
use Rattle.pd_order.specs.Graph.{tally}
use Rattle.pd_order.specs.Spots.{place_in, nowhere}
use Rattle.pd_order.proofs.Basics.{zero_or}
use Rattle.pd_order.proofs.MendLemmas.{listed_short}
use Rattle.pd_order.proofs.RemoveLemmas.{placed_at}
use Rattle.pd_order.proofs.order.Order.place_of.Goals as goal

pub returns-then-at-clause-none : goal.returns-then-at-clause-none
returns-then-at-clause-none c =
    let C : List ℕ = c.self.inside.chain.vec.items in
    let short : length C < nowhere = listed_short C c.self.inside.stuck.vec.items c.self.inside.spots.vec.items c.self.invariant.listed in
    let e : place_in c.self.inside.spots.vec.items c.args.node ≡ nowhere = subst (λ (ss : List Spot). place_in ss c.args.node ≡ nowhere) c.as_slice.ensures.value (sym c.seek_place-at.ensures ∙ c.if-at.true) in
    let z : tally c.args.node C ≡ 0 = zero_or (tally c.args.node C) (λ l. let p : place_in c.self.inside.spots.vec.items c.args.node < length C = (c.self.invariant.listed.seated.placed c.args.node l).0 in absurd (omega arith)) in
    subst (λ (v : Listing). tally c.args.node v.chain ≡ 0) c.self.view_is z

pub returns-else-at-clause-some : goal.returns-else-at-clause-some
returns-else-at-clause-some c =
    let C : List ℕ = c.self.inside.chain.vec.items in
    let e : c.seek_place-at.result ≡ place_in c.self.inside.spots.vec.items c.args.node = subst (λ (ss : List Spot). c.seek_place-at.result ≡ place_in ss c.args.node) c.as_slice.ensures.value c.seek_place-at.ensures in
    let p : (place_in c.self.inside.spots.vec.items c.args.node < length C) × (get_or C (place_in c.self.inside.spots.vec.items c.args.node) 0 ≡ c.args.node) =
    placed_at C c.self.inside.stuck.vec.items c.self.inside.spots.vec.items c.args.node c.self.invariant.listed (λ q. c.if-at.false (e ∙ q)) in
    subst (λ (v : Listing). (c.seek_place-at.result < length v.chain) × (get_or v.chain c.seek_place-at.result 0 ≡ c.args.node)) c.self.view_is
    (subst (λ (k : ℕ). (k < length C) × (get_or C k 0 ≡ c.args.node)) (sym e) p)
