-- A box that joins an order or leaves it, in a graph in which it has no wires.
use Rattle.std.proofs.Common.{arith, ◌≡◌, ℕ, ◌+◌, ◌<◌, ◌≤◌, ◌==◌, true, cond, List, [], ◌∷◌, ◌++◌, length, length-append, refl, sym, ap, ◌∙◌, subst}
use Rattle.pd_order.specs.declared.spots.Spot.{Spot}
use Rattle.pd_order.specs.Graph.{Graph, tally, take_out, IsAlone, IsLawful, IsOrder}
use Rattle.pd_order.specs.Listing.{Listing, IsListed}
use Rattle.pd_order.specs.Spots.{nodes_of}
use Rattle.pd_order.proofs.Basics.{same_test, length_le, tally-append}
use Rattle.pd_order.proofs.MendLemmas.{order_nodes}
use Rattle.pd_order.proofs.SpotLemmas.{length-nodes, nodes_once}
use Rattle.pd_wiring.proofs.MendLemmas.{spots_are, lawful_nodes}
use Rattle.pd_placing.specs.Room.{TakesMore}
use Rattle.pd_placing.proofs.ListLemmas.{out_counted}

-- How many boxes an order has.

same_length : (xs ys : List ℕ) → ((x : ℕ) → tally x ys ≤ 1) → ((x : ℕ) → tally x xs ≡ tally x ys) → length xs ≡ length ys
same_length xs ys once e =
    let a : length xs ≤ length ys = length_le xs ys (λ x. let o = once x in let q = e x in omega (arith, o, q)) (λ x h. let q = e x in omega (arith, h, q)) in
    let b : length ys ≤ length xs = length_le ys xs once (λ x h. let q = e x in omega (arith, h, q)) in omega (arith, a, b)

-- one spot more
one_longer : (fewer more : Listing) (k : ℕ) → ((x : ℕ) → tally x (k ∷ nodes_of fewer.spots) ≤ 1) → ((x : ℕ) → tally x (nodes_of more.spots) ≡ tally x (k ∷ nodes_of fewer.spots))
    → length more.spots ≡ length fewer.spots + 1
one_longer fewer more k once e =
    let same : length (nodes_of more.spots) ≡ length (k ∷ nodes_of fewer.spots) = same_length (nodes_of more.spots) (k ∷ nodes_of fewer.spots) once e in
    let a = length-nodes more.spots in
    let b = length-nodes fewer.spots in omega (arith, same, a, b)

-- an order has as many spots as boxes in its two lists
pub counted_spots : (o : Listing) → IsListed o.chain o.stuck o.spots → length o.spots ≤ length o.chain + length o.stuck
counted_spots o listed =
    let both : length (nodes_of o.spots) ≤ length (o.chain ++ o.stuck) = length_le (nodes_of o.spots) (o.chain ++ o.stuck) (λ x. nodes_once o.spots x listed.by_node)
    (λ x h. let e = listed.listed x in let s = tally-append x o.chain o.stuck in omega (arith, h, e, s)) in
    let a = length-nodes o.spots in
    let b = length-append o.chain o.stuck in omega (arith, both, a, b)

-- room is left where one of the boxes for which there was room has joined
pub room_joined : (old new : Listing) (k n : ℕ) → ((x : ℕ) → tally x (k ∷ nodes_of old.spots) ≤ 1) → ((x : ℕ) → tally x (nodes_of new.spots) ≡ tally x (k ∷ nodes_of old.spots)) → new.room ≡ old.room
    → TakesMore old (n + 1) → TakesMore new n
room_joined old new k n once e room h = let more = one_longer old new k once e in let a = h.room in let b = h.few in
    record { room = omega (arith, more, a, room); few = omega (arith, more, b) }

-- and there is room for one more where a box has left
pub room_left : (old new : Listing) (k n : ℕ) → IsListed old.chain old.stuck old.spots → ((x : ℕ) → tally x (nodes_of old.spots) ≡ tally x (k ∷ nodes_of new.spots)) → new.room ≡ old.room
    → TakesMore old n → TakesMore new (n + 1)
room_left old new k n listed e room h =
    let more = one_longer new old k (λ x. let q = e x in let o = nodes_once old.spots x listed.by_node in omega (arith, o, q)) e in let a = h.room in let b = h.few in
    record { room = omega (arith, more, a, room); few = omega (arith, more, b) }

-- A box joins.

module _ (g : Graph) (k : ℕ) (ns : List ℕ) (o : Listing) (law : IsLawful g ns) (there : 0 < tally k ns) (order : IsOrder g (take_out k ns) o.chain o.stuck) (listed : IsListed o.chain o.stuck o.spots) where
  rest_are : (x : ℕ) → tally x (take_out k ns) ≡ tally x (nodes_of o.spots)
  rest_are x = spots_are g (take_out k ns) o order listed x

  all_are : (x : ℕ) → tally x ns ≡ tally x (k ∷ nodes_of o.spots)
  all_are x = let a = out_counted k ns there x in let b = rest_are x in omega (arith, a, b)

  pub joins_fresh : tally k (nodes_of o.spots) ≡ 0
  joins_fresh =
      let a : tally k ns ≡ cond (k == k) 1 0 + tally k (nodes_of o.spots) = all_are k in
      let b : tally k ns ≡ 1 + tally k (nodes_of o.spots) = rw (same_test k) at a in
      let once = law.once k in omega (arith, b, once)

  pub joins_lawful : IsLawful g (k ∷ nodes_of o.spots)
  joins_lawful = lawful_nodes g ns (k ∷ nodes_of o.spots) all_are law

  pub joins_order : IsOrder g (nodes_of o.spots) o.chain o.stuck
  joins_order = order_nodes g (take_out k ns) (nodes_of o.spots) o.chain o.stuck rest_are order

  pub joins_last : ((x : ℕ) → 0 < tally x (take_out k ns) → g.rank x < g.rank k) → (x : ℕ) → 0 < tally x (nodes_of o.spots) → g.rank x < g.rank k
  joins_last h x l = let e = rest_are x in h x (omega (arith, e, l))

  pub joined_order : (chain stuck : List ℕ) → IsOrder g (k ∷ nodes_of o.spots) chain stuck → IsOrder g ns chain stuck
  joined_order chain stuck h = order_nodes g (k ∷ nodes_of o.spots) ns chain stuck (λ x. sym (all_are x)) h

-- A box leaves.

module _ (g : Graph) (k : ℕ) (ns : List ℕ) (o : Listing) (law : IsLawful g ns) (alone : IsAlone g k) (there : 0 < tally k ns) (order : IsOrder g ns o.chain o.stuck) (listed : IsListed o.chain o.stuck o.spots) where
  nodes_are : (x : ℕ) → tally x ns ≡ tally x (nodes_of o.spots)
  nodes_are x = spots_are g ns o order listed x

  pub leaves_there : 0 < tally k (nodes_of o.spots)
  leaves_there = let e = nodes_are k in omega (arith, e, there)

  pub leaves_lawful : IsLawful g (nodes_of o.spots)
  leaves_lawful = lawful_nodes g ns (nodes_of o.spots) nodes_are law

  pub leaves_order : IsOrder g (nodes_of o.spots) o.chain o.stuck
  leaves_order = order_nodes g ns (nodes_of o.spots) o.chain o.stuck nodes_are order

  pub leaves_alone : (h : Graph) × IsOrder h (nodes_of o.spots) o.chain o.stuck × IsAlone h k
  leaves_alone = (g, leaves_order, alone)

  pub left_order : (chain stuck : List ℕ) (spots : List Spot) → ((x : ℕ) → tally x (nodes_of o.spots) ≡ tally x (k ∷ nodes_of spots)) → IsOrder g (nodes_of spots) chain stuck → IsOrder g (take_out k ns) chain stuck
  left_order chain stuck spots e h = order_nodes g (nodes_of spots) (take_out k ns) chain stuck
      (λ x. let a = out_counted k ns there x in let b = nodes_are x in let d = e x in omega (arith, a, b, d)) h
