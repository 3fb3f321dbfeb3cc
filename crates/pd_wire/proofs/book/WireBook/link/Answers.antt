use Rattle.std.proofs.Common.{◌≡◌, ◌+◌, ◌-◌, ℕ, ◌≤◌, ◌∙◌, ap, sym, subst, length, get_or, true, arith}
use Rattle.slab.specs.Slab.{ContainsKey}
use Rattle.pd_wire.specs.Links.{fan_at, feed_at, is_end, list_of}
use Rattle.pd_wire.specs.Book.{Book, IsEnd, fan_of, feeds_of, Adds}
use Rattle.pd_wire.specs.Stored.{book_of, IsSoundBook}
use Rattle.pd_wire.proofs.Nodes.{place_lives, before_place_lives}
use Rattle.pd_wire.proofs.Seen.{end_is, fan_is, feeds_is, list_fits}
use Rattle.pd_wire.proofs.Changes.{insert_from}
use Rattle.pd_wire.proofs.book.WireBook.link.Goals as goal

source_end : (c : goal.After-insert_node-arg-1) → is_end c.self.inside.nodes c.args.source ≡ true
source_end c = let P : Book → Type 0 = λ v. IsEnd v c.args.source in end_is c.self.inside.nodes c.args.source (subst P (sym c.self.view_is) c.requires.source)

sink_end : (c : goal.After-insert_node-arg-1) → is_end c.self.inside.nodes c.args.sink ≡ true
sink_end c = let P : Book → Type 0 = λ v. IsEnd v c.args.sink in end_is c.self.inside.nodes c.args.sink (subst P (sym c.self.view_is) c.requires.sink)

abbrev fan_place : (c : goal.After-insert_node-arg-1) → ℕ
fan_place c = c.requires.fan.0

abbrev feed_place : (c : goal.After-insert_node-arg-1) → ℕ
feed_place c = c.requires.feed.0

fan_within : (c : goal.After-insert_node-arg-1) → fan_place c ≤ length (list_of (fan_at c.self.inside.nodes) c.args.source)
fan_within c = let e : length (fan_of c.args.self.now c.args.source) ≡ length (list_of (fan_at c.self.inside.nodes) c.args.source) = ap (λ v. length (fan_of v c.args.source)) (sym c.self.view_is) ∙ ap length (fan_is c.self.inside.nodes c.args.source (source_end c)) in omega (arith, c.requires.fan.1)

feed_within : (c : goal.After-insert_node-arg-1) → feed_place c ≤ length (list_of (feed_at c.self.inside.nodes) c.args.sink)
feed_within c = let e : length (feeds_of c.args.self.now c.args.sink) ≡ length (list_of (feed_at c.self.inside.nodes) c.args.sink) = ap (λ v. length (feeds_of v c.args.sink)) (sym c.self.view_is) ∙ ap length (feeds_is c.self.inside.nodes c.args.sink (sink_end c)) in omega (arith, c.requires.feed.1)

fan_key : (c : goal.After-insert_node-arg-1) → c.args.next_fan ≡ get_or (list_of (fan_at c.self.inside.nodes) c.args.source) (fan_place c) c.args.source
fan_key c = c.requires.fan.2 ∙ ap (λ v. get_or (fan_of v c.args.source) (fan_place c) c.args.source) (sym c.self.view_is) ∙ ap (λ xs. get_or xs (fan_place c) c.args.source) (fan_is c.self.inside.nodes c.args.source (source_end c))

feed_key : (c : goal.After-insert_node-arg-1) → c.args.next_feed ≡ get_or (list_of (feed_at c.self.inside.nodes) c.args.sink) (feed_place c) c.args.sink
feed_key c = c.requires.feed.2 ∙ ap (λ v. get_or (feeds_of v c.args.sink) (feed_place c) c.args.sink) (sym c.self.view_is) ∙ ap (λ xs. get_or xs (feed_place c) c.args.sink) (feeds_is c.self.inside.nodes c.args.sink (sink_end c))

pub insert_node-key-requires-clause-next_fan : goal.insert_node-key-requires-clause-next_fan
insert_node-key-requires-clause-next_fan c =
    let s = c.self.inside.nodes in
    let P : ℕ → Type 0 = λ x. ContainsKey s x in
    subst P (sym (fan_key c)) (place_lives s (fan_at s) (list_of (fan_at s)) c.args.source (fan_place c) c.self.invariant.links.fans (source_end c))

pub insert_node-key-requires-clause-last_fan : goal.insert_node-key-requires-clause-last_fan
insert_node-key-requires-clause-last_fan c =
    let s = c.self.inside.nodes in
    let P : ℕ → Type 0 = λ x. ContainsKey s (fan_at s x).before in
    subst P (sym (fan_key c)) (before_place_lives s (fan_at s) (list_of (fan_at s)) c.args.source (fan_place c) c.self.invariant.links.fans (source_end c) (fan_within c))

pub insert_node-key-requires-clause-fan_count : goal.insert_node-key-requires-clause-fan_count
insert_node-key-requires-clause-fan_count c =
    let s = c.self.inside.nodes in
    omega (arith, list_fits s (fan_at s) (list_of (fan_at s)) c.args.source c.self.invariant.links.fans (source_end c), c.capacity-most.ensures.slots)

pub insert_node-key-requires-clause-next_feed : goal.insert_node-key-requires-clause-next_feed
insert_node-key-requires-clause-next_feed c =
    let s = c.self.inside.nodes in
    let P : ℕ → Type 0 = λ x. ContainsKey s x in
    subst P (sym (feed_key c)) (place_lives s (feed_at s) (list_of (feed_at s)) c.args.sink (feed_place c) c.self.invariant.links.feeds (sink_end c))

pub insert_node-key-requires-clause-last_feed : goal.insert_node-key-requires-clause-last_feed
insert_node-key-requires-clause-last_feed c =
    let s = c.self.inside.nodes in
    let P : ℕ → Type 0 = λ x. ContainsKey s (feed_at s x).before in
    subst P (sym (feed_key c)) (before_place_lives s (feed_at s) (list_of (feed_at s)) c.args.sink (feed_place c) c.self.invariant.links.feeds (sink_end c) (feed_within c))

pub insert_node-key-requires-clause-feed_count : goal.insert_node-key-requires-clause-feed_count
insert_node-key-requires-clause-feed_count c =
    let s = c.self.inside.nodes in
    omega (arith, list_fits s (feed_at s) (list_of (feed_at s)) c.args.sink c.self.invariant.links.feeds (sink_end c), c.capacity-most.ensures.slots)

inserted : (c : goal.After-self-1) (p q : ℕ) → p ≤ length (fan_of c.args.self.now c.args.source) → c.args.next_fan ≡ get_or (fan_of c.args.self.now c.args.source) p c.args.source
    → q ≤ length (feeds_of c.args.self.now c.args.sink) → c.args.next_feed ≡ get_or (feeds_of c.args.self.now c.args.sink) q c.args.sink
    → IsSoundBook c.insert_node-key.new.nodes c.self.inside.spare_ends (c.self.inside.spare_wires - 1) × Adds c.args.self.now (book_of c.insert_node-key.new.nodes c.self.inside.spare_ends (c.self.inside.spare_wires - 1)) c.insert_node-key.result c.args.source p c.args.sink q
inserted c p q =
    let s = c.self.inside.nodes in
    let t = c.insert_node-key.new.nodes in
    let m = c.self.inside.spare_ends in
    let n = c.self.inside.spare_wires in
    let key = c.insert_node-key.result in
    let source = c.args.source in
    let sink = c.args.sink in
    let less : n - 1 + 1 ≡ n = omega (arith, ap (λ (b : Book). b.spare_wires) c.self.view_is, c.requires.room) in
    let P : Book → Type 0 = λ v. IsEnd v source → IsEnd v sink → p ≤ length (fan_of v source) → c.args.next_fan ≡ get_or (fan_of v source) p source → q ≤ length (feeds_of v sink) → c.args.next_feed ≡ get_or (feeds_of v sink) q sink
    → IsSoundBook t m (n - 1) × Adds v (book_of t m (n - 1)) key source p sink q in
    subst P c.self.view_is (λ hs hk lp ep lq eq.
    insert_from s t m n (n - 1) key source p c.args.next_fan sink q c.args.next_feed c.self.invariant less c.insert_node-key.ensures
    (ep ∙ ap (λ xs. get_or xs p source) (fan_is s source (end_is s source hs))) (eq ∙ ap (λ xs. get_or xs q sink) (feeds_is s sink (end_is s sink hk))) hs lp hk lq)
    c.requires.source c.requires.sink

pub invariant_of-self : goal.invariant_of-self
invariant_of-self c = (inserted c c.requires.fan.0 c.requires.feed.0 c.requires.fan.1 c.requires.fan.2 c.requires.feed.1 c.requires.feed.2).0

pub returns : goal.returns
returns c = λ p q lp ep lq eq. (inserted c p q lp ep lq eq).1
