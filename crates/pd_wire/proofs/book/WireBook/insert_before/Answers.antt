use Rattle.std.proofs.Common.{◌≡◌, ◌≤◌, ◌∙◌, ℕ, sym, subst, length, get_or}
use Rattle.pd_wire.specs.Book.{fan_of, feeds_of, Adds}
use Rattle.pd_wire.proofs.Seen.{standing_key}
use Rattle.pd_wire.proofs.book.WireBook.insert_before.Goals as goal

pub link-key-requires-clause-fan : goal.link-key-requires-clause-fan
link-key-requires-clause-fan c =
    let q = c.requires.fan_next in
    let P : ℕ → Type 0 = λ s. (place : ℕ) × (place ≤ length (fan_of c.args.self.now s)) × (c.key_or-next_fan.result ≡ get_or (fan_of c.args.self.now s) place s) in
    subst P (sym c.source.view_is) (q.0, q.1.0, c.key_or-next_fan.ensures ∙ standing_key (fan_of c.args.self.now c.args.source) q.0 c.args.source c.args.fan_next q.1)

pub link-key-requires-clause-feed : goal.link-key-requires-clause-feed
link-key-requires-clause-feed c =
    let q = c.requires.feed_next in
    let P : ℕ → Type 0 = λ t. (place : ℕ) × (place ≤ length (feeds_of c.args.self.now t)) × (c.key_or-next_feed.result ≡ get_or (feeds_of c.args.self.now t) place t) in
    subst P (sym c.sink.view_is) (q.0, q.1.0, c.key_or-next_feed.ensures ∙ standing_key (feeds_of c.args.self.now c.args.sink) q.0 c.args.sink c.args.feed_next q.1)

pub returns : goal.returns
returns c = λ fan_place feed_place stands stands_fed.
    let b = c.args.self.now in
    let n = c.link-key.new.self in
    let f = c.key_or-next_fan.result in
    let d = c.key_or-next_feed.result in
    let K : ℕ → ℕ → Type 0 = λ s t. (p q : ℕ) → p ≤ length (fan_of b s) → f ≡ get_or (fan_of b s) p s → q ≤ length (feeds_of b t) → d ≡ get_or (feeds_of b t) q t → Adds b n c.link-key.result s p t q in
    let K1 : ℕ → Type 0 = λ s. K s c.args.sink in
    let K2 : ℕ → Type 0 = λ t. K c.source.inside.key t in
    let k : K c.args.source c.args.sink = subst K1 c.source.view_is (subst K2 c.sink.view_is c.link-key.ensures) in
    k fan_place feed_place
    stands.0 (c.key_or-next_fan.ensures ∙ standing_key (fan_of b c.args.source) fan_place c.args.source c.args.fan_next stands)
    stands_fed.0 (c.key_or-next_feed.ensures ∙ standing_key (feeds_of b c.args.sink) feed_place c.args.sink c.args.feed_next stands_fed)
