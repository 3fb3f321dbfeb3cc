use Rattle.std.proofs.Common.{◌≡◌, ◌≤◌, ◌∙◌, ℕ, sym, subst, length, get_or, arith}
use Rattle.std.proofs.lemmas.List.{get_or_past}
use Rattle.pd_wire.specs.Book.{fan_of, feeds_of, Adds}
use Rattle.pd_wire.proofs.Seen.{standing_key}
use Rattle.pd_wire.proofs.book.WireBook.add_before.Goals as goal

self_le : (n : ℕ) → n ≤ n
self_le n = omega arith

pub link-key-requires-clause-fan : goal.link-key-requires-clause-fan
link-key-requires-clause-fan c =
    let e = c.source.inside.key in
    let xs = fan_of c.args.self.now e in
    (length xs, self_le (length xs), sym (get_or_past xs (length xs) e (self_le (length xs))))

pub link-key-requires-clause-feed : goal.link-key-requires-clause-feed
link-key-requires-clause-feed c =
    let q = c.requires.next in
    let P : ℕ → Type 0 = λ t. (place : ℕ) × (place ≤ length (feeds_of c.args.self.now t)) × (c.key_or.result ≡ get_or (feeds_of c.args.self.now t) place t) in
    subst P (sym c.sink.view_is) (q.0, q.1.0, c.key_or.ensures ∙ standing_key (feeds_of c.args.self.now c.args.sink) q.0 c.args.sink c.args.next q.1)

pub returns : goal.returns
returns c = λ place stands.
    let b = c.args.self.now in
    let n = c.link-key.new.self in
    let K : ℕ → ℕ → Type 0 = λ s t. (p q : ℕ) → p ≤ length (fan_of b s) → s ≡ get_or (fan_of b s) p s → q ≤ length (feeds_of b t) → c.key_or.result ≡ get_or (feeds_of b t) q t → Adds b n c.link-key.result s p t q in
    let K1 : ℕ → Type 0 = λ s. K s c.args.sink in
    let K2 : ℕ → Type 0 = λ t. K c.source.inside.key t in
    let k : K c.args.source c.args.sink = subst K1 c.source.view_is (subst K2 c.sink.view_is c.link-key.ensures) in
    let xs = fan_of b c.args.source in
    k (length xs) place (self_le (length xs)) (sym (get_or_past xs (length xs) c.args.source (self_le (length xs))))
    stands.0 (c.key_or.ensures ∙ standing_key (feeds_of b c.args.sink) place c.args.sink c.args.next stands)
