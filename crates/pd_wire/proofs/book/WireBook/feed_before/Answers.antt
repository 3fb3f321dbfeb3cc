use Rattle.std.proofs.Common.{◌≡◌, ℕ, subst, Some}
use Rattle.pd_wire.specs.Book.{Book, wire_at, feeds_of, IsPrevious}
use Rattle.pd_wire.specs.Links.{feed_at, list_of}
use Rattle.pd_wire.proofs.Seen.{feed_before_seen}
use Rattle.pd_wire.proofs.book.WireBook.feed_before.Goals as goal

pub returns : goal.returns
returns c = λ source sink w.
    let s = c.self.inside.nodes in
    let P : Book → Type 0 = λ v. wire_at v c.args.key ≡ Some (source, sink) → IsPrevious (feeds_of v sink) c.args.key c.previous.result in
    let K : ℕ → Type 0 = λ k. IsPrevious (list_of (feed_at s) (feed_at s k).owner) k c.previous.result in
    subst P c.self.view_is (λ w. feed_before_seen s c.args.key source sink c.previous.result c.self.invariant.links w (subst K c.key.view_is c.previous.ensures)) w
