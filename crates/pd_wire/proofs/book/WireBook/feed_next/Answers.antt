use Rattle.std.proofs.Common.{◌≡◌, ℕ, subst, Some}
use Rattle.pd_wire.specs.Book.{Book, wire_at, feeds_of, IsNext}
use Rattle.pd_wire.specs.Links.{feed_at, list_of}
use Rattle.pd_wire.proofs.Seen.{feed_next_seen}
use Rattle.pd_wire.proofs.book.WireBook.feed_next.Goals as goal

pub returns : goal.returns
returns c = λ source sink w.
    let s = c.self.inside.nodes in
    let P : Book → Type 0 = λ v. wire_at v c.args.key ≡ Some (source, sink) → IsNext (feeds_of v sink) c.args.key c.next.result in
    let K : ℕ → Type 0 = λ k. IsNext (list_of (feed_at s) (feed_at s k).owner) k c.next.result in
    subst P c.self.view_is (λ w. feed_next_seen s c.args.key source sink c.next.result c.self.invariant.links w (subst K c.key.view_is c.next.ensures)) w
