use Rattle.std.proofs.Common.{◌≡◌, ℕ, subst, Some}
use Rattle.pd_wire.specs.Book.{Book, wire_at, fan_of, IsNext}
use Rattle.pd_wire.specs.Links.{fan_at, list_of}
use Rattle.pd_wire.proofs.Seen.{fan_next_seen}
use Rattle.pd_wire.proofs.book.WireBook.fan_next.Goals as goal

pub returns : goal.returns
returns c = λ source sink w.
    let s = c.self.inside.nodes in
    let P : Book → Type 0 = λ v. wire_at v c.args.key ≡ Some (source, sink) → IsNext (fan_of v source) c.args.key c.next.result in
    let K : ℕ → Type 0 = λ k. IsNext (list_of (fan_at s) (fan_at s k).owner) k c.next.result in
    subst P c.self.view_is (λ w. fan_next_seen s c.args.key source sink c.next.result c.self.invariant.links w (subst K c.key.view_is c.next.ensures)) w
