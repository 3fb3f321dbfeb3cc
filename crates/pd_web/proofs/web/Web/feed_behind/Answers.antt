use Rattle.std.proofs.Common.{◌≡◌, ℕ, Some, subst}
use Rattle.pd_wire.specs.Book.{IsPrevious, wire_at, feeds_of}
use Rattle.pd_web.proofs.web.Web.feed_behind.Goals as goal

pub returns : goal.returns
returns c = λ source sink h.
    let P : ℕ → Type 0 = λ n. wire_at c.args.self.now.book n ≡ Some (source, sink) → IsPrevious (feeds_of c.args.self.now.book sink) n c.feed_before.result in
    subst P c.key.ensures (c.feed_before.ensures source sink) h
