use Rattle.std.proofs.Common.{◌≡◌, ◌+◌, ℕ, subst, refl, [], None}
use Rattle.slab.specs.Slab.{Updates}
use Rattle.pd_wire.specs.Book.{Book, IsEnd, fan_of, feeds_of, DropsEnd}
use Rattle.pd_wire.specs.Stored.{book_of, IsSoundBook}
use Rattle.pd_wire.proofs.Changes.{drop_from}
use Rattle.pd_wire.proofs.book.WireBook.drop_end.Goals as goal

dropped : (c : goal.After-self-1) → IsSoundBook c.remove.new.self (c.self.inside.spare_ends + 1) c.self.inside.spare_wires × DropsEnd c.args.self.now (book_of c.remove.new.self (c.self.inside.spare_ends + 1) c.self.inside.spare_wires) c.args.end
dropped c =
    let gone = c.remove.ensures in
    let s = c.self.inside.nodes in
    let t = c.remove.new.self in
    let m = c.self.inside.spare_ends in
    let n = c.self.inside.spare_wires in
    let e = c.args.end in
    let K : ℕ → Type 0 = λ e. Updates s t e None in
    let P : Book → Type 0 = λ v. IsEnd v e → fan_of v e ≡ [] → feeds_of v e ≡ [] → IsSoundBook t (m + 1) n × DropsEnd v (book_of t (m + 1) n) e in
    subst P c.self.view_is (λ h f g. drop_from s t m (m + 1) n e c.self.invariant refl h f g (subst K c.end.view_is gone.updates) gone.len gone.capacity) c.requires.end c.requires.no_fan c.requires.no_feeds

pub invariant_of-self : goal.invariant_of-self
invariant_of-self c = (dropped c).0

pub returns : goal.returns
returns c = (dropped c).1
