use Rattle.std.proofs.Common.{◌≡◌, ◌+◌, ℕ, subst, refl}
use Rattle.pd_wire.specs.Book.{Book, IsWire, Cuts, fan_of, feeds_of, without}
use Rattle.pd_wire.specs.Stored.{book_of, IsSoundBook, Removes}
use Rattle.pd_wire.proofs.Seen.{seen, wire_is}
use Rattle.pd_wire.proofs.Changes.{cut_from}
use Rattle.pd_wire.proofs.Cutting.{fans_without, feeds_without}
use Rattle.pd_wire.proofs.book.WireBook.cut.Goals as goal

gone : (c : goal.After-self-1) → Removes c.self.inside.nodes c.remove_node.new.nodes c.args.key
gone c = let K : ℕ → Type 0 = λ k. Removes c.self.inside.nodes c.remove_node.new.nodes k in subst K c.key.view_is c.remove_node.ensures

removed : (c : goal.After-self-1) → IsSoundBook c.remove_node.new.nodes c.self.inside.spare_ends (c.self.inside.spare_wires + 1) × ((source p sink q : ℕ) × Cuts c.args.self.now (book_of c.remove_node.new.nodes c.self.inside.spare_ends (c.self.inside.spare_wires + 1)) c.args.key source p sink q)
removed c =
    let t = c.remove_node.new.nodes in
    let m = c.self.inside.spare_ends in
    let n = c.self.inside.spare_wires in
    let P : Book → Type 0 = λ v. IsWire v c.args.key → IsSoundBook t m (n + 1) × ((source p sink q : ℕ) × Cuts v (book_of t m (n + 1)) c.args.key source p sink q) in
    subst P c.self.view_is (cut_from c.self.inside.nodes t m n (n + 1) c.args.key c.self.invariant refl (gone c)) c.requires

pub invariant_of-self : goal.invariant_of-self
invariant_of-self c = (removed c).0

pub returns-clause-cuts : goal.returns-clause-cuts
returns-clause-cuts c = (removed c).1

pub returns-clause-fans : goal.returns-clause-fans
returns-clause-fans c =
    let s = c.self.inside.nodes in
    let t = c.remove_node.new.nodes in
    let P : Book → Type 0 = λ v. IsWire v c.args.key → (e : ℕ) → fan_of (seen t) e ≡ without c.args.key (fan_of v e) in
    subst P c.self.view_is (λ w. fans_without s t c.args.key c.self.invariant.links (wire_is s c.args.key w) (gone c)) c.requires

pub returns-clause-feeds : goal.returns-clause-feeds
returns-clause-feeds c =
    let s = c.self.inside.nodes in
    let t = c.remove_node.new.nodes in
    let P : Book → Type 0 = λ v. IsWire v c.args.key → (e : ℕ) → feeds_of (seen t) e ≡ without c.args.key (feeds_of v e) in
    subst P c.self.view_is (λ w. feeds_without s t c.args.key c.self.invariant.links (wire_is s c.args.key w) (gone c)) c.requires
