use Rattle.std.proofs.Common.{subst}
use Rattle.pd_wire.specs.Book.{Book, IsLinked}
use Rattle.pd_wire.proofs.Seen.{linked_from}
use Rattle.pd_wire.proofs.book.WireBook.laws.Goals as goal

pub returns : goal.returns
returns c =
    let P : Book → Type 0 = λ v. IsLinked v in
    subst P c.self.view_is (linked_from c.self.inside.nodes c.self.inside.spare_ends c.self.inside.spare_wires c.self.invariant.links)
