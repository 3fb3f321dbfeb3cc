use Rattle.std.proofs.Common.{◌≡◌, ◌+◌, ◌-◌, ◌∙◌, ap, sym, refl, subst, arith}
use Rattle.pd_wire.specs.Book.{Book, MakesEnd}
use Rattle.pd_wire.specs.Stored.{book_of, IsSoundBook, lone}
use Rattle.pd_wire.proofs.Changes.{sound_make}
use Rattle.pd_wire.proofs.book.WireBook.make_end.Goals as goal

made : (c : goal.After-self-1) → IsSoundBook c.insert_reserved-key.new.self (c.self.inside.spare_ends - 1) c.self.inside.spare_wires × MakesEnd c.args.self.now (book_of c.insert_reserved-key.new.self (c.self.inside.spare_ends - 1) c.self.inside.spare_wires) c.insert_reserved-key.result
made c =
    let new = c.insert_reserved-key.ensures in
    let key = c.insert_reserved-key.result in
    let s = c.self.inside.nodes in
    let t = c.insert_reserved-key.new.self in
    let m = c.self.inside.spare_ends in
    let n = c.self.inside.spare_wires in
    let same : c.vacant_key-key.result ≡ key = c.vacant_key-key.ensures.value ∙ sym new.key in
    let less : m - 1 + 1 ≡ m = omega (arith, ap (λ (b : Book). b.spare_ends) c.self.view_is, c.requires) in
    let P : Book → Type 0 = λ v. IsSoundBook t (m - 1) n × MakesEnd v (book_of t (m - 1) n) key in
    subst P c.self.view_is (sound_make s t m (m - 1) n key _ c.self.invariant less new.was_vacant new.updates refl (ap lone same) (ap lone same) new.len new.capacity)

pub invariant_of-self : goal.invariant_of-self
invariant_of-self c = (made c).0

pub returns : goal.returns
returns c = (made c).1
