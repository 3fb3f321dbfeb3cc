use Rattle.std.proofs.Common.{◌≡◌, sym, ap, subst, arith}
use Rattle.slab.specs.Slab.{Slab, slab_len}
use Rattle.pd_wire.specs.Stored.{IsSound}
use Rattle.pd_wire.specs.declared.links.Node.{Node}
use Rattle.pd_wire.proofs.book.WireBook.reserve.Goals as goal

-- the slab has grown, and has the same nodes
pub invariant_of-self : goal.invariant_of-self
invariant_of-self c =
    let P : Slab Node → Type 0 = λ s. IsSound s in
    let kept = c.reserve.ensures.rest_kept in
    let len : slab_len c.reserve.new.self ≡ slab_len c.self.inside.nodes = ap slab_len kept in
    record {
      links = subst P (sym kept) (record { fans = c.self.invariant.links.fans; feeds = c.self.invariant.links.feeds });
      room = omega (arith, len, c.self.invariant.room, c.reserve.ensures.capacity);
    }

pub invariant_of-self-2 : goal.invariant_of-self-2
invariant_of-self-2 c =
    let P : Slab Node → Type 0 = λ s. IsSound s in
    let kept = c.reserve.ensures.rest_kept in
    record {
      links = subst P (sym kept) (record { fans = c.self.invariant.links.fans; feeds = c.self.invariant.links.feeds });
      room = omega (arith, c.in_ok-reserve.ensures.room, c.in-Some.ensures);
    }
