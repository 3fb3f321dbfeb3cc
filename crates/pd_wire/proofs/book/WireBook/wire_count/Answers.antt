use Rattle.std.proofs.Common.{◌≡◌, ◌∙◌, ◌≤◌, ℕ, List, [], sym, subst, arith}
use Rattle.slab.specs.Slab.{entries, slab_len}
use Rattle.pd_wire.specs.Book.{Book, live_wires}
use Rattle.pd_wire.specs.declared.links.Node.{Node}
use Rattle.pd_wire.proofs.Counting.{IsCounted, counted_start, counted_wire, counted_end, wires_fit}
use Rattle.pd_wire.proofs.book.WireBook.wire_count.Goals as goal

pub loop-node-init : goal.loop-node-init
loop-node-init c =
    let s = c.self.inside.nodes in
    let left : c.into_iter-node-iterator.result ≡ entries s = c.into_iter-node-iterator.ensures.into_iter_gives ∙ c.iter-node-items.ensures.rest in
    let B : Book → Type 0 = λ b. IsCounted 0 (entries s) b in
    let L : List (ℕ × Node) → Type 0 = λ xs. IsCounted 0 xs c.args.self.now in
    (tt, tt, subst L (sym left) (subst B c.self.view_is (counted_start s c.self.inside.spare_ends c.self.inside.spare_wires)))

pub overflow_add-count : goal.overflow_add-count
overflow_add-count c =
    let b = c.args.self.now in
    let L : List (ℕ × Node) → Type 0 = λ xs. IsCounted c.loop-node.count xs b in
    let more = counted_wire c.loop-node.count c.in-Some.field-0-0 c.in-Some.node.now c.next.new.self b c.if-not-node.true (subst L c.in-Some.ensures.steps c.loop-node.invariant.2) in
    let B : Book → Type 0 = λ b. live_wires b ≤ slab_len c.self.inside.nodes in
    let fit : live_wires b ≤ slab_len c.self.inside.nodes = subst B c.self.view_is (wires_fit c.self.inside.nodes c.self.inside.spare_ends c.self.inside.spare_wires) in
    let most = c.len-most.type_inv in
    record { fits = omega (arith, more, fit, c.len-most.ensures, most) }

pub loop-node-preserved-then-not-node : goal.loop-node-preserved-then-not-node
loop-node-preserved-then-not-node c =
    let L : List (ℕ × Node) → Type 0 = λ xs. IsCounted c.loop-node.count xs c.args.self.now in
    (tt, tt, counted_wire c.loop-node.count c.in-Some.field-0-0 c.in-Some.node.now c.next.new.self c.args.self.now c.if-not-node.true (subst L c.in-Some.ensures.steps c.loop-node.invariant.2))

pub loop-node-preserved : goal.loop-node-preserved
loop-node-preserved c =
    let L : List (ℕ × Node) → Type 0 = λ xs. IsCounted c.loop-node.count xs c.args.self.now in
    (tt, tt, counted_end c.loop-node.count c.in-Some.field-0-0 c.in-Some.node.now c.next.new.self c.args.self.now c.if-not-node.false (subst L c.in-Some.ensures.steps c.loop-node.invariant.2))

pub returns : goal.returns
returns c =
    let L : List (ℕ × Node) → Type 0 = λ xs. IsCounted c.loop-node.count xs c.args.self.now in
    let done : IsCounted c.loop-node.count [] c.args.self.now = subst L c.in-None.ensures.steps.0 c.loop-node.invariant.2 in
    omega (arith, done)
