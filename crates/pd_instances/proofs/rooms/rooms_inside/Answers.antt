use Rattle.std.proofs.Common.{◌≡◌, ◌<◌, ◌+◌, List, length, take, sym, ap, ◌∙◌, subst, arith}
use Rattle.std.proofs.lemmas.List.{take_all}
use Rattle.pd_instances.specs.Needs.{count_from, count_to, IsLinkRoom}
use Rattle.pd_instances.proofs.ListLemmas.{each_next, number_is, one_longer}
use Rattle.pd_instances.proofs.rooms.rooms_inside.Goals as goal

pub loop-i-preserved : goal.loop-i-preserved
loop-i-preserved c =
    let ws = c.args.wires.now in
    let i = c.loop-i.i in
    let inv = c.loop-i.invariant in
    let L = c.loop-wire.invariant in
    let low : i < c.args.boxes = (let a = c.loop-i-test.true in let k = c.loop-i.auto in let e = c.len-i-end.ensures in let o = c.loop-wire.from.ok in let n = L.from_all in omega arith) in
    let all = take_all c.loop-wire.wire-index ws c.loop-wire-test.false in
    let from = number_is c.loop-wire.from.items i c.index.result.now (count_from (take c.loop-wire.wire-index ws) i) (L.from i low) c.index.ensures ∙ ap (λ vs. count_from vs i) all in
    let into = number_is c.loop-wire.into.items i c.index-in-loop-i.result.now (count_to (take c.loop-wire.wire-index ws) i) (L.into i low) c.index-in-loop-i.ensures ∙ ap (λ vs. count_to vs i) all in
    record {
      all = one_longer c.loop-i.rooms.items c.push.new.self.items c.in_ok-room.room i c.in_ok-push.ensures.items inv.all;
      each = each_next (λ n room. IsLinkRoom (count_from ws n) (count_to ws n) room) c.loop-i.rooms.items c.push.new.self.items c.in_ok-room.room i c.in_ok-push.ensures.items inv.all inv.each
          (subst (λ n. IsLinkRoom n (count_to ws i) c.in_ok-room.room) from (subst (λ n. IsLinkRoom c.index.result.now n c.in_ok-room.room) into c.in_ok-room.ensures));
    }
