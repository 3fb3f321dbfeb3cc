use Rattle.std.proofs.Common.{◌≡◌, ◌<◌, ◌≤◌, ◌-◌, ◌+◌, ℕ, List, Some, get_or, length, take, sym, ap, ◌∙◌, arith}
use Rattle.std.proofs.lemmas.List.{take_all}
use Rattle.pd_links.specs.declared.opening.LinkRoom.{LinkRoom}
use Rattle.pd_instances.proofs.RowLemmas.{key_numbered, last_room, none_still, opens_all, opens_next, opens_none, take_whole}
use Rattle.pd_instances.proofs.linking.open_rows.Goals as goal

pub open_row-requires-clause-reach : goal.open_row-requires-clause-reach
open_row-requires-clause-reach c =
    let i = c.loop-i.i in
    let some = c.loop-i-test.true in
    let within = c.loop-i.invariant.within in
    let k : ℕ = get_or c.args.keys.now (i - 1) 0 in
    c.loop-i.invariant.opens.keeps.reach (k + 1) (c.requires.reach (i - 1) k (key_numbered c.args.keys.now (i - 1) (omega (arith, some, within))))

pub open_row-requires-clause-bare : goal.open_row-requires-clause-bare
open_row-requires-clause-bare c =
    let i = c.loop-i.i in
    let some = c.loop-i-test.true in
    let within = c.loop-i.invariant.within in
    let k : ℕ = get_or c.args.keys.now (i - 1) 0 in
    none_still c.args.links.now c.loop-i.links k c.loop-i.invariant.opens.keeps (c.requires.bare (i - 1) k (key_numbered c.args.keys.now (i - 1) (omega (arith, some, within))))

pub open_row-requires-clause-last : goal.open_row-requires-clause-last
open_row-requires-clause-last c =
    let i = c.loop-i.i in
    let some = c.loop-i-test.true in
    let within = c.loop-i.invariant.within in
    let all = c.requires.all in
    let R = last_room c.args.rooms.now.items i (omega (arith, some)) (omega (arith, within, all)) in
    (take (i - 1) c.args.rooms.now.items, R.0, c.loop-i.invariant.rooms ∙ R.2, c.requires.empty (i - 1) R.0 R.1)

pub loop-i-init : goal.loop-i-init
loop-i-init c = record {
  within = omega arith;
  opens = opens_none c.args.links.now c.args.keys.now c.args.rooms.now.items (length c.args.keys.now) (omega arith);
  rooms = take_whole c.args.rooms.now.items (length c.args.keys.now) c.requires.all;
}

pub loop-i-preserved : goal.loop-i-preserved
loop-i-preserved c =
    let i = c.loop-i.i in
    let some = c.loop-i-test.true in
    let within = c.loop-i.invariant.within in
    let all = c.requires.all in
    let rooms = c.args.rooms.now.items in
    let k : ℕ = get_or c.args.keys.now (i - 1) 0 in
    let R = last_room rooms i (omega (arith, some)) (omega (arith, within, all)) in
    let E = c.open_row.ensures in
    let is = c.loop-i.invariant.rooms ∙ R.2 in
    record {
      within = omega (arith, within);
      opens = opens_next c.args.links.now c.loop-i.links c.open_row.new.links c.args.keys.now rooms i k R.0 c.requires.apart (omega (arith, some))
          (key_numbered c.args.keys.now (i - 1) (omega (arith, some, within))) R.1 c.loop-i.invariant.opens E.keeps (E.opens (take (i - 1) rooms) R.0 is) E.others;
      rooms = E.rest (take (i - 1) rooms) R.0 is;
    }

pub returns : goal.returns
returns c =
    let none = c.loop-i-test.false in
    opens_all c.args.links.now c.loop-i.links c.args.keys.now c.args.rooms.now.items c.loop-i.i (omega (arith, none)) c.loop-i.invariant.opens
