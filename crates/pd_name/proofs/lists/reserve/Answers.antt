use Rattle.std.proofs.Common.{◌≤◌, sym, None, Some, arith}
use Rattle.pd_name.proofs.RowLemmas.{Puts, written, inserted, spare_at, puts_spare, puts_others, puts_same, puts_empty, along, least, no_spare, reserve_err, reserve_room, reserve_spare, reserve_covers}
use Rattle.pd_name.proofs.lists.reserve.Goals as goal

pub returns-in_err-with_capacity-in-None-clause-succeeds : goal.returns-in_err-with_capacity-in-None-clause-succeeds
returns-in_err-with_capacity-in-None-clause-succeeds c =
    λ h. absurd (no_spare _ _ (spare_at c.args.lists.now.entries c.args.key None (sym c.in-None.ensures.value)) h c.if-more-eq0.false)

pub returns-in_err-insert-in-None-clause-succeeds : goal.returns-in_err-insert-in-None-clause-succeeds
returns-in_err-insert-in-None-clause-succeeds c =
    λ h. absurd (no_spare _ _ (spare_at c.args.lists.now.entries c.args.key None (sym c.in-None.ensures.value)) h c.if-more-eq0.false)

puts : (c : goal.After-lists-in-Some-1) → Puts c.args.lists.now.entries (c.get_mut.follows.lender c.reserve.new.self).entries c.args.key c.reserve.new.self
puts c = written c.args.lists.now (c.get_mut.follows.lender c.reserve.new.self) c.args.key c.in-Some.owners.now c.reserve.new.self c.in-Some.ensures.value (c.get_mut.follows.holds c.reserve.new.self)

pub returns-in-Some-clause-owners : goal.returns-in-Some-clause-owners
returns-in-Some-clause-owners c =
    puts_same c.args.lists.now.entries (c.get_mut.follows.lender c.reserve.new.self).entries c.args.key c.in-Some.owners.now c.reserve.new.self (puts c) (sym c.in-Some.ensures.value) c.reserve.ensures.items

pub returns-in-Some-clause-room : goal.returns-in-Some-clause-room
returns-in-Some-clause-room c =
    reserve_room c.reserve.result _ _ c.args.more _
    (puts_spare c.args.lists.now.entries (c.get_mut.follows.lender c.reserve.new.self).entries c.args.key c.reserve.new.self (puts c))
    c.reserve.ensures.ok

pub returns-in-Some-clause-spare : goal.returns-in-Some-clause-spare
returns-in-Some-clause-spare c =
    along (λ a b. a ≤ b) _ _ _ _
    (spare_at c.args.lists.now.entries c.args.key (Some c.in-Some.owners.now) (sym c.in-Some.ensures.value))
    (puts_spare c.args.lists.now.entries (c.get_mut.follows.lender c.reserve.new.self).entries c.args.key c.reserve.new.self (puts c))
    (reserve_spare _ _ _ _ c.reserve.ensures.len c.reserve.ensures.capacity)

pub returns-in-Some-clause-others : goal.returns-in-Some-clause-others
returns-in-Some-clause-others c = puts_others c.args.lists.now.entries (c.get_mut.follows.lender c.reserve.new.self).entries c.args.key c.reserve.new.self (puts c)

pub returns-in-Some-clause-succeeds : goal.returns-in-Some-clause-succeeds
returns-in-Some-clause-succeeds c =
    λ h. c.reserve.ensures.succeeds (reserve_covers _ _ c.args.more _
    (spare_at c.args.lists.now.entries c.args.key (Some c.in-Some.owners.now) (sym c.in-Some.ensures.value)) c.if-more-eq0.false h)

pub returns-in-Some-clause-err : goal.returns-in-Some-clause-err
returns-in-Some-clause-err c =
    reserve_err c.reserve.result c.args.lists.now.entries (c.get_mut.follows.lender c.reserve.new.self).entries c.args.key c.in-Some.owners.now c.reserve.new.self (puts c)
    (sym c.in-Some.ensures.value) c.reserve.ensures.items c.reserve.ensures.len c.reserve.ensures.err

pub returns-in_ok-insert-in-None-clause-owners : goal.returns-in_ok-insert-in-None-clause-owners
returns-in_ok-insert-in-None-clause-owners c =
    let w = c.in_ok-with_capacity-in-None.field-0 in
    let p = inserted c.args.lists.now c.get_mut.follows.lender-at-none c.insert.new.self c.args.key w c.get_mut.follows.holds-at-none c.in_ok-insert-in-None.ensures.updates in
    puts_empty c.args.lists.now.entries c.insert.new.self.entries c.args.key w p (sym c.in-None.ensures.value) c.in_ok-with_capacity-in-None.ensures.items

pub returns-in_ok-insert-in-None-clause-room : goal.returns-in_ok-insert-in-None-clause-room
returns-in_ok-insert-in-None-clause-room c =
    let w = c.in_ok-with_capacity-in-None.field-0 in
    let p = inserted c.args.lists.now c.get_mut.follows.lender-at-none c.insert.new.self c.args.key w c.get_mut.follows.holds-at-none c.in_ok-insert-in-None.ensures.updates in
    let spare = puts_spare c.args.lists.now.entries c.insert.new.self.entries c.args.key w p in
    omega (arith, spare, c.in_ok-with_capacity-in-None.ensures.len, c.in_ok-with_capacity-in-None.ensures.capacity)

pub returns-in_ok-insert-in-None-clause-spare : goal.returns-in_ok-insert-in-None-clause-spare
returns-in_ok-insert-in-None-clause-spare c = least _ _ (spare_at c.args.lists.now.entries c.args.key None (sym c.in-None.ensures.value))

pub returns-in_ok-insert-in-None-clause-others : goal.returns-in_ok-insert-in-None-clause-others
returns-in_ok-insert-in-None-clause-others c =
    let w = c.in_ok-with_capacity-in-None.field-0 in
    let p = inserted c.args.lists.now c.get_mut.follows.lender-at-none c.insert.new.self c.args.key w c.get_mut.follows.holds-at-none c.in_ok-insert-in-None.ensures.updates in
    puts_others c.args.lists.now.entries c.insert.new.self.entries c.args.key w p
