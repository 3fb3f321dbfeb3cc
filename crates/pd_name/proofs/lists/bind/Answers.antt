use Rattle.std.proofs.Common.{◌+◌, ◌≤◌, ◌<◌, sym, ◌∙◌, ap, subst, length, insert, None, Some, OnOk, arith}
use Rattle.pd_name.proofs.RowLemmas.{Puts, written, inserted, owners_at, spare_at, puts_owners, puts_spare, puts_others, put_owners, put_err, along, least, no_spare}
use Rattle.pd_name.proofs.lists.bind.Goals as goal

pub put-requires : goal.put-requires
put-requires c =
    subst (λ xs. c.args.index ≤ length xs) (owners_at c.args.lists.now.entries c.args.key (Some c.in-Some.owners.now) (sym c.in-Some.ensures.value)) c.requires

pub put-requires-in-None : goal.put-requires-in-None
put-requires-in-None c =
    subst (λ xs. c.args.index ≤ length xs) (owners_at c.args.lists.now.entries c.args.key None (sym c.in-None.ensures.value) ∙ sym c.new-owners.ensures.items) c.requires

pub returns-in_err-put-in-None-clause-succeeds : goal.returns-in_err-put-in-None-clause-succeeds
returns-in_err-put-in-None-clause-succeeds c =
    λ h. absurd (no_spare _ 1 (spare_at c.args.lists.now.entries c.args.key None (sym c.in-None.ensures.value)) h (omega arith))

pub returns-in_err-insert-in-None-clause-succeeds : goal.returns-in_err-insert-in-None-clause-succeeds
returns-in_err-insert-in-None-clause-succeeds c =
    λ h. absurd (no_spare _ 1 (spare_at c.args.lists.now.entries c.args.key None (sym c.in-None.ensures.value)) h (omega arith))

puts : (c : goal.After-lists-in-Some-1) → Puts c.args.lists.now.entries (c.get_mut.follows.lender c.put.new.owners).entries c.args.key c.put.new.owners
puts c = written c.args.lists.now (c.get_mut.follows.lender c.put.new.owners) c.args.key c.in-Some.owners.now c.put.new.owners c.in-Some.ensures.value (c.get_mut.follows.holds c.put.new.owners)

pub returns-in-Some-clause-owners : goal.returns-in-Some-clause-owners
returns-in-Some-clause-owners c =
    put_owners c.put.result _ _ c.in-Some.owners.now.items c.put.new.owners.items c.args.index c.args.owner
    (owners_at c.args.lists.now.entries c.args.key (Some c.in-Some.owners.now) (sym c.in-Some.ensures.value))
    (puts_owners c.args.lists.now.entries (c.get_mut.follows.lender c.put.new.owners).entries c.args.key c.put.new.owners (puts c))
    c.put.ensures.items

pub returns-in-Some-clause-spare : goal.returns-in-Some-clause-spare
returns-in-Some-clause-spare c =
    along (λ a b. OnOk c.put.result (a ≤ b + 1)) _ _ _ _
    (spare_at c.args.lists.now.entries c.args.key (Some c.in-Some.owners.now) (sym c.in-Some.ensures.value))
    (puts_spare c.args.lists.now.entries (c.get_mut.follows.lender c.put.new.owners).entries c.args.key c.put.new.owners (puts c))
    c.put.ensures.spare

pub returns-in-Some-clause-others : goal.returns-in-Some-clause-others
returns-in-Some-clause-others c = puts_others c.args.lists.now.entries (c.get_mut.follows.lender c.put.new.owners).entries c.args.key c.put.new.owners (puts c)

pub returns-in-Some-clause-succeeds : goal.returns-in-Some-clause-succeeds
returns-in-Some-clause-succeeds c =
    λ h. c.put.ensures.succeeds (subst (λ n. 0 < n) (spare_at c.args.lists.now.entries c.args.key (Some c.in-Some.owners.now) (sym c.in-Some.ensures.value)) h)

pub returns-in-Some-clause-err : goal.returns-in-Some-clause-err
returns-in-Some-clause-err c =
    put_err c.put.result c.args.lists.now.entries (c.get_mut.follows.lender c.put.new.owners).entries c.args.key c.in-Some.owners.now c.put.new.owners c.args.index c.args.owner (puts c)
    (sym c.in-Some.ensures.value) c.put.ensures.items c.put.ensures.err

pub returns-in_ok-insert-in-None-clause-owners : goal.returns-in_ok-insert-in-None-clause-owners
returns-in_ok-insert-in-None-clause-owners c =
    let p = inserted c.args.lists.now c.get_mut.follows.lender-at-none c.insert.new.self c.args.key c.put-in-None.new.owners c.get_mut.follows.holds-at-none c.in_ok-insert-in-None.ensures.updates in
    puts_owners c.args.lists.now.entries c.insert.new.self.entries c.args.key c.put-in-None.new.owners p
    ∙ c.in_ok-put-in-None.ensures.items
    ∙ ap (λ xs. insert xs c.args.index c.args.owner) (c.new-owners.ensures.items ∙ sym (owners_at c.args.lists.now.entries c.args.key None (sym c.in-None.ensures.value)))

pub returns-in_ok-insert-in-None-clause-spare : goal.returns-in_ok-insert-in-None-clause-spare
returns-in_ok-insert-in-None-clause-spare c = least _ _ (spare_at c.args.lists.now.entries c.args.key None (sym c.in-None.ensures.value))

pub returns-in_ok-insert-in-None-clause-others : goal.returns-in_ok-insert-in-None-clause-others
returns-in_ok-insert-in-None-clause-others c =
    let p = inserted c.args.lists.now c.get_mut.follows.lender-at-none c.insert.new.self c.args.key c.put-in-None.new.owners c.get_mut.follows.holds-at-none c.in_ok-insert-in-None.ensures.updates in
    puts_others c.args.lists.now.entries c.insert.new.self.entries c.args.key c.put-in-None.new.owners p
