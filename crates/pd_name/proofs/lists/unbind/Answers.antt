use Rattle.std.proofs.Common.{◌+◌, sym, ◌∙◌, ap, length, None, Some}
use Rattle.pd_name.specs.Rows.{owners_of, without}
use Rattle.pd_name.specs.Stored.{rows_of}
use Rattle.pd_name.proofs.RowLemmas.{Puts, written, owners_at, spare_at, puts_owners, puts_spare, puts_others}
use Rattle.pd_name.proofs.lists.unbind.Goals as goal

puts : (c : goal.After-lists-in-Some-1) → Puts c.args.lists.now.entries (c.get_mut.follows.lender c.take.new.owners).entries c.args.key c.take.new.owners
puts c = written c.args.lists.now (c.get_mut.follows.lender c.take.new.owners) c.args.key c.in-Some.owners.now c.take.new.owners c.in-Some.ensures.value (c.get_mut.follows.holds c.take.new.owners)

pub returns-in-Some-clause-owners : goal.returns-in-Some-clause-owners
returns-in-Some-clause-owners c =
    puts_owners c.args.lists.now.entries (c.get_mut.follows.lender c.take.new.owners).entries c.args.key c.take.new.owners (puts c)
    ∙ c.take.ensures.items
    ∙ ap (λ xs. without c.args.owner xs) (sym (owners_at c.args.lists.now.entries c.args.key (Some c.in-Some.owners.now) (sym c.in-Some.ensures.value)))

pub returns-in-Some-clause-places : goal.returns-in-Some-clause-places
returns-in-Some-clause-places c =
    let new_owners = puts_owners c.args.lists.now.entries (c.get_mut.follows.lender c.take.new.owners).entries c.args.key c.take.new.owners (puts c) in
    let new_spare = puts_spare c.args.lists.now.entries (c.get_mut.follows.lender c.take.new.owners).entries c.args.key c.take.new.owners (puts c) in
    let old_owners = owners_at c.args.lists.now.entries c.args.key (Some c.in-Some.owners.now) (sym c.in-Some.ensures.value) in
    let old_spare = spare_at c.args.lists.now.entries c.args.key (Some c.in-Some.owners.now) (sym c.in-Some.ensures.value) in
    (λ i. length (new_owners i) + new_spare i) ∙ c.take.ensures.places ∙ (λ i. length (sym old_owners i) + sym old_spare i)

pub returns-in-Some-clause-others : goal.returns-in-Some-clause-others
returns-in-Some-clause-others c = puts_others c.args.lists.now.entries (c.get_mut.follows.lender c.take.new.owners).entries c.args.key c.take.new.owners (puts c)

pub returns-in_default-clause-owners : goal.returns-in_default-clause-owners
returns-in_default-clause-owners c =
    let none = owners_at c.args.lists.now.entries c.args.key None (sym c.in_default.ensures.value) in
    ap (λ m. owners_of (rows_of m.entries) c.args.key.class c.args.key.name) c.get_mut.follows.holds-at-none ∙ none ∙ ap (λ xs. without c.args.owner xs) (sym none)
