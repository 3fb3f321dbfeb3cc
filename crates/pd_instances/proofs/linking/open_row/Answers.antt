use Rattle.std.proofs.Common.{List, sym, ap, ◌∙◌, subst}
use Rattle.pd_links.specs.declared.opening.LinkRoom.{LinkRoom}
use Rattle.pd_instances.specs.Lay.{HasSpare, IsEmptyRoom}
use Rattle.pd_instances.proofs.RowLemmas.{kept_row, last_same, last_rest}
use Rattle.pd_instances.proofs.linking.open_row.Goals as goal

pub open-requires-clause-none_into : goal.open-requires-clause-none_into
open-requires-clause-none_into c =
    let R = c.requires.last in
    let same = last_same c.pop.new.self.items R.0 c.in-Some.room R.1 (sym c.in-Some.ensures.items ∙ R.2) in
    ap (λ (r : LinkRoom). r.into.items) same ∙ R.3.no_into

pub open-requires-clause-none_from : goal.open-requires-clause-none_from
open-requires-clause-none_from c =
    let R = c.requires.last in
    let same = last_same c.pop.new.self.items R.0 c.in-Some.room R.1 (sym c.in-Some.ensures.items ∙ R.2) in
    ap (λ (r : LinkRoom). r.from.items) same ∙ R.3.no_from

pub returns-clause-opens : goal.returns-clause-opens
returns-clause-opens c = λ rest room is.
    subst (λ (r : LinkRoom). HasSpare c.open.new.self c.args.key r) (last_same c.pop.new.self.items rest c.in-Some.room room (sym c.in-Some.ensures.items ∙ is))
    (record { into = c.open.ensures.into; from = c.open.ensures.from })

pub returns-clause-rest : goal.returns-clause-rest
returns-clause-rest c = λ rest room is. last_rest c.pop.new.self.items rest c.in-Some.room room (sym c.in-Some.ensures.items ∙ is)

pub returns-clause-others : goal.returns-clause-others
returns-clause-others c = λ k differ.
    kept_row c.args.links.now c.open.new.self k c.open.ensures.keeps (c.open.ensures.others_from k differ) (c.open.ensures.others_into k differ)
