use Rattle.std.proofs.Common.{rules, ◌≡◌, ◌<◌, Some, None, nat_eq, cond, arith, ap, sym, subst, ◌∙◌}
use Rattle.indexmap.specs.IndexMap.{get, index_map_len, spare}
use Rattle.pd_clock.proofs.IndexLemmas.{on_ok, longer}
use Rattle.pd_clock.proofs.compaction.note.Goals as goal

pub returns-in-None-clause-noted : goal.returns-in-None-clause-noted
returns-in-None-clause-noted c =
    let same = c.get_mut.follows.holds-at-none in
    let some : 0 < spare c.get_mut.follows.lender-at-none = subst (λ m. 0 < spare m) (sym same) c.requires in
    let up = on_ok c.insert.result (c.insert.ensures.succeeds some) c.insert.ensures.updates in
    λ q. up.0 q ∙ ap (λ m. cond (nat_eq c.args.owner q) (Some c.args.place) (get nat_eq m q)) same

pub returns-in-None-clause-len : goal.returns-in-None-clause-len
returns-in-None-clause-len c =
    let none : get nat_eq c.args.places.now c.args.owner ≡ None = search rules in
    let same = c.get_mut.follows.holds-at-none in
    let old = c.get_mut.follows.lender-at-none in
    let some : 0 < spare old = subst (λ m. 0 < spare m) (sym same) c.requires in
    let more =
    longer c.insert.result (index_map_len old) (index_map_len c.insert.new.self) (get nat_eq old c.args.owner) (c.insert.ensures.succeeds some)
    (ap (λ m. get nat_eq m c.args.owner) same ∙ none) c.insert.ensures.old c.insert.ensures.len in
    omega (arith, more, ap (λ m. index_map_len m) same)

pub returns-in-None-clause-capacity : goal.returns-in-None-clause-capacity
returns-in-None-clause-capacity c =
    let none : get nat_eq c.args.places.now c.args.owner ≡ None = search rules in
    let same = c.get_mut.follows.holds-at-none in
    let old = c.get_mut.follows.lender-at-none in
    let some : 0 < spare old = subst (λ m. 0 < spare m) (sym same) c.requires in
    let more =
    longer c.insert.result (index_map_len old) (index_map_len c.insert.new.self) (get nat_eq old c.args.owner) (c.insert.ensures.succeeds some)
    (ap (λ m. get nat_eq m c.args.owner) same ∙ none) c.insert.ensures.old c.insert.ensures.len in
    omega (arith, more, ap (λ m. index_map_len m) same, ap (λ m. spare m) same, c.insert.ensures.spare)
