use Rattle.std.proofs.Common.{◌≡◌, ℕ, ◌<◌, List, ◌∷◌, get_or, length, Some, None, sym, ap, ◌∙◌, arith}
use Rattle.std.specs.Prelude.{nat_eq}
use Rattle.std.specs.List.{position}
use Rattle.std.proofs.lemmas.List.{get_or_default}
use Rattle.pd_order.specs.Graph.{tally}
use Rattle.pd_links.proofs.RowLemmas.{found_key, not_found, swapped_out}
use Rattle.pd_links.proofs.rows.take_from.Goals as goal

pub returns-in-Some-clause-keys : goal.returns-in-Some-clause-keys
returns-in-Some-clause-keys c = λ u.
    let xs : List ℕ = c.args.row.now.items in
    let o : ℕ = c.args.other in
    let place : ℕ = c.in-Some.place in
    let r : ℕ = c.swap_remove.result in
    let p : position (nat_eq o) xs ≡ Some place = sym (c.place_of.ensures ∙ ap (position (nat_eq o)) c.deref.ensures.value) ∙ c.in-Some.is in
    let f : (place < length xs) × (o ≡ get_or xs place o) = found_key o place xs p in
    let e : r ≡ o = c.swap_remove.ensures.value ∙ get_or_default xs place r o f.0 ∙ sym f.1 in
    swapped_out xs place r u f.0 c.swap_remove.ensures.value ∙ ap (λ (zs : List ℕ). tally u (r ∷ zs)) (sym c.swap_remove.ensures.items) ∙ ap (λ (y : ℕ). tally u (y ∷ c.swap_remove.new.self.items)) e

pub returns-in-None-clause-keys : goal.returns-in-None-clause-keys
returns-in-None-clause-keys c =
    let xs : List ℕ = c.args.row.now.items in
    let o : ℕ = c.args.other in
    let p : position (nat_eq o) xs ≡ None = sym (c.place_of.ensures ∙ ap (position (nat_eq o)) c.deref.ensures.value) ∙ c.in-None.is in
    let z : tally o xs ≡ 0 = not_found o xs p in
    let h : 0 < tally o xs = c.requires in absurd (omega arith)
