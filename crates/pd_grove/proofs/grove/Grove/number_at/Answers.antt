use Rattle.std.proofs.Common.{◌≡◌, ℕ, List, IsSome, refl, sym, ap, ◌∙◌, subst}
use Rattle.std.specs.Prelude.{slice_get}
use Rattle.slab.specs.Slab.{get}
use Rattle.pd_label.specs.Labels.{Rise}
use Rattle.pd_grove.specs.Telling.{keys_in}
use Rattle.pd_grove.specs.Owning.{board_in}
use Rattle.pd_grove.proofs.NestLemmas.{board_there}
use Rattle.pd_grove.proofs.grove.Grove.number_at.Goals as goal

pub index-requires-2 : goal.index-requires-2
index-requires-2 c =
    let g = c.args.self.now in
    let b = c.index.result.now.board in
    let P = c.requires.forest.placed c.args.node b (ap board_in c.index.ensures) in
    subst (λ o. IsSome o) (sym (board_there (get g.boards b) P.0 c.args.node P.1).1) refl

pub place-requires-clause-rise : goal.place-requires-clause-rise
place-requires-clause-rise c =
    let g = c.args.self.now in
    let b = c.index.result.now.board in
    let ks : c.as_slice-keys.result.now ≡ keys_in (get g.boards b) = c.as_slice-keys.ensures.value ∙ sym (ap keys_in c.index-2.ensures) in
    subst (Rise g.labels) (sym ks) (g.labelled.rise b)

pub place-requires-clause-here : goal.place-requires-clause-here
place-requires-clause-here c =
    let g = c.args.self.now in
    let b = c.index.result.now.board in
    let ks : c.as_slice-keys.result.now ≡ keys_in (get g.boards b) = c.as_slice-keys.ensures.value ∙ sym (ap keys_in c.index-2.ensures) in
    let P = c.requires.forest.placed c.args.node b (ap board_in c.index.ensures) in
    (P.0, ap (λ (xs : List ℕ). slice_get xs P.0) ks ∙ P.1)
