use Rattle.std.proofs.Common.{inl, inr, refl, ap, ◌∙◌, arith}
use mathlib.Core.Logic.{⊎_elim}
use Rattle.pd_tree.specs.Trees.{Stand}
use Rattle.pd_adding.specs.Single.{IsSingle}
use Rattle.pd_putting.specs.Adds.{IsSubAt}
use Rattle.pd_putting.proofs.LeafLemmas.{rows_small, seed_stand, seed_leaf, alone_comes, leaf_put}
use Rattle.pd_putting.proofs.SubLemmas.{alone_keys, one_box, seed_ready, seed_shell, seed_sheet, sub_put}
use Rattle.pd_putting.proofs.KeyLemmas.{told_alone}
use Rattle.pd_putting.proofs.StayLemmas.{same_patch}
use Rattle.pd_putting.proofs.placing.put_alone.Goals as goal

pub seed_of-requires-clause-small : goal.seed_of-requires-clause-small
seed_of-requires-clause-small g c = rows_small c.requires.grown.added.known.names c.args.grown.rows.items c.requires.grown.is.suit

pub seed_of-requires-clause-one : goal.seed_of-requires-clause-one
seed_of-requires-clause-one g c =
    let h = c.requires.grown in
    one_box c.args.patch.now c.args.grown c.args.number h.added h.is (c.requires.alone h.added h.is)

pub put_seed-requires-clause-ready : goal.put_seed-requires-clause-ready
put_seed-requires-clause-ready g c =
    let h = c.requires.grown in
    seed_ready c.args.patch.now c.args.grown c.args.number h.added h.is c.in-Ok-seed_of.seed c.in-Ok-seed_of.ensures.stand c.in-Ok-seed_of.ensures.leaf c.in-Ok-seed_of.ensures.shell (c.requires.alone h.added h.is)

pub returns-clause-put : goal.returns-clause-put
returns-clause-put g c = λ a A names.
    let p = c.args.patch.now in
    let seed = c.in-Ok-seed_of.seed in
    let stand = c.in-Ok-seed_of.ensures.stand in
    ⊎_elim
    (λ (S : IsSingle a.boxes). leaf_put c.args.grown a A S seed stand p c.put_seed.new.patch c.args.number c.args.now c.args.symbols.now c.in-Ok-put_seed.key names
    (seed_leaf c.args.grown a A S seed stand c.in-Ok-seed_of.ensures.leaf) c.in-Ok-seed_of.ensures.fresh c.put_seed.ensures.goes_on
    (c.in-Ok-put_seed.ensures.put (ap (λ (s : Stand). s.sheet) (seed_stand c.args.grown a A S seed stand))))
    (λ (S : IsSubAt p c.args.number a). inr (inl (sub_put p c.args.grown c.args.number a A seed stand c.put_seed.new.patch c.args.now c.args.symbols.now c.in-Ok-put_seed.key S names
    (seed_shell p c.args.grown c.args.number a A seed stand c.in-Ok-seed_of.ensures.shell S) c.in-Ok-seed_of.ensures.fresh c.put_seed.ensures.goes_on
    (c.in-Ok-put_seed.ensures.sub (seed_sheet p c.args.grown c.args.number a A seed stand S)))))
    (c.requires.alone a A)

pub returns-in_default-clause-refused : goal.returns-in_default-clause-refused
returns-in_default-clause-refused g c = λ a A. (refl, (alone_comes c.args.patch.now c.args.number a (c.requires.alone a A), same_patch c.args.patch.now))

pub returns-in_default-seed_of-clause-refused : goal.returns-in_default-seed_of-clause-refused
returns-in_default-seed_of-clause-refused g c = λ a A. (refl, (alone_comes c.args.patch.now c.args.number a (c.requires.alone a A), same_patch c.args.patch.now))

pub returns-in_default-put_seed-clause-refused : goal.returns-in_default-put_seed-clause-refused
returns-in_default-put_seed-clause-refused g c = λ a A. (refl, (alone_comes c.args.patch.now c.args.number a (c.requires.alone a A), c.in_default-put_seed.ensures.short))

pub returns-clause-part : goal.returns-clause-part
returns-clause-part g c =
    let key = c.in-Ok-put_seed.key in
    let h = c.requires.grown in
    c.push_reserved.ensures.items
    ∙ told_alone c.in-Ok.part.items key _ c.in-Ok.ensures.items (alone_keys c.args.patch.now c.args.grown c.args.number h.added h.is c.in-Ok-seed_of.seed c.in-Ok-seed_of.ensures.stand c.put_seed.new.patch
    c.args.symbols.now key (c.requires.alone h.added h.is) c.in-Ok-put_seed.ensures.put c.in-Ok-put_seed.ensures.sub)

pub returns-clause-last_looks : goal.returns-clause-last_looks
returns-clause-last_looks g c = λ last.
    let same = c.put_seed.ensures.last_looks last in
    omega (arith, same)
