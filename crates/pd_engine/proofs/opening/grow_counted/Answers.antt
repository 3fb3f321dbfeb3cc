use Rattle.pd_gather.specs.Gather.{Known, known}
use Rattle.pd_library.specs.Files.{answer_in}
use Rattle.pd_patch.specs.declared.patch.Patch.{Patch}
use Rattle.pd_patch.specs.Grown.{IsTree}
use Rattle.pd_adding.specs.Counted.{IsLimited}
use Rattle.pd_engine.specs.Opening.{growth_of}
use Rattle.pd_engine.proofs.FreshLemmas.{within_first, counted_first}
use Rattle.pd_engine.proofs.OpeningLemmas.{short_ungrown}
use Rattle.pd_engine.proofs.opening.grow_counted.Goals as goal

pub returns-clause-counted : goal.returns-clause-counted
returns-clause-counted c = λ tree.
    let p : Patch = c.in_ok-patch.patch in
    let k : Known = known c.args.library.now c.args.symbols.now in
    let limited : IsLimited c.args.rate tree.tree =
    c.grown_patches_are_limited.ensures.tree p c.grow_all.new.symbols k.names c.args.rate (answer_in k.files) c.args.name.now c.args.doc.root 1001 tree in
    counted_first p c.grow_all.new.symbols c.args.name.now c.args.rate (growth_of c.args.name.now c.args.doc.root k) tree c.in_ok-patch.ensures.fresh limited c.in_ok-counts.counts c.in_ok-counts.ensures.counted

pub returns-clause-within : goal.returns-clause-within
returns-clause-within c =
    let p : Patch = c.in_ok-patch.patch in
    let k : Known = known c.args.library.now c.args.symbols.now in
    let tree : IsTree p c.grow_all.new.symbols c.args.rate (growth_of c.args.name.now c.args.doc.root k) = c.in_ok-patch.ensures.tree in
    let limited : IsLimited c.args.rate tree.tree =
    c.grown_patches_are_limited.ensures.tree p c.grow_all.new.symbols k.names c.args.rate (answer_in k.files) c.args.name.now c.args.doc.root 1001 tree in
    within_first p c.grow_all.new.symbols c.args.name.now c.args.rate (growth_of c.args.name.now c.args.doc.root k) tree c.in_ok-patch.ensures.fresh limited c.in_ok-counts.counts c.in_ok-counts.ensures.within

pub returns-clause-zero : goal.returns-clause-zero
returns-clause-zero c =
    let k : Known = known c.args.library.now c.args.symbols.now in
    c.grown_patches_are_limited.ensures.zero c.in_ok-patch.patch c.grow_all.new.symbols k.names c.args.rate (answer_in k.files) c.args.name.now c.args.doc.root 1001 c.in_ok-patch.ensures.tree

pub returns-in_err-counts-clause-refused : goal.returns-in_err-counts-clause-refused
returns-in_err-counts-clause-refused c =
    short_ungrown (growth_of c.args.name.now c.args.doc.root (known c.args.library.now c.args.symbols.now)) c.args.rate c.from_residual-in_err-counts.result c.from_residual-in_err-counts.ensures.1
