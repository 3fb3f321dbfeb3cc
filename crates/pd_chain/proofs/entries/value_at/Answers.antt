use Rattle.std.proofs.Common.{◌+◌, ◌<◌, length, refl, sym, arith}
use Rattle.pd_chain.proofs.EntryLemmas.{found}
use Rattle.pd_chain.proofs.entries.value_at.Goals as goal

pub overflow_add-result : goal.overflow_add-result
overflow_add-result c =
    let b : c.start_of-start.result + c.args.i < length c.args.entries.now = (found c.args.entries.now c.args.key c.start_of-start.result c.args.i (c.start_of-start.result + c.args.i) c.requires.by_key c.start_of-start.ensures refl c.requires.there).0 in omega arith

pub offset_bounds-entries-start : goal.offset_bounds-entries-start
offset_bounds-entries-start c =
    let b : c.start_of-start.result + c.args.i < length c.args.entries.now = (found c.args.entries.now c.args.key c.start_of-start.result c.args.i (c.start_of-start.result + c.args.i) c.requires.by_key c.start_of-start.ensures refl c.requires.there).0 in omega arith

pub bounds-entries-start : goal.bounds-entries-start
bounds-entries-start c = (found c.args.entries.now c.args.key c.start_of-start.result c.args.i (c.start_of-start.result + c.args.i) c.requires.by_key c.start_of-start.ensures refl c.requires.there).0

pub returns : goal.returns
returns c = sym ((found c.args.entries.now c.args.key c.start_of-start.result c.args.i (c.start_of-start.result + c.args.i) c.requires.by_key c.start_of-start.ensures refl c.requires.there).1 (record { key = 0; value = 0 }))
