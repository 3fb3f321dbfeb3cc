use Rattle.pd_bench_edits.proofs.grown.grown.Goals as goal

pub grow-requires-clause-doc : goal.grow-requires-clause-doc
grow-requires-clause-doc c = c.proper_suits.ensures.root c.args.symbols.now c.args.doc.now.root c.requires
