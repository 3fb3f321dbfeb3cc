use Rattle.std.proofs.Common.{inr, refl}
use Rattle.pd_putting.proofs.LeafLemmas.{rows_small}
use Rattle.pd_putting.proofs.HolderLemmas.{one_part, holder_is, part_put}
use Rattle.pd_putting.proofs.parts.put_whole.Goals as goal

pub put_boxes-requires-clause-small : goal.put_boxes-requires-clause-small
put_boxes-requires-clause-small g c = rows_small c.requires.grown.added.known.names c.args.grown.rows.items c.requires.grown.is.suit

pub put_boxes-requires-clause-part : goal.put_boxes-requires-clause-part
put_boxes-requires-clause-part g c = one_part c.args.patch.now c.args.grown c.args.number c.args.symbols.now c.requires.grown c.requires.shallow

pub returns-in_default-clause-refused : goal.returns-in_default-clause-refused
returns-in_default-clause-refused g c = λ a A.
    (refl, (inr (inr (inr (holder_is c.args.grown a A c.args.patch.now c.requires.holder c.requires.shallow))), c.in_default.ensures.short))

pub returns-clause-put : goal.returns-clause-put
returns-clause-put g c = λ a A names.
    let p = c.args.patch.now in
    inr (inr (inr (part_put c.args.grown c.args.number a A p c.put_boxes.new.patch c.args.now c.args.symbols.now c.in-Ok.put.key c.args.steps.now c.put_boxes.new.steps names
    (holder_is c.args.grown a A p c.requires.holder c.requires.shallow) c.in-Ok.ensures.put)))

pub returns-clause-last_looks : goal.returns-clause-last_looks
returns-clause-last_looks g c = λ _. c.in-Ok.ensures.looks
