use Rattle.std.proofs.Common.{refl, arith}
use Rattle.slab.specs.Slab.{get}
use Rattle.pd_retyping.proofs.BecomeLemmas.{on_err, some_there}
use Rattle.pd_retyping.proofs.TakeLemmas.{became_told, refused_told, short_so, took_told}
use Rattle.pd_retyping.proofs.renaming.become_or_take.Goals as goal

pub take_text-requires-clause-takes : goal.take_text-requires-clause-takes
take_text-requires-clause-takes g c =
    let h = c.requires.grown in
    let n = some_there (get c.args.patch.now.grove.nodes c.args.key) c.requires.here in
    let kept = c.gives_text.ensures.keeps c.if-gives_text.true in
    record {
      can = c.requires.can;
      node = n.0;
      is = n.1;
      sub = c.requires.sub kept n.0 n.1;
      added = h.added;
      grown = h.is;
      gives = c.gives_text.ensures.yes c.if-gives_text.true n.0 h.added n.1 h.is;
    }

pub returns-then-gives_text-clause-became : goal.returns-then-gives_text-clause-became
returns-then-gives_text-clause-became g c =
    took_told c.args.patch.now c.take_text.new.patch c.args.key c.args.keeps c.args.grown c.take_text.result (c.gives_text.ensures.keeps c.if-gives_text.true)
    (c.gives_text.ensures.yes c.if-gives_text.true) c.args.symbols.now c.args.now c.args.steps.now c.take_text.ensures.took c.take_text.ensures.gone

pub returns-then-gives_text-clause-refused : goal.returns-then-gives_text-clause-refused
returns-then-gives_text-clause-refused g c =
    short_so c.args.patch.now c.take_text.new.patch c.args.key c.args.keeps c.args.grown c.take_text.result (c.gives_text.ensures.keeps c.if-gives_text.true)
    (c.gives_text.ensures.yes c.if-gives_text.true) c.take_text.ensures.refused c.take_text.ensures.room

pub returns-then-gives_text-clause-fewer : goal.returns-then-gives_text-clause-fewer
returns-then-gives_text-clause-fewer g c = let same = c.take_text.ensures.as_many in omega (arith, same)

pub returns-then-gives_text-clause-as_many : goal.returns-then-gives_text-clause-as_many
returns-then-gives_text-clause-as_many g c = on_err c.take_text.result c.take_text.ensures.as_many

pub returns-then-gives_text-clause-no_looks : goal.returns-then-gives_text-clause-no_looks
returns-then-gives_text-clause-no_looks g c = on_err c.take_text.result refl

pub returns-clause-became : goal.returns-clause-became
returns-clause-became g c = became_told c.args.patch.now c.become_grown.new.patch c.args.key c.args.keeps c.args.grown c.become_grown.result c.args.symbols.now c.args.now c.args.steps.now c.become_grown.new.steps
    c.become_grown.ensures.became

pub returns-clause-refused : goal.returns-clause-refused
returns-clause-refused g c = refused_told c.args.patch.now c.become_grown.new.patch c.args.key c.args.keeps c.args.grown c.become_grown.result (c.gives_text.ensures.no c.if-gives_text.false) c.become_grown.ensures.refused
