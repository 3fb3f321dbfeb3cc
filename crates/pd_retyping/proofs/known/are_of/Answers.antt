use Rattle.std.proofs.Common.{arith, ◌<◌, length, List, sym, subst}
use Rattle.std.specs.List.{All}
use Rattle.std.proofs.lemmas.List.Elements.{All-more, All-get_or}
use Rattle.pd_atom.specs.declared.Atom.{Atom}
use Rattle.pd_atom.specs.Atoms.{IsOf}
use Rattle.pd_retyping.proofs.TextLemmas.{take_whole}
use Rattle.pd_retyping.proofs.known.are_of.Goals as goal

pub loop-atom-preserved : goal.loop-atom-preserved
loop-atom-preserved c =
    let P : Atom → Type 0 = IsOf c.args.symbols.now in
    let lt : c.loop-atom.atom-index < length c.args.atoms.now = omega arith in
    record {
      all = All-more P c.args.atoms.now c.loop-atom.atom-index c.atom-item.result c.loop-atom-test.true c.loop-atom.invariant.all
          (subst P c.atom-item.is (c.is_of.ensures.is c.if-not-is_of.false));
    }

pub returns-clause-all : goal.returns-clause-all
returns-clause-all c = λ _.
    let Q : List Atom → Type 0 = λ atoms. All (IsOf c.args.symbols.now) atoms in
    subst Q (take_whole c.args.atoms.now c.loop-atom.atom-index c.loop-atom-test.false) c.loop-atom.invariant.all

pub returns-then-not-is_of-clause-some : goal.returns-then-not-is_of-clause-some
returns-then-not-is_of-clause-some c = λ _ all.
    let P : Atom → Type 0 = IsOf c.args.symbols.now in
    let lt : c.loop-atom.atom-index < length c.args.atoms.now = omega arith in
    c.is_of.ensures.other c.if-not-is_of.true (subst P (sym c.atom-item.is) (All-get_or P c.args.atoms.now c.loop-atom.atom-index c.atom-item.result lt all))
