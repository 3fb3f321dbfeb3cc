use Rattle.std.proofs.Common.{arith, ◌<◌, length, List, subst, sym, ap, ◌∙◌}
use Rattle.std.specs.List.{All, list_all}
use Rattle.std.proofs.lemmas.List.Elements.{All-more}
use Rattle.pd_atom.specs.declared.Atom.{Atom}
use Rattle.pd_atom.specs.Atoms.{IsOf}
use Rattle.pd_hearing.specs.Guards.{is_atom, are_atoms}
use Rattle.pd_hearing.proofs.KnownLemmas.{take_whole, all_true_more, all_false}
use Rattle.pd_hearing.proofs.known.are_known.Goals as goal

pub loop-atom-preserved : goal.loop-atom-preserved
loop-atom-preserved c =
    let P : Atom → Type 0 = IsOf c.args.symbols.now in
    let lt : c.loop-atom.atom-index < length c.args.atoms.now = omega arith in
    record {
      all = All-more P c.args.atoms.now c.loop-atom.atom-index c.atom-item.result c.loop-atom-test.true c.loop-atom.invariant.all
          (subst P c.atom-item.is (c.is_known.ensures.atom c.if-not-is_known.false));
      value = all_true_more (is_atom c.args.symbols.now) c.args.atoms.now c.loop-atom.atom-index c.atom-item.result lt c.atom-item.is c.loop-atom.invariant.value
          (sym c.is_known.ensures.value ∙ c.if-not-is_known.false);
    }

pub returns-clause-atoms : goal.returns-clause-atoms
returns-clause-atoms c = λ _.
    let Q : List Atom → Type 0 = λ atoms. All (IsOf c.args.symbols.now) atoms in
    subst Q (take_whole c.args.atoms.now c.loop-atom.atom-index c.loop-atom-test.false) c.loop-atom.invariant.all

pub returns-clause-value : goal.returns-clause-value
unfolding are_atoms
returns-clause-value c =
    sym (ap (λ (l : List Atom). list_all (is_atom c.args.symbols.now) l) (sym (take_whole c.args.atoms.now c.loop-atom.atom-index c.loop-atom-test.false)) ∙ c.loop-atom.invariant.value)

pub returns-then-not-is_known-clause-value : goal.returns-then-not-is_known-clause-value
unfolding are_atoms
returns-then-not-is_known-clause-value c =
    let lt : c.loop-atom.atom-index < length c.args.atoms.now = omega arith in
    sym (all_false (is_atom c.args.symbols.now) c.args.atoms.now c.loop-atom.atom-index c.atom-item.result lt c.atom-item.is (sym c.is_known.ensures.value ∙ c.if-not-is_known.true))
