use Rattle.std.proofs.Common.{◌≡◌, ◌≤◌, List, [], ◌∷◌, ◌++◌, take, sym, ◌∙◌, ap, arith}
use Rattle.pd_atom.specs.declared.Atom.{Atom}
use Rattle.pd_atom.specs.declared.Atom.TheVariants as atom
use Rattle.pd_list.proofs.CutLemmas.{cut_twice}
use Rattle.pd_list.proofs.MessageLemmas.{marked}
use Rattle.pd_list.proofs.lists.gather.Goals as goal

pub returns-in_default-clause-atoms : goal.returns-in_default-clause-atoms
returns-in_default-clause-atoms c =
    let far : 4 ≤ c.args.selector = omega arith in
    c.fill-in_default-2.ensures.atoms
    ∙ ap (λ (xs : List Atom). take 1024 (xs ++ c.args.atoms.now)) c.fill-in_default.ensures.atoms
    ∙ cut_twice 1024 c.args.out.now.atoms (atom.Symbol c.args.selector ∷ []) c.args.atoms.now
    ∙ sym (ap (λ (xs : List Atom). take 1024 (c.args.out.now.atoms ++ xs)) (marked c.args.selector c.args.atoms.now far))
