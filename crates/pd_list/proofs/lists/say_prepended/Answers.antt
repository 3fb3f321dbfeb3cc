use Rattle.std.proofs.Common.{◌≡◌, ◌+◌, List, [], ◌++◌, length, take, sym, ◌∙◌, ap, arith}
use Rattle.std.proofs.lemmas.List.{length-append}
use Rattle.pd_atom.specs.declared.Atom.{Atom}
use Rattle.pd_kind.specs.Forming.{atoms_with_selector, cut_atoms}
use Rattle.pd_list.proofs.CutLemmas.{cut_twice}
use Rattle.pd_list.proofs.lists.say_prepended.Goals as goal

pub returns : goal.returns
returns c =
    let list : List Atom = atoms_with_selector c.args.selector c.args.atoms.now in
    let stored : List Atom = c.args.stored.now in
    let first : c.fill.new.self.atoms ≡ take 1024 ([] ++ stored) = c.fill.ensures.atoms ∙ ap (λ (xs : List Atom). take 1024 (xs ++ stored)) c.clear.ensures.atoms in
    let all : c.gather.new.out.atoms ≡ take 1024 (stored ++ list) = c.gather.ensures.atoms ∙ ap (λ (xs : List Atom). take 1024 (xs ++ list)) first ∙ cut_twice 1024 [] stored list in
    c.say_gathered.ensures (stored ++ list) (omega (arith, length-append stored list)) all
