use Rattle.std.proofs.Common.{arith, rules, sym, ◌∙◌, ap, ◌≡◌, [], ◌∷◌, length, None}
use Rattle.pd_script.specs.Atoms.{atoms_of}
use Rattle.pd_script.proofs.AtomLemmas.{with_front, atoms_more, atoms_stop, atoms_end, extends_on, are_of_more}
use Rattle.pd_script.proofs.atoms.atoms.Goals as goal

pub returns-in_err-atom-clause-exact : goal.returns-in_err-atom-clause-exact
returns-in_err-atom-clause-exact c =
    let front = c.loop-token.out.items in
    let whole = atoms_of c.args.symbols.now c.args.tokens.now in
    let w : with_front front (atoms_of c.loop-token.symbols (c.in-Some.token.items ∷ c.next.new.self)) ≡ whole =
    ap (λ ts. with_front front (atoms_of c.loop-token.symbols ts)) (sym c.in-Some.ensures.some.0) ∙ c.loop-token.invariant.exact in
    let none : whole ≡ None = atoms_stop c.loop-token.symbols front c.in-Some.token.items c.next.new.self whole
    (rw c.as_slice.ensures.value at c.in_err-atom.ensures.exact) w in
    search (rules, none)

pub loop-token-preserved : goal.loop-token-preserved
loop-token-preserved c =
    let front = c.loop-token.out.items in
    let whole = atoms_of c.args.symbols.now c.args.tokens.now in
    let w : with_front front (atoms_of c.loop-token.symbols (c.in-Some.token.items ∷ c.next.new.self)) ≡ whole =
    ap (λ ts. with_front front (atoms_of c.loop-token.symbols ts)) (sym c.in-Some.ensures.some.0) ∙ c.loop-token.invariant.exact in
    record {
      exact =
          rw c.push_reserved.ensures.items
          (atoms_more c.loop-token.symbols c.atom.new.symbols front c.in-Some.token.items c.next.new.self c.in_ok-atom.field-0 whole
          (rw c.as_slice.ensures.value at c.in_ok-atom.ensures.exact) w);
      room = omega (arith, c.loop-token.invariant.room, c.push_reserved.ensures.len, ap length c.in-Some.ensures.some.0);
      capacity = search rules;
      of_table =
          rw c.push_reserved.ensures.items
          (are_of_more c.loop-token.symbols c.atom.new.symbols front c.in_ok-atom.field-0 c.in_ok-atom.ensures.extends c.loop-token.invariant.of_table
          c.in_ok-atom.ensures.of_table);
      extends = extends_on _ _ _ c.loop-token.invariant.extends c.in_ok-atom.ensures.extends;
    }

pub returns-clause-exact : goal.returns-clause-exact
returns-clause-exact c =
    let front = c.loop-token.out.items in
    let whole = atoms_of c.args.symbols.now c.args.tokens.now in
    let none : c.loop-token.tokens ≡ [] = search rules in
    atoms_end c.loop-token.symbols front whole
    (ap (λ ts. with_front front (atoms_of c.loop-token.symbols ts)) (sym none) ∙ c.loop-token.invariant.exact)
