use Rattle.std.proofs.Common.{arith, ◌≡◌, ℕ, ◌+◌, length, sym, ap, subst, length-append, map, true}
use Rattle.pd_kind.specs.Rows.{are_within}
use Rattle.pd_hearing.specs.Worlds.{net_of}
use Rattle.pd_stack.specs.Piles.{AllLie, row_from}
use Rattle.pd_stack.proofs.SendLemmas.{piled-group, within-behind}
use Rattle.pd_stack.proofs.sending.push_all.Goals as goal

pub push_again-floor-requires-clause-lie : goal.push_again-floor-requires-clause-lie
push_again-floor-requires-clause-lie c =
    rw c.push_atoms.ensures (subst (λ (n : ℕ). AllLie n c.args.stack.now.pendings) (sym c.atom_count-base.ensures) c.requires.piled)

pub push_rows-floor-requires-clause-within : goal.push_rows-floor-requires-clause-within
push_rows-floor-requires-clause-within c =
    let both = length-append c.args.stack.now.atoms c.args.atoms.now in
    let len = ap (λ p. length p.atoms) c.push_atoms.ensures in
    let e : c.atom_count-base.result + length c.args.atoms.now ≡ c.atom_count-full.result = omega arith in
    subst (λ (n : ℕ). are_within n (map (row_from c.atom_count-base.result) c.args.rows.now) ≡ true) e
    (within-behind c.atom_count-base.result (length c.args.atoms.now) c.args.rows.now c.requires.within)

pub returns-clause-left : goal.returns-clause-left
returns-clause-left c = λ tasks left.
    piled-group (net_of c.args.patch.now) c.args.depth c.args.node c.atom_count-base.result c.push_rows-floor.result c.args.stack.now.atoms c.args.atoms.now c.args.rows.now c.args.is_again
    c.args.stack.now.pendings c.push_atoms.new.self c.push_again-floor.new.stack c.push_rows-floor.new.stack c.cut_atoms.new.self tasks c.requires.piled left c.push_atoms.ensures c.atom_count-base.ensures
    c.push_again-floor.ensures.atoms c.push_again-floor.ensures.left c.push_rows-floor.ensures.atoms c.push_rows-floor.ensures.lie c.push_rows-floor.ensures.left c.cut_atoms.ensures
