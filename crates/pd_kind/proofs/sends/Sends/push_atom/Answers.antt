use Rattle.std.proofs.Common.{◌≡◌, ◌+◌, ◌∷◌, [], length, map, List, ◌∙◌, ap, arith}
use Rattle.std.proofs.lemmas.List.{length-append}
use Rattle.pd_atom.specs.declared.Atom.{Atom}
use Rattle.pd_kind.specs.Rows.{send_of}
use Rattle.pd_kind.proofs.SendLemmas.{within_more, sends_more}
use Rattle.pd_kind.proofs.sends.Sends.push_atom.Goals as goal

pub invariant_of-self : goal.invariant_of-self
invariant_of-self c =
    let xs : List Atom = c.args.self.now.atoms in
    let both : length c.push.new.self ≡ length xs + length (c.args.atom ∷ []) = ap length c.push.ensures ∙ length-append xs (c.args.atom ∷ []) in
    record { within = within_more c.args.self.now.rows (length xs) (length c.push.new.self) (omega arith) c.args.self.now.within }

pub returns-clause-sends : goal.returns-clause-sends
returns-clause-sends c =
    ap (λ (atoms : List Atom). map (send_of atoms) c.args.self.now.rows) c.push.ensures
    ∙ sends_more c.args.self.now.rows c.args.self.now.atoms (c.args.atom ∷ []) c.args.self.now.within
