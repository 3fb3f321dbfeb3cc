use Rattle.std.proofs.Common.{◌≡◌, ◌+◌, ◌-◌, ◌++◌, length, map, take, List, ◌∙◌, ap, arith}
use Rattle.std.proofs.lemmas.List.{length-append}
use Rattle.pd_atom.specs.declared.Atom.{Atom}
use Rattle.pd_kind.specs.Rows.{send_of}
use Rattle.pd_object.proofs.ListLemmas.{cut_behind}
use Rattle.pd_kind.proofs.SendLemmas.{within_more, sends_more}
use Rattle.pd_kind.proofs.sends.Sends.fill.Goals as goal

pub invariant_of-self : goal.invariant_of-self
invariant_of-self c =
    let xs : List Atom = c.args.self.now.atoms in
    let more : List Atom = take (1024 - length xs) c.args.atoms.now in
    let e : c.extend_up_to.new.self ≡ xs ++ more = c.extend_up_to.ensures.items ∙ cut_behind xs c.args.atoms.now 1024 c.requires in
    let both : length c.extend_up_to.new.self ≡ length xs + length more = ap length e ∙ length-append xs more in
    record { within = within_more c.args.self.now.rows (length xs) (length c.extend_up_to.new.self) (omega arith) c.args.self.now.within }

pub returns-clause-sends : goal.returns-clause-sends
returns-clause-sends c =
    let xs : List Atom = c.args.self.now.atoms in
    let more : List Atom = take (1024 - length xs) c.args.atoms.now in
    let e : c.extend_up_to.new.self ≡ xs ++ more = c.extend_up_to.ensures.items ∙ cut_behind xs c.args.atoms.now 1024 c.requires in
    ap (λ (atoms : List Atom). map (send_of atoms) c.args.self.now.rows) e ∙ sends_more c.args.self.now.rows xs more c.args.self.now.within
