use Rattle.std.proofs.Common.{◌≡◌, ◌+◌, ◌++◌, ◌∷◌, [], true, length, map, List, sym, ◌∙◌, ap, subst, refl, arith}
use Rattle.std.proofs.lemmas.List.{length-append}
use Rattle.pd_atom.specs.declared.Atom.{Atom}
use Rattle.pd_kind.specs.declared.sends.SendRow.{SendRow}
use Rattle.pd_kind.specs.Rows.{are_within, send_of}
use Rattle.pd_kind.proofs.SendLemmas.{within_more, within_one, send_last}
use Rattle.pd_kind.proofs.sends.Sends.send.Goals as goal

pub invariant_of-self : goal.invariant_of-self
invariant_of-self c =
    let xs : List Atom = c.args.self.now.atoms in
    let ys : List Atom = c.args.atoms.now in
    let r : SendRow = record { target = c.args.target; selector = c.args.selector; first = c.len-first.result; after = c.len-after.result } in
    let both : length c.extend.new.self ≡ length xs + length ys = ap length c.extend.ensures ∙ length-append xs ys in
    let old : are_within (length c.extend.new.self) c.args.self.now.rows ≡ true = within_more c.args.self.now.rows (length xs) (length c.extend.new.self) (omega arith) c.args.self.now.within in
    let f : c.len-first.result ≡ length xs = c.len-first.ensures in
    let a : c.len-after.result ≡ length c.extend.new.self = c.len-after.ensures in
    record { within = subst (λ (rs : List SendRow). are_within (length c.extend.new.self) rs ≡ true) (sym c.push.ensures) (within_one c.args.self.now.rows (length c.extend.new.self) r (omega arith) (omega arith) old) }

pub returns-clause-sends : goal.returns-clause-sends
returns-clause-sends c =
    let xs : List Atom = c.args.self.now.atoms in
    let ys : List Atom = c.args.atoms.now in
    let r : SendRow = record { target = c.args.target; selector = c.args.selector; first = c.len-first.result; after = c.len-after.result } in
    let f : c.len-first.result ≡ length xs = c.len-first.ensures in
    let a : c.len-after.result ≡ length xs + length ys = c.len-after.ensures ∙ ap length c.extend.ensures ∙ length-append xs ys in
    ap (λ (rs : List SendRow). map (send_of c.extend.new.self) rs) c.push.ensures
    ∙ ap (λ (atoms : List Atom). map (send_of atoms) (c.args.self.now.rows ++ r ∷ [])) c.extend.ensures
    ∙ send_last c.args.self.now.rows xs ys r c.args.target c.args.selector refl refl f a c.args.self.now.within
