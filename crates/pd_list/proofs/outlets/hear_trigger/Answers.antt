use Rattle.std.proofs.Common.{◌≡◌, ℕ, ◌+◌, ◌≤◌, List, [], ◌++◌, length, take, map, sym, ◌∙◌, ap, arith}
use Rattle.std.proofs.lemmas.List.{take_all}
use Rattle.pd_atom.specs.declared.Atom.{Atom}
use Rattle.pd_kind.specs.Rows.{send_of}
use Rattle.pd_kind.specs.declared.sends.SendRow.{SendRow}
use Rattle.pd_list.proofs.CutLemmas.{kept_whole}
use Rattle.pd_list.proofs.OutletLemmas.{trigger_none}
use Rattle.pd_list.proofs.outlets.hear_trigger.Goals as goal

pub loop-i-init : goal.loop-i-init
loop-i-init c =
    let atoms : List Atom = c.args.atoms.now in
    let joined : c.fill.new.self.atoms ≡ take 1024 atoms = c.fill.ensures.atoms ∙ ap (λ (xs : List Atom). take 1024 (xs ++ atoms)) c.clear.ensures.atoms in
    let held : c.fill.new.self.atoms ≡ atoms = kept_whole 1024 atoms c.fill.new.self.atoms c.requires.short joined in
    let none : c.fill.new.self.rows ≡ [] = c.fill.ensures.rows ∙ c.clear.ensures.rows in
    record {
      within = omega arith;
      sends = ap (λ (rows : List SendRow). map (send_of c.fill.new.self.atoms) rows) none ∙ sym (trigger_none c.args.outlets.now c.args.selector atoms);
      held = ap (take (length atoms)) held ∙ take_all (length atoms) atoms (omega arith);
      rows = omega (arith, ap length none);
      room = omega (arith, ap length held);
      deed = c.fill.ensures.deed ∙ c.clear.ensures.deed;
      notices = c.fill.ensures.notices ∙ c.clear.ensures.notices;
    }
