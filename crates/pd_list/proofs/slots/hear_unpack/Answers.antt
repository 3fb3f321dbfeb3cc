use Rattle.std.proofs.Common.{◌≡◌, ℕ, suc, ◌+◌, ◌-◌, ◌<◌, ◌≤◌, min, List, [], length, map, drop, sym, ◌∙◌, ap, arith}
use Rattle.pd_atom.specs.declared.Atom.{Atom}
use Rattle.pd_kind.specs.Forming.{atoms_with_selector}
use Rattle.pd_kind.specs.Rows.{send_of}
use Rattle.pd_kind.specs.declared.sends.SendRow.{SendRow}
use Rattle.pd_list.proofs.SlotLemmas.{unpacked_more, unpacked_none}
use Rattle.pd_list.proofs.slots.hear_unpack.Goals as goal

pub loop-i-init : goal.loop-i-init
loop-i-init c =
    let list : List Atom = atoms_with_selector c.args.selector c.args.atoms.now in
    let least : c.min-i.result ≡ min (length c.args.slots.now) (length list) = c.min-i.ensures ∙ ap (min (length c.args.slots.now)) c.list_length.ensures in
    record {
      slots = omega arith;
      atoms = omega arith;
      sends = ap (λ (rows : List SendRow). map (send_of c.clear.new.self.atoms) rows) c.clear.ensures.rows ∙ sym (unpacked_none c.args.slots.now list c.min-i.result least);
      rows = omega (arith, ap length c.clear.ensures.rows);
      room = omega (arith, ap length c.clear.ensures.atoms);
      deed = c.clear.ensures.deed;
      notices = c.clear.ensures.notices;
    }

pub loop-i-preserved : goal.loop-i-preserved
loop-i-preserved c =
    let list : List Atom = atoms_with_selector c.args.selector c.args.atoms.now in
    let next : c.loop-i.i ≡ suc (c.loop-i.i - 1) = omega arith in
    let within : c.loop-i.i - 1 < length c.args.slots.now = omega (arith, c.loop-i.invariant.slots) in
    record {
      slots = omega arith;
      atoms = omega arith;
      sends = c.send_slot.ensures.sends
          ∙ unpacked_more c.args.slots.now list c.loop-i.i (c.loop-i.i - 1) c.index-slots-i.result c.list_atom.result (map (send_of c.loop-i.out.atoms) c.loop-i.out.rows) next within c.index-slots-i.is c.list_atom.ensures c.loop-i.invariant.sends;
      rows = omega (arith, c.send_slot.ensures.rows, c.loop-i.invariant.rows);
      room = omega (arith, c.send_slot.ensures.room, c.loop-i.invariant.room);
      deed = c.send_slot.ensures.deed ∙ c.loop-i.invariant.deed;
      notices = c.send_slot.ensures.notices ∙ c.loop-i.invariant.notices;
    }
