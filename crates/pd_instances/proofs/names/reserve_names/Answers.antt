use Rattle.std.proofs.Common.{◌≡◌, ◌+◌, ℕ, Some, length, take, sym, ap, ◌∙◌, subst}
use Rattle.std.proofs.lemmas.List.{take_all}
use Rattle.pd_name.specs.declared.Class.{Class}
use Rattle.pd_name.specs.Rows.{owners_of}
use Rattle.pd_tree.specs.Trees.{stands_in}
use Rattle.pd_owning.specs.Bound.{HasRoom}
use Rattle.pd_instances.specs.Room.{owning_among, owning_one}
use Rattle.pd_instances.proofs.OwningLemmas.{owned_next, room_next}
use Rattle.pd_instances.proofs.names.reserve_names.Goals as goal

pub loop-row-preserved : goal.loop-row-preserved
loop-row-preserved c =
    let rows = c.args.rows.now in
    let i = c.loop-row.row-index in
    let inv = c.loop-row.invariant in
    let R = c.reserve_next.ensures in
    let was : (class : Class) (name : ℕ) → ℕ = λ class name. owning_among c.args.symbols.now class name (stands_in (take i rows)) in
    let now : (class : Class) (name : ℕ) → ℕ = λ class name. owning_among c.args.symbols.now class name (stands_in (take (i + 1) rows)) in
    let next : (class : Class) (name : ℕ) → now class name ≡ was class name + owning_one class name c.name_of_row-owned.result = λ class name.
    owned_next c.args.symbols.now c.loop-row.symbols class name rows i c.row-item.result c.name_of_row-owned.result c.loop-row-test.true c.row-item.is inv.table c.name_of_row-owned.ensures.value in
    let many : (class : Class) (name : ℕ) → length (owners_of c.reserve_next.new.counted class name) ≡ now class name = λ class name.
    c.in_ok-reserve_next.ensures.counted class name ∙ ap (λ n. n + owning_one class name c.name_of_row-owned.result) (inv.counted class name) ∙ sym (next class name) in
    record {
      owners = λ class name. R.owners class name ∙ inv.owners class name;
      table = c.name_of_row-owned.ensures.table ∙ inv.table;
      counted = many;
      room = λ class name.
          room_next c.loop-row.names c.reserve_next.new.names c.reserve_next.new.counted c.name_of_row-owned.result class name (was class name) (now class name) R.owners R.others (inv.room class name)
          (next class name) (many class name) (c.in_ok-reserve_next.ensures.room class name);
    }

pub returns-clause-room : goal.returns-clause-room
returns-clause-room c = λ class name some.
    let e = ap (λ rs. owning_among c.args.symbols.now class name (stands_in rs)) (take_all c.loop-row.row-index c.args.rows.now c.loop-row-test.false) in
    subst (λ n. HasRoom c.loop-row.names (Some (class, name)) n) e (c.loop-row.invariant.room class name (λ z. some (sym e ∙ z)))
