use Rattle.std.proofs.Common.{List, sym, subst}
use Rattle.pd_web.specs.declared.sockets.Port.{Port}
use Rattle.pd_ports.specs.Ends.{AreLive, Drops, IsAmong}
use Rattle.pd_ports.proofs.EndLemmas.{inlets_live, outlets_live, drops_both}
use Rattle.pd_ports.proofs.ends.drop_ends.Goals as goal

pub drop_side-requires : goal.drop_side-requires
drop_side-requires c =
    let P : List Port → Type 0 = λ ports. AreLive c.args.book.now ports in subst P (sym c.as_slice.ensures.value) (inlets_live c.args.book.now c.args.own.now c.requires)

pub drop_side-requires-2 : goal.drop_side-requires-2
drop_side-requires-2 c =
    let P : List Port → Type 0 = λ ports. AreLive c.drop_side.new.book ports in
    let Q : List Port → Type 0 = λ ports. Drops c.args.book.now c.drop_side.new.book (IsAmong ports) in
    subst P (sym c.as_slice-2.ensures.value) (outlets_live c.args.book.now c.drop_side.new.book c.args.own.now c.requires (subst Q c.as_slice.ensures.value c.drop_side.ensures))

pub returns : goal.returns
returns c =
    let Q : List Port → Type 0 = λ ports. Drops c.args.book.now c.drop_side.new.book (IsAmong ports) in
    let R : List Port → Type 0 = λ ports. Drops c.drop_side.new.book c.drop_side-2.new.book (IsAmong ports) in
    drops_both c.args.book.now c.drop_side.new.book c.drop_side-2.new.book c.args.own.now (subst Q c.as_slice.ensures.value c.drop_side.ensures)
    (subst R c.as_slice-2.ensures.value c.drop_side-2.ensures)
