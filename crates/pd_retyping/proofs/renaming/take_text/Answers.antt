use Rattle.std.proofs.Common.{sym, ap, ◌∙◌}
use Rattle.pd_retyping.specs.Retypes.{with_wires}
use Rattle.pd_boxes.proofs.RoomLemmas.{room_put}
use Rattle.pd_refitting.proofs.WireLemmas.{meet_by}
use Rattle.pd_retyping.proofs.BecomeLemmas.{room_wires, room_zero}
use Rattle.pd_retyping.proofs.TakeLemmas.{could, got_text, one_row, q_meet, q_put, q_wires, q_zero, room_could, row_sub, same_room}
use Rattle.pd_retyping.proofs.renaming.take_text.Goals as goal

pub one_of-row-requires : goal.one_of-row-requires
one_of-row-requires c = record { one = one_row c.args.patch.now c.args.key c.args.grown c.requires.takes }

pub reserve_name-requires-clause-can : goal.reserve_name-requires-clause-can
reserve_name-requires-clause-can c = (c.requires.takes.node, could c.args.patch.now c.args.key c.args.grown c.requires.takes)

pub reserve_name-requires-clause-row : goal.reserve_name-requires-clause-row
reserve_name-requires-clause-row c = row_sub c.args.patch.now c.args.key c.args.grown c.requires.takes c.one_of-row.result c.one_of-row.ensures

pub rename-requires-clause-can : goal.rename-requires-clause-can
rename-requires-clause-can c = (
  c.requires.takes.node,
  room_could c.args.patch.now c.args.key c.args.grown c.requires.takes c.one_of-row.result c.one_of-row.ensures c.reserve_name.new.patch c.reserve_name.ensures.same c.in-Ok.room c.in-Ok.ensures.names,
)

pub rename-requires-clause-room : goal.rename-requires-clause-room
rename-requires-clause-room c = same_room c.reserve_name.new.patch c.in-Ok.room c.reserve_name.new.symbols c.args.symbols.now c.reserve_name.ensures.table c.in-Ok.ensures.room

pub returns-clause-took : goal.returns-clause-took
returns-clause-took c = λ n a is A G.
    got_text c.args.patch.now c.args.key c.args.grown c.requires.takes c.one_of-row.result c.one_of-row.ensures c.reserve_name.new.patch c.reserve_name.ensures.same c.in-Ok.room c.in-Ok.ensures.names
    c.rename.new.patch c.reserve_name.new.symbols c.args.symbols.now c.reserve_name.ensures.table c.rename.ensures.renamed n a is A G

pub returns-clause-counts : goal.returns-clause-counts
returns-clause-counts c =
    c.counts_left-counts.ensures ∙ ap (with_wires c.args.grown.counts) (c.requires.counted
    ∙ sym (q_wires c.args.patch.now c.args.key c.args.grown c.requires.takes c.one_of-row.result c.one_of-row.ensures c.reserve_name.new.patch c.reserve_name.ensures.same c.in-Ok.room c.in-Ok.ensures.names
    c.rename.new.patch c.reserve_name.new.symbols c.args.symbols.now c.reserve_name.ensures.table c.rename.ensures.renamed))

pub returns-clause-goes_on : goal.returns-clause-goes_on
returns-clause-goes_on c =
    q_put c.args.patch.now c.args.key c.args.grown c.requires.takes c.one_of-row.result c.one_of-row.ensures c.reserve_name.new.patch c.reserve_name.ensures.same c.in-Ok.room c.in-Ok.ensures.names
    c.rename.new.patch c.reserve_name.new.symbols c.args.symbols.now c.reserve_name.ensures.table c.rename.ensures.renamed

pub returns-clause-meet : goal.returns-clause-meet
returns-clause-meet c =
    q_meet c.args.patch.now c.args.key c.args.grown c.requires.takes c.one_of-row.result c.one_of-row.ensures c.reserve_name.new.patch c.reserve_name.ensures.same c.in-Ok.room c.in-Ok.ensures.names
    c.rename.new.patch c.reserve_name.new.symbols c.args.symbols.now c.reserve_name.ensures.table c.rename.ensures.renamed c.requires.meet

pub returns-clause-as_many : goal.returns-clause-as_many
returns-clause-as_many c =
    q_wires c.args.patch.now c.args.key c.args.grown c.requires.takes c.one_of-row.result c.one_of-row.ensures c.reserve_name.new.patch c.reserve_name.ensures.same c.in-Ok.room c.in-Ok.ensures.names
    c.rename.new.patch c.reserve_name.new.symbols c.args.symbols.now c.reserve_name.ensures.table c.rename.ensures.renamed

pub returns-clause-zero : goal.returns-clause-zero
returns-clause-zero c =
    q_zero c.args.patch.now c.args.key c.args.grown c.requires.takes c.one_of-row.result c.one_of-row.ensures c.reserve_name.new.patch c.reserve_name.ensures.same c.in-Ok.room c.in-Ok.ensures.names
    c.rename.new.patch c.reserve_name.new.symbols c.args.symbols.now c.reserve_name.ensures.table c.rename.ensures.renamed

pub returns-clause-table : goal.returns-clause-table
returns-clause-table c = c.rename.ensures.table ∙ c.reserve_name.ensures.table

pub returns-in_default-clause-goes_on : goal.returns-in_default-clause-goes_on
returns-in_default-clause-goes_on c = room_put c.args.patch.now c.reserve_name.new.patch c.reserve_name.ensures.same c.requires.takes.can

pub returns-in_default-clause-meet : goal.returns-in_default-clause-meet
returns-in_default-clause-meet c =
    meet_by c.args.patch.now.web c.reserve_name.new.patch.web c.reserve_name.ensures.same.web.fans c.reserve_name.ensures.same.web.feeds c.requires.meet

pub returns-in_default-clause-as_many : goal.returns-in_default-clause-as_many
returns-in_default-clause-as_many c = room_wires c.args.patch.now c.reserve_name.new.patch c.reserve_name.ensures.same

pub returns-in_default-clause-zero : goal.returns-in_default-clause-zero
returns-in_default-clause-zero c = room_zero c.args.patch.now c.reserve_name.new.patch c.reserve_name.ensures.same
