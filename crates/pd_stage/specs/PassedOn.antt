-- Boxes that come, go, move and become others: passed on to the crates above.
pub use Rattle.pd_putting.specs.Adds.{last_place, IsBoxPut, IsSubPut, IsPortBoxPut, IsPartBoxPut, HasCome, AddsBoxBy, IsNotPutBy, IsShortOfRoomBy, put_looks, keys_within, IsNotAddedBy, AddsBox, IsSub}
pub use Rattle.pd_putting.specs.declared.adding.NewBox.{NewBox}
pub use Rattle.pd_deleting.specs.declared.deleting.OldBox.{OldBox}
pub use Rattle.pd_deleting.specs.Deletes.{going, going_in, going_box, looks_gone, DeletesBox, IsNotDeleted, looks_around, part_gone, without_all, ClearsBox, TakesPort}
pub use Rattle.pd_shifting.specs.declared.shifting.MovedBox.{MovedBox}
pub use Rattle.pd_shifting.specs.Moves.{is_array_in, moving, moving_in, moving_box, ShiftsBox, MovesBox, IsNotMoved, Shifts, ShiftsPort, canvas_changed}
pub use Rattle.pd_retyping.specs.Asking.{put_instead}
pub use Rattle.pd_retyping.specs.declared.retyping.RetypedBox.{RetypedBox}
pub use Rattle.pd_retyping.specs.Retypes.{counts_but, Becomes, RetypesBox, HasBecome, TakesText, BoxWire, clocks_become, looks_become, RetypesBoxBy, IsNotRetypedBy, with_wires, cell_become}
