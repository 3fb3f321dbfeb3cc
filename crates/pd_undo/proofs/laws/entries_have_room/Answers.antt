use Rattle.pd_undo.proofs.EntryLemmas.{edit_entry, inverse_entry, entry_room}
use Rattle.pd_undo.proofs.laws.entries_have_room.Goals as goal

pub returns-clause-edits : goal.returns-clause-edits
returns-clause-edits c = edit_entry

pub returns-clause-inverse : goal.returns-clause-inverse
returns-clause-inverse c = inverse_entry

pub returns-clause-room : goal.returns-clause-room
returns-clause-room c = entry_room
