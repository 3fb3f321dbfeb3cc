-- What a history keeps to.
use Rattle.std.specs.Prelude.{◌≡◌, ◌+◌, ◌≤◌, length}
use Rattle.pd_undo.specs.Histories.{most}
use Rattle.pd_undo.specs.declared.history.History.TheInside.{Inside}

-- there is room for the most entries of each kind, and there are no more in all
pub record IsKept (h : Inside) : Type 0 where
  pub undo_room : h.undo.capacity ≡ most
  pub redo_room : h.redo.capacity ≡ most
  pub few : length h.undo.items + length h.redo.items ≤ most
