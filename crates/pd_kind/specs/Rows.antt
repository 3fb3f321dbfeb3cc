-- Sends as rows over one list of atoms.
use Rattle.std.specs.Prelude.{ℕ, Bool, ◌&&◌, nat_le, List, slice_range}
use Rattle.std.specs.List.{list_all}
use Rattle.pd_atom.specs.declared.Atom.{Atom}
use Rattle.pd_kind.specs.declared.messages.Target.{Target}
use Rattle.pd_kind.specs.declared.sends.SendRow.{SendRow}

-- a send: where its message goes, the message's selector and its atoms
pub record Send : Type 0 where
  pub target : Target
  pub selector : ℕ
  pub atoms : List Atom

-- the send of a row over these atoms
abbrev pub send_of : List Atom → SendRow → Send
send_of atoms row = record { target = row.target; selector = row.selector; atoms = slice_range atoms row.first row.after }

-- the atoms of each row are among so many
abbrev pub are_within : ℕ → List SendRow → Bool
are_within n rows = list_all (λ row. nat_le row.first row.after && nat_le row.after n) rows
