-- What the code's lists hold of a text that runs, and their room.
use Rattle.std.specs.Prelude.{ℕ, ◌+◌, ◌*◌, ◌≤◌, Bool, length, drop}
use Rattle.pd_atom.specs.Names.{Names}
use Rattle.pd_kind.specs.declared.sends.Sends.{Sends}
use Rattle.pd_kind.specs.Said.{said_by}
use Rattle.pd_message.specs.Texts.{Run, Filling}

abbrev pub run_of : Names → Sends → Run
run_of names out = record { names = names; said = said_by out }

-- a piece's atoms stand from a place on
abbrev pub filling_of : Names → ℕ → Sends → Bool → Filling
filling_of names first out fits = record { run = run_of names out; atoms = drop first out.atoms; fits = fits }

-- room for what so many atoms of a text say: a send and two atoms and two notices for each
pub record HasRoom (out : Sends) (count : ℕ) : Type 0 where
  pub rows : length out.rows + count ≤ 1024
  pub atoms : length out.atoms + 2 * count ≤ 2048
  pub notices : length out.notices + 2 * count ≤ 2048

-- no more is taken than so many atoms take
pub record Takes (old new : Sends) (count : ℕ) : Type 0 where
  pub rows : length new.rows ≤ length old.rows + count
  pub atoms : length new.atoms ≤ length old.atoms + 2 * count
  pub notices : length new.notices ≤ length old.notices + 2 * count
