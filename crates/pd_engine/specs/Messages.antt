-- The message that the atoms of a command make.
use Rattle.std.specs.Prelude.{◌≡◌, ℕ, pos, List, ◌∷◌, length, nat_lt, ◌==◌, if◌then◌else◌}
use Rattle.pd_atom.specs.declared.Atom.{Atom}
use Rattle.pd_atom.specs.declared.Atom.TheVariants as atom
use Rattle.pd_kind.specs.declared.messages.Target.TheVariants.{Outlet}
use Rattle.pd_kind.specs.Rows.{Send}
use Rattle.pd_kind.specs.Forming.{message_send, cut_atoms, float_in, symbol_of}
use Rattle.pd_engine.specs.declared.messages.Formed.{Formed}

-- the message, before it is cut
abbrev pub message_in : List Atom → Send
message_in atoms = message_send (Outlet 0) atoms

-- the one atom of a message that begins with `float` or `symbol`
abbrev pub one_of : ℕ → List Atom → Atom
one_of selector atoms = if selector == 2 then atom.Symbol (symbol_of atoms) else atom.Number (float_in atoms)

abbrev pub one_in : List Atom → Atom
one_in (atom.Symbol s ∷ atoms) = one_of s atoms
one_in atoms = atom.Number (pos 0)

-- a message of at most 1,024 atoms, and whether it had more
pub record Forms (f : Formed) (s : Send) : Type 0 where
  pub selector : f.selector ≡ s.selector
  pub atoms : f.atoms.now ≡ cut_atoms s.atoms
  pub is_cut : f.is_cut ≡ nat_lt 1024 (length s.atoms)
