-- What contracts see of a stack of pending sends.
use Rattle.std.specs.Prelude.{List}
use Rattle.pd_atom.specs.declared.Atom.{Atom}
use Rattle.pd_stack.specs.declared.stack.Pending.{Pending}

-- the pending sends from the top down, and the atoms of their messages
pub record Pile : Type 0 where
  pub pendings : List Pending
  pub atoms : List Atom
