-- What a hearing gives beside the new state: sends, a deed and notices.
use Rattle.std.specs.Prelude.{ℕ, ℤ, List, [], ◌∷◌, map}
use Rattle.pd_atom.specs.declared.Atom.{Atom}
use Rattle.pd_atom.specs.declared.Atom.TheVariants.{Number, Symbol}
use Rattle.pd_kind.specs.declared.messages.Target.TheVariants.{Outlet}
use Rattle.pd_kind.specs.declared.messages.Deed.{Deed}
use Rattle.pd_kind.specs.declared.messages.Deed.TheVariants.{Nothing}
use Rattle.pd_kind.specs.declared.messages.Notice.{Notice}
use Rattle.pd_kind.specs.declared.messages.Notice.TheVariants.{NoMethod}
use Rattle.pd_object.specs.declared.row_names.Row.{Row}
use Rattle.pd_kind.specs.declared.sends.Sends.{Sends}
use Rattle.pd_kind.specs.Rows.{Send, send_of}

pub record Said : Type 0 where
  pub sends : List Send
  pub deed : Deed
  pub notices : List Notice

-- what the code's lists say
abbrev pub said_by : Sends → Said
said_by s = record { sends = map (send_of s.atoms) s.rows; deed = s.deed; notices = s.notices }

abbrev pub silent : Said
silent = record { sends = []; deed = Nothing; notices = [] }

-- sends and nothing else
abbrev pub sends_only : List Send → Said
sends_only sends = record { sends = sends; deed = Nothing; notices = [] }

abbrev pub send_to : ℕ → ℕ → List Atom → Send
send_to outlet selector atoms = record { target = Outlet outlet; selector = selector; atoms = atoms }

-- a bang, a number and a symbol to an outlet; their selectors are the first names of every table
abbrev pub bang_to : ℕ → Send
bang_to outlet = send_to outlet 0 []

abbrev pub number_to : ℕ → ℤ → Send
number_to outlet z = send_to outlet 1 (Number z ∷ [])

abbrev pub symbol_to : ℕ → ℕ → Send
symbol_to outlet s = send_to outlet 2 (Symbol s ∷ [])

-- the row's objects have no method for the selector
abbrev pub deaf : Row → ℕ → Said
deaf row selector = record { sends = []; deed = Nothing; notices = NoMethod row selector ∷ [] }
