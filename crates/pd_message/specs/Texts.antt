-- The messages of a message box's text.
use Rattle.std.specs.Prelude.{ℕ, Bool, true, false, List, [], ◌∷◌, ◌++◌, Option, Some, None, Result, Ok, Err, if◌then◌else◌}
use Rattle.std.specs.List.{slice_split}
use Rattle.pd_atom.specs.declared.Atom.{Atom}
use Rattle.pd_atom.specs.declared.Atom.TheVariants as atom
use Rattle.pd_atom.specs.declared.Expanded.{Expanded}
use Rattle.pd_atom.specs.declared.SymbolRefusal.{SymbolRefusal}
use Rattle.pd_atom.specs.Names.{Names, Outcome}
use Rattle.pd_atom.specs.Expansion.{expanded}
use Rattle.pd_kind.specs.declared.messages.Notice.{Notice}
use Rattle.pd_kind.specs.declared.messages.Notice.TheVariants.{NoArgument, NoReceiver, TableFull}
use Rattle.pd_kind.specs.declared.messages.Target.TheVariants as target
use Rattle.pd_kind.specs.Rows.{Send}
use Rattle.pd_kind.specs.Said.{Said}
use Rattle.pd_kind.specs.Forming.{message_send}
use Rattle.pd_message.specs.declared.pieces.Receiver.{Receiver}
use Rattle.pd_message.specs.declared.pieces.Receiver.TheVariants as receiver

abbrev pub is_comma : Atom → Bool
is_comma atom.Comma = true
is_comma _ = false

abbrev pub is_semi : Atom → Bool
is_semi atom.Semi = true
is_semi _ = false

-- the names, and what is said so far
pub record Run : Type 0 where
  pub names : Names
  pub said : Said

abbrev pub noted : Said → List Notice → Said
noted said notices = record { sends = said.sends; deed = said.deed; notices = said.notices ++ notices }

abbrev pub with_send : Said → Send → Said
with_send said send = record { sends = said.sends ++ send ∷ []; deed = said.deed; notices = said.notices }

abbrev pub missing_notices : Option ℕ → List Notice
missing_notices (Some n) = NoArgument n ∷ []
missing_notices None = []

-- a piece that is expanded so far, and whether the table of names had room
pub record Filling : Type 0 where
  pub run : Run
  pub atoms : List Atom
  pub fits : Bool

abbrev pub with_atom : Filling → Names → Result Expanded SymbolRefusal → Filling
with_atom x names (Ok e) = record { run = record { names = names; said = noted x.run.said (missing_notices e.missing) }; atoms = x.atoms ++ e.atom ∷ []; fits = true }
with_atom x names (Err r) = record { run = record { names = names; said = x.run.said }; atoms = x.atoms; fits = false }

-- one more atom, beside the arguments, with 0 as `$0`
abbrev pub expanded_with : List Atom → Filling → Atom → Filling
expanded_with args x a = let o : Outcome Expanded = expanded x.run.names a 0 args in with_atom x o.names o.answer

-- atom by atom, up to one for which the table of names has no room
abbrev pub filled_with : List Atom → Filling → List Atom → Filling
filled_with args x [] = x
filled_with args x (a ∷ piece) = if x.fits then filled_with args (expanded_with args x a) piece else x

-- What a receiver hears: the atoms' message, or in its place a notice.
abbrev pub delivered : Receiver → Said → List Atom → Said
delivered (receiver.Known t) said atoms = with_send said (message_send t atoms)
delivered (receiver.Wrong a) said atoms = noted said (NoReceiver a ∷ [])
delivered receiver.Full said atoms = noted said (TableFull ∷ [])

abbrev pub ended : Receiver → Filling → Run
ended to x = record { names = x.run.names; said = if x.fits then delivered to x.run.said x.atoms else noted x.run.said (TableFull ∷ []) }

abbrev pub started : Run → Filling
started run = record { run = run; atoms = []; fits = true }

-- a piece that isn't empty: it isn't expanded where its receiver's name had no room
abbrev pub filled_run : List Atom → Receiver → Run → List Atom → Run
filled_run args receiver.Full run piece = record { names = run.names; said = noted run.said (TableFull ∷ []) }
filled_run args to run piece = ended to (filled_with args (started run) piece)

-- an empty piece is skipped
abbrev pub piece_run : List Atom → Receiver → Run → List Atom → Run
piece_run args to run [] = run
piece_run args to run (a ∷ piece) = filled_run args to run (a ∷ piece)

abbrev pub pieces_run : List Atom → Receiver → Run → List (List Atom) → Run
pieces_run args to run [] = run
pieces_run args to run (p ∷ pieces) = pieces_run args to (piece_run args to run p) pieces

-- a comma ends a piece
abbrev pub segment_run : List Atom → Receiver → Run → List Atom → Run
segment_run args to run segment = pieces_run args to run (slice_split is_comma segment)

-- the receiver that an expanded atom is
abbrev pub receiver_at : Atom → Receiver
receiver_at (atom.Symbol s) = receiver.Known (target.Name s true)
receiver_at a = receiver.Wrong a

abbrev pub received : List Atom → Run → List Atom → Names → Result Expanded SymbolRefusal → Run
received args run segment names (Ok e) = segment_run args (receiver_at e.atom) (record { names = names; said = noted run.said (missing_notices e.missing) }) segment
received args run segment names (Err r) = segment_run args receiver.Full (record { names = names; said = run.said }) segment

-- Behind a semicolon the first atom names the receiver; an empty segment is skipped.
abbrev pub named_run : List Atom → Run → List Atom → Run
named_run args run [] = run
named_run args run (a ∷ segment) = let o : Outcome Expanded = expanded run.names a 0 args in received args run segment o.names o.answer

abbrev pub named_runs : List Atom → Run → List (List Atom) → Run
named_runs args run [] = run
named_runs args run (s ∷ segments) = named_runs args (named_run args run s) segments

-- The messages before the first semicolon go to outlet 0.
abbrev pub segments_run : List Atom → Run → List (List Atom) → Run
segments_run args run [] = run
segments_run args run (s ∷ segments) = named_runs args (segment_run args (receiver.Known (target.Outlet 0)) run s) segments

-- a semicolon ends a segment
abbrev pub text_run : List Atom → Run → List Atom → Run
text_run args run text = segments_run args run (slice_split is_semi text)
