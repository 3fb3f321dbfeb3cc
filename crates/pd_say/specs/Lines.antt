-- The text of each line, and which lines name only what is of a table.
use Rattle.std.specs.Prelude.{ℕ, List, [], ◌∷◌, ◌++◌, ◌<◌, length, codes, decimal}
use Rattle.std.specs.List.{All, concat}
use Rattle.pd_atom.specs.Names.{Names, name_of}
use Rattle.pd_atom.specs.Atoms.{IsOf, spelled}
use Rattle.pd_atom.specs.declared.Atom.{Atom}
use Rattle.pd_kind.specs.declared.messages.Notice.{Notice}
use Rattle.pd_kind.specs.declared.messages.Notice.TheVariants as notice
use Rattle.pd_object.specs.RowNames.{row_name}
use Rattle.pd_say.specs.declared.paths.CanvasPath.{CanvasPath}
use Rattle.pd_say.specs.declared.lines.Line.{Line}
use Rattle.pd_say.specs.declared.lines.Line.TheVariants.{Print, NoMethod, NoCanvasMethod, StackOverflow, EventCut, NoObject, NoArgument, MessageCut, TextFull, TableFull, QueueFull, BadArguments, NotMade, BadFile, InsideItself, TooDeep, TooManyRamps, NoFit, SignalLoop, Refused, Chain, Stuck, NoCanvas}
use Rattle.pd_say.specs.Messages.{words_text, message_text}
use Rattle.pd_say.specs.Paths.{canvas_text, marked, CanvasOf}
use Rattle.pd_say.specs.Refusals.{request_text, why_text}
use Rattle.pd_say.specs.declared.lines.Ends.{Ends}
use Rattle.pd_say.specs.declared.refusals.Request.{Request}
use Rattle.pd_say.specs.declared.refusals.Why.{Why}

-- an error of the objects of a kind with a selector
abbrev pub selector_error : Names → List ℕ → List ℕ → ℕ → List ℕ
selector_error names kind complaint selector = concat (codes "error: " ∷ kind ∷ complaint ∷ name_of names selector ∷ codes "'\n" ∷ [])

-- an error with what an atom names
abbrev pub named_error : Names → Atom → List ℕ → List ℕ
named_error names atom complaint = concat (codes "error: " ∷ spelled names atom ∷ complaint ∷ [])

-- a canvas with the numbers of boxes
abbrev pub boxes_line : Names → List ℕ → CanvasPath → List ℕ → List ℕ
boxes_line names word canvas boxes = concat (word ∷ canvas_text names canvas ∷ codes ":" ∷ marked 32 boxes ∷ codes "\n" ∷ [])

-- the line of a print
abbrev pub print_line : Names → List Atom → ℕ → List Atom → List ℕ
print_line names words selector atoms = concat (words_text names words ∷ codes ": " ∷ message_text names selector atoms ∷ codes "\n" ∷ [])

-- an argument that is missing
abbrev pub argument_error : ℕ → List ℕ
argument_error number = concat (codes "error: $" ∷ decimal number ∷ codes ": no such argument\n" ∷ [])

-- a file that is refused at a record
abbrev pub file_error : Names → Atom → ℕ → List ℕ
file_error names name number = concat (codes "error: " ∷ spelled names name ∷ codes ": bad file at record " ∷ decimal number ∷ codes "\n" ∷ [])

-- a wire that is left out
abbrev pub wire_error : Names → Ends → CanvasPath → List ℕ
wire_error names w canvas =
    concat (codes "error: wire " ∷ decimal w.source ∷ codes " " ∷ decimal w.outlet ∷ codes " " ∷ decimal w.sink ∷ codes " " ∷ decimal w.inlet ∷
    codes " does not fit at " ∷ canvas_text names canvas ∷ codes "\n" ∷ [])

-- what was asked for isn't done
abbrev pub refusal_text : Request → Why → List ℕ
refusal_text request why = concat (codes "error: " ∷ request_text request ∷ codes " refused: " ∷ why_text why ∷ codes "\n" ∷ [])

-- the text of a line, with its line feed
unfoldable pub text_of : Names → Line → List ℕ
text_of names (Print words message) = print_line names words.now message.selector message.atoms.now
text_of names (NoMethod row selector) = selector_error names (row_name row) (codes ": no method for '") selector
text_of names (NoCanvasMethod selector) = selector_error names (codes "pd") (codes ": no method for '") selector
text_of names StackOverflow = codes "error: stack overflow\n"
text_of names EventCut = codes "error: event cut at 1000000 deliveries\n"
text_of names (NoObject name) = named_error names name (codes ": no such object\n")
text_of names (NoArgument number) = argument_error number
text_of names MessageCut = codes "error: message cut at 1024 atoms\n"
text_of names TextFull = codes "error: msg: text full\n"
text_of names TableFull = codes "error: symbol table full\n"
text_of names QueueFull = codes "error: edit queue full\n"
text_of names (BadArguments selector) = selector_error names (codes "pd") (codes ": bad arguments for '") selector
text_of names (NotMade name) = named_error names name (codes ": couldn't create\n")
text_of names (BadFile name number) = file_error names name number
text_of names (InsideItself name) = named_error names name (codes ": inside itself\n")
text_of names (TooDeep name) = named_error names name (codes ": too deep\n")
text_of names TooManyRamps = codes "error: vline~: too many ramps\n"
text_of names (NoFit wire canvas) = wire_error names wire canvas
text_of names (SignalLoop canvas boxes) = boxes_line names (codes "error: signal loop at ") canvas boxes.now
text_of names (Refused request why) = refusal_text request why
text_of names (Chain canvas boxes) = boxes_line names (codes "chain ") canvas boxes.now
text_of names (Stuck canvas boxes) = boxes_line names (codes "stuck ") canvas boxes.now
text_of names NoCanvas = codes "error: show: no canvas\n"

-- the atoms and symbols of a line are of the table
abbrev pub LineOf : Names → Line → Type 0
LineOf names (Print words message) =
    All (λ a. IsOf names a) words.now × ((message.selector < length names) × All (λ a. IsOf names a) message.atoms.now)
LineOf names (NoMethod row selector) = selector < length names
LineOf names (NoCanvasMethod selector) = selector < length names
LineOf names StackOverflow = Unit {0}
LineOf names EventCut = Unit {0}
LineOf names (NoObject name) = IsOf names name
LineOf names (NoArgument number) = Unit {0}
LineOf names MessageCut = Unit {0}
LineOf names TextFull = Unit {0}
LineOf names TableFull = Unit {0}
LineOf names QueueFull = Unit {0}
LineOf names (BadArguments selector) = selector < length names
LineOf names (NotMade name) = IsOf names name
LineOf names (BadFile name number) = IsOf names name
LineOf names (InsideItself name) = IsOf names name
LineOf names (TooDeep name) = IsOf names name
LineOf names TooManyRamps = Unit {0}
LineOf names (NoFit wire canvas) = CanvasOf names canvas
LineOf names (SignalLoop canvas boxes) = CanvasOf names canvas
LineOf names (Refused request why) = Unit {0}
LineOf names (Chain canvas boxes) = CanvasOf names canvas
LineOf names (Stuck canvas boxes) = CanvasOf names canvas
LineOf names NoCanvas = Unit {0}

-- the line of a notice
abbrev pub notice_line : Notice → Line
notice_line (notice.NoMethod row selector) = NoMethod row selector
notice_line (notice.NoArgument number) = NoArgument number
notice_line (notice.NoReceiver name) = NoObject name
notice_line notice.MessageCut = MessageCut
notice_line notice.TextFull = TextFull
notice_line notice.TableFull = TableFull
notice_line notice.TooManyRamps = TooManyRamps
