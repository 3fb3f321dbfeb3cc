-- What is refused, and why.
use Rattle.std.specs.Prelude.{ℕ, Bool, true, false, List, ◌++◌, codes, decimal}
use Rattle.pd_say.specs.declared.refusals.Request.{Request}
use Rattle.pd_say.specs.declared.refusals.Request.TheVariants as request
use Rattle.pd_say.specs.declared.refusals.Why.{Why}
use Rattle.pd_say.specs.declared.refusals.Why.TheVariants as why

abbrev pub request_text : Request → List ℕ
request_text request.Edit = codes "edit"
request_text request.Save = codes "save"
request_text request.Undo = codes "undo"
request_text request.Redo = codes "redo"

-- the side of a box that lacks a port
abbrev pub side_text : Bool → List ℕ
side_text true = codes "no outlet "
side_text false = codes "no inlet "

abbrev pub why_text : Why → List ℕ
why_text why.NothingToUndo = codes "nothing to undo"
why_text why.NothingToRedo = codes "nothing to redo"
why_text why.NoDocument = codes "no document"
why_text why.NoCanvas = codes "no canvas"
why_text (why.NoBox number) = codes "no box " ++ decimal number
why_text (why.NoPort number port outlet) = (side_text outlet ++ decimal port) ++ (codes " at box " ++ decimal number)
why_text why.NoWire = codes "no wire"
why_text why.SignalIntoControl = codes "signal into control"
why_text why.TextTooLong = codes "text too long"
why_text why.TooDeep = codes "too deep"
why_text why.ShelfFault = codes "shelf fault"
why_text why.SymbolsFull = codes "too many symbols"
why_text why.TooManyBoxes = codes "too many boxes"
why_text why.TooManyWires = codes "too many wires"
why_text why.TooMuchSound = codes "too much sound"
why_text why.NoMemory = codes "out of memory"
