-- How a run ends: the exit code of each status, and the line that tells of it.
use Rattle.std.specs.Prelude.{ℕ, Bool, true, false, List, [], ◌++◌, codes, decimal}
use Rattle.pd_stage.specs.Stages.{Stage}
use Rattle.pd_play.specs.declared.status.Status.{Status}
use Rattle.pd_play.specs.declared.status.Status.TheVariants.{Done, Usage, PatchAbsent, PatchBad, ScriptBad, ReadFault, WriteFault, ShelfFault, NoMemory}
use Rattle.pd_engine.specs.declared.refusals.OpenRefusal.{OpenRefusal}
use Rattle.pd_engine.specs.declared.refusals.OpenRefusal.TheVariants as opening
use Rattle.pd_engine.specs.declared.refusals.BadCause.{BadCause}
use Rattle.pd_engine.specs.declared.refusals.BadCause.TheVariants.{BadRecord, DataStructure, TooDeep, TooLong, TooManyBoxes, TooManyWires, TooMuchSound, SymbolsFull}

abbrev pub code_of : Status → ℕ
code_of Done = 0
code_of Usage = 2
code_of PatchAbsent = 3
code_of (PatchBad number cause) = 4
code_of (ScriptBad number) = 5
code_of ReadFault = 6
code_of WriteFault = 7
code_of ShelfFault = 8
code_of NoMemory = 9

abbrev pub is_end : Status → Bool
is_end Done = true
is_end status = false

-- the words of a cause
unfoldable pub cause_text : BadCause → List ℕ
cause_text BadRecord = codes "bad record"
cause_text DataStructure = codes "data structure"
cause_text TooDeep = codes "too deep"
cause_text TooLong = codes "too long"
cause_text TooManyBoxes = codes "too many boxes"
cause_text TooManyWires = codes "too many wires"
cause_text TooMuchSound = codes "too much sound"
cause_text SymbolsFull = codes "too many symbols"

-- the line of a refused patch
unfoldable pub bad_text : List ℕ → ℕ → BadCause → List ℕ
bad_text name number cause = codes "error: " ++ (name ++ (codes ": record " ++ (decimal number ++ (codes ": " ++ (cause_text cause ++ codes "\n")))))

-- the line that tells of a status, where the patch has this name: none at the end of a run, nor where no line can be written
unfoldable pub status_line : List ℕ → Status → List ℕ
status_line name Done = []
status_line name Usage = codes "usage: pdplay [--rate R] [--make N] PATCH\n"
status_line name PatchAbsent = codes "error: " ++ (name ++ codes ": no such file\n")
status_line name (PatchBad number cause) = bad_text name number cause
status_line name (ScriptBad number) = codes "error: script record " ++ (decimal number ++ codes "\n")
status_line name ReadFault = codes "error: script read failed\n"
status_line name WriteFault = []
status_line name ShelfFault = codes "error: shelf failed\n"
status_line name NoMemory = codes "error: out of memory\n"

-- a run that is done has no last line but that of a made patch
abbrev pub no_line : Stage → List ℕ
no_line s = []

-- the last line of a run that ends by a status: where it is done, the one that tells what it came to
unfoldable pub last_line : List ℕ → (Stage → List ℕ) → Status → Stage → List ℕ
last_line name closing Done s = closing s
last_line name closing status s = status_line name status

-- how a run ends whose patch doesn't open
abbrev pub opened_as : OpenRefusal → Status
opened_as opening.Absent = PatchAbsent
opened_as (opening.Bad number cause) = PatchBad number cause
opened_as opening.ShelfFault = ShelfFault
opened_as opening.WriteFault = WriteFault
opened_as opening.NoMemory = NoMemory
