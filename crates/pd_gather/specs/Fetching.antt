-- Files as the shelf gives them, and what is known of them.
use Rattle.std.specs.Prelude.{ℕ, ◌≤◌, nat_le, List, ◌++◌, length, Option, Some, None, Result, Ok, Err, if◌then◌else◌, codes}
use Rattle.pd_io.specs.declared.shelves.TheConstants.{MAX_FILE}
use Rattle.pd_io.specs.declared.shelves.ShelfError.{ShelfError}
use Rattle.pd_io.specs.declared.shelves.ShelfError.TheVariants as shelf
use Rattle.pd_atom.specs.Names.{Names}
use Rattle.pd_canvas.specs.Pages.{Page}
use Rattle.pd_doc.specs.declared.refusal.DocRefusal.{DocRefusal}
use Rattle.pd_doc.specs.declared.refusal.DocRefusal.TheVariants as document
use Rattle.pd_doc.specs.Reading.{document_of}
use Rattle.pd_library.specs.declared.answers.Answer.{Answer}
use Rattle.pd_library.specs.declared.answers.Answer.TheVariants as answer
use Rattle.pd_gather.specs.declared.fetching.Fetch.{Fetch}
use Rattle.pd_gather.specs.declared.fetching.Fetch.TheVariants.{Absent, TooLong, Found}
use Rattle.pd_gather.specs.declared.refusal.GatherRefusal.{GatherRefusal}
use Rattle.pd_gather.specs.declared.refusal.GatherRefusal.TheVariants as gather

-- the file of an abstraction
abbrev pub file_of : List ℕ → List ℕ
file_of name = name ++ codes ".pd"

-- what a shelf gives that holds this
abbrev pub given : Option (List ℕ) → Fetch
given None = Absent
given (Some bytes) = if nat_le (length bytes) MAX_FILE then Found bytes else TooLong

-- the bytes are no more than a shelf hands out
abbrev pub IsHandedOut : Fetch → Type 0
IsHandedOut Absent = Unit {0}
IsHandedOut TooLong = Unit {0}
IsHandedOut (Found bytes) = length bytes ≤ MAX_FILE

-- the record that is refused
abbrev pub number_of : DocRefusal → ℕ
number_of (document.BadRecord n) = n
number_of (document.DataStructure n) = n
number_of (document.TooDeep n) = n
number_of (document.TooLong n) = n
number_of (document.TooManyBoxes n) = n
number_of (document.TooManyWires n) = n
number_of (document.SymbolsFull n) = n
number_of document.NoMemory = 0

-- what is known of a file that is read so, and the names after it: nothing where the table of names is full
abbrev pub answer_read : Names → Result (Page × Names) DocRefusal → Option (Answer × Names)
answer_read names (Ok r) = Some (answer.Found (record { root = r.0 }), r.1)
answer_read names (Err (document.SymbolsFull n)) = None
answer_read names (Err e) = Some (answer.Bad (number_of e), names)

-- What is known of a file that is fetched so, and the names after it: nothing where the table of names is full.
abbrev pub answer_given : Names → Fetch → Option (Answer × Names)
answer_given names Absent = Some (answer.Absent, names)
answer_given names TooLong = Some (answer.Bad 0, names)
answer_given names (Found bytes) = answer_read names (document_of names bytes)

-- the refusal where the shelf gives no answer
abbrev pub refusal_of : ShelfError → GatherRefusal
refusal_of shelf.Failed = gather.ShelfFault
refusal_of shelf.NoMemory = gather.NoMemory
