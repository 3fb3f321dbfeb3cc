-- The document that a text stands for.
use Rattle.std.specs.Prelude.{ℕ, ◌+◌, Bool, not, List, [], ◌∷◌, length, Result, Ok, Err}
use Rattle.std.specs.List.{list_all}
use Rattle.pd_lex.specs.Text.{Piece, is_space}
use Rattle.pd_lex.specs.Reading.{records, rest_of}
use Rattle.pd_atom.specs.Names.{Names}
use Rattle.pd_canvas.specs.Pages.{Page}
use Rattle.pd_doc.specs.declared.refusal.DocRefusal.{DocRefusal}
use Rattle.pd_doc.specs.declared.refusal.DocRefusal.TheVariants.{BadRecord}
use Rattle.pd_doc.specs.Results.{◌>>=◌, refuse_if}
use Rattle.pd_doc.specs.States.{Level, State, start, page_of_level}
use Rattle.pd_doc.specs.Records.{Reading, record_of}

-- a record, of which an empty one does nothing
abbrev pub any_record : State × Names → ℕ → List Piece → Reading
any_record s n [] = Ok s
any_record s n (p ∷ ps) = record_of s.0 s.1 n (p ∷ ps)

-- the records in order, numbered behind n, the empty ones too
unfoldable pub run : State × Names → ℕ → List (List Piece) → Reading
run s n [] = Ok s
run s n (r ∷ rs) = any_record s (n + 1) r >>= (λ t. run t (n + 1) rs)

-- the root, where no other canvas is open
abbrev pub root_of : List Level → Result Page DocRefusal
root_of [] = Err (BadRecord 1)
root_of (l ∷ []) = Ok (page_of_level l)
root_of (l ∷ m ∷ ls) = Err (BadRecord l.number)

-- the document behind n records, where nothing but white space is left
abbrev pub root_at : ℕ → Bool → List Level → Result Page DocRefusal
root_at n blank levels = refuse_if (not blank) (BadRecord (n + 1)) >>= (λ _. root_of levels)

-- The document of a text and the names after it, or the first refusal. The names of its atoms that are new to the table go last.
unfoldable pub document_of : Names → List ℕ → Result (Page × Names) DocRefusal
document_of names text =
    run (start, names) 0 (records text) >>= (λ s.
    root_at (length (records text)) (list_all is_space (rest_of text)) s.0.levels >>= (λ page. Ok (page, s.1)))
