-- Numbers of boxes, and where a canvas is.
use Rattle.std.specs.Prelude.{ℕ, List, [], ◌∷◌, ◌++◌, ◌<◌, length, codes, decimal, Option, Some, None}
use Rattle.std.specs.List.{flat_map}
use Rattle.pd_atom.specs.Names.{Names, name_of}
use Rattle.pd_say.specs.declared.paths.CanvasPath.{CanvasPath}

-- a number and a mark before it
abbrev pub after_mark : ℕ → ℕ → List ℕ
after_mark mark n = mark ∷ decimal n

-- numbers, a mark before each
abbrev pub marked : ℕ → List ℕ → List ℕ
marked mark ns = flat_map (after_mark mark) ns

-- a path from the root canvas: a slash where it is empty, else a slash before each number
abbrev pub path_text : List ℕ → List ℕ
path_text [] = codes "/"
path_text (n ∷ ns) = marked 47 (n ∷ ns)

-- the name of a draft and a space, nothing for the running patch
abbrev pub document_text : Names → Option ℕ → List ℕ
document_text names None = []
document_text names (Some s) = name_of names s ++ codes " "

abbrev pub place_text : Names → Option ℕ → List ℕ → List ℕ
place_text names document path = document_text names document ++ path_text path

abbrev pub canvas_text : Names → CanvasPath → List ℕ
canvas_text names c = place_text names c.document c.path.now

-- the draft's name is of the table
abbrev pub DocumentOf : Names → Option ℕ → Type 0
DocumentOf names None = Unit {0}
DocumentOf names (Some s) = s < length names

abbrev pub CanvasOf : Names → CanvasPath → Type 0
CanvasOf names c = DocumentOf names c.document
