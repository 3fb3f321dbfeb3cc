-- Documents that can grow.
use Rattle.std.specs.Prelude.{ℕ, ◌+◌, ◌≤◌, List, length, Option, Some}
use Rattle.std.specs.List.{All}
use Rattle.pd_atom.specs.Names.{Names}
use Rattle.pd_atom.specs.Atoms.{IsOf}
use Rattle.pd_atom.specs.declared.Atom.{Atom}
use Rattle.pd_object.specs.Ports.{IsSmallKind}
use Rattle.pd_canvas.specs.Pages.{Boxes, End, Box, Page, Entry, weight}
use Rattle.pd_canvas.specs.Proper.{levels, levels_of}
use Rattle.pd_library.specs.declared.answers.Answer.{Answer}
use Rattle.pd_library.specs.declared.answers.Answer.TheVariants.{Found}
use Rattle.pd_tree.specs.declared.rows.Row.{Row}

-- the atoms of a text are of the table, and no more than 1,024
abbrev pub TextSuits : Names → List Atom → Type 0
TextSuits names text = All (IsOf names) text × (length text ≤ 1024)

-- the texts of these boxes, and of those inside them
abbrev pub TextsSuit : Names → Boxes → Type 0
TextsSuit names End = Unit {0}
TextsSuit names (Box h f inner rest) = TextSuits names h.text × TextsSuit names inner × TextsSuit names rest

-- a document's texts, and no more than 16,384 boxes
abbrev pub PageSuits : Names → Page → Type 0
PageSuits names p = TextsSuit names p.boxes × (weight p.boxes ≤ 16384)

-- a box, in which so many canvases lie in one another at most
abbrev pub EntrySuits : Names → ℕ → Entry → Type 0
EntrySuits names left e = TextSuits names e.head.text × PageSuits names e.page × (levels_of e.head.form (levels e.page.boxes) ≤ left)

-- a patch's own document: 256 canvases in one another at most
abbrev pub RootSuits : Names → Page → Type 0
RootSuits names p = PageSuits names p × (levels p.boxes + 1 ≤ 256)

-- the document that is found, where one is
abbrev pub AnswerSuits : Names → Option Answer → Type 0
AnswerSuits names (Some (Found d)) = PageSuits names d.root
AnswerSuits names _ = Unit {0}

-- each document that is found
abbrev pub FilesSuit : Names → (ℕ → Option Answer) → Type 0
FilesSuit names lib = (name : ℕ) → AnswerSuits names (lib name)

-- a grown box
abbrev pub RowSuits : Names → Row → Type 0
RowSuits names r = TextSuits names r.text × IsSmallKind r.kind
