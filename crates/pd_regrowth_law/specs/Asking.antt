-- Which boxes ask for a file, and libraries that answer otherwise for one name.
use Rattle.std.specs.Prelude.{◌≡◌, ℕ, Bool, true, false, ◌==◌, ◌&&◌, ◌||◌, List, ◌∷◌, Option, Some, is_some}
use Rattle.pd_atom.specs.declared.Atom.{Atom}
use Rattle.pd_atom.specs.declared.Atom.TheVariants as atom
use Rattle.pd_atom.specs.Names.{Names}
use Rattle.pd_object.specs.declared.kinds.Kind.{Kind}
use Rattle.pd_object.specs.declared.kinds.Kind.TheVariants as kind
use Rattle.pd_object.specs.declared.kinds.Named.{Named}
use Rattle.pd_object.specs.declared.kinds.Named.TheVariants as named
use Rattle.pd_naming.specs.Naming.{named_by}
use Rattle.pd_canvas.specs.Pages.{Shape, Obj}
use Rattle.pd_library.specs.declared.answers.Answer.{Answer}
use Rattle.pd_tree.specs.declared.rows.Fault.{Fault}
use Rattle.pd_tree.specs.Trees.{Cell, Trees, Done, Leaf, Holder}

abbrev pub begins_with : ℕ → List Atom → Bool
begins_with name (atom.Symbol s ∷ atoms) = s == name
begins_with name atoms = false

abbrev pub is_canvas : Kind → Bool
is_canvas kind.Canvas = true
is_canvas k = false

-- an object that holds a canvas or isn't made asks for the file of the name with which its text begins
abbrev pub asks_by : ℕ → Shape → List Atom → Kind → Option Fault → Bool
asks_by name Obj text k fault = (is_canvas k || is_some fault) && begins_with name text
asks_by name form text k fault = false

abbrev pub cell_asks : ℕ → Cell → Bool
cell_asks name c = asks_by name c.head.form c.text c.kind c.fault

-- the text names this abstraction
abbrev pub is_abstraction : ℕ → Named → Bool
is_abstraction name (named.Abstraction s) = s == name
is_abstraction name n = false

abbrev pub names_file : Names → ℕ → Shape → List Atom → Bool
names_file names name Obj text = is_abstraction name (named_by names text)
names_file names name form text = false

-- each box asks for the file of the abstraction that its text names, and no other box asks
abbrev pub AskAsNamed : Names → Trees → Type 0
AskAsNamed names Done = Unit {0}
AskAsNamed names (Leaf c rest) = ((name : ℕ) → cell_asks name c ≡ names_file names name c.head.form c.text) × AskAsNamed names rest
AskAsNamed names (Holder c s inner rest) =
    ((name : ℕ) → cell_asks name c ≡ names_file names name c.head.form c.text) × AskAsNamed names inner × AskAsNamed names rest

-- one of these boxes, or of those inside them, asks for the file of this name
abbrev pub asks_for : ℕ → Trees → Bool
asks_for name Done = false
asks_for name (Leaf c rest) = cell_asks name c || asks_for name rest
asks_for name (Holder c s inner rest) = cell_asks name c || (asks_for name inner || asks_for name rest)

-- where one library answers, the other answers so too, but for this name
abbrev pub AnswersAlikeBut : ℕ → (ℕ → Option Answer) → (ℕ → Option Answer) → Type 0
AnswersAlikeBut name lib lib2 = (s : ℕ) (x : Answer) → (s ≡ name → ⊥) → lib s ≡ Some x → lib2 s ≡ Some x
