-- What growth looks up in the names is of the table.
use Rattle.std.specs.Prelude.{◌≡◌, ℕ, ◌<◌, List, length, Option, Some}
use Rattle.std.specs.List.{AllByRecursion}
use Rattle.pd_atom.specs.Names.{Names}
use Rattle.pd_atom.specs.Atoms.{IsOf}
use Rattle.pd_atom.specs.declared.Atom.{Atom}
use Rattle.pd_canvas.specs.declared.tree.Doc.{Doc}
use Rattle.pd_canvas.specs.Pages.{Boxes, End, Box, Entry, page_of}
use Rattle.pd_canvas.specs.Proper.{HoldsNone}
use Rattle.pd_library.specs.declared.answers.Answer.{Answer}
use Rattle.pd_library.specs.declared.answers.Answer.TheVariants.{Found}
use Rattle.pd_tree.specs.Trees.{Trees, Done, Leaf, Holder}
use Rattle.pd_growth.specs.Making.{Around}

abbrev pub AreOf : Names → List Atom → Type 0
AreOf names atoms = AllByRecursion (IsOf names) atoms

-- the texts of boxes, and of those inside them
abbrev pub TextsOf : Names → Boxes → Type 0
TextsOf names End = Unit {0}
TextsOf names (Box h f inner rest) = AreOf names h.text × TextsOf names inner × TextsOf names rest

pub record IsEntryOf (names : Names) (e : Entry) : Type 0 where
  pub text : AreOf names e.head.text
  pub inner : TextsOf names e.page.boxes

abbrev pub AreEntriesOf : Names → List Entry → Type 0
AreEntriesOf names es = AllByRecursion (IsEntryOf names) es

-- the texts of all documents of the library
pub record IsLibraryOf (names : Names) (lib : ℕ → Option Answer) : Type 0 where
  pub texts : (s : ℕ) (d : Doc) → lib s ≡ Some (Found d) → TextsOf names d.root.boxes

-- the arguments around, and the names of the abstractions around
pub record IsAroundOf (names : Names) (a : Around) : Type 0 where
  pub arguments : AreOf names a.arguments
  pub inside : AllByRecursion (λ s. s < length names) a.inside

-- where one library answers, the other answers so too
abbrev pub AnswersAlike : (ℕ → Option Answer) → (ℕ → Option Answer) → Type 0
AnswersAlike lib lib2 = (s : ℕ) (x : Answer) → lib s ≡ Some x → lib2 s ≡ Some x

-- each box that is no subpatch has the empty page beside it
abbrev pub HoldNone : Boxes → Type 0
HoldNone End = Unit {0}
HoldNone (Box h f inner rest) = HoldsNone h.form (page_of f inner) × HoldNone inner × HoldNone rest

-- the texts of running boxes, and the arguments of the canvases that they hold
abbrev pub TreesOf : Names → Trees → Type 0
TreesOf names Done = Unit {0}
TreesOf names (Leaf c rest) = AreOf names c.text × TreesOf names rest
TreesOf names (Holder c s inner rest) = AreOf names c.text × AreOf names s.arguments × TreesOf names inner × TreesOf names rest
