-- What a box of a document makes.
use Rattle.std.specs.Prelude.{ℕ, ◌+◌, ◌==◌, Bool, true, false, ◌||◌, List, [], ◌∷◌, Option, Some, None, Result, Ok, Err, if◌then◌else◌, nat_lt, bytes_eq}
use Rattle.std.specs.List.{list_any}
use Rattle.pd_atom.specs.declared.Atom.{Atom}
use Rattle.pd_atom.specs.Names.{Names, name_of}
use Rattle.pd_object.specs.declared.kinds.Kind.{Kind}
use Rattle.pd_object.specs.declared.kinds.Kind.TheVariants as kind
use Rattle.pd_object.specs.declared.kinds.Named.{Named}
use Rattle.pd_object.specs.declared.kinds.Named.TheVariants as named
use Rattle.pd_object.specs.declared.kinds.Glue.TheVariants as glue
use Rattle.pd_naming.specs.Naming.{named_by}
use Rattle.pd_canvas.specs.Pages.{Shape, Obj, Msg, Comment, FloatBox, SymbolBox, Sub, Array, Other, Page}
use Rattle.pd_canvas.specs.Proper.{levels}
use Rattle.pd_library.specs.declared.answers.Answer.{Answer}
use Rattle.pd_library.specs.declared.answers.Answer.TheVariants.{Found, Absent, Bad}
use Rattle.pd_tree.specs.declared.rows.Fault.{Fault}
use Rattle.pd_tree.specs.declared.rows.Fault.TheVariants.{Unknown, InsideItself, BadFile, TooDeep}
use Rattle.pd_growth.specs.declared.growing.Stop.{Stop}
use Rattle.pd_growth.specs.declared.growing.Stop.TheVariants.{Lacks}

-- what is around a box: the `$0` and the arguments that its text sees, the names of the abstractions in which it lies, the innermost
-- first, and whether it is in the patch's own document
pub record Around : Type 0 where
  pub zero : ℕ
  pub arguments : List Atom
  pub inside : List ℕ
  pub is_top : Bool

-- what a box makes: an object or a box that isn't made, the canvas that its document has, or the canvas of a file
pub data Making : Type 0 where
  Plain : Kind → Option Fault → Making
  Subpatch : Making
  File : ℕ → Page → Making

abbrev pub unmade : Fault → Making
unmade fault = Plain kind.Unmade (Some fault)

-- the name is that of an abstraction around, or the patch's own
abbrev pub is_inside : List ℕ → Around → Names → ℕ → Bool
is_inside root a names s = bytes_eq (name_of names s) root || list_any (λ t. bytes_eq (name_of names s) (name_of names t)) a.inside

-- a name with a slash is no file's
abbrev pub has_slash : List ℕ → Bool
has_slash name = list_any (λ b. b == 47) name

-- a file makes a canvas where its canvases lie no deeper in one another than there is room for
abbrev pub file_made : ℕ → ℕ → Page → Making
file_made left s p = if nat_lt left (levels p.boxes + 1) then unmade TooDeep else File s p

abbrev pub answer_made : ℕ → ℕ → Option Answer → Result Making Stop
answer_made left s None = Err (Lacks s)
answer_made left s (Some Absent) = Ok (unmade Unknown)
answer_made left s (Some (Bad n)) = Ok (unmade (BadFile n))
answer_made left s (Some (Found d)) = Ok (file_made left s d.root)

abbrev pub abstraction_made : (ℕ → Option Answer) → List ℕ → ℕ → Around → Names → ℕ → Result Making Stop
abstraction_made lib root left a names s =
    if is_inside root a names s then Ok (unmade InsideItself) else
    if has_slash (name_of names s) then Ok (unmade Unknown) else answer_made left s (lib s)

-- a text that is empty or doesn't begin with a symbol makes nothing, and an empty one isn't told
abbrev pub nothing_made : List Atom → Making
nothing_made [] = Plain kind.Unmade None
nothing_made (a ∷ text) = unmade Unknown

abbrev pub object_made : (ℕ → Option Answer) → List ℕ → ℕ → Around → Names → List Atom → Named → Result Making Stop
object_made lib root left a names text (named.Kind k) = Ok (Plain k None)
object_made lib root left a names text (named.Abstraction s) = abstraction_made lib root left a names s
object_made lib root left a names text named.Nothing = Ok (nothing_made text)

-- What a box of this form makes of its text, where so many canvases may lie in one another inside the canvas around.
abbrev pub made : (ℕ → Option Answer) → List ℕ → ℕ → Around → Names → Shape → List Atom → Result Making Stop
made lib root left a names Obj text = object_made lib root left a names text (named_by names text)
made lib root left a names Msg text = Ok (Plain (kind.Glue (glue.Message text)) None)
made lib root left a names Comment text = Ok (Plain (kind.Glue glue.Comment) None)
made lib root left a names FloatBox text = Ok (Plain (kind.Glue (glue.FloatBox text)) None)
made lib root left a names SymbolBox text = Ok (Plain (kind.Glue (glue.SymbolBox text)) None)
made lib root left a names Sub text = Ok Subpatch
made lib root left a names (Array values) text = Ok (Plain (kind.Glue (glue.Array text values)) None)
made lib root left a names (Other s) text = Ok (unmade Unknown)

-- the dollars of objects, subpatches, arrays, number and symbol boxes are replaced; messages, comments and other boxes keep theirs
abbrev pub is_expanded : Shape → Bool
is_expanded Obj = true
is_expanded Msg = false
is_expanded Comment = false
is_expanded FloatBox = true
is_expanded SymbolBox = true
is_expanded Sub = true
is_expanded (Array values) = true
is_expanded (Other s) = false
