-- When what a save writes of what boxes keep can be written and read again.
use Rattle.std.specs.Prelude.{◌≡◌, ℕ, ℤ, Bool, true, false, List, length, slice_get, Option, Some, option_and_then, IfSome}
use Rattle.std.specs.List.{AllByRecursion}
use Rattle.slab.specs.Slab.{get}
use Rattle.pd_num.specs.Scale.{millionths, IsInRange}
use Rattle.pd_atom.specs.declared.Atom.{Atom}
use Rattle.pd_atom.specs.Names.{Names}
use Rattle.pd_canvas.specs.Pages.{Shape, Obj, Msg, Array}
use Rattle.pd_canvas.specs.Proper.{IsText}
use Rattle.pd_canvas.specs.Views.{entry_of}
use Rattle.pd_kind.specs.declared.states.State.{State}
use Rattle.pd_kind.specs.Tables.{table_of, saved_of}
use Rattle.pd_grove.specs.declared.grove.Grove.{Grove}
use Rattle.pd_grove.specs.declared.nodes.Node.{Node}
use Rattle.pd_grove.specs.OwnPaths.{sub_reached}
use Rattle.pd_web.specs.Canvases.{keys_at}
use Rattle.pd_present.specs.Contents.{text_kept}
pub use Rattle.pd_sized.specs.Kinds.{kinds_of}
use Rattle.pd_contents_law.specs.Contents.{count_of}

-- a box of the patch's own document: it lies in a canvas to which a path through subpatches leads
pub record IsOwnBox (g : Grove) (k : ℕ) : Type 0 where
  pub path : List ℕ
  pub canvas : ℕ
  pub place : ℕ
  pub leads : sub_reached g (Some g.root) path ≡ Some canvas
  pub at : slice_get (keys_at g canvas) place ≡ Some k

-- a message box, or an array
abbrev pub is_written : Shape → Bool
is_written Msg = true
is_written (Array values) = true
is_written _ = false

abbrev pub form_of : Node → Shape
form_of n = (entry_of n.element).head.form

-- a message box or an array of the document, of which a save writes what it keeps
pub record IsWritten (g : Grove) (k : ℕ) : Type 0 where
  pub own : IsOwnBox g k
  pub form : IfSome (get g.nodes k) (λ n. is_written (form_of n) ≡ true)

abbrev pub IsNumber : ℤ → Type 0
IsNumber z = IsInRange millionths z

-- Of a box of a form: the text of a message box reads back as it is; of the values of an array there are so many, and they are numbers; so are
-- both values of a toggle.
abbrev pub SavesWell : Names → Shape → ℕ → Option State → Type 0
SavesWell names Msg count s = (text : List Atom) → option_and_then text_kept s ≡ Some text → IsText names text
SavesWell names Obj count s = (v : ℤ × ℤ) → option_and_then saved_of s ≡ Some v → IsNumber v.0 × IsNumber v.1
SavesWell names (Array drawn) count s = (values : List ℤ) → option_and_then table_of s ≡ Some values → AllByRecursion IsNumber values × (length values ≡ count)
SavesWell names f count s = Unit {0}

-- all boxes of the document, each with as many values as it had at first
abbrev pub AllSaveWell : Names → Grove → Type 0
AllSaveWell names g = (k : ℕ) (n : Node) → IsOwnBox g k → get g.nodes k ≡ Some n → SavesWell names (form_of n) (count_of n.kind) n.state
