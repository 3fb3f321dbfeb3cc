-- What the functions of growth answer.
use Rattle.std.specs.Prelude.{◌≡◌, ℕ, zero, suc, ◌+◌, ◌<◌, ◌≤◌, List, [], ◌++◌, length, Option, Some, None, Result, Ok, Err}
use Rattle.std.specs.List.{All, AllByRecursion}
use Rattle.std.specs.declared.vec.Vec.{Vec}
use Rattle.std.specs.declared.alloc.Global.{Global}
use Rattle.pd_atom.specs.declared.SymbolRefusal.TheVariants.{Full}
use Rattle.pd_atom.specs.Names.{Names, Outcome, given, refused}
use Rattle.pd_library.specs.declared.answers.Answer.{Answer}
use Rattle.pd_tree.specs.declared.rows.Row.{Row}
use Rattle.pd_tree.specs.Trees.{Tree, Trees, Done, Stand, width, stands_of, stands_in}
use Rattle.pd_tree.specs.declared.rows.Sheet.{Sheet}
use Rattle.pd_canvas.specs.Pages.{Head, Entry}
use Rattle.pd_atom.specs.declared.Atom.{Atom}
use Rattle.pd_object.specs.declared.kinds.Kind.TheVariants as kind
use Rattle.pd_growth.specs.declared.growing.Stop.{Stop}
use Rattle.pd_growth.specs.declared.growing.Stop.TheVariants.{SymbolsFull, TooManyBoxes, Lacks, NoMemory}
use Rattle.pd_growth.specs.declared.documents.Grown.{Grown}
use Rattle.pd_growth.specs.declared.supply.Supply.{Supply}
use Rattle.pd_growth.specs.declared.scope.Scope.{Scope}
use Rattle.pd_growth.specs.declared.scope.Setting.{Setting}
use Rattle.pd_growth.specs.declared.making.Made.{Made}
use Rattle.pd_growth.specs.declared.making.Made.TheVariants as made
use Rattle.pd_object.specs.declared.kinds.Named.{Named}
use Rattle.pd_object.specs.declared.kinds.Named.TheVariants as named
use Rattle.pd_object.specs.Ports.{IsSmallKind}
use Rattle.pd_canvas.specs.Proper.{levels}
use Rattle.pd_library.specs.Files.{answer_in}
use Rattle.pd_growth.specs.Steps.{Stock, Step, gives, ends, goes_on, zeros_from}
use Rattle.pd_growth.specs.Making.{Around, Making, Plain, File}
use Rattle.pd_growth.specs.Making.{made as made_by}
use Rattle.pd_growth.specs.Growth.{Inner, cell_of, box_made, boxes_grown, page_grown}
use Rattle.pd_growth.specs.Suits.{TextSuits, PageSuits, RowSuits}

-- the stock that the code keeps as a table and a supply
abbrev pub stock : Names → Supply → Stock
stock names s = record { names = names; zeros = zeros_from s.next_zero; room = s.room }

-- what a scope says is around a box
abbrev pub around_of : Scope → Around
around_of s = record { zero = s.zero; arguments = s.arguments.now; inside = s.inside.now; is_top = s.is_top }

-- what is known of files
abbrev pub lib_of : Setting → ℕ → Option Answer
lib_of s = answer_in s.files.now

-- what the code says that a box makes
abbrev pub making_of : Made → Making
making_of (made.Plain k fault) = Plain k fault
making_of (made.File s c) = File s c.now

-- a name of the table, or a kind with short lists
abbrev pub NameSuits : Names → Named → Type 0
NameSuits names (named.Kind k) = IsSmallKind k
NameSuits names (named.Abstraction s) = s < length names
NameSuits names named.Nothing = Unit {0}

-- a kind with short lists, or the document of a file for which there is room
abbrev pub MadeSuits : Names → ℕ → Made → Type 0
MadeSuits names left (made.Plain k fault) = IsSmallKind k
MadeSuits names left (made.File s c) = (s < length names) × PageSuits names c.now × (levels c.now.boxes + 1 ≤ left)

-- what is around a box is of the table
abbrev pub ScopeSuits : Names → Scope → Type 0
ScopeSuits names s = TextSuits names s.arguments.now × All (λ t. t < length names) s.inside.now × (s.zero ≤ 1000000000)

-- What a function returned is what a step gives, with the stock after it, unless memory ran out.
abbrev pub Refuses : {B : Type 0} → Stop → Stock → Step B → Type 0
Refuses NoMemory w s = Unit {0}
Refuses e w s = s ≡ ends e w

abbrev pub Answers : {A B : Type 0} → (A → B) → Result A Stop → Stock → Step B → Type 0
Answers view (Ok a) w s = s ≡ gives (view a) w
Answers view (Err e) w s = Refuses e w s

-- the same of an answer that changes nothing
abbrev pub Denies : {B : Type 0} → Stop → Result B Stop → Type 0
Denies NoMemory r = Unit {0}
Denies e r = r ≡ Err e

abbrev pub Tells : {A B : Type 0} → (A → B) → Result A Stop → Result B Stop → Type 0
Tells view (Ok a) r = r ≡ Ok (view a)
Tells view (Err e) r = Denies e r

-- the same of an outcome that may need names: nothing ends it but a full table
abbrev pub Yields : {A : Type 0} → Result A Stop → Names → Outcome A → Type 0
Yields (Ok a) names o = o ≡ given a names
Yields (Err NoMemory) names o = Unit {0}
Yields (Err SymbolsFull) names o = o ≡ refused Full names
Yields (Err TooManyBoxes) names o = ⊥
Yields (Err (Lacks s)) names o = ⊥

-- a box that holds a canvas, in a list in text order
abbrev pub holder_stand : Head → List Atom → Sheet → ℕ → Stand
holder_stand h text s boxes = record { cell = cell_of h text kind.Canvas None; sheet = Some s; boxes = boxes }

-- so many boxes that a step gives, with what they hold, stand behind the rows before them
pub record HasGrown (n : ℕ) (before after : List Row) (w : Stock) (s : Step Trees) : Type 0 where
  pub boxes : Trees
  pub step : s ≡ gives boxes w
  pub wide : width boxes ≡ n
  pub rows : stands_in after ≡ stands_in before ++ stands_of boxes
  pub suit : AllByRecursion (RowSuits w.names) after

-- What growing so many boxes behind the rows before them answers.
abbrev pub Grows : ℕ → Result (Unit {0}) Stop → List Row → List Row → Stock → Step Trees → Type 0
Grows n (Ok u) before after w s = HasGrown n before after w s
Grows n (Err e) before after w s = Refuses e w s

-- What growing a box alone answers: its rows, or why growth ends.
abbrev pub GrowsBox : Result (Vec Row Global) Stop → Stock → Step Trees → Type 0
GrowsBox (Ok rows) w s = HasGrown 1 [] rows.items w s
GrowsBox (Err e) w s = Refuses e w s

-- the canvases inside the boxes of a canvas, inside which so many canvases may lie in one another
abbrev pub inside_grown : (ℕ → Option Answer) → List ℕ → ℕ → Inner
inside_grown lib root zero = λ a p w. gives Done w
inside_grown lib root (suc n) = page_grown lib root n

-- the boxes of a canvas, inside which so many canvases may lie in one another
abbrev pub boxes_in_turn : (ℕ → Option Answer) → List ℕ → ℕ → Around → List Entry → Stock → Step Trees
boxes_in_turn lib root left a es w = boxes_grown lib root left (inside_grown lib root left) a es w

-- a box whose text is expanded
abbrev pub box_with_text : (ℕ → Option Answer) → List ℕ → ℕ → Around → Entry → List Atom → Stock → Step Trees
box_with_text lib root left a e text w =
    goes_on (made_by lib root left a w.names e.head.form text) w (λ m t. box_made (inside_grown lib root left) a e text m t)

-- a growth gives this sheet and these rows, with these names after it
pub record GivesTree (g : Grown) (table : Names) (s : Step Tree) : Type 0 where
  pub tree : Tree
  pub after : Stock
  pub step : s ≡ gives tree after
  pub sheet : g.sheet ≡ tree.sheet
  pub rows : stands_in g.rows.items ≡ stands_of tree.boxes
  pub names : table ≡ after.names

-- a growth ends so, with these names after it
pub record EndsSo (e : Stop) (table : Names) (s : Step Tree) : Type 0 where
  pub after : Stock
  pub step : s ≡ ends e after
  pub names : table ≡ after.names

abbrev pub EndsUnlessMemory : Stop → Names → Step Tree → Type 0
EndsUnlessMemory NoMemory names s = Unit {0}
EndsUnlessMemory e names s = EndsSo e names s

-- What growing a document answers is what growth gives, with these names after it, unless memory ran out.
abbrev pub GrowsTo : Result Grown Stop → Names → Step Tree → Type 0
GrowsTo (Ok g) names s = GivesTree g names s
GrowsTo (Err e) names s = EndsUnlessMemory e names s
