-- What an edit comes to that puts a box into a canvas of the patch's own document: what the box grows to, or why it is refused.
use Rattle.std.specs.Prelude.{◌≡◌, ℕ, ◌-◌, List, length, Option, Result, Ok, Err, IfSome}
use Rattle.std.specs.List.{AllByRecursion}
use Rattle.pd_io.specs.declared.files.FileRow.{FileRow}
use Rattle.pd_atom.specs.Names.{Extends, IsTable}
use Rattle.pd_canvas.specs.declared.edits.Edit.{Edit}
use Rattle.pd_canvas.specs.Pages.{Entry}
use Rattle.pd_tree.specs.Trees.{Trees, width, stands_of, stands_in}
use Rattle.pd_growth.specs.Steps.{Stock, Step, gives}
use Rattle.pd_growth.specs.Suits.{RowSuits}
use Rattle.pd_gather.specs.declared.fetching.Fetch.{Fetch}
use Rattle.pd_gather.specs.Gather.{Known, known, asked_of, gathered, AreHeld, GoesOn, AreProper}
use Rattle.pd_patch.specs.declared.patch.Patch.{Patch}
use Rattle.pd_wiring.specs.declared.refusals.EditRefusal.{EditRefusal}
use Rattle.pd_adding.specs.declared.adding.Grown.{Grown}
use Rattle.pd_adding.specs.declared.counts.Counts.{Counts}
use Rattle.pd_adding.specs.Coming.{coming, own_zero}
use Rattle.pd_adding.specs.Counts.{with_boxes}
use Rattle.pd_adding.specs.Growing.{Added, growth_of, gathered_to}

-- a box grows in the canvas at a path: with the root at most 256 canvases lie in one another
abbrev pub growth_at : Patch → Counts → List ℕ → List ℕ → Entry → Known → Step Trees
growth_at p n name path e = growth_of (own_zero p) n name (255 - length path) e

-- by what the shelf gives
abbrev pub coming_to : Patch → Counts → List ℕ → List ℕ → Known → List Fetch → Result (ℕ × Entry) EditRefusal → Result Added EditRefusal
coming_to p n name path k fetches (Err why) = Err why
coming_to p n name path k fetches (Ok c) =
    gathered_to p.rate n c.0 (growth_at p n name path c.1) (gathered (asked_of (growth_at p n name path c.1)) fetches (asked_of (growth_at p n name path c.1) k))

-- What an edit comes to in the canvas at a path of the patch's own document, by what the shelf gives, in order, for each file that growing the
-- box asks for and of which nothing is known. `name` is the patch's file name.
abbrev pub adding : Patch → Counts → List ℕ → List ℕ → Edit → Known → List Fetch → Result Added EditRefusal
adding p n name path e k fetches = coming_to p n name path k fetches (coming k.names p path e)

-- each of the fetches is what the shelf holds
abbrev pub AreGiven : List FileRow → Patch → Counts → List ℕ → List ℕ → Known → List Fetch → Result (ℕ × Entry) EditRefusal → Type 0
AreGiven rows p n name path k fetches (Err why) = Unit {0}
AreGiven rows p n name path k fetches (Ok c) = AreHeld (asked_of (growth_at p n name path c.1)) rows fetches (asked_of (growth_at p n name path c.1) k)

-- it comes to this by what the shelf gives, which is what it holds, where it tells that
pub record ComesTo (holds : Option (List FileRow)) (p : Patch) (n : Counts) (name path : List ℕ) (e : Edit) (k : Known) (r : Result Added EditRefusal) : Type 0 where
  pub fetches : List Fetch
  pub comes : adding p n name path e k fetches ≡ r
  pub held : IfSome holds (λ rows. AreGiven rows p n name path k fetches (coming k.names p path e))

-- what grew aside is this: its rows are one box with what it holds, and suit the table
pub record IsAdded (g : Grown) (a : Added) : Type 0 where
  pub canvas : g.canvas ≡ a.canvas
  pub one : width a.boxes ≡ 1
  pub rows : stands_in g.rows.items ≡ stands_of a.boxes
  pub suit : AllByRecursion (RowSuits a.known.names) g.rows.items
  pub counts : g.counts ≡ a.counts

-- What grew is what grows where this is known: what was known before, and the files for which growing it asked, with their names; the documents that
-- were found are proper.
pub record GrewWith (p : Patch) (n : Counts) (name path : List ℕ) (e : Edit) (k files : Known) (a : Added) : Type 0 where
  pub entry : Entry
  pub comes : coming k.names p path e ≡ Ok (a.canvas, entry)
  pub after : Stock
  pub grew : growth_at p n name path entry files ≡ gives a.boxes after
  pub known_is : a.known ≡ known files.files after.names
  pub counts : a.counts ≡ with_boxes p.rate a.boxes n
  pub behind : GoesOn k.files files.files
  pub extends : Extends k.names files.names
  pub found : AreProper files.names files.files
  pub onward : Extends files.names after.names

-- The edit comes to what grew aside, with this known after it.
pub record Grows (holds : Option (List FileRow)) (p : Patch) (n : Counts) (name path : List ℕ) (e : Edit) (k after : Known) (g : Grown) : Type 0 where
  pub added : Added
  pub comes : ComesTo holds p n name path e k (Ok added)
  pub is : IsAdded g added
  pub known : after ≡ added.known
  pub files : Known
  pub grew : GrewWith p n name path e k files added
  pub goes_on : Extends k.names after.names
  pub table : IsTable k.names
  pub table_after : IsTable after.names
