-- The files of abstractions are gathered: the shelf is asked for each that growing a document asks for.
use Rattle.std.specs.Prelude.{◌≡◌, ℕ, List, [], ◌∷◌, ◌++◌, Option, Result, Err, IfSome}
use Rattle.std.specs.List.{AllByRecursion}
use Rattle.std.specs.Option.{option_map_or}
use Rattle.pd_io.specs.Rows.{held_at}
use Rattle.pd_io.specs.declared.files.FileRow.{FileRow}
use Rattle.pd_atom.specs.Names.{Names, name_of}
use Rattle.pd_canvas.specs.Pages.{Page}
use Rattle.pd_canvas.specs.Proper.{IsProper}
use Rattle.pd_library.specs.declared.answers.Answer.{Answer}
use Rattle.pd_library.specs.declared.answers.Answer.TheVariants as answer
use Rattle.pd_library.specs.Files.{answer_in}
use Rattle.pd_tree.specs.Trees.{Tree}
use Rattle.pd_growth.specs.declared.growing.Stop.{Stop}
use Rattle.pd_growth.specs.declared.growing.Stop.TheVariants.{Lacks, SymbolsFull}
use Rattle.pd_growth.specs.Steps.{Step, beginning}
use Rattle.pd_growth.specs.Growth.{grown}
use Rattle.pd_gather.specs.declared.fetching.Fetch.{Fetch}
use Rattle.pd_gather.specs.Fetching.{file_of, given, answer_given}

-- what is known: of files, and which names
pub record Known : Type 0 where
  pub files : List (ℕ × Answer)
  pub names : Names

abbrev pub known : List (ℕ × Answer) → Names → Known
known files names = record { files = files; names = names }

-- how far gathering has come: it asks for the file of an abstraction, or all is gathered, or there is a name more than the table
-- holds
pub data Gathering : Type 0 where
  Asks : ℕ → Known → Gathering
  Gathered : Known → Gathering
  Full : Gathering

-- the document grows, its `$0` numbers from 1001 on
unfoldable pub growth : List ℕ → Page → Known → Step Tree
growth name p k = grown (answer_in k.files) name p (beginning k.names 1001)

-- Growth that lacks a file asks for it, with the names that it brought by then. Else all is gathered but where the table is full.
abbrev pub asked_by : {A : Type 0} → Known → Result A Stop → Names → Gathering
asked_by k (Err (Lacks s)) names = Asks s (known k.files names)
asked_by k (Err SymbolsFull) names = Full
asked_by k _ names = Gathered k

-- what a growth asks for that begins with what is known
abbrev pub asked_of : {A : Type 0} → (Known → Step A) → Known → Gathering
asked_of grows k = asked_by k (grows k).answer (grows k).stock.names

abbrev pub asked : List ℕ → Page → Known → Gathering
asked name p = asked_of (growth name p)

-- this is known of a file, besides
abbrev pub learned : ℕ → Known → Answer × Names → Known
learned s k a = known (k.files ++ (s, a.0) ∷ []) a.1

-- what the shelf gives for the file that is asked for; then growth begins anew
abbrev pub after : (Known → Gathering) → Fetch → Gathering → Gathering
after ask f (Asks s k) = option_map_or (λ a. ask (learned s k a)) (answer_given k.names f) Full
after ask f (Gathered k) = Gathered k
after ask f Full = Full

-- what the shelf gives, in order
abbrev pub gathered : (Known → Gathering) → List Fetch → Gathering → Gathering
gathered ask [] g = g
gathered ask (f ∷ fs) g = gathered ask fs (after ask f g)

-- it is what the shelf holds, of the file that is asked for
abbrev pub IsHeld : List FileRow → Fetch → Gathering → Type 0
IsHeld rows f (Asks s k) = f ≡ given (held_at (file_of (name_of k.names s)) rows)
IsHeld rows f (Gathered k) = ⊥
IsHeld rows f Full = ⊥

-- each is what the shelf holds, and nothing is given that isn't asked for
abbrev pub AreHeld : (Known → Gathering) → List FileRow → List Fetch → Gathering → Type 0
AreHeld ask rows [] g = Unit {0}
AreHeld ask rows (f ∷ fs) g = IsHeld rows f g × AreHeld ask rows fs (after ask f g)

-- Gathering comes to this by what the shelf gives, which is what it holds, where it tells that.
pub record GathersBy (holds : Option (List FileRow)) (ask : Known → Gathering) (k : Known) (g : Gathering) : Type 0 where
  pub fetches : List Fetch
  pub comes : gathered ask fetches (ask k) ≡ g
  pub held : IfSome holds (λ rows. AreHeld ask rows fetches (ask k))

-- the same for a document
abbrev pub Gathers : Option (List FileRow) → List ℕ → Page → Known → Gathering → Type 0
Gathers holds name p k g = GathersBy holds (asked name p) k g

-- growth asks for no file of which nothing is known, and the table holds its names
abbrev pub AnswersAll : List ℕ → Page → Known → Type 0
AnswersAll name p k = asked name p k ≡ Gathered k

-- what was known of files stays known, and what is learned comes behind it
pub record GoesOn (old new : List (ℕ × Answer)) : Type 0 where
  pub more : List (ℕ × Answer)
  pub is : new ≡ old ++ more

-- the documents that are found are proper
abbrev pub IsProperAnswer : Names → Answer → Type 0
IsProperAnswer names (answer.Found d) = IsProper names d.root
IsProperAnswer names answer.Absent = Unit {0}
IsProperAnswer names (answer.Bad n) = Unit {0}

abbrev pub AreProper : Names → List (ℕ × Answer) → Type 0
AreProper names files = AllByRecursion (λ e. IsProperAnswer names e.1) files
