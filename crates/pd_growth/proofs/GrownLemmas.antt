-- A document that grows.
use Rattle.std.proofs.Common.{◌≡◌, ℕ, List, [], ◌∷◌, Option, refl, ◌∙◌}
use Rattle.pd_atom.specs.Names.{Names}
use Rattle.pd_canvas.specs.Pages.{Page}
use Rattle.pd_library.specs.declared.answers.Answer.{Answer}
use Rattle.pd_object.specs.Ports.{IsSmallKind}
use Rattle.std.specs.List.{AllByRecursion}
use Rattle.pd_tree.specs.declared.rows.Row.{Row}
use Rattle.pd_tree.specs.Trees.{Tree, sheet_of}
use Rattle.pd_growth.specs.declared.growing.Stop.{Stop}
use Rattle.pd_growth.specs.declared.growing.Stop.TheVariants.{SymbolsFull, TooManyBoxes, Lacks, NoMemory}
use Rattle.pd_growth.specs.declared.documents.Grown.{Grown}
use Rattle.pd_growth.specs.Steps.{Stock, Step, gives, ◌>>=◌, numbered, brought}
use Rattle.pd_growth.specs.Growth.{grown, page_grown, around_root, without_ending, receiver_bytes}
use Rattle.pd_growth.specs.Suits.{RowSuits}
use Rattle.pd_growth.specs.Growing.{Refuses, HasGrown, GivesTree, EndsUnlessMemory}
use Rattle.pd_growth.proofs.StepLemmas.{step_then, refused_then, then_refused}

ends_by : (e : Stop) (w : Stock) (s : Step Tree) → Refuses e w s → EndsUnlessMemory e w.names s
ends_by NoMemory w s h = tt
ends_by SymbolsFull w s h = record { after = w; step = h; names = refl }
ends_by TooManyBoxes w s h = record { after = w; step = h; names = refl }
ends_by (Lacks n) w s h = record { after = w; step = h; names = refl }

-- the root's boxes behind its receiver
abbrev pub boxes_in_root : (ℕ → Option Answer) → List ℕ → Page → ℕ → Stock → Step Tree
boxes_in_root lib name p z u =
    page_grown lib (without_ending name) 255 (around_root z) p u >>= (λ boxes t. gives (record { sheet = sheet_of z [] p; boxes = boxes }) t)

pub no_number : (lib : ℕ → Option Answer) (name : List ℕ) (p : Page) (w w' : Stock) (e : Stop) → Refuses e w' (numbered w) → EndsUnlessMemory e w'.names (grown lib name p w)
no_number lib name p w w' e h = ends_by e w' (grown lib name p w) (refused_then e w' (numbered w) (λ z v. brought (receiver_bytes name) v >>= (λ x u. boxes_in_root lib name p z u)) h)

pub no_receiver : (lib : ℕ → Option Answer) (name : List ℕ) (p : Page) (w v w' : Stock) (z : ℕ) (e : Stop) → numbered w ≡ gives z v → Refuses e w' (brought (receiver_bytes name) v)
    → EndsUnlessMemory e w'.names (grown lib name p w)
no_receiver lib name p w v w' z e n h =
    ends_by e w' (grown lib name p w) (then_refused e w' (numbered w) z v (λ z v. brought (receiver_bytes name) v >>= (λ x u. boxes_in_root lib name p z u)) n
    (refused_then e w' (brought (receiver_bytes name) v) (λ x u. boxes_in_root lib name p z u) h))

pub no_boxes_grown : (lib : ℕ → Option Answer) (name : List ℕ) (p : Page) (w v u w' : Stock) (z : ℕ) (x : Unit {0}) (e : Stop) → numbered w ≡ gives z v → brought (receiver_bytes name) v ≡ gives x u
    → Refuses e w' (page_grown lib (without_ending name) 255 (around_root z) p u)
    → EndsUnlessMemory e w'.names (grown lib name p w)
no_boxes_grown lib name p w v u w' z x e n b h =
    ends_by e w' (grown lib name p w) (then_refused e w' (numbered w) z v (λ z v. brought (receiver_bytes name) v >>= (λ x u. boxes_in_root lib name p z u)) n
    (then_refused e w' (brought (receiver_bytes name) v) x u (λ x u. boxes_in_root lib name p z u) b
    (refused_then e w' (page_grown lib (without_ending name) 255 (around_root z) p u) _ h)))

pub document_grown : (lib : ℕ → Option Answer) (name : List ℕ) (p : Page) (w v u w' : Stock) (z k : ℕ) (x : Unit {0}) (g : Grown) → numbered w ≡ gives z v → brought (receiver_bytes name) v ≡ gives x u
    → g.sheet ≡ sheet_of z [] p → HasGrown k [] g.rows.items w' (page_grown lib (without_ending name) 255 (around_root z) p u)
    → GivesTree g w'.names (grown lib name p w)
document_grown lib name p w v u w' z k x g n b s G = record {
  tree = record { sheet = sheet_of z [] p; boxes = G.boxes };
  after = w';
  step = step_then (numbered w) z v (λ z v. brought (receiver_bytes name) v >>= (λ x u. boxes_in_root lib name p z u)) n
      ∙ step_then (brought (receiver_bytes name) v) x u (λ x u. boxes_in_root lib name p z u) b
      ∙ step_then (page_grown lib (without_ending name) 255 (around_root z) p u) G.boxes w' (λ boxes t. gives (record { sheet = sheet_of z [] p; boxes = boxes }) t) G.step;
  sheet = s;
  rows = G.rows;
  names = refl;
}

pub rows_small : (names : Names) (rows : List Row) → AllByRecursion (RowSuits names) rows → AllByRecursion (λ r. IsSmallKind r.kind) rows
rows_small names [] h = tt
rows_small names (r ∷ rows) h = (h.0.1, rows_small names rows h.1)
