-- How far the walk over the boxes of a document's root has come, and that it stands there again where more is known.
use Rattle.std.proofs.Common.{◌≡◌, ℕ, ◌+◌, List, [], ◌∷◌, ◌++◌, Ok, Err, sym, ap, ◌∙◌, arith, lit≤}
use Rattle.pd_atom.specs.Names.{Names, Extends}
use Rattle.pd_canvas.specs.Pages.{Page, Entry, elements_of}
use Rattle.pd_library.specs.declared.answers.Answer.{Answer}
use Rattle.pd_library.specs.Files.{answer_in}
use Rattle.pd_tree.specs.Trees.{Tree, Trees, Done, join, weight, zeros_in, sheet_of}
use Rattle.pd_growth.specs.declared.growing.Stop.{Stop}
use Rattle.pd_growth.specs.declared.growing.Stop.TheVariants as stop
use Rattle.pd_growth.specs.Steps.{Stock, Step, gives, ends, ◌>>=◌, number_from, numbered, brought, zeros_from, beginning}
use Rattle.pd_growth.specs.Growth.{receiver_bytes, box_grown, boxes_grown, page_grown, without_ending, around_root, grown}
use Rattle.pd_growth.proofs.SupplyLemmas.{zeros_next}
use Rattle.pd_growth.proofs.StepLemmas.{step_then}
use Rattle.pd_regrowth_law.specs.Regrowth.{stock, inner_of}
use Rattle.pd_regrowth_law.specs.Suits.{AreEntriesOf, IsLibraryOf, AnswersAlike}
use Rattle.pd_regrowth_law.proofs.StepLemmas.{no_boxes, more_boxes, page_is, extends_on, brought_takes}
use Rattle.pd_regrowth_law.proofs.SplitLemmas.{grown_splits}
use Rattle.pd_regrowth_law.proofs.TakeLemmas.{several_take}
use Rattle.pd_regrowth_law.proofs.AgainLemmas.{library_more, entries_more, brought_again, again_at, several_again}
use Rattle.pd_gather.specs.Gather.{Asks, Gathered, Full, known, asked}
use Rattle.pd_gather.specs.Boxes.{StopsSo}
use Rattle.pd_gather.proofs.AskLemmas.{asked_at}

-- boxes of the root, and one of them
abbrev pub root_boxes : List ℕ → List (ℕ × Answer) → List Entry → Stock → Step Trees
root_boxes name files es w =
    boxes_grown (answer_in files) (without_ending name) 255 (inner_of (answer_in files) (without_ending name) 255) (around_root 1001) es w

abbrev pub root_box : List ℕ → List (ℕ × Answer) → Entry → Stock → Step Trees
root_box name files e w =
    box_grown (answer_in files) (without_ending name) 255 (inner_of (answer_in files) (without_ending name) 255) (around_root 1001) e w

abbrev pub root_tree : Page → Trees → Tree
root_tree p boxes = record { sheet = sheet_of 1001 [] p; boxes = boxes }

-- from these names the walk over the first boxes comes to this stock
pub record StandsAt (name : List ℕ) (files : List (ℕ × Answer)) (names : Names) (done : List Entry) (w : Stock) : Type 0 where
  pub named : Stock
  pub boxes : Trees
  pub begun : brought (receiver_bytes name) (beginning names 1002) ≡ gives tt named
  pub grew : root_boxes name files done named ≡ gives boxes w

numbered_first : (names : Names) → numbered (beginning names 1001) ≡ gives 1001 (beginning names 1002)
numbered_first names = ap (λ (zs : List ℕ). number_from zs (beginning names 1001)) (zeros_next 1001 (lit≤ tt))

-- a document's growth from its boxes on
from_boxes : (name : List ℕ) (p : Page) (files : List (ℕ × Answer)) (names : Names) (named : Stock)
    → brought (receiver_bytes name) (beginning names 1002) ≡ gives tt named
    → grown (answer_in files) name p (beginning names 1001) ≡ (root_boxes name files (elements_of p) named >>= (λ boxes t. gives (root_tree p boxes) t))
from_boxes name p files names named b =
    let lib = answer_in files in
    let rest : ℕ → Stock → Step Tree = λ z u.
    page_grown lib (without_ending name) 255 (around_root z) p u >>= (λ boxes t. gives (record { sheet = sheet_of z [] p; boxes = boxes }) t) in
    step_then (numbered (beginning names 1001)) 1001 (beginning names 1002) (λ z v. brought (receiver_bytes name) v >>= (λ _ u. rest z u)) (numbered_first names)
    ∙ step_then (brought (receiver_bytes name) (beginning names 1002)) tt named (λ _ u. rest 1001 u) b
    ∙ ap (λ (s : Step Trees). s >>= (λ boxes t. gives (root_tree p boxes) t)) (page_is lib (without_ending name) 255 (around_root 1001) p named)

module _ (name : List ℕ) (files : List (ℕ × Answer)) (names : Names) where
  -- nothing has grown yet
  pub first_stand : (named : Stock) → brought (receiver_bytes name) (beginning names 1002) ≡ gives tt named → StandsAt name files names [] named
  first_stand named b = record {
    named = named;
    boxes = Done;
    begun = b;
    grew = no_boxes (answer_in files) (without_ending name) 255 (inner_of (answer_in files) (without_ending name) 255) (around_root 1001) named;
  }

  module _ (done : List Entry) (w : Stock) (at : StandsAt name files names done w) where
    -- the boxes behind the first ones
    from_here : (es : List Entry) → root_boxes name files (done ++ es) at.named ≡ (root_boxes name files es w >>= (λ more t. gives (join at.boxes more) t))
    from_here es =
        let lib = answer_in files in
        let root = without_ending name in
        grown_splits lib root 255 (inner_of lib root 255) (around_root 1001) done es at.named
        ∙ ap (λ (s : Step Trees). s >>= (λ first u. root_boxes name files es u >>= (λ more t. gives (join first more) t))) at.grew

    box_first : (e : Entry) (rest : List Entry)
        → root_boxes name files (e ∷ rest) w ≡ (root_box name files e w >>= (λ b u. root_boxes name files rest u >>= (λ more t. gives (join b more) t)))
    box_first e rest =
        let lib = answer_in files in
        let root = without_ending name in
        more_boxes lib root 255 (inner_of lib root 255) (around_root 1001) e rest w

    -- a box more has grown
    pub next_stand : (e : Entry) (box : Trees) (v : Stock) → root_box name files e w ≡ gives box v → StandsAt name files names (done ++ e ∷ []) v
    next_stand e box v grows = record {
      named = at.named;
      boxes = join at.boxes (join box Done);
      begun = at.begun;
      grew =
          from_here (e ∷ [])
          ∙ ap (λ (s : Step Trees). s >>= (λ more t. gives (join at.boxes more) t))
          (box_first e []
          ∙ ap (λ (s : Step Trees). s >>= (λ b u. root_boxes name files [] u >>= (λ more t. gives (join b more) t))) grows
          ∙ ap (λ (s : Step Trees). s >>= (λ more t. gives (join box more) t))
          (no_boxes (answer_in files) (without_ending name) 255 (inner_of (answer_in files) (without_ending name) 255) (around_root 1001) v));
    }

    module _ (p : Page) where
      -- where the next box ends growth, the document's growth ends
      ends_here : (e : Entry) (rest : List Entry) (x : Stop) (v : Stock) → elements_of p ≡ done ++ e ∷ rest → root_box name files e w ≡ ends x v
          → grown (answer_in files) name p (beginning names 1001) ≡ ends x v
      ends_here e rest x v split box =
          from_boxes name p files names at.named at.begun
          ∙ ap (λ (es : List Entry). root_boxes name files es at.named >>= (λ boxes t. gives (root_tree p boxes) t)) split
          ∙ ap (λ (s : Step Trees). s >>= (λ boxes t. gives (root_tree p boxes) t))
          (from_here (e ∷ rest)
          ∙ ap (λ (s : Step Trees). s >>= (λ more t. gives (join at.boxes more) t))
          (box_first e rest ∙ ap (λ (s : Step Trees). s >>= (λ b u. root_boxes name files rest u >>= (λ more t. gives (join b more) t))) box))

      -- behind the last box the document has grown
      pub whole_here : elements_of p ≡ done → asked name p (known files names) ≡ Gathered (known files names)
      whole_here split =
          asked_at name p (known files names) (Ok (root_tree p at.boxes)) w
          (from_boxes name p files names at.named at.begun
          ∙ ap (λ (es : List Entry). root_boxes name files es at.named >>= (λ boxes t. gives (root_tree p boxes) t)) split
          ∙ ap (λ (s : Step Trees). s >>= (λ boxes t. gives (root_tree p boxes) t)) at.grew)

      module _ (e : Entry) (rest : List Entry) (table : Names) (split : elements_of p ≡ done ++ e ∷ rest) where
        pub lacks_here : (s : ℕ) → StopsSo (stop.Lacks s) table (root_box name files e w) → asked name p (known files names) ≡ Asks s (known files table)
        lacks_here s h =
            asked_at name p (known files names) (Err (stop.Lacks s)) h.after (ends_here e rest (stop.Lacks s) h.after split h.step)
            ∙ ap (λ n. Asks s (known files n)) (sym h.names)

        pub full_here : StopsSo stop.SymbolsFull table (root_box name files e w) → asked name p (known files names) ≡ Full
        full_here h = asked_at name p (known files names) (Err stop.SymbolsFull) h.after (ends_here e rest stop.SymbolsFull h.after split h.step)

        pub many_here : StopsSo stop.TooManyBoxes table (root_box name files e w) → asked name p (known files names) ≡ Gathered (known files names)
        many_here h = asked_at name p (known files names) (Err stop.TooManyBoxes) h.after (ends_here e rest stop.TooManyBoxes h.after split h.step)

  -- from more names, where more files are known, the walk comes to the same place, and leaves those names
  pub stands_again : (files2 : List (ℕ × Answer)) (names2 : Names) (done : List Entry) (w : Stock) → AnswersAlike (answer_in files) (answer_in files2)
      → IsLibraryOf names (answer_in files) → AreEntriesOf names done → Extends w.names names2 → StandsAt name files names done w
      → StandsAt name files2 names2 done (stock names2 w.zeros w.room)
  stands_again files2 names2 done w like l es x at =
      let lib = answer_in files in
      let lib2 = answer_in files2 in
      let root = without_ending name in
      let up = brought_takes (receiver_bytes name) (beginning names 1002) at.named tt at.begun in
      let on = several_take lib root 255 (around_root 1001) done at.named w at.boxes at.grew in
      let start : 16384 ≡ 0 + at.named.room = up.room in
      let left : at.named.room ≡ weight at.boxes + w.room = on.room in
      record {
        named = beginning names2 1002;
        boxes = at.boxes;
        begun = brought_again (receiver_bytes name) (beginning names 1002) at.named tt names2 (zeros_from 1002) 16384 (extends_on at.named.names w.names names2 on.names x) at.begun;
        grew =
            again_at (boxes_grown lib2 root 255 (inner_of lib2 root 255) (around_root 1001) done) at.boxes w.names (zeros_in at.boxes) (weight at.boxes)
            (several_again lib lib2 root 255 (around_root 1001) done at.named w at.boxes like (library_more names at.named.names up.names lib l)
            (record { arguments = tt; inside = tt }) (entries_more names at.named.names up.names done es) at.grew)
            names2 (zeros_from 1002) w.zeros 16384 w.room x (up.zeros ∙ on.zeros) (omega (arith, start, left));
      }

-- the table is full at the name of the patch's receiver
pub full_at_name : (name : List ℕ) (p : Page) (files : List (ℕ × Answer)) (names : Names) (v : Stock)
    → brought (receiver_bytes name) (beginning names 1002) ≡ ends stop.SymbolsFull v → asked name p (known files names) ≡ Full
full_at_name name p files names v b =
    let lib = answer_in files in
    let rest : ℕ → Stock → Step Tree = λ z u.
    page_grown lib (without_ending name) 255 (around_root z) p u >>= (λ boxes t. gives (record { sheet = sheet_of z [] p; boxes = boxes }) t) in
    asked_at name p (known files names) (Err stop.SymbolsFull) v
    (step_then (numbered (beginning names 1001)) 1001 (beginning names 1002) (λ z u. brought (receiver_bytes name) u >>= (λ _ t. rest z t)) (numbered_first names)
    ∙ ap (λ (s : Step (Unit {0})). s >>= (λ _ u. rest 1001 u)) b)
