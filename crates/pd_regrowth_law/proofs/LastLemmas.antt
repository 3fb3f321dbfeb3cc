-- What grows again goes on to, when the table gets names; and once is enough.
use Rattle.std.proofs.Common.{◌≡◌, ℕ, List, [], Option}
use Rattle.pd_atom.specs.Names.{Names, Extends}
use Rattle.pd_library.specs.declared.answers.Answer.{Answer}
use Rattle.pd_tree.specs.Trees.{Tree, weight, zeros_of, document_boxes, document_in}
use Rattle.pd_growth.specs.Steps.{Stock, Step, gives}
use Rattle.pd_growth.specs.Growth.{grown}
use Rattle.pd_regrowth_law.specs.Regrowth.{stock, GivesAgain}
use Rattle.pd_regrowth_law.specs.Suits.{TextsOf, IsLibraryOf}
use Rattle.pd_regrowth_law.specs.Canvases.{PatchRegrows}
use Rattle.pd_regrowth_law.proofs.StepLemmas.{extends_on}
use Rattle.pd_regrowth_law.proofs.AgainLemmas.{patch_again}

-- ---- the table

pub again_later : {A : Type 0} (f : Stock → Step A) (a : A) (names names2 : Names) (numbers : List ℕ) (boxes : ℕ) → Extends names names2
    → GivesAgain f a names numbers boxes → GivesAgain f a names2 numbers boxes
again_later f a names names2 numbers boxes x h names3 more room y = h names3 more room (extends_on names names2 names3 x y)

-- ---- once is enough

pub patch_once : (lib : ℕ → Option Answer) (file : List ℕ) (names : Names) (t : Tree) → IsLibraryOf names lib → TextsOf names (document_boxes t.boxes)
    → grown lib file (document_in t) (stock names (zeros_of t) (weight t.boxes)) ≡ gives t (stock names [] 0) → PatchRegrows lib file names t
patch_once lib file names t l o h =
    patch_again lib lib file (document_in t) (stock names (zeros_of t) (weight t.boxes)) (stock names [] 0) t (λ _ _ k. k) l o h
