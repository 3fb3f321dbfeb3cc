-- What gathering asks for, by what growing answers.
use Rattle.std.proofs.Common.{◌≡◌, ℕ, List, length, take, Result, Err, refl, ap, sym, ◌∙◌}
use Rattle.std.proofs.Math.Seq.{take-append_seam}
use Rattle.pd_atom.specs.Names.{Names, Extends}
use Rattle.pd_canvas.specs.Pages.{Page, Entry}
use Rattle.pd_library.specs.Files.{answer_in}
use Rattle.pd_tree.specs.Trees.{Tree, Trees}
use Rattle.pd_growth.specs.declared.growing.Stop.{Stop}
use Rattle.pd_growth.specs.declared.growing.Stop.TheVariants as stop
use Rattle.pd_growth.specs.declared.supply.Supply.{Supply}
use Rattle.pd_growth.specs.Steps.{Stock, Step, gives, beginning}
use Rattle.pd_growth.specs.Growth.{grown}
use Rattle.pd_gather.specs.declared.boxes.Site.{Site}
use Rattle.pd_gather.specs.Gather.{Known, Asks, Gathered, Full, known, growth, asked, asked_by}
use Rattle.pd_gather.specs.Boxes.{box_growth, box_asked, StopsSo}

growth_is : (name : List ℕ) (p : Page) (k : Known) → growth name p k ≡ grown (answer_in k.files) name p (beginning k.names 1001)
unfolding growth
growth_is name p k = refl

pub asked_at : (name : List ℕ) (p : Page) (k : Known) (r : Result Tree Stop) (w : Stock)
    → grown (answer_in k.files) name p (beginning k.names 1001) ≡ record { answer = r; stock = w } → asked name p k ≡ asked_by k r w.names
asked_at name p k r w e = ap (λ (s : Step Tree). asked_by k s.answer s.stock.names) (growth_is name p k ∙ e)

module _ (site : Site) (e : Entry) (supply : Supply) (k : Known) (table : Names) where
  box_ends : (x : Stop) (h : StopsSo x table (box_growth site e supply k)) → box_asked site e supply k ≡ asked_by {A = Trees} k (Err x) h.after.names
  box_ends x h = ap (λ (s : Step Trees). asked_by k s.answer s.stock.names) h.step

  pub box_lacks : (s : ℕ) → StopsSo (stop.Lacks s) table (box_growth site e supply k) → box_asked site e supply k ≡ Asks s (known k.files table)
  box_lacks s h = box_ends (stop.Lacks s) h ∙ ap (λ n. Asks s (known k.files n)) (sym h.names)

  pub box_full : StopsSo stop.SymbolsFull table (box_growth site e supply k) → box_asked site e supply k ≡ Full
  box_full h = box_ends stop.SymbolsFull h

  pub box_many : StopsSo stop.TooManyBoxes table (box_growth site e supply k) → box_asked site e supply k ≡ Gathered k
  box_many h = box_ends stop.TooManyBoxes h

pub box_whole : (site : Site) (e : Entry) (supply : Supply) (k : Known) (t : Trees) (w : Stock) → box_growth site e supply k ≡ gives t w
    → box_asked site e supply k ≡ Gathered k
box_whole site e supply k t w h = ap (λ (s : Step Trees). asked_by k s.answer s.stock.names) h

pub names_cut : (old new kept : Names) (len : ℕ) → Extends old new → len ≡ length old → kept ≡ take len new → kept ≡ old
names_cut old new kept len x n e = e ∙ (λ i. take (n i) (x.1 i)) ∙ take-append_seam old x.0
