-- The tree without the box and its document, and what a save writes of the boxes that are left.
use Rattle.std.proofs.Common.{◌≡◌, ◌≤◌, ℕ, true, List, Option, Some, IfSome, sym, ap, ◌∙◌, subst}
use Rattle.std.specs.List.{AllByRecursion}
use Rattle.std.specs.Option.{option_map_or}
use Rattle.slab.specs.Slab.{get}
use Rattle.pd_atom.specs.Names.{Names}
use Rattle.pd_canvas.specs.Proper.{IsProper, levels}
use Rattle.pd_library.specs.declared.answers.Answer.{Answer}
use Rattle.pd_tree.specs.Trees.{Tree, zeros_of, document_boxes, document_in}
use Rattle.pd_grove.specs.declared.nodes.Node.{Node}
use Rattle.pd_grove.specs.OwnPaths.{sub_reached}
use Rattle.pd_grove.specs.Telling.{kind_in, state_in}
use Rattle.pd_hearing.specs.Worlds.{states_of}
use Rattle.pd_patch.specs.declared.patch.Patch.{Patch}
use Rattle.pd_reload_law.specs.Reloading.{RunsAs}
use Rattle.pd_contents_law.specs.Contents.{HasContents, HaveContents, count_of, counts_of}
use Rattle.pd_proper_law.specs.Saves.{kinds_of, is_written, form_of, IsOwnBox, IsWritten}
use Rattle.pd_putting_law.specs.Again.{StandsAgain}
use Rattle.pd_putting_law.proofs.PathLemmas.{live_box, sub_leads}
use Rattle.pd_taking_law.specs.Takes.{taken_at}
use Rattle.pd_taking_law.specs.Taking.{TakesBoxAt}
use Rattle.pd_taking_law.proofs.AgainLemmas.{deleted_stands}
use Rattle.pd_taking_law.proofs.StandLemmas.{runs_less}
use Rattle.pd_taking_law.proofs.StayLemmas.{forest_still}
use Rattle.pd_take_law.proofs.GoneLemmas.{was_there}
use Rattle.pd_take_law.proofs.InsideLemmas.{root_back}
use Rattle.pd_take_law.proofs.ShrinkLemmas as shrink

module _ (old new : Patch) (path : List ℕ) (canvas key number : ℕ) (B : TakesBoxAt old.grove new.grove path canvas key number) where
  -- ---- the tree

  pub still_runs : (t : Tree) → RunsAs old.grove t → RunsAs new.grove (taken_at path number t)
  still_runs t R = runs_less old.grove new.grove path canvas key number t B R

  pub still_again : (t : Tree) → RunsAs old.grove t → (lib : ℕ → Option Answer) (file : List ℕ) (names : Names) → StandsAgain lib file names t
      → StandsAgain lib file names (taken_at path number t)
  still_again t R lib file names a =
      deleted_stands lib file names old.grove new.grove path canvas key number t a R B

  -- ---- the document

  pub zeros_left : (t : Tree) → RunsAs old.grove t → (P : ℕ → Type 0) → AllByRecursion P (zeros_of t) → AllByRecursion P (zeros_of (taken_at path number t))
  zeros_left t R P A = shrink.zeros_left old.grove path canvas number t B.forest R.stands B.leads P A

  pub no_deeper : (t : Tree) → RunsAs old.grove t → levels (document_boxes (taken_at path number t).boxes) ≤ levels (document_boxes t.boxes)
  no_deeper t R = shrink.no_deeper old.grove path canvas number t B.forest R.stands B.leads

  pub still_proper : (t : Tree) → RunsAs old.grove t → (later : Names) → IsProper later (document_in t) → IsProper later (document_in (taken_at path number t))
  still_proper t R later p = shrink.proper_less old.grove path canvas number t B.forest R.stands B.leads later p

  -- ---- what is written of boxes

  -- a box of the document was one
  was_own : (k : ℕ) → IsOwnBox new.grove k → IsOwnBox old.grove k
  was_own k w =
      let back = root_back old.grove new.grove path canvas key number B w.path w.canvas (sub_leads new.grove new.grove.root w.canvas w.path w.leads) in
      let there = was_there old.grove new.grove path canvas key number B w.canvas w.place k w.at in
      record {
        path = back.was;
        canvas = w.canvas;
        place = there.0;
        leads = back.own ∙ ap (λ (r : ℕ). sub_reached new.grove (Some r) w.path) (sym B.root) ∙ w.leads;
        at = there.1;
      }

  pub still_written : (names : Names) → HaveContents (IsWritten old.grove) (counts_of (kinds_of old)) names (states_of old)
      → HaveContents (IsWritten new.grove) (counts_of (kinds_of new)) names (states_of new)
  still_written names h k w =
      let same : get new.grove.nodes k ≡ get old.grove.nodes k =
      B.takes.none_comes k (live_box new.grove (forest_still old.grove new.grove path canvas key number B) w.own.canvas w.own.place k w.own.at) in
      let was : IsWritten old.grove k = record { own = was_own k w.own; form = subst (λ (o : Option Node). IfSome o (λ y. is_written (form_of y) ≡ true)) same w.form } in
      subst (λ (o : Option Node). IfSome (state_in o) (HasContents (option_map_or count_of (kind_in o) 0) names)) (sym same) (h k was)
