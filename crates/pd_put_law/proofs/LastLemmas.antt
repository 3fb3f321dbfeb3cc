-- A box that an edit put last into its canvas came at the number of boxes that there were.
use Rattle.std.proofs.Common.{◌≡◌, ◌≤◌, ℕ, List, sym, ap, ◌∙◌, subst, arith}
use Rattle.pd_atom.specs.Names.{Names, Extends, IsTable}
use Rattle.pd_canvas.specs.declared.edits.Edit.{Edit}
use Rattle.pd_canvas.specs.Proper.{IsProper}
use Rattle.pd_library.specs.Files.{answer_in}
use Rattle.pd_tree.specs.Trees.{Trees, Tree, weight, document_in}
use Rattle.pd_patch.specs.declared.patch.Patch.{Patch}
use Rattle.pd_patch.specs.Sounds.{sound_of}
use Rattle.pd_gather.specs.Gather.{Known}
use Rattle.pd_boxes.specs.Put.{CanPut}
use Rattle.pd_reload_law.specs.Reloading.{RunsAs}
use Rattle.pd_inside_law.specs.Inside.{HoldsWires}
use Rattle.pd_putting_law.specs.Again.{StandsAgain}
use Rattle.pd_putting_law.specs.Puts.{put_at, put_before}
use Rattle.pd_putting_law.proofs.StandLemmas.{put_last}
use Rattle.pd_adding.specs.declared.counts.Counts.{Counts}
use Rattle.pd_putting.specs.declared.adding.NewBox.{NewBox}
use Rattle.pd_putting.specs.Adds.{next_number, AddsBox, AddsBoxAt}
use Rattle.pd_put_law.proofs.ComeLemmas.{may, box_runs, box_again}
use Rattle.pd_put_law.proofs.PutLemmas.{box_holds, more_boxes, more_sound}
use Rattle.pd_put_law.proofs.WrittenLemmas.{box_proper}

module _ (old new : Patch) (n : Counts) (name path : List ℕ) (now : ℕ) (e : Edit) (k after : Known) (b : NewBox) (X : AddsBox old new n name path now e k after b) where
  abbrev it : Trees
  it = X.added.boxes

  abbrev number : ℕ
  number = next_number old X.added

  abbrev pub adds_at : AddsBoxAt old new number n name path now e k after b
  adds_at = record {
    added = X.added;
    within = omega arith;
    table = X.table;
    found = X.found;
    is_known = X.is_known;
    written = X.written;
    comes = X.comes;
    files = X.files;
    grew = X.grew;
    put = X.put;
    canvas = X.canvas;
    counts = X.counts;
    known_is = X.known_is;
    table_after = X.table_after;
  }

  module _ (can : CanPut old) (t : Tree) (R : RunsAs old.grove t) where
    there : put_before path number it t ≡ put_at path it t
    there = put_last old.grove path X.added.canvas t it can.forest (may old new number n name path now e k after b adds_at).leads R.stands

    pub last_runs : StandsAgain (answer_in k.files) name k.names t → RunsAs new.grove (put_at path it t)
    last_runs A = subst (RunsAs new.grove) there (box_runs old new number n name path now e k after b adds_at can t R A)

    pub last_again : StandsAgain (answer_in k.files) name k.names t → StandsAgain (answer_in after.files) name after.names (put_at path it t)
    last_again A = subst (StandsAgain (answer_in after.files) name after.names) there (box_again old new number n name path now e k after b adds_at can t R A)

    pub last_holds : HoldsWires old t → HoldsWires new (put_at path it t)
    last_holds h = subst (HoldsWires new) there (box_holds old new number n name path now e k after b adds_at can t R h)

    pub last_boxes : n.boxes ≡ weight t.boxes → b.counts.boxes ≡ weight (put_at path it t).boxes
    last_boxes h = more_boxes old new number n name path now e k after b adds_at can t R h ∙ ap (λ (x : Tree). weight x.boxes) there

    pub last_sound : n.sound ≡ sound_of old.rate t.boxes → b.counts.sound ≡ sound_of old.rate (put_at path it t).boxes
    last_sound h = more_sound old new number n name path now e k after b adds_at can t R h ∙ ap (λ (x : Tree). sound_of old.rate x.boxes) there

    pub last_proper : StandsAgain (answer_in k.files) name k.names t → (later : Names) → Extends after.names later → IsTable later → weight (put_at path it t).boxes ≤ 16384
        → IsProper later (document_in t) → IsProper later (document_in (put_at path it t))
    last_proper A later on table few h =
        subst (λ (x : Tree). IsProper later (document_in x)) there
        (box_proper old new number n name path now e k after b adds_at can t R A later on table (subst (λ (x : Tree). weight x.boxes ≤ 16384) (sym there) few) h)
