-- What is asked of a patch that opened, from what it grew from.
use Rattle.std.proofs.Common.{◌≡◌, ℕ, List, sym, subst}
use Rattle.pd_atom.specs.Names.{Names, Extends}
use Rattle.pd_clock.specs.declared.times.Rate.{Rate}
use Rattle.pd_name.specs.declared.Class.{Class}
use Rattle.pd_name.specs.Rows.{owners_of}
use Rattle.pd_canvas.specs.Pages.{Page}
use Rattle.pd_canvas.specs.Proper.{IsProper}
use Rattle.pd_library.specs.Files.{answer_in}
use Rattle.pd_library.specs.declared.answers.Answer.{Answer}
use Rattle.pd_growth.specs.Growth.{grown}
use Rattle.pd_growth.specs.Steps.{beginning}
use Rattle.pd_grove.specs.Standing.{GroveStands}
use Rattle.pd_bind.specs.Owning.{owners_in}
use Rattle.pd_gather.specs.Gather.{AreProper}
use Rattle.pd_gather.proofs.KnownLemmas.{library_of}
use Rattle.pd_patch.specs.declared.patch.Patch.{Patch}
use Rattle.pd_patch.specs.Grown.{IsTree, IsFresh}
use Rattle.pd_patch.specs.Wired.{IsWired}
use Rattle.pd_patch.proofs.BuiltLemmas.{is_built}
use Rattle.pd_regrowth_law.proofs.SuitLemmas.{texts_of_sound}
use Rattle.pd_wiring.specs.Changes.{CanRewire}
use Rattle.pd_wiring.proofs.BuiltLemmas.{runs_rewire}
use Rattle.pd_reload_law.specs.Reloading.{RunsAs}
use Rattle.pd_reload_law.proofs.MadeLemmas.{patch_made}
use Rattle.pd_saved_law.specs.Fitting.{WiresFit}
use Rattle.pd_alike_law.specs.Alike.{HasOpened, OwnAlike, HaveSameOwners, now_of}
use Rattle.pd_alike_law.proofs.NameLemmas.{grown_alike}
use Rattle.pd_alike_law.proofs.OwnerLemmas.{owners_opened}

pub has_opened : (files : List (ℕ × Answer)) (name : List ℕ) (d : Page) (before names names4 : Names) (n : ℕ) (rate : Rate) (first p q : Patch)
    → (grew : IsTree first names rate (grown (answer_in files) name d (beginning before n))) → RunsAs p.grove grew.tree → CanRewire p → WiresFit p
    → IsFresh q names4 name rate → GroveStands q.grove (now_of p grew.tree).sheet (now_of p grew.tree).boxes → IsWired q.grove q.web (now_of p grew.tree)
    → HasOpened p grew.tree q
has_opened files name d before names names4 n rate first p q grew runs rewires fit fresh stands wired = record {
  runs = rewires;
  fit = fit;
  stands = runs.stands;
  shallow = runs.shallow;
  made = patch_made (answer_in files) name d (beginning before n) grew.given.after grew.tree grew.given.step;
  opened = runs_rewire q names4 name rate (is_built q names4 name rate fresh);
  again = stands;
  wired = wired;
}

pub owners_alike : (files : List (ℕ × Answer)) (name : List ℕ) (d : Page) (before names names2 names4 : Names) (n : ℕ) (rate : Rate) (first p q : Patch) (class : Class) (symbol : ℕ)
    → IsProper before d → AreProper before files → (grew : IsTree first names rate (grown (answer_in files) name d (beginning before n))) → Extends names names2
    → names4 ≡ names2 → HasOpened p grew.tree q → owners_of p.names class symbol ≡ owners_in names name p.grove class symbol → IsFresh q names4 name rate
    → HaveSameOwners p q class symbol
owners_alike files name d before names names2 names4 n rate first p q class symbol proper found grew on table o own fresh =
    let alike : OwnAlike grew.given.after.names names4 name grew.tree.boxes =
    grown_alike (answer_in files) name d (beginning before n) grew.given.after grew.tree names4 (library_of before files found) (texts_of_sound before d proper.sound)
    grew.given.step (subst (λ x. Extends x names4) grew.given.table (subst (Extends names) (sym table) on)) in
    owners_opened p q grew.tree names names4 name class symbol o own (fresh.owners class symbol)
    (subst (λ x. OwnAlike x names4 name grew.tree.boxes) (sym grew.given.table) alike)
