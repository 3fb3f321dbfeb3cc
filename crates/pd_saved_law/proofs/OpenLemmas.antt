-- A patch that grows from the document that another one saves.
use Rattle.std.proofs.Common.{◌≡◌, ℕ, ◌+◌, ◌≤◌, List, Ok, Err, Result, sym, ap, ◌∙◌, subst, arith}
use Rattle.pd_atom.specs.Names.{Names, Extends}
use Rattle.pd_clock.specs.declared.times.Rate.{Rate}
use Rattle.pd_canvas.specs.Pages.{Page}
use Rattle.pd_canvas.specs.Proper.{levels, IsProper}
use Rattle.pd_library.specs.Files.{answer_in}
use Rattle.pd_library.specs.declared.answers.Answer.{Answer}
use Rattle.pd_tree.specs.Trees.{Tree}
use Rattle.pd_growth.specs.Growth.{grown}
use Rattle.pd_growth.specs.Steps.{Stock, Step, beginning, gives}
use Rattle.pd_grove.specs.Standing.{GroveStands}
use Rattle.pd_gather.specs.Gather.{AreProper}
use Rattle.pd_gather.proofs.KnownLemmas.{library_of}
use Rattle.pd_patch.specs.declared.patch.Patch.{Patch}
use Rattle.pd_patch.specs.Document.{present_document}
use Rattle.pd_patch.specs.Grown.{IsTree}
use Rattle.pd_patch.specs.Wired.{IsWired}
use Rattle.pd_regrowth_law.specs.Regrowth.{stock}
use Rattle.pd_regrowth_law.specs.Suits.{AnswersAlike}
use Rattle.pd_regrowth_law.proofs.StepLemmas.{gives_same, gives_stock}
use Rattle.pd_regrowth_law.proofs.SuitLemmas.{texts_of_sound, none_of_sound}
use Rattle.pd_reload_law.specs.Reloading.{HasGrown, RunsAs}
use Rattle.pd_reload_law.specs.Saving.{tree_now}
use Rattle.pd_reload_law.proofs.ReloadLemmas.{document_opens}

levels_below : (n : ℕ) → n + 1 ≤ 256 → n ≤ 255
levels_below n h = omega (arith, h)

-- what a proper document gave has grown from it
pub has_grown : (files : List (ℕ × Answer)) (name : List ℕ) (d : Page) (before names : Names) (n : ℕ) (rate : Rate) (first : Patch) → IsProper before d → AreProper before files
    → (grew : IsTree first names rate (grown (answer_in files) name d (beginning before n)))
    → HasGrown (answer_in files) name d (beginning before n) grew.tree grew.given.after
has_grown files name d before names n rate first proper found grew = record {
  library = library_of before files found;
  texts = texts_of_sound before d proper.sound;
  none = none_of_sound before d proper.sound;
  shallow = levels_below (levels d.boxes) proper.limits.levels;
  grew = grew.given.step;
}

pub grows_again : (files files2 : List (ℕ × Answer)) (name : List ℕ) (d : Page) (before names names2 : Names) (n : ℕ) (rate : Rate) (first p : Patch) → IsProper before d
    → AreProper before files → (grew : IsTree first names rate (grown (answer_in files) name d (beginning before n)))
    → AnswersAlike (answer_in files) (answer_in files2) → RunsAs p.grove grew.tree → Extends names names2
    → grown (answer_in files2) name (present_document p) (beginning names2 n)
    ≡ gives (tree_now p.grove p.web p.numbers.items grew.tree) (stock names2 grew.given.after.zeros grew.given.after.room)
grows_again files files2 name d before names names2 n rate first p proper found grew like runs on =
    document_opens (answer_in files) (answer_in files2) name d (beginning before n) grew.given.after grew.tree p.grove p.web p.numbers.items names2
    (has_grown files name d before names n rate first proper found grew) like runs (subst (λ x. Extends x names2) grew.given.table on)

-- what a patch is that grew as this tree
stands_as : (q : Patch) (names4 names2 : Names) (rate : Rate) (s : Step Tree) (now : Tree) (zeros : List ℕ) (room : ℕ) → IsTree q names4 rate s → s ≡ gives now (stock names2 zeros room)
    → GroveStands q.grove now.sheet now.boxes × IsWired q.grove q.web now × (names4 ≡ names2)
stands_as q names4 names2 rate s now zeros room t e =
    let both = sym t.given.step ∙ e in
    let same : t.tree ≡ now = gives_same t.tree now t.given.after (stock names2 zeros room) both in
    let after : t.given.after ≡ stock names2 zeros room = gives_stock t.tree now t.given.after (stock names2 zeros room) both in (
      subst (λ (x : Tree). GroveStands q.grove x.sheet x.boxes) same t.stands,
      subst (IsWired q.grove q.web) same t.wired,
      t.given.table ∙ ap (λ (x : Stock). x.names) after,
    )

abbrev what_is_read : {E : Type 0} → Page × Names → Result (Page × Names) E → Page × Names
what_is_read d (Ok x) = x
what_is_read d (Err e) = d

pub read_pair : {E : Type 0} (p q : Page) (a b : Names) → ◌≡◌ {A = Result (Page × Names) E} (Ok (p, a)) (Ok (q, b)) → (q ≡ p) × (b ≡ a)
read_pair p q a b e =
    let same : (p, a) ≡ (q, b) = ap (what_is_read (p, a)) e in
    (sym (ap (λ (x : Page × Names). x.0) same), sym (ap (λ (x : Page × Names). x.1) same))

pub opens_again : (files files2 : List (ℕ × Answer)) (name : List ℕ) (d page : Page) (before names names2 names3 names4 : Names) (n : ℕ) (rate : Rate) (first p q : Patch)
    → IsProper before d → AreProper before files → (grew : IsTree first names rate (grown (answer_in files) name d (beginning before n)))
    → AnswersAlike (answer_in files) (answer_in files2) → RunsAs p.grove grew.tree → Extends names names2
    → page ≡ present_document p → names3 ≡ names2
    → IsTree q names4 rate (grown (answer_in files2) name page (beginning names3 n))
    → GroveStands q.grove (tree_now p.grove p.web p.numbers.items grew.tree).sheet (tree_now p.grove p.web p.numbers.items grew.tree).boxes
    × IsWired q.grove q.web (tree_now p.grove p.web p.numbers.items grew.tree) × (names4 ≡ names2)
opens_again files files2 name d page before names names2 names3 names4 n rate first p q proper found grew like runs on is table t =
    stands_as q names4 names2 rate (grown (answer_in files2) name page (beginning names3 n)) (tree_now p.grove p.web p.numbers.items grew.tree)
    grew.given.after.zeros grew.given.after.room t
    (ap (λ x. grown (answer_in files2) name x (beginning names3 n)) is ∙ ap (λ x. grown (answer_in files2) name (present_document p) (beginning x n)) table
    ∙ grows_again files files2 name d before names names2 n rate first p proper found grew like runs on)
