-- What more is known of files changes no answer that was known, and proper files suit growth again.
use Rattle.std.proofs.Common.{◌≡◌, ℕ, ◌+◌, ◌≤◌, ◌==◌, Bool, true, false, List, [], ◌∷◌, ◌++◌, Option, Some, if◌then◌else◌, ap, subst, arith}
use Rattle.std.specs.Option.{unwrap_or}
use Rattle.std.specs.List.{AllByRecursion}
use Rattle.pd_atom.specs.Names.{Names}
use Rattle.pd_canvas.specs.declared.tree.Doc.{Doc}
use Rattle.pd_canvas.specs.Pages.{Page, Entry, elements_of}
use Rattle.pd_canvas.specs.Proper.{IsProper, levels}
use Rattle.pd_library.specs.declared.answers.Answer.{Answer}
use Rattle.pd_library.specs.declared.answers.Answer.TheVariants.{Found}
use Rattle.pd_library.specs.Files.{answer_in}
use Rattle.pd_growth.specs.Suits.{EntrySuits}
use Rattle.pd_growth.proofs.FileLemmas.{proper_page}
use Rattle.pd_growth.proofs.SuitLemmas.{boxes_suit}
use Rattle.pd_regrowth_law.specs.Suits.{TextsOf, AreEntriesOf, IsLibraryOf, AnswersAlike}
use Rattle.pd_regrowth_law.proofs.SuitLemmas.{texts_of_sound}
use Rattle.pd_regrowth_law.proofs.AgainLemmas.{entries_of}
use Rattle.pd_gather.specs.Gather.{IsProperAnswer, AreProper}

behind : (b : Bool) (o r r2 : Option Answer) (x : Answer) → (r ≡ Some x → r2 ≡ Some x) → (if b then o else r) ≡ Some x → (if b then o else r2) ≡ Some x
behind true o r r2 x f h = h
behind false o r r2 x f h = f h

-- with one file more each answer stays
pub learned_alike : (files : List (ℕ × Answer)) (s : ℕ) (a : Answer) → AnswersAlike (answer_in files) (answer_in (files ++ (s, a) ∷ []))
learned_alike [] s a n x h = (cc)
learned_alike (e ∷ files) s a n x h =
    behind (e.0 == n) (Some e.1) (answer_in files n) (answer_in (files ++ (s, a) ∷ []) n) x (learned_alike files s a n x) h

found_by : (names : Names) (b : Bool) (a : Answer) (o : Option Answer) (d : Doc) → IsProperAnswer names a → (o ≡ Some (Found d) → TextsOf names d.root.boxes)
    → (if b then Some a else o) ≡ Some (Found d) → TextsOf names d.root.boxes
found_by names true a o d h f is =
    let proper : IsProperAnswer names (Found d) = subst (IsProperAnswer names) (ap (λ (x : Option Answer). unwrap_or x a) is) h in
    texts_of_sound names d.root proper.sound
found_by names false a o d h f is = f is

found_in : (names : Names) (files : List (ℕ × Answer)) → AreProper names files → (s : ℕ) (d : Doc) → answer_in files s ≡ Some (Found d) → TextsOf names d.root.boxes
found_in names [] h s d is = (cc)
found_in names (e ∷ files) h s d is = found_by names (e.0 == s) e.1 (answer_in files s) d h.0 (found_in names files h.1 s d) is

-- the texts of proper files are of the table
pub library_of : (names : Names) (files : List (ℕ × Answer)) → AreProper names files → IsLibraryOf names (answer_in files)
library_of names files h = record { texts = found_in names files h }

entries_before : (names : Names) (done rest : List Entry) → AreEntriesOf names (done ++ rest) → AreEntriesOf names done
entries_before names [] rest h = tt
entries_before names (e ∷ done) rest h = (h.0, entries_before names done rest h.1)

-- and so are those of the first boxes of a proper document
pub first_entries : (names : Names) (p : Page) (done rest : List Entry) → IsProper names p → elements_of p ≡ done ++ rest → AreEntriesOf names done
first_entries names p done rest h split =
    entries_before names done rest (subst (AreEntriesOf names) split (entries_of names p.boxes (texts_of_sound names p h.sound)))

at_place : (names : Names) (done rest : List Entry) (e : Entry) → AllByRecursion (EntrySuits names 255) (done ++ e ∷ rest) → EntrySuits names 255 e
at_place names [] rest e h = h.0
at_place names (d ∷ done) rest e h = at_place names done rest e h.1

-- each box of a proper document can grow
pub entry_suits : (names : Names) (p : Page) (done rest : List Entry) (e : Entry) → IsProper names p → elements_of p ≡ done ++ e ∷ rest → EntrySuits names 255 e
entry_suits names p done rest e h split =
    let page = proper_page names p h in
    let deep : levels p.boxes + 1 ≤ 256 = h.limits.levels in
    at_place names done rest e
    (subst (λ (es : List Entry). AllByRecursion (EntrySuits names 255) es) split (boxes_suit names 255 p.boxes page.0 page.1 (omega (arith, deep))))
