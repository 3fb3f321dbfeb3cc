-- Proper documents can grow, and stay proper where the table goes on.
use Rattle.std.proofs.Common.{ℕ, ◌==◌, Bool, true, false, List, [], ◌∷◌, ◌++◌, Option, Some, if◌then◌else◌}
use Rattle.pd_atom.specs.Names.{Names, IsTable, Extends}
use Rattle.pd_canvas.specs.Pages.{Page}
use Rattle.pd_canvas.specs.Proper.{IsProper}
use Rattle.pd_doc.proofs.GrowLaws.{proper_grows}
use Rattle.pd_library.specs.declared.answers.Answer.{Answer}
use Rattle.pd_library.specs.declared.answers.Answer.TheVariants.{Found, Absent, Bad}
use Rattle.pd_library.specs.Files.{answer_in}
use Rattle.pd_growth.specs.Suits.{RootSuits, AnswerSuits, FilesSuit}
use Rattle.pd_growth.proofs.FileLemmas.{proper_page}
use Rattle.pd_gather.specs.Gather.{IsProperAnswer, AreProper}

pub root_suits : (names : Names) (p : Page) → IsProper names p → RootSuits names p
root_suits names p h = (proper_page names p h, h.limits.levels)

answer_suits : (names : Names) (a : Answer) → IsProperAnswer names a → AnswerSuits names (Some a)
answer_suits names (Found d) h = proper_page names d.root h
answer_suits names Absent h = tt
answer_suits names (Bad n) h = tt

by_name : (names : Names) (b : Bool) (x y : Option Answer) → AnswerSuits names x → AnswerSuits names y → AnswerSuits names (if b then x else y)
by_name names true x y h k = h
by_name names false x y h k = k

pub files_suit : (names : Names) (files : List (ℕ × Answer)) → AreProper names files → FilesSuit names (answer_in files)
files_suit names [] h s = tt
files_suit names (e ∷ files) h s =
    by_name names (e.0 == s) (Some e.1) (answer_in files s) (answer_suits names e.1 h.0) (files_suit names files h.1 s)

module _ (old new : Names) (extends : Extends old new) (before : IsTable old) (after : IsTable new) where
  pub still_proper : (p : Page) → IsProper old p → IsProper new p
  still_proper p h = proper_grows old new (record { extends = extends; before = before; after = after }) p h

  still_answer : (a : Answer) → IsProperAnswer old a → IsProperAnswer new a
  still_answer (Found d) h = still_proper d.root h
  still_answer Absent h = tt
  still_answer (Bad n) h = tt

  pub still_found : (files : List (ℕ × Answer)) → AreProper old files → AreProper new files
  still_found [] h = tt
  still_found (e ∷ files) h = (still_answer e.1 h.0, still_found files h.1)

pub found_more : (names : Names) (files : List (ℕ × Answer)) (e : ℕ × Answer) → AreProper names files → IsProperAnswer names e.1 → AreProper names (files ++ e ∷ [])
found_more names [] e h a = (a, tt)
found_more names (f ∷ files) e h a = (h.0, found_more names files e h.1 a)
