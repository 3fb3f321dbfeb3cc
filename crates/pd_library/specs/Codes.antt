-- How an answer is stored: a page, a number, or nothing.
use Rattle.std.specs.Prelude.{◌≡◌, ℕ, ◌⊎◌, List, Option, Some, None}
use Rattle.std.specs.Coded.{Coded, code_by, coded×, coded⊎, coded_list, coded_option, coded_ℕ}
use Rattle.std.proofs.Common.{refl, inl, inr}
use Rattle.pd_canvas.specs.declared.tree.Doc.{Doc}
use Rattle.pd_canvas.specs.Pages.{Page}
use Rattle.pd_canvas.specs.Codes.{page_code}
use Rattle.pd_library.specs.declared.answers.Answer.{Answer}
use Rattle.pd_library.specs.declared.answers.Answer.TheVariants.{Found, Absent, Bad}

abbrev pub answer_parts : Answer → Option (Page ⊎ ℕ)
answer_parts (Found d) = Some (inl d.root)
answer_parts Absent = None
answer_parts (Bad n) = Some (inr n)

abbrev pub answer_from : Option (Page ⊎ ℕ) → Answer
answer_from (Some (inl p)) = Found (record { root = p })
answer_from (Some (inr n)) = Bad n
answer_from None = Absent

pub answer_back : (a : Answer) → answer_from (answer_parts a) ≡ a
answer_back (Found d) = refl
answer_back Absent = refl
answer_back (Bad n) = refl

abbrev pub answer_code : Coded Answer
answer_code = code_by (Option (Page ⊎ ℕ)) (coded_option (coded⊎ page_code coded_ℕ)) answer_parts answer_from answer_back

abbrev pub files_code : Coded (List (ℕ × Answer))
files_code = coded_list (coded× coded_ℕ answer_code)

abbrev pub doc_code : Coded Doc
doc_code = code_by Page page_code (λ d. d.root) (λ p. record { root = p }) (λ d. refl)

abbrev pub drafts_code : Coded (List (ℕ × Doc))
drafts_code = coded_list (coded× coded_ℕ doc_code)
