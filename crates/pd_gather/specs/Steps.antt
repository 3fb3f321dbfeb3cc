-- One file more.
use Rattle.std.specs.Prelude.{◌≡◌, ℕ, List, Option, Some, None, IfSome}
use Rattle.pd_io.specs.Rows.{held_at}
use Rattle.pd_io.specs.declared.files.FileRow.{FileRow}
use Rattle.pd_atom.specs.Names.{name_of}
use Rattle.pd_library.specs.declared.answers.Answer.{Answer}
use Rattle.pd_gather.specs.declared.fetching.Fetch.{Fetch}
use Rattle.pd_gather.specs.Fetching.{file_of, given, answer_given}
use Rattle.pd_gather.specs.Gather.{Known, learned}

-- the shelf gives this for the file of an abstraction, which is what it holds, where it tells that
abbrev pub IsGiven : Option (List FileRow) → ℕ → Known → Fetch → Type 0
IsGiven holds s k f = IfSome holds (λ rows. f ≡ given (held_at (file_of (name_of k.names s)) rows))

-- what is known of the file is known besides
pub record LearnsOne (holds : Option (List FileRow)) (s : ℕ) (k k2 : Known) : Type 0 where
  pub fetch : Fetch
  pub answer : Answer
  pub given : IsGiven holds s k fetch
  pub reads : answer_given k.names fetch ≡ Some (answer, k2.names)
  pub learns : k2 ≡ learned s k (answer, k2.names)

-- the file brings a name more than the table holds
pub record FillsTable (holds : Option (List FileRow)) (s : ℕ) (k : Known) : Type 0 where
  pub fetch : Fetch
  pub given : IsGiven holds s k fetch
  pub reads : answer_given k.names fetch ≡ None
