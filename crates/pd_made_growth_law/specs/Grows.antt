-- That a made patch grows, and stays small.
use Rattle.std.specs.Prelude.{◌≡◌, ◌≤◌, ◌*◌, ℕ, List, Option}
use Rattle.pd_atom.specs.Names.{Names, first_names}
use Rattle.pd_clock.specs.declared.times.Rate.{Rate}
use Rattle.pd_fit.specs.Fitting.{wires_fitting}
use Rattle.pd_growth.specs.Growth.{grown}
use Rattle.pd_growth.specs.Steps.{Stock, beginning, gives}
use Rattle.pd_library.specs.declared.answers.Answer.{Answer}
use Rattle.pd_made.specs.Documents.{made_document}
use Rattle.pd_made.specs.Voices.{with_words}
use Rattle.pd_patch.specs.Sounds.{sound_of}
use Rattle.pd_tree.specs.Trees.{Tree}

-- a new table with the words of a made patch
abbrev pub word_names : Names
word_names = with_words first_names

-- The made patch of n voices grows under a file name, whatever is known of files: two wires a voice fit at the most, and no box keeps a table or a
-- line.
pub record GrowsSmall (lib : ℕ → Option Answer) (name : List ℕ) (n : ℕ) : Type 0 where
  pub tree : Tree
  pub after : Stock
  pub step : grown lib name (made_document word_names n) (beginning word_names 1001) ≡ gives tree after
  pub few_wires : wires_fitting tree.sheet tree.boxes ≤ 2 * n
  pub no_values : (rate : Rate) → sound_of rate tree.boxes ≡ 0
