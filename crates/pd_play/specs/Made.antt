-- The made patch, and the line that tells what its run came to.
use Rattle.std.specs.Prelude.{ℕ, ◌/◌, List, length}
use Rattle.slab.specs.Slab.{get}
use Rattle.pd_atom.specs.Names.{Names, first_names}
use Rattle.pd_grove.specs.Telling.{keys_in}
use Rattle.pd_web.specs.Changes.{wires_told}
use Rattle.pd_made.specs.Voices.{with_words}
use Rattle.pd_made.specs.Summaries.{summary_text}
use Rattle.pd_made.specs.declared.summary.Summary.{Summary}
use Rattle.pd_stage.specs.Stages.{Stage}

-- the table of names with which a made patch opens
abbrev pub made_names : Names
made_names = with_words first_names

-- how many elements the document has, and how many wires the patch
abbrev pub elements_at : Stage → ℕ
elements_at s = length (keys_in (get s.net.boards s.net.root))

abbrev pub wires_at : Stage → ℕ
wires_at s = wires_told s.net.web

-- What the run of a made patch of n voices came to, where it ends so. A block has 256 bytes.
abbrev pub summary_at : ℕ → Stage → Summary
summary_at n s = record { voices = n; boxes = elements_at s; wires = wires_at s; blocks = s.tally.count / 256; sum = s.tally.sum }

abbrev pub summary_line : ℕ → Stage → List ℕ
summary_line n s = summary_text (summary_at n s)
