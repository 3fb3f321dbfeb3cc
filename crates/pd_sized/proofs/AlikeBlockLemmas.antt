-- A block leaves what boxes keep of the same objects.
use Rattle.std.proofs.Common.{ℕ, List, Option, refl, ◌∙◌}
use Rattle.pd_kind.specs.declared.states.State.{State}
use Rattle.pd_block.specs.Nets.{Net, Sound}
use Rattle.pd_block.specs.Blocks.{Played, ran_plain, each, silenced, ran_box, ran_canvas, begun, block_of}
use Rattle.pd_keeping_law.specs.Changes.{RunsOn, silent, later, AllRunOn}
use Rattle.pd_keeping_law.proofs.BlockLemmas.{box_keeps, silent_keeps, canvas_keeps, plain_runs, begun_runs, block_runs}
use Rattle.pd_sized.specs.Alike.{IsAlike, AreAlike}
use Rattle.pd_sized.proofs.AlikeRunLemmas.{passes_alike, onward}

-- what a box may keep after its turns is of the same objects
runs_alike : {s t : State} → RunsOn s t → IsAlike s t
runs_alike silent = refl
runs_alike (later r q) = runs_alike q ∙ runs_alike r
runs_alike r = refl

all_run-alike : (old new : ℕ → Option State) → AllRunOn old new → AreAlike old new
all_run-alike old new r k = passes_alike RunsOn (λ s t q. runs_alike q) (r k)

module _ (net : Net) (start : ℕ) where
  -- boxes and canvases, since what the boxes kept at first
  module _ (base : ℕ → Option State) where
    abbrev pub Alike : Played → Type 0
    Alike p = AreAlike base p.sound.states

    abbrev AlikeSound : Sound → Type 0
    AlikeSound s = AreAlike base s.states

    plain_alike : (p : Played) (node : ℕ) → Alike p → Alike (ran_plain net start p node)
    plain_alike p node a =
        let q : Played = ran_plain net start p node in
        onward base p.sound.states q.sound.states a (all_run-alike p.sound.states q.sound.states (plain_runs net start p node))

    silenced_alike : (s : Sound) (node : ℕ) → AlikeSound s → AlikeSound (silenced s node)
    silenced_alike s node a = a

    pub box_alike : (inside : Played → ℕ → Played) → ((p : Played) (c : ℕ) → Alike p → Alike (inside p c)) → (p : Played) (node : ℕ) (o : Option ℕ) → Alike p → Alike (ran_box net start inside p node o)
    box_alike inside k p node o a = box_keeps net start AlikeSound plain_alike silenced_alike inside k p node o a

    pub silent_alike : (s : Sound) (ns : List ℕ) → AreAlike base s.states → AreAlike base (each silenced s ns).states
    silent_alike s ns a = silent_keeps net start AlikeSound plain_alike silenced_alike s ns a

    pub canvas_alike : (levels : ℕ) (p : Played) (canvas : ℕ) → Alike p → Alike (ran_canvas net start levels p canvas)
    canvas_alike levels p canvas a = canvas_keeps net start AlikeSound plain_alike silenced_alike levels p canvas a

  pub begun_alike : (s : Sound) → AreAlike s.states (begun s).states
  begun_alike s = all_run-alike s.states (begun s).states (begun_runs net start s)

pub block_alike : (net : Net) (start : ℕ) (s : Sound) → AreAlike s.states (block_of net s start).sound.states
block_alike net start s = all_run-alike s.states (block_of net s start).sound.states (block_runs net start s)
