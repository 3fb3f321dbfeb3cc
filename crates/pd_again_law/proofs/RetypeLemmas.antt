-- What the laws of pd_retype_law say of a box that an edit made another one.
use Rattle.std.proofs.Common.{◌≡◌, ◌≤◌, inl, inr, ℕ, List, ◌∙◌}
use Rattle.pd_atom.specs.declared.Atom.{Atom}
use Rattle.pd_atom.specs.Names.{Names, Extends, IsTable}
use Rattle.pd_canvas.specs.Proper.{IsProper}
use Rattle.pd_library.specs.Files.{answer_in}
use Rattle.pd_tree.specs.Trees.{Tree, weight, zeros_of, document_in}
use Rattle.pd_gather.specs.Gather.{Known}
use Rattle.pd_patch.specs.declared.patch.Patch.{Patch}
use Rattle.pd_patch.specs.Sounds.{sound_of}
use Rattle.pd_hearing.specs.Worlds.{states_of}
use Rattle.pd_boxes.specs.Put.{CanPut, HasOwners}
use Rattle.pd_reload_law.specs.Reloading.{RunsAs}
use Rattle.pd_saved_law.specs.Fitting.{WiresFit}
use Rattle.pd_inside_law.specs.Inside.{HoldsWires}
use Rattle.pd_putting_law.specs.Again.{StandsAgain}
use Rattle.pd_adding.specs.declared.counts.Counts.{Counts}
use Rattle.pd_steady.specs.PassedOn.{RetypedBox, RetypesBox, Becomes, cell_become}
use Rattle.pd_retyping_law.specs.Retypes.{retyped_at}
use Rattle.pd_again_law.proofs.HeldLemmas.{Settled}

pub record RetypeLaws : Type 0 where
  pub names : (old new : Patch) (n : Counts) (name path : List ℕ) (number : ℕ) (text : List Atom) (now : ℕ) (k after : Known) (steps steps' : ℕ) (b : RetypedBox)
      → RetypesBox old new n name path number text now k after steps steps' b → Extends k.names after.names
  pub runs : (old new : Patch) (n : Counts) (name path : List ℕ) (number : ℕ) (text : List Atom) (now : ℕ) (k after : Known) (steps steps' : ℕ) (b : RetypedBox) (t : Tree)
      → (r : RetypesBox old new n name path number text now k after steps steps' b) → CanPut old → RunsAs old.grove t → StandsAgain (answer_in k.files) name k.names t
      → RunsAs new.grove (retyped_at path number (cell_become r.became) t)
  pub again : (old new : Patch) (n : Counts) (name path : List ℕ) (number : ℕ) (text : List Atom) (now : ℕ) (k after : Known) (steps steps' : ℕ) (b : RetypedBox) (t : Tree)
      → (r : RetypesBox old new n name path number text now k after steps steps' b) → CanPut old → RunsAs old.grove t → StandsAgain (answer_in k.files) name k.names t
      → StandsAgain (answer_in after.files) name after.names (retyped_at path number (cell_become r.became) t)
  pub zeros : (old new : Patch) (n : Counts) (name path : List ℕ) (number : ℕ) (text : List Atom) (now : ℕ) (k after : Known) (steps steps' : ℕ) (b : RetypedBox) (t : Tree)
      → (r : RetypesBox old new n name path number text now k after steps steps' b) → CanPut old → RunsAs old.grove t
      → zeros_of (retyped_at path number (cell_become r.became) t) ≡ zeros_of t
  pub holds : (old new : Patch) (n : Counts) (name path : List ℕ) (number : ℕ) (text : List Atom) (now : ℕ) (k after : Known) (steps steps' : ℕ) (b : RetypedBox) (t : Tree)
      → (r : RetypesBox old new n name path number text now k after steps steps' b) → CanPut old → RunsAs old.grove t → HoldsWires old t
      → HoldsWires new (retyped_at path number (cell_become r.became) t)
  pub fit : (old new : Patch) (n : Counts) (name path : List ℕ) (number : ℕ) (text : List Atom) (now : ℕ) (k after : Known) (steps steps' : ℕ) (b : RetypedBox)
      → RetypesBox old new n name path number text now k after steps steps' b → CanPut old → WiresFit old → WiresFit new
  pub owners : (old new : Patch) (n : Counts) (name path : List ℕ) (number : ℕ) (text : List Atom) (now : ℕ) (k after : Known) (steps steps' : ℕ) (b : RetypedBox) (t : Tree)
      → RetypesBox old new n name path number text now k after steps steps' b → CanPut old → RunsAs old.grove t → StandsAgain (answer_in k.files) name k.names t
      → HasOwners old k.names name → HasOwners new after.names name
  pub boxes : (old new : Patch) (n : Counts) (name path : List ℕ) (number : ℕ) (text : List Atom) (now : ℕ) (k after : Known) (steps steps' : ℕ) (b : RetypedBox) (t : Tree)
      → (r : RetypesBox old new n name path number text now k after steps steps' b) → CanPut old → RunsAs old.grove t → n.boxes ≡ weight t.boxes
      → b.counts.boxes ≡ weight (retyped_at path number (cell_become r.became) t).boxes
  pub sound : (old new : Patch) (n : Counts) (name path : List ℕ) (number : ℕ) (text : List Atom) (now : ℕ) (k after : Known) (steps steps' : ℕ) (b : RetypedBox) (t : Tree)
      → (r : RetypesBox old new n name path number text now k after steps steps' b) → CanPut old → RunsAs old.grove t → n.sound ≡ sound_of old.rate t.boxes
      → b.counts.sound ≡ sound_of old.rate (retyped_at path number (cell_become r.became) t).boxes
  pub proper : (old new : Patch) (n : Counts) (name path : List ℕ) (number : ℕ) (text : List Atom) (now : ℕ) (k after : Known) (steps steps' : ℕ) (b : RetypedBox) (t : Tree) (later : Names)
      → (r : RetypesBox old new n name path number text now k after steps steps' b) → CanPut old → RunsAs old.grove t → StandsAgain (answer_in k.files) name k.names t
      → Extends after.names later → IsTable later → weight t.boxes ≤ 16384
      → IsProper later (document_in t) → IsProper later (document_in (retyped_at path number (cell_become r.became) t))
  pub contents : (old new : Patch) (n : Counts) (name path : List ℕ) (number : ℕ) (text : List Atom) (now : ℕ) (k after : Known) (steps steps' : ℕ) (b : RetypedBox) (t : Tree)
      → RetypesBox old new n name path number text now k after steps steps' b → CanPut old → RunsAs old.grove t → StandsAgain (answer_in k.files) name k.names t
      → Settled old k.names (states_of old) → Settled new after.names (states_of new)

-- the patch runs on at its rate
pub same_rate : (old new : Patch) (n : Counts) (name path : List ℕ) (number : ℕ) (text : List Atom) (now : ℕ) (k after : Known) (steps steps' : ℕ) (b : RetypedBox)
    → RetypesBox old new n name path number text now k after steps steps' b → new.rate ≡ old.rate
same_rate old new n name path number text now k after steps steps' b r = by r.became
  where
    by : Becomes old new k.names text now b.key r.node r.added b.gone.items steps steps' → new.rate ≡ old.rate
    by (inl x) = x.back.tightens.rest.rate ∙ x.refit.rate ∙ x.frees.rest.rate ∙ x.loosens.rest.rate ∙ x.room.rate
    by (inr x) = x.renamed.rest.rate ∙ x.room.rate
