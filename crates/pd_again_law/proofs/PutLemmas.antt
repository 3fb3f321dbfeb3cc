-- What the laws of pd_put_law say of a box that an edit put.
use Rattle.std.proofs.Common.{◌≡◌, ◌≤◌, ℕ, List, [], ◌∷◌, ◌++◌, ◌⊎◌, inl, inr, None, sym, ap, subst, ◌∙◌}
use Rattle.std.proofs.lemmas.Option.{none-some}
use Rattle.slab.specs.Slab.{get}
use Rattle.pd_atom.specs.Names.{Names, Extends, IsTable}
use Rattle.pd_canvas.specs.declared.edits.Edit.{Edit}
use Rattle.pd_canvas.specs.Pages.{Shape}
use Rattle.pd_canvas.specs.Proper.{IsProper}
use Rattle.pd_library.specs.Files.{answer_in}
use Rattle.pd_tree.specs.Trees.{Trees, Tree, weight, width, own_zeros, zeros_in, document_in}
use Rattle.pd_grove.specs.Standing.{Stands, depth_of}
use Rattle.pd_grove.specs.Telling.{inner_in}
use Rattle.pd_gather.specs.Gather.{Known}
use Rattle.pd_patch.specs.declared.patch.Patch.{Patch}
use Rattle.pd_patch.specs.Sounds.{sound_of}
use Rattle.pd_hearing.specs.Worlds.{states_of}
use Rattle.pd_boxes.specs.Put.{CanPut, HasOwners}
use Rattle.pd_reload_law.specs.Reloading.{RunsAs}
use Rattle.pd_saved_law.specs.Fitting.{WiresFit}
use Rattle.pd_inside_law.specs.Inside.{HoldsWires}
use Rattle.pd_putting_law.specs.Again.{StandsAgain}
use Rattle.pd_putting_law.specs.Puts.{put_at}
use Rattle.pd_putting_law.proofs.StandLemmas.{seen_inner}
use Rattle.pd_adding.specs.declared.counts.Counts.{Counts}
use Rattle.pd_adding.specs.Growing.{Added}
use Rattle.pd_steady.specs.PassedOn.{NewBox, AddsBox, HasCome, IsPartBoxPut, IsSub}
use Rattle.pd_again_law.proofs.HeldLemmas.{Settled}

pub record PutLaws : Type 0 where
  pub names : (old new : Patch) (n : Counts) (name path : List ℕ) (now : ℕ) (e : Edit) (k after : Known) (b : NewBox)
      → AddsBox old new n name path now e k after b → Extends k.names after.names
  pub runs : (old new : Patch) (n : Counts) (name path : List ℕ) (now : ℕ) (e : Edit) (k after : Known) (b : NewBox) (t : Tree)
      → (adds : AddsBox old new n name path now e k after b) → CanPut old → RunsAs old.grove t → StandsAgain (answer_in k.files) name k.names t
      → RunsAs new.grove (put_at path adds.added.boxes t)
  pub again : (old new : Patch) (n : Counts) (name path : List ℕ) (now : ℕ) (e : Edit) (k after : Known) (b : NewBox) (t : Tree)
      → (adds : AddsBox old new n name path now e k after b) → CanPut old → RunsAs old.grove t → StandsAgain (answer_in k.files) name k.names t
      → StandsAgain (answer_in after.files) name after.names (put_at path adds.added.boxes t)
  pub holds : (old new : Patch) (n : Counts) (name path : List ℕ) (now : ℕ) (e : Edit) (k after : Known) (b : NewBox) (t : Tree)
      → (adds : AddsBox old new n name path now e k after b) → CanPut old → RunsAs old.grove t → HoldsWires old t
      → HoldsWires new (put_at path adds.added.boxes t)
  pub fit : (old new : Patch) (n : Counts) (name path : List ℕ) (now : ℕ) (e : Edit) (k after : Known) (b : NewBox)
      → AddsBox old new n name path now e k after b → CanPut old → WiresFit old → WiresFit new
  pub owners : (old new : Patch) (n : Counts) (name path : List ℕ) (now : ℕ) (e : Edit) (k after : Known) (b : NewBox) (t : Tree)
      → AddsBox old new n name path now e k after b → RunsAs old.grove t → StandsAgain (answer_in k.files) name k.names t
      → HasOwners old k.names name → HasOwners new after.names name
  pub boxes : (old new : Patch) (n : Counts) (name path : List ℕ) (now : ℕ) (e : Edit) (k after : Known) (b : NewBox) (t : Tree)
      → (adds : AddsBox old new n name path now e k after b) → CanPut old → RunsAs old.grove t → n.boxes ≡ weight t.boxes
      → b.counts.boxes ≡ weight (put_at path adds.added.boxes t).boxes
  pub sound : (old new : Patch) (n : Counts) (name path : List ℕ) (now : ℕ) (e : Edit) (k after : Known) (b : NewBox) (t : Tree)
      → (adds : AddsBox old new n name path now e k after b) → CanPut old → RunsAs old.grove t → n.sound ≡ sound_of old.rate t.boxes
      → b.counts.sound ≡ sound_of old.rate (put_at path adds.added.boxes t).boxes
  pub proper : (old new : Patch) (n : Counts) (name path : List ℕ) (now : ℕ) (e : Edit) (k after : Known) (b : NewBox) (t : Tree) (later : Names)
      → (adds : AddsBox old new n name path now e k after b) → CanPut old → RunsAs old.grove t → StandsAgain (answer_in k.files) name k.names t
      → Extends after.names later → IsTable later → weight (put_at path adds.added.boxes t).boxes ≤ 16384
      → IsProper later (document_in t) → IsProper later (document_in (put_at path adds.added.boxes t))
  pub contents : (old new : Patch) (n : Counts) (name path : List ℕ) (now : ℕ) (e : Edit) (k after : Known) (b : NewBox) (t : Tree)
      → AddsBox old new n name path now e k after b → CanPut old → RunsAs old.grove t → StandsAgain (answer_in k.files) name k.names t
      → Settled old k.names (states_of old) → Settled new after.names (states_of new)

-- a box without a canvas that came has no `$0`, nor has a subpatch without boxes
module _ (old new : Patch) (now : ℕ) (a : Added) (key : ℕ) where
  sub_numbers : IsSub old a → zeros_in a.boxes ≡ []
  sub_numbers x = ap (λ (t : Trees). zeros_in t) x.single ∙ ap (λ (f : Shape). own_zeros f x.sheet ++ []) x.form

  part_holds : (x : IsPartBoxPut old new now a key) → inner_in (get new.grove.nodes key) ≡ None → ⊥
  part_holds x bare =
      let S = subst (λ (t : Trees). Stands (get new.grove.nodes) (get new.grove.boards) a.canvas (depth_of (get x.ready.grove.boards a.canvas)) (key ∷ []) t) x.holder.single
      (x.put.stands a.boxes x.are_rows (ap (λ (t : Trees). width t) x.holder.single)) in
      none-some S.0 (sym bare ∙ seen_inner (get new.grove.nodes key) _ S.2)

  bare_numbers : HasCome old new now a key → inner_in (get new.grove.nodes key) ≡ None → zeros_in a.boxes ≡ []
  bare_numbers (inl x) bare = ap (λ (t : Trees). zeros_in t) x.plain.single
  bare_numbers (inr (inl x)) bare = sub_numbers x.sub
  bare_numbers (inr (inr (inl x))) bare = ap (λ (t : Trees). zeros_in t) x.port.single
  bare_numbers (inr (inr (inr x))) bare = absurd (part_holds x bare)

  pub no_numbers : HasCome old new now a key → (inner_in (get new.grove.nodes key) ≡ None) ⊎ IsSub old a → zeros_in a.boxes ≡ []
  no_numbers come (inl bare) = bare_numbers come bare
  no_numbers come (inr sub) = sub_numbers sub

  -- the patch runs on at its rate
  pub same_rate : HasCome old new now a key → new.rate ≡ old.rate
  same_rate (inl x) = x.put.comes.rate ∙ x.room.rate
  same_rate (inr (inl x)) = x.put.comes.rate ∙ x.room.rate
  same_rate (inr (inr (inl x))) = x.put.rest.rate ∙ x.put.comes.rate ∙ x.room.rate
  same_rate (inr (inr (inr x))) = x.put.rate ∙ x.room.rate
