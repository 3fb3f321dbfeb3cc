-- What an edit comes to by what the folder holds, it comes to where that is untold.
use Rattle.std.proofs.Common.{ℕ, List, Option, Ok, Err, inl, inr}
use Rattle.pd_io.specs.declared.files.FileRow.{FileRow}
use Rattle.pd_canvas.specs.declared.edits.Edit.{Edit}
use Rattle.pd_gather.specs.Gather.{Known}
use Rattle.pd_patch.specs.declared.patch.Patch.{Patch}
use Rattle.pd_wiring.specs.declared.refusals.EditRefusal.{EditRefusal}
use Rattle.pd_adding.specs.declared.counts.Counts.{Counts}
use Rattle.pd_putting.specs.declared.adding.NewBox.{NewBox}
use Rattle.pd_putting.specs.Adds.{AddsBox, AddsBoxBy, IsNotPut, IsNotPutBy, IsShortOfRoom, IsShortOfRoomBy}
use Rattle.pd_putting.proofs.ComingLemmas.{comes_anyhow}

pub adds_untold : (holds : Option (List FileRow)) (old new : Patch) (n : Counts) (name path : List ℕ) (now : ℕ) (e : Edit) (k after : Known) (b : NewBox)
    → AddsBoxBy holds old new n name path now e k after b → AddsBox old new n name path now e k after b
adds_untold holds old new n name path now e k after b X = record {
  added = X.added;
  table = X.table;
  found = X.found;
  is_known = X.is_known;
  written = X.written;
  comes = comes_anyhow holds old n name path e k (Ok X.added) X.comes;
  files = X.files;
  grew = X.grew;
  put = X.put;
  canvas = X.canvas;
  counts = X.counts;
  known_is = X.known_is;
  table_after = X.table_after;
}

module _ (holds : Option (List FileRow)) (p : Patch) (n : Counts) (name path : List ℕ) (e : Edit) (k : Known) where
  pub not_put_untold : (why : EditRefusal) → IsNotPutBy holds p n name path e k why → IsNotPut p n name path e k why
  not_put_untold why h = elim h [
    | inl memory ↦ inl memory
    | inr others ↦ elim others [
      | inl fault ↦ inr (inl fault)
      | inr rest ↦ elim rest [
        | inl comes ↦ inr (inr (inl (comes_anyhow holds p n name path e k (Err why) comes)))
        | inr unknown ↦ inr (inr (inr unknown))
      ]
    ]
  ]

  pub short_untold : (new : Patch) → IsShortOfRoomBy holds p new n name path e k → IsShortOfRoom p new n name path e k
  short_untold new S = record { added = S.added; comes = comes_anyhow holds p n name path e k (Ok S.added) S.comes; can_come = S.can_come; room = S.room; goes_on = S.goes_on }
