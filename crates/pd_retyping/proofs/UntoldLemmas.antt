-- What an edit comes to by what the folder holds, it comes to where that is untold.
use Rattle.std.proofs.Common.{ℕ, List, Option, None, Result, Ok, Err, inl, inr}
use Rattle.std.specs.Prelude.{◌⊎◌}
use Rattle.std.specs.List.{All}
use Rattle.pd_io.specs.declared.files.FileRow.{FileRow}
use Rattle.pd_atom.specs.declared.Atom.{Atom}
use Rattle.pd_atom.specs.Atoms.{IsOf}
use Rattle.pd_canvas.specs.declared.edits.Edit.{Edit}
use Rattle.pd_gather.specs.Gather.{Known}
use Rattle.pd_patch.specs.declared.patch.Patch.{Patch}
use Rattle.pd_wiring.specs.declared.refusals.EditRefusal.{EditRefusal}
use Rattle.pd_adding.specs.declared.counts.Counts.{Counts}
use Rattle.pd_adding.specs.Growing.{Added}
use Rattle.pd_adding.specs.Adding.{ComesTo}
use Rattle.pd_retyping.specs.declared.retyping.RetypedBox.{RetypedBox}
use Rattle.pd_retyping.specs.Retypes.{RetypesTo, RetypesToBy, RetypesBox, RetypesBoxBy, IsNotYetBy, IsRefused, IsRefusedBy, IsShortOfRoom, IsShortOfRoomBy}

comes_untold : (holds : Option (List FileRow)) (p : Patch) (n : Counts) (name path : List ℕ) (e : Edit) (k : Known) (r : Result Added EditRefusal)
    → ComesTo holds p n name path e k r → ComesTo None p n name path e k r
comes_untold holds p n name path e k r c = record { fetches = c.fetches; comes = c.comes; held = tt }

module _ (holds : Option (List FileRow)) (p : Patch) (n : Counts) (name path : List ℕ) (number : ℕ) (text : List Atom) (k : Known) where
  to_untold : (r : Result Added EditRefusal) → RetypesToBy holds p n name path number text k r → RetypesTo p n name path number text k r
  to_untold r c = record { canvas = c.canvas; key = c.key; node = c.node; chosen = c.chosen; comes = comes_untold holds p _ name path _ k r c.comes }

  not_yet_untold : IsNotYetBy holds p n name path number text k → IsNotYetBy None p n name path number text k
  unfolding to_untold
  not_yet_untold s = record { added = s.added; comes = to_untold (Ok s.added) s.comes; other = s.other; no_text = s.no_text }

  left_untold : (All (IsOf k.names) text → ⊥) ⊎ IsNotYetBy holds p n name path number text k → (All (IsOf k.names) text → ⊥) ⊎ IsNotYetBy None p n name path number text k
  left_untold s = elim s [
    | inl other ↦ inl other
    | inr yet ↦ inr (not_yet_untold yet)
  ]

pub retypes_untold : (holds : Option (List FileRow)) (old new : Patch) (n : Counts) (name path : List ℕ) (number : ℕ) (text : List Atom) (now : ℕ) (k after : Known) (steps steps' : ℕ) (b : RetypedBox)
    → RetypesBoxBy holds old new n name path number text now k after steps steps' b → RetypesBox old new n name path number text now k after steps steps' b
retypes_untold holds old new n name path number text now k after steps steps' b X = record {
  node = X.node;
  chosen = X.chosen;
  is = X.is;
  entry = X.entry;
  new_entry = X.new_entry;
  same_head = X.same_head;
  same_entry = X.same_entry;
  table = X.table;
  found = X.found;
  is_known = X.is_known;
  written = X.written;
  added = X.added;
  comes = comes_untold holds old _ name path _ k (Ok X.added) X.comes;
  files = X.files;
  grew = X.grew;
  became = X.became;
  canvas = X.canvas;
  counts = X.counts;
  known_is = X.known_is;
  table_after = X.table_after;
}

pub refused_untold : (holds : Option (List FileRow)) (p : Patch) (n : Counts) (name path : List ℕ) (number : ℕ) (text : List Atom) (k : Known) (why : EditRefusal)
    → IsRefusedBy holds p n name path number text k why → IsRefused p n name path number text k why
refused_untold holds p n name path number text k why h = elim h [
  | inl memory ↦ inl memory
  | inr others ↦ elim others [
    | inl reason ↦ inr (inl reason)
    | inr others ↦ elim others [
      | inl fault ↦ inr (inr (inl fault))
      | inr others ↦ elim others [
        | inl comes ↦ inr (inr (inr (inl (to_untold holds p n name path number text k (Err why) comes))))
        | inr left ↦ inr (inr (inr (inr (left.0, left_untold holds p n name path number text k left.1))))
      ]
    ]
  ]
]

pub short_untold : (holds : Option (List FileRow)) (old new : Patch) (n : Counts) (name path : List ℕ) (number : ℕ) (text : List Atom) (k : Known)
    → IsShortOfRoomBy holds old new n name path number text k → IsShortOfRoom old new n name path number text k
unfolding to_untold
short_untold holds old new n name path number text k s = record {
  added = s.added;
  comes = to_untold holds old n name path number text k (Ok s.added) s.comes;
  can = s.can;
  room = s.room;
  goes_on = s.goes_on;
}
