-- An edit that gave a box another text: the box became another one, or it is a subpatch that took the text.
use Rattle.std.proofs.Common.{◌≡◌, ◌+◌, ℕ, zero, suc, List, [], ◌∷◌, filter, length, Some, inl, inr, refl, sym, ap, ◌∙◌, arith}
use Rattle.pd_atom.specs.declared.Atom.{Atom}
use Rattle.pd_atom.specs.Names.{Names, Extends, IsTable}
use Rattle.pd_kind.specs.States.{start_of}
use Rattle.pd_kind.specs.Tables.{started}
use Rattle.pd_canvas.specs.declared.edits.Edit.TheVariants as edit
use Rattle.pd_canvas.specs.declared.wires.Wire.{Wire}
use Rattle.pd_canvas.specs.Edits.{edited, retyped}
use Rattle.pd_canvas.specs.Pages.{Boxes, End, Box, Page, Entry, boxed, listed}
use Rattle.pd_canvas.specs.Paths.{at_place, change_box, inside, edit_at}
use Rattle.pd_canvas.specs.Proper.{IsProper}
use Rattle.pd_library.specs.Files.{answer_in}
use Rattle.pd_tree.specs.Trees.{Done, Leaf, Holder, Tree, weight, zeros_of, document_in}
use Rattle.pd_hearing.specs.Worlds.{states_of}
use Rattle.pd_web.specs.declared.web.Hop.{Hop}
use Rattle.pd_web.specs.declared.web.Web.{Web}
use Rattle.pd_web.specs.Changes.{wires_told}
use Rattle.pd_web.specs.Hops.{fan_hops, places_of}
use Rattle.pd_patch.specs.declared.patch.Patch.{Patch}
use Rattle.pd_patch.specs.Document.{present_document}
use Rattle.pd_patch.specs.Sounds.{sound_of}
use Rattle.pd_gather.specs.Gather.{Known}
use Rattle.pd_boxes.specs.Put.{CanPut, HasOwners}
use Rattle.pd_contents_law.specs.Contents.{HaveContents, counts_of}
use Rattle.pd_inside_law.specs.Inside.{HoldsWires}
use Rattle.pd_proper_law.specs.Saves.{kinds_of, IsWritten}
use Rattle.pd_reload_law.specs.Reloading.{RunsAs}
use Rattle.pd_saved_law.specs.Fitting.{WiresFit}
use Rattle.pd_putting_law.specs.Again.{StandsAgain}
use Rattle.pd_putting_law.specs.Putting.{KeepsText, entry_kept}
use Rattle.pd_adding.specs.declared.counts.Counts.{Counts}
use Rattle.pd_misfits.specs.declared.wires.BoxWire.{BoxWire}
use Rattle.pd_misfits.specs.Shedding.{is_left, numbered, without_wires}
use Rattle.pd_retyping.specs.declared.retyping.RetypedBox.{RetypedBox}
use Rattle.pd_retyping.specs.Asking.{settled_text}
use Rattle.pd_retyping.specs.Retypes.{Becomes, RetypesBox, cell_become}
use Rattle.pd_retyping_law.specs.Retypes.{retyped_at}
use Rattle.pd_retype_law.specs.Losing.{less_wires}
use Rattle.pd_retype_law.proofs.BecomeLemmas.{box_again, box_runs}
use Rattle.pd_retype_law.proofs.CountLemmas.{as_many_boxes, as_much_sound, box_traded, box_zeros, same_next}
use Rattle.pd_retype_law.proofs.InsideLemmas.{box_fits, box_holds, box_owners, box_wires}
use Rattle.pd_retype_law.proofs.PageLemmas.{document_after, document_kept}
use Rattle.pd_retype_law.proofs.ProperLemmas.{box_proper}
use Rattle.pd_retype_law.proofs.RenameLemmas.{sub_again, sub_contents, sub_document, sub_fits, sub_holds, sub_kept, sub_none, sub_owners, sub_proper, sub_runs, sub_traded, sub_wires, sub_zeros}
use Rattle.pd_retype_law.proofs.WrittenLemmas.{box_contents}

-- ---- a page that loses no wires

boxed_listed : (b : Boxes) → boxed (listed b) ≡ b
boxed_listed End = refl
boxed_listed (Box h f inner rest) = ap (Box h f inner) (boxed_listed rest)

none_lost : (ws : List Wire) → without_wires [] ws ≡ ws
none_lost [] = refl
none_lost (w ∷ ws) = ap (λ (l : List Wire). w ∷ l) (none_lost ws)

place_same : (i : ℕ) (f : Entry → Entry) (es : List Entry) → ((e : Entry) → f e ≡ e) → at_place i f es ≡ es
place_same i f [] h = refl
place_same zero f (e ∷ es) h = ap (λ (x : Entry). x ∷ es) (h e)
place_same (suc i) f (e ∷ es) h = ap (λ (l : List Entry). e ∷ l) (place_same i f es h)

less_none : (path : List ℕ) (d : Page) → edit_at path (less_wires []) d ≡ d
less_none [] d = ap (λ (ws : List Wire). record { header = d.header; kept = d.kept; boxes = d.boxes; wires = ws; coords = d.coords }) (none_lost d.wires)
less_none (i ∷ path) d =
    ap (λ (b : Boxes). record { header = d.header; kept = d.kept; boxes = b; wires = d.wires; coords = d.coords })
    (ap boxed (place_same i (inside (edit_at path (less_wires []))) (listed d.boxes) (λ e. ap (λ (p : Page). record { head = e.head; page = p }) (less_none path e.page)))
    ∙ boxed_listed d.boxes)

-- where no wire went
less_gone : (path : List ℕ) (gone : List BoxWire) (d : Page) → gone ≡ [] → d ≡ edit_at path (less_wires (numbered gone)) d
less_gone path gone d none = sym (ap (λ (l : List BoxWire). edit_at path (less_wires (numbered l)) d) none ∙ less_none path d)

-- ---- an edit that gave a box another text

module _ (old new : Patch) (n : Counts) (name path : List ℕ) (number : ℕ) (text : List Atom) (now : ℕ) (k after : Known) (steps steps' : ℕ) (b : RetypedBox)
    (X : RetypesBox old new n name path number text now k after steps steps' b) where
  abbrev Both : Type 0
  Both = Becomes old new k.names text now b.key X.node X.added b.gone.items steps steps'

  module _ (can : CanPut old) (t : Tree) (R : RunsAs old.grove t) (A : StandsAgain (answer_in k.files) name k.names t) where
    pub both_run : RunsAs new.grove (retyped_at path number (cell_become X.became) t)
    both_run = by X.became
      where
        by : (z : Both) → RunsAs new.grove (retyped_at path number (cell_become z) t)
        by (inl Y) = box_runs old new n name path number text now k after steps steps' b X Y can t R A
        by (inr T) = sub_runs old new n name path number text now k after steps steps' b X T t R

    pub both_again : StandsAgain (answer_in after.files) name after.names (retyped_at path number (cell_become X.became) t)
    both_again = by X.became
      where
        by : (z : Both) → StandsAgain (answer_in after.files) name after.names (retyped_at path number (cell_become z) t)
        by (inl Y) = box_again old new n name path number text now k after steps steps' b X Y can t R A
        by (inr T) = sub_again old new n name path number text now k after steps steps' b X T can t R A

    pub both_proper : (later : Names) → Extends after.names later → IsTable later → IsProper later (document_in t)
        → IsProper later (document_in (retyped_at path number (cell_become X.became) t))
    both_proper later on table h = by X.became
      where
        by : (z : Both) → IsProper later (document_in (retyped_at path number (cell_become z) t))
        by (inl Y) = box_proper old new n name path number text now k after steps steps' b X Y can t R A later on table h
        by (inr T) = sub_proper old new n name path number text now k after steps steps' b X T can t R A later on table h

    pub both_contents : HaveContents (IsWritten old.grove) (counts_of (kinds_of old)) k.names (states_of old)
        → HaveContents (IsWritten new.grove) (counts_of (kinds_of new)) after.names (states_of new)
    both_contents h = by X.became
      where
        by : Both → HaveContents (IsWritten new.grove) (counts_of (kinds_of new)) after.names (states_of new)
        by (inl Y) = box_contents old new n name path number text now k after steps steps' b X Y can t R A h
        by (inr T) = sub_contents old new n name path number text now k after steps steps' b X T h

    abbrev kept_so : Both → Page
    kept_so z =
        edit_at path (less_wires (numbered b.gone.items))
        (edit_at path (change_box number (λ e. entry_kept (Some (started (start_of (cell_become z).kind old.rate) now)) (retyped (settled_text k.names text) e))) (present_document old))

    pub both_kept : HoldsWires old t → present_document new ≡ kept_so X.became
    both_kept H = by X.became
      where
        by : (z : Both) → present_document new ≡ kept_so z
        by (inl Y) = document_kept old new n name path number text now k after steps steps' b X Y can t R A H
        by (inr T) = sub_kept old new n name path number text now k after steps steps' b X T (Some (started (start_of T.can.cell.kind old.rate) now)) ∙ less_gone path b.gone.items _ T.none_gone

    pub both_edited : HoldsWires old t → KeepsText (cell_become X.became)
        → present_document new ≡ edit_at path (less_wires (numbered b.gone.items)) (edit_at path (edited (edit.Retype number (settled_text k.names text))) (present_document old))
    both_edited H keeps = by X.became keeps
      where
        by : (z : Both) → KeepsText (cell_become z)
            → present_document new ≡ edit_at path (less_wires (numbered b.gone.items)) (edit_at path (edited (edit.Retype number (settled_text k.names text))) (present_document old))
        by (inl Y) keeps = document_after old new n name path number text now k after steps steps' b X Y can t R A H keeps
        by (inr T) keeps = sub_document old new n name path number text now k after steps steps' b X T ∙ less_gone path b.gone.items _ T.none_gone

  module _ (can : CanPut old) (t : Tree) (R : RunsAs old.grove t) where
    pub both_zeros : zeros_of (retyped_at path number (cell_become X.became) t) ≡ zeros_of t
    both_zeros = by X.became
      where
        by : (z : Both) → zeros_of (retyped_at path number (cell_become z) t) ≡ zeros_of t
        by (inl Y) = box_zeros old new n name path number text now k after steps steps' b X Y t R
        by (inr T) = sub_zeros old new n name path number text now k after steps steps' b X T t R

    pub both_hold : HoldsWires old t → HoldsWires new (retyped_at path number (cell_become X.became) t)
    both_hold H = by X.became
      where
        by : (z : Both) → HoldsWires new (retyped_at path number (cell_become z) t)
        by (inl Y) = box_holds old new n name path number text now k after steps steps' b X Y can t R H
        by (inr T) = sub_holds old new n name path number text now k after steps steps' b X T t R H

    pub both_boxes : n.boxes ≡ weight t.boxes → b.counts.boxes ≡ weight (retyped_at path number (cell_become X.became) t).boxes
    both_boxes h = by X.became
      where
        by : (z : Both) → b.counts.boxes ≡ weight (retyped_at path number (cell_become z) t).boxes
        by (inl Y) = as_many_boxes old new n name path number text now k after steps steps' b X can t R (Leaf Y.can.cell Done) Y.can.single refl Y.can.cell h
        by (inr T) = as_many_boxes old new n name path number text now k after steps steps' b X can t R (Holder T.can.cell T.can.sheet Done Done) T.can.single refl T.can.cell h

    pub both_sound : n.sound ≡ sound_of old.rate t.boxes → b.counts.sound ≡ sound_of old.rate (retyped_at path number (cell_become X.became) t).boxes
    both_sound h = by X.became
      where
        by : (z : Both) → b.counts.sound ≡ sound_of old.rate (retyped_at path number (cell_become z) t).boxes
        by (inl Y) = as_much_sound old new n name path number text now k after steps steps' b X can t R (Leaf Y.can.cell Done) Y.can.single Y.can.cell (box_traded old new n name path number text now k after steps steps' b X Y t R) h
        by (inr T) = as_much_sound old new n name path number text now k after steps steps' b X can t R (Holder T.can.cell T.can.sheet Done Done) T.can.single T.can.cell (sub_traded old new n name path number text now k after steps steps' b X T t R) h

  pub both_fit : WiresFit old → WiresFit new
  both_fit F = by X.became
    where
      by : Both → WiresFit new
      by (inl Y) = box_fits old new n name path number text now k after steps steps' b X Y F
      by (inr T) = sub_fits old new n name path number text now k after steps steps' b X T F

  pub both_wires : wires_told new.web + length b.gone.items ≡ wires_told old.web
  both_wires = by X.became
    where
      none : (a c n : ℕ) → a ≡ c → n ≡ 0 → a + n ≡ c
      none a c n h e = omega (arith, h, e)

      by : Both → wires_told new.web + length b.gone.items ≡ wires_told old.web
      by (inl Y) = box_wires old new n name path number text now k after steps steps' b X Y
      by (inr T) = none (wires_told new.web) (wires_told old.web) (length b.gone.items) (sub_wires old new n name path number text now k after steps steps' b X T) (ap length T.none_gone)

  all_left : (hops : List Hop) → filter (is_left []) hops ≡ hops
  all_left [] = refl
  all_left (h ∷ hops) = ap (λ (l : List Hop). h ∷ l) (all_left hops)

  -- each outlet has the wires that it had, less those that went
  pub both_places : (j outlet : ℕ) → places_of (fan_hops new.web j outlet) ≡ places_of (filter (is_left b.gone.items) (fan_hops old.web j outlet))
  both_places j outlet = by X.became
    where
      by : Both → places_of (fan_hops new.web j outlet) ≡ places_of (filter (is_left b.gone.items) (fan_hops old.web j outlet))
      by (inl Y) = Y.back.restores.places j outlet ∙ ap places_of (Y.sheds.fans j outlet)
      by (inr T) =
          ap (λ (w : Web). places_of (fan_hops w j outlet)) T.renamed.rest.web
          ∙ ap places_of (T.room.web.fans j outlet ∙ sym (all_left (fan_hops old.web j outlet)) ∙ ap (λ (ms : List BoxWire). filter (is_left ms) (fan_hops old.web j outlet)) (sym T.none_gone))

  pub both_owners : (t : Tree) → RunsAs old.grove t → StandsAgain (answer_in k.files) name k.names t → HasOwners old k.names name → HasOwners new after.names name
  both_owners t R A h = by X.became
    where
      by : Both → HasOwners new after.names name
      by (inl Y) = box_owners old new n name path number text now k after steps steps' b X Y t R A h
      by (inr T) = sub_owners old new n name path number text now k after steps steps' b X T t R A h

  pub both_next : b.counts.next_zero ≡ n.next_zero
  both_next = by X.became
    where
      by : Both → b.counts.next_zero ≡ n.next_zero
      by (inl Y) = same_next old new n name path number text now k after steps steps' b X (Leaf Y.can.cell Done) Y.can.single refl
      by (inr T) = same_next old new n name path number text now k after steps steps' b X (Holder T.can.cell T.can.sheet Done Done) T.can.single (sub_none old new n name path number text now k after steps steps' b X T)
