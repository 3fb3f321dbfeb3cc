-- What is written of boxes stays so where one became another one.
use Rattle.std.proofs.Common.{◌≡◌, ◌≢◌, ◌≤◌, ℕ, true, List, length, slice_get, Option, Some, None, IfSome, refl, sym, ap, ◌∙◌, subst, true≢false}
use Rattle.std.specs.Option.{option_map_or}
use mathlib.Core.Logic.{⊎_elim}
use Rattle.std.proofs.lemmas.Bool.{cases_eq}
use Rattle.slab.specs.Slab.{get}
use Rattle.pd_atom.specs.declared.Atom.{Atom}
use Rattle.pd_atom.specs.Names.{Names, Extends}
use Rattle.pd_object.specs.declared.kinds.Kind.{Kind}
use Rattle.pd_kind.specs.declared.states.State.{State}
use Rattle.pd_kind.specs.States.{start_of}
use Rattle.pd_kind.specs.Tables.{started}
use Rattle.pd_canvas.specs.Pages.{Shape, Msg, Array, Head}
use Rattle.pd_canvas.specs.Proper.{AreReady}
use Rattle.pd_library.specs.Files.{answer_in}
use Rattle.pd_tree.specs.Trees.{Cell, Tree}
use Rattle.pd_grove.specs.declared.nodes.Node.{Node}
use Rattle.pd_grove.specs.Room.{IsSameButRoom}
use Rattle.pd_grove.specs.Telling.{kind_in, state_in}
use Rattle.pd_hearing.specs.Worlds.{states_of}
use Rattle.pd_patch.specs.declared.patch.Patch.{Patch}
use Rattle.pd_gather.specs.Gather.{Known}
use Rattle.pd_boxes.specs.Put.{CanPut}
use Rattle.pd_boxes.proofs.RoomLemmas.{keys_same}
use Rattle.pd_reload_law.specs.Reloading.{RunsAs}
use Rattle.pd_reload_law.specs.Saving.{IsMade}
use Rattle.pd_contents_law.specs.Contents.{HasContents, HaveContents, count_of, counts_of, IsKindSettled}
use Rattle.pd_contents_law.proofs.MadeLemmas.{made_contents}
use Rattle.pd_contents_law.proofs.SettledLemmas.{contents_more}
use Rattle.pd_proper_law.specs.Saves.{kinds_of, is_written, form_of, IsOwnBox, IsWritten}
use Rattle.pd_putting_law.specs.Again.{StandsAgain}
use Rattle.pd_adding.specs.declared.counts.Counts.{Counts}
use Rattle.pd_put_law.proofs.RoomLemmas.{room_subs}
use Rattle.pd_retyping.specs.declared.retyping.RetypedBox.{RetypedBox}
use Rattle.pd_retyping.specs.Retypes.{HasBecome, RetypesBox}
use Rattle.pd_retyping_law.specs.Retyping.{ChangesBoxAt, cell_in}
use Rattle.pd_retype_law.proofs.BecomeLemmas.{mid, is_now, cell_is, head_is, made, same_boxes, there}
use Rattle.pd_retype_law.proofs.GrewLemmas.{six, goes_on}
use Rattle.pd_retype_law.proofs.InsideLemmas.{sub_from_root, number_stays}
use Rattle.pd_retype_law.proofs.ProperLemmas.{stays_settled}

-- ---- the kind of a box that is written

kind_stays : (names more : Names) → Extends names more → 6 ≤ length names → (f : Shape) (c : Cell) → c.head.form ≡ f → IsMade f c → AreReady names c.head.text → is_written f ≡ true
    → IsKindSettled more c.kind
kind_stays names more x begins Msg c e m h w =
    subst (λ (y : Cell). IsKindSettled more y.kind) (sym m) (stays_settled names more x begins c.head.text h)
kind_stays names more x begins (Array values) c e m h w = subst (λ (y : Cell). IsKindSettled more y.kind) (sym m) tt
kind_stays names more x begins f c e m h w = absurd (true≢false (sym w))

some_state : (names : Names) (n : ℕ) (o : Option State) (s : State) → o ≡ Some s → HasContents n names s → IfSome o (HasContents n names)
some_state names n o s e h = subst (λ (x : Option State). IfSome x (HasContents n names)) (sym e) h

more_state : (old new : Names) (n : ℕ) → Extends old new → (o : Option State) → IfSome o (HasContents n old) → IfSome o (HasContents n new)
more_state old new n x None h = tt
more_state old new n x (Some s) h = contents_more n old new x s h

-- ---- all boxes but one are those that there were

module _ (old loose new : Patch) (S : IsSameButRoom old.grove loose.grove) (path : List ℕ) (canvas key number : ℕ) (n n' : Node)
    (B : ChangesBoxAt loose.grove new.grove path canvas key number n n') where
  -- a box of the document was one
  was_own : (j : ℕ) → IsOwnBox new.grove j → IsOwnBox old.grove j
  was_own j w = record {
    path = w.path;
    canvas = w.canvas;
    place = w.place;
    leads = sym (room_subs old.grove loose.grove S w.path) ∙ sub_from_root loose.grove new.grove path canvas key number n n' B w.path ∙ w.leads;
    at = ap (λ (ks : List ℕ). slice_get ks w.place) (sym (keys_same old.grove loose.grove S w.canvas))
        ∙ number_stays loose.grove new.grove path canvas key number n n' B w.canvas w.place j w.at;
  }

  same_node : (j : ℕ) → j ≢ key → get new.grove.nodes j ≡ get old.grove.nodes j
  same_node j d = B.others j d ∙ S.nodes j

  pub written_still : (names more : Names) → Extends names more
      → (IsWritten new.grove key → IfSome (states_of new key) (HasContents (counts_of (kinds_of new) key) more))
      → HaveContents (IsWritten old.grove) (counts_of (kinds_of old)) names (states_of old) → HaveContents (IsWritten new.grove) (counts_of (kinds_of new)) more (states_of new)
  written_still names more x here h j w = ⊎_elim
      (λ (s : j ≡ key).
      subst (λ (y : ℕ). IfSome (states_of new y) (HasContents (counts_of (kinds_of new) y) more)) (sym s) (here (subst (IsWritten new.grove) s w)))
      (λ (d : j ≢ key).
      let same : get new.grove.nodes j ≡ get old.grove.nodes j = same_node j d in
      let was : IsWritten old.grove j = record { own = was_own j w.own; form = subst (λ (o : Option Node). IfSome o (λ y. is_written (form_of y) ≡ true)) same w.form } in
      subst (λ (o : Option Node). IfSome (state_in o) (HasContents (option_map_or count_of (kind_in o) 0) more)) (sym same)
      (more_state names more (counts_of (kinds_of old) j) x (states_of old j) (h j was))) (cases_eq j key)

-- ---- an edit that made a box another one

module _ (old new : Patch) (n : Counts) (name path : List ℕ) (number : ℕ) (text : List Atom) (now : ℕ) (k after : Known) (steps steps' : ℕ) (b : RetypedBox)
    (X : RetypesBox old new n name path number text now k after steps steps' b) (Y : HasBecome old new now b.key X.node X.added b.gone.items steps steps') (can : CanPut old) (t : Tree) (R : RunsAs old.grove t)
    (A : StandsAgain (answer_in k.files) name k.names t) where
  abbrev c : Cell
  c = Y.can.cell

  abbrev x : Node
  x = is_now old new n name path number text now k after steps steps' b X Y

  abbrev loose : Patch
  loose = mid old new n name path number text now k after steps steps' b X Y

  boxes_same : IsSameButRoom old.grove loose.grove
  boxes_same = same_boxes old new n name path number text now k after steps steps' b X Y

  more : Extends k.names after.names
  more = goes_on old new n name path number text now k after steps steps' b X

  cell_kept : cell_in x ≡ c
  cell_kept = cell_is old new n name path number text now k after steps steps' b X Y

  settled : is_written c.head.form ≡ true → IsKindSettled after.names c.kind
  settled w =
      let text_ready : AreReady k.names c.head.text =
      subst (λ (h : Head). AreReady k.names h.text) (sym (head_is old new n name path number text now k after steps steps' b X Y)) X.written.text in
      kind_stays k.names after.names more (six old new n name path number text now k after steps steps' b X) c.head.form c refl
      (made old new n name path number text now k after steps steps' b X Y can t R A) text_ready w

  new_contents : IsWritten new.grove b.key → IfSome (states_of new b.key) (HasContents (counts_of (kinds_of new) b.key) after.names)
  new_contents w =
      let is : get new.grove.nodes b.key ≡ Some x = (there old new n name path number text now k after steps steps' b X Y).becomes in
      let state : states_of new b.key ≡ Some (started (start_of x.kind old.rate) now) = ap state_in is ∙ ap (λ s. Some s) Y.fresh in
      let form : is_written (form_of x) ≡ true = subst (λ (o : Option Node). IfSome o (λ y. is_written (form_of y) ≡ true)) is w.form in
      let kind_is : IsKindSettled after.names x.kind =
      subst (IsKindSettled after.names) (sym (ap (λ (y : Cell). y.kind) cell_kept)) (settled (subst (λ (y : Cell). is_written y.head.form ≡ true) cell_kept form)) in
      subst (λ (o : Option Kind). IfSome (states_of new b.key) (HasContents (option_map_or count_of o 0) after.names)) (sym (ap kind_in is))
      (some_state after.names (count_of x.kind) (states_of new b.key) (started (start_of x.kind old.rate) now) state (made_contents after.names x.kind old.rate now kind_is))

  pub box_contents : HaveContents (IsWritten old.grove) (counts_of (kinds_of old)) k.names (states_of old)
      → HaveContents (IsWritten new.grove) (counts_of (kinds_of new)) after.names (states_of new)
  box_contents h =
      written_still old loose new boxes_same path b.canvas b.key number X.node x (there old new n name path number text now k after steps steps' b X Y) k.names after.names more new_contents h
