-- A subpatch that took another text: the tree with it runs and grows again, and all that the patch tells stays.
use Rattle.std.proofs.Common.{◌≡◌, ◌+◌, ℕ, Bool, true, false, ◌&&◌, List, [], ◌++◌, length, slice_get, Option, Some, None, IfSome, refl, sym, ap, ◌∙◌, subst, arith, true≢false}
use Rattle.std.specs.Prelude.{option_map}
use Rattle.slab.specs.Slab.{get}
use Rattle.pd_atom.specs.declared.Atom.{Atom}
use Rattle.pd_atom.specs.Names.{Names, Extends, IsTable}
use Rattle.pd_object.specs.declared.kinds.Kind.{Kind}
use Rattle.pd_kind.specs.declared.states.State.{State}
use Rattle.pd_kind.specs.States.{size_of}
use Rattle.pd_canvas.specs.declared.edits.Edit.TheVariants as edit
use Rattle.pd_canvas.specs.Edits.{begins_with_pd, edited, element, retyped}
use Rattle.pd_canvas.specs.Pages.{Shape, Sub, Head, Page, Entry}
use Rattle.pd_canvas.specs.Paths.{change_box, edit_at}
use Rattle.pd_canvas.specs.Proper.{IsHead, IsProper}
use Rattle.pd_canvas.specs.Views.{entry_of}
use Rattle.pd_library.specs.Files.{answer_in}
use Rattle.pd_tree.specs.declared.rows.Fault.{Fault}
use Rattle.pd_tree.specs.Trees.{Cell, Trees, Done, Holder, Tree, own_zeros, zeros_in, zeros_of, document_in}
use Rattle.pd_grove.specs.declared.nodes.Node.{Node}
use Rattle.pd_grove.specs.Refits.{with_text}
use Rattle.pd_grove.specs.TextOrder.{is_sub}
use Rattle.pd_hearing.specs.Worlds.{states_of}
use Rattle.pd_web.specs.declared.web.Hop.{Hop}
use Rattle.pd_web.specs.declared.web.Web.{Web}
use Rattle.pd_web.specs.Changes.{wires_told}
use Rattle.pd_web.specs.Hops.{places_of}
use Rattle.pd_present.specs.Presents.{present_page, wires_among}
use Rattle.pd_patch.specs.declared.patch.Patch.{Patch}
use Rattle.pd_patch.specs.Document.{present_document}
use Rattle.pd_patch.specs.Sounds.{sound_of}
use Rattle.pd_gather.specs.Gather.{Known}
use Rattle.pd_boxes.specs.Put.{CanPut, HasOwners}
use Rattle.pd_boxes.proofs.RoomLemmas.{keys_same}
use Rattle.pd_turning.specs.Returns.{Restores}
use Rattle.pd_turning.proofs.LawLemmas.{canvas_has}
use Rattle.pd_contents_law.specs.Contents.{HaveContents, counts_of}
use Rattle.pd_contents_law.proofs.SettledLemmas.{onward}
use Rattle.pd_inside_law.specs.Inside.{HoldsWires}
use Rattle.pd_proper_law.specs.Saves.{kinds_of, is_written, form_of, IsWritten}
use Rattle.pd_reload_law.specs.Reloading.{RunsAs}
use Rattle.pd_saved_law.specs.Fitting.{WiresFit}
use Rattle.pd_putting_law.specs.Again.{StandsAgain}
use Rattle.pd_putting_law.specs.Putting.{entry_kept}
use Rattle.pd_adding.specs.declared.counts.Counts.{Counts}
use Rattle.pd_put_law.proofs.OwnerLemmas.{own_more, room_own}
use Rattle.pd_put_law.proofs.RoomLemmas.{room_runs, room_subs, room_holds, room_fits, room_wires}
use Rattle.pd_retyping.specs.declared.retyping.RetypedBox.{RetypedBox}
use Rattle.pd_retyping.specs.Asking.{settled_text}
use Rattle.pd_retyping.specs.Retypes.{TakesText, RetypesBox}
use Rattle.pd_retyping_law.specs.Retypes.{retyped_at}
use Rattle.pd_retyping_law.specs.Retyping.{RenamesBoxAt, ChangesBoxAt, cell_in}
use Rattle.pd_retyping_law.proofs.CountLemmas.{as_much, zeros_renamed}
use Rattle.pd_retyping_law.proofs.PageLemmas.{document_renamed, kept_head, renamed_kept}
use Rattle.pd_retyping_law.proofs.PlaceLemmas.{renames_so}
use Rattle.pd_retyping_law.proofs.RenameLemmas.{bare_renamed, holder_head, sub_there}
use Rattle.pd_retyping_law.proofs.StandLemmas.{runs_renamed}
use Rattle.pd_retype_law.proofs.GrewLemmas.{drawn, entry_named, low, bare, lib, left, from, again_then, deep, document_by, goes_on, grew, known_after}
use Rattle.pd_retype_law.proofs.InsideLemmas.{held_still}
use Rattle.pd_retype_law.proofs.PageLemmas.{document_same, number_same, numbers_among}
use Rattle.pd_retype_law.proofs.ProperLemmas.{around, head_proper, sub_stays, tree_proper}
use Rattle.pd_retype_law.proofs.WrittenLemmas.{written_still}

sub_by : (f : Shape) (pd : Bool) → (is_sub f && pd) ≡ true → f ≡ Sub
sub_by Sub pd h = refl
sub_by f pd h = cc

pd_by : (f : Shape) (pd : Bool) → (is_sub f && pd) ≡ true → pd ≡ true
pd_by Sub pd h = h
pd_by f pd h = cc

not_written : (o : Option Node) (n : Node) → o ≡ Some n → (entry_of n.element).head.form ≡ Sub → IfSome o (λ x. is_written (form_of x) ≡ true) → ⊥
not_written o n is form w =
    true≢false (sym (subst (λ (x : Option Node). IfSome x (λ y. is_written (form_of y) ≡ true)) is w) ∙ ap is_written form)

module _ (old new : Patch) (n : Counts) (name path : List ℕ) (number : ℕ) (text : List Atom) (now : ℕ) (k after : Known) (steps steps' : ℕ) (b : RetypedBox)
    (X : RetypesBox old new n name path number text now k after steps steps' b)
    (T : TakesText old new k.names text b.key X.node X.added b.gone.items steps steps') where
  abbrev written : List Atom
  written = settled_text k.names text

  abbrev cell : Cell
  cell = T.can.cell

  abbrev grown : Trees
  grown = Holder cell T.can.sheet Done Done

  abbrev was : Entry
  was = entry_of X.node.element

  abbrev new_node : Node
  new_node = with_text cell.head.text cell.text X.node

  form : was.head.form ≡ Sub
  form = sub_by was.head.form (begins_with_pd written) T.can.kept

  begins : begins_with_pd written ≡ true
  begins = pd_by was.head.form (begins_with_pd written) T.can.kept

  -- the element from which the empty subpatch grew
  abbrev element_new : Entry
  element_new = drawn old new n name path number text now k after steps steps' b X

  element_head : element_new.head ≡ (element Sub was.page was.head.x was.head.y written).head
  element_head = X.same_head ∙ kept_head written was form begins

  head_is : cell.head ≡ element_new.head
  head_is = holder_head cell.head.form cell T.can.sheet element_new (document_by old new n name path number text now k after steps steps' b X grown T.can.single)

  head_now : (entry_of new_node.element).head ≡ cell.head
  head_now =
      ap (λ (f : Shape). record { x = was.head.x; y = was.head.y; form = f; text = cell.head.text; width = None; tail = [] }) form
      ∙ ap (λ (l : List Atom). record { x = was.head.x; y = was.head.y; form = Sub; text = l; width = None; tail = [] }) (ap (λ (h : Head). h.text) (head_is ∙ element_head))
      ∙ sym (head_is ∙ element_head)

  cell_same : cell_in new_node ≡ cell
  cell_same =
      ap (λ (h : Head). record { head = h; text = cell.text; kind = X.node.kind; fault = X.node.fault }) head_now
      ∙ ap (λ (x : Kind). record { head = cell.head; text = cell.text; kind = x; fault = X.node.fault }) (T.can.was_canvas ∙ sym T.can.canvas)
      ∙ ap (λ (f : Option Fault). record { head = cell.head; text = cell.text; kind = cell.kind; fault = f }) (T.can.was_whole ∙ sym T.can.whole)

  retyped_head : (entry_of new_node.element).head ≡ (retyped written was).head
  retyped_head = head_now ∙ head_is ∙ X.same_head

  abbrev ready : Patch
  ready = T.ready

  box : RenamesBoxAt ready.grove new.grove path b.canvas b.key number X.node new_node
  box =
      let S = T.room.grove in
      let A = T.renamed.box in
      record {
        forest = T.could.can.forest;
        leads = room_subs old.grove ready.grove S path ∙ X.chosen.leads;
        is = ap (λ (ks : List ℕ). slice_get ks number) (keys_same old.grove ready.grove S b.canvas) ∙ X.chosen.at;
        was = T.could.is;
        sub = form;
        becomes = A.box ∙ ap (option_map (with_text cell.head.text cell.text)) T.could.is;
        form = form;
        inner = refl;
        kind = refl;
        state = refl;
        board = refl;
        others = A.others;
        boards = A.boards;
        root = A.root;
      }

  changes : ChangesBoxAt ready.grove new.grove path b.canvas b.key number X.node new_node
  changes = renames_so ready.grove new.grove path b.canvas b.key number X.node new_node box

  -- ---- the document

  all_stay : Restores old.web ready.web []
  all_stay = record {
    places = λ j o. ap places_of (T.room.web.fans j o);
    keys = λ j o i h at left. ap (λ (hs : List Hop). slice_get hs i) (T.room.web.fans j o) ∙ at;
  }

  wires_same : (keys : List ℕ) → wires_among ready.web ready.numbers.items keys ≡ wires_among old.web old.numbers.items keys
  wires_same keys =
      canvas_has old.web ready.web [] ready.numbers.items all_stay keys
      ∙ numbers_among old.web old.numbers.items ready.numbers.items (λ j. number_same old.numbers.items ready.numbers.items j T.room.numbers) keys

  before : present_page ready.grove ready.web ready.numbers.items ≡ present_document old
  before =
      document_same old.web ready.web old.numbers.items ready.numbers.items wires_same old.grove ready.grove T.room.grove.nodes T.room.grove.boards T.room.grove.root

  by_ready : present_document new ≡ present_page new.grove ready.web ready.numbers.items
  by_ready =
      ap (λ (w : Web). present_page new.grove w new.numbers.items) T.renamed.rest.web
      ∙ ap (λ (v : _). present_page new.grove ready.web v.items) T.renamed.rest.numbers

  pub sub_kept : (s : Option State) → present_document new ≡ edit_at path (change_box number (λ e. entry_kept s (retyped written e))) (present_document old)
  sub_kept s =
      by_ready ∙ renamed_kept ready.grove new.grove path b.canvas b.key number X.node new_node box ready.web ready.numbers.items written s begins retyped_head
      ∙ ap (λ (d : Page). edit_at path (change_box number (λ e. entry_kept s (retyped written e))) d) before

  pub sub_document : present_document new ≡ edit_at path (edited (edit.Retype number written)) (present_document old)
  sub_document =
      by_ready ∙ document_renamed ready.grove new.grove path b.canvas b.key number X.node new_node box ready.web ready.numbers.items written begins retyped_head
      ∙ ap (λ (d : Page). edit_at path (edited (edit.Retype number written)) d) before

  -- ---- wires

  pub sub_wires : wires_told new.web ≡ wires_told old.web
  sub_wires = ap wires_told T.renamed.rest.web ∙ room_wires old ready T.room

  pub sub_fits : WiresFit old → WiresFit new
  sub_fits F = let R = room_fits old ready T.room F in record { all = λ c. rw (T.renamed.rest.web, T.renamed.rest.numbers, T.renamed.box.boards) (R.all c) }

  -- ---- what is counted

  pub sub_none : length (zeros_in grown) ≡ 0
  sub_none = ap (λ (f : Shape). length (own_zeros f T.can.sheet ++ [])) T.can.form

  module _ (t : Tree) (R : RunsAs old.grove t) where
    runs_ready : RunsAs ready.grove t
    runs_ready = room_runs old.grove ready.grove T.room.grove t R

    pub sub_runs : RunsAs new.grove (retyped_at path number cell t)
    sub_runs =
        subst (λ (c : Cell). RunsAs new.grove (retyped_at path number c t)) cell_same
        (runs_renamed ready.grove new.grove path b.canvas b.key number X.node new_node box t runs_ready)

    pub sub_holds : HoldsWires old t → HoldsWires new (retyped_at path number cell t)
    sub_holds H =
        subst (λ (c : Cell). HoldsWires new (retyped_at path number c t)) cell_same
        (held_still ready new path b.canvas b.key number X.node new_node changes T.renamed.rest.numbers T.renamed.rest.web t runs_ready (room_holds old ready T.room t H))

    pub sub_zeros : zeros_of (retyped_at path number cell t) ≡ zeros_of t
    sub_zeros =
        subst (λ (c : Cell). zeros_of (retyped_at path number c t) ≡ zeros_of t) cell_same
        (zeros_renamed ready.grove new.grove path b.canvas b.key number X.node new_node box t runs_ready.stands)

    pub sub_traded : sound_of old.rate (retyped_at path number cell t).boxes + size_of X.node.kind old.rate ≡ sound_of old.rate t.boxes + sound_of old.rate grown
    sub_traded =
        as_before (sound_of old.rate (retyped_at path number cell t).boxes) (sound_of old.rate t.boxes) (size_of X.node.kind old.rate) (size_of cell.kind old.rate)
        (subst (λ (c : Cell). sound_of old.rate (retyped_at path number c t).boxes ≡ sound_of old.rate t.boxes) cell_same
        (as_much old.rate ready.grove new.grove path b.canvas b.key number X.node new_node box t runs_ready.stands))
        (ap (λ x. size_of x old.rate) (T.can.was_canvas ∙ sym T.can.canvas))
      where
        as_before : (a s x y : ℕ) → a ≡ s → x ≡ y → a + x ≡ s + (y + (0 + 0))
        as_before a s x y h e = omega (arith, h, e)

  -- ---- what grows again

  module _ (can : CanPut old) (t : Tree) (R : RunsAs old.grove t) (A : StandsAgain (answer_in k.files) name k.names t) where
    pub sub_again : StandsAgain (answer_in after.files) name after.names (retyped_at path number cell t)
    sub_again =
        known_after old new n name path number text now k after steps steps' b X (retyped_at path number cell t)
        (bare_renamed (lib old new n name path number text now k after steps steps' b X) name (left old new n name path number text now k after steps steps' b X) X.files.names old.grove path b.canvas b.key number X.node t (again_then old new n name path number text now k after steps steps' b X can t R A) R can.forest X.chosen.leads X.chosen.at X.chosen.is form
        (deep old new n name path number text now k after steps steps' b X can t R A) element_new (from old new n name path number text now k after steps steps' b X) X.grew.after cell T.can.sheet refl (entry_named old new n name path number text now k after steps steps' b X) (bare old new n name path number text now k after steps steps' b X) (low old new n name path number text now k after steps steps' b X) (ap (λ (h : Head). h.form) element_head)
        (grew old new n name path number text now k after steps steps' b X can t R grown T.can.single))

    pub sub_proper : (later : Names) → Extends after.names later → IsTable later → IsProper later (document_in t) → IsProper later (document_in (retyped_at path number cell t))
    sub_proper later on table h =
        let more = onward k.names after.names later (goes_on old new n name path number text now k after steps steps' b X) on in
        let u = around old new n name path number text now k after steps steps' b X can t R in
        let inside = sub_there (lib old new n name path number text now k after steps steps' b X) name (left old new n name path number text now k after steps steps' b X) X.files.names old.grove path b.canvas b.key number X.node t (again_then old new n name path number text now k after steps steps' b X can t R A) R can.forest X.chosen.leads X.chosen.at X.chosen.is
        form (deep old new n name path number text now k after steps steps' b X can t R A) in
        tree_proper old new n name path number text now k after steps steps' b X can t R cell later sub_again.shallow
        (sub_stays later cell T.can.form (subst (IsHead later) (sym head_is) (head_proper old new n name path number text now k after steps steps' b X later more table)) number u.0.boxes inside.0 inside.1) h

  pub sub_owners : (t : Tree) → RunsAs old.grove t → StandsAgain (answer_in k.files) name k.names t → HasOwners old k.names name → HasOwners new after.names name
  sub_owners t R A h =
      let is : after.names ≡ X.added.known.names = ap (λ (x : Known). x.names) X.known_is in
      let more : HasOwners old after.names name = own_more (answer_in k.files) name old k.names after.names t R.stands R.shallow A (goes_on old new n name path number text now k after steps steps' b X) h in
      let again : HasOwners old X.added.known.names name = subst (λ (ns : Names). HasOwners old ns name) is more in
      subst (λ (ns : Names). HasOwners new ns name) (sym is) (T.renamed.owners name (room_own old ready X.added.known.names name T.room again))

  pub sub_contents : HaveContents (IsWritten old.grove) (counts_of (kinds_of old)) k.names (states_of old)
      → HaveContents (IsWritten new.grove) (counts_of (kinds_of new)) after.names (states_of new)
  sub_contents h =
      written_still old ready new T.room.grove path b.canvas b.key number X.node new_node changes k.names after.names (goes_on old new n name path number text now k after steps steps' b X)
      (λ w. absurd (not_written (get new.grove.nodes b.key) new_node box.becomes form w.form)) h
