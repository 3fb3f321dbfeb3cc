-- The document of the tree with the box is proper, and what is written of boxes stays so.
use Rattle.std.proofs.Common.{◌≡◌, ◌≢◌, ◌≤◌, ◌-◌, ℕ, zero, true, List, [], ◌∷◌, length, slice_get, Option, Some, None, IfSome, refl, sym, ap, ◌∙◌, subst, true≢false}
use Rattle.std.specs.List.{AllByRecursion}
use Rattle.std.specs.Option.{option_map_or}
use mathlib.Core.Logic.{⊎_elim}
use Rattle.std.proofs.lemmas.Bool.{cases_eq}
use Rattle.slab.specs.Slab.{get}
use Rattle.pd_atom.specs.declared.Atom.{Atom}
use Rattle.pd_atom.specs.Names.{Names, Extends, IsTable}
use Rattle.pd_atom.specs.Tokens.{IsSettled}
use Rattle.pd_object.specs.declared.kinds.Kind.{Kind}
use Rattle.pd_object.specs.declared.kinds.Kind.TheVariants as kind
use Rattle.pd_kind.specs.declared.states.State.{State}
use Rattle.pd_kind.specs.States.{start_of}
use Rattle.pd_kind.specs.Tables.{started}
use Rattle.pd_canvas.specs.declared.edits.Edit.{Edit}
use Rattle.pd_canvas.specs.Pages.{Shape, Msg, Array, Head, Boxes, End, Box, Entry, boxed, frame_of}
use Rattle.pd_canvas.specs.Proper.{AreReady, AreBoxes, IsFrame, IsHead, IsWidth, IsProper, inner_wires}
use Rattle.pd_doc.proofs.GrowLaws.{are_ready_grows}
use Rattle.pd_library.specs.Files.{answer_in}
use Rattle.pd_tree.specs.Trees.{Cell, Trees, Done, Leaf, Tree, weight, document_boxes, document_in}
use Rattle.pd_grove.specs.declared.grove.Grove.{Grove}
use Rattle.pd_grove.specs.declared.nodes.Node.{Node}
use Rattle.pd_grove.specs.Places.{CanvasStands}
use Rattle.pd_grove.specs.Standing.{depth_of}
use Rattle.pd_grove.specs.Telling.{kind_in, state_in}
use Rattle.pd_hearing.specs.Worlds.{states_of}
use Rattle.pd_patch.specs.declared.patch.Patch.{Patch}
use Rattle.pd_gather.specs.Gather.{Known}
use Rattle.pd_boxes.specs.Put.{CanPut}
use Rattle.pd_boxes.specs.Room.{SameButRoom}
use Rattle.pd_boxes.proofs.RoomLemmas.{keys_same}
use Rattle.pd_regrowth_law.specs.Canvases.{own_along}
use Rattle.pd_regrowth_law.specs.Suits.{HoldNone}
use Rattle.pd_reload_law.specs.Reloading.{RunsAs}
use Rattle.pd_reload_law.specs.Saving.{AreMade, IsMade}
use Rattle.pd_contents_law.specs.Contents.{StaySettled, HasContents, HaveContents, count_of, counts_of, IsKindSettled}
use Rattle.pd_contents_law.proofs.MadeLemmas.{made_contents}
use Rattle.pd_contents_law.proofs.SettledLemmas.{onward, table_before, contents_more}
use Rattle.pd_proper_law.specs.Saves.{kinds_of, is_written, form_of, IsOwnBox, IsWritten}
use Rattle.pd_putting_law.specs.Again.{StandsAgain}
use Rattle.pd_putting_law.specs.Puts.{put_before}
use Rattle.pd_putting_law.proofs.AgainLemmas.{box_is, made_more}
use Rattle.pd_putting_law.proofs.PathLemmas.{live_box}
use Rattle.pd_putting_law.proofs.StandLemmas.{path_along}
use Rattle.pd_putting_law.proofs.WithinLemmas.{path_within}
use Rattle.pd_adding.specs.declared.counts.Counts.{Counts}
use Rattle.pd_adding.specs.Boxes.{settled_edit}
use Rattle.pd_adding.specs.Counts.{stock_by}
use Rattle.pd_putting.specs.declared.adding.NewBox.{NewBox}
use Rattle.pd_putting.specs.Adds.{AddsBoxAt}
use Rattle.pd_put_law.proofs.RoomLemmas.{room_subs}
use Rattle.pd_put_law.proofs.ComeLemmas.{HasComeIn, box, element, may, puts, bare, written, came, files, grew_so, six, goes_on, low, grew, box_again}
use Rattle.pd_put_law.proofs.InsideLemmas.{subs_back, was_at}
use Rattle.pd_put_law.proofs.CountLemmas.{put_proper, entry_boxes, entry_wires}
use Rattle.pd_put_law.proofs.HeadLemmas.{IsPlainHead, put_plain, put_frame}

-- ---- heads

head_or : Head → Boxes → Head
head_or d End = d
head_or d (Box h f inner rest) = h

same_head : (c : Cell) (e : Entry) → document_boxes (Leaf c Done) ≡ boxed (e ∷ []) → c.head ≡ e.head
unfolding head_or
same_head c e h = ap (head_or c.head) h

-- a text that is ready in a table is so where it goes on
ready_later : (names later : Names) → Extends names later → 6 ≤ length names → IsTable later → (text : List Atom) → AreReady names text → AreReady later text
ready_later names later x six table text h =
    are_ready_grows names later (record { extends = x; before = table_before names later x six table; after = table }) text h

settled_of : (names : Names) (text : List Atom) → AreReady names text → AllByRecursion (IsSettled names) text
settled_of names [] h = tt
settled_of names (a ∷ text) h = (h.0.1, settled_of names text h.1)

stays_settled : (names more : Names) → Extends names more → 6 ≤ length names → (text : List Atom) → AreReady names text → StaySettled more text
stays_settled names more x six text h = λ later y table. settled_of later text (ready_later names later (onward names more later x y) six table text h)

-- ---- the kind of a box that is written

kind_stays : (names more : Names) → Extends names more → 6 ≤ length names → (f : Shape) (c : Cell) → c.head.form ≡ f → IsMade f c → AreReady names c.head.text → is_written f ≡ true
    → IsKindSettled more c.kind
kind_stays names more x begins Msg c e m h w =
    subst (λ (y : Cell). IsKindSettled more y.kind) (sym m) (stays_settled names more x begins c.head.text h)
kind_stays names more x begins (Array values) c e m h w = subst (λ (y : Cell). IsKindSettled more y.kind) (sym m) tt
kind_stays names more x begins f c e m h w = absurd (true≢false (sym w))

some_state : (names : Names) (n : ℕ) (o : Option State) (s : State) → o ≡ Some s → HasContents n names s → IfSome o (HasContents n names)
some_state names n o s e h = subst (λ (x : Option State). IfSome x (HasContents n names)) (sym e) h

more_state : (old new : Names) (n : ℕ) → Extends old new → (o : Option State) → IfSome o (HasContents n old) → IfSome o (HasContents n new)
more_state old new n x None h = tt
more_state old new n x (Some s) h = contents_more n old new x s h

-- where room was set aside the same boxes are written
room_written : (p q : Patch) → SameButRoom p q → (k : ℕ) → IsWritten q.grove k → IsWritten p.grove k
room_written p q r k w = record {
  own = record {
    path = w.own.path;
    canvas = w.own.canvas;
    place = w.own.place;
    leads = sym (room_subs p.grove q.grove r.grove w.own.path) ∙ w.own.leads;
    at = ap (λ (ks : List ℕ). slice_get ks w.own.place) (sym (keys_same p.grove q.grove r.grove w.own.canvas)) ∙ w.own.at;
  };
  form = subst (λ (o : Option Node). IfSome o (λ y. is_written (form_of y) ≡ true)) (r.grove.nodes k) w.form;
}

pub room_contents : (p q : Patch) (names : Names) (states : ℕ → Option State) → SameButRoom p q → HaveContents (IsWritten p.grove) (counts_of (kinds_of p)) names states
    → HaveContents (IsWritten q.grove) (counts_of (kinds_of q)) names states
room_contents p q names states r h k w =
    subst (λ (o : Option Node). IfSome (states k) (HasContents (option_map_or count_of (kind_in o) 0) names)) (sym (r.grove.nodes k)) (h k (room_written p q r k w))

-- what a box that holds a canvas keeps is settled
canvas_settled : (names : Names) (k : Kind) → k ≡ kind.Canvas → IsKindSettled names k
canvas_settled names k e = subst (IsKindSettled names) (sym e) tt

module _ (old new : Patch) (number : ℕ) (n : Counts) (name path : List ℕ) (now : ℕ) (e : Edit) (k after : Known) (b : NewBox)
    (X : AddsBoxAt old new number n name path now e k after b)
    (can : CanPut old) (t : Tree) (R : RunsAs old.grove t) (A : StandsAgain (answer_in k.files) name k.names t) where
  abbrev it : Trees
  it = box old new number n name path now e k after b X

  abbrev in_it : HasComeIn old new number now X.added path b.key
  in_it = came old new number n name path now e k after b X can

  abbrev c : Cell
  c = in_it.cell

  abbrev x : Node
  x = in_it.node

  abbrev mid : Patch
  mid = in_it.ready

  abbrev done : Patch
  done = in_it.done

  abbrev here : ℕ
  here = X.added.canvas

  abbrev known_then : Known
  known_then = files old new number n name path now e k after b X

  abbrev drawn : Entry
  drawn = element old new number n name path now e k after b X

  long : 6 ≤ length k.names
  long = six old new number n name path now e k after b X

  more : Extends k.names after.names
  more = goes_on old new number n name path now e k after b X

  along : (u : Tree) × (own_along path t ≡ Some u) × CanvasStands old.grove here u × (depth_of (get old.grove.boards here) ≡ length path)
  along = path_along old.grove path here t can.forest R.stands (may old new number n name path now e k after b X).leads

  document : document_boxes it ≡ boxed (drawn ∷ [])
  document =
      let B = bare old new number n name path now e k after b X in
      box_is (answer_in known_then.files) name (255 - length path) t.sheet.zero drawn (stock_by known_then.names n) (grew_so old new number n name path now e k after b X).after it
      (low old new number n name path now e k after b X) B.holds (subst HoldNone (sym B.boxes) tt) (grew old new number n name path now e k after b X can t R A)

  made : AreMade it
  made = made_more (answer_in after.files) name after.names path number t along.0 it along.1 (box_again old new number n name path now e k after b X can t R A)

  -- ---- the document

  text_later : (later : Names) → Extends k.names later → IsTable later → AreReady later drawn.head.text
  text_later later on table = ready_later k.names later on long table drawn.head.text (written old new number n name path now e k after b X).text

  head_proper : (later : Names) → Extends k.names later → IsTable later → IsHead later drawn.head
  head_proper later on table =
      let w = written old new number n name path now e k after b X in
      let p : IsPlainHead drawn.head = put_plain (settled_edit k.names e) drawn (puts old new number n name path now e k after b X) in
      record {
        x = w.x;
        y = w.y;
        text = (text_later later on table, (may old new number n name path now e k after b X).short);
        width = subst IsWidth (sym p.width) tt;
        tail = subst (AllByRecursion (AreReady later)) (sym p.tail) tt;
        form = p.form later;
      }

  boxes_proper : (later : Names) → Extends k.names later → IsTable later → AreBoxes later (document_boxes it)
  boxes_proper later on table =
      let B = bare old new number n name path now e k after b X in
      let f : IsFrame later (frame_of drawn.page) =
      put_frame later table (settled_edit k.names e) drawn (puts old new number n name path now e k after b X) (text_later later on table) in
      subst (AreBoxes later) (sym document) (entry_boxes later drawn (head_proper later on table) B.holds f B.boxes)

  none_wired : inner_wires (document_boxes it) ≡ 0
  none_wired =
      let B = bare old new number n name path now e k after b X in
      ap inner_wires document ∙ entry_wires drawn B.boxes B.wires

  pub box_proper : (later : Names) → Extends after.names later → IsTable later → weight (put_before path number it t).boxes ≤ 16384 → IsProper later (document_in t)
      → IsProper later (document_in (put_before path number it t))
  box_proper later on table few h =
      put_proper path t along.0 (path_within path t along.0 along.1) number it later h (boxes_proper later (onward k.names after.names later more on) table) none_wired few
      (box_again old new number n name path now e k after b X can t R A).shallow

  -- ---- what is written of boxes

  leaf_settled : it ≡ Leaf c Done → is_written c.head.form ≡ true → IsKindSettled after.names c.kind
  leaf_settled single w =
      let head : c.head ≡ drawn.head = same_head c drawn (ap document_boxes (sym single) ∙ document) in
      let text : AreReady k.names c.head.text = subst (λ (h : Head). AreReady k.names h.text) (sym head) (written old new number n name path now e k after b X).text in
      let all : AreMade (Leaf c Done) = subst AreMade single made in
      kind_stays k.names after.names more long c.head.form c refl all.0 text w

  settled : is_written c.head.form ≡ true → IsKindSettled after.names c.kind
  settled w = ⊎_elim
      (λ (single : it ≡ Leaf c Done). leaf_settled single w)
      (λ (canvas : c.kind ≡ kind.Canvas). canvas_settled after.names c.kind canvas) in_it.sort

  new_kind : x.kind ≡ c.kind
  new_kind = ap (λ (y : Cell). y.kind) in_it.is_cell

  -- a box of the document that isn't the new one was there
  record WasOwn (j : ℕ) : Type 0 where
    own : IsOwnBox old.grove j
    same : get new.grove.nodes j ≡ get old.grove.nodes j

  was_own : (j : ℕ) → j ≢ b.key → IsOwnBox done.grove j → WasOwn j
  was_own j d w =
      let back = subs_back mid done path here b.key number in_it.whole w.path w.canvas w.place j w.leads w.at in
      let at = was_at mid done path here b.key number in_it.whole w.canvas w.place j back.2 d w.at in
      record {
        own = record {
          path = back.0;
          canvas = w.canvas;
          place = at.0;
          leads = sym (room_subs old.grove mid.grove in_it.room.grove back.0) ∙ back.1;
          at = ap (λ (ks : List ℕ). slice_get ks at.0) (sym (keys_same old.grove mid.grove in_it.room.grove w.canvas)) ∙ at.1;
        };
        same = ap (λ (g : Grove). get g.nodes j) in_it.around.grove
            ∙ in_it.whole.part.boxes_stay j (live_box mid.grove in_it.whole.can.forest w.canvas at.0 j at.1) ∙ in_it.room.grove.nodes j;
      }

  new_contents : IsWritten new.grove b.key → IfSome (states_of new b.key) (HasContents (counts_of (kinds_of new) b.key) after.names)
  new_contents w =
      let is : get new.grove.nodes b.key ≡ Some x = ap (λ (g : Grove). get g.nodes b.key) in_it.around.grove ∙ in_it.is in
      let state : states_of new b.key ≡ Some (started (start_of x.kind old.rate) now) = ap state_in is ∙ in_it.state in
      let form : is_written (form_of x) ≡ true = subst (λ (o : Option Node). IfSome o (λ y. is_written (form_of y) ≡ true)) is w.form in
      let kind_is : IsKindSettled after.names x.kind =
      subst (IsKindSettled after.names) (sym new_kind) (settled (subst (λ (y : Cell). is_written y.head.form ≡ true) in_it.is_cell form)) in
      subst (λ (o : Option Kind). IfSome (states_of new b.key) (HasContents (option_map_or count_of o 0) after.names)) (sym (ap kind_in is))
      (some_state after.names (count_of x.kind) (states_of new b.key) (started (start_of x.kind old.rate) now) state (made_contents after.names x.kind old.rate now kind_is))

  pub box_contents : HaveContents (IsWritten old.grove) (counts_of (kinds_of old)) k.names (states_of old)
      → HaveContents (IsWritten new.grove) (counts_of (kinds_of new)) after.names (states_of new)
  box_contents h j w = ⊎_elim
      (λ (s : j ≡ b.key).
      subst (λ (y : ℕ). IfSome (states_of new y) (HasContents (counts_of (kinds_of new) y) after.names)) (sym s) (new_contents (subst (IsWritten new.grove) s w)))
      (λ (d : j ≢ b.key).
      let was_there = was_own j d (subst (λ (g : Grove). IsOwnBox g j) in_it.around.grove w.own) in
      let same : get new.grove.nodes j ≡ get old.grove.nodes j = was_there.same in
      let was : IsWritten old.grove j = record { own = was_there.own; form = subst (λ (o : Option Node). IfSome o (λ y. is_written (form_of y) ≡ true)) same w.form } in
      subst (λ (o : Option Node). IfSome (state_in o) (HasContents (option_map_or count_of (kind_in o) 0) after.names)) (sym same)
      (more_state k.names after.names (counts_of (kinds_of old) j) more (states_of old j) (h j was))) (cases_eq j b.key)
