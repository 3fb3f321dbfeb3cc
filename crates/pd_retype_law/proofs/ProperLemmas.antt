-- A document with another box in the place of one: it is proper where it was and the new box is.
use Rattle.std.proofs.Common.{◌≡◌, ◌≤◌, ◌+◌, ℕ, zero, suc, List, [], ◌∷◌, length, Some, refl, sym, ap, subst, arith}
use Rattle.std.specs.List.{AllByRecursion}
use Rattle.std.proofs.lemmas.Option.{none-some}
use Rattle.slab.specs.Slab.{get}
use Rattle.pd_atom.specs.declared.Atom.{Atom}
use Rattle.pd_atom.specs.Names.{Names, Extends, IsTable}
use Rattle.pd_atom.specs.Tokens.{IsSettled}
use Rattle.pd_canvas.specs.Pages.{Shape, Sub, Head, Frame, Boxes, End, Box, Entry, frame_of, page_of, empty_page, weight}
use Rattle.pd_canvas.specs.Proper.{AreBoxes, AreReady, HoldsNone, IsFrame, IsHead, IsWidth, IsProper, inner_wires, levels}
use Rattle.pd_canvas.specs.Views.{entry_of}
use Rattle.pd_doc.proofs.GrowLaws.{are_ready_grows}
use Rattle.pd_library.specs.Files.{answer_in}
use Rattle.pd_tree.specs.declared.rows.Sheet.{Sheet}
use Rattle.pd_tree.specs.Trees.{Cell, Trees, Done, Leaf, Holder, Tree, join, frame_in, box_with, document_boxes, document_in}
use Rattle.pd_grove.specs.Places.{CanvasStands}
use Rattle.pd_grove.specs.Standing.{depth_of}
use Rattle.pd_patch.specs.declared.patch.Patch.{Patch}
use Rattle.pd_gather.specs.Gather.{Known}
use Rattle.pd_boxes.specs.Put.{CanPut}
use Rattle.pd_contents_law.specs.Contents.{StaySettled}
use Rattle.pd_contents_law.proofs.SettledLemmas.{onward, table_before}
use Rattle.pd_regrowth_law.specs.Canvases.{Nest, Alone, Inside, nested, AreSubpatches, own_along, own_in_box, sub_canvas}
use Rattle.pd_reload_law.specs.Reloading.{RunsAs}
use Rattle.pd_putting_law.specs.Again.{StandsAgain}
use Rattle.pd_putting_law.proofs.StandLemmas.{path_along}
use Rattle.pd_putting_law.proofs.WithinLemmas.{path_within}
use Rattle.pd_adding.specs.declared.counts.Counts.{Counts}
use Rattle.pd_adding.specs.Boxes.{settled_edit}
use Rattle.pd_put_law.proofs.CountLemmas.{entry_boxes}
use Rattle.pd_put_law.proofs.HeadLemmas.{IsPlainHead, put_plain, put_frame}
use Rattle.pd_retyping.specs.declared.retyping.RetypedBox.{RetypedBox}
use Rattle.pd_retyping.specs.Asking.{put_instead}
use Rattle.pd_retyping.specs.Retypes.{HasBecome, RetypesBox}
use Rattle.pd_retyping_law.specs.Retypes.{boxes_with, retyped_box, retyped_at, BareAt}
use Rattle.pd_retyping_law.proofs.AgainLemmas.{bare_there}
use Rattle.pd_retype_law.proofs.BecomeLemmas.{document, box_again}
use Rattle.pd_retype_law.proofs.GrewLemmas.{drawn, six, goes_on, may, puts, bare}

-- ---- texts that are ready go on to be so

pub ready_later : (names later : Names) → Extends names later → 6 ≤ length names → IsTable later → (text : List Atom) → AreReady names text → AreReady later text
ready_later names later x six table text h =
    are_ready_grows names later (record { extends = x; before = table_before names later x six table; after = table }) text h

settled_of : (names : Names) (text : List Atom) → AreReady names text → AllByRecursion (IsSettled names) text
settled_of names [] h = tt
settled_of names (a ∷ text) h = (h.0.1, settled_of names text h.1)

pub stays_settled : (names more : Names) → Extends names more → 6 ≤ length names → (text : List Atom) → AreReady names text → StaySettled more text
stays_settled names more x six text h = λ later y table. settled_of later text (ready_later names later (onward names more later x y) six table text h)

-- ---- boxes of a document

module _ (names : Names) where
  -- the second boxes are as many as the first, with as many wires inside, and well formed where those are
  pub record StayProper (old new : Boxes) : Type 0 where
    pub boxes : weight new ≡ weight old
    pub wires : inner_wires new ≡ inner_wires old
    pub sound : AreBoxes names old → AreBoxes names new

  all_stay : (b : Boxes) → StayProper b b
  all_stay b = record { boxes = refl; wires = refl; sound = λ a. a }

  rest_stays : (h : Head) (f : Frame) (inner rest other : Boxes) → StayProper rest other → StayProper (Box h f inner rest) (Box h f inner other)
  rest_stays h f inner rest other m = record {
    boxes = ap (λ (n : ℕ). weight inner + n + 1) m.boxes;
    wires = ap (λ (n : ℕ). length f.wires + inner_wires inner + n) m.wires;
    sound = λ a. (a.0, a.1, a.2, a.3, m.sound a.4);
  }

  inner_stays : (h : Head) (f : Frame) (inner other rest : Boxes) → h.form ≡ Sub → StayProper inner other → StayProper (Box h f inner rest) (Box h f other rest)
  inner_stays h f inner other rest form m = record {
    boxes = ap (λ (n : ℕ). n + weight rest + 1) m.boxes;
    wires = ap (λ (n : ℕ). length f.wires + n + inner_wires rest) m.wires;
    sound = λ a. (a.0, subst (λ (y : Shape). HoldsNone y (page_of f other)) (sym form) tt, a.2, m.sound a.3, a.4);
  }

  with_rest : (form : Shape) (h : Head) (s : Sheet) (inner rest other : Boxes) → StayProper rest other → StayProper (box_with form h s inner rest) (box_with form h s inner other)
  with_rest Sub h s inner rest other m = rest_stays h (frame_in s) inner rest other m
  with_rest f h s inner rest other m = rest_stays h (frame_of empty_page) End rest other m

  with_inner : (h : Head) (s : Sheet) (inner other rest : Boxes) → h.form ≡ Sub → StayProper inner other → StayProper (box_with h.form h s inner rest) (box_with h.form h s other rest)
  with_inner h s inner other rest form m =
      subst (λ (y : Shape). StayProper (box_with y h s inner rest) (box_with y h s other rest)) (sym form) (inner_stays h (frame_in s) inner other rest form m)

  -- ---- boxes of a tree

  abbrev pub TreesStay : Trees → Trees → Type 0
  TreesStay t u = StayProper (document_boxes t) (document_boxes u)

  around_stay : (before t u : Trees) → TreesStay t u → TreesStay (join before t) (join before u)
  around_stay Done t u m = m
  around_stay (Leaf c before) t u m =
      rest_stays c.head (frame_of empty_page) End (document_boxes (join before t)) (document_boxes (join before u)) (around_stay before t u m)
  around_stay (Holder c sheet inner before) t u m =
      with_rest c.head.form c.head sheet (document_boxes inner) (document_boxes (join before t)) (document_boxes (join before u)) (around_stay before t u m)

  -- another box, whose element is well formed
  module _ (c : Cell) (well : AreBoxes names (document_boxes (Leaf c Done))) where
    first_stays : (old : Cell) (rest : Boxes) → StayProper (Box old.head (frame_of empty_page) End rest) (Box c.head (frame_of empty_page) End rest)
    first_stays old rest = record { boxes = refl; wires = refl; sound = λ a. (well.0, well.1, well.2, well.3, a.4) }

    pub boxes_stay : (n : ℕ) (t : Trees) → BareAt n t → TreesStay t (boxes_with n c t)
    boxes_stay n Done holds = all_stay End
    boxes_stay zero (Leaf old rest) holds = first_stays old (document_boxes rest)
    boxes_stay zero (Holder old s inner rest) holds = absurd holds
    boxes_stay (suc n) (Leaf old rest) holds =
        rest_stays old.head (frame_of empty_page) End (document_boxes rest) (document_boxes (boxes_with n c rest)) (boxes_stay n rest holds)
    boxes_stay (suc n) (Holder old s inner rest) holds =
        with_rest old.head.form old.head s (document_boxes inner) (document_boxes rest) (document_boxes (boxes_with n c rest)) (boxes_stay n rest holds)

  -- a subpatch with another text, which is well formed
  module _ (c : Cell) (form : c.head.form ≡ Sub) (head : IsHead names c.head) where
    sub_first : (old : Cell) (s : Sheet) (inner rest : Boxes) → old.head.form ≡ Sub
        → StayProper (box_with old.head.form old.head s inner rest) (box_with c.head.form c.head s inner rest)
    sub_first old s inner rest f =
        subst (λ (y : Shape). StayProper (box_with y old.head s inner rest) (box_with c.head.form c.head s inner rest)) (sym f)
        (subst (λ (y : Shape). StayProper (Box old.head (frame_in s) inner rest) (box_with y c.head s inner rest)) (sym form)
        (record { boxes = refl; wires = refl; sound = λ a. (head, subst (λ (y : Shape). HoldsNone y (page_of (frame_in s) inner)) (sym form) tt, a.2, a.3, a.4) }))

    sub_form : (f : Shape) (s : Sheet) (inner : Trees) (y : Tree) → sub_canvas f s inner ≡ Some y → f ≡ Sub
    sub_form Sub s inner y h = refl
    sub_form f s inner y h = absurd (none-some y h)

    pub sub_stays : (n : ℕ) (t : Trees) (y : Tree) → own_in_box n t ≡ Some y → TreesStay t (boxes_with n c t)
    sub_stays n Done y h = absurd (none-some y h)
    sub_stays zero (Leaf old rest) y h = absurd (none-some y h)
    sub_stays zero (Holder old s inner rest) y h = sub_first old s (document_boxes inner) (document_boxes rest) (sub_form old.head.form s inner y h)
    sub_stays (suc n) (Leaf old rest) y h =
        rest_stays old.head (frame_of empty_page) End (document_boxes rest) (document_boxes (boxes_with n c rest)) (sub_stays n rest y h)
    sub_stays (suc n) (Holder old s inner rest) y h =
        with_rest old.head.form old.head s (document_boxes inner) (document_boxes rest) (document_boxes (boxes_with n c rest)) (sub_stays n rest y h)

  -- ---- a canvas, and what lies around it

  record CanvasStays (t u : Tree) : Type 0 where
    sheet : u.sheet ≡ t.sheet
    boxes : StayProper (document_boxes t.boxes) (document_boxes u.boxes)

  nest_stays : (nest : Nest) (t u : Tree) → AreSubpatches nest → CanvasStays t u → CanvasStays (nested nest t) (nested nest u)
  nest_stays Alone t u sub m = m
  nest_stays (Inside sheet before c nest behind) t u sub m =
      let v = nested nest t in
      let w = nested nest u in
      let on = nest_stays nest t u sub.1 m in
      record {
        sheet = refl;
        boxes = around_stay before (Holder c v.sheet v.boxes behind) (Holder c w.sheet w.boxes behind)
            (subst (λ (s : Sheet). TreesStay (Holder c v.sheet v.boxes behind) (Holder c s w.boxes behind)) (sym on.sheet)
            (with_inner c.head v.sheet (document_boxes v.boxes) (document_boxes w.boxes) (document_boxes behind) sub.0 on.boxes));
      }

  stays_proper : (t u : Tree) → CanvasStays t u → levels (document_boxes u.boxes) ≤ 255 → IsProper names (document_in t) → IsProper names (document_in u)
  stays_proper t u m low p = record {
    sound = (subst (λ (s : Sheet). IsFrame names (frame_in s)) (sym m.sheet) p.sound.0, m.boxes.sound p.sound.1);
    limits = record {
      boxes = subst (λ (n : ℕ). n ≤ 16384) (sym m.boxes.boxes) p.limits.boxes;
      wires = subst (λ (n : ℕ). length u.sheet.wires + n ≤ 65536) (sym m.boxes.wires)
          (subst (λ (s : Sheet). length s.wires + inner_wires (document_boxes t.boxes) ≤ 65536) (sym m.sheet) p.limits.wires);
      levels = more (levels (document_boxes u.boxes)) low;
    };
  }
    where
      more : (n : ℕ) → n ≤ 255 → n + 1 ≤ 256
      more n h = omega (arith, h)

-- ---- an edit that gave a box another text

module _ (old new : Patch) (n : Counts) (name path : List ℕ) (number : ℕ) (text : List Atom) (now : ℕ) (k after : Known) (steps steps' : ℕ) (b : RetypedBox)
    (X : RetypesBox old new n name path number text now k after steps steps' b) where
  abbrev element : Entry
  element = drawn old new n name path number text now k after steps steps' b X

  pub text_later : (later : Names) → Extends k.names later → IsTable later → AreReady later element.head.text
  text_later later on table = ready_later k.names later on (six old new n name path number text now k after steps steps' b X) table element.head.text X.written.text

  pub head_proper : (later : Names) → Extends k.names later → IsTable later → IsHead later element.head
  head_proper later on table =
      let p : IsPlainHead element.head =
      put_plain (settled_edit k.names (put_instead (entry_of X.node.element) text)) element (puts old new n name path number text now k after steps steps' b X) in
      record {
        x = X.written.x;
        y = X.written.y;
        text = (text_later later on table, (may old new n name path number text now k after steps steps' b X).short);
        width = subst IsWidth (sym p.width) tt;
        tail = subst (AllByRecursion (AreReady later)) (sym p.tail) tt;
        form = p.form later;
      }

  -- the canvas in which the box stands
  module _ (can : CanPut old) (t : Tree) (R : RunsAs old.grove t) where
    abbrev pub around : (u : Tree) × (own_along path t ≡ Some u) × CanvasStands old.grove b.canvas u × (depth_of (get old.grove.boards b.canvas) ≡ length path)
    around = path_along old.grove path b.canvas t can.forest R.stands X.chosen.leads

    -- the tree with the box in its place, where its canvas stays proper
    tree_stays : (cell : Cell) (later : Names) → TreesStay later around.0.boxes (boxes_with number cell around.0.boxes) → CanvasStays later t (retyped_at path number cell t)
    tree_stays cell later stays =
        let u = around.0 in
        let v = retyped_box number cell u in
        let w = path_within path t u around.1 in
        subst (λ (z : Tree). CanvasStays later t z) (sym (w.changed (retyped_box number cell)))
        (subst (λ (z : Tree). CanvasStays later z (nested w.nest v)) (sym w.whole)
        (nest_stays later w.nest u v w.subpatches (record { sheet = refl; boxes = stays })))

    pub tree_proper : (cell : Cell) (later : Names) → levels (document_boxes (retyped_at path number cell t).boxes) ≤ 255
        → TreesStay later around.0.boxes (boxes_with number cell around.0.boxes) → IsProper later (document_in t) → IsProper later (document_in (retyped_at path number cell t))
    tree_proper cell later low stays h = stays_proper later t (retyped_at path number cell t) (tree_stays cell later stays) low h

-- ---- the box became another one

module _ (old new : Patch) (n : Counts) (name path : List ℕ) (number : ℕ) (text : List Atom) (now : ℕ) (k after : Known) (steps steps' : ℕ) (b : RetypedBox)
    (X : RetypesBox old new n name path number text now k after steps steps' b) (Y : HasBecome old new now b.key X.node X.added b.gone.items steps steps') (can : CanPut old) (t : Tree) (R : RunsAs old.grove t)
    (A : StandsAgain (answer_in k.files) name k.names t) where
  abbrev cell : Cell
  cell = Y.can.cell

  abbrev grown_from : Entry
  grown_from = drawn old new n name path number text now k after steps steps' b X

  box_well : (later : Names) → Extends k.names later → IsTable later → AreBoxes later (document_boxes (Leaf cell Done))
  box_well later on table =
      let B = bare old new n name path number text now k after steps steps' b X in
      let f : IsFrame later (frame_of grown_from.page) =
      put_frame later table (settled_edit k.names (put_instead (entry_of X.node.element) text)) grown_from (puts old new n name path number text now k after steps steps' b X)
      (text_later old new n name path number text now k after steps steps' b X later on table) in
      subst (AreBoxes later) (sym (document old new n name path number text now k after steps steps' b X Y))
      (entry_boxes later grown_from (head_proper old new n name path number text now k after steps steps' b X later on table) B.holds f B.boxes)

  pub box_proper : (later : Names) → Extends after.names later → IsTable later → IsProper later (document_in t) → IsProper later (document_in (retyped_at path number cell t))
  box_proper later on table h =
      let more = onward k.names after.names later (goes_on old new n name path number text now k after steps steps' b X) on in
      let u = around old new n name path number text now k after steps steps' b X can t R in
      tree_proper old new n name path number text now k after steps steps' b X can t R cell later (box_again old new n name path number text now k after steps steps' b X Y can t R A).shallow
      (boxes_stay later cell (box_well later more table) number u.0.boxes
      (bare_there old.grove b.canvas b.key number X.node X.chosen.at X.chosen.is Y.can.bare u.0 u.2)) h
