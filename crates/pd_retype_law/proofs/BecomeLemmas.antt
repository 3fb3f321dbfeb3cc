-- The box that an edit made another one, and the tree with it, which runs and grows again.
use Rattle.std.proofs.Common.{◌≡◌, ◌≤◌, ◌-◌, ℕ, zero, Bool, true, false, ◌&&◌, if◌then◌else◌, List, [], ◌∷◌, length, slice_get, Option, Some, refl, sym, ap, ◌∙◌, subst, true≢false}
use Rattle.pd_atom.specs.declared.Atom.{Atom}
use Rattle.pd_canvas.specs.Edits.{begins_with_pd, element, object, retyped_as}
use Rattle.pd_canvas.specs.Pages.{Shape, Sub, Head, Entry, boxed}
use Rattle.pd_canvas.specs.Proper.{levels, levels_of}
use Rattle.pd_canvas.specs.Views.{entry_of}
use Rattle.pd_library.specs.Files.{answer_in}
use Rattle.pd_library.specs.declared.answers.Answer.{Answer}
use Rattle.pd_tree.specs.Trees.{Cell, Stand, Done, Leaf, Tree, document_boxes}
use Rattle.pd_growth.specs.Steps.{Stock, gives}
use Rattle.pd_growth.specs.Growth.{around_root, box_grown, without_ending}
use Rattle.pd_grove.specs.declared.grove.Grove.{Grove}
use Rattle.pd_grove.specs.declared.nodes.Node.{Node}
use Rattle.pd_grove.specs.Room.{IsSameButRoom}
use Rattle.pd_grove.specs.TextOrder.{is_sub}
use Rattle.pd_patch.specs.declared.patch.Patch.{Patch}
use Rattle.pd_gather.specs.Gather.{Known}
use Rattle.pd_boxes.specs.Put.{node_of, CanPut}
use Rattle.pd_boxes.proofs.RoomLemmas.{keys_same}
use Rattle.pd_regrowth_law.specs.Regrowth.{inner_of}
use Rattle.pd_regrowth_law.specs.Suits.{IsEntryOf}
use Rattle.pd_reload_law.specs.Reloading.{RunsAs}
use Rattle.pd_reload_law.specs.Saving.{IsMade}
use Rattle.pd_putting_law.specs.Again.{StandsAgain}
use Rattle.pd_putting_law.proofs.GrownLemmas.{new_grown}
use Rattle.pd_putting_law.proofs.StandLemmas.{path_along}
use Rattle.pd_adding.specs.declared.counts.Counts.{Counts}
use Rattle.pd_adding.specs.Coming.{own_zero}
use Rattle.pd_put_law.proofs.RoomLemmas.{room_runs, room_subs}
use Rattle.pd_retyping.specs.declared.retyping.RetypedBox.{RetypedBox}
use Rattle.pd_retyping.specs.Asking.{settled_text}
use Rattle.pd_retyping.specs.Retypes.{HasBecome, RetypesBox}
use Rattle.pd_retyping_law.specs.Edits.{GivesText, element_with}
use Rattle.pd_retyping_law.specs.Retypes.{retyped_at}
use Rattle.pd_retyping_law.specs.Retyping.{RetypesBoxAt, ChangesBoxAt, cell_in}
use Rattle.pd_retyping_law.proofs.AgainLemmas.{box_made}
use Rattle.pd_retyping_law.proofs.EditLemmas.{text_again, text_runs}
use Rattle.pd_retyping_law.proofs.PlaceLemmas.{retypes_so}
use Rattle.pd_retype_law.proofs.GrewLemmas.{drawn, entry_named, none_held, low, bare, lib, from, again_then, deep, document_by, grew, grew_own, known_after, same_head}

-- a subpatch that would keep what it holds would be one still
not_kept : (f : Shape) (text : List Atom) (e : Entry) (b : Bool) → begins_with_pd text ≡ b → is_sub (retyped_as f text e).head.form ≡ false → (is_sub f && b) ≡ false
not_kept Sub text e true pd h =
    absurd (true≢false (sym (ap (λ (c : Bool). is_sub (if c then element Sub e.page e.head.x e.head.y text else object e.head.x e.head.y text).head.form) pd) ∙ h))
not_kept Sub text e false pd h = refl
not_kept f text e b pd h = refl

-- ---- an edit that made a box another one

module _ (old new : Patch) (n : Counts) (name path : List ℕ) (number : ℕ) (text : List Atom) (now : ℕ) (k after : Known) (steps steps' : ℕ) (b : RetypedBox)
    (X : RetypesBox old new n name path number text now k after steps steps' b)
    (Y : HasBecome old new now b.key X.node X.added b.gone.items steps steps') where
  abbrev pub is_now : Node
  is_now = node_of X.node.board Y.seed

  abbrev cell : Cell
  cell = Y.can.cell

  -- the patch from which the wires went that don't fit, and those that turn
  abbrev pub mid : Patch
  mid = Y.free

  abbrev grown_from : Entry
  grown_from = drawn old new n name path number text now k after steps steps' b X

  -- its boxes are those that there were
  pub same_boxes : IsSameButRoom old.grove mid.grove
  same_boxes = subst (IsSameButRoom old.grove) (sym (Y.frees.rest.grove ∙ Y.loosens.rest.grove)) Y.room.grove

  pub cell_is : cell_in is_now ≡ cell
  cell_is = ap (λ (x : Stand). x.cell) Y.is_row

  pub fitted_box : RetypesBoxAt mid.grove Y.fitted.grove path b.canvas b.key number X.node is_now
  fitted_box =
      let S = same_boxes in
      let G = Y.refit.grove in
      record {
        forest = Y.could.can.forest;
        leads = room_subs old.grove mid.grove S path ∙ X.chosen.leads;
        is = ap (λ (ks : List ℕ). slice_get ks number) (keys_same old.grove mid.grove S b.canvas) ∙ X.chosen.at;
        was = Y.could.is;
        bare = Y.could.bare;
        becomes = G.is;
        leaf = refl;
        board = refl;
        others = G.others;
        boards = G.boards;
        root = G.root;
      }

  pub fitted_there : ChangesBoxAt mid.grove Y.fitted.grove path b.canvas b.key number X.node is_now
  fitted_there = retypes_so mid.grove Y.fitted.grove path b.canvas b.key number X.node is_now fitted_box

  -- and so it is where the wires that turn came back
  pub box : RetypesBoxAt mid.grove new.grove path b.canvas b.key number X.node is_now
  box = subst (λ (g : Grove). RetypesBoxAt mid.grove g path b.canvas b.key number X.node is_now) (sym Y.back.tightens.rest.grove) fitted_box

  pub there : ChangesBoxAt mid.grove new.grove path b.canvas b.key number X.node is_now
  there = retypes_so mid.grove new.grove path b.canvas b.key number X.node is_now box

  abbrev library : ℕ → Option Answer
  library = lib old new n name path number text now k after steps steps' b X

  abbrev stock_then : Stock
  stock_then = from old new n name path number text now k after steps steps' b X

  abbrev after_it : Stock
  after_it = X.grew.after

  pub document : document_boxes (Leaf cell Done) ≡ boxed (grown_from ∷ [])
  document = document_by old new n name path number text now k after steps steps' b X (Leaf cell Done) Y.can.single

  pub head_is : cell.head ≡ grown_from.head
  head_is = same_head cell grown_from document

  pub no_sub : is_sub cell.head.form ≡ false
  no_sub =
      new_grown library (without_ending name) (255 - length path) (around_root (own_zero old)) grown_from stock_then after_it (Leaf cell Done) (bare old new n name path number text now k after steps steps' b X)
      (grew_own old new n name path number text now k after steps steps' b X (Leaf cell Done) Y.can.single)

  is_new : (is_sub (entry_of X.node.element).head.form && begins_with_pd (settled_text k.names text)) ≡ false
  is_new =
      let written = settled_text k.names text in
      not_kept (entry_of X.node.element).head.form written (entry_of X.node.element) (begins_with_pd written) refl
      (sym (ap (λ (h : Head). is_sub h.form) (head_is ∙ X.same_head)) ∙ no_sub)

  -- it grew from the element with the new text
  pub same_drawn : grown_from ≡ element_with (settled_text k.names text) X.node
  same_drawn = X.same_entry is_new

  module _ (can : CanPut old) (t : Tree) (R : RunsAs old.grove t) (A : StandsAgain (answer_in k.files) name k.names t) where
    grew_leaf : box_grown library (without_ending name) (255 - length path) (inner_of library (without_ending name) (255 - length path)) (around_root t.sheet.zero) grown_from stock_then
        ≡ gives (Leaf cell Done) after_it
    grew_leaf = grew old new n name path number text now k after steps steps' b X can t R (Leaf cell Done) Y.can.single

    pub runs_ready : RunsAs mid.grove t
    runs_ready = room_runs old.grove mid.grove same_boxes t R

    pub gives_text : GivesText mid.grove new.grove path b.canvas b.key number library name t (settled_text k.names text) X.node is_now stock_then after_it
    gives_text = record {
      box = box;
      takes = X.chosen.takes;
      new = is_new;
      names = subst (IsEntryOf X.files.names) same_drawn (entry_named old new n name path number text now k after steps steps' b X);
      left = 255 - length path;
      deep = deep old new n name path number text now k after steps steps' b X can t R A;
      room = subst (λ (e : Entry). levels_of e.head.form (levels e.page.boxes) ≤ 255 - length path) same_drawn (low old new n name path number text now k after steps steps' b X);
      grew =
          subst (λ (e : Entry). box_grown library (without_ending name) (255 - length path) (inner_of library (without_ending name) (255 - length path)) (around_root t.sheet.zero) e stock_then
          ≡ gives (Leaf cell Done) after_it) same_drawn grew_leaf
          ∙ ap (λ (c : Cell). gives (Leaf c Done) after_it) (sym cell_is);
      rate = old.rate;
      now = now;
      first = ap (λ s. Some s) Y.fresh;
    }

    pub made : IsMade cell.head.form cell
    made =
        let at = path_along old.grove path b.canvas t can.forest R.stands X.chosen.leads in
        box_made library name (255 - length path) path t at.0 grown_from stock_then after_it cell (again_then old new n name path number text now k after steps steps' b X can t R A) at.1 (deep old new n name path number text now k after steps steps' b X can t R A) (entry_named old new n name path number text now k after steps steps' b X) (low old new n name path number text now k after steps steps' b X)
        (bare old new n name path number text now k after steps steps' b X).holds (none_held old new n name path number text now k after steps steps' b X) grew_leaf

    pub box_runs : RunsAs new.grove (retyped_at path number cell t)
    box_runs =
        subst (λ (c : Cell). RunsAs new.grove (retyped_at path number c t)) cell_is
        (text_runs mid.grove new.grove path b.canvas b.key number library name t (settled_text k.names text) X.node is_now stock_then after_it runs_ready (again_then old new n name path number text now k after steps steps' b X can t R A) gives_text)

    pub box_again : StandsAgain (answer_in after.files) name after.names (retyped_at path number cell t)
    box_again =
        known_after old new n name path number text now k after steps steps' b X (retyped_at path number cell t)
        (subst (λ (c : Cell). StandsAgain library name after_it.names (retyped_at path number c t)) cell_is
        (text_again mid.grove new.grove path b.canvas b.key number library name t (settled_text k.names text) X.node is_now stock_then after_it runs_ready (again_then old new n name path number text now k after steps steps' b X can t R A) gives_text))
