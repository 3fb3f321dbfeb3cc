-- What grew where an edit made a box another one or gave a subpatch another text, before it is known which.
use Rattle.std.proofs.Common.{◌≡◌, ◌≤◌, ◌+◌, ◌-◌, ℕ, zero, suc, false, max, ◌&&◌, nat_lt, List, [], ◌∷◌, length, Option, Some, None, refl, sym, ap, ◌∙◌, subst, arith}
use Rattle.std.specs.Prelude.{option_map}
use Rattle.std.proofs.lemmas.Bool.Decides.{nat_tests}
use Rattle.std.proofs.lemmas.Option.{none-some, same_Some}
use Rattle.slab.specs.Slab.{get}
use Rattle.pd_atom.specs.declared.Atom.{Atom}
use Rattle.pd_atom.specs.Names.{Names, Extends}
use Rattle.pd_atom.proofs.NameLemmas.{six_names}
use Rattle.pd_canvas.specs.declared.edits.Edit.{Edit}
use Rattle.pd_canvas.specs.declared.edits.Edit.TheVariants as edit
use Rattle.pd_canvas.specs.Edits.{element}
use Rattle.pd_canvas.specs.Pages.{Shape, Obj, Msg, Comment, FloatBox, SymbolBox, Sub, Array, Other, Head, Boxes, End, Box, Entry, boxed}
use Rattle.pd_canvas.specs.Proper.{levels, levels_of, AreReady}
use Rattle.pd_canvas.specs.Views.{entry_of}
use Rattle.pd_library.specs.Files.{answer_in}
use Rattle.pd_library.specs.declared.answers.Answer.{Answer}
use Rattle.pd_tree.specs.Trees.{Cell, Trees, Done, Leaf, Tree, document_boxes}
use Rattle.pd_growth.specs.Steps.{Stock, gives}
use Rattle.pd_growth.specs.Growing.{inside_grown}
use Rattle.pd_growth.specs.Growth.{Inner, around_root, box_grown, without_ending}
use Rattle.pd_grove.specs.declared.boards.Board.{Board}
use Rattle.pd_grove.specs.declared.nodes.Node.{Node}
use Rattle.pd_grove.specs.Standing.{BoardSeen, board_seen}
use Rattle.pd_grove.specs.TextOrder.{is_sub}
use Rattle.pd_patch.specs.declared.patch.Patch.{Patch}
use Rattle.pd_gather.specs.Gather.{Known}
use Rattle.pd_gather.proofs.KnownLemmas.{library_of}
use Rattle.pd_boxes.specs.Put.{CanPut}
use Rattle.pd_regrowth_law.specs.Canvases.{Nest, Alone, Inside, nested, AreSubpatches, left_outside}
use Rattle.pd_regrowth_law.specs.Regrowth.{inner_of}
use Rattle.pd_regrowth_law.specs.Suits.{AreOf, HoldNone, IsEntryOf, TextsOf}
use Rattle.pd_regrowth_law.proofs.ExpandLemmas.{are_of_more}
use Rattle.pd_regrowth_law.proofs.StepLemmas.{extends_on}
use Rattle.pd_reload_law.specs.Reloading.{RunsAs}
use Rattle.pd_putting_law.specs.Again.{StandsAgain}
use Rattle.pd_putting_law.specs.Putting.{IsBare, element_put}
use Rattle.pd_putting_law.proofs.AgainLemmas.{box_is, stands_on}
use Rattle.pd_putting_law.proofs.GrownLemmas.{put_bare}
use Rattle.pd_putting_law.proofs.StandLemmas.{path_along}
use Rattle.pd_putting_law.proofs.WithinLemmas.{ChangesWithin, path_within, around_levels}
use Rattle.pd_adding.specs.declared.counts.Counts.{Counts}
use Rattle.pd_adding.specs.Boxes.{settled_edit, box_put}
use Rattle.pd_adding.specs.Coming.{zero_in, own_zero}
use Rattle.pd_adding.specs.Counts.{stock_by}
use Rattle.pd_adding.specs.Adding.{GrewWith}
use Rattle.pd_adding.proofs.GrowLemmas.{growth_is}
use Rattle.pd_adding.proofs.SingleLemmas.{same_inner}
use Rattle.pd_put_law.proofs.ComeLemmas.{MayCome, may_come, goes_alike}
use Rattle.pd_retyping.specs.declared.retyping.RetypedBox.{RetypedBox}
use Rattle.pd_retyping.specs.Asking.{settled_text, put_instead}
use Rattle.pd_retyping.specs.Retypes.{counts_but, RetypesBox}

-- ---- the element that the edit gives

none_left : (m : ℕ) → box_put (edit.Delete m) ≡ None
none_left zero = refl
none_left (suc m) = refl

put_same : (x : Edit) (b : Entry) → box_put x ≡ Some b → element_put x ≡ Some b
put_same (edit.Obj x y text) b h = h
put_same (edit.Msg x y text) b h = h
put_same (edit.Comment x y text) b h = h
put_same (edit.FloatBox x y text) b h = h
put_same (edit.SymbolBox x y text) b h = h
put_same (edit.Sub x y name) b h = h
put_same (edit.Connect wire) b h = h
put_same (edit.Disconnect wire) b h = h
put_same (edit.Delete m) b h = sym (none_left m) ∙ h
put_same (edit.Retype m text) b h = h
put_same (edit.Move m x y) b h = h

not_deep : (depth : ℕ) → nat_lt 254 depth ≡ false → depth ≤ 254
not_deep depth h = grind (arith, nat_tests)

levels_fit : (form : Shape) (boxes : Boxes) (depth : ℕ) → boxes ≡ End → (is_sub form && nat_lt 254 depth) ≡ false → levels_of form (levels boxes) ≤ 255 - depth
levels_fit Sub boxes depth none high =
    let l = ap levels none in
    let d = not_deep depth high in
    omega (arith, l, d)
levels_fit Obj boxes depth none high = omega arith
levels_fit Msg boxes depth none high = omega arith
levels_fit Comment boxes depth none high = omega arith
levels_fit FloatBox boxes depth none high = omega arith
levels_fit SymbolBox boxes depth none high = omega arith
levels_fit (Array values) boxes depth none high = omega arith
levels_fit (Other s) boxes depth none high = omega arith

-- ---- how long the path is

nest_short : (nest : Nest) (u : Tree) → AreSubpatches nest → left_outside nest 0 ≤ levels (document_boxes (nested nest u).boxes)
nest_short Alone u f = omega arith
nest_short (Inside sheet before c nest behind) u f =
    let t = nested nest u in
    step (levels (document_boxes before)) (levels (document_boxes t.boxes)) (levels (document_boxes behind)) (left_outside nest 0)
    (levels (document_boxes (nested (Inside sheet before c nest behind) u).boxes)) (around_levels before behind c t f.0) (nest_short nest u f.1)
  where
    step : (a i b m x : ℕ) → x ≡ max a (max (i + 1) b) → m ≤ i → suc m ≤ x
    step a i b m x e h = omega (arith, e, h)

path_short : (path : List ℕ) (t u : Tree) → ChangesWithin path t u → levels (document_boxes t.boxes) ≤ 255 → length path ≤ 255
path_short path t u w low =
    short (length path) (left_outside w.nest 0) (levels (document_boxes (nested w.nest u).boxes)) (w.deep 0) (nest_short w.nest u w.subpatches)
    (subst (λ (x : Tree). levels (document_boxes x.boxes) ≤ 255) w.whole low)
  where
    short : (l m x : ℕ) → m ≡ l + 0 → m ≤ x → x ≤ 255 → l ≤ 255
    short l m x e h k = omega (arith, e, h, k)

all_in : (l : ℕ) → l ≤ 255 → l + (255 - l) ≡ 255
all_in l h = omega (arith, h)

-- ---- names and heads

ready_of : (names : Names) (text : List Atom) → AreReady names text → AreOf names text
ready_of names [] h = tt
ready_of names (a ∷ text) h = (h.0.0, ready_of names text h.1)

zero_seen : (o : Option Board) (y : BoardSeen) → option_map board_seen o ≡ Some y → zero_in o ≡ y.sheet.zero
zero_seen None y h = absurd (none-some y h)
zero_seen (Some b) y h = ap (λ (x : BoardSeen). x.sheet.zero) (same_Some (board_seen b) y h)

head_or : Head → Boxes → Head
head_or d End = d
head_or d (Box h f inner rest) = h

pub same_head : (c : Cell) (e : Entry) → document_boxes (Leaf c Done) ≡ boxed (e ∷ []) → c.head ≡ e.head
unfolding head_or
same_head c e h = ap (head_or c.head) h

-- ---- an edit that gave a box another text

module _ (old new : Patch) (n : Counts) (name path : List ℕ) (number : ℕ) (text : List Atom) (now : ℕ) (k after : Known) (steps steps' : ℕ) (b : RetypedBox)
    (X : RetypesBox old new n name path number text now k after steps steps' b) where
  abbrev pub was : Node
  was = X.node

  abbrev pub written_as : List Atom
  written_as = settled_text k.names text

  -- the element from which the box grew
  abbrev pub drawn : Entry
  drawn = X.entry

  -- the counts without the box that was there, from which the new one grew
  abbrev pub without_it : Counts
  without_it = counts_but old.rate was n

  abbrev puts_it : Edit
  puts_it = put_instead (entry_of was.element) text

  abbrev pub grew_so : GrewWith old without_it name path puts_it k X.files X.added
  grew_so = X.grew

  pub six : 6 ≤ length k.names
  six = six_names k.names X.table

  pub known_names : after.names ≡ grew_so.after.names
  known_names = ap (λ (x : Known). x.names) (X.known_is ∙ grew_so.known_is)

  pub known_files : after.files ≡ X.files.files
  known_files = ap (λ (x : Known). x.files) (X.known_is ∙ grew_so.known_is)

  pub goes_on : Extends k.names after.names
  goes_on =
      subst (λ (x : Known). Extends k.names x.names) (sym (X.known_is ∙ grew_so.known_is)) (extends_on k.names X.files.names grew_so.after.names grew_so.extends grew_so.onward)

  first : MayCome old path (box_put (settled_edit k.names puts_it)) X.added.canvas grew_so.entry
  first = may_come old path X.added.canvas grew_so.entry (box_put (settled_edit k.names puts_it)) grew_so.comes

  same_entry : grew_so.entry ≡ drawn
  same_entry = same_Some grew_so.entry drawn (sym first.is ∙ X.new_entry)

  pub may : MayCome old path (box_put (settled_edit k.names puts_it)) X.added.canvas drawn
  may = subst (MayCome old path (box_put (settled_edit k.names puts_it)) X.added.canvas) same_entry first

  pub puts : element_put (settled_edit k.names puts_it) ≡ Some drawn
  puts = put_same (settled_edit k.names puts_it) drawn X.new_entry

  pub bare : IsBare drawn
  bare = put_bare (settled_edit k.names puts_it) drawn puts

  pub low : levels_of drawn.head.form (levels drawn.page.boxes) ≤ 255 - length path
  low = levels_fit drawn.head.form drawn.page.boxes (length path) bare.boxes may.low

  pub none_held : HoldNone drawn.page.boxes
  none_held = subst HoldNone (sym bare.boxes) tt

  pub entry_named : IsEntryOf X.files.names drawn
  entry_named = record {
    text = are_of_more k.names X.files.names grew_so.extends drawn.head.text (ready_of k.names drawn.head.text X.written.text);
    inner = subst (TextsOf X.files.names) (sym bare.boxes) tt;
  }

  abbrev pub lib : ℕ → Option Answer
  lib = answer_in X.files.files

  abbrev pub left : ℕ
  left = 255 - length path

  abbrev pub from : Stock
  from = stock_by X.files.names without_it

  pub grew_own : (boxes : Trees) → X.added.boxes ≡ boxes
      → box_grown lib (without_ending name) left (inner_of lib (without_ending name) left) (around_root (own_zero old)) drawn from ≡ gives boxes grew_so.after
  grew_own boxes is =
      ap (λ (inner : Inner). box_grown lib (without_ending name) left inner (around_root (own_zero old)) drawn from) (sym (same_inner lib (without_ending name) left))
      ∙ ap (λ (e : Entry). box_grown lib (without_ending name) left (inside_grown lib (without_ending name) left) (around_root (own_zero old)) e from) (sym same_entry)
      ∙ sym (growth_is (own_zero old) without_it name left grew_so.entry X.files) ∙ grew_so.grew
      ∙ ap (λ (t : Trees). gives t grew_so.after) is

  -- what grew has the element
  pub document_by : (boxes : Trees) → X.added.boxes ≡ boxes → document_boxes boxes ≡ boxed (drawn ∷ [])
  document_by boxes is = box_is lib name left (own_zero old) drawn from grew_so.after boxes low bare.holds none_held (grew_own boxes is)

  -- the tree that grows again with these names does so with what is known after the edit
  pub known_after : (u : Tree) → StandsAgain lib name grew_so.after.names u → StandsAgain (answer_in after.files) name after.names u
  known_after u s =
      subst (λ (fs : List (ℕ × Answer)). StandsAgain (answer_in fs) name after.names u) (sym known_files)
      (subst (λ (ns : Names). StandsAgain lib name ns u) (sym known_names) s)

  module _ (can : CanPut old) (t : Tree) (R : RunsAs old.grove t) where
    own : own_zero old ≡ t.sheet.zero
    own = zero_seen (get old.grove.boards old.grove.root) _ R.stands.root

    pub grew : (boxes : Trees) → X.added.boxes ≡ boxes
        → box_grown lib (without_ending name) left (inner_of lib (without_ending name) left) (around_root t.sheet.zero) drawn from ≡ gives boxes grew_so.after
    grew boxes is =
        ap (λ (z : ℕ). box_grown lib (without_ending name) left (inner_of lib (without_ending name) left) (around_root z) drawn from) (sym own) ∙ grew_own boxes is

    module _ (A : StandsAgain (answer_in k.files) name k.names t) where
      pub again_then : StandsAgain lib name X.files.names t
      again_then =
          stands_on (answer_in k.files) lib name k.names X.files.names t A (goes_alike k.files X.files.files grew_so.behind) grew_so.extends
          (library_of X.files.names X.files.files grew_so.found)

      pub long : length path ≤ 255
      long =
          let at = path_along old.grove path b.canvas t can.forest R.stands X.chosen.leads in
          path_short path t at.0 (path_within path t at.0 at.1) A.shallow

      pub deep : length path + left ≡ 255
      deep = all_in (length path) long
