-- The document of a patch where a box became another one, and the wires went that don't fit it.
use Rattle.std.proofs.Common.{◌≡◌, ℕ, zero, suc, List, [], ◌∷◌, ◌++◌, length, slice_get, Option, Some, None, IsSome, refl, sym, ap, ◌∙◌, subst, arith}
use Rattle.std.specs.Prelude.{option_map, replicate, map}
use Rattle.std.specs.List.{range_with_len}
use Rattle.std.proofs.lemmas.Option.{none-some, same_Some}
use Rattle.slab.specs.Slab.{get}
use Rattle.pd_atom.specs.declared.Atom.{Atom}
use Rattle.pd_canvas.specs.declared.edits.Edit.TheVariants as edit
use Rattle.pd_canvas.specs.declared.wires.Wire.{Wire}
use Rattle.pd_canvas.specs.Edits.{edited, retyped}
use Rattle.pd_canvas.specs.Pages.{Page, boxed, empty_page}
use Rattle.pd_canvas.specs.Paths.{change_box, edit_at}
use Rattle.pd_kind.specs.States.{start_of}
use Rattle.pd_kind.specs.Tables.{started}
use Rattle.pd_library.specs.Files.{answer_in}
use Rattle.pd_library.specs.declared.answers.Answer.{Answer}
use Rattle.pd_tree.specs.Trees.{Cell, Tree}
use Rattle.pd_growth.specs.Steps.{Stock}
use Rattle.pd_grove.specs.declared.boards.Board.{Board}
use Rattle.pd_grove.specs.declared.grove.Grove.{Grove}
use Rattle.pd_grove.specs.declared.nodes.Node.{Node}
use Rattle.pd_grove.specs.declared.ports.Side.TheVariants.{Outlets}
use Rattle.pd_grove.specs.OwnPaths.{sub_reached}
use Rattle.pd_grove.specs.Owning.{board_in}
use Rattle.pd_grove.specs.Room.{IsSameButRoom}
use Rattle.pd_grove.specs.Standing.{BoardSeen, board_seen}
use Rattle.pd_grove.specs.Telling.{keys_in}
use Rattle.pd_web.specs.declared.web.Hop.{Hop}
use Rattle.pd_web.specs.declared.web.Web.{Web}
use Rattle.pd_web.specs.Canvases.{keys_at}
use Rattle.pd_web.specs.Changes.{hop_at, KeepsPorts, Meet}
use Rattle.pd_web.specs.Hops.{ports_told, fan_hops}
use Rattle.pd_present.specs.Presents.{number_in, wire_along, outlet_wires, box_wires, wires_among, entry_at, page_on, page_within, present_page}
use Rattle.pd_present.proofs.PresentLemmas.{within_none, within_suc}
use Rattle.pd_patch.specs.declared.patch.Patch.{Patch}
use Rattle.pd_patch.specs.Document.{present_document}
use Rattle.pd_patch.specs.Listing.{IsThere}
use Rattle.pd_gather.specs.Gather.{Known}
use Rattle.pd_boxes.specs.Put.{CanPut}
use Rattle.pd_boxes.specs.Rows.{IsLonger}
use Rattle.pd_boxes.proofs.RoomLemmas.{keys_same}
use Rattle.pd_misfits.specs.declared.wires.BoxWire.{BoxWire}
use Rattle.pd_misfits.specs.Misfits.{misfits}
use Rattle.pd_misfits.specs.Shedding.{numbered, without_wires, IsWired, Sheds}
use Rattle.pd_misfits.proofs.CanvasLemmas.{canvas_less, others_left}
use Rattle.pd_turning.proofs.LawLemmas.{canvas_has}
use Rattle.pd_reload_law.specs.Reloading.{RunsAs}
use Rattle.pd_reload_law.specs.Wires.{RewiresAt}
use Rattle.pd_reload_law.proofs.EditLemmas.{document_edited}
use Rattle.pd_alike_law.specs.Feeds.{FedOnce}
use Rattle.pd_inside_law.specs.Inside.{HoldsWires}
use Rattle.pd_putting_law.specs.Again.{StandsAgain}
use Rattle.pd_putting_law.specs.Putting.{KeepsText, entry_kept}
use Rattle.pd_putting_law.proofs.PathLemmas.{paths_once, sub_leads}
use Rattle.pd_adding.specs.declared.counts.Counts.{Counts}
use Rattle.pd_adding.specs.Counts.{stock_by}
use Rattle.pd_retyping.specs.declared.retyping.RetypedBox.{RetypedBox}
use Rattle.pd_retyping.specs.Retypes.{HasBecome, RetypesBox}
use Rattle.pd_retyping_law.specs.Retyping.{RetypesBoxAt, ChangesBoxAt}
use Rattle.pd_retyping_law.proofs.EditLemmas.{text_kept, text_document}
use Rattle.pd_retype_law.specs.Losing.{less_wires}
use Rattle.pd_retype_law.proofs.BecomeLemmas.{mid, is_now, box, same_boxes, cell_is, runs_ready, gives_text, there as changed_so}
use Rattle.pd_retype_law.proofs.GrewLemmas.{written_as, without_it, grew_so, again_then, long}
use Rattle.pd_retype_law.proofs.FitLemmas.{flat_same}
use Rattle.pd_retype_law.proofs.InsideLemmas.{keys_stay, sub_from_root}

-- ---- the wires of boxes that are saved

same_functions : {A B : Type 0} (f g : A → B) → ((x : A) → f x ≡ g x) → f ≡ g
same_functions f g h = λ i x. h x i

abbrev zeros : ℕ → List ℕ
zeros n = replicate n 0

number_none : (n k : ℕ) → number_in (zeros n) k ≡ number_in [] k
number_none zero k = refl
number_none (suc n) zero = refl
number_none (suc n) (suc k) = number_none n k

longer_number : (xs : List ℕ) (n k : ℕ) → number_in (xs ++ zeros n) k ≡ number_in xs k
longer_number [] n k = number_none n k
longer_number (x ∷ xs) n zero = refl
longer_number (x ∷ xs) n (suc k) = longer_number xs n k

pub number_same : (old new : List ℕ) (k : ℕ) → IsLonger 0 old new → number_in new k ≡ number_in old k
number_same old new k l = ap (λ (ns : List ℕ). number_in ns k) l.1 ∙ longer_number old l.0 k

each_same : {X Y : Type 0} (f g : X → Y) (xs : List X) → ((x : X) → f x ≡ g x) → map f xs ≡ map g xs
each_same f g [] h = refl
each_same {X} {Y} f g (x ∷ xs) h = ap (λ (y : Y). y ∷ map f xs) (h x) ∙ ap (λ (l : List Y). g x ∷ l) (each_same f g xs h)

along_same : (a b : List ℕ) (k o : ℕ) (h : Hop) → ((j : ℕ) → number_in b j ≡ number_in a j) → wire_along b k o h ≡ wire_along a k o h
along_same a b k o h same =
    ap (λ (s : ℕ). record { source = s; outlet = o; sink = number_in b h.node; inlet = h.port }) (same k)
    ∙ ap (λ (s : ℕ). record { source = number_in a k; outlet = o; sink = s; inlet = h.port }) (same h.node)

-- a canvas of which this is seen
abbrev page_seen : Web → List ℕ → (ℕ → Option Node) → (ℕ → Page) → Option BoardSeen → Page
page_seen web numbers nodes inside None = empty_page
page_seen web numbers nodes inside (Some b) = record {
  header = b.sheet.header;
  kept = b.sheet.kept;
  boxes = boxed (map (λ k. entry_at inside (nodes k)) b.keys);
  wires = wires_among web numbers b.keys;
  coords = b.sheet.coords;
}

on_seen : (web : Web) (numbers : List ℕ) (nodes : ℕ → Option Node) (inside : ℕ → Page) (o : Option Board)
    → page_on web numbers nodes inside o ≡ page_seen web numbers nodes inside (option_map board_seen o)
on_seen web numbers nodes inside None = refl
on_seen web numbers nodes inside (Some b) = refl

-- canvases alike, of which each saves the wires that it saved
module _ (w v : Web) (a b : List ℕ) (saved : (keys : List ℕ) → wires_among v b keys ≡ wires_among w a keys) (g h : Grove) (nodes : (k : ℕ) → get h.nodes k ≡ get g.nodes k)
    (boards : (c : ℕ) → option_map board_seen (get h.boards c) ≡ option_map board_seen (get g.boards c)) where
  wired_same : (nodes : ℕ → Option Node) (inside : ℕ → Page) (o : Option BoardSeen) → page_seen v b nodes inside o ≡ page_seen w a nodes inside o
  wired_same nodes inside None = refl
  wired_same nodes inside (Some x) =
      ap (λ (ws : List Wire). record { header = x.sheet.header; kept = x.sheet.kept; boxes = boxed (map (λ k. entry_at inside (nodes k)) x.keys); wires = ws; coords = x.sheet.coords })
      (saved x.keys)

  canvas_same : (inside inside' : ℕ → Page) → inside' ≡ inside → (c : ℕ) → page_on v b (get h.nodes) inside' (get h.boards c) ≡ page_on w a (get g.nodes) inside (get g.boards c)
  canvas_same inside inside' same c =
      let seen = option_map board_seen (get g.boards c) in
      on_seen v b (get h.nodes) inside' (get h.boards c)
      ∙ ap (page_seen v b (get h.nodes) inside') (boards c)
      ∙ ap (λ (f : ℕ → Option Node). page_seen v b f inside' seen) (same_functions (get h.nodes) (get g.nodes) nodes)
      ∙ ap (λ (f : ℕ → Page). page_seen v b (get g.nodes) f seen) same
      ∙ wired_same (get g.nodes) inside seen
      ∙ sym (on_seen w a (get g.nodes) inside (get g.boards c))

  within_same : (n c : ℕ) → page_within v b (get h.nodes) (get h.boards) n c ≡ page_within w a (get g.nodes) (get g.boards) n c
  within_same zero c = within_none v b (get h.nodes) (get h.boards) c ∙ sym (within_none w a (get g.nodes) (get g.boards) c)
  within_same (suc n) c =
      let before = page_within w a (get g.nodes) (get g.boards) n in
      let now = page_within v b (get h.nodes) (get h.boards) n in
      within_suc v b (get h.nodes) (get h.boards) n c
      ∙ canvas_same before now (same_functions now before (λ d. within_same n d)) c
      ∙ sym (within_suc w a (get g.nodes) (get g.boards) n c)

  pub document_same : h.root ≡ g.root → present_page h v b ≡ present_page g w a
  document_same root = within_same 257 h.root ∙ ap (page_within w a (get g.nodes) (get g.boards) 257) root

-- the same wires by numbers that are the same
pub numbers_among : (w : Web) (a b : List ℕ) → ((j : ℕ) → number_in b j ≡ number_in a j) → (keys : List ℕ) → wires_among w b keys ≡ wires_among w a keys
numbers_among w a b same keys =
    flat_same (box_wires w b) (box_wires w a) keys (λ k.
    flat_same (outlet_wires w b k) (outlet_wires w a k) (range_with_len 0 (length (ports_told w Outlets k))) (λ o.
    each_same (wire_along b k o) (wire_along a k o) (fan_hops w k o) (λ h. along_same a b k o h same)))

-- ---- wires that hold

wired : (w : Web) → FedOnce w → Meet w → IsWired w
wired w F M = record {
  fans = λ node outlet i h e. let f = M.fed node outlet i h e in F.lines h.node h.port f.0 (hop_at h.key node outlet) f.1;
  feeds = λ node inlet i h e. F.lines node inlet i h e;
}

lives_by : (o : Option Board) (i k : ℕ) → slice_get (keys_in o) i ≡ Some k → IsSome o
lives_by None i k e = absurd (none-some k e)
lives_by (Some b) i k e = refl

-- ---- an edit that made a box another one

module _ (old new : Patch) (n : Counts) (name path : List ℕ) (number : ℕ) (text : List Atom) (now : ℕ) (k after : Known) (steps steps' : ℕ) (b : RetypedBox)
    (X : RetypesBox old new n name path number text now k after steps steps' b) (Y : HasBecome old new now b.key X.node X.added b.gone.items steps steps') (can : CanPut old) (t : Tree) (R : RunsAs old.grove t)
    (A : StandsAgain (answer_in k.files) name k.names t) (H : HoldsWires old t) where
  abbrev cell : Cell
  cell = Y.can.cell

  -- the patch from which the wires went that don't fit, and the one from which those went that turn, too
  abbrev loose : Patch
  loose = Y.loose

  abbrev free : Patch
  free = mid old new n name path number text now k after steps steps' b X Y

  abbrev new_node : Node
  new_node = is_now old new n name path number text now k after steps steps' b X Y

  abbrev new_text : List Atom
  new_text = written_as old new n name path number text now k after steps steps' b X

  abbrev lib : ℕ → Option Answer
  lib = answer_in X.files.files

  abbrev from : Stock
  from = stock_by X.files.names (without_it old new n name path number text now k after steps steps' b X)

  abbrev last : Stock
  last = (grew_so old new n name path number text now k after steps steps' b X).after

  abbrev there : RetypesBoxAt free.grove new.grove path b.canvas b.key number X.node new_node
  there = box old new n name path number text now k after steps steps' b X Y

  abbrev changes : ChangesBoxAt free.grove new.grove path b.canvas b.key number X.node new_node
  changes = changed_so old new n name path number text now k after steps steps' b X Y

  boxes_same : IsSameButRoom old.grove free.grove
  boxes_same = same_boxes old new n name path number text now k after steps steps' b X Y

  -- ---- the wires that went

  keys_still : (c : ℕ) → keys_at new.grove c ≡ keys_at old.grove c
  keys_still c = keys_stay free.grove new.grove path b.canvas b.key number X.node new_node changes c ∙ keys_same old.grove free.grove boxes_same c

  board_is : X.node.board ≡ b.canvas
  board_is = same_Some X.node.board b.canvas (sym (ap board_in X.chosen.is) ∙ can.runs.own.home b.canvas number b.key X.chosen.at)

  gone_are : b.gone.items ≡ misfits old b.canvas b.key cell.kind
  gone_are = Y.gone_are ∙ ap (λ c. misfits old c b.key cell.kind) board_is

  ports_kept : KeepsPorts old.web loose.web
  ports_kept =
      let a = Y.room.web.kept in
      let c = Y.loosens.web.kept in
      record { ports = λ side j. c.ports side j ∙ a.ports side j; made = λ j. c.made j ∙ a.made j; homes = λ j. c.homes j ∙ a.homes j }

  shed : Sheds old.web loose.web (misfits old b.canvas b.key cell.kind)
  shed = subst (Sheds old.web loose.web) gone_are Y.sheds

  rewires : RewiresAt new.grove old.web loose.web old.numbers.items path b.canvas (without_wires (numbered b.gone.items))
  rewires =
      let g = new.grove in
      let W = wired old.web H.fed H.meet in
      let at : IsThere (keys_at old.grove b.canvas) b.key = (number, X.chosen.at) in
      record {
        lives = lives_by (get g.boards b.canvas) number b.key (ap (λ (ks : List ℕ). slice_get ks number) (keys_still b.canvas) ∙ X.chosen.at);
        once = λ other to. paths_once g Y.goes_on.forest path other g.root b.canvas (sub_leads g g.root b.canvas path leads) to;
        here = subst (λ (ks : List ℕ). wires_among loose.web old.numbers.items ks ≡ without_wires (numbered b.gone.items) (wires_among old.web old.numbers.items ks)) (sym (keys_still b.canvas))
            (subst (λ (ms : List BoxWire). wires_among loose.web old.numbers.items (keys_at old.grove b.canvas) ≡ without_wires (numbered ms) (wires_among old.web old.numbers.items (keys_at old.grove b.canvas))) (sym gone_are)
            (canvas_less old b.canvas b.key cell.kind can.runs H.meet W at loose.web ports_kept shed));
        others = λ c d.
            subst (λ (ks : List ℕ). wires_among loose.web old.numbers.items ks ≡ wires_among old.web old.numbers.items ks) (sym (keys_still c))
            (others_left old b.canvas b.key cell.kind can.runs H.meet W at loose.web ports_kept shed c d);
      }
    where
      leads : sub_reached new.grove (Some new.grove.root) path ≡ Some b.canvas
      leads = sym (sub_from_root free.grove new.grove path b.canvas b.key number X.node new_node changes path) ∙ there.leads

  -- ---- the document

  number_still : (j : ℕ) → number_in new.numbers.items j ≡ number_in old.numbers.items j
  number_still j =
      ap (λ (v : _). number_in v.items j) (Y.back.tightens.rest.numbers ∙ Y.refit.numbers ∙ Y.frees.rest.numbers ∙ Y.loosens.rest.numbers)
      ∙ number_same old.numbers.items Y.ready.numbers.items j Y.room.numbers

  by_old_numbers : present_document new ≡ present_page new.grove loose.web old.numbers.items
  by_old_numbers =
      document_same loose.web new.web old.numbers.items new.numbers.items (λ keys.
      canvas_has loose.web new.web Y.turned new.numbers.items Y.back.restores keys ∙ numbers_among loose.web old.numbers.items new.numbers.items number_still keys)
      new.grove new.grove (λ j. refl) (λ c. refl) refl

  -- the document is that in which no wire went, less these
  less_wired : present_document new ≡ edit_at path (less_wires (numbered b.gone.items)) (present_page new.grove old.web old.numbers.items)
  less_wired =
      let far = long old new n name path number text now k after steps steps' b X can t R A in
      by_old_numbers
      ∙ document_edited new.grove old.web loose.web old.numbers.items path b.canvas (without_wires (numbered b.gone.items)) rewires
      (sym (sub_from_root free.grove new.grove path b.canvas b.key number X.node new_node changes path) ∙ there.leads) (omega (arith, far))

  before : present_page free.grove old.web old.numbers.items ≡ present_document old
  before = document_same old.web old.web old.numbers.items old.numbers.items (λ keys. refl) old.grove free.grove boxes_same.nodes boxes_same.boards boxes_same.root

  -- the document has the element that the edit gives there, with what the new box keeps of it
  pub document_kept : present_document new
      ≡ edit_at path (less_wires (numbered b.gone.items))
      (edit_at path (change_box number (λ e. entry_kept (Some (started (start_of cell.kind old.rate) now)) (retyped new_text e))) (present_document old))
  document_kept =
      less_wired
      ∙ ap (λ (d : Page). edit_at path (less_wires (numbered b.gone.items)) d)
      (text_kept free.grove new.grove path b.canvas b.key number lib name t new_text X.node new_node from last
      (runs_ready old new n name path number text now k after steps steps' b X Y can t R A) (again_then old new n name path number text now k after steps steps' b X can t R A)
      (gives_text old new n name path number text now k after steps steps' b X Y can t R A) old.web old.numbers.items
      ∙ ap (λ s. edit_at path (change_box number (λ e. entry_kept s (retyped new_text e))) (present_page free.grove old.web old.numbers.items)) state_is
      ∙ ap (λ (d : Page). edit_at path (change_box number (λ e. entry_kept (Some (started (start_of cell.kind old.rate) now)) (retyped new_text e))) d) before)
    where
      state_is : new_node.state ≡ Some (started (start_of cell.kind old.rate) now)
      state_is =
          ap (λ s. Some s) Y.fresh ∙ ap (λ (c : Cell). Some (started (start_of c.kind old.rate) now)) (cell_is old new n name path number text now k after steps steps' b X Y)

  pub document_after : KeepsText cell → present_document new
      ≡ edit_at path (less_wires (numbered b.gone.items)) (edit_at path (edited (edit.Retype number new_text)) (present_document old))
  document_after keeps =
      less_wired
      ∙ ap (λ (d : Page). edit_at path (less_wires (numbered b.gone.items)) d)
      (text_document free.grove new.grove path b.canvas b.key number lib name t new_text X.node new_node from last
      (runs_ready old new n name path number text now k after steps steps' b X Y can t R A) (again_then old new n name path number text now k after steps steps' b X can t R A)
      (gives_text old new n name path number text now k after steps steps' b X Y can t R A) old.web old.numbers.items
      (subst KeepsText (sym (cell_is old new n name path number text now k after steps steps' b X Y)) keeps)
      ∙ ap (λ (d : Page). edit_at path (edited (edit.Retype number new_text)) d) before)
