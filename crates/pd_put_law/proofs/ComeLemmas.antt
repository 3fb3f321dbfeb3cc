-- The box that an edit names stands in its canvas, and the tree with it runs and grows again.
use Rattle.std.proofs.Common.{◌≡◌, ◌≢◌, ◌≤◌, ◌+◌, ◌-◌, ℕ, zero, suc, Bool, true, false, max, ◌&&◌, nat_lt, if◌then◌else◌, ◌==◌, List, [], ◌∷◌, ◌++◌, length, Option, Some, None, Result, Ok, Err, IfSome, ◌⊎◌, inl, inr, refl, sym, ap, ◌∙◌, subst, arith, true≢false}
use Rattle.std.specs.Prelude.{filter, option_map}
use mathlib.Core.Logic.{⊎_elim}
use Rattle.std.proofs.lemmas.Bool.Decides.{nat_tests}
use Rattle.std.proofs.lemmas.Option.{none-some, same_Some}
use Rattle.slab.specs.Slab.{get}
use Rattle.pd_atom.specs.declared.Atom.{Atom}
use Rattle.pd_atom.specs.Names.{Names, Extends}
use Rattle.pd_atom.proofs.NameLemmas.{six_names}
use Rattle.pd_object.specs.declared.kinds.Kind.TheVariants as kind
use Rattle.pd_kind.specs.States.{start_of}
use Rattle.pd_kind.specs.Tables.{started}
use Rattle.pd_canvas.specs.declared.edits.Edit.{Edit}
use Rattle.pd_canvas.specs.declared.edits.Edit.TheVariants as edit
use Rattle.pd_canvas.specs.Pages.{Shape, Obj, Msg, Comment, FloatBox, SymbolBox, Sub, Array, Other, Boxes, End, Entry}
use Rattle.pd_canvas.specs.declared.wires.Wire.{Wire}
use Rattle.pd_canvas.specs.Proper.{levels, levels_of, AreReady}
use Rattle.pd_library.specs.Files.{answer_in}
use Rattle.pd_library.specs.declared.answers.Answer.{Answer}
use Rattle.pd_tree.specs.declared.rows.Sheet.{Sheet}
use Rattle.pd_tree.specs.Ports.{fits}
use Rattle.pd_tree.specs.Trees.{Cell, Stand, Trees, Done, Leaf, Holder, Tree, stand_of, document_boxes}
use Rattle.pd_growth.specs.Steps.{Stock, gives}
use Rattle.pd_growth.specs.Growing.{inside_grown}
use Rattle.pd_growth.specs.Growth.{Inner, around_root, box_grown, without_ending}
use Rattle.pd_grove.specs.declared.boards.Board.{Board}
use Rattle.pd_grove.specs.declared.grove.Grove.{Grove}
use Rattle.pd_grove.specs.declared.nodes.Node.{Node}
use Rattle.pd_grove.specs.declared.seeds.Seed.{Seed}
use Rattle.pd_grove.specs.OwnPaths.{sub_reached}
use Rattle.pd_grove.specs.Standing.{BoardSeen, NodeSeen, board_seen, node_seen, with_inner, depth_of, Stands}
use Rattle.pd_grove.specs.States.{IsFresh}
use Rattle.pd_grove.specs.TextOrder.{is_sub}
use Rattle.pd_web.specs.declared.jacks.Jack.{Jack}
use Rattle.pd_web.specs.Canvases.{keys_at, HoldersAreNoPorts}
use Rattle.pd_web.specs.Changes.{wires_told}
use Rattle.pd_patch.specs.declared.patch.Patch.{Patch}
use Rattle.pd_patch.proofs.GrowthLemmas.{grown_box_fits}
use Rattle.pd_fit.specs.Fitting.{wires_inside}
use Rattle.pd_wiring.specs.declared.refusals.EditRefusal.{EditRefusal}
use Rattle.pd_wiring.specs.declared.refusals.EditRefusal.TheVariants.{TextTooLong, TooDeep}
use Rattle.pd_gather.specs.Gather.{Known, known, GoesOn}
use Rattle.pd_gather.proofs.KnownLemmas.{library_of}
use Rattle.pd_boxes.specs.Put.{node_of, keys_before, keys_behind, CanPut, ComesIn}
use Rattle.pd_boxes.specs.Room.{SameButRoom}
use Rattle.pd_subpatches.proofs.PartLemmas.{stands_as_box}
use Rattle.pd_regrowth_law.specs.Canvases.{Nest, Alone, Inside, nested, AreSubpatches, left_outside}
use Rattle.pd_regrowth_law.specs.Regrowth.{inner_of}
use Rattle.pd_regrowth_law.specs.Suits.{AnswersAlike, AreOf, IsEntryOf, TextsOf}
use Rattle.pd_regrowth_law.proofs.ExpandLemmas.{are_of_more}
use Rattle.pd_regrowth_law.proofs.StepLemmas.{extends_on}
use Rattle.pd_reload_law.specs.Reloading.{RunsAs}
use Rattle.pd_saved_law.specs.Fitting.{WiresFit}
use Rattle.pd_inside_law.specs.Inside.{HoldsWires}
use Rattle.pd_putting_law.specs.Again.{StandsAgain}
use Rattle.pd_putting_law.specs.Edits.{TakesElement}
use Rattle.pd_putting_law.specs.Puts.{put_before}
use Rattle.pd_putting_law.specs.Putting.{ComeFresh, IsBare, IsNewBox, element_put}
use Rattle.pd_putting_law.proofs.AgainLemmas.{stands_on}
use Rattle.pd_putting_law.proofs.GrownLemmas.{new_grown, put_bare, come_runs, come_again}
use Rattle.pd_putting_law.proofs.StandLemmas.{path_along}
use Rattle.pd_putting_law.proofs.WithinLemmas.{ChangesWithin, path_within, around_levels}
use Rattle.pd_following.specs.Ports.{port_jack}
use Rattle.pd_adding.specs.declared.counts.Counts.{Counts}
use Rattle.pd_adding.specs.Boxes.{settled_edit, box_put, CanBeWritten}
use Rattle.pd_adding.specs.Coming.{coming_in, coming_by, zero_in, own_zero}
use Rattle.pd_adding.specs.Counts.{stock_by}
use Rattle.pd_adding.specs.Growing.{Added}
use Rattle.pd_adding.specs.Adding.{GrewWith}
use Rattle.pd_adding.proofs.GrowLemmas.{growth_is}
use Rattle.pd_adding.proofs.SingleLemmas.{same_inner}
use Rattle.pd_putting.specs.declared.adding.NewBox.{NewBox}
use Rattle.pd_putting.specs.Adds.{place_at, IsBoxPutAt, IsSubPutAt, IsPortBoxPutAt, IsPartBoxPutAt, HasComeAt, AddsBoxAt}
use Rattle.pd_put_law.proofs.RoomLemmas.{room_runs}
use Rattle.pd_put_law.proofs.WholeLemmas.{ComesWhole, keeps, comes_at}
use Rattle.pd_put_law.proofs.AloneLemmas.{ComesAlone, as_whole, come_fresh, alone_wires, leaf_alone, shell_alone}
use Rattle.pd_put_law.proofs.PartLemmas.{part_stands, part_fresh, part_wires, part_whole}
use Rattle.pd_put_law.proofs.AroundLemmas.{fits_followed, holds_followed}
use Rattle.pd_put_law.proofs.PortLemmas.{port_alone, port_followed}

-- ---- the element of the edit

none_left : (m : ℕ) → box_put (edit.Delete m) ≡ None
none_left zero = refl
none_left (suc m) = refl

put_same : (x : Edit) (b : Entry) → box_put x ≡ Some b → element_put x ≡ Some b
put_same (edit.Obj x y text) b h = h
put_same (edit.Msg x y text) b h = h
put_same (edit.Comment x y text) b h = h
put_same (edit.FloatBox x y text) b h = h
put_same (edit.SymbolBox x y text) b h = h
put_same (edit.Sub x y name) b h = h
put_same (edit.Connect wire) b h = h
put_same (edit.Disconnect wire) b h = h
put_same (edit.Delete m) b h = sym (none_left m) ∙ h
put_same (edit.Retype m text) b h = h
put_same (edit.Move m x y) b h = h

-- a box that may come
pub record MayCome (p : Patch) (path : List ℕ) (o : Option Entry) (canvas : ℕ) (b : Entry) : Type 0 where
  pub is : o ≡ Some b
  pub leads : sub_reached p.grove (Some p.grove.root) path ≡ Some canvas
  pub short : length b.head.text ≤ 1024
  pub low : (is_sub b.head.form && nat_lt 254 (length path)) ≡ false

abbrev is_ok : Result (ℕ × Entry) EditRefusal → Bool
is_ok (Ok x) = true
is_ok (Err e) = false

abbrev what_is : ℕ × Entry → Result (ℕ × Entry) EditRefusal → ℕ × Entry
what_is d (Ok x) = x
what_is d (Err e) = d

never : (e : EditRefusal) (x : ℕ × Entry) → ◌≡◌ {A = Result (ℕ × Entry) EditRefusal} (Err e) (Ok x) → ⊥
never e x h = true≢false (sym (ap is_ok h))

no_longer : (m : ℕ) → nat_lt 1024 m ≡ false → m ≤ 1024
no_longer m h = grind (arith, nat_tests)

module _ (p : Patch) (path : List ℕ) (canvas : ℕ) (b : Entry) where
  may_by : (x : Entry) (c : ℕ) → sub_reached p.grove (Some p.grove.root) path ≡ Some c → (long : Bool) → nat_lt 1024 (length x.head.text) ≡ long → (high : Bool)
      → (is_sub x.head.form && nat_lt 254 (length path)) ≡ high
      → ◌≡◌ {A = Result (ℕ × Entry) EditRefusal} (if long then Err TextTooLong else if high then Err TooDeep else Ok (c, x)) (Ok (canvas, b)) → MayCome p path (Some x) canvas b
  may_by x c at true e high f h = absurd (never _ _ h)
  may_by x c at false e true f h = absurd (never _ _ h)
  may_by x c at false e false f h =
      let same : (c, x) ≡ (canvas, b) = ap (what_is (c, x)) h in
      let entry : x ≡ b = ap (λ (y : ℕ × Entry). y.1) same in
      record {
        is = ap (λ (y : Entry). Some y) entry;
        leads = at ∙ ap (λ (y : ℕ × Entry). Some y.0) same;
        short = subst (λ (y : Entry). length y.head.text ≤ 1024) entry (no_longer (length x.head.text) e);
        low = subst (λ (y : Entry). (is_sub y.head.form && nat_lt 254 (length path)) ≡ false) entry f;
      }

  may_in : (x : Entry) (o : Option ℕ) → sub_reached p.grove (Some p.grove.root) path ≡ o → coming_in (length path) x o ≡ Ok (canvas, b) → MayCome p path (Some x) canvas b
  may_in x None at h = absurd (never _ _ h)
  may_in x (Some c) at h = may_by x c at (nat_lt 1024 (length x.head.text)) refl (is_sub x.head.form && nat_lt 254 (length path)) refl h

  pub may_come : (o : Option Entry) → coming_by p path o ≡ Ok (canvas, b) → MayCome p path o canvas b
  may_come None h = absurd (never _ _ h)
  may_come (Some x) h = may_in x (sub_reached p.grove (Some p.grove.root) path) refl h

not_deep : (depth : ℕ) → nat_lt 254 depth ≡ false → depth ≤ 254
not_deep depth h = grind (arith, nat_tests)

levels_fit : (form : Shape) (boxes : Boxes) (depth : ℕ) → boxes ≡ End → (is_sub form && nat_lt 254 depth) ≡ false → levels_of form (levels boxes) ≤ 255 - depth
levels_fit Sub boxes depth none high =
    let l = ap levels none in
    let d = not_deep depth high in
    omega (arith, l, d)
levels_fit Obj boxes depth none high = omega arith
levels_fit Msg boxes depth none high = omega arith
levels_fit Comment boxes depth none high = omega arith
levels_fit FloatBox boxes depth none high = omega arith
levels_fit SymbolBox boxes depth none high = omega arith
levels_fit (Array values) boxes depth none high = omega arith
levels_fit (Other s) boxes depth none high = omega arith

-- ---- how long the path is

nest_short : (nest : Nest) (u : Tree) → AreSubpatches nest → left_outside nest 0 ≤ levels (document_boxes (nested nest u).boxes)
nest_short Alone u f = omega arith
nest_short (Inside sheet before c nest behind) u f =
    let t = nested nest u in
    step (levels (document_boxes before)) (levels (document_boxes t.boxes)) (levels (document_boxes behind)) (left_outside nest 0)
    (levels (document_boxes (nested (Inside sheet before c nest behind) u).boxes)) (around_levels before behind c t f.0) (nest_short nest u f.1)
  where
    step : (a i b m x : ℕ) → x ≡ max a (max (i + 1) b) → m ≤ i → suc m ≤ x
    step a i b m x e h = omega (arith, e, h)

path_short : (path : List ℕ) (t u : Tree) → ChangesWithin path t u → levels (document_boxes t.boxes) ≤ 255 → length path ≤ 255
path_short path t u w low =
    short (length path) (left_outside w.nest 0) (levels (document_boxes (nested w.nest u).boxes)) (w.deep 0) (nest_short w.nest u w.subpatches)
    (subst (λ (x : Tree). levels (document_boxes x.boxes) ≤ 255) w.whole low)
  where
    short : (l m x : ℕ) → m ≡ l + 0 → m ≤ x → x ≤ 255 → l ≤ 255
    short l m x e h k = omega (arith, e, h, k)

all_in : (l : ℕ) → l ≤ 255 → l + (255 - l) ≡ 255
all_in l h = omega (arith, h)

-- ---- files and names

files_behind : (b : Bool) (o r r2 : Option Answer) (x : Answer) → (r ≡ Some x → r2 ≡ Some x) → (if b then o else r) ≡ Some x → (if b then o else r2) ≡ Some x
files_behind true o r r2 x f h = h
files_behind false o r r2 x f h = f h

files_alike : (old more : List (ℕ × Answer)) → AnswersAlike (answer_in old) (answer_in (old ++ more))
files_alike [] more s x h = absurd (none-some x h)
files_alike (e ∷ old) more s x h = files_behind (e.0 == s) (Some e.1) (answer_in old s) (answer_in (old ++ more) s) x (files_alike old more s x) h

pub goes_alike : (old new : List (ℕ × Answer)) → GoesOn old new → AnswersAlike (answer_in old) (answer_in new)
goes_alike old new g = subst (λ (l : List (ℕ × Answer)). AnswersAlike (answer_in old) (answer_in l)) (sym g.is) (files_alike old g.more)

ready_of : (names : Names) (text : List Atom) → AreReady names text → AreOf names text
ready_of names [] h = tt
ready_of names (a ∷ text) h = (h.0.0, ready_of names text h.1)

zero_seen : (o : Option Board) (y : BoardSeen) → option_map board_seen o ≡ Some y → zero_in o ≡ y.sheet.zero
zero_seen None y h = absurd (none-some y h)
zero_seen (Some b) y h = ap (λ (x : BoardSeen). x.sheet.zero) (same_Some (board_seen b) y h)

if_some : {X : Type 0} (P : X → Type 0) (o : Option X) (x : X) → o ≡ Some x → IfSome o P → P x
if_some P None x e h = absurd (none-some x e)
if_some P (Some y) x e h = subst P (same_Some y x e) h

-- ---- the box that came

-- The boxes and their numbers stay, and wires that hold and fit do so still.
pub record StaysWired (p q : Patch) : Type 0 where
  pub grove : q.grove ≡ p.grove
  pub holds : (t : Tree) → HoldsWires p t → HoldsWires q t
  pub fits : WiresFit p → WiresFit q

all_stays : (p : Patch) → StaysWired p p
all_stays p = record { grove = refl; holds = λ t h. h; fits = λ f. f }

-- What came in, by this node, is a box of a cell: one without a canvas, or one that holds one. Room was set aside for it; and the box around
-- may have got a port after that.
pub record HasComeIn (old new : Patch) (number now : ℕ) (a : Added) (path : List ℕ) (key : ℕ) : Type 0 where
  pub ready : Patch
  pub room : SameButRoom old ready
  pub done : Patch
  pub whole : ComesWhole ready done path a.canvas key number
  pub around : StaysWired done new
  pub wires : wires_told new.web ≡ wires_told ready.web + wires_inside a.boxes
  pub fresh : ComeFresh old.rate now (get ready.grove.nodes) (get done.grove.nodes)
  pub node : Node
  pub is : get done.grove.nodes key ≡ Some node
  pub state : node.state ≡ Some (started (start_of node.kind old.rate) now)
  pub stands : Stands (get done.grove.nodes) (get done.grove.boards) a.canvas (depth_of (get ready.grove.boards a.canvas)) (key ∷ []) a.boxes
  pub cell : Cell
  pub is_cell : (node_seen node).cell ≡ cell
  pub sort : (a.boxes ≡ Leaf cell Done) ⊎ (cell.kind ≡ kind.Canvas)

-- no wire of a canvas without boxes fits
none_fit : (ws : List Wire) → length (filter (fits []) ws) ≡ 0
none_fit [] = refl
none_fit (w ∷ ws) = none_fit ws

-- as many wires where none came
none_more : (n m i : ℕ) → n ≡ m → i ≡ 0 → n ≡ m + i
none_more n m i e z = omega (arith, e, z)

-- the node of a box that is seen
record NodeHere (o : Option Node) (c : Cell) : Type 0 where
  node : Node
  is : o ≡ Some node
  same : (node_seen node).cell ≡ c

node_here : (o : Option Node) (x : NodeSeen) → option_map node_seen o ≡ Some x → NodeHere o x.cell
node_here None x h = absurd (none-some x h)
node_here (Some n) x h = record { node = n; is = refl; same = ap (λ (y : NodeSeen). y.cell) (same_Some (node_seen n) x h) }

module _ (old new : Patch) (number now : ℕ) (a : Added) (path : List ℕ) (key : ℕ) (can : CanPut old) (leads : sub_reached old.grove (Some old.grove.root) path ≡ Some a.canvas)
    (within : number ≤ length (keys_at old.grove a.canvas)) where
  -- a box without a canvas
  leaf_by : (ready done : Patch) (seed : Seed) (cell : Cell) → SameButRoom old ready → a.boxes ≡ Leaf cell Done → stand_of seed.row ≡ record { cell = cell; sheet = None; boxes = 0 }
      → IsFresh old.rate now seed → ComesIn ready done a.known.names (place_at a.canvas number) seed key → ComesAlone ready done path a.canvas key number → StaysWired done new
      → wires_told new.web ≡ wires_told ready.web → HasComeIn old new number now a path key
  leaf_by ready done seed cell room single is_row fresh comes alone around wires =
      let n : Node = node_of a.canvas seed in
      let is : get done.grove.nodes key ≡ Some n = comes.grove.is in
      let same : (node_seen n).cell ≡ cell = ap (λ (x : Stand). x.cell) is_row in
      record {
        ready = ready;
        room = room;
        done = done;
        whole = as_whole ready done path a.canvas key number alone;
        around = around;
        wires = none_more (wires_told new.web) (wires_told ready.web) (wires_inside a.boxes) wires (ap wires_inside single);
        fresh = come_fresh ready done path a.canvas key number alone old.rate now n is (ap (λ x. Some x) fresh);
        node = n;
        is = is;
        state = ap (λ x. Some x) fresh;
        stands = subst (Stands (get done.grove.nodes) (get done.grove.boards) a.canvas (depth_of (get ready.grove.boards a.canvas)) (key ∷ [])) (sym single)
            (ap (option_map node_seen) is ∙ ap (λ (x : Cell). Some (record { board = a.canvas; cell = x; inner = None })) same, tt);
        cell = cell;
        is_cell = same;
        sort = inl single;
      }

  leaf_in : IsBoxPutAt old new number now a key → HasComeIn old new number now a path key
  leaf_in P =
      let C = leaf_alone old P.ready new a.known.names path a.canvas key number P.seed P.room can P.goes_on.forest P.goes_on.runs.numbers leads within P.put.comes in
      leaf_by P.ready new P.seed P.plain.cell P.room P.plain.single P.is_row P.fresh P.put.comes C (all_stays new) (alone_wires P.ready new path a.canvas key number C)

  port_in : IsPortBoxPutAt old new number now a key → HasComeIn old new number now a path key
  port_in P =
      let done : Patch = P.put.ready in
      let jack : Jack = port_jack P.port.side P.seed.row.kind key in
      let F = port_followed old new number now a path key can leads within P in
      let around : StaysWired done new = record {
        grove = F.grove;
        holds = holds_followed done new P.port.holder P.port.side P.put.number jack F;
        fits = fits_followed done new P.port.holder P.port.side P.put.number jack F;
      } in
      leaf_by P.ready done P.seed P.port.cell P.room P.port.single P.is_row P.fresh P.put.comes (port_alone old new number now a path key can leads within P) around P.put.wires

  sub_in_it : IsSubPutAt old new number now a key → HasComeIn old new number now a path key
  sub_in_it P =
      let G = P.put.comes.grove in
      let n : Node = with_inner P.put.comes.canvas (node_of a.canvas P.seed) in
      let same : (node_seen n).cell ≡ P.sub.cell = ap (λ (x : Stand). x.cell) P.is_row in
      let sheet : P.put.comes.board.sheet ≡ P.sub.sheet =
      same_Some P.put.comes.board.sheet P.sub.sheet (sym P.put.comes.sheet ∙ ap (λ (x : Stand). x.sheet) P.is_row) in
      let boxes : Holder (stand_of P.seed.row).cell P.put.comes.board.sheet Done Done ≡ a.boxes =
      ap (λ (x : Cell). Holder x P.put.comes.board.sheet Done Done) same ∙ ap (λ (s : Sheet). Holder P.sub.cell s Done Done) sheet ∙ sym P.sub.single in
      let C = shell_alone old P.ready new a.known.names path a.canvas key number P.seed P.room can P.goes_on.forest P.goes_on.runs.numbers leads within P.put in
      let none : wires_inside a.boxes ≡ 0 = (let e = ap wires_inside P.sub.single in let z = none_fit P.sub.sheet.wires in omega (arith, e, z)) in
      record {
        ready = P.ready;
        room = P.room;
        done = new;
        whole = as_whole P.ready new path a.canvas key number C;
        around = all_stays new;
        wires = none_more (wires_told new.web) (wires_told P.ready.web) (wires_inside a.boxes) (alone_wires P.ready new path a.canvas key number C) none;
        fresh = come_fresh P.ready new path a.canvas key number C old.rate now n G.canvas.is (ap (λ x. Some x) P.fresh);
        node = n;
        is = G.canvas.is;
        state = ap (λ x. Some x) P.fresh;
        stands = subst (Stands (get new.grove.nodes) (get new.grove.boards) a.canvas (depth_of (get P.ready.grove.boards a.canvas)) (key ∷ [])) boxes
            (stands_as_box (get P.ready.grove.nodes) (get new.grove.nodes) (get P.ready.grove.boards) (get new.grove.boards) P.ready.grove.root a.canvas key P.put.comes.canvas P.seed
            P.put.comes.board (keys_before P.ready (place_at a.canvas number)) (keys_behind P.ready (place_at a.canvas number)) G);
        cell = P.sub.cell;
        is_cell = same;
        sort = inr P.sub.canvas;
      }

  part_in : IsPartBoxPutAt old new number now a key → IsNewBox a.boxes → HoldersAreNoPorts a.boxes → HasComeIn old new number now a path key
  part_in P is_new bare =
      let S = part_stands old new number now a path key can leads within P is_new bare in
      let H : Stands (get new.grove.nodes) (get new.grove.boards) a.canvas (depth_of (get P.ready.grove.boards a.canvas)) (key ∷ []) (Holder P.holder.cell P.holder.sheet P.holder.inner Done) =
      subst (Stands (get new.grove.nodes) (get new.grove.boards) a.canvas (depth_of (get P.ready.grove.boards a.canvas)) (key ∷ [])) P.holder.single S in
      let N : NodeHere (get new.grove.nodes key) P.holder.cell = node_here (get new.grove.nodes key) _ H.2 in
      let W = part_whole old new number now a path key can leads within P is_new bare in
      let F = part_fresh old new number now a path key can leads within P is_new bare in
      record {
        ready = P.ready;
        room = P.room;
        done = new;
        whole = W;
        around = all_stays new;
        wires = part_wires old new number now a path key can leads within P is_new bare;
        fresh = F;
        node = N.node;
        is = N.is;
        state = F key N.node W.part.vacant N.is;
        stands = S;
        cell = P.holder.cell;
        is_cell = N.same;
        sort = inr P.holder.canvas;
      }

  pub come_in : HasComeAt old new number now a key → IsNewBox a.boxes → HoldersAreNoPorts a.boxes → HasComeIn old new number now a path key
  come_in put is_new bare = ⊎_elim leaf_in
      (λ (other : IsSubPutAt old new number now a key ⊎ (IsPortBoxPutAt old new number now a key ⊎ IsPartBoxPutAt old new number now a key)). ⊎_elim sub_in_it
      (λ (more : IsPortBoxPutAt old new number now a key ⊎ IsPartBoxPutAt old new number now a key). ⊎_elim port_in
      (λ (P : IsPartBoxPutAt old new number now a key). part_in P is_new bare) more) other) put

-- ---- a box that an edit names

module _ (old new : Patch) (number : ℕ) (n : Counts) (name path : List ℕ) (now : ℕ) (e : Edit) (k after : Known) (b : NewBox)
    (X : AddsBoxAt old new number n name path now e k after b) where
  abbrev pub box : Trees
  box = X.added.boxes

  -- what was known when it grew
  abbrev pub files : Known
  files = X.files

  abbrev pub grew_so : GrewWith old n name path e k files X.added
  grew_so = X.grew

  abbrev pub element : Entry
  element = grew_so.entry

  pub six : 6 ≤ length k.names
  six = six_names k.names X.table

  pub goes_on : Extends k.names after.names
  goes_on =
      subst (λ (x : Known). Extends k.names x.names) (sym (X.known_is ∙ grew_so.known_is)) (extends_on k.names files.names grew_so.after.names grew_so.extends grew_so.onward)

  pub may : MayCome old path (box_put (settled_edit k.names e)) X.added.canvas element
  may = may_come old path X.added.canvas element (box_put (settled_edit k.names e)) grew_so.comes

  pub puts : element_put (settled_edit k.names e) ≡ Some element
  puts = put_same (settled_edit k.names e) element may.is

  pub bare : IsBare element
  bare = put_bare (settled_edit k.names e) element puts

  pub written : CanBeWritten k.names element
  written = if_some (CanBeWritten k.names) (box_put (settled_edit k.names e)) element may.is X.written

  pub known_names : after.names ≡ grew_so.after.names
  known_names = ap (λ (x : Known). x.names) (X.known_is ∙ grew_so.known_is)

  pub known_files : after.files ≡ files.files
  known_files = ap (λ (x : Known). x.files) (X.known_is ∙ grew_so.known_is)

  pub low : levels_of element.head.form (levels element.page.boxes) ≤ 255 - length path
  low = levels_fit element.head.form element.page.boxes (length path) bare.boxes may.low

  -- it grew in its canvas
  own_grew : box_grown (answer_in files.files) (without_ending name) (255 - length path) (inside_grown (answer_in files.files) (without_ending name) (255 - length path)) (around_root (own_zero old)) element
      (stock_by files.names n) ≡ gives box grew_so.after
  own_grew = sym (growth_is (own_zero old) n name (255 - length path) element files) ∙ grew_so.grew

  own_regrew : box_grown (answer_in files.files) (without_ending name) (255 - length path) (inner_of (answer_in files.files) (without_ending name) (255 - length path)) (around_root (own_zero old)) element
      (stock_by files.names n) ≡ gives box grew_so.after
  own_regrew =
      ap (λ (inner : Inner). box_grown (answer_in files.files) (without_ending name) (255 - length path) inner (around_root (own_zero old)) element (stock_by files.names n))
      (sym (same_inner (answer_in files.files) (without_ending name) (255 - length path)))
      ∙ own_grew

  is_new : IsNewBox box
  is_new =
      new_grown (answer_in files.files) (without_ending name) (255 - length path) (around_root (own_zero old)) element (stock_by files.names n) grew_so.after box bare own_regrew

  no_ports : HoldersAreNoPorts box
  no_ports =
      (grown_box_fits (answer_in files.files) (without_ending name) (255 - length path) (around_root (own_zero old)) element (stock_by files.names n) grew_so.after box own_grew).1

  pub came : CanPut old → HasComeIn old new number now X.added path b.key
  came can = come_in old new number now X.added path b.key can may.leads X.within X.put is_new no_ports

  module _ (can : CanPut old) (t : Tree) (R : RunsAs old.grove t) (A : StandsAgain (answer_in k.files) name k.names t) where
    abbrev in_it : HasComeIn old new number now X.added path b.key
    in_it = came can

    abbrev ready : Patch
    ready = in_it.ready

    abbrev done : Patch
    done = in_it.done

    abbrev lib : ℕ → Option Answer
    lib = answer_in files.files

    abbrev left : ℕ
    left = 255 - length path

    runs_ready : RunsAs ready.grove t
    runs_ready = room_runs old.grove ready.grove in_it.room.grove t R

    again_then : StandsAgain lib name files.names t
    again_then =
        stands_on (answer_in k.files) lib name k.names files.names t A (goes_alike k.files files.files grew_so.behind) grew_so.extends
        (library_of files.names files.files grew_so.found)

    long : length path ≤ 255
    long =
        let at = path_along old.grove path X.added.canvas t can.forest R.stands may.leads in
        path_short path t at.0 (path_within path t at.0 at.1) A.shallow

    own : own_zero old ≡ t.sheet.zero
    own = zero_seen (get old.grove.boards old.grove.root) _ R.stands.root

    pub grew : box_grown lib (without_ending name) left (inner_of lib (without_ending name) left) (around_root t.sheet.zero) element (stock_by files.names n) ≡ gives box grew_so.after
    grew =
        ap (λ (z : ℕ). box_grown lib (without_ending name) left (inner_of lib (without_ending name) left) (around_root z) element (stock_by files.names n)) (sym own)
        ∙ own_regrew

    entry_of : IsEntryOf files.names element
    entry_of = record {
      text = are_of_more k.names files.names grew_so.extends element.head.text (ready_of k.names element.head.text written.text);
      inner = subst (TextsOf files.names) (sym bare.boxes) tt;
    }

    abbrev stock_then : Stock
    stock_then = stock_by files.names n

    pub takes : TakesElement ready.grove done.grove ready.web done.web ready.numbers.items done.numbers.items path X.added.canvas b.key number lib name t element
        stock_then grew_so.after box
    takes = record {
      bare = bare;
      names = entry_of;
      left = left;
      deep = all_in (length path) long;
      room = low;
      grew = grew;
      box = comes_at ready done path X.added.canvas b.key number in_it.whole;
      stands = in_it.stands;
      rate = old.rate;
      now = now;
      fresh = in_it.fresh;
      wires = keeps ready done path X.added.canvas b.key number in_it.whole;
    }

    pub box_runs : RunsAs new.grove (put_before path number box t)
    box_runs =
        subst (λ (g : Grove). RunsAs g (put_before path number box t)) (sym in_it.around.grove)
        (come_runs ready.grove done.grove ready.web done.web ready.numbers.items done.numbers.items path X.added.canvas b.key number lib name t element
        stock_then grew_so.after box runs_ready again_then takes)

    pub box_again : StandsAgain (answer_in after.files) name after.names (put_before path number box t)
    box_again =
        subst (λ (fs : List (ℕ × Answer)). StandsAgain (answer_in fs) name after.names (put_before path number box t)) (sym known_files)
        (subst (λ (ns : Names). StandsAgain lib name ns (put_before path number box t)) (sym known_names)
        (come_again ready.grove done.grove ready.web done.web ready.numbers.items done.numbers.items path X.added.canvas b.key number lib name t element
        stock_then grew_so.after box runs_ready again_then takes))
