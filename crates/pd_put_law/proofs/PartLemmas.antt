-- A box that an edit names comes with all that lies in it into its canvas, and as many wires come as fit in it.
use Rattle.std.proofs.Common.{◌≡◌, ◌<◌, ◌≤◌, ◌+◌, ℕ, zero, suc, Bool, true, false, cond, List, [], ◌∷◌, ◌++◌, length, length-append, append-nil, slice_get, Option, Some, None, IsSome, IsTrue, nat_eq, inl, inr, eqb-true, true≢false, refl, sym, ap, ◌∙◌, subst, arith}
use Rattle.std.specs.Prelude.{◌⊎◌, option_map}
use Rattle.std.specs.List.{AllByRecursion}
use Rattle.std.proofs.lemmas.Bool.{or_cases, false≢true}
use Rattle.std.proofs.lemmas.List.{length-map}
use Rattle.std.proofs.lemmas.List.Concat.{flat_map-append}
use Rattle.std.proofs.lemmas.Option.{none-some, same_Some}
use mathlib.Core.Logic.{⊎_elim}
use Rattle.slab.specs.Slab.{get}
use Rattle.pd_clock.specs.declared.times.Rate.{Rate}
use Rattle.pd_object.specs.declared.kinds.Kind.{Kind}
use Rattle.pd_kind.specs.States.{start_of}
use Rattle.pd_kind.specs.Tables.{started}
use Rattle.pd_canvas.specs.Pages.{Shape, Sub}
use Rattle.pd_tree.specs.declared.rows.Sheet.{Sheet}
use Rattle.pd_tree.specs.Ports.{trimmed_sheet}
use Rattle.pd_tree.specs.Trees.{Trees, Done, Leaf, Holder, Tree, width}
use Rattle.pd_fit.specs.Fitting.{wires_inside}
use Rattle.pd_grove.specs.declared.boards.Board.{Board}
use Rattle.pd_grove.specs.declared.grove.Grove.{Grove}
use Rattle.pd_grove.specs.declared.nodes.Node.{Node}
use Rattle.pd_grove.specs.declared.seeds.Seed.{Seed}
use Rattle.pd_grove.specs.Forest.{holder_in}
use Rattle.pd_grove.specs.OwnPaths.{sub_in, sub_reached}
use Rattle.pd_grove.specs.Places.{CanvasStands}
use Rattle.pd_grove.specs.Planting.{IsMadeOf, Uses}
use Rattle.pd_grove.specs.Standing.{BoardSeen, NodeSeen, board_seen, node_seen, depth_of, Stands}
use Rattle.pd_grove.specs.States.{AreFresh, IsFresh}
use Rattle.pd_grove.specs.Telling.{inner_in, keys_in}
use Rattle.pd_grove.specs.TextOrder.{deep, is_sub, keys_standing}
use Rattle.pd_grove.proofs.ForestLemmas.{stands_once}
use Rattle.pd_grove.proofs.UseLemmas.{none_or_some, not_both}
use Rattle.pd_owning.specs.Bound.{is_among}
use Rattle.pd_web.specs.declared.lines.Line.{Line}
use Rattle.pd_web.specs.Canvases.{keys_at, fitting, HoldersAreNoPorts}
use Rattle.pd_web.specs.Changes.{wires_told}
use Rattle.pd_web.specs.Lines.{line_of, lines_at}
use Rattle.pd_web.proofs.TreeFits.{trimmed_is}
use Rattle.pd_patch.specs.declared.patch.Patch.{Patch}
use Rattle.pd_boxes.specs.Put.{CanPut, keys_before, keys_behind}
use Rattle.pd_instances.specs.Part.{lines_held, lines_inside, lines_of}
use Rattle.pd_instances.proofs.PartLemmas.{came_inside}
use Rattle.pd_instances.proofs.TellLemmas.{part_keys}
use Rattle.pd_reload_law.proofs.SortedLemmas.{all_append}
use Rattle.pd_putting_law.specs.Putting.{ComeFresh, IsNewBox, IsNewHolder}
use Rattle.pd_putting_law.proofs.StandLemmas.{seen_inner}
use Rattle.pd_adding.specs.Growing.{Added}
use Rattle.pd_putting.specs.Adds.{place_at, IsPartBoxPutAt}
use Rattle.pd_put_law.proofs.AloneLemmas.{can_room, leads_room, within_room}
use Rattle.pd_put_law.proofs.WholeLemmas.{ComesWhole}

-- ---- keys

-- what holds of all keys holds of each
each_key : (P : ℕ → Type 0) (ks : List ℕ) (x : ℕ) → AllByRecursion P ks → IsTrue (is_among ks x) → P x
each_key P [] x A t = absurd (false≢true t)
each_key P (k ∷ ks) x A t = by (or_cases (nat_eq x k) (is_among ks x) t) (λ r. each_key P ks x A.1 r)
  where
    by : (nat_eq x k ≡ true) ⊎ (is_among ks x ≡ true) → (IsTrue (is_among ks x) → P x) → P x
    by (inl e) f = subst P (sym (eqb-true x k e)) A.0
    by (inr r) f = f r

-- ---- canvases of a tree that stands

module _ (g : Grove) where
  -- in the canvas that a box holds no box that holds a canvas is a port
  abbrev HoldsBare : ℕ → Type 0
  HoldsBare k = (d : ℕ) (u : Tree) → inner_in (get g.nodes k) ≡ Some d → CanvasStands g d u → HoldersAreNoPorts u.boxes

  -- one tree stands in a canvas
  bare_here : (j d : ℕ) (holder : Option ℕ) (s : Sheet) (js : List ℕ) (inner : Trees) → option_map board_seen (get g.boards j) ≡ Some (record { holder = holder; depth = d; sheet = s; keys = js })
      → Stands (get g.nodes) (get g.boards) j d js inner → HoldersAreNoPorts inner → (u : Tree) → CanvasStands g j u → HoldersAreNoPorts u.boxes
  bare_here j d holder s js inner board S H u U =
      let same : ◌≡◌ {A = BoardSeen} (record { holder = U.holder; depth = U.depth; sheet = u.sheet; keys = U.keys }) (record { holder = holder; depth = d; sheet = s; keys = js }) =
      same_Some _ _ (sym U.board ∙ board) in
      let stands : Stands (get g.nodes) (get g.boards) j d js u.boxes =
      subst (λ (n : ℕ). Stands (get g.nodes) (get g.boards) j n js u.boxes) (ap (λ (x : BoardSeen). x.depth) same)
      (subst (λ (ks : List ℕ). Stands (get g.nodes) (get g.boards) j U.depth ks u.boxes) (ap (λ (x : BoardSeen). x.keys) same) U.stands) in
      subst HoldersAreNoPorts (stands_once (get g.nodes) (get g.boards) j d js inner u.boxes S stands) H

  all_bare : (b d : ℕ) (ks : List ℕ) (t : Trees) → (S : Stands (get g.nodes) (get g.boards) b d ks t) → HoldersAreNoPorts t
      → AllByRecursion HoldsBare (keys_standing (get g.nodes) (get g.boards) b d ks t S)
  all_bare b d [] Done S H = tt
  all_bare b d (k ∷ ks) Done S H = absurd S
  all_bare b d [] (Leaf c rest) S H = absurd S
  all_bare b d (k ∷ ks) (Leaf c rest) S H =
      (λ x u e U. absurd (none-some x (sym (seen_inner (get g.nodes k) _ S.0) ∙ e)), all_bare b d ks rest S.1 H)
  all_bare b d [] (Holder c s inner rest) S H = absurd S
  all_bare b d (k ∷ ks) (Holder c s inner rest) S H = (
    λ x u e U.
        bare_here S.0 (d + 1) (Some k) s S.1 inner S.3 S.4 H.2 u
        (subst (λ (y : ℕ). CanvasStands g y u) (same_Some x S.0 (sym e ∙ seen_inner (get g.nodes k) _ S.2)) U),
    all_append HoldsBare (keys_standing (get g.nodes) (get g.boards) S.0 (d + 1) S.1 inner S.4) (keys_standing (get g.nodes) (get g.boards) b d ks rest S.5)
        (all_bare S.0 (d + 1) S.1 inner S.4 H.2) (all_bare b d ks rest S.5 H.3),
  )

  lines_many : (d : ℕ) (u : Tree) → CanvasStands g d u → HoldersAreNoPorts u.boxes → length (lines_at g d) ≡ length (trimmed_sheet u.boxes u.sheet).wires
  lines_many d u U H = length-map (fitting g d) (line_of (keys_at g d)) ∙ ap (λ ws. length ws) (trimmed_is g d u U H)

  -- as many wires lie in the canvases of a tree as fit in it
  all_lines : (b d : ℕ) (ks : List ℕ) (t : Trees) → (S : Stands (get g.nodes) (get g.boards) b d ks t) → HoldersAreNoPorts t
      → length (lines_of g (keys_standing (get g.nodes) (get g.boards) b d ks t S)) ≡ wires_inside t
  all_lines b d [] Done S H = refl
  all_lines b d (k ∷ ks) Done S H = absurd S
  all_lines b d [] (Leaf c rest) S H = absurd S
  all_lines b d (k ∷ ks) (Leaf c rest) S H =
      ap (λ (o : Option ℕ). length (lines_held g o ++ lines_of g (keys_standing (get g.nodes) (get g.boards) b d ks rest S.1))) (seen_inner (get g.nodes k) _ S.0)
      ∙ all_lines b d ks rest S.1 H
  all_lines b d [] (Holder c s inner rest) S H = absurd S
  all_lines b d (k ∷ ks) (Holder c s inner rest) S H =
      let u : Tree = record { sheet = s; boxes = inner } in
      let xs = keys_standing (get g.nodes) (get g.boards) S.0 (d + 1) S.1 inner S.4 in
      let ys = keys_standing (get g.nodes) (get g.boards) b d ks rest S.5 in
      let own : length (lines_inside g k) ≡ length (trimmed_sheet inner s).wires =
      ap (λ (o : Option ℕ). length (lines_held g o)) (seen_inner (get g.nodes k) _ S.2)
      ∙ lines_many S.0 u (record { holder = Some k; depth = d + 1; keys = S.1; board = S.3; stands = S.4 }) H.2 in
      sum (length (lines_inside g k ++ lines_of g (xs ++ ys))) (length (lines_inside g k)) (length (lines_of g (xs ++ ys))) (length (lines_of g xs)) (length (lines_of g ys))
      (length (trimmed_sheet inner s).wires) (wires_inside inner) (wires_inside rest) (length-append (lines_inside g k) (lines_of g (xs ++ ys)))
      (ap (λ (ls : List Line). length ls) (flat_map-append (lines_inside g) xs ys) ∙ length-append (lines_of g xs) (lines_of g ys)) own
      (all_lines S.0 (d + 1) S.1 inner S.4 H.2) (all_lines b d ks rest S.5 H.3)
    where
      sum : (all a m x y t i r : ℕ) → all ≡ a + m → m ≡ x + y → a ≡ t → x ≡ i → y ≡ r → all ≡ t + (i + r)
      sum all a m x y t i r e f h k l = omega (arith, e, f, h, k, l)

-- ---- what boxes keep at first

fresh_seed : (rate : Rate) (now : ℕ) (seeds : List Seed) (i : ℕ) (s : Seed) → AreFresh rate now seeds → slice_get seeds i ≡ Some s → IsFresh rate now s
fresh_seed rate now [] i s A at = absurd (none-some s at)
fresh_seed rate now (x ∷ seeds) zero s A at = subst (IsFresh rate now) (same_Some x s at) A.0
fresh_seed rate now (x ∷ seeds) (suc i) s A at = fresh_seed rate now seeds i s A.1 at

made_fresh : (rate : Rate) (now : ℕ) (s : Seed) (o : Option Node) (n : Node) → IsFresh rate now s → IsMadeOf s o → o ≡ Some n → n.state ≡ Some (started (start_of n.kind rate) now)
made_fresh rate now s None n f m e = absurd m
made_fresh rate now s (Some x) n f m e =
    subst (λ (y : Node). y.state ≡ Some (started (start_of y.kind rate) now)) (same_Some x n e)
    (m.4 ∙ ap (λ v. Some v) f ∙ ap (λ (k : Kind). Some (started (start_of k rate) now)) (sym m.2))

some_is : {X : Type 0} (o : Option X) (x : X) → o ≡ Some x → IsSome o
some_is o x e = subst (λ y. IsSome y) (sym e) refl

pub uses_fresh : (rate : Rate) (now : ℕ) (nodes nodes' : ℕ → Option Node) (seeds : List Seed) → Uses nodes nodes' seeds [] → AreFresh rate now seeds → ComeFresh rate now nodes nodes'
uses_fresh rate now nodes nodes' seeds U A k n none is =
    let m = U.made k none (some_is (nodes' k) n is) in
    made_fresh rate now m.0 (nodes' k) n (fresh_seed rate now seeds m.1 m.0 A (ap (λ (xs : List Seed). slice_get xs m.1) (U.split ∙ append-nil U.used) ∙ m.2)) m.3 is

-- ---- the box itself

depth_by : (o o' : Option Board) → option_map board_seen o' ≡ option_map board_seen o → depth_of o' ≡ depth_of o
depth_by o o' e = sym (told o') ∙ ap seen_depth e ∙ told o
  where
    seen_depth : Option BoardSeen → ℕ
    seen_depth None = 0
    seen_depth (Some b) = b.depth

    told : (x : Option Board) → seen_depth (option_map board_seen x) ≡ depth_of x
    told None = refl
    told (Some b) = refl

-- a box that holds a subpatch has its form
sub_form : (o : Option Node) (x : NodeSeen) (d : ℕ) → option_map node_seen o ≡ Some x → sub_in o ≡ Some d → (is_sub x.cell.head.form ≡ true) × (x.inner ≡ Some d)
sub_form None x d seen h = absurd (none-some d h)
sub_form (Some n) x d seen h =
    let same : node_seen n ≡ x = same_Some (node_seen n) x seen in
    by (is_sub x.cell.head.form) x.inner
    (ap (λ (y : NodeSeen). cond (is_sub y.cell.head.form) y.inner None) (sym same) ∙ h)
  where
    by : (b : Bool) (i : Option ℕ) → cond b i None ≡ Some d → (b ≡ true) × (i ≡ Some d)
    by true i e = (refl, e)
    by false i e = absurd (none-some d e)

new_empty : (f : Shape) (s : Sheet) (inner : Trees) → IsNewHolder f s inner → is_sub f ≡ true → inner ≡ Done
new_empty Sub s inner h e = h.1
new_empty f s inner h e = absurd (true≢false (sym e))

empty_keys : (nodes : ℕ → Option Node) (boards : ℕ → Option Board) (b d : ℕ) (ks : List ℕ) (t : Trees) → Stands nodes boards b d ks t → t ≡ Done → ks ≡ []
empty_keys nodes boards b d ks t S e = by ks (subst (Stands nodes boards b d ks) e S)
  where
    by : (js : List ℕ) → Stands nodes boards b d js Done → js ≡ []
    by [] s = refl
    by (k ∷ js) s = absurd s

seen_keys : (o : Option Board) (x : BoardSeen) → option_map board_seen o ≡ Some x → keys_in o ≡ x.keys
seen_keys None x h = absurd (none-some x h)
seen_keys (Some b) x h = ap (λ (y : BoardSeen). y.keys) (same_Some (board_seen b) x h)

module _ (old new : Patch) (number now : ℕ) (a : Added) (path : List ℕ) (key : ℕ) (can : CanPut old) (leads : sub_reached old.grove (Some old.grove.root) path ≡ Some a.canvas)
    (within : number ≤ length (keys_at old.grove a.canvas)) (P : IsPartBoxPutAt old new number now a key) (is_new : IsNewBox a.boxes) (bare : HoldersAreNoPorts a.boxes) where
  abbrev mid : Patch
  mid = P.ready

  abbrev c : ℕ
  c = a.canvas

  abbrev part : List ℕ
  part = P.put.part

  abbrev nodes : ℕ → Option Node
  nodes = get new.grove.nodes

  abbrev boards : ℕ → Option Board
  boards = get new.grove.boards

  can_mid : CanPut mid
  can_mid = can_room old mid new a.known.names path c key number P.seed P.room can P.goes_on.forest P.goes_on.runs.numbers leads within

  pub part_stands : Stands nodes boards c (depth_of (get mid.grove.boards c)) (key ∷ []) a.boxes
  part_stands = P.put.stands a.boxes P.are_rows (ap width P.holder.single)

  stands_now : Stands nodes boards c (depth_of (boards c)) (key ∷ []) a.boxes
  stands_now = subst (λ (d : ℕ). Stands nodes boards c d (key ∷ []) a.boxes) (sym P.put.grove.depth) part_stands

  low : depth_of (boards c) + deep a.boxes < 257
  low = subst (λ (d : ℕ). d + deep a.boxes < 257) (sym (P.put.grove.depth ∙ depth_by (get old.grove.boards c) (get mid.grove.boards c) (P.room.grove.boards c))) P.holder.shallow

  keys : part ≡ keys_standing nodes boards c (depth_of (boards c)) (key ∷ []) a.boxes stands_now
  keys = P.put.in_order ∙ part_keys new.grove c key a.boxes stands_now P.put.grove.lies low true

  pub part_fresh : ComeFresh old.rate now (get mid.grove.nodes) nodes
  part_fresh = uses_fresh old.rate now (get mid.grove.nodes) nodes (P.seed ∷ P.seeds) P.put.uses P.fresh

  pub part_wires : wires_told new.web ≡ wires_told mid.web + wires_inside a.boxes
  part_wires =
      P.put.wires.count
      ∙ ap (λ (n : ℕ). wires_told mid.web + n)
      (ap (λ (ks : List ℕ). length (lines_of new.grove ks)) keys ∙ all_lines new.grove c (depth_of (boards c)) (key ∷ []) a.boxes stands_now bare)

  -- a box that was there is none of these
  was_out : (k : ℕ) → IsSome (get mid.grove.nodes k) → is_among part k ≡ false
  was_out k live = by (is_among part k) refl
    where
      by : (b : Bool) → is_among part k ≡ b → is_among part k ≡ false
      by true e = absurd (not_both (get mid.grove.nodes k) (P.put.comes.vacant k e) live)
      by false e = e

  -- a box of a canvas that came is one of them
  came : (d i k : ℕ) → get mid.grove.boards d ≡ None → slice_get (keys_at new.grove d) i ≡ Some k → IsTrue (is_among part k)
  came d i k none at =
      came_inside mid.grove new.grove c key (keys_before mid (place_at c number)) (keys_behind mid (place_at c number)) can_mid.forest P.put.root P.put.grove part P.put.comes.is_part k d none
      (P.goes_on.forest.own.home d i k at)

  -- a canvas that came is in one of them
  holder_came : (d i k : ℕ) → get mid.grove.boards d ≡ None → slice_get (keys_at new.grove d) i ≡ Some k → (l : ℕ) × IsTrue (is_among part l) × (inner_in (nodes l) ≡ Some d)
  holder_came d i k none at = by (holder_in (boards d)) refl
    where
      live : IsSome (boards d)
      live = ⊎_elim
          (λ (gone : boards d ≡ None). absurd (none-some k (sym (ap (λ (o : Option Board). slice_get (keys_in o) i) gone) ∙ at)))
          (λ (some : IsSome (boards d)). some) (none_or_some (boards d))

      by : (o : Option ℕ) → holder_in (boards d) ≡ o → (l : ℕ) × IsTrue (is_among part l) × (inner_in (nodes l) ≡ Some d)
      by None e = absurd (P.put.grove.closed d none live e)
      by (Some l) e =
          let holds : inner_in (nodes l) ≡ Some d = P.goes_on.forest.held d l e in (
            l,
            ⊎_elim
                (λ (out : get mid.grove.nodes l ≡ None). P.put.comes.only l out (inner_live (nodes l) d holds))
                (λ (was : IsSome (get mid.grove.nodes l)).
                absurd (none-some l (sym (ap holder_in none) ∙ can_mid.forest.inside l d (ap inner_in (sym (P.put.grove.boxes_stay l was)) ∙ holds))))
                (none_or_some (get mid.grove.nodes l)),
            holds,
          )
        where
          inner_live : (o : Option Node) (j : ℕ) → inner_in o ≡ Some j → IsSome o
          inner_live None j h = absurd (none-some j h)
          inner_live (Some n) j h = refl

  -- where the box is a subpatch no boxes came in it
  own_empty : (d : ℕ) → sub_in (nodes key) ≡ Some d → keys_at new.grove d ≡ []
  own_empty d h =
      let S : Stands nodes boards c (depth_of (boards c)) (key ∷ []) (Holder P.holder.cell P.holder.sheet P.holder.inner Done) =
      subst (Stands nodes boards c (depth_of (boards c)) (key ∷ [])) P.holder.single stands_now in
      let f = sub_form (nodes key) _ d S.2 h in
      let holder : IsNewHolder P.holder.cell.head.form P.holder.sheet P.holder.inner = subst IsNewBox P.holder.single is_new in
      let none : S.1 ≡ [] =
      empty_keys nodes boards S.0 (depth_of (boards c) + 1) S.1 P.holder.inner S.4 (new_empty P.holder.cell.head.form P.holder.sheet P.holder.inner holder f.0) in
      ap (λ (x : ℕ). keys_at new.grove x) (sym (same_Some S.0 d f.1)) ∙ seen_keys (boards S.0) _ S.3 ∙ none

  pub part_whole : ComesWhole mid new path c key number
  part_whole = record {
    can = can_mid;
    forest = P.goes_on.forest;
    numbered = P.goes_on.runs.numbers;
    leads = leads_room old mid new a.known.names path c key number P.seed P.room can P.goes_on.forest P.goes_on.runs.numbers leads within;
    part = P.put.grove;
    within = within_room old mid new a.known.names path c key number P.seed P.room can P.goes_on.forest P.goes_on.runs.numbers leads within;
    root = P.put.root;
    own = own_empty;
    stays = record {
      ports = λ side k live. P.put.ports.other_ports side k (was_out k live);
      made = λ k live. P.put.ports.others_made k (was_out k live);
      fans = λ k o live. P.put.wires.other_fans k o (was_out k live);
      feeds = λ k i live. P.put.wires.other_feeds k i (was_out k live);
    };
    bare = P.put.wires.bare;
    laid = record {
      ports = λ side d i k none at. P.put.ports.ports side k (came d i k none at);
      made = λ d i k none at. P.put.ports.made k (came d i k none at);
      fans = λ d i k o none at. P.put.wires.fans d k o none (P.goes_on.forest.own.home d i k at);
      feeds = λ d i k n none at. P.put.wires.feeds d k n none (P.goes_on.forest.own.home d i k at);
      bare = λ d i k u none at U.
          let H = holder_came d i k none at in
          each_key (HoldsBare new.grove) part H.0
          (subst (AllByRecursion (HoldsBare new.grove)) (sym keys) (all_bare new.grove c (depth_of (boards c)) (key ∷ []) a.boxes stands_now bare)) H.1 d u H.2 U;
    };
    fed = λ was. record { lines = P.put.fed.lines; once = P.put.fed.once };
    meet = P.put.meet;
  }
