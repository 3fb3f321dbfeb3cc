-- The feeds of a patch that has just grown from a proper document are in order.
use Rattle.std.proofs.Common.{◌≡◌, ℕ, zero, suc, ◌+◌, ◌≤◌, ◌<◌, true, false, cond, List, [], ◌∷◌, map, slice_get, Option, Some, None, refl, sym, ap, ◌∙◌, subst, inl, inr, arith}
use Rattle.std.specs.Prelude.{option_map, option_and_then, nat_lt}
use Rattle.std.specs.List.{AllByRecursion}
use Rattle.std.proofs.lemmas.Bool.Decides.{nat_tests}
use Rattle.std.proofs.lemmas.Option.{none-some, same_Some, slice_get-map}
use Rattle.slab.specs.Slab.{get}
use Rattle.pd_atom.specs.Names.{Names}
use Rattle.pd_clock.specs.declared.times.Rate.{Rate}
use Rattle.pd_canvas.specs.Pages.{Shape, Sub, Head, Boxes, Page}
use Rattle.pd_canvas.specs.Proper.{levels, AreBoxes, IsSound, IsProper}
use Rattle.pd_canvas.specs.Wiring.{precedes, AreSorted}
use Rattle.pd_library.specs.Files.{answer_in}
use Rattle.pd_library.specs.declared.answers.Answer.{Answer}
use Rattle.pd_order.proofs.Basics.{by_test}
use Rattle.pd_tree.specs.declared.rows.Sheet.{Sheet}
use Rattle.pd_tree.specs.Ports.{Sockets, fits}
use Rattle.pd_tree.specs.Trees.{Trees, Done, Leaf, Holder, Tree, box_with, document_boxes, document_in}
use Rattle.pd_growth.specs.Growth.{grown}
use Rattle.pd_growth.specs.Steps.{beginning}
use Rattle.pd_grove.specs.declared.boards.Board.{Board}
use Rattle.pd_grove.specs.OwnPaths.{sub_reached, sub_in_box, sub_along}
use Rattle.pd_grove.specs.Standing.{BoardSeen, board_seen}
use Rattle.pd_grove.specs.TextOrder.{is_sub}
use Rattle.pd_grove.proofs.SubLemmas.{sub_path_leads}
use Rattle.pd_web.specs.declared.web.Hop.{Hop}
use Rattle.pd_web.specs.Canvases.{keys_at, fan_into, fitting}
use Rattle.pd_web.specs.Hops.{boxes_told, feed_hops}
use Rattle.pd_web.specs.Lines.{boxes_in, wires_in}
use Rattle.pd_web.proofs.NumberLemmas.{feeding_by_number}
use Rattle.pd_seek.specs.Places.{IsNoLater, AreInOrder}
use Rattle.pd_present.specs.Presents.{number_in}
use Rattle.pd_patch.specs.declared.patch.Patch.{Patch}
use Rattle.pd_patch.specs.Grown.{IsTree, IsFresh}
use Rattle.pd_patch.proofs.WayLemmas.{canvas_led, root_stands}
use Rattle.pd_patch.proofs.WiredLemmas.{own_canvas}
use Rattle.pd_regrowth_law.proofs.DocumentLemmas.{patch_stays}
use Rattle.pd_regrowth_law.proofs.SuitLemmas.{none_of_sound}
use Rattle.pd_wiring.proofs.HeardLemmas.{all_at}
use Rattle.pd_reload_law.specs.Wires.{JoinsAmong}
use Rattle.pd_reload_law.proofs.LaidLemmas.{sorted_filter, passes, fitting_joins}
use Rattle.pd_reload_law.proofs.SortedLemmas.{less, all_on}
use Rattle.pd_saved_law.proofs.FitLemmas.{boxes_seen}
use Rattle.pd_alike_law.specs.Feeds.{FeedsInOrder, feed_wire, feed_wires}
use Rattle.pd_alike_law.proofs.FeedLemmas.{label_is, into, told_feeds}

-- ---- the wires of a proper document are sorted

abbrev HolderSorted : Shape → Sheet → Type 0 → Type 0
HolderSorted Sub s Inner = AreSorted s.wires × Inner
HolderSorted f s Inner = Unit {0}

-- in each canvas of the document below this one the wires stand by source and outlet
abbrev OwnSorted : Trees → Type 0
OwnSorted Done = Unit {0}
OwnSorted (Leaf c rest) = OwnSorted rest
OwnSorted (Holder c s inner rest) = HolderSorted c.head.form s (OwnSorted inner) × OwnSorted rest

holder_sorted : (names : Names) (f : Shape) (h : Head) (s : Sheet) (b x : Boxes) (Inner : Type 0) → (AreBoxes names b → Inner) → AreBoxes names (box_with f h s b x)
    → HolderSorted f s Inner × AreBoxes names x
holder_sorted names Sub h s b x Inner k a = ((a.2.sorted, k a.3), a.4)
holder_sorted names f h s b x Inner k a = (tt, a.4)

own_sorted : (names : Names) (t : Trees) → AreBoxes names (document_boxes t) → OwnSorted t
own_sorted names Done a = tt
own_sorted names (Leaf c rest) a = own_sorted names rest a.4
own_sorted names (Holder c s inner rest) a =
    let p = holder_sorted names c.head.form c.head s (document_boxes inner) (document_boxes rest) (OwnSorted inner) (λ b. own_sorted names inner b) a in
    (p.0, own_sorted names rest p.1)

-- a canvas of the document
abbrev CanvasSorted : Tree → Type 0
CanvasSorted u = AreSorted u.sheet.wires × OwnSorted u.boxes

first_sorted : (f : Shape) (s : Sheet) (inner : Trees) (x : Tree) → cond (is_sub f) (Some (record { sheet = s; boxes = inner })) None ≡ Some x
    → HolderSorted f s (OwnSorted inner) → CanvasSorted x
first_sorted Sub s inner x e h = subst CanvasSorted (same_Some (record { sheet = s; boxes = inner }) x e) h
first_sorted f s inner x e h = absurd (none-some x e)

box_sorted : (n : ℕ) (t : Trees) (x : Tree) → sub_in_box n t ≡ Some x → OwnSorted t → CanvasSorted x
box_sorted n Done x e h = absurd (none-some x e)
box_sorted zero (Leaf c rest) x e h = absurd (none-some x e)
box_sorted zero (Holder c s inner rest) x e h = first_sorted c.head.form s inner x e h.0
box_sorted (suc n) (Leaf c rest) x e h = box_sorted n rest x e h
box_sorted (suc n) (Holder c s inner rest) x e h = box_sorted n rest x e h.1

path_sorted : (path : List ℕ) (u v : Tree) → sub_along path u ≡ Some v → CanvasSorted u → CanvasSorted v
path_sorted [] u v e h = subst CanvasSorted (same_Some u v e) h
path_sorted (n ∷ path) u v e h = step (sub_in_box n u.boxes) e (λ x q. box_sorted n u.boxes x q h.1) (λ x d k. path_sorted path x v d k)
  where
    step : (o : Option Tree) → option_and_then (sub_along path) o ≡ Some v → ((x : Tree) → o ≡ Some x → CanvasSorted x)
        → ((x : Tree) → sub_along path x ≡ Some v → CanvasSorted x → CanvasSorted v) → CanvasSorted v
    step None e k on = absurd (none-some v e)
    step (Some x) e k on = on x e (k x refl)

wires_seen : (o : Option Board) (x : BoardSeen) → option_map board_seen o ≡ Some x → wires_in o ≡ x.sheet.wires
wires_seen None x h = absurd (none-some x h)
wires_seen (Some b) x h = ap (λ (y : BoardSeen). y.sheet.wires) (same_Some (board_seen b) x h)

fewer_levels : (n : ℕ) → n + 1 ≤ 256 → n ≤ 255
fewer_levels n h = omega (arith, h)

board_sorted : (files : List (ℕ × Answer)) (name : List ℕ) (d : Page) (before names : Names) (n : ℕ) (rate : Rate) (p : Patch) (path : List ℕ) (c : ℕ) → IsProper before d
    → IsTree p names rate (grown (answer_in files) name d (beginning before n)) → sub_reached p.grove (Some p.grove.root) path ≡ Some c
    → AreSorted (wires_in (get p.grove.boards c))
board_sorted files name d before names n rate p path c proper grew at =
    let t = grew.tree in
    let same : document_in t ≡ d =
    patch_stays (answer_in files) name d (beginning before n) grew.given.after t (fewer_levels (levels d.boxes) proper.limits.levels) (none_of_sound before d proper.sound) grew.given.step in
    let sound : IsSound before (document_in t) = subst (IsSound before) (sym same) proper.sound in
    let v = canvas_led p.grove c (sub_reached p.grove (Some p.grove.root) path) (sub_along path t)
    (sub_path_leads p.grove path p.grove.root t (root_stands p.grove t.sheet t.boxes grew.stands)) at in
    let s = path_sorted path t v.0 v.1 (sound.0.sorted, own_sorted before t.boxes sound.1) in
    subst AreSorted (sym (wires_seen (get p.grove.boards c) _ v.2.board)) s.0

-- ---- sorted wires are feeds in order

later_same : (a b c d : ℕ) → less c d a b ≡ false → nat_lt a c ≡ false → a ≡ c
later_same a b c d h k = grind (arith, nat_tests)

later_port : (a b c d : ℕ) → less c d a b ≡ false → nat_lt a c ≡ false → b ≤ d
later_port a b c d h k = grind (arith, nat_tests)

lower : (a c : ℕ) → nat_lt a c ≡ true → a < c
lower a c h = grind (arith, nat_tests)

no_later : (numbers : List ℕ) (k inlet : ℕ) (g h : Hop) → precedes (feed_wire numbers k inlet h) (feed_wire numbers k inlet g) ≡ false → IsNoLater numbers g h
no_later numbers k inlet g h e =
    let a = number_in numbers g.node in
    let c = number_in numbers h.node in
    let x = label_is numbers g.node in
    let y = label_is numbers h.node in
    by_test (nat_lt a c)
    (λ t. let l : a < c = lower a c t in inl (omega (arith, l, x, y)))
    (λ t. inr (x ∙ later_same a g.port c h.port e t ∙ sym y, later_port a g.port c h.port e t))

feeds_in_order : (numbers : List ℕ) (k inlet : ℕ) (hops : List Hop) → AreSorted (map (feed_wire numbers k inlet) hops) → AreInOrder numbers hops
feeds_in_order numbers k inlet [] s i j g h low a b = absurd (none-some g a)
feeds_in_order numbers k inlet (x ∷ hops) s zero zero g h low a b =
    subst (λ (y : Hop). IsNoLater numbers y h) (same_Some x g a) (subst (λ (y : Hop). IsNoLater numbers x y) (same_Some x h b) (inr (refl, omega arith)))
feeds_in_order numbers k inlet (x ∷ hops) s zero (suc j) g h low a b =
    subst (λ (y : Hop). IsNoLater numbers y h) (same_Some x g a)
    (no_later numbers k inlet x h (all_at (λ v. precedes v (feed_wire numbers k inlet x) ≡ false) (map (feed_wire numbers k inlet) hops) j (feed_wire numbers k inlet h) s.0
    (slice_get-map (feed_wire numbers k inlet) hops j ∙ ap (option_map (feed_wire numbers k inlet)) b)))
feeds_in_order numbers k inlet (x ∷ hops) s (suc i) zero g h low a b = absurd (omega (arith, low))
feeds_in_order numbers k inlet (x ∷ hops) s (suc i) (suc j) g h low a b = feeds_in_order numbers k inlet hops s.1 i j g h (omega (arith, low)) a b

fresh_order : (p : Patch) (names : Names) (file : List ℕ) (rate : Rate) (c : ℕ) → IsFresh p names file rate → AreSorted (wires_in (get p.grove.boards c)) → FeedsInOrder p c
fresh_order p names file rate c f sorted = record {
  all = λ i k inlet e.
      let g = p.grove in
      let w = p.web in
      let N = p.numbers.items in
      let K = keys_at g c in
      let ws = fitting g c in
      let same : boxes_told w K ≡ boxes_in g c = boxes_seen g w K f.wires.ports f.wires.made in
      let fit = subst (λ (x : List Sockets). AllByRecursion (λ v. fits x v ≡ true) ws) (sym same) (passes (fits (boxes_in g c)) (wires_in (get g.boards c))) in
      let joins : AllByRecursion (JoinsAmong K) ws = all_on (λ v. fits (boxes_told w K) v ≡ true) (JoinsAmong K) ws (fitting_joins w K) fit in
      let told : feed_wires w N k inlet ≡ fan_into i inlet ws =
      told_feeds N K (f.numbers c) i k inlet e ws (feed_hops w k inlet) joins (f.wires.feeds k inlet ∙ feeding_by_number g c i inlet k (own_canvas g c f.own) e) in
      feeds_in_order N k inlet (feed_hops w k inlet)
      (subst AreSorted (sym told) (sorted_filter (into i inlet) ws (sorted_filter (fits (boxes_in g c)) (wires_in (get g.boards c)) sorted)));
}

pub first_order : (files : List (ℕ × Answer)) (name : List ℕ) (d : Page) (before names : Names) (n : ℕ) (rate : Rate) (p : Patch) (path : List ℕ) (c : ℕ) → IsProper before d
    → IsTree p names rate (grown (answer_in files) name d (beginning before n)) → IsFresh p names name rate
    → sub_reached p.grove (Some p.grove.root) path ≡ Some c → FeedsInOrder p c
first_order files name d before names n rate p path c proper grew fresh at =
    fresh_order p names name rate c fresh (board_sorted files name d before names n rate p path c proper grew at)
