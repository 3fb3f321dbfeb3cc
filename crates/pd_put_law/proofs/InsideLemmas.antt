-- Where a box came into a canvas of the document with all that lies in it, the wires hold and fit.
use Rattle.std.proofs.Common.{◌≡◌, ◌≢◌, ◌⊎◌, ◌<◌, ◌≤◌, ◌+◌, ℕ, true, List, [], ◌∷◌, ◌++◌, map, length, take, drop, slice_get, Option, Some, None, IsSome, inl, inr, refl, sym, ap, ◌∙◌, subst, arith}
use Rattle.std.specs.Prelude.{option_map, option_and_then}
use Rattle.std.specs.List.{AllByRecursion}
use mathlib.Core.Logic.{⊎_elim}
use Rattle.std.proofs.lemmas.Bool.{cases_eq}
use Rattle.std.proofs.lemmas.Bool.Decides.{nat_tests}
use Rattle.std.proofs.lemmas.List.{length-map}
use Rattle.std.proofs.lemmas.Option.{none-some, same_Some}
use Rattle.slab.specs.Slab.{get}
use Rattle.pd_canvas.specs.declared.wires.Wire.{Wire}
use Rattle.pd_canvas.specs.Wiring.{raised, raised_wire}
use Rattle.pd_tree.specs.declared.rows.Sheet.{Sheet}
use Rattle.pd_tree.specs.Ports.{Sockets, fits, fits_between}
use Rattle.pd_tree.specs.Trees.{Trees, Done, Leaf, Holder, Tree}
use Rattle.pd_grove.specs.declared.boards.Board.{Board}
use Rattle.pd_grove.specs.declared.grove.Grove.{Grove}
use Rattle.pd_grove.specs.declared.nodes.Node.{Node}
use Rattle.pd_grove.specs.declared.ports.Side.TheVariants.{Inlets, Outlets}
use Rattle.pd_grove.specs.Owning.{board_in}
use Rattle.pd_grove.specs.OwnPaths.{sub_in, sub_reached}
use Rattle.pd_grove.specs.Places.{canvas_along, CanvasStands, LeadsTo}
use Rattle.pd_grove.specs.Standing.{BoardSeen, GroveStands, Stands, board_seen}
use Rattle.pd_grove.specs.Telling.{inner_in, keys_in, reached}
use Rattle.pd_grove.proofs.ForestLemmas.{stands_once}
use Rattle.pd_grove.proofs.GraftLemmas.{IsHere, IsThere, where_is}
use Rattle.pd_grove.proofs.PlaceLemmas.{path_leads, seen_keys}
use Rattle.pd_grove.proofs.UseLemmas.{none_or_some, not_both}
use Rattle.pd_web.specs.declared.jacks.Jack.{Jack}
use Rattle.pd_web.specs.declared.web.Hop.{Hop}
use Rattle.pd_web.specs.declared.web.Web.{Web}
use Rattle.pd_web.specs.Canvases.{keys_at, HoldersAreNoPorts}
use Rattle.pd_web.specs.Changes.{Meet, hop_at}
use Rattle.pd_web.specs.Hops.{boxes_told, feed_hops, fan_hops, ports_told}
use Rattle.pd_web.specs.Jacks.{jacks_at}
use Rattle.pd_web.specs.Lines.{laid_at, seen_at, seen_by}
use Rattle.pd_web.specs.Sockets.{made_at}
use Rattle.pd_seek.specs.Places.{label_at, AreInOrder, IsNoLater}
use Rattle.pd_present.specs.Presents.{wires_among}
use Rattle.pd_patch.specs.declared.patch.Patch.{Patch}
use Rattle.pd_patch.specs.Linked.{ShareCanvas}
use Rattle.pd_patch.specs.Wired.{LeadsHere}
use Rattle.pd_wiring.proofs.HeardLemmas.{all_at}
use Rattle.pd_reload_law.specs.Wires.{IsAmong}
use Rattle.pd_reload_law.proofs.EditLemmas.{sub_inner}
use Rattle.pd_saved_law.specs.Fitting.{WiresFit}
use Rattle.pd_alike_law.specs.Feeds.{FeedsInOrder}
use Rattle.pd_inside_law.specs.Inside.{HasWiresOf, IsWiredInside, HoldsWires}
use Rattle.pd_putting_law.specs.Puts.{put_before}
use Rattle.pd_putting_law.proofs.ListLemmas.{get_raised, map_more}
use Rattle.pd_putting_law.proofs.PathLemmas.{Forest, LeadsNot, subs, sub_leads, sub_nowhere, steps, step_on, live_box, live_canvas, not_around, paths_once, reached_live, then_reached, then_sub}
use Rattle.pd_putting_law.proofs.StandLemmas.{aside_inside, stands_aside}
use Rattle.pd_putting_law.proofs.WireLemmas.{wires_aside, wires_with}
use Rattle.pd_put_law.proofs.RoomLemmas.{same_canvas, told_same, laid_same, label_is}
use Rattle.pd_put_law.proofs.WholeLemmas.{ComesWhole, keys_more, keys_stay, keeps}
use Rattle.pd_put_law.proofs.LineLemmas.{wires_laid, laid_fit}

-- ---- wires that fit

fits_same : (n : ℕ) (v : Wire) (a b : Option Sockets) → fits_between a b (raised_wire n v) ≡ fits_between a b v
fits_same n v None b = refl
fits_same n v (Some s) None = refl
fits_same n v (Some s) (Some d) = refl

-- with a box more wires that fit do so still
fits_more : (xs : List Sockets) (x : Sockets) (n : ℕ) (v : Wire) → n ≤ length xs → fits (take n xs ++ x ∷ drop n xs) (raised_wire n v) ≡ fits xs v
fits_more xs x n v within =
    fits_same n v (slice_get (take n xs ++ x ∷ drop n xs) (raised n v.source)) (slice_get (take n xs ++ x ∷ drop n xs) (raised n v.sink))
    ∙ ap (λ o. fits_between o (slice_get (take n xs ++ x ∷ drop n xs) (raised n v.sink)) v) (get_raised xs n x v.source within)
    ∙ ap (λ o. fits_between (slice_get xs v.source) o v) (get_raised xs n x v.sink within)

all_more : (xs : List Sockets) (x : Sockets) (n : ℕ) (ws : List Wire) → n ≤ length xs → AllByRecursion (λ v. fits xs v ≡ true) ws
    → AllByRecursion (λ v. fits (take n xs ++ x ∷ drop n xs) v ≡ true) (map (raised_wire n) ws)
all_more xs x n [] within h = tt
all_more xs x n (v ∷ ws) within h = (fits_more xs x n v within ∙ h.0, all_more xs x n ws within h.1)

-- ---- feeds in their order

raised_less : (n a b : ℕ) → a < b → raised n a < raised n b
raised_less n a b l = grind (arith, nat_tests)

later_by : (labels labels' : List ℕ) (g h : Hop) (f : ℕ → ℕ) → label_at labels' g.node ≡ f (label_at labels g.node) → label_at labels' h.node ≡ f (label_at labels h.node)
    → (label_at labels g.node < label_at labels h.node → f (label_at labels g.node) < f (label_at labels h.node)) → IsNoLater labels g h → IsNoLater labels' g h
later_by labels labels' g h f a b up (inl l) = inl (let m = up l in omega (arith, a, b, m))
later_by labels labels' g h f a b up (inr e) = inr (a ∙ ap f e.0 ∙ sym b, e.1)

none_in_order : (labels : List ℕ) (hops : List Hop) → hops ≡ [] → AreInOrder labels hops
none_in_order labels hops e i j g h l a b = absurd (none-some g (sym (ap (λ (hs : List Hop). slice_get hs i) e) ∙ a))

-- ---- trees

-- the canvas to which a path leads stands under its key
stands_along : (g : Grove) (t : Tree) (way : List ℕ) (d : ℕ) (u : Tree) → GroveStands g t.sheet t.boxes → LeadsHere g t way d u → CanvasStands g d u
stands_along g t way d u G L =
    by (reached g (Some g.root) way) (canvas_along way t)
    (path_leads g way g.root t (record { holder = None; depth = 0; keys = G.keys; board = G.root; stands = G.stands })) L.key L.canvas
  where
    by : (to : Option ℕ) (o : Option Tree) → LeadsTo g to o → to ≡ Some d → o ≡ Some u → CanvasStands g d u
    by to None l k e = absurd (none-some u e)
    by to (Some v) l k e = subst (λ (x : Tree). CanvasStands g d x) (same_Some v u e) (subst (λ (x : ℕ). CanvasStands g x v) (same_Some l.0 d (sym l.1 ∙ k)) l.2)

-- and is there, where a path leads to that key
record IsAlong (g : Grove) (t : Tree) (way : List ℕ) (d : ℕ) : Type 0 where
  tree : Tree
  is : canvas_along way t ≡ Some tree
  stands : CanvasStands g d tree

along : (g : Grove) (t : Tree) (way : List ℕ) (d : ℕ) → GroveStands g t.sheet t.boxes → reached g (Some g.root) way ≡ Some d → IsAlong g t way d
along g t way d G at =
    by (canvas_along way t) refl (path_leads g way g.root t (record { holder = None; depth = 0; keys = G.keys; board = G.root; stands = G.stands }))
  where
    by : (o : Option Tree) → canvas_along way t ≡ o → LeadsTo g (reached g (Some g.root) way) o → IsAlong g t way d
    by None e L = absurd (none-some d (sym L ∙ at))
    by (Some u) e L = record { tree = u; is = e; stands = subst (λ x. CanvasStands g x u) (same_Some L.0 d (sym L.1 ∙ at)) L.2 }

-- the way to a canvas before the box came
record WayBack (g h : Grove) (e d : ℕ) (way : List ℕ) : Type 0 where
  was : List ℕ
  leads : reached g (Some e) was ≡ Some d
  own : sub_reached g (Some e) was ≡ sub_reached h (Some e) way

-- ---- the patches

module _ (p q : Patch) (path : List ℕ) (c key number : ℕ) (C : ComesWhole p q path c key number) where
  forest_was : Forest p.grove
  forest_was = C.can.forest

  -- ---- boxes

  -- a canvas with a box is there
  live_with : (d i k : ℕ) → slice_get (keys_at p.grove d) i ≡ Some k → IsSome (get p.grove.boards d)
  live_with d i k e = ⊎_elim
      (λ (none : get p.grove.boards d ≡ None). absurd (none-some k (sym (ap (λ (o : Option Board). slice_get (keys_in o) i) none) ∙ e)))
      (λ (live : IsSome (get p.grove.boards d)). live) (none_or_some (get p.grove.boards d))

  -- the boxes of its canvas have the numbers that they had, or the next ones, and others those that they had
  stays_here : (i k : ℕ) → slice_get (keys_at p.grove c) i ≡ Some k → slice_get (keys_at q.grove c) (raised number i) ≡ Some k
  stays_here i k e =
      ap (λ (ks : List ℕ). slice_get ks (raised number i)) (keys_more p q path c key number C) ∙ get_raised (keys_at p.grove c) number key i C.within ∙ e

  stays_aside : (d i k : ℕ) → d ≢ c → slice_get (keys_at p.grove d) i ≡ Some k → slice_get (keys_at q.grove d) i ≡ Some k
  stays_aside d i k a e = ap (λ (ks : List ℕ). slice_get ks i) (keys_stay p q path c key number C d a (live_with d i k e)) ∙ e

  was_here : (i k : ℕ) → k ≢ key → slice_get (keys_at q.grove c) i ≡ Some k → IsAmong (keys_at p.grove c) k
  was_here i k new e =
      let front = take number (keys_at p.grove c) in
      let back = drop number (keys_at p.grove c) in
      ⊎_elim
      (λ (here : IsHere front key i k). absurd (new here.key))
      (λ (there : IsThere front back i k). (there.spot, ap (λ (ks : List ℕ). slice_get ks there.spot) C.part.had ∙ there.at))
      (where_is front back key i k (ap (λ (ks : List ℕ). slice_get ks i) (sym (keys_more p q path c key number C)) ∙ e))

  -- each box of a canvas that was there, but the new one, was there
  pub was_at : (d i k : ℕ) → IsSome (get p.grove.boards d) → k ≢ key → slice_get (keys_at q.grove d) i ≡ Some k → IsAmong (keys_at p.grove d) k
  was_at d i k live new e = ⊎_elim
      (λ (s : d ≡ c). subst (λ (x : ℕ). IsAmong (keys_at p.grove x) k) (sym s) (was_here i k new (ap (λ (x : ℕ). slice_get (keys_at q.grove x) i) (sym s) ∙ e)))
      (λ (a : d ≢ c). (i, ap (λ (ks : List ℕ). slice_get ks i) (sym (keys_stay p q path c key number C d a live)) ∙ e)) (cases_eq d c)

  -- a box of a canvas that came has come
  came_at : (d i k : ℕ) → get p.grove.boards d ≡ None → slice_get (keys_at q.grove d) i ≡ Some k → get p.grove.nodes k ≡ None
  came_at d i k none e = ⊎_elim
      (λ (out : get p.grove.nodes k ≡ None). out)
      (λ (live : IsSome (get p.grove.nodes k)).
      let at = forest_was.placed k d (ap board_in (sym (C.part.boxes_stay k live)) ∙ C.forest.own.home d i k e) in
      absurd (not_both (get p.grove.boards d) none (live_with d at.0 k at.1))) (none_or_some (get p.grove.nodes k))

  same_box : (d k : ℕ) → IsAmong (keys_at p.grove d) k → get q.grove.nodes k ≡ get p.grove.nodes k
  same_box d k a = C.part.boxes_stay k (live_box p.grove forest_was d a.0 k a.1)

  -- ---- paths

  -- from a canvas that came a path leads to one that came
  inside_came : (way : List ℕ) (e d : ℕ) → get p.grove.boards e ≡ None → reached q.grove (Some e) way ≡ Some d → get p.grove.boards d ≡ None
  inside_came [] e d none h = subst (λ (x : ℕ). get p.grove.boards x ≡ None) (same_Some e d h) none
  inside_came (m ∷ way) e d none h =
      let s = steps q.grove e m way d h in
      inside_came way s.inner d (C.part.inside s.key s.inner (came_at e m s.key none s.is) s.holds).0 s.on

  own_same : (k : ℕ) (o : Option ℕ) → sub_in (get q.grove.nodes k) ≡ o → (j : ℕ) → inner_in (get q.grove.nodes k) ≡ Some j → (was way : List ℕ)
      → sub_reached p.grove (Some j) was ≡ sub_reached q.grove (Some j) way → sub_reached p.grove o was ≡ sub_reached q.grove o way
  own_same k None e j holds was way own = sub_nowhere p.grove was ∙ sym (sub_nowhere q.grove way)
  own_same k (Some i) e j holds was way own =
      subst (λ x. sub_reached p.grove (Some x) was ≡ sub_reached q.grove (Some x) way) (same_Some j i (sym holds ∙ sub_inner (get q.grove.nodes k) i e)) own

  -- a path leads to where one led, or to a canvas that came
  way_back : (way : List ℕ) (e d : ℕ) → IsSome (get p.grove.boards e) → reached q.grove (Some e) way ≡ Some d
      → WayBack p.grove q.grove e d way ⊎ (get p.grove.boards d ≡ None)
  way_back [] e d live h = inl (record { was = []; leads = h; own = refl })
  way_back (m ∷ way) e d live h =
      let s = steps q.grove e m way d h in
      ⊎_elim
      (λ (new : s.key ≡ key).
      inr (inside_came way s.inner d (C.part.inside key s.inner C.part.vacant (ap (λ (x : ℕ). inner_in (get q.grove.nodes x)) (sym new) ∙ s.holds)).0 s.on))
      (λ (old : s.key ≢ key).
      let a = was_at e m s.key live old s.is in
      let same = same_box e s.key a in
      let held : inner_in (get p.grove.nodes s.key) ≡ Some s.inner = ap inner_in (sym same) ∙ s.holds in
      ⊎_elim
      (λ (r : WayBack p.grove q.grove s.inner d way). inl (record {
        was = a.0 ∷ r.was;
        leads = step_on p.grove e a.0 s.key s.inner r.was d a.1 held r.leads;
        own =
            ap (λ o. sub_reached p.grove (option_and_then (λ k. sub_in (get p.grove.nodes k)) o) r.was) a.1
            ∙ ap (λ (o : Option Node). sub_reached p.grove (sub_in o) r.was) (sym same)
            ∙ own_same s.key (sub_in (get q.grove.nodes s.key)) refl s.inner s.holds r.was way r.own
            ∙ sym (ap (λ o. sub_reached q.grove (option_and_then (λ k. sub_in (get q.grove.nodes k)) o) way) s.is);
      }))
      (λ (none : get p.grove.boards d ≡ None). inr none)
      (way_back way s.inner d (live_canvas p.grove forest_was s.key s.inner held) s.on)) (cases_eq s.key key)

  root_there : IsSome (get p.grove.boards p.grove.root)
  root_there = forest_was.rooted.0

  root_back : (way : List ℕ) (d : ℕ) → reached q.grove (Some q.grove.root) way ≡ Some d → WayBack p.grove q.grove p.grove.root d way ⊎ (get p.grove.boards d ≡ None)
  root_back way d h = way_back way p.grove.root d root_there (ap (λ (r : ℕ). reached q.grove (Some r) way) (sym C.root) ∙ h)

  -- from a canvas without boxes no path leads to a box
  stuck : (way : List ℕ) (e d i k : ℕ) → keys_at q.grove e ≡ [] → sub_reached q.grove (Some e) way ≡ Some d → slice_get (keys_at q.grove d) i ≡ Some k → ⊥
  stuck [] e d i k none h at =
      none-some k (sym (ap (λ (ks : List ℕ). slice_get ks i) none) ∙ ap (λ (x : ℕ). slice_get (keys_at q.grove x) i) (same_Some e d h) ∙ at)
  stuck (m ∷ way) e d i k none h at = let s = subs q.grove e m way d h in none-some s.key (sym (ap (λ (ks : List ℕ). slice_get ks m) none) ∙ s.is)

  -- no canvas with boxes that came is a canvas of the document
  none_own : (way : List ℕ) (e d i k : ℕ) → IsSome (get p.grove.boards e) → get p.grove.boards d ≡ None → sub_reached q.grove (Some e) way ≡ Some d
      → slice_get (keys_at q.grove d) i ≡ Some k → ⊥
  none_own [] e d i k live none h at = not_both (get p.grove.boards d) none (subst (λ (x : ℕ). IsSome (get p.grove.boards x)) (same_Some e d h) live)
  none_own (m ∷ way) e d i k live none h at =
      let s = subs q.grove e m way d h in
      ⊎_elim
      (λ (new : s.key ≡ key). stuck way s.inner d i k (C.own s.inner (ap (λ (x : ℕ). sub_in (get q.grove.nodes x)) (sym new) ∙ s.sub)) s.on at)
      (λ (old : s.key ≢ key).
      let same = same_box e s.key (was_at e m s.key live old s.is) in
      let held : inner_in (get p.grove.nodes s.key) ≡ Some s.inner = ap inner_in (sym same) ∙ sub_inner (get q.grove.nodes s.key) s.inner s.sub in
      none_own way s.inner d i k (live_canvas p.grove forest_was s.key s.inner held) none s.on at) (cases_eq s.key key)

  -- to a canvas with a box a path through subpatches led
  pub subs_back : (way : List ℕ) (d i k : ℕ) → sub_reached q.grove (Some q.grove.root) way ≡ Some d → slice_get (keys_at q.grove d) i ≡ Some k
      → (was : List ℕ) × (sub_reached p.grove (Some p.grove.root) was ≡ Some d) × IsSome (get p.grove.boards d)
  subs_back way d i k h at =
      let on : sub_reached q.grove (Some p.grove.root) way ≡ Some d = ap (λ (r : ℕ). sub_reached q.grove (Some r) way) (sym C.root) ∙ h in
      ⊎_elim
      (λ (W : WayBack p.grove q.grove p.grove.root d way). (W.was, W.own ∙ on, reached_live p.grove forest_was W.was p.grove.root d root_there W.leads))
      (λ (none : get p.grove.boards d ≡ None). absurd (none_own way p.grove.root d i k root_there none on at))
      (root_back way d (sub_leads q.grove q.grove.root d way h))

  -- to the canvas around the box the same path leads
  leads_on : (way : List ℕ) (e : ℕ) → IsSome (get p.grove.boards e) → sub_reached p.grove (Some e) way ≡ Some c → sub_reached q.grove (Some e) way ≡ Some c
  leads_on [] e live h = h
  leads_on (m ∷ way) e live h =
      let s = subs p.grove e m way c h in
      let stays = C.part.canvases_stay e (not_around p.grove forest_was e m way c (sub_leads p.grove e c (m ∷ way) h)) live in
      let at : slice_get (keys_at q.grove e) m ≡ Some s.key = ap (λ (o : Option Board). slice_get (keys_in o) m) stays ∙ s.is in
      let sub : sub_in (get q.grove.nodes s.key) ≡ Some s.inner = ap sub_in (same_box e s.key (m, s.is)) ∙ s.sub in
      ap (λ o. sub_reached q.grove (option_and_then (λ x. sub_in (get q.grove.nodes x)) o) way) at ∙ ap (λ o. sub_reached q.grove o way) sub
      ∙ leads_on way s.inner (live_canvas p.grove forest_was s.key s.inner (sub_inner (get p.grove.nodes s.key) s.inner s.sub)) s.on

  pub leads_still : sub_reached q.grove (Some q.grove.root) path ≡ Some c
  leads_still = ap (λ (r : ℕ). sub_reached q.grove (Some r) path) C.root ∙ leads_on path p.grove.root root_there C.leads

  -- ---- ports

  -- each box that was there has its ports
  told_still : (d : ℕ) → boxes_told q.web (keys_at p.grove d) ≡ boxes_told p.web (keys_at p.grove d)
  told_still d =
      told_same p.web q.web (keys_at p.grove d) (λ i k e.
      let live = live_box p.grove forest_was d i k e in
      laid_same p.web q.web k (C.stays.ports Inlets k live) (C.stays.ports Outlets k live) (C.stays.made k live))

  -- and those that came have theirs
  seen_there : (d i k : ℕ) → get p.grove.boards d ≡ None → slice_get (keys_at q.grove d) i ≡ Some k → laid_at q.web.sockets.items k ≡ seen_at q.grove k
  seen_there d i k none at =
      ap (λ (x : List Jack). seen_by x (ports_told q.web Outlets k) (made_at q.web.sockets.items k)) (C.laid.ports Inlets d i k none at)
      ∙ ap (λ (x : List Jack). seen_by (jacks_at Inlets q.grove k) x (made_at q.web.sockets.items k)) (C.laid.ports Outlets d i k none at)
      ∙ ap (seen_by (jacks_at Inlets q.grove k) (jacks_at Outlets q.grove k)) (C.laid.made d i k none at)

  -- ---- inside abstractions

  -- in a canvas that came no box that holds a canvas is a port
  bare_there : (d : ℕ) (u : Tree) → get p.grove.boards d ≡ None → CanvasStands q.grove d u → HoldersAreNoPorts u.boxes
  bare_there d u none S =
      let same : keys_at q.grove d ≡ S.keys = seen_keys (get q.grove.boards d) _ S.board in
      by S.keys u.boxes S.stands (λ i k at. C.laid.bare d i k u none (ap (λ (ks : List ℕ). slice_get ks i) same ∙ at) S)
    where
      by : (ks : List ℕ) (t : Trees) → Stands (get q.grove.nodes) (get q.grove.boards) d S.depth ks t → ((i k : ℕ) → slice_get ks i ≡ Some k → HoldersAreNoPorts t) → HoldersAreNoPorts t
      by [] Done s h = tt
      by [] (Leaf x rest) s h = absurd s
      by [] (Holder x y inner rest) s h = absurd s
      by (k ∷ ks) t s h = h 0 k refl

  -- a canvas that was there, to which no path leads through subpatches alone
  module _ (way : List ℕ) (d : ℕ) (W : WayBack p.grove q.grove p.grove.root d way) (off : sub_reached q.grove (Some q.grove.root) way ≡ None) where
    was_off : sub_reached p.grove (Some p.grove.root) W.was ≡ None
    was_off = W.own ∙ ap (λ (r : ℕ). sub_reached q.grove (Some r) way) (sym C.root) ∙ off

    -- it isn't the canvas of the box
    is_apart : d ≢ c
    is_apart e =
        let same = paths_once p.grove forest_was path W.was p.grove.root c (sub_leads p.grove p.grove.root c path C.leads) (W.leads ∙ ap (λ x. Some x) e) in
        none-some c (sym was_off ∙ ap (sub_reached p.grove (Some p.grove.root)) (sym same) ∙ C.leads)

    -- and that doesn't lie in it
    not_in : LeadsNot p.grove c d
    not_in more e =
        let same : W.was ++ more ≡ path =
        paths_once p.grove forest_was (W.was ++ more) path p.grove.root c
        (then_reached p.grove W.was more (Some p.grove.root) ∙ ap (λ o. reached p.grove o more) W.leads ∙ e) (sub_leads p.grove p.grove.root c path C.leads) in
        none-some c (sym (sub_nowhere p.grove more) ∙ ap (λ o. sub_reached p.grove o more) (sym was_off) ∙ sym (then_sub p.grove W.was more (Some p.grove.root))
        ∙ ap (sub_reached p.grove (Some p.grove.root)) same ∙ C.leads)

    live_there : IsSome (get p.grove.boards d)
    live_there = reached_live p.grove forest_was W.was p.grove.root d root_there W.leads

    -- in the tree it is the same
    same_tree : (u v : Tree) → CanvasStands p.grove d u → CanvasStands q.grove d v → u ≡ v
    same_tree u v S T =
        let e : Some (record { holder = S.holder; depth = S.depth; sheet = u.sheet; keys = S.keys }) ≡ Some (record { holder = T.holder; depth = T.depth; sheet = v.sheet; keys = T.keys }) =
        sym S.board ∙ ap (option_map board_seen) (sym (C.part.canvases_stay d is_apart live_there)) ∙ T.board in
        let x = same_Some (record { holder = S.holder; depth = S.depth; sheet = u.sheet; keys = S.keys }) (record { holder = T.holder; depth = T.depth; sheet = v.sheet; keys = T.keys }) e in
        let deep : T.depth ≡ S.depth = sym (ap (λ (y : BoardSeen). y.depth) x) in
        let keys : T.keys ≡ S.keys = sym (ap (λ (y : BoardSeen). y.keys) x) in
        let sheet : u.sheet ≡ v.sheet = ap (λ (y : BoardSeen). y.sheet) x in
        let at : keys_at p.grove d ≡ S.keys = seen_keys (get p.grove.boards d) _ S.board in
        let was = stands_aside p.grove q.grove c key number forest_was C.part d S.depth S.keys u.boxes (aside_inside p.grove c d S.keys at not_in) S.stands in
        let now = subst (λ n. Stands (get q.grove.nodes) (get q.grove.boards) d n S.keys v.boxes) deep
        (subst (λ (ks : List ℕ). Stands (get q.grove.nodes) (get q.grove.boards) d T.depth ks v.boxes) keys T.stands) in
        let boxes : u.boxes ≡ v.boxes = stands_once (get q.grove.nodes) (get q.grove.boards) d S.depth S.keys u.boxes v.boxes was now in
        ap (λ (y : Sheet). tree_of y u.boxes) sheet ∙ ap (tree_of v.sheet) boxes
      where
        tree_of : Sheet → Trees → Tree
        tree_of y bs = record { sheet = y; boxes = bs }

    wires_same : (u : Tree) → HasWiresOf p.web (keys_at p.grove d) u → HasWiresOf q.web (keys_at q.grove d) u
    wires_same u H =
        subst (λ (ks : List ℕ). HasWiresOf q.web ks u) (sym (keys_stay p q path c key number C d is_apart live_there))
        (same_canvas p.web q.web (keys_at p.grove d) u (told_still d) (λ k o a. C.stays.fans k o (live_box p.grove forest_was d a.0 k a.1))
        (λ k i a. C.stays.feeds k i (live_box p.grove forest_was d a.0 k a.1)) H)

  inside_still : (new : Trees) (t : Tree) → GroveStands p.grove t.sheet t.boxes → GroveStands q.grove (put_before path number new t).sheet (put_before path number new t).boxes
      → IsWiredInside p.grove p.web t → IsWiredInside q.grove q.web (put_before path number new t)
  inside_still new t G N h = record {
    all = λ way d u l.
        let now : CanvasStands q.grove d u = stands_along q.grove (put_before path number new t) way d u N l.here in
        ⊎_elim
        (λ (W : WayBack p.grove q.grove p.grove.root d way).
        let is = along p.grove t W.was d G W.leads in
        wires_same way d W l.inside u
        (subst (HasWiresOf p.web (keys_at p.grove d)) (same_tree way d W l.inside is.tree u is.stands now)
        (h.all W.was d is.tree (record { here = record { key = W.leads; canvas = is.is }; inside = was_off way d W l.inside }))))
        (λ (none : get p.grove.boards d ≡ None).
        wires_laid q.grove q.web d C.forest.own (λ i k at. seen_there d i k none at) (λ i k o at. C.laid.fans d i k o none at) (λ i k n at. C.laid.feeds d i k n none at) u now
        (bare_there d u none now)) (root_back way d l.here.key);
  }

  -- ---- feeds in their order

  -- what feeds a box of a canvas lies in it
  feeder_there : Meet p.web → (d k inlet i : ℕ) (g : Hop) → IsAmong (keys_at p.grove d) k → slice_get (feed_hops p.web k inlet) i ≡ Some g → IsAmong (keys_at p.grove d) g.node
  feeder_there meet d k inlet i g t e =
      let f = meet.fanned k inlet i g e in
      let s : ShareCanvas p.grove g.node k =
      all_at (λ (x : Hop). ShareCanvas p.grove g.node x.node) (fan_hops p.web g.node g.port) f.0 (hop_at g.key k inlet) (C.can.runs.inside g.node g.port) f.1 in
      let same : s.canvas ≡ d = same_Some s.canvas d (sym (forest_was.own.home s.canvas s.other.0 k s.other.1) ∙ forest_was.own.home d t.0 k t.1) in
      (s.one.0, ap (λ (x : ℕ). slice_get (keys_at p.grove x) s.one.0) (sym same) ∙ s.one.1)

  label_here : (k : ℕ) → IsAmong (keys_at p.grove c) k → label_at q.numbers.items k ≡ raised number (label_at p.numbers.items k)
  label_here k a =
      label_is q.numbers.items k (raised number a.0) (C.numbered c (raised number a.0) k (stays_here a.0 k a.1))
      ∙ ap (raised number) (sym (label_is p.numbers.items k a.0 (C.can.runs.numbers c a.0 k a.1)))

  label_aside : (d k : ℕ) → d ≢ c → IsAmong (keys_at p.grove d) k → label_at q.numbers.items k ≡ label_at p.numbers.items k
  label_aside d k apart a =
      label_is q.numbers.items k a.0 (C.numbered d a.0 k (stays_aside d a.0 k apart a.1)) ∙ sym (label_is p.numbers.items k a.0 (C.can.runs.numbers d a.0 k a.1))

  relabel : (d : ℕ) (g h : Hop) → IsAmong (keys_at p.grove d) g.node → IsAmong (keys_at p.grove d) h.node → IsNoLater p.numbers.items g h → IsNoLater q.numbers.items g h
  relabel d g h s t later = ⊎_elim
      (λ (same : d ≡ c).
      later_by p.numbers.items q.numbers.items g h (raised number) (label_here g.node (subst (λ (x : ℕ). IsAmong (keys_at p.grove x) g.node) same s))
      (label_here h.node (subst (λ (x : ℕ). IsAmong (keys_at p.grove x) h.node) same t))
      (λ l. raised_less number (label_at p.numbers.items g.node) (label_at p.numbers.items h.node) l) later)
      (λ (apart : d ≢ c). later_by p.numbers.items q.numbers.items g h (λ x. x) (label_aside d g.node apart s) (label_aside d h.node apart t) (λ l. l) later) (cases_eq d c)

  order_still : (t : Tree) → HoldsWires p t → (way : List ℕ) (d : ℕ) → sub_reached q.grove (Some q.grove.root) way ≡ Some d → FeedsInOrder q d
  order_still t H way d at = record {
    all = λ i k inlet e. ⊎_elim
        (λ (new : k ≡ key). none_in_order q.numbers.items (feed_hops q.web k inlet) (ap (λ (x : ℕ). feed_hops q.web x inlet) new ∙ C.bare.feeds inlet))
        (λ (old : k ≢ key).
        let was = subs_back way d i k at e in
        let a = was_at d i k was.2 old e in
        let hops = C.stays.feeds k inlet (live_box p.grove forest_was d a.0 k a.1) in
        subst (AreInOrder q.numbers.items) (sym hops) (λ x y g h l u v.
        relabel d g h (feeder_there H.meet d k inlet x g a u) (feeder_there H.meet d k inlet y h a v) ((H.order was.0 d was.1).all a.0 k inlet a.1 x y g h l u v)))
        (cases_eq k key);
  }

  -- ---- all together

  pub come_holds : (new : Trees) (t : Tree) → GroveStands p.grove t.sheet t.boxes → GroveStands q.grove (put_before path number new t).sheet (put_before path number new t).boxes
      → HoldsWires p t → HoldsWires q (put_before path number new t)
  come_holds new t G N h = record {
    fed = C.fed h.fed;
    meet = C.meet h.meet;
    inside = inside_still new t G N h.inside;
    order = order_still t h;
  }

  abbrev Fit : Web → List ℕ → List Wire → Type 0
  Fit w ks ws = AllByRecursion (λ v. fits (boxes_told w ks) v ≡ true) ws

  fit_here : WiresFit p → Fit q.web (keys_at q.grove c) (wires_among q.web q.numbers.items (keys_at q.grove c))
  fit_here f =
      let ks = keys_at p.grove c in
      let told = boxes_told p.web ks in
      let x = laid_at q.web.sockets.items key in
      let more : boxes_told q.web (keys_at q.grove c) ≡ take number told ++ x ∷ drop number told =
      ap (boxes_told q.web) (keys_more p q path c key number C) ∙ map_more (laid_at q.web.sockets.items) ks number key
      ∙ ap (λ (l : List Sockets). take number l ++ x ∷ drop number l) (told_still c) in
      subst (Fit q.web (keys_at q.grove c))
      (sym (wires_with p.grove q.grove p.web q.web p.numbers.items q.numbers.items c key number forest_was (keeps p q path c key number C) C.within C.part.has))
      (subst (λ (l : List Sockets). AllByRecursion (λ v. fits l v ≡ true) (map (raised_wire number) (wires_among p.web p.numbers.items ks))) (sym more)
      (all_more told x number (wires_among p.web p.numbers.items ks) (subst (λ m. number ≤ m) (sym (length-map ks (laid_at p.web.sockets.items))) C.within) (f.all c)))

  fit_aside : WiresFit p → (d : ℕ) → d ≢ c → IsSome (get p.grove.boards d) → Fit q.web (keys_at q.grove d) (wires_among q.web q.numbers.items (keys_at q.grove d))
  fit_aside f d a live =
      subst (λ (ks : List ℕ). Fit q.web ks (wires_among q.web q.numbers.items ks)) (sym (keys_stay p q path c key number C d a live))
      (subst (Fit q.web (keys_at p.grove d))
      (sym (wires_aside p.grove q.grove p.web q.web p.numbers.items q.numbers.items key d forest_was (keeps p q path c key number C) (C.part.canvases_stay d a live)))
      (subst (λ (x : List Sockets). AllByRecursion (λ v. fits x v ≡ true) (wires_among p.web p.numbers.items (keys_at p.grove d))) (sym (told_still d)) (f.all d)))

  pub come_fits : WiresFit p → WiresFit q
  come_fits f = record {
    all = λ d. ⊎_elim
        (λ (e : d ≡ c). subst (λ (x : ℕ). Fit q.web (keys_at q.grove x) (wires_among q.web q.numbers.items (keys_at q.grove x))) (sym e) (fit_here f))
        (λ (a : d ≢ c). ⊎_elim
        (λ (none : get p.grove.boards d ≡ None).
        laid_fit q.grove q.web d C.forest.own (λ i k at. seen_there d i k none at) (λ i k o at. C.laid.fans d i k o none at) (λ i k n at. C.laid.feeds d i k n none at)
        q.numbers.items (C.numbered d))
        (λ (live : IsSome (get p.grove.boards d)). fit_aside f d a live)
        (none_or_some (get p.grove.boards d))) (cases_eq d c);
  }
