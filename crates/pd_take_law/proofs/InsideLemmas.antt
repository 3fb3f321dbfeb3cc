-- The canvases of a patch from which a box went, and the wires inside abstractions.
use Rattle.std.proofs.Common.{◌≡◌, ◌≢◌, ℕ, List, [], ◌∷◌, ◌++◌, slice_get, Option, Some, None, IsSome, false, refl, sym, ap, ◌∙◌, subst}
use Rattle.std.specs.Prelude.{option_map, option_and_then}
use Rattle.std.proofs.lemmas.Option.{none-some, same_Some}
use Rattle.slab.specs.Slab.{get}
use Rattle.pd_tree.specs.declared.rows.Sheet.{Sheet}
use Rattle.pd_tree.specs.Trees.{Trees, Tree}
use Rattle.pd_grove.specs.declared.nodes.Node.{Node}
use Rattle.pd_grove.specs.declared.grove.Grove.{Grove}
use Rattle.pd_grove.specs.Forest.{IsForest}
use Rattle.pd_grove.specs.OwnPaths.{sub_in, sub_reached}
use Rattle.pd_grove.specs.Places.{CanvasStands, LeadsTo, canvas_along}
use Rattle.pd_grove.specs.Standing.{BoardSeen, board_seen, GroveStands, Stands}
use Rattle.pd_grove.specs.Telling.{inner_in, keys_in, reached}
use Rattle.pd_grove.proofs.ForestLemmas.{stands_once}
use Rattle.pd_grove.proofs.PlaceLemmas.{path_leads, seen_keys}
use Rattle.pd_web.specs.Canvases.{keys_at}
use Rattle.pd_web.specs.Changes.{Meet}
use Rattle.pd_web.specs.Hops.{fan_hops, feed_hops, places_of}
use Rattle.pd_patch.specs.declared.patch.Patch.{Patch}
use Rattle.pd_patch.specs.Listing.{IsThere}
use Rattle.pd_boxes.specs.Put.{CanPut}
use Rattle.pd_owning.specs.Bound.{is_among}
use Rattle.pd_reload_law.specs.Reloading.{RunsAs}
use Rattle.pd_reload_law.proofs.EditLemmas.{sub_inner}
use Rattle.pd_putting_law.proofs.PathLemmas.{LeadsNot, live_box, live_canvas, paths_once, sub_leads}
use Rattle.pd_putting_law.proofs.StandLemmas.{aside_inside}
use Rattle.pd_alike_law.specs.Feeds.{FeedsInOrder}
use Rattle.pd_inside_law.specs.Inside.{HasWiresOf, HoldsWires, IsWiredInside}
use Rattle.pd_taking_law.specs.Takes.{taken_at}
use Rattle.pd_taking_law.specs.Taking.{TakesBoxAt}
use Rattle.pd_taking_law.proofs.StandLemmas.{live_inside, runs_less, stands_aside}
use Rattle.pd_taking_law.proofs.StayLemmas.{forest_still, leads_from_root}
use Rattle.pd_taking_law.proofs.WireLemmas.{none_gone}
use Rattle.pd_take_law.proofs.GoneLemmas.{BoxWent, lies_out, not_key, was_there, wires_gone}
use Rattle.pd_take_law.proofs.FitLemmas.{box_same, told_same}
use Rattle.pd_take_law.proofs.FeedLemmas.{still_fed}
use Rattle.pd_take_law.proofs.OrderLemmas.{feeder_there, still_ordered}

-- Paths.

nowhere : (g : Grove) (path : List ℕ) → reached g None path ≡ None
nowhere g [] = refl
nowhere g (n ∷ path) = nowhere g path

sub_nowhere : (g : Grove) (path : List ℕ) → sub_reached g None path ≡ None
sub_nowhere g [] = refl
sub_nowhere g (n ∷ path) = sub_nowhere g path

-- the box through which a path goes on
record StepsIn (g : Grove) (c n : ℕ) (path : List ℕ) (d : ℕ) : Type 0 where
  key : ℕ
  inner : ℕ
  is : slice_get (keys_at g c) n ≡ Some key
  holds : inner_in (get g.nodes key) ≡ Some inner
  on : reached g (Some inner) path ≡ Some d

steps_by : (g : Grove) (c n : ℕ) (path : List ℕ) (d : ℕ) (o : Option ℕ) → slice_get (keys_at g c) n ≡ o
    → reached g (option_and_then (λ k. inner_in (get g.nodes k)) o) path ≡ Some d → StepsIn g c n path d
steps_by g c n path d None at e = absurd (none-some d (sym (nowhere g path) ∙ e))
steps_by g c n path d (Some k) at e = on (inner_in (get g.nodes k)) refl e
  where
    on : (o : Option ℕ) → inner_in (get g.nodes k) ≡ o → reached g o path ≡ Some d → StepsIn g c n path d
    on None s e = absurd (none-some d (sym (nowhere g path) ∙ e))
    on (Some j) s e = record { key = k; inner = j; is = at; holds = s; on = e }

steps : (g : Grove) (c n : ℕ) (path : List ℕ) (d : ℕ) → reached g (Some c) (n ∷ path) ≡ Some d → StepsIn g c n path d
steps g c n path d e = steps_by g c n path d (slice_get (keys_at g c) n) refl e

step_on : (g : Grove) (c i k j : ℕ) (path : List ℕ) (d : ℕ) → slice_get (keys_at g c) i ≡ Some k → inner_in (get g.nodes k) ≡ Some j
    → reached g (Some j) path ≡ Some d → reached g (Some c) (i ∷ path) ≡ Some d
step_on g c i k j path d is holds e =
    ap (λ o. reached g (option_and_then (λ x. inner_in (get g.nodes x)) o) path) is ∙ ap (λ o. reached g o path) holds ∙ e

-- a canvas to which a path leads lives
reached_live : (g : Grove) → IsForest (get g.nodes) (get g.boards) g.root → (path : List ℕ) (d : ℕ) → reached g (Some g.root) path ≡ Some d → IsSome (get g.boards d)
reached_live g F path d e = from path g.root F.rooted.0 d e
  where
    from : (path : List ℕ) (c : ℕ) → IsSome (get g.boards c) → (d : ℕ) → reached g (Some c) path ≡ Some d → IsSome (get g.boards d)
    from [] c live d e = subst (λ x. IsSome (get g.boards x)) (same_Some c d e) live
    from (n ∷ path) c live d e =
        let s = steps g c n path d e in
        from path s.inner (live_canvas g F s.key s.inner s.holds) d s.on

-- the canvas of a tree to which a path leads
record IsAlong (g : Grove) (t : Tree) (path : List ℕ) (c : ℕ) : Type 0 where
  tree : Tree
  is : canvas_along path t ≡ Some tree
  stands : CanvasStands g c tree

along_by : (g : Grove) (t : Tree) (path : List ℕ) (c : ℕ) (o : Option Tree) → canvas_along path t ≡ o → reached g (Some g.root) path ≡ Some c → LeadsTo g (reached g (Some g.root) path) o → IsAlong g t path c
along_by g t path c None e at L = absurd (none-some c (sym L ∙ at))
along_by g t path c (Some u) e at L = record { tree = u; is = e; stands = subst (λ x. CanvasStands g x u) (same_Some L.0 c (sym L.1 ∙ at)) L.2 }

along : (g : Grove) (t : Tree) (path : List ℕ) (c : ℕ) → GroveStands g t.sheet t.boxes → reached g (Some g.root) path ≡ Some c → IsAlong g t path c
along g t path c G at = along_by g t path c (canvas_along path t) refl at (path_leads g path g.root t (record { holder = None; depth = 0; keys = G.keys; board = G.root; stands = G.stands }))

-- one path and then another
then_reached : (g : Grove) (way more : List ℕ) (o : Option ℕ) → reached g o (way ++ more) ≡ reached g (reached g o way) more
then_reached g [] more o = refl
then_reached g (n ∷ way) more None = then_reached g way more None
then_reached g (n ∷ way) more (Some c) = then_reached g way more (option_and_then (λ k. inner_in (get g.nodes k)) (slice_get (keys_at g c) n))

then_sub : (g : Grove) (way more : List ℕ) (o : Option ℕ) → sub_reached g o (way ++ more) ≡ sub_reached g (sub_reached g o way) more
then_sub g [] more o = refl
then_sub g (n ∷ way) more None = then_sub g way more None
then_sub g (n ∷ way) more (Some c) = then_sub g way more (option_and_then (λ k. sub_in (get g.nodes k)) (slice_get (keys_at g c) n))

-- the way to a canvas in the patch as it was
pub record WayBack (g h : Grove) (d c : ℕ) (way : List ℕ) : Type 0 where
  pub was : List ℕ
  pub leads : reached g (Some d) was ≡ Some c
  pub own : sub_reached g (Some d) was ≡ sub_reached h (Some d) way

module _ (g h : Grove) (path : List ℕ) (canvas key number : ℕ) (B : TakesBoxAt g h path canvas key number) where
  still : IsForest (get h.nodes) (get h.boards) h.root
  still = forest_still g h path canvas key number B

  same_box : (c i k : ℕ) → slice_get (keys_at h c) i ≡ Some k → get h.nodes k ≡ get g.nodes k
  same_box c i k at = B.takes.none_comes k (live_box h still c i k at)

  way_back : (way : List ℕ) (d c : ℕ) → reached h (Some d) way ≡ Some c → WayBack g h d c way
  way_back [] d c e = record { was = []; leads = e; own = refl }
  way_back (m ∷ way) d c e =
      let s = steps h d m way c e in
      let t = was_there g h path canvas key number B d m s.key s.is in
      let rest = way_back way s.inner c s.on in
      let same = same_box d m s.key s.is in
      record {
        was = t.0 ∷ rest.was;
        leads = step_on g d t.0 s.key s.inner rest.was c t.1 (ap inner_in (sym same) ∙ s.holds) rest.leads;
        own =
            ap (λ o. sub_reached g (option_and_then (λ k. sub_in (get g.nodes k)) o) rest.was) t.1
            ∙ ap (λ (o : Option Node). sub_reached g (sub_in o) rest.was) (sym same)
            ∙ by (sub_in (get h.nodes s.key)) refl s.inner s.holds rest.was rest.own
            ∙ sym (ap (λ o. sub_reached h (option_and_then (λ k. sub_in (get h.nodes k)) o) way) s.is);
      }
    where
      by : (o : Option ℕ) → sub_in (get h.nodes (steps h d m way c e).key) ≡ o → (j : ℕ) → inner_in (get h.nodes (steps h d m way c e).key) ≡ Some j → (was : List ℕ)
          → sub_reached g (Some j) was ≡ sub_reached h (Some j) way → sub_reached g o was ≡ sub_reached h o way
      by None q j holds was own = sub_nowhere g was ∙ sym (sub_nowhere h way)
      by (Some i) q j holds was own =
          let same : j ≡ i = same_Some j i (sym holds ∙ sub_inner (get h.nodes (steps h d m way c e).key) i q) in
          subst (λ x. sub_reached g (Some x) was ≡ sub_reached h (Some x) way) same own

  pub root_back : (way : List ℕ) (c : ℕ) → reached h (Some h.root) way ≡ Some c → WayBack g h g.root c way
  root_back way c e = way_back way g.root c (ap (λ r. reached h (Some r) way) (sym B.root) ∙ e)

module _ (old new : Patch) (path : List ℕ) (canvas key number : ℕ) (part : List ℕ) (D : BoxWent old new path canvas key number part) (C : CanPut old) where
  B : TakesBoxAt old.grove new.grove path canvas key number
  B = D.at

  F : IsForest (get new.grove.nodes) (get new.grove.boards) new.grove.root
  F = forest_still old.grove new.grove path canvas key number B

  module _ (meet : Meet old.web) where
    pub order_still : (t : Tree) → HoldsWires old t → (way : List ℕ) (c : ℕ) → sub_reached new.grove (Some new.grove.root) way ≡ Some c → FeedsInOrder new c
    order_still t H way c e =
        let w = root_back old.grove new.grove path canvas key number D.at way c (sub_leads new.grove new.grove.root c way e) in
        still_ordered old new path canvas key number part D C meet c (H.order w.was c (w.own ∙ ap (λ r. sub_reached new.grove (Some r) way) (sym B.root) ∙ e))

    -- Canvases inside abstractions.

    module _ (way : List ℕ) (c : ℕ) (leads : reached new.grove (Some new.grove.root) way ≡ Some c) (off : sub_reached new.grove (Some new.grove.root) way ≡ None) where
      was_off : sub_reached old.grove (Some old.grove.root) (root_back old.grove new.grove path canvas key number D.at way c leads).was ≡ None
      was_off = (root_back old.grove new.grove path canvas key number D.at way c leads).own ∙ ap (λ r. sub_reached new.grove (Some r) way) (sym B.root) ∙ off

      -- it isn't the canvas of the box
      apart : c ≢ canvas
      apart e =
          let w = root_back old.grove new.grove path canvas key number D.at way c leads in
          let same = paths_once old.grove C.forest path w.was old.grove.root c (sub_leads old.grove old.grove.root c path (B.leads ∙ ap (λ x. Some x) (sym e))) w.leads in
          none-some canvas (sym was_off ∙ ap (sub_reached old.grove (Some old.grove.root)) (sym same) ∙ B.leads)

      -- and that doesn't lie in it
      not_in : LeadsNot new.grove canvas c
      not_in more e =
          let on = leads_from_root old.grove new.grove path canvas key number B in
          let same : way ++ more ≡ path =
          paths_once new.grove F (way ++ more) path new.grove.root canvas (then_reached new.grove way more (Some new.grove.root) ∙ ap (λ o. reached new.grove o more) leads ∙ e)
          (sub_leads new.grove new.grove.root canvas path on) in
          none-some canvas (sym (sub_nowhere new.grove more) ∙ ap (λ o. sub_reached new.grove o more) (sym off) ∙ sym (then_sub new.grove way more (Some new.grove.root))
          ∙ ap (sub_reached new.grove (Some new.grove.root)) same ∙ on)

      live : IsSome (get new.grove.boards c)
      live = reached_live new.grove F way c leads

      board_same : get new.grove.boards c ≡ get old.grove.boards c
      board_same = B.takes.no_canvas_comes c apart live

      -- the canvas is the same in the tree
      same_canvas : (u v : Tree) → CanvasStands old.grove c u → CanvasStands new.grove c v → u ≡ v
      same_canvas u v S T =
          let e : Some (record { holder = S.holder; depth = S.depth; sheet = u.sheet; keys = S.keys }) ≡ Some (record { holder = T.holder; depth = T.depth; sheet = v.sheet; keys = T.keys }) =
          sym S.board ∙ ap (option_map board_seen) (sym board_same) ∙ T.board in
          let x = same_Some (record { holder = S.holder; depth = S.depth; sheet = u.sheet; keys = S.keys }) (record { holder = T.holder; depth = T.depth; sheet = v.sheet; keys = T.keys }) e in
          let deep : T.depth ≡ S.depth = sym (ap (λ (y : BoardSeen). y.depth) x) in
          let keys : T.keys ≡ S.keys = sym (ap (λ (y : BoardSeen). y.keys) x) in
          let sheet : u.sheet ≡ v.sheet = ap (λ (y : BoardSeen). y.sheet) x in
          let at : keys_at new.grove c ≡ S.keys = ap keys_in board_same ∙ seen_keys (get old.grove.boards c) _ S.board in
          let was = stands_aside old.grove new.grove path canvas key number B F c S.depth S.keys u.boxes (live_inside new.grove c S.keys F at) (aside_inside new.grove canvas c S.keys at not_in) S.stands in
          let now = subst (λ d. Stands (get new.grove.nodes) (get new.grove.boards) c d S.keys v.boxes) deep
          (subst (λ (ks : List ℕ). Stands (get new.grove.nodes) (get new.grove.boards) c T.depth ks v.boxes) keys T.stands) in
          let boxes : u.boxes ≡ v.boxes = stands_once (get new.grove.nodes) (get new.grove.boards) c S.depth S.keys u.boxes v.boxes was now in
          ap (λ (y : Sheet). tree_of y u.boxes) sheet ∙ ap (tree_of v.sheet) boxes
        where
          tree_of : Sheet → Trees → Tree
          tree_of y bs = record { sheet = y; boxes = bs }

      keys_same : keys_at new.grove c ≡ keys_at old.grove c
      keys_same = ap keys_in board_same

      out : (i k : ℕ) → slice_get (keys_at old.grove c) i ≡ Some k → is_among part k ≡ false
      out i k at = lies_out old.grove new.grove path canvas key number D.at part D.is_part c i k (ap (λ (ks : List ℕ). slice_get ks i) keys_same ∙ at)

      aside : (k : ℕ) → IsThere (keys_at old.grove c) k → k ≢ key
      aside k t = not_key old.grove new.grove path canvas key number D.at part D.is_part k (out t.0 k t.1)

      fans_same : (i k outlet : ℕ) → slice_get (keys_at old.grove c) i ≡ Some k → fan_hops new.web k outlet ≡ fan_hops old.web k outlet
      fans_same i k outlet at =
          let W = wires_gone old new path canvas key number part D C in
          W.fans k outlet (live_box new.grove F c i k (ap (λ (ks : List ℕ). slice_get ks i) keys_same ∙ at))
          ∙ none_gone key (fan_hops old.web k outlet) (λ j x e. let a = W.inside c k outlet j x (i, at) e in aside x.node (a.0, a.1))

      feeds_same : (i k inlet : ℕ) → slice_get (keys_at old.grove c) i ≡ Some k → feed_hops new.web k inlet ≡ feed_hops old.web k inlet
      feeds_same i k inlet at =
          D.wires.feeds k inlet (out i k at)
          ∙ none_gone key (feed_hops old.web k inlet) (λ j x e. aside x.node (feeder_there old new path canvas key number part D C meet c k inlet j x (i, at) e))

      wires_same : (u : Tree) → HasWiresOf old.web (keys_at old.grove c) u → HasWiresOf new.web (keys_at new.grove c) u
      wires_same u H = subst (λ (ks : List ℕ). HasWiresOf new.web ks u) (sym keys_same) (record {
        ports = told_same old.web new.web (keys_at old.grove c) (λ i k at. box_same old new path canvas key number part D C k (out i k at)) ∙ H.ports;
        fans = λ i outlet k at. ap places_of (fans_same i k outlet at) ∙ H.fans i outlet k at;
        feeds = λ i inlet k at. ap places_of (feeds_same i k inlet at) ∙ H.feeds i inlet k at;
      })

    inside_still : (t : Tree) → RunsAs old.grove t → HoldsWires old t → IsWiredInside new.grove new.web (taken_at path number t)
    inside_still t R H = record {
      all = λ way c v l.
          let w = root_back old.grove new.grove path canvas key number D.at way c l.here.key in
          let is = along old.grove t w.was c R.stands w.leads in
          let now = along new.grove (taken_at path number t) way c (runs_less old.grove new.grove path canvas key number t B R).stands l.here.key in
          let same : is.tree ≡ v = same_canvas way c l.here.key l.inside is.tree now.tree is.stands now.stands ∙ same_Some now.tree v (sym now.is ∙ l.here.canvas) in
          wires_same way c l.here.key l.inside v (subst (λ (x : Tree). HasWiresOf old.web (keys_at old.grove c) x) same
          (H.inside.all w.was c is.tree (record { here = record { key = w.leads; canvas = is.is }; inside = was_off way c l.here.key l.inside })));
    }

    pub still_holds : (t : Tree) → RunsAs old.grove t → HoldsWires old t → HoldsWires new (taken_at path number t)
    still_holds t R H = record {
      fed = still_fed old new path canvas key number part D C meet H.fed;
      meet = D.meet;
      inside = inside_still t R H;
      order = order_still t H;
    }
