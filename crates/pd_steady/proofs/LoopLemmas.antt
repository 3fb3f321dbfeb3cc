-- Where a tree stands, the line of each signal loop tells all boxes of it.
use Rattle.std.proofs.Common.{◌≡◌, ◌≤◌, ◌+◌, ℕ, zero, suc, Bool, true, List, [], ◌∷◌, ◌++◌, length, map, slice_get, Option, Some, None, IsSome, IfSome, option_map, refl, sym, ap, subst, ◌∙◌, append_assoc, arith}
use Rattle.std.specs.Prelude.{option_and_then}
use Rattle.std.specs.List.{AllByRecursion, cons_option, filter}
use Rattle.std.proofs.lemmas.Option.{none-some, same_Some}
use Rattle.slab.specs.Slab.{get}
use Rattle.pd_canvas.specs.declared.wires.Wire.{Wire}
use Rattle.pd_order.specs.Listing.{Listing}
use Rattle.pd_tree.specs.Trees.{Trees, Done, Leaf, Holder, Tree}
use Rattle.pd_grove.specs.declared.nodes.Node.{Node}
use Rattle.pd_grove.specs.declared.boards.Board.{Board}
use Rattle.pd_grove.specs.declared.spots.Spot.{Spot}
use Rattle.pd_grove.specs.Forest.{holder_in, IsForest}
use Rattle.pd_grove.specs.Standing.{NodeSeen, node_seen, BoardSeen, board_seen, Stands, GroveStands}
use Rattle.pd_grove.specs.Telling.{inner_in, keys_in, step_in, reached}
use Rattle.pd_grove.specs.TextOrder.{deep, keys_standing, keys_of_spots, spots_in_order, keys_in_order}
use Rattle.pd_grove.proofs.SpotLemmas.{grove_spots, keys_stand}
use Rattle.pd_owning.proofs.StandLemmas.{stands}
use Rattle.pd_patch.specs.declared.patch.Patch.{Patch}
use Rattle.pd_patch.specs.declared.report.Remark.TheVariants.{NotMade, Unfit, Loop}
use Rattle.pd_patch.specs.Report.{canvases_inside, canvases_by, has_fault, unmade_among, unfit_in, unfit_among, loops_among, notices_in}
use Rattle.pd_patch.specs.Orders.{HasOrder, AreOrdered}
use Rattle.pd_patch.specs.Telling.{order_in, is_looped}
use Rattle.pd_patch.specs.Values.{stuck_by}
use Rattle.pd_hearing.specs.Worlds.{net_of}
use Rattle.pd_guards.proofs.FactLemmas.{either, all-append, all-map, all-flat}
use Rattle.pd_stage.specs.Lines.{most_boxes, numbers_told}
use Rattle.pd_steady.specs.Told.{all_numbers, TellsLoop}
use Rattle.pd_steady.proofs.ToldLemmas.{all_told}

-- what is seen of boxes and canvases
inner_seen : (o : Option Node) (s : NodeSeen) → option_map node_seen o ≡ Some s → inner_in o ≡ s.inner
inner_seen None s h = absurd (none-some s h)
inner_seen (Some n) s h = ap (λ (x : NodeSeen). x.inner) (same_Some (node_seen n) s h)

keys_seen : (o : Option Board) (s : BoardSeen) → option_map board_seen o ≡ Some s → keys_in o ≡ s.keys
keys_seen None s h = absurd (none-some s h)
keys_seen (Some b) s h = ap (λ (x : BoardSeen). x.keys) (same_Some (board_seen b) s h)

-- a box that holds a canvas lives
holds_live : (o : Option Node) (c : ℕ) → inner_in o ≡ Some c → IsSome o
holds_live None c h = absurd (none-some c h)
holds_live (Some n) c h = refl

-- the place behind some keys
behind : (before : List ℕ) (k : ℕ) (ks : List ℕ) → slice_get (before ++ k ∷ ks) (length before) ≡ Some k
behind [] k ks = refl
behind (x ∷ before) k ks = behind before k ks

-- what holds of all
all-any : {A : Type 0} (xs : List A) → AllByRecursion (λ (x : A). Unit {0}) xs
all-any [] = tt
all-any (x ∷ xs) = (tt, all-any xs)

all-filter : {A : Type 0} (P : A → Type 0) (f : A → Bool) (xs : List A) → AllByRecursion P xs → AllByRecursion P (filter f xs)
all-filter P f [] h = tt
all-filter P f (x ∷ xs) h =
    let rest : AllByRecursion P (filter f xs) = all-filter P f xs h.1 in
    either (AllByRecursion P) (f x) (x ∷ filter f xs) (filter f xs) (h.0, rest) rest

module _ (p : Patch) where
  -- a path leads to the canvas
  abbrev IsLed : ℕ → Type 0
  IsLed c = (path : List ℕ) × (reached p.grove (Some p.grove.root) path ≡ Some c)

  -- one leads to the canvas that a box holds
  abbrev HoldsLed : ℕ → Type 0
  HoldsLed k = IfSome (inner_in (get p.grove.nodes k)) IsLed

  further : (path : List ℕ) (here : Option ℕ) (n : ℕ) → reached p.grove here (path ++ n ∷ []) ≡ option_and_then (λ canvas. step_in p.grove canvas n) (reached p.grove here path)
  further [] here n = refl
  further (m ∷ path) here n = further path (option_and_then (λ canvas. step_in p.grove canvas m) here) n

  into : (b n k c : ℕ) → IsLed b → slice_get (keys_in (get p.grove.boards b)) n ≡ Some k → inner_in (get p.grove.nodes k) ≡ Some c → IsLed c
  into b n k c h e f = (
    h.0 ++ n ∷ [],
    further h.0 (Some p.grove.root) n
        ∙ ap (λ (x : Option ℕ). option_and_then (λ canvas. step_in p.grove canvas n) x) h.1
        ∙ ap (λ (x : Option ℕ). option_and_then (λ j. inner_in (get p.grove.nodes j)) x) e
        ∙ f,
  )

  standing_led : (b d : ℕ) (before ks : List ℕ) (t : Trees) → (S : Stands (get p.grove.nodes) (get p.grove.boards) b d ks t) → keys_in (get p.grove.boards b) ≡ before ++ ks → IsLed b
      → AllByRecursion HoldsLed (keys_standing (get p.grove.nodes) (get p.grove.boards) b d ks t S)
  standing_led b d before [] Done S e h = tt
  standing_led b d before (k ∷ ks) Done S e h = absurd S
  standing_led b d before [] (Leaf c rest) S e h = absurd S
  standing_led b d before (k ∷ ks) (Leaf c rest) S e h = (
    subst (λ (x : Option ℕ). IfSome x IsLed) (sym (inner_seen (get p.grove.nodes k) _ S.0)) tt,
    standing_led b d (before ++ k ∷ []) ks rest S.1 (e ∙ sym (append_assoc before (k ∷ []) ks)) h,
  )
  standing_led b d before [] (Holder c s inner rest) S e h = absurd S
  standing_led b d before (k ∷ ks) (Holder c s inner rest) S e h =
      let i : inner_in (get p.grove.nodes k) ≡ Some S.0 = inner_seen (get p.grove.nodes k) _ S.2 in
      let inside : IsLed S.0 = into b (length before) k S.0 h (ap (λ (xs : List ℕ). slice_get xs (length before)) e ∙ behind before k ks) i in (
        subst (λ (x : Option ℕ). IfSome x IsLed) (sym i) inside,
        all-append HoldsLed (keys_standing (get p.grove.nodes) (get p.grove.boards) S.0 (d + 1) S.1 inner S.4) (keys_standing (get p.grove.nodes) (get p.grove.boards) b d ks rest S.5)
            (standing_led S.0 (d + 1) [] S.1 inner S.4 (keys_seen (get p.grove.boards S.0) _ S.3) inside)
            (standing_led b d (before ++ k ∷ []) ks rest S.5 (e ∙ sym (append_assoc before (k ∷ []) ks)) h),
      )

  -- so one leads to each canvas
  held_led : (o : Option ℕ) (cs : List ℕ) → IfSome o IsLed → AllByRecursion IsLed cs → AllByRecursion IsLed (cons_option o cs)
  held_led None cs h a = a
  held_led (Some c) cs h a = (h, a)

  inside_led : (ks : List ℕ) → AllByRecursion HoldsLed ks → AllByRecursion IsLed (canvases_inside p.grove ks)
  inside_led [] h = tt
  inside_led (k ∷ ks) h = held_led (inner_in (get p.grove.nodes k)) (canvases_inside p.grove ks) h.0 (inside_led ks h.1)

  low : (n : ℕ) → n + 1 ≤ 256 → n ≤ 256
  low n l = omega arith

  boxes_led : (t : Tree) → GroveStands p.grove t.sheet t.boxes → deep t.boxes + 1 ≤ 256 → AllByRecursion HoldsLed (keys_in_order p.grove)
  boxes_led t G l =
      let nodes = get p.grove.nodes in
      let boards = get p.grove.boards in
      let keys : keys_of_spots (spots_in_order p.grove) ≡ keys_standing nodes boards p.grove.root 0 G.keys t.boxes G.stands =
      ap keys_of_spots (grove_spots p.grove t.sheet t.boxes G (low (deep t.boxes) l)) ∙ keys_stand nodes boards p.grove.root 0 true G.keys t.boxes G.stands in
      let root : IsLed p.grove.root = ([], refl) in
      subst (AllByRecursion HoldsLed) (sym keys) (standing_led p.grove.root 0 [] G.keys t.boxes G.stands (keys_seen (boards p.grove.root) _ G.root) root)

  all_led : (t : Tree) → GroveStands p.grove t.sheet t.boxes → deep t.boxes + 1 ≤ 256 → AllByRecursion IsLed (canvases_by p.grove (keys_in_order p.grove))
  all_led t G l = (([], refl), inside_led (keys_in_order p.grove) (boxes_led t G l))

  spot_led : (ps : List Spot) (i : ℕ) (s : Spot) → AllByRecursion HoldsLed (keys_of_spots ps) → slice_get ps i ≡ Some s → HoldsLed s.node
  spot_led [] i s led at = absurd (none-some s at)
  spot_led (q ∷ qs) zero s led at = subst (λ (x : Spot). HoldsLed x.node) (same_Some q s at) led.0
  spot_led (q ∷ qs) (suc i) s led at = spot_led qs i s led.1 at

  -- so one leads to each canvas of a forest, which is the root or lies in a box
  in_box_led : IsForest (get p.grove.nodes) (get p.grove.boards) p.grove.root → AllByRecursion HoldsLed (keys_in_order p.grove) → (c h : ℕ)
      → inner_in (get p.grove.nodes h) ≡ Some c → IsLed c
  in_box_led F led c h holds =
      let at = stands (get p.grove.nodes) (get p.grove.boards) p.grove.root F h (holds_live (get p.grove.nodes h) c holds) in
      subst (λ (x : Option ℕ). IfSome x IsLed) holds (spot_led (spots_in_order p.grove) at.0 _ led at.1)

  canvas_led : IsForest (get p.grove.nodes) (get p.grove.boards) p.grove.root → AllByRecursion HoldsLed (keys_in_order p.grove) → (c : ℕ) → IsSome (get p.grove.boards c) → IsLed c
  canvas_led F led c live = by (holder_in (get p.grove.boards c)) refl
    where
      by : (o : Option ℕ) → holder_in (get p.grove.boards c) ≡ o → IsLed c
      by None e = ([], ap (λ (x : ℕ). Some x) (sym (F.alone c live e)))
      by (Some h) e = in_box_led F led c h (F.held c h e)

  -- the orders of these canvases are short
  abbrev AreShort : Type 0
  AreShort = (path : List ℕ) (c : ℕ) (o : Listing) → reached p.grove (Some p.grove.root) path ≡ Some c → order_in p.orders.items c ≡ Some o → length o.chain + length o.stuck ≤ most_boxes

  pub stuck_told : (o : Option Listing) → ((x : Listing) → o ≡ Some x → length x.chain + length x.stuck ≤ most_boxes) → numbers_told (net_of p) (stuck_by o) ≡ all_numbers (net_of p) (stuck_by o)
  stuck_told None f = refl
  stuck_told (Some x) f = (all_told (net_of p) x (f x refl)).stuck

  loop_told : AreShort → (c : ℕ) → IsLed c → TellsLoop p (Loop c)
  loop_told short c h = stuck_told (order_in p.orders.items c) (λ x e. short h.0 c x h.1 e)

  -- a canvas that doesn't live has no order
  pub each_told : (t : Tree) → GroveStands p.grove t.sheet t.boxes → deep t.boxes + 1 ≤ 256 → IsForest (get p.grove.nodes) (get p.grove.boards) p.grove.root
      → AreOrdered p.grove p.web p.orders.items → AreShort → (c : ℕ) → TellsLoop p (Loop c)
  each_told t G l F ordered short c = by (get p.grove.boards c) refl
    where
      by : (o : Option Board) → get p.grove.boards c ≡ o → TellsLoop p (Loop c)
      by None e =
          let none : order_in p.orders.items c ≡ None = subst (λ (o : Option Board). HasOrder p.grove p.web o (order_in p.orders.items c)) e (ordered c) in
          stuck_told (order_in p.orders.items c) (λ x f. absurd (none-some x (sym none ∙ f)))
      by (Some b) e = loop_told short c (canvas_led F (boxes_led t G l) c (subst (λ (o : Option Board). IsSome o) (sym e) refl))

  -- only loops have numbers of boxes
  unmade_told : (ks : List ℕ) → AllByRecursion (TellsLoop p) (unmade_among p.grove ks)
  unmade_told ks = all-map (λ (k : ℕ). Unit {0}) (TellsLoop p) (λ k. NotMade k) (λ k h. tt) (filter (λ k. has_fault (get p.grove.nodes k)) ks) (all-any (filter (λ k. has_fault (get p.grove.nodes k)) ks))

  wires_told : (c : ℕ) (wires : List Wire) → AllByRecursion (TellsLoop p) (map (λ x. Unfit c x) wires)
  wires_told c wires = all-map (λ (x : Wire). Unit {0}) (TellsLoop p) (λ x. Unfit c x) (λ x h. tt) wires (all-any wires)

  unfit_told : (cs : List ℕ) → AllByRecursion (TellsLoop p) (unfit_among p.web p.grove cs)
  unfit_told cs = all-flat (λ (c : ℕ). Unit {0}) (TellsLoop p) (unfit_in p.web p.grove) (λ c h. wires_told c _) cs (all-any cs)

  pub notices_told : (t : Tree) → GroveStands p.grove t.sheet t.boxes → deep t.boxes + 1 ≤ 256 → AreShort → AllByRecursion (TellsLoop p) (notices_in p.grove p.web p.orders.items)
  notices_told t G l short =
      let ks = keys_in_order p.grove in
      let cs = canvases_by p.grove ks in
      let loops : AllByRecursion (TellsLoop p) (loops_among p.orders.items cs) =
      all-map IsLed (TellsLoop p) (λ c. Loop c) (loop_told short) (filter (λ c. is_looped (order_in p.orders.items c)) cs) (all-filter IsLed (λ c. is_looped (order_in p.orders.items c)) cs (all_led t G l)) in
      all-append (TellsLoop p) (unmade_among p.grove ks ++ unfit_among p.web p.grove cs) (loops_among p.orders.items cs)
      (all-append (TellsLoop p) (unmade_among p.grove ks) (unfit_among p.web p.grove cs) (unmade_told ks) (unfit_told cs)) loops
