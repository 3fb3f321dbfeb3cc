-- A box without wires goes with all that lies in it: its order before, and the tree, names and numbers without it.
use Rattle.std.proofs.Common.{◌≡◌, ◌≢◌, ℕ, zero, suc, ◌+◌, ◌<◌, ◌≤◌, List, [], ◌∷◌, ◌++◌, append-nil, take, drop, length, Option, Some, None, IsSome, IsTrue, refl, sym, ap, ◌∙◌, subst, arith}
use Rattle.std.specs.Prelude.{slice_get}
use mathlib.Core.Logic.{⊎_elim}
use Rattle.std.proofs.lemmas.Bool.{cases_eq, cases_lt}
use Rattle.std.proofs.lemmas.Option.{none-some, same_Some, slice_get_within}
use Rattle.slab.specs.Slab.{get}
use Rattle.pd_atom.specs.Names.{Names}
use Rattle.pd_name.specs.declared.Class.{Class}
use Rattle.pd_name.specs.Rows.{Row, owners_of}
use Rattle.pd_order.specs.Graph.{tally, take_out, IsLawful}
use Rattle.pd_order.specs.Listing.{Listing}
use Rattle.pd_links.specs.Linked.{feeders_of, followers_of}
use Rattle.pd_grove.specs.declared.nodes.Node.{Node}
use Rattle.pd_grove.specs.declared.boards.Board.{Board}
use Rattle.pd_grove.specs.declared.grove.Grove.{Grove}
use Rattle.pd_grove.specs.Telling.{keys_in}
use Rattle.pd_grove.specs.Forest.{holder_in, IsForest}
use Rattle.pd_grove.specs.Grafts.{LiesInBox, TakesBox}
use Rattle.pd_grove.proofs.NestLemmas.{board_there}
use Rattle.pd_grove.proofs.PruneLemmas.{forest_pruned}
use Rattle.pd_grove.proofs.UseLemmas.{not_both}
use Rattle.pd_bind.specs.Owning.{root_owner, owners_in}
use Rattle.pd_owning.specs.Bound.{is_among, AreOwnersBut}
use Rattle.pd_owning.specs.Parts.{ArePart}
use Rattle.pd_owning.proofs.FollowLemmas.{owners_stay}
use Rattle.pd_owning.proofs.ListLemmas.{all_kept_none}
use Rattle.pd_web.specs.declared.web.Hop.{Hop}
use Rattle.pd_web.specs.Canvases.{keys_at}
use Rattle.pd_web.specs.Changes.{hop_at, IsListed, Meet}
use Rattle.pd_web.specs.Hops.{feed_hops}
use Rattle.pd_web.specs.Jacks.{KindsSmall}
use Rattle.pd_ports.specs.Boxes.{HasNoWires}
use Rattle.pd_ports.specs.Known.{HoldAlone}
use Rattle.pd_patch.specs.declared.patch.Patch.{Patch}
use Rattle.pd_patch.specs.Linked.{signal_sinks}
use Rattle.pd_patch.specs.Numbers.{AreApart, AreUnder, IsOut}
use Rattle.pd_patch.specs.Telling.{order_in}
use Rattle.pd_patch.proofs.ListingLemmas.{counted_at}
use Rattle.pd_wiring.specs.Graphs.{canvas_graph, signal_boxes, AreOrderedBy, HasOrderBy, IsOrderIn}
use Rattle.pd_wiring.proofs.BuiltLemmas.{wired_parts}
use Rattle.pd_wiring.proofs.GraphLemmas.{canvas_lawful, ordered_by_links}
use Rattle.pd_wiring.proofs.HeardLemmas.{heard_from}
use Rattle.pd_placing.specs.Groves.{AreBothOwn}
use Rattle.pd_placing.specs.Placing.{IsLoose, IsOrdered, LacksBox, StayBut}
use Rattle.pd_placing.proofs.ChangeLemmas.{goes_all}
use Rattle.pd_boxes.specs.declared.room.Place.{Place}
use Rattle.pd_boxes.specs.Put.{CanPut, HasOwners, IsNoPort, keys_before}
use Rattle.pd_boxes.specs.Rows.{NumbersFrom}
use Rattle.pd_clearing.specs.Clearing.{keys_past}
use Rattle.pd_taking.proofs.LoseLemmas.{none_listed, nothing_there}
use Rattle.pd_clearing.specs.Layers.{DropsOrders, IsHeldByOne}
use Rattle.pd_clearing.proofs.PartLemmas.{canvas_outside, held_by_one, held_inside, key_among}

-- Lists.

not_counted : (xs : List ℕ) → ((x : ℕ) → tally x xs ≡ 0) → xs ≡ []
not_counted [] h = refl
not_counted (x ∷ xs) h = let there = counted_at x (x ∷ xs) 0 refl in let none = h x in absurd (omega (arith, there, none))

none_or_more : (n : ℕ) → (0 < n → ⊥) → n ≡ 0
none_or_more zero h = refl
none_or_more (suc n) h = absurd (h (omega arith))

-- the elements of a list without the one at a place
behind_at : (ks : List ℕ) (n i x : ℕ) → n < length ks → n ≤ i → slice_get (take n ks ++ drop (n + 1) ks) i ≡ Some x → slice_get ks (i + 1) ≡ Some x
behind_at [] n i x l m h = absurd (omega (arith, l))
behind_at (y ∷ ks) zero i x l m h = ap (slice_get (y ∷ ks)) (let e : i + 1 ≡ suc i = omega arith in e) ∙ h
behind_at (y ∷ ks) (suc n) zero x l m h = absurd (omega (arith, m))
behind_at (y ∷ ks) (suc n) (suc i) x l m h =
    let e : suc i + 1 ≡ suc (i + 1) = omega arith in
    let d : suc n + 1 ≡ suc (n + 1) = omega arith in
    let h' : slice_get (take n ks ++ drop (n + 1) ks) i ≡ Some x = ap (λ m. slice_get (take n ks ++ drop m (y ∷ ks)) i) (sym d) ∙ h in
    ap (slice_get (y ∷ ks)) e ∙ behind_at ks n i x (omega (arith, l)) (omega (arith, m)) h'

before_at : (ks bs : List ℕ) (n i x : ℕ) → n ≤ length ks → i < n → slice_get (take n ks ++ bs) i ≡ Some x → slice_get ks i ≡ Some x
before_at ks bs zero i x l m h = absurd (omega (arith, m))
before_at [] bs (suc n) i x l m h = absurd (omega (arith, l))
before_at (y ∷ ks) bs (suc n) zero x l m h = h
before_at (y ∷ ks) bs (suc n) (suc i) x l m h = before_at ks bs n i x (omega (arith, l)) (omega (arith, m)) h

drop_taken : (ks bs : List ℕ) (n : ℕ) → n ≤ length ks → drop n (take n ks ++ bs) ≡ bs
drop_taken ks bs zero l = refl
drop_taken [] bs (suc n) l = absurd (omega (arith, l))
drop_taken (y ∷ ks) bs (suc n) l = drop_taken ks bs n (omega (arith, l))

pub drop_at : (xs : List ℕ) (n j x : ℕ) → slice_get (drop n xs) j ≡ Some x → slice_get xs (n + j) ≡ Some x
drop_at xs zero j x h = let e : 0 + j ≡ j = omega arith in ap (slice_get xs) e ∙ h
drop_at [] (suc n) j x h = absurd (nothing_there x j h)
drop_at (y ∷ xs) (suc n) j x h = let e : suc n + j ≡ suc (n + j) = omega arith in ap (slice_get (y ∷ xs)) e ∙ drop_at xs n j x h

pub hold_alone : (g : Grove) → IsForest (get g.nodes) (get g.boards) g.root → HoldAlone g
hold_alone g F k l c a b = same_Some k l (sym (F.inside k c a) ∙ F.inside l c b)

-- Before the box goes.

-- the box is no port of a box around
abbrev pub IsPlain : Patch → Place → ℕ → Type 0
IsPlain p place key = (n : Node) → get p.grove.nodes key ≡ Some n → IsNoPort p place n.kind

-- at the place stands a box with these boxes in it, none of which has wires any more
pub record IsReady (p : Patch) (place : Place) (key : ℕ) (part : List ℕ) : Type 0 where
  pub can : CanPut p
  pub is : slice_get (keys_at p.grove place.canvas) place.number ≡ Some key
  pub meet : Meet p.web
  pub are : ArePart (get p.grove.nodes) (get p.grove.boards) key part
  pub bare : (k : ℕ) → IsTrue (is_among part k) → HasNoWires p.web k

module _ (p : Patch) (place : Place) (key : ℕ) (part : List ℕ) (R : IsReady p place key part) where
  key_bare : HasNoWires p.web key
  key_bare = R.bare key (key_among (get p.grove.nodes) (get p.grove.boards) p.grove.root R.can.forest key part R.are)

  -- no signal wire comes to the box or leads from it
  pub loose : IsLoose p.links key
  loose = record {
    unfed = not_counted (feeders_of p.links key) (λ u. R.can.runs.linked.feeders u key ∙ none_or_more (tally key (signal_sinks p.web u)) (λ l.
        let f = heard_from p.web u key l in
        let x = f.found.hop in
        none_listed (feed_hops p.web key x.port) (hop_at x.key u f.outlet) (key_bare.feeds x.port)
        (subst (λ y. IsListed (feed_hops p.web y x.port) (hop_at x.key u f.outlet)) f.found.to (R.meet.fed u f.outlet f.found.place x f.found.stands))));
    unfollowed = not_counted (followers_of p.links key) (λ j. R.can.runs.linked.followers key j ∙ none_or_more (tally j (signal_sinks p.web key)) (λ l.
        let f = heard_from p.web key j l in
        nothing_there f.found.hop f.found.place (ap (λ (hs : List Hop). slice_get hs f.found.place) (sym (key_bare.fans f.outlet)) ∙ f.found.stands)));
  }

  pub lawful : IsLawful (canvas_graph p.grove p.links place.canvas) (signal_boxes p.grove place.canvas)
  lawful = canvas_lawful p.grove p.web p.links (wired_parts p R.can.runs) place.canvas

  pub by_links : AreOrderedBy p.grove p.links p.orders.items
  by_links = ordered_by_links p.grove p.web p.links (wired_parts p R.can.runs) p.orders.items R.can.runs.orders

  pub has_order : IsOrderIn (canvas_graph p.grove p.links place.canvas) (signal_boxes p.grove place.canvas) (order_in p.orders.items place.canvas)
  has_order =
      let B = board_there (get p.grove.boards place.canvas) place.number key R.is in
      subst (λ (b : Option Board). HasOrderBy (canvas_graph p.grove p.links place.canvas) (signal_boxes p.grove place.canvas) b (order_in p.orders.items place.canvas)) B.1 (by_links place.canvas)

  pub within : place.number < length (keys_at p.grove place.canvas)
  within = slice_get_within (keys_at p.grove place.canvas) place.number key R.is

  -- The tree without the box.

  module _ (h : Grove) (n : Node) (T : TakesBox (get p.grove.nodes) (get h.nodes) (get p.grove.boards) (get h.boards) place.canvas key n (keys_before p place) (keys_past p place)) where
    pub forest_left : IsForest (get h.nodes) (get h.boards) p.grove.root
    forest_left = forest_pruned (get p.grove.nodes) (get h.nodes) (get p.grove.boards) (get h.boards) p.grove.root place.canvas key n (keys_before p place) (keys_past p place) T R.can.forest

    has : keys_at h place.canvas ≡ keys_before p place ++ keys_past p place
    has = ap keys_in T.without ∙ T.has

    -- Numbers.

    pub once : AreApart (keys_at h place.canvas)
    once = forest_left.own.once place.canvas

    pub above : (i k : ℕ) → place.number ≤ i → slice_get (keys_at h place.canvas) i ≡ Some k → slice_get p.numbers.items k ≡ Some (i + 1)
    above i k l at = R.can.runs.numbers place.canvas (i + 1) k
        (behind_at (keys_at p.grove place.canvas) place.number i k within l (ap (λ (ks : List ℕ). slice_get ks i) (sym has) ∙ at))

    own_numbers : (new : List ℕ) → NumbersFrom p.numbers.items new (keys_at h place.canvas) place.number → AreUnder new (keys_at h place.canvas)
    own_numbers new N i k at = ⊎_elim
        (λ (l : i < place.number).
        N.others k (λ j there. let e = once i (place.number + j) k at (drop_at (keys_at h place.canvas) place.number j k there) in absurd (omega (arith, e, l)))
        ∙ R.can.runs.numbers place.canvas i k
        (before_at (keys_at p.grove place.canvas) (keys_past p place) place.number i k (let w = within in omega (arith, w)) l (ap (λ (ks : List ℕ). slice_get ks i) (sym has) ∙ at)))
        (λ (l : place.number ≤ i). N.under i k l at)
        (cases_lt i place.number)

    pub numbers_stay : (new : List ℕ) → NumbersFrom p.numbers.items new (keys_at h place.canvas) place.number → (k : ℕ) → IsOut (keys_past p place) k → slice_get new k ≡ slice_get p.numbers.items k
    numbers_stay new N k out = N.others k (λ j there. out j (ap (λ (ks : List ℕ). slice_get ks j)
        (sym (ap (drop place.number) has ∙ drop_taken (keys_at p.grove place.canvas) (keys_past p place) place.number (let w = within in omega (arith, w)))) ∙ there))

    -- what a canvas other than the box's has it had
    pub keys_stay : (d i x : ℕ) → d ≢ place.canvas → slice_get (keys_at h d) i ≡ Some x → slice_get (keys_at p.grove d) i ≡ Some x
    keys_stay d i x f at =
        let B = board_there (get h.boards d) i x at in
        ap (λ (o : Option Board). slice_get (keys_in o) i) (sym (T.no_canvas_comes d f (subst (λ o. IsSome o) (sym B.1) refl))) ∙ at

    pub numbers_left : (new : List ℕ) → NumbersFrom p.numbers.items new (keys_at h place.canvas) place.number → (d : ℕ) → AreUnder new (keys_at h d)
    numbers_left new N d = ⊎_elim
        (λ (e : d ≡ place.canvas). subst (λ x. AreUnder new (keys_at h x)) (sym e) (own_numbers new N))
        (λ (f : d ≢ place.canvas). λ i x at.
        let was : slice_get (keys_at p.grove d) i ≡ Some x = keys_stay d i x f at in
        numbers_stay new N x (λ j there. f (same_Some d place.canvas (sym (R.can.forest.own.home d i x was)
        ∙ R.can.forest.own.home place.canvas (place.number + 1 + j) x (drop_at (keys_at p.grove place.canvas) (place.number + 1) j x there)))) ∙ R.can.runs.numbers d i x was)
        (cases_eq d place.canvas)

    -- Names.

    pub owners_left : (names : List Row) (table : Names) → h.root ≡ p.grove.root
        → ((file away : List ℕ) → AreOwnersBut p.names table file p.grove away → AreOwnersBut names table file p.grove (part ++ away))
        → (file : List ℕ) → HasOwners p table file → (class : Class) (name : ℕ) → owners_of names class name ≡ owners_in table file h class name
    owners_left names table root U file H class name =
        subst (λ ks. AreOwnersBut names table file p.grove ks) (append-nil part) (U file [] (λ c x. H c x ∙ sym (all_kept_none (owners_in table file p.grove c x)))) class name
        ∙ owners_stay p.grove h place.canvas key n (keys_before p place) (keys_past p place) part R.can.forest R.can.apart root T R.are table file class name

    -- Kinds.

    pub was_live : (l : ℕ) → IsSome (get h.nodes l) → IsSome (get p.grove.nodes l)
    was_live l s = subst (λ o. IsSome o) (T.none_comes l s) s

    pub apart_left : get h.nodes root_owner ≡ None
    apart_left = by (get h.nodes root_owner) refl
      where
        by : (o : Option Node) → get h.nodes root_owner ≡ o → get h.nodes root_owner ≡ None
        by None e = e
        by (Some m) e = absurd (not_both (get p.grove.nodes root_owner) R.can.apart (was_live root_owner (subst (λ o. IsSome o) (sym e) refl)))

    pub small_left : KindsSmall h
    small_left l m is = R.can.small l m (sym (T.none_comes l (subst (λ o. IsSome o) (sym is) refl)) ∙ is)

    -- Orders.

    module _ (displaced left : List (Option Listing)) (lacks : LacksBox p.grove p.links displaced place.canvas key) (others : StayBut p.orders.items displaced place.canvas) (D : DropsOrders p.grove displaced left part) where
      not_held : (d : ℕ) → (LiesInBox (get p.grove.nodes) (get p.grove.boards) key d → ⊥) → IsHeldByOne p.grove part d → ⊥
      not_held d far H = far (held_inside (get p.grove.nodes) (get p.grove.boards) p.grove.root R.can.forest key part R.are H.0 d H.1 H.2)

      still_lacks : LacksBox p.grove p.links left place.canvas key
      still_lacks = subst (λ (o : Option Listing). IsOrderIn (canvas_graph p.grove p.links place.canvas) (take_out key (signal_boxes p.grove place.canvas)) o)
          (sym (D.others place.canvas (not_held place.canvas (canvas_outside (get p.grove.nodes) (get p.grove.boards) p.grove.root R.can.forest key part R.are
          (get h.nodes) (get h.boards) place.canvas n (keys_before p place) (keys_past p place) T)))) lacks

      -- a canvas that still lives has the order that it had
      pub order_stays : (d : ℕ) → d ≢ place.canvas → IsSome (get h.boards d) → order_in left d ≡ order_in p.orders.items d
      order_stays d f live = D.others d (not_held d (λ L. not_both (get h.boards d) (T.boards_go d L) live)) ∙ others d f

      still_ordered : (d : ℕ) → d ≢ place.canvas → IsSome (get h.boards d) → IsOrdered p.grove p.links left d
      still_ordered d f live =
          subst (λ (o : Option Listing). HasOrderBy (canvas_graph p.grove p.links d) (signal_boxes p.grove d) (get p.grove.boards d) o) (sym (order_stays d f live)) (by_links d)

      not_own : (d : ℕ) → get h.boards d ≡ None → d ≢ place.canvas
      not_own d e f = none-some T.new (sym e ∙ ap (get h.boards) f ∙ T.without)

      -- and one that doesn't has none
      no_order : (d : ℕ) → get h.boards d ≡ None → order_in left d ≡ None
      no_order d e = by (get p.grove.boards d) refl (order_in left d) refl
        where
          none_by : (b : Option Board) (o : Option Listing) → b ≡ None → HasOrderBy (canvas_graph p.grove p.links d) (signal_boxes p.grove d) b o → o ≡ None
          none_by b o f h = subst (λ (x : Option Board). HasOrderBy (canvas_graph p.grove p.links d) (signal_boxes p.grove d) x o) f h

          by : (b : Option Board) → get p.grove.boards d ≡ b → (o : Option Listing) → order_in left d ≡ o → order_in left d ≡ None
          by b f None g = g
          by None f (Some o) g =
              D.others d (λ H. none-some H.0 (sym (ap holder_in f) ∙ R.can.forest.inside H.0 d H.2)) ∙ others d (not_own d e)
              ∙ none_by (get p.grove.boards d) (order_in p.orders.items d) f (by_links d)
          by (Some b) f (Some o) g =
              let far : LiesInBox (get p.grove.nodes) (get p.grove.boards) key d → ⊥ =
              (λ L. let H = held_by_one (get p.grove.nodes) (get p.grove.boards) p.grove.root R.can.forest key part R.are d L in
              none-some o (sym (D.gone d (H.box, H.among, H.holds)) ∙ g)) in
              absurd (none-some b (sym e ∙ T.boards_stay d (not_own d e) far ∙ f))

      pub ordered_left : AreOrderedBy h p.links left
      ordered_left =
          let O : AreBothOwn p.grove h = record { one = R.can.forest.own; other = forest_left.own } in
          goes_all p.grove h p.links place.canvas key n (keys_before p place) (keys_past p place) O T left still_lacks no_order still_ordered
