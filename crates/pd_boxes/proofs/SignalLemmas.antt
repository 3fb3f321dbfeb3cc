-- A box that came into a patch, and the signal order of its canvas.
use Rattle.std.proofs.Common.{◌≡◌, ℕ, zero, suc, ◌-◌, ◌<◌, true, List, [], ◌∷◌, ◌++◌, drop, take, length, Option, Some, refl, sym, ap, ◌∙◌, subst, arith}
use Rattle.std.specs.Prelude.{slice_get}
use Rattle.std.proofs.lemmas.Bool.{eq-eqb}
use Rattle.std.proofs.lemmas.List.{drop_all}
use Rattle.slab.specs.Slab.{get}
use Rattle.pd_atom.specs.Names.{Names}
use Rattle.pd_order.specs.Graph.{tally}
use Rattle.pd_links.specs.declared.links.Links.{Links}
use Rattle.pd_links.specs.Linked.{feeders_of, followers_of}
use Rattle.pd_grove.specs.declared.seeds.Seed.{Seed}
use Rattle.pd_grove.specs.Telling.{inner_in}
use Rattle.pd_grove.specs.Forest.{IsForest}
use Rattle.pd_grove.specs.Grafts.{HasPartMore}
use Rattle.pd_grove.proofs.ComeLemmas.{part_more}
use Rattle.pd_grove.proofs.GraftLemmas.{keys_has, place_behind, middle_at}
use Rattle.pd_web.specs.Canvases.{keys_at}
use Rattle.pd_web.specs.Jacks.{kind_jacks}
use Rattle.pd_tree.specs.Ports.{is_made}
use Rattle.pd_patch.specs.declared.patch.Patch.{Patch}
use Rattle.pd_patch.specs.Linked.{signal_sinks}
use Rattle.pd_patch.specs.Listing.{IsThere}
use Rattle.pd_patch.proofs.ListingLemmas.{counted_at}
use Rattle.pd_wiring.specs.Changes.{CanRewire}
use Rattle.pd_wiring.specs.Graphs.{is_key, AreOrderedBy}
use Rattle.pd_wiring.proofs.BuiltLemmas.{wired_parts}
use Rattle.pd_wiring.proofs.GraphLemmas.{ordered_by_links}
use Rattle.pd_wiring.proofs.HeardLemmas.{sinks_of, joined_boxes}
use Rattle.pd_placing.specs.Groves.{AreBothOwn}
use Rattle.pd_placing.specs.Placing.{is_last, IsLoose, AreOrderedBut}
use Rattle.pd_placing.proofs.ChangeLemmas.{comes_leaf}
use Rattle.pd_boxes.specs.declared.room.Place.{Place}
use Rattle.pd_boxes.specs.Put.{node_of, keys_before, keys_behind, ComesIn}
use Rattle.pd_boxes.proofs.BuiltLemmas.{still_forest, bare, still_linked}
use Rattle.pd_boxes.proofs.PutLemmas.{longer_by_one}
use Rattle.pd_boxes.proofs.WireLemmas.{old_key, wires_none, wires_same}

not_counted : (xs : List ℕ) → ((x : ℕ) → tally x xs ≡ 0) → xs ≡ []
not_counted [] h = refl
not_counted (x ∷ xs) h = let there = counted_at x (x ∷ xs) 0 refl in let none = h x in absurd (omega (arith, there, none))

none_or_more : (n : ℕ) → (0 < n → ⊥) → n ≡ 0
none_or_more zero h = refl
none_or_more (suc n) h = absurd (h (omega arith))

last_at : (a : List ℕ) (k m : ℕ) → suc m ≡ length (a ++ k ∷ []) → slice_get (a ++ k ∷ []) m ≡ Some k
last_at [] k zero e = refl
last_at [] k (suc m) e = absurd (omega (arith, e))
last_at (x ∷ a) k zero e = let l = longer_by_one a [] k in absurd (omega (arith, e, l))
last_at (x ∷ a) k (suc m) e = last_at a k m (omega (arith, e))

-- the box behind all others of a canvas stands last
pub stands_last : (ks : List ℕ) (n k : ℕ) → n ≡ length ks → is_last (take n ks ++ k ∷ drop n ks) k ≡ true
stands_last ks n k e =
    let behind : drop n ks ≡ [] = drop_all n ks (omega (arith, e)) in
    let l = longer_by_one (take n ks) [] k in
    ap (λ (zs : List ℕ). is_last (take n ks ++ k ∷ zs) k) behind
    ∙ ap (λ (o : Option ℕ). is_key k o) (last_at (take n ks) k (length (take n ks ++ k ∷ []) - 1) (omega (arith, l)))
    ∙ eq-eqb k k refl

module _ (p q : Patch) (table : Names) (place : Place) (s : Seed) (key : ℕ) (C : ComesIn p q table place s key) (F : IsForest (get p.grove.nodes) (get p.grove.boards) p.grove.root)
    (R : CanRewire p) where
  pub is_there : IsThere (keys_at q.grove place.canvas) key
  is_there = (
    place_behind (keys_before p place),
    ap (λ (ks : List ℕ). slice_get ks (place_behind (keys_before p place)))
        (keys_has (get p.grove.boards) (get q.grove.boards) place.canvas (keys_before p place ++ keys_behind p place) (keys_before p place ++ key ∷ keys_behind p place) C.grove.keys)
        ∙ middle_at (keys_before p place) (keys_behind p place) key,
  )

  pub still_last : place.number ≡ length (keys_at p.grove place.canvas) → is_last (keys_at q.grove place.canvas) key ≡ true
  still_last e =
      ap (λ (ks : List ℕ). is_last ks key)
      (keys_has (get p.grove.boards) (get q.grove.boards) place.canvas (keys_before p place ++ keys_behind p place) (keys_before p place ++ key ∷ keys_behind p place) C.grove.keys)
      ∙ stands_last (keys_at p.grove place.canvas) place.number key e

  own_wires : (u : ℕ) → signal_sinks q.web u ≡ signal_sinks p.web u
  own_wires u = ap sinks_of (wires_same p.grove q.grove place.canvas key (node_of place.canvas s) (keys_before p place) (keys_behind p place) C.grove R.own
      p.web q.web (λ side. kind_jacks side s.row.kind) (is_made s.row.kind) C.ports R.inside (bare p q table place s key C F R) u)

  no_sinks : signal_sinks q.web key ≡ []
  no_sinks = ap sinks_of (wires_none p.grove q.grove place.canvas key (node_of place.canvas s) (keys_before p place) (keys_behind p place) C.grove R.own
      p.web q.web (λ side. kind_jacks side s.row.kind) (is_made s.row.kind) C.ports R.inside (bare p q table place s key C F R))

  not_fed : (u : ℕ) → tally key (signal_sinks q.web u) ≡ 0
  not_fed u = ap (tally key) (own_wires u) ∙ none_or_more (tally key (signal_sinks p.web u)) (λ l.
      let share = (joined_boxes p.grove p.web u key R.ports.ports R.inside l).together in
      old_key p.grove q.grove place.canvas key (node_of place.canvas s) (keys_before p place) (keys_behind p place) C.grove R.own share.canvas key share.other refl)

  -- no signal wire comes to the box or leads from it
  pub is_loose : IsLoose q.links key
  is_loose =
      let H = still_linked p q table place s key C F R in
      record {
        unfed = not_counted (feeders_of q.links key) (λ u. H.feeders u key ∙ not_fed u);
        unfollowed = not_counted (followers_of q.links key) (λ j. H.followers key j ∙ ap (tally j) no_sinks);
      }

  -- the orders of the patch are those of the patch with the box, but that the box is missing
  pub lacks_box : AreOrderedBut q.grove q.links p.orders.items place.canvas key
  lacks_box =
      let G = still_forest p q table place s key C F R in
      let M = C.grove in
      let P : HasPartMore (get p.grove.nodes) (get q.grove.nodes) (get p.grove.boards) (get q.grove.boards) place.canvas key (keys_before p place) (keys_behind p place) =
      part_more (get p.grove.nodes) (get q.grove.nodes) (get q.grove.nodes) (get p.grove.boards) (get q.grove.boards) (get q.grove.boards) p.grove.root place.canvas key (node_of place.canvas s)
      (keys_before p place) (keys_behind p place) M (λ l d live. refl) (λ x live. refl) refl F G in
      let O : AreBothOwn p.grove q.grove = record { one = R.own; other = G.own } in
      let by : AreOrderedBy p.grove q.links p.orders.items = subst (λ (l : Links). AreOrderedBy p.grove l p.orders.items) (sym C.links)
      (ordered_by_links p.grove p.web p.links (wired_parts p R) p.orders.items R.orders) in
      comes_leaf p.grove q.grove q.links place.canvas key (keys_before p place) (keys_behind p place) O P p.orders.items p.grove.root F (ap inner_in M.is) by
