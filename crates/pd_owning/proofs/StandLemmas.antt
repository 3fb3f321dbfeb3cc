-- Each live box stands in text order, in the patch's own document where the boxes around it are subpatches.
use Rattle.std.proofs.Common.{◌≡◌, ℕ, zero, suc, ◌+◌, ◌-◌, Bool, true, ◌&&◌, List, [], ◌∷◌, ◌++◌, Option, Some, None, IsSome, refl, sym, ap, ◌∙◌, subst, arith}
use Rattle.std.specs.Prelude.{slice_get, option_and_then}
use Rattle.std.specs.List.{flat_map}
use Rattle.std.proofs.lemmas.Option.{none-some, same_Some}
use Rattle.pd_grove.specs.declared.nodes.Node.{Node}
use Rattle.pd_grove.specs.declared.boards.Board.{Board}
use Rattle.pd_grove.specs.declared.spots.Spot.{Spot}
use Rattle.pd_grove.specs.Standing.{depth_of}
use Rattle.pd_grove.specs.Telling.{inner_in, keys_in}
use Rattle.pd_grove.specs.Owning.{board_in}
use Rattle.pd_grove.specs.Forest.{holder_in, IsForest}
use Rattle.pd_grove.specs.TextOrder.{keys_inside, spot, box_spots, spots_among}
use Rattle.pd_grove.proofs.SpotLemmas.{spots_suc}
use Rattle.pd_grove.proofs.NestLemmas.{board_there, node_there}
use Rattle.pd_owning.specs.Order.{level, is_sub_box, own_in, is_own}
use Rattle.pd_owning.proofs.OutLemmas.{level_is}

-- a box stands in a list
abbrev pub Has : List Spot → Spot → Type 0
Has ps p = (i : ℕ) × (slice_get ps i ≡ Some p)

has_left : (xs ys : List Spot) (i : ℕ) (p : Spot) → slice_get xs i ≡ Some p → slice_get (xs ++ ys) i ≡ Some p
has_left [] ys i p at = absurd (none-some p at)
has_left (x ∷ xs) ys zero p at = at
has_left (x ∷ xs) ys (suc i) p at = has_left xs ys i p at

has_right : (xs ys : List Spot) (p : Spot) → Has ys p → Has (xs ++ ys) p
has_right [] ys p h = h
has_right (x ∷ xs) ys p h = (let r = has_right xs ys p h in (suc r.0, r.1))

pub has_flat : (f : ℕ → List Spot) (ks : List ℕ) (i k : ℕ) → slice_get ks i ≡ Some k → (p : Spot) → Has (f k) p → Has (flat_map f ks) p
has_flat f [] i k at p h = absurd (none-some k at)
has_flat f (x ∷ ks) zero k at p h =
    let same : Has (f x) p = subst (λ y. Has (f y) p) (sym (same_Some x k at)) h in
    (same.0, has_left (f x) (flat_map f ks) same.0 p same.1)
has_flat f (x ∷ ks) (suc i) k at p h = has_right (f x) (flat_map f ks) p (has_flat f ks i k at p h)

pub live_there : (o : Option Node) → IsSome o → (n : Node) × (o ≡ Some n)
live_there None h = absurd (cc)
live_there (Some n) h = (n, refl)

-- whether the boxes around a canvas are subpatches, so many of them
abbrev pub own_canvas : (ℕ → Option Node) → (ℕ → Option Board) → ℕ → ℕ → Bool
own_canvas nodes boards zero c = true
own_canvas nodes boards (suc d) c = own_in nodes (is_own nodes boards d) (holder_in (boards c))

module _ (nodes : ℕ → Option Node) (boards : ℕ → Option Board) (root : ℕ) (F : IsForest nodes boards root) where
  own_box : (d c k : ℕ) → board_in (nodes k) ≡ Some c → is_own nodes boards d k ≡ own_canvas nodes boards d c
  own_box zero c k lies = refl
  own_box (suc d) c k lies = ap (λ o. own_in nodes (is_own nodes boards d) (option_and_then (λ x. holder_in (boards x)) o)) lies

  -- what stands inside a box stands among the boxes of its canvas
  box_inside : (inside : Bool → List ℕ → List Spot) (top : Bool) (h c : ℕ) (n : Node) → nodes h ≡ Some n → n.inner ≡ Some c → (p : Spot)
      → Has (inside (top && is_sub_box (nodes h)) (keys_in (boards c))) p → Has (box_spots boards inside top h (nodes h)) p
  box_inside inside top h c n e holds p at =
      let moved : Has (inside (top && is_sub_box (Some n)) (keys_inside boards n.inner)) p =
      subst (λ i. Has (inside (top && is_sub_box (Some n)) (keys_inside boards i)) p) (sym holds) (subst (λ o. Has (inside (top && is_sub_box o) (keys_in (boards c))) p) e at) in
      subst (λ o. Has (box_spots boards inside top h o) p) (sym e) (suc moved.0, moved.1)

  -- what stands in a canvas stands in the whole order
  pub in_order : (d c m : ℕ) (p : Spot) → depth_of (boards c) ≡ d → IsSome (boards c) → m + d ≡ 257 → Has (spots_among nodes boards m (own_canvas nodes boards d c) (keys_in (boards c))) p
      → Has (spots_among nodes boards 257 true (keys_in (boards root))) p
  in_order zero c m p deep live l at = by (holder_in (boards c)) refl
    where
      by : (o : Option ℕ) → holder_in (boards c) ≡ o → Has (spots_among nodes boards 257 true (keys_in (boards root))) p
      by None e =
          let same : m ≡ 257 = omega (arith, l) in
          subst (λ y. Has (spots_among nodes boards y true (keys_in (boards root))) p) same (subst (λ y. Has (spots_among nodes boards m true (keys_in (boards y))) p) (F.alone c live e) at)
      by (Some h) e =
          let holds = F.held c h e in
          let N = node_there (nodes h) c holds in
          let q = F.deeper h N.0.board c (ap board_in N.1) holds in
          absurd (omega (arith, q, deep))
  in_order (suc d) c m p deep live l at = by (λ x m' D L l' at'. in_order d x m' p D L l' at') (holder_in (boards c)) refl
    where
      by : ((x m' : ℕ) → depth_of (boards x) ≡ d → IsSome (boards x) → m' + d ≡ 257 → Has (spots_among nodes boards m' (own_canvas nodes boards d x) (keys_in (boards x))) p
          → Has (spots_among nodes boards 257 true (keys_in (boards root))) p) → (o : Option ℕ) → holder_in (boards c) ≡ o → Has (spots_among nodes boards 257 true (keys_in (boards root))) p
      by P None e =
          let q : depth_of (boards c) ≡ 0 = ap (λ y. depth_of (boards y)) (F.alone c live e) ∙ F.rooted.2 in
          absurd (omega (arith, q, deep))
      by P (Some h) e =
          let holds = F.held c h e in
          let N = node_there (nodes h) c holds in
          let x = N.0.board in
          let lies : board_in (nodes h) ≡ Some x = ap board_in N.1 in
          let deeper = F.deeper h x c lies holds in
          let place = F.placed h x lies in
          let B = board_there (boards x) place.0 h place.1 in
          let top = own_canvas nodes boards d x in
          let same : own_canvas nodes boards (suc d) c ≡ top && is_sub_box (nodes h) =
          ap (own_in nodes (is_own nodes boards d)) e ∙ ap (λ b. b && is_sub_box (nodes h)) (own_box d x h lies) in
          let within : Has (spots_among nodes boards m (top && is_sub_box (nodes h)) (keys_in (boards c))) p = subst (λ b. Has (spots_among nodes boards m b (keys_in (boards c))) p) same at in
          let inner : N.0.inner ≡ Some c = sym (ap inner_in N.1) ∙ holds in
          let f : ℕ → List Spot = λ k. box_spots boards (spots_among nodes boards m) top k (nodes k) in
          P x (suc m) (omega (arith, deeper, deep)) (subst (λ o. IsSome o) (sym B.1) refl) (omega (arith, l))
          (subst (λ ps. Has ps p) (sym (spots_suc nodes boards m top (keys_in (boards x))))
          (has_flat f (keys_in (boards x)) place.0 h place.1 p (box_inside (spots_among nodes boards m) top h c N.0 N.1 inner p within)))

  -- each live box stands there
  pub stands : (k : ℕ) → IsSome (nodes k) → Has (spots_among nodes boards 257 true (keys_in (boards root))) (spot (is_own nodes boards (level nodes boards k) k) k)
  stands k live =
      let N = live_there (nodes k) live in
      let c = N.0.board in
      let lies : board_in (nodes k) ≡ Some c = ap board_in N.1 in
      let place = F.placed k c lies in
      let B = board_there (boards c) place.0 k place.1 in
      let d = depth_of (boards c) in
      let low = F.shallow c in
      let m : ℕ = 256 - d in
      let top = own_canvas nodes boards d c in
      let p : Spot = spot (is_own nodes boards (level nodes boards k) k) k in
      let same : is_own nodes boards (level nodes boards k) k ≡ top = ap (λ y. is_own nodes boards y k) (level_is nodes boards k c lies) ∙ own_box d c k lies in
      let f : ℕ → List Spot = λ x. box_spots boards (spots_among nodes boards m) top x (nodes x) in
      let here : Has (f k) (spot top k) = subst (λ o. Has (box_spots boards (spots_among nodes boards m) top k o) (spot top k)) (sym N.1) (zero, refl) in
      in_order d c (suc m) p refl (subst (λ o. IsSome o) (sym B.1) refl) (omega (arith, low))
      (subst (λ ps. Has ps p) (sym (spots_suc nodes boards m top (keys_in (boards c))))
      (has_flat f (keys_in (boards c)) place.0 k place.1 p (subst (λ b. Has (f k) (spot b k)) (sym same) here)))
