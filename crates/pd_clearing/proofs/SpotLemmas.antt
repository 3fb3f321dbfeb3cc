-- A box and all boxes that lie in it, told in text order.
use Rattle.std.proofs.Common.{◌≡◌, ℕ, zero, suc, true, List, [], ◌∷◌, ◌++◌, append-nil, nat_eq, IsTrue, inl, inr, refl, sym, subst, eqb-true, arith}
use Rattle.std.specs.Prelude.{slice_get, Some, ◌⊎◌}
use Rattle.std.proofs.lemmas.Bool.{or_cases, false≢true}
use Rattle.slab.specs.Slab.{get}
use Rattle.pd_order.proofs.Basics.{by_test}
use Rattle.pd_grove.specs.declared.grove.Grove.{Grove}
use Rattle.pd_grove.specs.declared.spots.Spot.{Spot}
use Rattle.pd_grove.specs.Forest.{IsForest}
use Rattle.pd_grove.specs.TextOrder.{keys_of_spots, spots_in_order}
use Rattle.pd_owning.specs.Bound.{is_among, AreNew}
use Rattle.pd_owning.specs.Parts.{part_spots}
use Rattle.pd_owning.proofs.PartLemmas.{are_part, part_once, part_stands, spot_live}
use Rattle.pd_clearing.specs.Clearing.{IsPartOf}

-- a box with this key stands in the list
record HasKey (ps : List Spot) (k : ℕ) : Type 0 where
  place : ℕ
  spot : Spot
  at : slice_get ps place ≡ Some spot
  is : spot.node ≡ k

key_place : (ps : List Spot) (k : ℕ) → IsTrue (is_among (keys_of_spots ps) k) → HasKey ps k
key_place [] k t = absurd (false≢true t)
key_place (p ∷ ps) k t = by (or_cases (nat_eq k p.node) (is_among (keys_of_spots ps) k) t) (λ r. key_place ps k r)
  where
    by : (nat_eq k p.node ≡ true) ⊎ (is_among (keys_of_spots ps) k ≡ true) → (is_among (keys_of_spots ps) k ≡ true → HasKey ps k) → HasKey (p ∷ ps) k
    by (inl e) f = record { place = zero; spot = p; at = refl; is = sym (eqb-true k p.node e) }
    by (inr r) f = let h = f r in record { place = suc h.place; spot = h.spot; at = h.at; is = h.is }

new_once : (ps : List Spot) → ((j m : ℕ) (x y : Spot) → slice_get ps j ≡ Some x → slice_get ps m ≡ Some y → x.node ≡ y.node → j ≡ m) → AreNew (keys_of_spots ps) []
new_once [] once = tt
new_once (p ∷ ps) once = (
  by_test (is_among (keys_of_spots ps ++ []) p.node)
      (λ t. let h = key_place ps p.node (subst (λ ks. IsTrue (is_among ks p.node)) (append-nil (keys_of_spots ps)) t) in
      let same = once zero (suc h.place) p h.spot refl h.at (sym h.is) in absurd (omega (arith, same)))
      (λ f. f),
  new_once ps (λ j m x y a b e. let same = once (suc j) (suc m) x y a b e in omega (arith, same)),
)

pub is_part : (g : Grove) (F : IsForest (get g.nodes) (get g.boards) g.root) (key : ℕ) (p : Spot) (spots : List Spot) → p.node ≡ key → (i : ℕ) × (slice_get (spots_in_order g) i ≡ Some p)
    → spots ≡ part_spots (get g.nodes) (get g.boards) p → IsPartOf g key spots
is_part g F key p spots same S e = subst (λ ps. IsPartOf g key ps) (sym e) (subst (λ k. IsPartOf g k (part_spots (get g.nodes) (get g.boards) p)) same (record {
  are = are_part (get g.nodes) (get g.boards) g.root F p.node p.is_top (spot_live g F p S.0 S.1);
  once = new_once (part_spots (get g.nodes) (get g.boards) p) (λ j m x y a b q. part_once g F p S.0 S.1 j m x y a b q);
  stand = λ j q at. part_stands g F p S.0 S.1 j q at;
}))
