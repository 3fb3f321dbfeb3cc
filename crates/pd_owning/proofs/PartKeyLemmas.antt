-- The keys of a box with all that lies in it, in text order: they don't hang on whether the box is in the patch's own document.
use Rattle.std.proofs.Common.{◌≡◌, ℕ, zero, suc, ◌-◌, Bool, true, ◌&&◌, List, [], ◌∷◌, ◌++◌, Option, Some, None, IsSome, refl, sym, ap, ◌∙◌}
use Rattle.std.specs.List.{flat_map}
use Rattle.std.proofs.lemmas.Bool.{false≢true}
use Rattle.std.proofs.lemmas.List.{map-append}
use Rattle.pd_canvas.specs.Views.{entry_of}
use Rattle.pd_grove.specs.declared.nodes.Node.{Node}
use Rattle.pd_grove.specs.declared.boards.Board.{Board}
use Rattle.pd_grove.specs.declared.spots.Spot.{Spot}
use Rattle.pd_grove.specs.Telling.{inner_in, keys_in}
use Rattle.pd_grove.specs.Forest.{IsForest}
use Rattle.pd_grove.specs.TextOrder.{keys_inside, spot, box_spots, spots_among, keys_of_spots, is_sub}
use Rattle.pd_grove.proofs.SpotLemmas.{spots_none, spots_suc}
use Rattle.pd_owning.specs.Order.{level}
use Rattle.pd_owning.specs.Parts.{part_keys, part_spots, ArePart}
use Rattle.pd_owning.proofs.LessLemmas.{empty}
use Rattle.pd_owning.proofs.PartLemmas.{are_part}

keys_flat : (f g : ℕ → List Spot) (ks : List ℕ) → ((k : ℕ) → keys_of_spots (f k) ≡ keys_of_spots (g k)) → keys_of_spots (flat_map f ks) ≡ keys_of_spots (flat_map g ks)
keys_flat f g [] H = refl
keys_flat f g (k ∷ ks) H =
    map-append (λ (p : Spot). p.node) (f k) (flat_map f ks)
    ∙ ap (λ xs. xs ++ keys_of_spots (flat_map f ks)) (H k) ∙ ap (λ ys. keys_of_spots (g k) ++ ys) (keys_flat f g ks H)
    ∙ sym (map-append (λ (p : Spot). p.node) (g k) (flat_map g ks))

same_box : (boards : ℕ → Option Board) (inside : Bool → List ℕ → List Spot) (top top' : Bool) (k : ℕ) (o : Option Node)
    → ((t t' : Bool) (ks : List ℕ) → keys_of_spots (inside t ks) ≡ keys_of_spots (inside t' ks))
    → keys_of_spots (box_spots boards inside top k o) ≡ keys_of_spots (box_spots boards inside top' k o)
same_box boards inside top top' k None H = refl
same_box boards inside top top' k (Some n) H =
    ap (λ ks. k ∷ ks) (H (top && is_sub (entry_of n.element).head.form) (top' && is_sub (entry_of n.element).head.form) (keys_inside boards n.inner))

module _ (nodes : ℕ → Option Node) (boards : ℕ → Option Board) where
  same_keys : (n : ℕ) (top top' : Bool) (ks : List ℕ) → keys_of_spots (spots_among nodes boards n top ks) ≡ keys_of_spots (spots_among nodes boards n top' ks)
  same_keys zero top top' ks = ap keys_of_spots (spots_none nodes boards top ks ∙ sym (spots_none nodes boards top' ks))
  same_keys (suc n) top top' ks =
      ap keys_of_spots (spots_suc nodes boards n top ks)
      ∙ keys_flat (λ k. box_spots boards (spots_among nodes boards n) top k (nodes k)) (λ k. box_spots boards (spots_among nodes boards n) top' k (nodes k)) ks
      (λ k. same_box boards (spots_among nodes boards n) top top' k (nodes k) (same_keys n))
      ∙ ap keys_of_spots (sym (spots_suc nodes boards n top' ks))

  pub keys_told : (p : Spot) → keys_of_spots (part_spots nodes boards p) ≡ part_keys nodes boards p.node
  keys_told p = same_box boards (spots_among nodes boards (256 - level nodes boards p.node)) p.is_top true p.node (nodes p.node) (same_keys (256 - level nodes boards p.node))

  -- whether the box is in the patch's own document or not
  pub part_told : (top : Bool) (k : ℕ) → keys_of_spots (part_spots nodes boards (spot top k)) ≡ part_keys nodes boards k
  part_told top k = keys_told (spot top k)

  -- a live box in which no boxes lie is alone
  pub alone_inside : (k : ℕ) → IsSome (nodes k) → keys_inside boards (inner_in (nodes k)) ≡ [] → part_keys nodes boards k ≡ k ∷ []
  alone_inside k = by (nodes k)
    where
      inside : Bool → List ℕ → List Spot
      inside = spots_among nodes boards (256 - level nodes boards k)

      by : (o : Option Node) → IsSome o → keys_inside boards (inner_in o) ≡ [] → keys_of_spots (box_spots boards inside true k o) ≡ k ∷ []
      by None live none = absurd (false≢true live)
      by (Some n) live none =
          ap (λ ks. k ∷ keys_of_spots (inside (true && is_sub (entry_of n.element).head.form) ks)) none
          ∙ ap (λ ps. k ∷ keys_of_spots ps) (empty nodes boards (256 - level nodes boards k) (true && is_sub (entry_of n.element).head.form))

  -- one that holds no canvas
  pub alone_bare : (k : ℕ) → IsSome (nodes k) → inner_in (nodes k) ≡ None → part_keys nodes boards k ≡ k ∷ []
  alone_bare k live bare = alone_inside k live (ap (keys_inside boards) bare)

  -- and one whose canvas has no boxes
  pub alone_empty : (k c : ℕ) → IsSome (nodes k) → inner_in (nodes k) ≡ Some c → keys_in (boards c) ≡ [] → part_keys nodes boards k ≡ k ∷ []
  alone_empty k c live holds none = alone_inside k live (ap (keys_inside boards) holds ∙ none)

  -- a key that is no box's has none
  pub no_keys : (k : ℕ) → nodes k ≡ None → part_keys nodes boards k ≡ []
  no_keys k e = ap (λ o. keys_of_spots (box_spots boards (spots_among nodes boards (256 - level nodes boards k)) true k o)) e

-- they are the box and all boxes that lie in it
pub part_are : (nodes : ℕ → Option Node) (boards : ℕ → Option Board) (root : ℕ) → IsForest nodes boards root → (k : ℕ) → IsSome (nodes k) → ArePart nodes boards k (part_keys nodes boards k)
part_are nodes boards root F k live = are_part nodes boards root F k true live
