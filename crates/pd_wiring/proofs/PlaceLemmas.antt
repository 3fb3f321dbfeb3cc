-- Orders that have as many boxes as they had, and room for as many.
use Rattle.std.proofs.Common.{arith, ◌≡◌, ℕ, zero, suc, ◌<◌, List, [], ◌∷◌, length, set, refl, ap, ◌∙◌, subst}
use Rattle.std.specs.Prelude.{Option, Some, None}
use Rattle.std.proofs.lemmas.List.{length-map}
use Rattle.pd_order.specs.declared.spots.Spot.{Spot}
use Rattle.pd_order.specs.Spots.{nodes_of}
use Rattle.pd_order.specs.Listing.{Listing}
use Rattle.pd_patch.specs.Telling.{order_in}
use Rattle.pd_wiring.specs.Changes.{HasSamePlaces, SamePlaces}

pub places_none : (o : Option Listing) → SamePlaces o o
places_none None = refl
places_none (Some o) = record { spots = refl; room = refl }

pub places_on : (a b c : Option Listing) → SamePlaces a b → SamePlaces b c → SamePlaces a c
places_on None b c S T = subst (λ (o : Option Listing). SamePlaces o c) S T
places_on (Some a) None c S T = absurd S
places_on (Some a) (Some b) None S T = T
places_on (Some a) (Some b) (Some c) S T = record { spots = T.spots ∙ S.spots; room = T.room ∙ S.room }

-- a mended order lists the nodes that it had
pub places_of : (old new : Listing) → nodes_of new.spots ≡ nodes_of old.spots → new.room ≡ old.room → HasSamePlaces old new
places_of old new nodes room = record {
  spots = let a = ap length nodes in let b = length-map new.spots (λ (s : Spot). s.node) in let c = length-map old.spots (λ (s : Spot). s.node) in omega (arith, a, b, c);
  room = room;
}

-- one order of them is mended
pub slot_places : (orders : List (Option Listing)) (c : ℕ) (o : Option Listing) → SamePlaces (order_in orders c) o → (d : ℕ) → SamePlaces (order_in orders d) (order_in (set orders c o) d)
slot_places [] c o S d = refl
slot_places (x ∷ orders) zero o S zero = S
slot_places (x ∷ orders) zero o S (suc d) = places_none (order_in orders d)
slot_places (x ∷ orders) (suc c) o S zero = places_none x
slot_places (x ∷ orders) (suc c) o S (suc d) = slot_places orders c o S d
