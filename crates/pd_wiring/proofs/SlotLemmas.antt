-- The orders of canvases in their list.
use Rattle.std.proofs.Common.{arith, ◌≡◌, ℕ, zero, suc, ◌<◌, List, [], ◌∷◌, length, get_or, set, refl, ap}
use Rattle.std.specs.Prelude.{Option}
use Rattle.pd_order.specs.Graph.{Graph}
use Rattle.pd_order.specs.Listing.{Listing}
use Rattle.pd_patch.specs.Telling.{order_in}
use Rattle.pd_wiring.specs.Graphs.{IsOrderIn}

-- a canvas with an order has a place
pub slot_there : (g : Graph) (nodes : List ℕ) (orders : List (Option Listing)) (c : ℕ) → IsOrderIn g nodes (order_in orders c) → c < length orders
slot_there g nodes [] c h = absurd h
slot_there g nodes (o ∷ orders) zero h = omega arith
slot_there g nodes (o ∷ orders) (suc c) h = let rest = slot_there g nodes orders c h in omega (arith, rest)

pub slot_is : (orders : List (Option Listing)) (c : ℕ) (d : Option Listing) → c < length orders → get_or orders c d ≡ order_in orders c
slot_is [] c d l = absurd (omega (arith, l))
slot_is (o ∷ orders) zero d l = refl
slot_is (o ∷ orders) (suc c) d l = slot_is orders c d (omega (arith, l))

pub slot_set : (orders : List (Option Listing)) (c : ℕ) (o : Option Listing) → c < length orders → order_in (set orders c o) c ≡ o
slot_set [] c o l = absurd (omega (arith, l))
slot_set (x ∷ orders) zero o l = refl
slot_set (x ∷ orders) (suc c) o l = slot_set orders c o (omega (arith, l))

pub slot_kept : (orders : List (Option Listing)) (c d : ℕ) (o : Option Listing) → (d ≡ c → ⊥) → order_in (set orders c o) d ≡ order_in orders d
slot_kept [] c d o differ = refl
slot_kept (x ∷ orders) zero zero o differ = absurd (differ refl)
slot_kept (x ∷ orders) zero (suc d) o differ = refl
slot_kept (x ∷ orders) (suc c) zero o differ = refl
slot_kept (x ∷ orders) (suc c) (suc d) o differ = slot_kept orders c d o (λ e. differ (ap (λ (n : ℕ). suc n) e))
