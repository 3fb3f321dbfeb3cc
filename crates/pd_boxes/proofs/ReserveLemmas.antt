-- What stays where room is set aside for a box, and that the box takes no more.
use Rattle.std.proofs.Common.{◌≡◌, ◌≢◌, ℕ, suc, ◌≤◌, List, [], ◌∷◌, append-nil, map, length, Option, Some, None, refl, sym, ap, ◌∙◌, subst, arith}
use Rattle.std.specs.Prelude.{max}
use native.Mathlib.Nat.{le-max_left, le-max_right}
use mathlib.Core.Logic.{⊎_elim}
use Rattle.std.proofs.lemmas.Bool.{cases_eq}
use Rattle.pd_order.specs.Listing.{Listing}
use Rattle.pd_tree.specs.declared.rows.Row.{Row}
use Rattle.pd_tree.specs.Trees.{stands_in}
use Rattle.pd_grove.specs.declared.grove.Grove.{Grove}
use Rattle.pd_grove.specs.declared.seeds.Seed.{Seed}
use Rattle.pd_grove.specs.Planting.{seed_stand, stands_ready}
use Rattle.pd_grove.specs.Room.{IsSameButRoom}
use Rattle.pd_web.specs.declared.web.Web.{Web}
use Rattle.pd_web.specs.Changes.{IsSame}
use Rattle.pd_ports.specs.declared.room.PortRoom.{PortRoom}
use Rattle.pd_ports.specs.Room.{HasLists}
use Rattle.pd_patch.specs.Telling.{order_in}
use Rattle.pd_placing.specs.Room.{IsSameButRoom as IsSameOrder}
use Rattle.pd_boxes.specs.Rows.{IsLonger}

-- What isn't changed is as it was.

pub same_grove : (g : Grove) → IsSameButRoom g g
same_grove g = record { nodes = λ k. refl; boards = λ c. refl; longer = omega arith; labels = λ k l. refl; root = refl }

pub same_web : (w : Web) → IsSame w w
same_web w = record { kept = record { ports = λ side k. refl; made = λ k. refl; homes = λ j. refl }; lines = λ k. refl; fans = λ k o. refl; feeds = λ k i. refl }

pub same_order : (o : Option Listing) → IsSameOrder o o
same_order None = refl
same_order (Some x) = record { chain = refl; stuck = refl; spots = refl; room = omega arith }

-- an order with more room, and the others as they were
pub same_orders : (old new : List (Option Listing)) (c : ℕ) → IsSameOrder (order_in old c) (order_in new c) → ((d : ℕ) → d ≢ c → order_in new d ≡ order_in old d)
    → (d : ℕ) → IsSameOrder (order_in old d) (order_in new d)
same_orders old new c here others d = ⊎_elim
    (λ (e : d ≡ c). subst (λ x. IsSameOrder (order_in old x) (order_in new x)) (sym e) here)
    (λ (f : d ≢ c). subst (λ o. IsSameOrder (order_in old d) o) (sym (others d f)) (same_order (order_in old d))) (cases_eq d c)

pub longer_self : {X : Type 0} (x : X) (xs : List X) → IsLonger x xs xs
longer_self x xs = (0, sym (append-nil xs))

-- a list by key that reaches further reaches as far as it did, and as far as it is to

pub reach_kept : (old new : ℕ) → new ≡ old → old ≤ new
reach_kept old new e = omega (arith, e)

pub reach_still : (old end new : ℕ) → new ≡ max old end → old ≤ new
reach_still old end new e = subst (λ x. old ≤ x) (sym e) (le-max_left old end)

pub reach_more : (old end new : ℕ) → new ≡ max old end → end ≤ new
reach_more old end new e = subst (λ x. end ≤ x) (sym e) (le-max_right old end)

-- no rows become no seeds

none_mapped : {A B : Type 0} (f : A → B) (xs : List A) → map f xs ≡ [] → xs ≡ []
none_mapped f [] e = refl
none_mapped f (x ∷ xs) e = let l : suc (length (map f xs)) ≡ 0 = ap length e in absurd (omega (arith, l))

pub none_ready : (seeds : List Seed) (rows : List Row) → rows ≡ [] → stands_ready seeds ≡ stands_in rows → seeds ≡ []
none_ready seeds rows none e = none_mapped seed_stand seeds (e ∙ ap stands_in none)

-- room for so many ports, told as the kind tells them
pub lists_for : (room : PortRoom) (inlets outlets n m : ℕ) → inlets ≡ n → outlets ≡ m → HasLists room inlets outlets → HasLists room n m
lists_for room inlets outlets n m e f h = subst (λ (x : ℕ). HasLists room x m) e (subst (λ (x : ℕ). HasLists room inlets x) f h)
