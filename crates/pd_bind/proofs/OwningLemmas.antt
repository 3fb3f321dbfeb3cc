-- Owners bound one after another, and as boxes of a tree.
use Rattle.std.proofs.Common.{◌≡◌, ℕ, ◌≤◌, Bool, true, false, cond, List, [], ◌∷◌, ◌++◌, append_assoc, map, Option, Some, None, refl, sym, ap, ◌∙◌}
use Rattle.std.specs.Prelude.{option_map, option_and_then}
use Rattle.std.specs.List.{filter}
use Rattle.std.proofs.lemmas.Option.{none-some, same_Some}
use Rattle.slab.specs.Slab.{get}
use Rattle.pd_atom.specs.Names.{Names}
use Rattle.pd_name.specs.declared.Class.{Class}
use Rattle.pd_tree.specs.declared.rows.Sheet.{Sheet}
use Rattle.pd_tree.specs.Trees.{Cell, Trees}
use Rattle.pd_grove.specs.declared.nodes.Node.{Node}
use Rattle.pd_grove.specs.declared.grove.Grove.{Grove}
use Rattle.pd_grove.specs.declared.spots.Spot.{Spot}
use Rattle.pd_grove.specs.Standing.{GroveStands}
use Rattle.pd_grove.specs.TextOrder.{deep, Placed, placed, placed_in_order, placed_at, keys_of_spots, spots_in_order, cell_under}
use Rattle.pd_grove.proofs.SpotLemmas.{grove_spots, placed_stand}
use Rattle.pd_bind.specs.Naming.{owned_by}
use Rattle.pd_bind.specs.Owning.{is_owned, owned_at, boxes_owning, owner_if, owns, cells_of, OwnersAreOfTheTree}

one_box : (b : Bool) (p : Spot) → keys_of_spots (cond b (p ∷ []) []) ≡ owner_if b p.node
one_box true p = refl
one_box false p = refl

behind_one : (b : Bool) (q : Spot) (us vs : List Spot) (ws : List ℕ) → keys_of_spots us ≡ keys_of_spots vs ++ ws
    → keys_of_spots (cond b (q ∷ us) us) ≡ keys_of_spots (cond b (q ∷ vs) vs) ++ ws
behind_one true q us vs ws h = ap (λ x. q.node ∷ x) h
behind_one false q us vs ws h = h

owning_push : (names : Names) (nodes : ℕ → Option Node) (class : Class) (name : ℕ) (ps : List Spot) (p : Spot)
    → boxes_owning names nodes class name (ps ++ p ∷ []) ≡ boxes_owning names nodes class name ps ++ owner_if (is_owned class name (owned_at names nodes p)) p.node
owning_push names nodes class name [] p = one_box (is_owned class name (owned_at names nodes p)) p
owning_push names nodes class name (q ∷ qs) p =
    let test : Spot → Bool = λ x. is_owned class name (owned_at names nodes x) in
    behind_one (test q) q (filter test (qs ++ p ∷ [])) (filter test qs) (owner_if (test p) p.node) (owning_push names nodes class name qs p)

-- one box more is bound
pub bound_more : (table table' : Names) (nodes : ℕ → Option Node) (class : Class) (name : ℕ) (old now new : List ℕ) (done : List Spot) (p : Spot) → table' ≡ table
    → new ≡ now ++ owner_if (is_owned class name (owned_at table' nodes p)) p.node → now ≡ old ++ boxes_owning table nodes class name done
    → new ≡ old ++ boxes_owning table nodes class name (done ++ p ∷ [])
bound_more table table' nodes class name old now new done p t e h =
    let last : List ℕ = owner_if (is_owned class name (owned_at table nodes p)) p.node in
    e ∙ ap (λ x. now ++ owner_if (is_owned class name (owned_at x nodes p)) p.node) t ∙ ap (λ x. x ++ last) h
    ∙ append_assoc old (boxes_owning table nodes class name done) last
    ∙ ap (λ x. old ++ x) (sym (owning_push table nodes class name done p))

same_cell : (o : Option Cell) (top : Bool) (p : Placed) → option_map (placed top) o ≡ Some p → o ≡ Some p.cell
same_cell None top p h = absurd (none-some p h)
same_cell (Some c) top p h = ap (λ (x : Placed). Some x.cell) (same_Some (placed top c) p h)

same_owned : (names : Names) (class : Class) (name : ℕ) (o : Option Cell) (top : Bool) (p : Placed) → option_map (placed top) o ≡ Some p
    → is_owned class name (option_and_then (λ c. owned_by names top c) o) ≡ owns names class name p
same_owned names class name None top p h = absurd (none-some p h)
same_owned names class name (Some c) top p h = ap (owns names class name) (same_Some (placed top c) p h)

one_cell : (nodes : ℕ → Option Node) (b : Bool) (x : Spot) (p : Placed) (us : List Spot) (vs : List Placed) → cell_under nodes x.node ≡ Some p.cell
    → map (cell_under nodes) (keys_of_spots us) ≡ map (λ c. Some c) (cells_of vs)
    → map (cell_under nodes) (keys_of_spots (cond b (x ∷ us) us)) ≡ map (λ c. Some c) (cells_of (cond b (p ∷ vs) vs))
one_cell nodes true x p us vs e h = ap (λ y. y ∷ map (cell_under nodes) (keys_of_spots us)) e ∙ ap (λ l. Some p.cell ∷ l) h
one_cell nodes false x p us vs e h = h

same_owning : (names : Names) (nodes : ℕ → Option Node) (class : Class) (name : ℕ) (spots : List Spot) (ps : List Placed)
    → map (placed_at nodes) spots ≡ map (λ p. Some p) ps
    → map (cell_under nodes) (boxes_owning names nodes class name spots) ≡ map (λ c. Some c) (cells_of (filter (owns names class name) ps))
same_owning names nodes class name [] [] h = refl
same_owning names nodes class name [] (p ∷ ps) h = absurd (cc)
same_owning names nodes class name (x ∷ xs) [] h = absurd (cc)
same_owning names nodes class name (x ∷ xs) (p ∷ ps) h =
    let e : placed_at nodes x ≡ Some p = cc in
    let more : map (placed_at nodes) xs ≡ map (λ q. Some q) ps = cc in
    let f : Cell → Option Cell = λ c. Some c in
    let test : Spot → Bool = λ y. is_owned class name (owned_at names nodes y) in
    let us = filter test xs in
    let vs = filter (owns names class name) ps in
    one_cell nodes (test x) x p us vs (same_cell (cell_under nodes x.node) x.is_top p e) (same_owning names nodes class name xs ps more)
    ∙ ap (λ b. map f (cells_of (cond b (p ∷ vs) vs))) (same_owned names class name (cell_under nodes x.node) x.is_top p e)

pub owners_of_tree : (names : Names) (g : Grove) (s : Sheet) (t : Trees) → GroveStands g s t → deep t ≤ 256 → OwnersAreOfTheTree names g t
owners_of_tree names g s t G l = λ class name.
    same_owning names (get g.nodes) class name (spots_in_order g) (placed_in_order true t)
    (ap (map (placed_at (get g.nodes))) (grove_spots g s t G l) ∙ placed_stand (get g.nodes) (get g.boards) g.root 0 true G.keys t G.stands)
