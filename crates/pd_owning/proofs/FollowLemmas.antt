-- The owners of names where a box goes with all that lies in it.
use Rattle.std.proofs.Common.{◌≡◌, ℕ, zero, suc, Bool, true, false, not, cond, List, [], ◌∷◌, ◌++◌, Option, Some, None, IsSome, refl, sym, ap, ◌∙◌, arith}
use Rattle.std.specs.Prelude.{option_map, option_and_then}
use Rattle.std.specs.List.{filter, AllByRecursion}
use Rattle.std.proofs.lemmas.Option.{none-some, same_Some}
use Rattle.slab.specs.Slab.{get}
use Rattle.pd_atom.specs.Names.{Names}
use Rattle.pd_name.specs.declared.Class.{Class}
use Rattle.pd_name.specs.declared.Class.TheVariants.{Receiver}
use Rattle.pd_grove.specs.declared.nodes.Node.{Node}
use Rattle.pd_grove.specs.declared.grove.Grove.{Grove}
use Rattle.pd_grove.specs.declared.spots.Spot.{Spot}
use Rattle.pd_grove.specs.Standing.{node_seen}
use Rattle.pd_grove.specs.Telling.{keys_in}
use Rattle.pd_grove.specs.Owning.{board_in}
use Rattle.pd_grove.specs.Forest.{holder_in, IsForest}
use Rattle.pd_grove.specs.Grafts.{LiesInBox, TakesBox}
use Rattle.pd_grove.specs.TextOrder.{keys_of_spots, spots_among, spots_in_order}
use Rattle.pd_grove.proofs.SpotLemmas.{spots_live}
use Rattle.pd_grove.proofs.NestLemmas.{box_deep}
use Rattle.pd_bind.specs.Naming.{owned, canvas_symbol, owned_by}
use Rattle.pd_bind.specs.Owning.{root_owner, is_owned, owned_at, owner_if, root_owning, owners_in}
use Rattle.pd_owning.specs.Order.{box_out}
use Rattle.pd_owning.specs.Bound.{is_among, but}
use Rattle.pd_owning.specs.Parts.{ArePart}
use Rattle.pd_owning.proofs.ListLemmas.{but_append}
use Rattle.pd_owning.proofs.LessLemmas.{stay, canvas_stays}
use Rattle.pd_owning.proofs.OutLemmas.{out_none}

both_kept : (s t : Spot → Bool) (p : Spot) (us vs : List Spot) (a b : Bool) → s p ≡ a → t p ≡ b → filter s us ≡ filter t vs → filter s (cond b (p ∷ us) us) ≡ filter t (cond a (p ∷ vs) vs)
both_kept s t p us vs true true e h q =
    ap (λ x. cond x (p ∷ filter s us) (filter s us)) e ∙ ap (λ qs. p ∷ qs) q ∙ ap (λ x. cond x (p ∷ filter t vs) (filter t vs)) (sym h)
both_kept s t p us vs true false e h q = q ∙ ap (λ x. cond x (p ∷ filter t vs) (filter t vs)) (sym h)
both_kept s t p us vs false true e h q = ap (λ x. cond x (p ∷ filter s us) (filter s us)) e ∙ q
both_kept s t p us vs false false e h q = q

filter_swap : (s t : Spot → Bool) (ps : List Spot) → filter s (filter t ps) ≡ filter t (filter s ps)
filter_swap s t [] = refl
filter_swap s t (p ∷ ps) = both_kept s t p (filter t ps) (filter s ps) (s p) (t p) refl refl (filter_swap s t ps)

keys_cond : (b : Bool) (p : Spot) (ps : List Spot) (ks : List ℕ) → keys_of_spots ps ≡ ks → keys_of_spots (cond b (p ∷ ps) ps) ≡ cond b (p.node ∷ ks) ks
keys_cond true p ps ks e = ap (λ x. p.node ∷ x) e
keys_cond false p ps ks e = e

keys_stay : (away : List ℕ) (ps : List Spot) → keys_of_spots (filter (stay away) ps) ≡ but away (keys_of_spots ps)
keys_stay away [] = refl
keys_stay away (p ∷ ps) = keys_cond (stay away p) p (filter (stay away) ps) (but away (keys_of_spots ps)) (keys_stay away ps)

same_kept : (s t : Spot → Bool) (ps : List Spot) → AllByRecursion (λ p. s p ≡ t p) ps → filter s ps ≡ filter t ps
same_kept s t [] A = refl
same_kept s t (p ∷ ps) A = ap (λ b. cond b (p ∷ filter s ps) (filter s ps)) A.0 ∙ ap (λ qs. cond (t p) (p ∷ qs) qs) (same_kept s t ps A.1)

alike : (nodes nodes' : ℕ → Option Node) (table : Names) (class : Class) (name : ℕ) → ((l : ℕ) → IsSome (nodes' l) → nodes' l ≡ nodes l) → (ps : List Spot)
    → AllByRecursion (λ k. IsSome (nodes' k)) (keys_of_spots ps) → AllByRecursion (λ p. is_owned class name (owned_at table nodes' p) ≡ is_owned class name (owned_at table nodes p)) ps
alike nodes nodes' table class name H [] A = tt
alike nodes nodes' table class name H (p ∷ ps) A = (
  ap (λ o. is_owned class name (option_and_then (λ c. owned_by table p.is_top c) (option_map (λ (n : Node). (node_seen n).cell) o))) (H p.node A.0),
  alike nodes nodes' table class name H ps A.1,
)

root_stays : (away : List ℕ) (b : Bool) → is_among away root_owner ≡ false → but away (owner_if b root_owner) ≡ owner_if b root_owner
root_stays away true h = ap (λ x. cond (not x) (root_owner ∷ []) []) h
root_stays away false h = refl

-- the owners of a name in the tree without the box are those in the tree with it, but for the box and all that lies in it
pub owners_stay : (old new : Grove) (c k : ℕ) (n : Node) (before behind away : List ℕ) → IsForest (get old.nodes) (get old.boards) old.root → get old.nodes root_owner ≡ None → new.root ≡ old.root
    → TakesBox (get old.nodes) (get new.nodes) (get old.boards) (get new.boards) c k n before behind → ArePart (get old.nodes) (get old.boards) k away
    → (table : Names) (file : List ℕ) (class : Class) (name : ℕ) → but away (owners_in table file old class name) ≡ owners_in table file new class name
owners_stay old new c k n before behind away F apart root T A table file class name =
    let nodes = get old.nodes in
    let nodes' = get new.nodes in
    let test : Spot → Bool = λ p. is_owned class name (owned_at table nodes p) in
    let test' : Spot → Bool = λ p. is_owned class name (owned_at table nodes' p) in
    let is_root : Bool = is_owned class name (owned Receiver (canvas_symbol table file)) in
    let lies : board_in (nodes k) ≡ Some c = ap board_in T.was ∙ ap (λ y. Some y) T.lay in
    let out : LiesInBox nodes (get old.boards) k old.root → ⊥ = (λ L. let d = box_deep nodes (get old.boards) old.root k c old.root F lies L in let z = F.rooted.2 in absurd (omega (arith, d, z))) in
    let spots : filter (stay away) (spots_in_order old) ≡ spots_in_order new =
    canvas_stays nodes (get old.boards) old.root F nodes' (get new.boards) c k n before behind T away A 257 old.root true out
    ∙ ap (λ r. spots_among nodes' (get new.boards) 257 true (keys_in (get new.boards r))) (sym root) in
    let live = spots_live nodes' (get new.boards) 257 true (keys_in (get new.boards new.root)) in
    let boxes : filter (stay away) (filter test (spots_in_order old)) ≡ filter test' (spots_in_order new) =
    filter_swap (stay away) test (spots_in_order old) ∙ ap (filter test) spots
    ∙ sym (same_kept test' test (spots_in_order new) (alike nodes nodes' table class name T.none_comes (spots_in_order new) live)) in
    but_append away (root_owning table file class name) (keys_of_spots (filter test (spots_in_order old)))
    ∙ ap (λ ks. ks ++ but away (keys_of_spots (filter test (spots_in_order old)))) (root_stays away is_root (not_root (is_among away root_owner) refl))
    ∙ ap (λ ks. root_owning table file class name ++ ks) (sym (keys_stay away (filter test (spots_in_order old))) ∙ ap keys_of_spots boxes)
  where
    not_within : (m : ℕ) → box_out (get old.nodes) (get old.boards) m root_owner ≡ Some k → ⊥
    not_within zero e = none-some n (sym apart ∙ ap (get old.nodes) (same_Some root_owner k e) ∙ T.was)
    not_within (suc m) e = none-some k (sym (out_none (get old.nodes) (get old.boards) m root_owner (ap (λ o. option_and_then (λ x. holder_in (get old.boards x)) (board_in o)) apart)) ∙ e)

    not_root : (b : Bool) → is_among away root_owner ≡ b → is_among away root_owner ≡ false
    not_root false e = e
    not_root true e = (let w = (A root_owner).0 e in absurd (not_within w.0 w.1))
