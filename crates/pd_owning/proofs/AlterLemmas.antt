-- The owners of names where one box gets another text or place.
use Rattle.std.proofs.Common.{◌≡◌, ◌≢◌, ℕ, zero, suc, Bool, true, false, not, cond, ◌&&◌, List, [], ◌∷◌, ◌++◌, Option, Some, None, refl, sym, ap, ◌∙◌}
use Rattle.std.specs.Prelude.{option_map, option_and_then}
use Rattle.std.specs.List.{filter, flat_map}
use mathlib.Core.Logic.{⊎_elim}
use Rattle.std.proofs.lemmas.Bool.{cases_eq}
use Rattle.slab.specs.Slab.{get}
use Rattle.pd_canvas.specs.Views.{entry_of}
use Rattle.pd_atom.specs.Names.{Names}
use Rattle.pd_name.specs.declared.Class.{Class}
use Rattle.pd_grove.specs.declared.nodes.Node.{Node}
use Rattle.pd_grove.specs.declared.boards.Board.{Board}
use Rattle.pd_grove.specs.declared.grove.Grove.{Grove}
use Rattle.pd_grove.specs.declared.spots.Spot.{Spot}
use Rattle.pd_grove.specs.Standing.{node_seen}
use Rattle.pd_grove.specs.Telling.{keys_in}
use Rattle.pd_grove.specs.Refits.{Alters}
use Rattle.pd_grove.specs.TextOrder.{is_sub, keys_inside, spot, box_spots, spots_among, spots_in_order, keys_of_spots}
use Rattle.pd_grove.proofs.SpotLemmas.{spots_none, spots_suc}
use Rattle.pd_bind.specs.Naming.{owned_by}
use Rattle.pd_bind.specs.Owning.{is_owned, owned_at, root_owning, owners_in}
use Rattle.pd_owning.specs.Bound.{is_among, but}
use Rattle.pd_owning.proofs.ListLemmas.{but_append, gone_itself}

-- a box made another holds what it held, and is a subpatch where it was one
pub record KeepsShape (f : Node → Node) : Type 0 where
  pub inner : (n : Node) → (f n).inner ≡ n.inner
  pub form : (n : Node) → (entry_of (f n).element).head.form ≡ (entry_of n.element).head.form

flat_same : (f g : ℕ → List Spot) (ks : List ℕ) → ((k : ℕ) → f k ≡ g k) → flat_map f ks ≡ flat_map g ks
flat_same f g [] H = refl
flat_same f g (k ∷ ks) H = ap (λ ps. ps ++ flat_map f ks) (H k) ∙ ap (λ ps. g k ++ ps) (flat_same f g ks H)

box_alike : (boards : ℕ → Option Board) (S S' : Bool → List ℕ → List Spot) (f : Node → Node) → KeepsShape f → ((t : Bool) (ks : List ℕ) → S' t ks ≡ S t ks) → (top : Bool) (l : ℕ) (o : Option Node)
    → box_spots boards S' top l (option_map f o) ≡ box_spots boards S top l o
box_alike boards S S' f K H top l None = refl
box_alike boards S S' f K H top l (Some n) =
    ap (λ i. spot top l ∷ S' (top && is_sub (entry_of (f n).element).head.form) (keys_inside boards i)) (K.inner n)
    ∙ ap (λ x. spot top l ∷ S' (top && is_sub x) (keys_inside boards n.inner)) (K.form n)
    ∙ ap (λ ps. spot top l ∷ ps) (H (top && is_sub (entry_of n.element).head.form) (keys_inside boards n.inner))

map_itself : (o : Option Node) → o ≡ option_map (λ n. n) o
map_itself None = refl
map_itself (Some n) = refl

module _ (nodes nodes' : ℕ → Option Node) (boards : ℕ → Option Board) (k : ℕ) (f : Node → Node) (K : KeepsShape f) (own : nodes' k ≡ option_map f (nodes k))
    (others : (l : ℕ) → l ≢ k → nodes' l ≡ nodes l) where
  spots_alike : (m : ℕ) (top : Bool) (ks : List ℕ) → spots_among nodes' boards m top ks ≡ spots_among nodes boards m top ks
  spots_alike zero top ks = spots_none nodes' boards top ks ∙ sym (spots_none nodes boards top ks)
  spots_alike (suc m) top ks =
      let S = spots_among nodes boards m in
      let S' = spots_among nodes' boards m in
      let H : (t : Bool) (ls : List ℕ) → S' t ls ≡ S t ls = (λ t ls. spots_alike m t ls) in
      let one : (l : ℕ) → box_spots boards S' top l (nodes' l) ≡ box_spots boards S top l (nodes l) =
      (λ l. ⊎_elim
      (λ (e : l ≡ k). ap (box_spots boards S' top l) (ap nodes' e ∙ own ∙ ap (λ x. option_map f (nodes x)) (sym e)) ∙ box_alike boards S S' f K H top l (nodes l))
      (λ (d : l ≢ k). ap (box_spots boards S' top l) (others l d ∙ map_itself (nodes l)) ∙ box_alike boards S S' (λ n. n) (record { inner = λ n. refl; form = λ n. refl }) H top l (nodes l))
      (cases_eq l k)) in
      spots_suc nodes' boards m top ks ∙ flat_same (λ l. box_spots boards S' top l (nodes' l)) (λ l. box_spots boards S top l (nodes l)) ks one ∙ sym (spots_suc nodes boards m top ks)

-- whether a box that is away passes a test changes nothing
drops : (away : List ℕ) (k : ℕ) (b : Bool) (p : Spot) (ps : List Spot) → p.node ≡ k → but (k ∷ away) (keys_of_spots (cond b (p ∷ ps) ps)) ≡ but (k ∷ away) (keys_of_spots ps)
drops away k true p ps e =
    ap (λ y. cond (not (is_among (k ∷ away) y)) (y ∷ but (k ∷ away) (keys_of_spots ps)) (but (k ∷ away) (keys_of_spots ps))) e
    ∙ ap (λ b. cond b (k ∷ but (k ∷ away) (keys_of_spots ps)) (but (k ∷ away) (keys_of_spots ps))) (gone_itself away k)
drops away k false p ps e = refl

same_but : (s t : Spot → Bool) (k : ℕ) (away : List ℕ) (ps : List Spot) → ((p : Spot) → p.node ≢ k → s p ≡ t p)
    → but (k ∷ away) (keys_of_spots (filter s ps)) ≡ but (k ∷ away) (keys_of_spots (filter t ps))
same_but s t k away [] H = refl
same_but s t k away (p ∷ ps) H =
    ⊎_elim
    (λ (e : p.node ≡ k).
    drops away k (s p) p (filter s ps) e ∙ same_but s t k away ps H ∙ sym (drops away k (t p) p (filter t ps) e))
    (λ (d : p.node ≢ k).
    ap (λ b. but (k ∷ away) (keys_of_spots (cond b (p ∷ filter s ps) (filter s ps)))) (H p d) ∙ both (t p) p (same_but s t k away ps H))
    (cases_eq p.node k)
  where
    both : (b : Bool) (p : Spot) → but (k ∷ away) (keys_of_spots (filter s ps)) ≡ but (k ∷ away) (keys_of_spots (filter t ps))
        → but (k ∷ away) (keys_of_spots (cond b (p ∷ filter s ps) (filter s ps))) ≡ but (k ∷ away) (keys_of_spots (cond b (p ∷ filter t ps) (filter t ps)))
    both true p e = ap (λ ks. cond (not (is_among (k ∷ away) p.node)) (p.node ∷ ks) ks) e
    both false p e = e

-- where one box becomes another under its key, the owners of each name but for this box are those that they were
pub owners_alike : (old new : Grove) (k : ℕ) (f : Node → Node) → KeepsShape f → Alters old new k f → (table : Names) (file away : List ℕ) (class : Class) (name : ℕ)
    → but (k ∷ away) (owners_in table file new class name) ≡ but (k ∷ away) (owners_in table file old class name)
owners_alike old new k f K A table file away class name =
    let test : Spot → Bool = λ p. is_owned class name (owned_at table (get old.nodes) p) in
    let test' : Spot → Bool = λ p. is_owned class name (owned_at table (get new.nodes) p) in
    let root = root_owning table file class name in
    let spots : spots_in_order new ≡ spots_in_order old =
    (ap (λ r. spots_among (get new.nodes) (get new.boards) 257 true (keys_in (get new.boards r))) A.root
    ∙ ap (λ bs. spots_among (get new.nodes) (get bs) 257 true (keys_in (get bs old.root))) A.boards
    ∙ spots_alike (get old.nodes) (get new.nodes) (get old.boards) k f K A.box A.others 257 true (keys_in (get old.boards old.root))) in
    let tests : (p : Spot) → p.node ≢ k → test' p ≡ test p =
    (λ p d. ap (λ o. is_owned class name (option_and_then (λ c. owned_by table p.is_top c) (option_map (λ (n : Node). (node_seen n).cell) o))) (A.others p.node d)) in
    but_append (k ∷ away) root (keys_of_spots (filter test' (spots_in_order new)))
    ∙ ap (λ ps. but (k ∷ away) root ++ but (k ∷ away) (keys_of_spots (filter test' ps))) spots
    ∙ ap (λ ks. but (k ∷ away) root ++ ks) (same_but test' test k away (spots_in_order old) tests)
    ∙ sym (but_append (k ∷ away) root (keys_of_spots (filter test (spots_in_order old))))
