-- The owners of names where a box without a canvas inside becomes another one.
use Rattle.std.proofs.Common.{◌≡◌, ◌≢◌, ℕ, zero, suc, Bool, true, false, not, cond, ◌&&◌, List, [], ◌∷◌, ◌++◌, Option, Some, None, refl, sym, ap, ◌∙◌}
use Rattle.std.specs.Prelude.{option_map, option_and_then}
use Rattle.std.specs.List.{filter, flat_map}
use mathlib.Core.Logic.{⊎_elim}
use Rattle.std.proofs.lemmas.Bool.{cases_eq}
use Rattle.slab.specs.Slab.{Slab, get}
use Rattle.pd_atom.specs.Names.{Names}
use Rattle.pd_canvas.specs.Views.{entry_of}
use Rattle.pd_name.specs.declared.Class.{Class}
use Rattle.pd_name.specs.Rows.{Row, owners_of}
use Rattle.pd_grove.specs.declared.nodes.Node.{Node}
use Rattle.pd_grove.specs.declared.boards.Board.{Board}
use Rattle.pd_grove.specs.declared.grove.Grove.{Grove}
use Rattle.pd_grove.specs.declared.spots.Spot.{Spot}
use Rattle.pd_grove.specs.Standing.{node_seen}
use Rattle.pd_grove.specs.Telling.{keys_in}
use Rattle.pd_grove.specs.TextOrder.{is_sub, keys_inside, spot, box_spots, spots_among, spots_in_order, keys_of_spots}
use Rattle.pd_grove.proofs.SpotLemmas.{spots_none, spots_suc}
use Rattle.pd_bind.specs.Naming.{owned_by}
use Rattle.pd_bind.specs.Owning.{is_owned, owned_at, root_owning, owners_in}
use Rattle.pd_owning.specs.Bound.{is_among, but, AreOwnersBut}
use Rattle.pd_owning.proofs.ListLemmas.{all_kept_none, but_append, gone_itself}
use Rattle.pd_refitting.specs.Refits.{Becomes}

spots_empty : (nodes : ℕ → Option Node) (boards : ℕ → Option Board) (i : ℕ) (top : Bool) → spots_among nodes boards i top [] ≡ []
spots_empty nodes boards zero top = spots_none nodes boards top []
spots_empty nodes boards (suc i) top = spots_suc nodes boards i top []

-- in a box without a canvas inside lies nothing
leaf_spots : (nodes : ℕ → Option Node) (boards : ℕ → Option Board) (i : ℕ) (top : Bool) (l : ℕ) (n : Node) → n.inner ≡ None
    → box_spots boards (spots_among nodes boards i) top l (Some n) ≡ spot top l ∷ []
leaf_spots nodes boards i top l n bare =
    let sub : Bool = top && is_sub (entry_of n.element).head.form in
    ap (λ o. spot top l ∷ spots_among nodes boards i sub (keys_inside boards o)) bare
    ∙ ap (λ (ps : List Spot). spot top l ∷ ps) (spots_empty nodes boards i sub)

inside_same : (boards : ℕ → Option Board) (f g : Bool → List ℕ → List Spot) (top : Bool) (k : ℕ) (o : Option Node) → ((b : Bool) (ks : List ℕ) → f b ks ≡ g b ks)
    → box_spots boards f top k o ≡ box_spots boards g top k o
inside_same boards f g top k None h = refl
inside_same boards f g top k (Some n) h = ap (λ (l : List Spot). spot top k ∷ l) (h (top && is_sub (entry_of n.element).head.form) (keys_inside boards n.inner))

each_same : (f g : ℕ → List Spot) → ((k : ℕ) → f k ≡ g k) → (ks : List ℕ) → flat_map f ks ≡ flat_map g ks
each_same f g h [] = refl
each_same f g h (k ∷ ks) = ap (λ (l : List Spot). l ++ flat_map f ks) (h k) ∙ ap (λ (l : List Spot). g k ++ l) (each_same f g h ks)

-- whether a box that is left out passes a test changes nothing
drops : (away : List ℕ) (k : ℕ) (b : Bool) (p : Spot) (ps : List Spot) → p.node ≡ k → but (k ∷ away) (keys_of_spots (cond b (p ∷ ps) ps)) ≡ but (k ∷ away) (keys_of_spots ps)
drops away k true p ps e =
    ap (λ y. cond (not (is_among (k ∷ away) y)) (y ∷ but (k ∷ away) (keys_of_spots ps)) (but (k ∷ away) (keys_of_spots ps))) e
    ∙ ap (λ b. cond b (k ∷ but (k ∷ away) (keys_of_spots ps)) (but (k ∷ away) (keys_of_spots ps))) (gone_itself away k)
drops away k false p ps e = refl

same_but : (s t : Spot → Bool) (k : ℕ) (away : List ℕ) (ps : List Spot) → ((p : Spot) → p.node ≢ k → s p ≡ t p)
    → but (k ∷ away) (keys_of_spots (filter s ps)) ≡ but (k ∷ away) (keys_of_spots (filter t ps))
same_but s t k away [] H = refl
same_but s t k away (p ∷ ps) H =
    ⊎_elim
    (λ (e : p.node ≡ k).
    drops away k (s p) p (filter s ps) e ∙ same_but s t k away ps H ∙ sym (drops away k (t p) p (filter t ps) e))
    (λ (d : p.node ≢ k).
    ap (λ b. but (k ∷ away) (keys_of_spots (cond b (p ∷ filter s ps) (filter s ps)))) (H p d) ∙ both (t p) p (same_but s t k away ps H))
    (cases_eq p.node k)
  where
    both : (b : Bool) (p : Spot) → but (k ∷ away) (keys_of_spots (filter s ps)) ≡ but (k ∷ away) (keys_of_spots (filter t ps))
        → but (k ∷ away) (keys_of_spots (cond b (p ∷ filter s ps) (filter s ps))) ≡ but (k ∷ away) (keys_of_spots (cond b (p ∷ filter t ps) (filter t ps)))
    both true p e = ap (λ ks. cond (not (is_among (k ∷ away) p.node)) (p.node ∷ ks) ks) e
    both false p e = e

module _ (g h : Grove) (key : ℕ) (n m : Node) (was : get g.nodes key ≡ Some n) (bare : n.inner ≡ None) (still_bare : m.inner ≡ None) (B : Becomes g h key m) where
  box_same : (i : ℕ) (top : Bool) → ((b : Bool) (ks : List ℕ) → spots_among (get h.nodes) (get g.boards) i b ks ≡ spots_among (get g.nodes) (get g.boards) i b ks) → (l : ℕ)
      → box_spots (get g.boards) (spots_among (get h.nodes) (get g.boards) i) top l (get h.nodes l) ≡ box_spots (get g.boards) (spots_among (get g.nodes) (get g.boards) i) top l (get g.nodes l)
  box_same i top H l =
      let S : Bool → List ℕ → List Spot = spots_among (get g.nodes) (get g.boards) i in
      let S' : Bool → List ℕ → List Spot = spots_among (get h.nodes) (get g.boards) i in
      ⊎_elim
      (λ (e : l ≡ key).
      ap (box_spots (get g.boards) S' top l) (ap (get h.nodes) e ∙ B.is) ∙ leaf_spots (get h.nodes) (get g.boards) i top l m still_bare
      ∙ sym (ap (box_spots (get g.boards) S top l) (ap (get g.nodes) e ∙ was) ∙ leaf_spots (get g.nodes) (get g.boards) i top l n bare))
      (λ (d : l ≢ key). ap (box_spots (get g.boards) S' top l) (B.others l d) ∙ inside_same (get g.boards) S' S top l (get g.nodes l) H)
      (cases_eq l key)

  spots_same : (i : ℕ) (top : Bool) (ks : List ℕ) → spots_among (get h.nodes) (get g.boards) i top ks ≡ spots_among (get g.nodes) (get g.boards) i top ks
  spots_same zero top ks = spots_none (get h.nodes) (get g.boards) top ks ∙ sym (spots_none (get g.nodes) (get g.boards) top ks)
  spots_same (suc i) top ks =
      spots_suc (get h.nodes) (get g.boards) i top ks
      ∙ each_same (λ l. box_spots (get g.boards) (spots_among (get h.nodes) (get g.boards) i) top l (get h.nodes l))
      (λ l. box_spots (get g.boards) (spots_among (get g.nodes) (get g.boards) i) top l (get g.nodes l)) (box_same i top (λ b js. spots_same i b js)) ks
      ∙ sym (spots_suc (get g.nodes) (get g.boards) i top ks)

  -- the boxes stand in the same text order
  pub order_same : spots_in_order h ≡ spots_in_order g
  order_same =
      ap (λ (s : Slab Board). spots_among (get h.nodes) (get s) 257 true (keys_in (get s h.root))) B.boards
      ∙ ap (λ (r : ℕ). spots_among (get h.nodes) (get g.boards) 257 true (keys_in (get g.boards r))) B.root
      ∙ spots_same 257 true (keys_in (get g.boards g.root))

  -- but for this box, each name has the owners that it had
  pub owners_but : (table : Names) (file away : List ℕ) (class : Class) (name : ℕ) → but (key ∷ away) (owners_in table file h class name) ≡ but (key ∷ away) (owners_in table file g class name)
  owners_but table file away class name =
      let test : Spot → Bool = λ p. is_owned class name (owned_at table (get g.nodes) p) in
      let test' : Spot → Bool = λ p. is_owned class name (owned_at table (get h.nodes) p) in
      let root = root_owning table file class name in
      let tests : (p : Spot) → p.node ≢ key → test' p ≡ test p =
      (λ p d. ap (λ o. is_owned class name (option_and_then (λ c. owned_by table p.is_top c) (option_map (λ (x : Node). (node_seen x).cell) o))) (B.others p.node d)) in
      but_append (key ∷ away) root (keys_of_spots (filter test' (spots_in_order h)))
      ∙ ap (λ (ps : List Spot). but (key ∷ away) root ++ but (key ∷ away) (keys_of_spots (filter test' ps))) order_same
      ∙ ap (λ (ks : List ℕ). but (key ∷ away) root ++ ks) (same_but test' test key away (spots_in_order g) tests)
      ∙ sym (but_append (key ∷ away) root (keys_of_spots (filter test (spots_in_order g))))

  -- where the old box is unbound in the old tree, and the new one bound in the new tree, each name has its owners
  pub owners_follow : (old mid new : List Row) (table : Names) (file : List ℕ)
      → (AreOwnersBut old table file g [] → AreOwnersBut mid table file g (key ∷ []))
      → (AreOwnersBut mid table file h (key ∷ []) → AreOwnersBut new table file h [])
      → ((class : Class) (name : ℕ) → owners_of old class name ≡ owners_in table file g class name)
      → (class : Class) (name : ℕ) → owners_of new class name ≡ owners_in table file h class name
  owners_follow old mid new table file unbinds binds H class name =
      let first : AreOwnersBut old table file g [] = λ c x. H c x ∙ sym (all_kept_none (owners_in table file g c x)) in
      let then : AreOwnersBut mid table file h (key ∷ []) = λ c x. unbinds first c x ∙ sym (owners_but table file [] c x) in
      binds then class name ∙ all_kept_none (owners_in table file h class name)
