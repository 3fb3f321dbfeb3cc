use Rattle.std.proofs.Common.{◌≡◌, List, ℕ, Some, true, map, sym, ap, ◌∙◌, subst}
use Rattle.std.specs.List.{AllByRecursion}
use Rattle.std.specs.Option.{IsSome}
use Rattle.std.specs.declared.vec.Vec.{Vec}
use Rattle.std.specs.declared.alloc.Global.{Global}
use Rattle.std.proofs.lemmas.Result.{IfOk-weaker}
use Rattle.slab.specs.Slab.{get}
use Rattle.pd_tree.specs.Trees.{Cell}
use Rattle.pd_grove.specs.TextOrder.{keys_of_spots, keys_in_order, keys_standing, cells_in_order, cell_under}
use Rattle.pd_grove.proofs.SpotLemmas.{grove_spots, spots_live, keys_stand, cells_stand}
use Rattle.pd_grove.proofs.grove.Grove.in_text_order.Goals as goal

keys_told : (c : goal.After-drop-spots) → keys_of_spots c.deref.result.now ≡ keys_in_order c.args.self.now
keys_told c = ap keys_of_spots (c.deref.ensures.value ∙ c.in_ok-spots.ensures.value)

pub returns-clause-live : goal.returns-clause-live
returns-clause-live c =
    let g = c.args.self.now in
    let P : List ℕ → Type 0 = λ ks. AllByRecursion (λ k. IsSome (get g.nodes k)) ks in
    IfOk-weaker c.keys_of.result (λ (v : Vec ℕ Global). v.items ≡ keys_of_spots c.deref.result.now) (λ (v : Vec ℕ Global). P v.items)
    (λ v h. subst P (sym (h ∙ keys_told c)) (spots_live (get g.nodes) (get g.boards) 257 true _)) c.keys_of.ensures

pub returns-clause-cells : goal.returns-clause-cells
returns-clause-cells c = λ s t G l.
    let g = c.args.self.now in
    IfOk-weaker c.keys_of.result (λ (v : Vec ℕ Global). v.items ≡ keys_of_spots c.deref.result.now)
    (λ (v : Vec ℕ Global). map (cell_under (get g.nodes)) v.items ≡ map (λ (x : Cell). Some x) (cells_in_order t))
    (λ v h. ap (map (cell_under (get g.nodes)))
    (h ∙ keys_told c ∙ ap keys_of_spots (grove_spots g s t G l) ∙ keys_stand (get g.nodes) (get g.boards) g.root 0 true G.keys t G.stands)
    ∙ cells_stand (get g.nodes) (get g.boards) g.root 0 G.keys t G.stands) c.keys_of.ensures

pub returns-clause-standing : goal.returns-clause-standing
returns-clause-standing c = λ s t G l.
    let g = c.args.self.now in
    IfOk-weaker c.keys_of.result (λ (v : Vec ℕ Global). v.items ≡ keys_of_spots c.deref.result.now)
    (λ (v : Vec ℕ Global). v.items ≡ keys_standing (get g.nodes) (get g.boards) g.root 0 G.keys t G.stands)
    (λ v h. h ∙ keys_told c ∙ ap keys_of_spots (grove_spots g s t G l) ∙ keys_stand (get g.nodes) (get g.boards) g.root 0 true G.keys t G.stands) c.keys_of.ensures
