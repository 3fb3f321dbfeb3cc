use Rattle.std.proofs.Common.{◌≡◌, ◌≢◌, List, [], ◌∷◌, ◌++◌, length, Some, IsSome, refl, sym, ap, ◌∙◌, subst, arith}
use mathlib.Core.Logic.{⊎_elim}
use Rattle.std.proofs.lemmas.Bool.{cases_eq}
use Rattle.std.specs.Prelude.{option_map}
use Rattle.slab.specs.Slab.{get}
use Rattle.pd_canvas.specs.Views.{entry_of}
use Rattle.pd_grove.specs.Standing.{node_seen, with_inner}
use Rattle.pd_grove.specs.Telling.{keys_in}
use Rattle.pd_grove.specs.declared.seeds.Seed.{Seed}
use Rattle.pd_grove.specs.Planting.{seeds_in, stands_ready, SeedsOf, IsMadeOf, Uses}
use Rattle.pd_grove.specs.Owning.{board_in}
use Rattle.pd_grove.specs.States.{AreFresh}
use Rattle.pd_grove.proofs.Freshness.{fresh_put, fresh_inner, small_put, small_inner}
use Rattle.pd_grove.proofs.TreeBoxes.{of_put, of_inner}
use Rattle.pd_grove.proofs.OwnLemmas.{own_box, own_open, own_inner, inner_board, inner_some}
use Rattle.pd_grove.proofs.LabelledLemmas.{labels_put, labels_open, one_longer}
use Rattle.pd_grove.proofs.GraftLemmas.{keys_has}
use Rattle.pd_grove.proofs.Plantings.{halfway_next, split_end, box_stood, box_planted, some_on}
use Rattle.pd_grove.proofs.UseLemmas.{uses_then, uses_one, uses_inside, made_stays, made_inner}
use Rattle.pd_grove.proofs.GrowLemmas.{box_more, box_forest, opened_forest}
use Rattle.pd_grove.proofs.planting.+planting.Goals as goal

pub plant_boxes-loop-preserved : goal.plant_boxes-loop-preserved
plant_boxes-loop-preserved t c =
    let p = c.plant_next.ensures in
    halfway_next c.args.nodes.now c.loop.nodes c.plant_next.new.nodes c.args.boards.now c.loop.boards c.plant_next.new.boards c.args.labels.now c.loop.labels c.plant_next.new.labels (seeds_in c.args.seeds.now) (seeds_in c.loop.seeds) (seeds_in c.plant_next.new.seeds)
    c.args.board c.args.depth c.loop.counter c.args.count (omega arith) c.requires.depth c.loop.invariant p.kept p.own_room p.room p.nodes_capacity p.boards_capacity p.roomy p.fewer p.fresh p.small p.of_tree p.own p.labelled p.uses p.forest p.plants

pub plant_boxes-returns-clause-plants : goal.plant_boxes-returns-clause-plants
plant_boxes-returns-clause-plants t c = λ u more h w.
    split_end (get c.args.nodes.now) (get c.loop.nodes) (get c.args.boards.now) (get c.loop.boards) (seeds_in c.loop.seeds) c.args.board c.args.depth c.loop.counter u more (omega (arith, w)) (c.loop.invariant.splits u more h w)

pub plant_box-returns-clause-plants : goal.plant_box-returns-clause-plants
plant_box-returns-clause-plants t c = λ u more h w.
    let row = c.args.seed.row in
    let p = c.plant_inside.ensures in
    let n₁ = get c.put_node-key.new.nodes in
    let n₂ = get c.plant_inside.new.nodes in
    let b₁ = get c.put_last.new.boards in
    let b₂ = get c.plant_inside.new.boards in
    let seeds = seeds_in c.plant_inside.new.seeds in
    box_planted (get c.args.nodes.now) n₁ n₂ (get c.args.boards.now) b₁ b₂ c.put_node-key.result c.args.board c.args.depth seeds c.requires.here c.put_last.ensures.gains p.boards_stay u more
    (box_stood n₁ n₂ b₁ b₂ c.put_node-key.result c.args.board c.args.depth row.boxes (record { head = (entry_of row.element).head; text = row.text; kind = row.kind; fault = row.fault }) row.sheet
    (seeds_in c.args.seeds.now) seeds (ap (option_map node_seen) c.put_node-key.ensures.is) p.plain p.plants u more h w)

pub plant_box-returns-clause-forest : goal.plant_box-returns-clause-forest
plant_box-returns-clause-forest t c = λ root u more h w low F.
    let row = c.args.seed.row in
    let k = c.put_node-key.result in
    let b₀ = get c.args.boards.now in
    box_forest (get c.args.nodes.now) c.put_node-key.new.nodes c.plant_inside.new.nodes b₀ c.put_last.new.boards c.plant_inside.new.boards root c.args.board k c.args.depth row.boxes _ (keys_in (b₀ c.args.board)) []
    (record { head = (entry_of row.element).head; text = row.text; kind = row.kind; fault = row.fault }) row.sheet (stands_ready (seeds_in c.args.seeds.now))
    (box_more (get c.args.nodes.now) (get c.put_node-key.new.nodes) b₀ (get c.put_last.new.boards) c.args.board k _ c.put_node-key.ensures.vacant c.put_node-key.ensures.is refl refl c.put_node-key.ensures.others c.requires.here c.put_last.ensures.gains)
    c.requires.depth c.plant_inside.ensures.none c.plant_inside.ensures.forest u more h w low F

pub plant_box-returns-clause-uses : goal.plant_box-returns-clause-uses
plant_box-returns-clause-uses t c =
    let n₀ = get c.args.nodes.now in
    let n₁ = get c.put_node-key.new.nodes in
    let n₂ = get c.plant_inside.new.nodes in
    let k = c.put_node-key.result in
    let p = c.plant_inside.ensures in
    let made : IsMadeOf c.args.seed (n₁ k) = subst (IsMadeOf c.args.seed) (sym c.put_node-key.ensures.is) (refl, refl, refl, refl, refl) in
    uses_then n₀ n₁ n₂ (c.args.seed ∷ seeds_in c.args.seeds.now) (seeds_in c.args.seeds.now) (seeds_in c.plant_inside.new.seeds)
    (λ l s m. ⊎_elim (λ (e : l ≡ k). subst (λ i. IsMadeOf s (n₂ i)) (sym e) (p.as_made s (subst (λ i. IsMadeOf s (n₁ i)) e m)))
    (λ (d : l ≢ k). made_stays (n₁ l) (n₂ l) s (p.nodes_stay l d) m) (cases_eq l k))
    (uses_one n₀ n₁ k c.args.seed (seeds_in c.args.seeds.now) made c.put_node-key.ensures.others) p.uses

pub plant_inside-returns-in-Some-clause-uses : goal.plant_inside-returns-in-Some-clause-uses
plant_inside-returns-in-Some-clause-uses t c =
    uses_inside (get c.args.nodes.now) (get c.set_inner.new.nodes) (get c.plant_boxes.new.nodes) c.args.key (seeds_in c.args.seeds.now) (seeds_in c.plant_boxes.new.seeds) c.requires.here c.set_inner.ensures.others c.plant_boxes.ensures.uses

pub plant_inside-returns-in-Some-clause-as_made : goal.plant_inside-returns-in-Some-clause-as_made
plant_inside-returns-in-Some-clause-as_made t c = λ s m.
    let n₀ = get c.args.nodes.now in
    let n₁ = get c.set_inner.new.nodes in
    let n₂ = get c.plant_boxes.new.nodes in
    let k = c.args.key in
    made_stays (n₁ k) (n₂ k) s (c.plant_boxes.ensures.kept.nodes_stay k)
    (subst (IsMadeOf s) (sym c.set_inner.ensures.is) (made_inner s c.open_board-inner.result (n₀ k) m))

pub plant_inside-returns-in-Some-clause-forest : goal.plant_inside-returns-in-Some-clause-forest
plant_inside-returns-in-Some-clause-forest t c = λ root s u more e h w low bare level F.
    c.plant_boxes.ensures.forest root u more h w low
    (opened_forest (get c.args.nodes.now) (get c.set_inner.new.nodes) (get c.args.boards.now) (get c.open_board-inner.new.boards) root c.args.key c.open_board-inner.result c.args.depth _
    c.requires.here bare level c.set_inner.ensures.is c.set_inner.ensures.others c.open_board-inner.ensures.vacant c.open_board-inner.ensures.opened refl refl c.requires.none
    c.open_board-inner.ensures.others (omega (arith, low)) F)

pub plant_next-returns-in-Some-clause-uses : goal.plant_next-returns-in-Some-clause-uses
plant_next-returns-in-Some-clause-uses t c =
    subst (λ (x : List Seed). Uses (get c.args.nodes.now) (get c.plant_box.new.nodes) x (seeds_in c.plant_box.new.seeds)) (sym c.in-Some.ensures) c.plant_box.ensures.uses

pub plant_next-returns-in-Some-clause-forest : goal.plant_next-returns-in-Some-clause-forest
plant_next-returns-in-Some-clause-forest t c = λ root u more h w low F. c.plant_box.ensures.forest root u more (sym (ap stands_ready c.in-Some.ensures) ∙ h) w low F

pub plant_box-returns-clause-fresh : goal.plant_box-returns-clause-fresh
plant_box-returns-clause-fresh t c = λ rate now s f n.
    c.plant_inside.ensures.fresh rate now f (fresh_put rate now (get c.args.nodes.now) (get c.put_node-key.new.nodes) c.put_node-key.result _ c.put_node-key.ensures.is c.put_node-key.ensures.others (ap (λ x. Some x) s) n)

pub plant_inside-returns-in-Some-clause-fresh : goal.plant_inside-returns-in-Some-clause-fresh
plant_inside-returns-in-Some-clause-fresh t c = λ rate now f n.
    c.plant_boxes.ensures.fresh rate now f (fresh_inner rate now c.open_board-inner.result (get c.args.nodes.now) (get c.set_inner.new.nodes) c.args.key c.set_inner.ensures.is c.set_inner.ensures.others n)

pub plant_box-returns-clause-small : goal.plant_box-returns-clause-small
plant_box-returns-clause-small t c = λ s f n.
    c.plant_inside.ensures.small f (small_put (get c.args.nodes.now) (get c.put_node-key.new.nodes) c.put_node-key.result _ c.put_node-key.ensures.is c.put_node-key.ensures.others s n)

pub plant_inside-returns-in-Some-clause-small : goal.plant_inside-returns-in-Some-clause-small
plant_inside-returns-in-Some-clause-small t c = λ f n.
    c.plant_boxes.ensures.small f (small_inner c.open_board-inner.result (get c.args.nodes.now) (get c.set_inner.new.nodes) c.args.key c.set_inner.ensures.is c.set_inner.ensures.others n)

pub plant_box-returns-clause-of_tree : goal.plant_box-returns-clause-of_tree
plant_box-returns-clause-of_tree t c = λ tree s f n.
    c.plant_inside.ensures.of_tree tree f (of_put tree (get c.args.nodes.now) (get c.put_node-key.new.nodes) c.put_node-key.result _ c.put_node-key.ensures.is c.put_node-key.ensures.others s n)

pub plant_inside-returns-in-Some-clause-of_tree : goal.plant_inside-returns-in-Some-clause-of_tree
plant_inside-returns-in-Some-clause-of_tree t c = λ tree f n.
    c.plant_boxes.ensures.of_tree tree f (of_inner tree c.open_board-inner.result (get c.args.nodes.now) (get c.set_inner.new.nodes) c.args.key c.set_inner.ensures.is c.set_inner.ensures.others n)

pub plant_box-returns-clause-own : goal.plant_box-returns-clause-own
plant_box-returns-clause-own t c = λ h.
    c.plant_inside.ensures.own
    (own_box (get c.args.nodes.now) (get c.put_node-key.new.nodes) (get c.args.boards.now) (get c.put_last.new.boards) c.args.board c.put_node-key.result _ c.put_node-key.ensures.vacant c.put_node-key.ensures.is refl
    c.put_node-key.ensures.others c.requires.here c.put_last.ensures.gains h)

pub plant_box-returns-clause-labelled : goal.plant_box-returns-clause-labelled
plant_box-returns-clause-labelled t c = λ h L.
    let n₀ = get c.args.nodes.now in
    let n₁ = get c.put_node-key.new.nodes in
    let b₀ = get c.args.boards.now in
    let b₁ = get c.put_last.new.boards in
    let k = c.put_node-key.result in
    let b = c.args.board in
    let ks = keys_in (b₀ b) in
    let e = c.put_node-key.ensures in
    let G = c.put_last.ensures.gains in
    let O = own_box n₀ n₁ b₀ b₁ b k _ e.vacant e.is refl e.others c.requires.here G h in
    let M = box_more n₀ n₁ b₀ b₁ b k _ e.vacant e.is refl refl e.others c.requires.here G in
    let has = keys_has b₀ b₁ b (ks ++ []) (ks ++ k ∷ []) M.keys in
    let P = c.label_last.ensures (length ks) (one_longer (keys_in (b₁ b)) ks k has) in
    let long = L.long in
    let below = e.below in
    let cap = e.capacity in
    let same = P.long in
    c.plant_inside.ensures.labelled O (record {
      long = omega (arith, long, cap, same);
      are = labels_put c.args.labels.now c.label_last.new.labels n₁ b₀ b₁ b k (length ks) ks [] M.keys O (omega (arith, long, below, cap)) refl P L.are;
    })

pub plant_inside-returns-in-Some-clause-own : goal.plant_inside-returns-in-Some-clause-own
plant_inside-returns-in-Some-clause-own t c = λ h.
    let b₀ = get c.args.boards.now in
    let b₁ = get c.open_board-inner.new.boards in
    c.plant_boxes.ensures.own
    (own_inner (get c.args.nodes.now) (get c.set_inner.new.nodes) b₁ c.args.key c.open_board-inner.result c.set_inner.ensures.is c.set_inner.ensures.others
    (own_open (get c.args.nodes.now) b₀ b₁ c.open_board-inner.result (ap keys_in c.open_board-inner.ensures.opened ∙ c.requires.none) c.open_board-inner.ensures.others h))

pub plant_inside-returns-in-Some-clause-labelled : goal.plant_inside-returns-in-Some-clause-labelled
plant_inside-returns-in-Some-clause-labelled t c = λ h L.
    let b₀ = get c.args.boards.now in
    let b₁ = get c.open_board-inner.new.boards in
    let j = c.open_board-inner.result in
    let none = ap keys_in c.open_board-inner.ensures.opened ∙ c.requires.none in
    let long = L.long in
    let cap = c.set_inner.ensures.capacity in
    c.plant_boxes.ensures.labelled
    (own_inner (get c.args.nodes.now) (get c.set_inner.new.nodes) b₁ c.args.key j c.set_inner.ensures.is c.set_inner.ensures.others
    (own_open (get c.args.nodes.now) b₀ b₁ j none c.open_board-inner.ensures.others h))
    (record { long = omega (arith, long, cap); are = labels_open c.args.labels.now b₀ b₁ j none c.open_board-inner.ensures.others L.are })

pub plant_inside-returns-in-Some-clause-lies : goal.plant_inside-returns-in-Some-clause-lies
plant_inside-returns-in-Some-clause-lies t c =
    let n₀ = get c.args.nodes.now in
    let n₁ = get c.set_inner.new.nodes in
    let k = c.args.key in
    let live : IsSome (n₁ k) = some_on (option_map (with_inner c.open_board-inner.result) (n₀ k)) (n₁ k) c.set_inner.ensures.is (inner_some c.open_board-inner.result (n₀ k) c.requires.here) in
    ap board_in (c.plant_boxes.ensures.kept.nodes_stay k live ∙ c.set_inner.ensures.is) ∙ inner_board c.open_board-inner.result (n₀ k)

pub plant_next-returns-in-Some-clause-fresh : goal.plant_next-returns-in-Some-clause-fresh
plant_next-returns-in-Some-clause-fresh t c = λ rate now f n.
    let first = subst (AreFresh rate now) c.in-Some.ensures f in
    c.plant_box.ensures.fresh rate now first.0 first.1 n

pub plant_next-returns-in-Some-clause-of_tree : goal.plant_next-returns-in-Some-clause-of_tree
plant_next-returns-in-Some-clause-of_tree t c = λ tree f n.
    let first = subst (SeedsOf tree) c.in-Some.ensures f in
    c.plant_box.ensures.of_tree tree first.0 first.1 n
