use Rattle.std.proofs.Common.{◌≡◌, ◌≢◌, ℕ, List, [], ◌++◌, Some, None, refl, sym, ap, ◌∙◌, arith}
use Rattle.std.specs.Prelude.{option_map}
use mathlib.Core.Logic.{⊎_elim}
use Rattle.std.proofs.lemmas.Bool.{cases_eq}
use Rattle.std.proofs.lemmas.List.{append-nil}
use Rattle.std.proofs.lemmas.Option.{none-some}
use Rattle.slab.specs.Slab.{get}
use Rattle.pd_tree.specs.Trees.{stands_of}
use Rattle.pd_grove.specs.Standing.{board_seen}
use Rattle.pd_grove.specs.Planting.{seeds_in, with_keys}
use Rattle.pd_grove.specs.Telling.{keys_in}
use Rattle.pd_grove.proofs.Freshness.{as_many}
use Rattle.pd_grove.proofs.TreeBoxes.{seeds_of}
use Rattle.pd_grove.proofs.OwnLemmas.{own_bare, own_open}
use Rattle.pd_grove.proofs.OpenLemmas.{forest_bare}
use Rattle.pd_grove.proofs.LabelledLemmas.{labels_bare}
use Rattle.pd_grove.proofs.grove.Grove.plant.Goals as goal

pub plant_boxes-requires-clause-room : goal.plant_boxes-requires-clause-room
plant_boxes-requires-clause-room c =
    let n = as_many (seeds_in c.in_ok-seeds.seeds) c.args.rows.items c.in_ok-seeds.ensures.ready in
    let m = c.len-most.ensures in
    let a = c.in_ok-nodes.ensures in
    let b = c.in_ok-boards.ensures in
    let r = c.open_root-root.ensures in
    let k = c.args.rows.ok in
    let nr = a.room in
    let br = b.room in
    let rl = r.len in
    let rc = r.capacity in
    let bs = b.small in
    record { nodes_fit = omega (arith, n, m, nr, k); boards_fit = omega (arith, n, m, br, rl, rc, k); nodes_small = a.small; boards_small = omega (arith, bs, rc) }

pub returns-clause-stands : goal.returns-clause-stands
returns-clause-stands c = λ t h w.
    let p = (c.plant_boxes.ensures.plants t [] (c.in_ok-seeds.ensures.ready ∙ h ∙ sym (append-nil (stands_of t))) w).0 in
    record {
      keys = p.keys;
      root = p.gains ∙ ap (λ o. option_map (with_keys p.keys) (option_map board_seen o)) c.open_root-root.ensures.opened
          ∙ ap (λ (ks : List ℕ). Some (record { holder = None; depth = 0; sheet = c.args.sheet; keys = ks })) (ap (λ xs. xs ++ p.keys) c.in_ok-room.ensures.items);
      stands = p.stands;
    }

pub returns-clause-fresh : goal.returns-clause-fresh
returns-clause-fresh c =
    (c.plant_boxes.ensures.fresh c.args.rate c.args.now c.in_ok-seeds.ensures.fresh (λ k n h. absurd (none-some n (sym (c.in_ok-nodes.ensures.empty k) ∙ h)))).1

pub returns-clause-small : goal.returns-clause-small
returns-clause-small c =
    (c.plant_boxes.ensures.small c.in_ok-seeds.ensures.small (λ k n h. absurd (none-some n (sym (c.in_ok-nodes.ensures.empty k) ∙ h)))).1

pub returns-clause-of_tree : goal.returns-clause-of_tree
returns-clause-of_tree c = λ t h.
    (c.plant_boxes.ensures.of_tree t (seeds_of t (seeds_in c.in_ok-seeds.seeds) (c.in_ok-seeds.ensures.ready ∙ h)) (λ k n e. absurd (none-some n (sym (c.in_ok-nodes.ensures.empty k) ∙ e)))).1

pub returns-clause-own : goal.returns-clause-own
returns-clause-own c =
    let nodes = get c.in_ok-nodes.nodes in
    let b₀ = get c.in_ok-boards.boards in
    let b₁ = get c.open_root-root.new.boards in
    c.plant_boxes.ensures.own
    (own_open nodes b₀ b₁ c.open_root-root.result (ap keys_in c.open_root-root.ensures.opened ∙ c.in_ok-room.ensures.items) c.open_root-root.ensures.others
    (own_bare nodes b₀ (λ k. ap keys_in (c.in_ok-boards.ensures.empty k))))

pub returns-clause-forest : goal.returns-clause-forest
returns-clause-forest c = λ t h w low.
    let r = c.open_root-root in
    c.plant_boxes.ensures.forest r.result t [] (c.in_ok-seeds.ensures.ready ∙ h ∙ sym (append-nil (stands_of t))) w (omega (arith, low))
    (forest_bare (get c.in_ok-nodes.nodes) (get r.new.boards) r.result _ c.in_ok-nodes.ensures.empty r.ensures.opened refl refl c.in_ok-room.ensures.items (λ k d. r.ensures.others k d ∙ c.in_ok-boards.ensures.empty k))

pub invariant_of-result : goal.invariant_of-result
invariant_of-result c =
    let nodes = get c.in_ok-nodes.nodes in
    let b₀ = get c.in_ok-boards.boards in
    let r = c.open_root-root in
    let b₁ = get r.new.boards in
    let none : keys_in (b₁ r.result) ≡ [] = ap keys_in r.ensures.opened ∙ c.in_ok-room.ensures.items in
    let bare : (k : ℕ) → keys_in (b₁ k) ≡ [] = (λ k. ⊎_elim
    (λ (e : k ≡ r.result). ap (λ x. keys_in (b₁ x)) e ∙ none)
    (λ (d : k ≢ r.result). ap keys_in (r.ensures.others k d ∙ c.in_ok-boards.ensures.empty k)) (cases_eq k r.result)) in
    let reach = c.in_ok-reach.ensures.reach in
    let all = c.capacity.ensures.value in
    record {
      labelled = (c.plant_boxes.ensures.labelled
          (own_open nodes b₀ b₁ r.result none r.ensures.others (own_bare nodes b₀ (λ k. ap keys_in (c.in_ok-boards.ensures.empty k))))
          (record { long = omega (arith, reach, all); are = labels_bare _ b₁ bare })).are;
    }
