use Rattle.std.proofs.Common.{◌≡◌, ◌≢◌, [], ◌∷◌, ◌++◌, take, drop, refl, sym, ap, subst, arith}
use mathlib.Core.Logic.{⊎_elim}
use Rattle.std.proofs.lemmas.Bool.{cases_eq}
use Rattle.std.specs.Prelude.{option_map, ◌<◌, ◌+◌}
use Rattle.slab.specs.Slab.{get}
use Rattle.pd_canvas.specs.Views.{entry_of}
use Rattle.pd_grove.specs.Standing.{node_seen, Stands}
use Rattle.pd_grove.specs.TextOrder.{deep}
use Rattle.pd_grove.specs.Grafts.{HasBoxMore}
use Rattle.pd_grove.specs.Telling.{keys_in}
use Rattle.pd_grove.specs.Planting.{seeds_in, stands_ready, IsMadeOf}
use Rattle.pd_grove.proofs.Plantings.{box_stood}
use Rattle.pd_grove.proofs.UseLemmas.{uses_then, uses_one, made_stays}
use Rattle.pd_grove.proofs.GrowLemmas.{box_forest}
use Rattle.pd_grove.proofs.ComeLemmas.{part_more}
use Rattle.pd_grove.proofs.GraftLemmas.{forest_more, keys_has}
use Rattle.pd_grove.proofs.LabelledLemmas.{labels_put, place_within, first_length}
use Rattle.pd_grove.proofs.grove.Grove.put_box.Goals as goal

pub returns-clause-part : goal.returns-clause-part
returns-clause-part c = λ u more h w low.
    let g = c.args.self.now in
    let root = g.root in
    let F = c.requires.forest in
    let row = c.args.seed.row in
    let k = c.put_node-key.result in
    let b = c.args.canvas in
    let n₀ = get g.nodes in
    let b₀ = get g.boards in
    let n₁ = c.put_node-key.new.nodes in
    let b₁ = c.put_at.new.boards in
    let n₂ = c.plant_inside.new.nodes in
    let b₂ = c.plant_inside.new.boards in
    let ks = keys_in (b₀ b) in
    let first = take c.args.number ks in
    let last = drop c.args.number ks in
    let p = c.plant_inside.ensures in
    let d = c.depth_at-depth.result in
    let e = c.depth_at-depth.ensures in
    let M : HasBoxMore n₀ (get n₁) b₀ (get b₁) b k _ first last = record {
      vacant = c.put_node-key.ensures.vacant;
      is = c.put_node-key.ensures.is;
      lies = refl;
      bare = refl;
      others = c.put_node-key.ensures.others;
      keys = c.put_at.ensures.keys;
    } in
    let G = box_forest n₀ n₁ n₂ b₀ b₁ b₂ root b k d row.boxes _ first last
    (record { head = (entry_of row.element).head; text = row.text; kind = row.kind; fault = row.fault }) row.sheet (stands_ready (seeds_in c.args.seeds.now))
    M (sym e) p.none p.forest u more h w (subst (λ x. x + deep u < 257) (sym e) low) F in
    part_more n₀ (get n₁) (get n₂) b₀ (get b₁) (get b₂) root b k _ first last M p.nodes_stay p.boards_stay p.lies F G

pub returns-clause-stands : goal.returns-clause-stands
returns-clause-stands c = λ u more h w.
    let row = c.args.seed.row in
    let p = c.plant_inside.ensures in
    let n₂ = get c.plant_inside.new.nodes in
    let b₂ = get c.plant_inside.new.boards in
    subst (λ d. Stands n₂ b₂ c.args.canvas d (c.put_node-key.result ∷ []) u × (stands_ready (seeds_in c.plant_inside.new.seeds) ≡ more)) c.depth_at-depth.ensures
    (box_stood (get c.put_node-key.new.nodes) (get c.plant_inside.new.nodes) (get c.put_at.new.boards) (get c.plant_inside.new.boards) c.put_node-key.result c.args.canvas c.depth_at-depth.result row.boxes
    (record { head = (entry_of row.element).head; text = row.text; kind = row.kind; fault = row.fault }) row.sheet (seeds_in c.args.seeds.now) (seeds_in c.plant_inside.new.seeds)
    (ap (λ o. option_map node_seen o) c.put_node-key.ensures.is) p.plain p.plants u more h w)

pub returns-clause-uses : goal.returns-clause-uses
returns-clause-uses c =
    let n₀ = get c.args.self.now.nodes in
    let n₁ = get c.put_node-key.new.nodes in
    let n₂ = get c.plant_inside.new.nodes in
    let k = c.put_node-key.result in
    let p = c.plant_inside.ensures in
    let made : IsMadeOf c.args.seed (n₁ k) = subst (IsMadeOf c.args.seed) (sym c.put_node-key.ensures.is) (refl, refl, refl, refl, refl) in
    uses_then n₀ n₁ n₂ (c.args.seed ∷ seeds_in c.args.seeds.now) (seeds_in c.args.seeds.now) (seeds_in c.plant_inside.new.seeds)
    (λ l s m. ⊎_elim (λ (e : l ≡ k). subst (λ i. IsMadeOf s (n₂ i)) (sym e) (p.as_made s (subst (λ i. IsMadeOf s (n₁ i)) e m)))
    (λ (d : l ≢ k). made_stays (n₁ l) (n₂ l) s (p.nodes_stay l d) m) (cases_eq l k))
    (uses_one n₀ n₁ k c.args.seed (seeds_in c.args.seeds.now) made c.put_node-key.ensures.others) p.uses

pub label_at-requires : goal.label_at-requires
label_at-requires c =
    let b₀ = get c.args.self.now.boards in
    let b₁ = get c.put_at.new.boards in
    let b = c.args.canvas in
    let i = c.args.number in
    let ks = keys_in (b₀ b) in
    let k = c.put_node-key.result in
    place_within (keys_in (b₁ b)) ks k i c.requires.number (keys_has b₀ b₁ b (take i ks ++ drop i ks) (take i ks ++ k ∷ drop i ks) c.put_at.ensures.keys)

pub invariant_of-self : goal.invariant_of-self
invariant_of-self c =
    let g = c.args.self.now in
    let F = c.requires.forest in
    let n₀ = get g.nodes in
    let n₁ = get c.put_node-key.new.nodes in
    let b₀ = get g.boards in
    let b₁ = get c.put_at.new.boards in
    let k = c.put_node-key.result in
    let b = c.args.canvas in
    let i = c.args.number in
    let ks = keys_in (b₀ b) in
    let e = c.put_node-key.ensures in
    let M : HasBoxMore n₀ n₁ b₀ b₁ b k _ (take i ks) (drop i ks) = record {
      vacant = e.vacant;
      is = e.is;
      lies = refl;
      bare = refl;
      others = e.others;
      keys = c.put_at.ensures.keys;
    } in
    let O = (forest_more n₀ n₁ b₀ b₁ g.root b k _ (take i ks) (drop i ks) M F).own in
    let P = c.label_at.ensures in
    let reach = c.requires.place.labels_reach in
    let below = e.below in
    let cap = e.capacity in
    let same = P.long in
    record {
      labelled = (c.plant_inside.ensures.labelled O (record {
        long = omega (arith, reach, cap, same);
        are = labels_put g.labels c.label_at.new.labels n₁ b₀ b₁ b k i (take i ks) (drop i ks) M.keys O (omega (arith, reach, below, cap)) (first_length ks i c.requires.number) P g.labelled;
      })).are;
    }

pub returns-clause-labels : goal.returns-clause-labels
returns-clause-labels c =
    let g = c.args.self.now in
    let F = c.requires.forest in
    let n₀ = get g.nodes in
    let n₁ = get c.put_node-key.new.nodes in
    let b₀ = get g.boards in
    let b₁ = get c.put_at.new.boards in
    let k = c.put_node-key.result in
    let b = c.args.canvas in
    let i = c.args.number in
    let ks = keys_in (b₀ b) in
    let e = c.put_node-key.ensures in
    let M : HasBoxMore n₀ n₁ b₀ b₁ b k _ (take i ks) (drop i ks) = record {
      vacant = e.vacant;
      is = e.is;
      lies = refl;
      bare = refl;
      others = e.others;
      keys = c.put_at.ensures.keys;
    } in
    let O = (forest_more n₀ n₁ b₀ b₁ g.root b k _ (take i ks) (drop i ks) M F).own in
    let P = c.label_at.ensures in
    let reach = c.requires.place.labels_reach in
    let below = e.below in
    let cap = e.capacity in
    let same = P.long in
    (c.plant_inside.ensures.labelled O (record {
      long = omega (arith, reach, cap, same);
      are = labels_put g.labels c.label_at.new.labels n₁ b₀ b₁ b k i (take i ks) (drop i ks) M.keys O (omega (arith, reach, below, cap)) (first_length ks i c.requires.number) P g.labelled;
    })).long
