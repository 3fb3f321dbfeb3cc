use Rattle.std.proofs.Common.{ℕ, ◌+◌, ◌<◌, List, [], ◌∷◌, length, take, drop, sym, ap, ◌∙◌, subst, arith}
use Rattle.std.proofs.lemmas.Option.{same_Some}
use Rattle.slab.specs.Slab.{get}
use Rattle.pd_grove.specs.Standing.{Stands, depth_of}
use Rattle.pd_grove.specs.Telling.{keys_in}
use Rattle.pd_grove.specs.TextOrder.{deep}
use Rattle.pd_grove.specs.Forest.{IsForest}
use Rattle.pd_grove.proofs.RefitLemmas.{left_lives, left_depth, left_keys, put_again, within_left}
use Rattle.pd_grove.proofs.PruneLemmas.{forest_pruned}
use Rattle.pd_grove.proofs.grove.Grove.refit_box.Goals as goal

pub put_box-requires : goal.put_box-requires
put_box-requires c =
    let g = c.args.self.now in
    let h = c.take_box-taken.new.self in
    let t = c.take_box-taken.ensures in
    let i = c.args.number in
    let ks = keys_in (get g.boards c.args.canvas) in
    let T = t.takes h.nodes.vacant_key t.next in
    let e = left_depth (get g.nodes) (get h.nodes) (get g.boards) (get h.boards) c.args.canvas h.nodes.vacant_key c.take_box-taken.result (take i ks) (drop (i + 1) ks) T in
    let r = c.requires.place in
    let nf = r.nodes_fit in
    let bf = r.boards_fit in
    let ns = r.nodes_small in
    let bs = r.boards_small in
    let nr = t.nodes_room in
    let br = t.boards_room in
    let nc = t.nodes_capacity in
    let bc = t.boards_capacity in
    let own = t.own_room in
    let deep = c.requires.deep in
    let reach = c.requires.labels in
    let same = ap (λ (xs : List ℕ). length xs) t.labels in
    record {
      forest = subst (IsForest (get h.nodes) (get h.boards)) (sym t.root)
          (forest_pruned (get g.nodes) (get h.nodes) (get g.boards) (get h.boards) g.root c.args.canvas h.nodes.vacant_key c.take_box-taken.result (take i ks) (drop (i + 1) ks) T c.requires.forest);
      here = left_lives (get g.nodes) (get h.nodes) (get g.boards) (get h.boards) c.args.canvas h.nodes.vacant_key c.take_box-taken.result (take i ks) (drop (i + 1) ks) T;
      number = within_left (keys_in (get h.boards c.args.canvas)) ks i c.requires.here
          (left_keys (get g.nodes) (get h.nodes) (get g.boards) (get h.boards) c.args.canvas h.nodes.vacant_key c.take_box-taken.result (take i ks) (drop (i + 1) ks) T);
      deep = omega (arith, e, deep);
      place = record {
        room = record { nodes_fit = omega (arith, nf, nr, nc); boards_fit = omega (arith, bf, br, bc); nodes_small = omega (arith, ns, nc); boards_small = omega (arith, bs, bc) };
        labels_reach = omega (arith, reach, same, nc);
        own_room = omega (arith, own);
      };
      roomy = c.requires.roomy;
      seed = c.requires.seed;
    }

pub returns-clause-refits : goal.returns-clause-refits
returns-clause-refits c = λ k tree more at ready wide low.
    let g = c.args.self.now in
    let h = c.take_box-taken.new.self in
    let t = c.take_box-taken.ensures in
    let i = c.args.number in
    let b = c.args.canvas in
    let n = c.take_box-taken.result in
    let ks = keys_in (get g.boards b) in
    let T = t.takes k at in
    let e = left_depth (get g.nodes) (get h.nodes) (get g.boards) (get h.boards) b k n (take i ks) (drop (i + 1) ks) T in
    record {
      nodes_left = get h.nodes;
      boards_left = get h.boards;
      taken = T;
      put = put_again (get h.nodes) (get c.put_box.new.self.nodes) (get h.boards) (get c.put_box.new.self.boards) b k c.put_box.result i ks c.requires.here
          (left_keys (get g.nodes) (get h.nodes) (get g.boards) (get h.boards) b k n (take i ks) (drop (i + 1) ks) T)
          (c.put_box.ensures.key ∙ same_Some h.nodes.vacant_key k (sym t.next ∙ at))
          (c.put_box.ensures.part tree more ready wide (subst (λ d. d + deep tree < 257) (sym e) low));
      uses = c.put_box.ensures.uses;
    }

pub returns-clause-stands : goal.returns-clause-stands
returns-clause-stands c = λ k tree more at ready wide.
    let g = c.args.self.now in
    let h = c.take_box-taken.new.self in
    let t = c.take_box-taken.ensures in
    let i = c.args.number in
    let b = c.args.canvas in
    let n = c.take_box-taken.result in
    let ks = keys_in (get g.boards b) in
    let T = t.takes k at in
    let e = left_depth (get g.nodes) (get h.nodes) (get g.boards) (get h.boards) b k n (take i ks) (drop (i + 1) ks) T in
    let n₂ = get c.put_box.new.self.nodes in
    let b₂ = get c.put_box.new.self.boards in
    let P = c.put_box.ensures.stands tree more ready wide in (
      subst (λ d. Stands n₂ b₂ b d (k ∷ []) tree) e
          (subst (λ x. Stands n₂ b₂ b (depth_of (get h.boards b)) (x ∷ []) tree) (c.put_box.ensures.key ∙ same_Some h.nodes.vacant_key k (sym t.next ∙ at)) P.0),
      P.1,
    )
