use Rattle.std.proofs.Common.{◌+◌, take, drop, Some, sym, ap, ◌∙◌, subst}
use Rattle.std.proofs.lemmas.Option.{same_Some}
use Rattle.slab.specs.Slab.{get}
use Rattle.pd_grove.specs.Standing.{board_room}
use Rattle.pd_grove.specs.Telling.{keys_in}
use Rattle.pd_grove.specs.Grafts.{TakesBox}
use Rattle.pd_grove.proofs.PruningLemmas.{box_spared, box_lives, canvas_spared, box_taken}
use Rattle.pd_grove.proofs.LabelledLemmas.{labels_less}
use Rattle.pd_grove.proofs.grove.Grove.take_box.Goals as goal

pub remove-requires : goal.remove-requires
remove-requires c =
    let g = c.args.self.now in
    let k = c.take_key-key.result in
    let n = c.args.number in
    let ks = keys_in (get g.boards c.args.canvas) in
    let F = c.requires.forest in
    let at = c.take_key-key.ensures.key in
    box_lives (get g.nodes) (get g.boards) g.root c.args.canvas n k F at (get c.prune_inside.new.nodes k)
    (box_spared (get g.nodes) (get c.prune_inside.new.nodes) (get g.boards) (get c.take_key-key.new.boards) (get c.prune_inside.new.boards) g.root c.args.canvas n k (take n ks) (drop (n + 1) ks) c.inner_at-inner.result
    F at (sym c.inner_at-inner.ensures) c.take_key-key.ensures.keys (λ H. c.prune_inside.ensures.leave (get g.nodes) (get g.boards) g.root F H))

pub returns-clause-takes : goal.returns-clause-takes
returns-clause-takes c = λ j is.
    let g = c.args.self.now in
    let k = c.take_key-key.result in
    let n = c.args.number in
    let ks = keys_in (get g.boards c.args.canvas) in
    let F = c.requires.forest in
    let at = c.take_key-key.ensures.key in
    let n₂ = get c.remove.new.self in
    let b₂ = get c.prune_inside.new.boards in
    subst (λ i. TakesBox (get g.nodes) n₂ (get g.boards) b₂ c.args.canvas i c.remove.result (take n ks) (drop (n + 1) ks)) (same_Some k j (sym at ∙ is))
    (box_taken (get g.nodes) (get c.prune_inside.new.nodes) n₂ (get g.boards) (get c.take_key-key.new.boards) b₂ g.root c.args.canvas n k c.remove.result (take n ks) (drop (n + 1) ks) c.inner_at-inner.result
    F at (sym c.inner_at-inner.ensures) c.take_key-key.ensures.keys (λ H. c.prune_inside.ensures.leave (get g.nodes) (get g.boards) g.root F H)
    c.remove.ensures.value c.remove.ensures.updates.changed c.remove.ensures.updates.others c.prune_inside.ensures.no_box_comes c.prune_inside.ensures.no_canvas_comes)

pub returns-clause-next : goal.returns-clause-next
returns-clause-next c = c.take_key-key.ensures.key ∙ ap (λ y. Some y) (sym c.remove.ensures.key_is_next)

pub returns-clause-own_room : goal.returns-clause-own_room
returns-clause-own_room c =
    let g = c.args.self.now in
    let k = c.take_key-key.result in
    let n = c.args.number in
    let ks = keys_in (get g.boards c.args.canvas) in
    let F = c.requires.forest in
    ap board_room (canvas_spared (get g.nodes) (get c.prune_inside.new.nodes) (get g.boards) (get c.take_key-key.new.boards) (get c.prune_inside.new.boards) g.root c.args.canvas n k (take n ks) (drop (n + 1) ks) c.inner_at-inner.result
    F c.take_key-key.ensures.key (sym c.inner_at-inner.ensures) c.take_key-key.ensures.keys (λ H. c.prune_inside.ensures.leave (get g.nodes) (get g.boards) g.root F H))
    ∙ c.take_key-key.ensures.room

pub invariant_of-self : goal.invariant_of-self
invariant_of-self c =
    let g = c.args.self.now in
    let k = c.take_key-key.result in
    let n = c.args.number in
    let ks = keys_in (get g.boards c.args.canvas) in
    let F = c.requires.forest in
    let at = c.take_key-key.ensures.key in
    let n₂ = get c.remove.new.self in
    let b₂ = get c.prune_inside.new.boards in
    record {
      labelled = labels_less g.labels (get g.nodes) n₂ (get g.boards) b₂ c.args.canvas k c.remove.result (take n ks) (drop (n + 1) ks)
          (box_taken (get g.nodes) (get c.prune_inside.new.nodes) n₂ (get g.boards) (get c.take_key-key.new.boards) b₂ g.root c.args.canvas n k c.remove.result (take n ks) (drop (n + 1) ks) c.inner_at-inner.result
          F at (sym c.inner_at-inner.ensures) c.take_key-key.ensures.keys (λ H. c.prune_inside.ensures.leave (get g.nodes) (get g.boards) g.root F H)
          c.remove.ensures.value c.remove.ensures.updates.changed c.remove.ensures.updates.others c.prune_inside.ensures.no_box_comes c.prune_inside.ensures.no_canvas_comes) g.labelled;
    }
