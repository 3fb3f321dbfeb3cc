use Rattle.std.proofs.Common.{rules, ◌≡◌, ℕ, ◌+◌, ◌<◌, List, length, get_or, arith, sym, ◌∙◌, ap, subst}
use Rattle.std.proofs.lemmas.List.{get_or-drop}
use Rattle.std.proofs.lemmas.List.Filters.{FiltersInPlace-all, FiltersInPlace-more_set, FiltersInPlace-more_no}
use Rattle.pd_order.specs.Graph.{tally}
use Rattle.pd_order.proofs.Basics.{tally_at}
use Rattle.pd_order.proofs.SettleLemmas.{get_or_same}
use Rattle.pd_order.proofs.settle.sweep.Goals as goal
use Rattle.pd_order.proofs.settle.sweep.Goals.{then-stays, else-stays}

pub stays-requires-clause-there : goal.stays-requires-clause-there
stays-requires-clause-there c =
    let xs : List ℕ = c.args.stuck.now.items in
    let ys : List ℕ = c.loop-at.stuck.items in
    let i : ℕ = c.loop-at.at in
    let f = c.loop-at.invariant.filtered in
    let l : i < length ys = (let a = c.loop-at.stuck.ok in let b = c.loop-at-test.true in let k = c.loop-at.auto in let e = c.len-at-end.ensures in let n = f.long in let o = c.args.stuck.now.ok in omega arith) in
    let lx : i < length xs = (let n = f.long in omega arith) in
    let z : i + 0 ≡ i = omega arith in
    let same : get_or xs i 0 ≡ get_or ys i 0 =
    ap (λ (k : ℕ). get_or xs k 0) (sym z) ∙ sym (get_or-drop i xs 0 0) ∙ ap (λ (v : List ℕ). get_or v 0 0) (sym f.rest) ∙ get_or-drop i ys 0 0 ∙ ap (λ (k : ℕ). get_or ys k 0) z in
    c.requires.there c.index-node.result.now
    (subst (λ (v : ℕ). 0 < tally v xs) (same ∙ get_or_same ys i c.index-node.result.now c.index-node.ensures l) (tally_at xs i lx))

pub loop-at-preserved : goal.loop-at-preserved
loop-at-preserved c =
    let f = c.loop-at.invariant.filtered in
    let l : c.loop-at.at < length c.loop-at.stuck.items = (let a = c.loop-at.stuck.ok in let b = c.loop-at-test.true in let k = c.loop-at.auto in let e = c.len-at-end.ensures in let n = f.long in let o = c.args.stuck.now.ok in omega arith) in
    elim c.if-stays.branch [
      | then-stays w ↦ rw (w.stuck-is, w.kept-is) (record { filtered = FiltersInPlace-more_set f l (sym c.stays.ensures ∙ w.if-stays.true) c.index-node.ensures; capacity = c.loop-at.invariant.capacity })
      | else-stays w ↦ rw (w.stuck-is, w.kept-is) (record { filtered = FiltersInPlace-more_no f l (sym c.stays.ensures ∙ w.if-stays.false) c.index-node.ensures; capacity = c.loop-at.invariant.capacity })
    ]

pub returns-clause-stuck : goal.returns-clause-stuck
returns-clause-stuck c = search (rules, FiltersInPlace-all)
