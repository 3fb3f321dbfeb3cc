use Rattle.std.proofs.Common.{arith, ◌≡◌, ℕ, ◌+◌, ◌<◌, ◌≤◌, [], ◌∷◌, length, map, replicate, sym, ap, ◌∙◌, subst, length-append}
use Rattle.std.specs.Prelude.{slice_get, Some}
use Rattle.pd_kind.specs.States.{silent_block}
use Rattle.pd_patch.specs.Values.{first_blocks}
use Rattle.pd_patch.proofs.BlockLemmas.{blocks_more, all_silent}
use Rattle.pd_patch.proofs.values.values_of.Goals as goal

pub loop-key-preserved : goal.loop-key-preserved
loop-key-preserved c =
    let w = c.args.web.now in
    let key = c.loop-key.key in
    let values = c.loop-key.values.items in
    let blocks = c.in_ok-blocks.blocks in
    let same = c.in_ok-push.ensures.items in
    let longer = ap length same ∙ length-append values (blocks ∷ []) in
    let count = c.loop-key.invariant.count in
    let made = c.in_ok-blocks.ensures ∙ ap (λ n. replicate n silent_block) c.blocks_at.ensures in
    record {
      count = omega (arith, longer, count);
      each = subst (λ vs. (k : ℕ) → k < key + 1 → slice_get (map (λ b. b.items) vs) k ≡ Some (first_blocks w k)) (sym same)
          (blocks_more (λ b. b.items) w values blocks key count made c.loop-key.invariant.each);
    }

pub returns-clause-silent : goal.returns-clause-silent
returns-clause-silent c =
    let g = c.args.grove.now in
    let end : length g.nodes.slots ≤ c.in_ok-end.end = c.in_ok-end.ensures.above in
    let past = c.loop-key-test.false in
    all_silent (λ b. b.items) g c.args.web.now c.loop-key.values.items c.loop-key.key (omega (arith, end, past)) c.loop-key.invariant.each

pub returns-clause-rows : goal.returns-clause-rows
returns-clause-rows c = λ k less.
    let count = c.loop-key.invariant.count in
    c.loop-key.invariant.each k (omega (arith, less, count))
