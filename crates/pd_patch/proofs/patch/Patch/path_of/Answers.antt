use Rattle.std.proofs.Common.{arith, ◌≡◌, ℕ, List, length, ap, ◌∙◌, length-append}
use Rattle.std.specs.Prelude.{reverse}
use Rattle.std.proofs.lemmas.List.{length-reverse}
use Rattle.slab.specs.Slab.{get}
use Rattle.pd_patch.specs.Paths.{path_told, number_of}
use Rattle.pd_patch.proofs.PathLemmas.{outward-step, outward-end, number-short, refill-same}
use Rattle.pd_patch.proofs.patch.Patch.path_of.Goals as goal

pub loop-level-preserved : goal.loop-level-preserved
loop-level-preserved c =
    let g = c.args.self.now in
    let longer = ap length c.step_out-here.ensures.path in
    let both = length-append c.loop-level.path.items (number_of c.loop-level.here) in
    let short = number-short c.loop-level.here in
    record {
      few = omega arith;
      same = outward-step (get g.grove.nodes) g.grove.boards g.numbers.items c.loop-level.path.items c.step_out-here.new.path.items c.loop-level._level c.loop-level.here c.step_out-here.result (omega arith)
          c.step_out-here.ensures.path c.step_out-here.ensures.out ∙ c.loop-level.invariant.same;
    }

pub returns : goal.returns
unfolding path_told
returns c =
    let g = c.args.self.now in
    let turned = c.reverse.ensures.after ∙ ap (λ (l : List ℕ). reverse l) c.as_mut_slice.ensures.value in
    let e : c.loop-level._level ≡ 256 = omega arith in
    let whole = outward-end (get g.grove.nodes) g.grove.boards g.numbers.items c.loop-level.path.items c.loop-level._level c.loop-level.here e ∙ c.loop-level.invariant.same in
    refill-same c.loop-level.path.items c.reverse.new.self (ap length turned ∙ length-reverse c.loop-level.path.items) ∙ turned ∙ ap (λ (l : List ℕ). reverse l) whole
