use Rattle.std.proofs.Common.{arith, rules, ◌+◌, ◌-◌, ◌∙◌, sym, ap}
use Rattle.pd_tone.specs.Tones.{noise, seed_after}
use Rattle.pd_tone.proofs.Blocks.{after_left, one_more, all_numbers, last_number}
use Rattle.pd_tone.proofs.kernels.noise.Goals as goal

pub loop-i-preserved : goal.loop-i-preserved
loop-i-preserved c = record {
  room = search rules;
  seed = ap (seed_after (64 - (c.loop-i.i + 1))) c.next_seed-now.ensures ∙ sym (after_left c.loop-i.i 64 c.loop-i.now c.loop-i-test.true)
      ∙ c.loop-i.invariant.seed;
  samples = rw (c.noise_sample.ensures, c.next_seed-now.ensures)
      (one_more noise c.loop-i.i 64 c.loop-i.now c.loop-i.output _ c.loop-i-test.true (omega arith) c.loop-i.invariant.samples);
}

pub returns-clause-samples : goal.returns-clause-samples
returns-clause-samples c = all_numbers noise 64 c.loop-i.i c.loop-i.now c.loop-i.output _ (omega arith) (omega arith) c.loop-i.invariant.samples

pub returns-clause-seed : goal.returns-clause-seed
returns-clause-seed c = last_number 64 c.loop-i.i c.loop-i.now _ (omega arith) c.loop-i.invariant.seed
