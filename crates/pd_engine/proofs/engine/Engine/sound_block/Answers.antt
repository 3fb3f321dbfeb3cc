use Rattle.std.proofs.Common.{◌≡◌, ◌-◌, refl, ◌∙◌, ap, subst, ℕ, List, [], arith}
use Rattle.std.proofs.lemmas.Result.{on_ok_weaker, on_err_weaker}
use Rattle.pd_io.specs.Stream.{grown, TookPart}
use Rattle.pd_mix.specs.Samples.{block_bytes}
use Rattle.pd_made.specs.Tallies.{tallied}
use Rattle.pd_block.specs.Nets as block
use Rattle.pd_block.specs.Blocks.{Played, played, block_of}
use Rattle.pd_engine.specs.Stages.{stage_at}
use Rattle.pd_stage.specs.Times.{played_at}
use Rattle.pd_engine.proofs.BlockLemmas.{played_net, played_stage, block_comes, block_breaks}
use Rattle.pd_engine.proofs.RewireLemmas.{IsKept, block_kept}
use Rattle.pd_engine.proofs.engine.Engine.sound_block.Goals as goal

pub invariant_of-self : goal.invariant_of-self
invariant_of-self g c =
    let e = c.args.self.now in
    let k : IsKept c.run_block.new.patch e.counts = block_kept e.patch c.run_block.new.patch e.counts c.run_block.ensures.net (record { puts = e.puts; meet = e.meet; counted = e.counted; zero = e.zero }) in
    record { puts = k.puts; meet = k.meet; counted = k.counted; within = e.within; zero = k.zero; found = e.found }

pub returns-clause-ok : goal.returns-clause-ok
returns-clause-ok g c =
    let before = c.args.self.now.patch in
    let s = stage_at c.args.self.now [] in
    let begins : c.of_units-start.result ≡ c.args.self.now.block_end - 64000000000 = omega (arith, c.of_units-start.ensures, c.saturating_sub.ensures, c.units-end.ensures) in
    let ran : played (block.sound_of c.run_block.new.patch) c.run_block.new.out ≡ played_at s =
    c.run_block.ensures.played ∙ ap (λ (t : ℕ). block_of (block.net_of before) (block.sound_of before) t) begins in
    on_ok_weaker c.write_whole.result
    (λ e lines looks held faults. block_comes s _ lines _ _ looks held faults
    (played_stage s _ (played_at s) refl (played_net before c.run_block.new.patch (played_at s) c.run_block.ensures.net (ap (λ (x : Played). x.sound.blocks) ran))
    (ap (λ (x : Played). x.sound.states) ran) (ap (λ (n : block.Net). n.clocks) c.run_block.ensures.net) refl refl c.later-self.ensures
    (omega (arith, c.of_units-self.ensures, c.saturating_add.ensures, c.units-end.ensures)) refl
    (c.add.ensures ∙ ap (λ (x : List ℕ). tallied c.args.self.now.tally x) (c.write_samples.ensures ∙ ap (λ (x : Played). block_bytes x.out) ran)) refl)
    (e ∙ ap (λ (x : List ℕ). grown (g.P.Sink.taken c.args.pcm.now) x) (c.write_samples.ensures ∙ ap (λ (x : Played). block_bytes x.out) ran)))
    c.write_whole.ensures.whole

pub returns-clause-err : goal.returns-clause-err
returns-clause-err g c =
    let before = c.args.self.now.patch in
    let s = stage_at c.args.self.now [] in
    let begins : c.of_units-start.result ≡ c.args.self.now.block_end - 64000000000 = omega (arith, c.of_units-start.ensures, c.saturating_sub.ensures, c.units-end.ensures) in
    let ran : played (block.sound_of c.run_block.new.patch) c.run_block.new.out ≡ played_at s =
    c.run_block.ensures.played ∙ ap (λ (t : ℕ). block_of (block.net_of before) (block.sound_of before) t) begins in
    on_err_weaker c.write_whole.result
    (λ took lines looks held faults. block_breaks s lines _ _ looks held faults
    (subst (λ (x : List ℕ). TookPart (g.P.Sink.taken c.args.pcm.now) (g.P.Sink.taken c.write_whole.new.sink) x)
    (c.write_samples.ensures ∙ ap (λ (x : Played). block_bytes x.out) ran) took))
    c.write_whole.ensures.part
