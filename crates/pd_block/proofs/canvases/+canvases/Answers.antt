use Rattle.std.proofs.Common.{◌≡◌, ◌-◌, length, sym, ap, ◌∙◌, arith}
use Rattle.pd_block.specs.Nets.{Net, net_of, sound_of, stuck_at, chain_at}
use Rattle.pd_block.specs.Blocks.{played, each, silenced}
use Rattle.pd_block.proofs.WalkLemmas.{place_step, chain_done}
use Rattle.pd_block.proofs.canvases.+canvases.Goals as goal

pub run_canvas-loop-place-preserved : goal.run_canvas-loop-place-preserved
run_canvas-loop-place-preserved t c = record {
  net = c.run_place.ensures.net ∙ c.loop-place.invariant.net;
  played = place_step (net_of c.args.patch.now) (net_of c.loop-place.patch) c.args.start (c.args.levels - 1) c.args.canvas c.loop-place.place
      (played (each silenced (sound_of c.args.patch.now) (stuck_at (net_of c.args.patch.now) c.args.canvas)) c.args.out.now) (played (sound_of c.loop-place.patch) c.loop-place.out)
      (played (sound_of c.run_place.new.patch) c.run_place.new.out) c.loop-place.invariant.net c.loop-place.invariant.played c.run_place.ensures.played;
}

pub run_canvas-returns-clause-played : goal.run_canvas-returns-clause-played
run_canvas-returns-clause-played t c =
    let all : length (chain_at (net_of c.args.patch.now) c.args.canvas) ≡ c.chain_len-place-end.result =
    ap (λ (n : Net). length (chain_at n c.args.canvas)) (sym c.silence_stuck.ensures.net) ∙ sym c.chain_len-place-end.ensures in
    chain_done (net_of c.args.patch.now) c.args.start c.args.levels c.args.canvas c.loop-place.place (played (sound_of c.args.patch.now) c.args.out.now)
    (played (sound_of c.loop-place.patch) c.loop-place.out) (omega arith) c.loop-place.invariant.played (omega (arith, all))
