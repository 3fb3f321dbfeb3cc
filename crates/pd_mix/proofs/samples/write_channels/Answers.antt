use Rattle.std.proofs.Common.{arith}
use Rattle.pd_mix.proofs.FrameLemmas.{frame_more, frame_len, frames_ended}
use Rattle.pd_mix.proofs.samples.write_channels.Goals as goal

pub loop-i-preserved : goal.loop-i-preserved
loop-i-preserved c = record {
  out = frame_more c.loop-i.out c.put_frame.new.out c.args.left.now c.args.right.now _ c.loop-i.i _ c.index-left-i.result c.index-right-i.result (omega arith) (omega arith)
      c.loop-i.invariant.left c.type_inv.right c.loop-i.invariant.len c.put_frame.ensures c.loop-i.invariant.out;
  len = frame_len c.loop-i.out c.put_frame.new.out c.args.left.now c.args.right.now c.loop-i.i _ c.index-left-i.result c.index-right-i.result (omega arith) (omega arith)
      c.loop-i.invariant.len c.put_frame.ensures;
  left = c.loop-i.invariant.left;
}

pub returns : goal.returns
returns c = frames_ended c.loop-i.out c.args.left.now c.args.right.now _ c.loop-i.i (omega arith) c.loop-i.invariant.left c.loop-i.invariant.len c.loop-i.invariant.out
