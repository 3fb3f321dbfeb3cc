use Rattle.pd_boxes.proofs.RowLemmas.{row_put}
use Rattle.pd_boxes.proofs.rows.put_blocks.Goals as goal

pub returns : goal.returns
returns c = row_put (λ b. b.items) c.args.values.now.items c.args.key c.args.blocks c.requires
