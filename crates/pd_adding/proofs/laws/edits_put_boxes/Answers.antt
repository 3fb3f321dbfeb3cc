use Rattle.pd_adding.proofs.BoxLemmas.{put_so}
use Rattle.pd_adding.proofs.laws.edits_put_boxes.Goals as goal

pub returns : goal.returns
returns c = put_so
