use Rattle.pd_web.proofs.NumberLemmas.{fed_by_number, feeding_by_number}
use Rattle.pd_web.proofs.laws.canvases_wire_their_own_boxes.Goals as goal

pub returns-clause-fans : goal.returns-clause-fans
returns-clause-fans c = λ g canvas i o k own at. fed_by_number g canvas i o k own at

pub returns-clause-feeds : goal.returns-clause-feeds
returns-clause-feeds c = λ g canvas i n k own at. feeding_by_number g canvas i n k own at
