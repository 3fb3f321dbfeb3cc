use Rattle.pd_links.proofs.RowLemmas.{take_keys, take_spare, others_set, is_listed}
use Rattle.pd_links.proofs.rows.take.Goals as goal

pub take_from-requires : goal.take_from-requires
take_from-requires c = is_listed c.args.rows.now c.args.key c.args.other c.index-rows-key.result c.requires.there c.requires.listed

pub returns-clause-keys : goal.returns-clause-keys
returns-clause-keys c = λ u. take_keys c.args.rows.now c.args.key c.args.other u c.index-rows-key.result c.take_from.new.row c.requires.there (c.take_from.ensures.keys u)

pub returns-clause-spare : goal.returns-clause-spare
returns-clause-spare c = take_spare c.args.rows.now c.args.key c.args.other c.index-rows-key.result c.take_from.new.row c.requires.there c.take_from.ensures.keys c.take_from.ensures.capacity

pub returns-clause-others : goal.returns-clause-others
returns-clause-others c = others_set c.args.rows.now c.args.key c.take_from.new.row
