use Rattle.pd_links.proofs.RowLemmas.{put_keys, put_spare, others_set, has_room}
use Rattle.pd_links.proofs.rows.put.Goals as goal

pub push_reserved-requires : goal.push_reserved-requires
push_reserved-requires c = has_room c.args.rows.now c.args.key c.index-rows-key.result c.requires.there c.requires.room

pub returns-clause-keys : goal.returns-clause-keys
returns-clause-keys c = put_keys c.args.rows.now c.args.key c.args.other c.index-rows-key.result c.push_reserved.new.self c.requires.there c.push_reserved.ensures.items

pub returns-clause-spare : goal.returns-clause-spare
returns-clause-spare c = put_spare c.args.rows.now c.args.key c.index-rows-key.result c.push_reserved.new.self c.requires.there c.push_reserved.ensures.len c.push_reserved.ensures.capacity c.requires.room

pub returns-clause-others : goal.returns-clause-others
returns-clause-others c = others_set c.args.rows.now c.args.key c.push_reserved.new.self
