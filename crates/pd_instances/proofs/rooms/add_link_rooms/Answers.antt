use Rattle.pd_instances.proofs.ListLemmas.{rooms_added}
use Rattle.pd_instances.proofs.rooms.add_link_rooms.Goals as goal

pub returns : goal.returns
returns c = λ insides A.
    rooms_added (λ v. v.items) c.args.row.now.sheet c.in-Some.sheet c.args.row.now.boxes c.as_slice.result.now insides c.args.rooms.now.items c.push_back.new.self.items c.in_ok-inside.inside c.in-Some.is c.as_slice.ensures c.in_ok-push_back.ensures.items
    c.in_ok-inside.ensures A
