use Rattle.pd_instances.specs.Needs.{inside_with}
use Rattle.std.proofs.Common.{length}
use Rattle.pd_instances.proofs.RowLemmas.{front_room, takes_opened}
use Rattle.pd_instances.proofs.linking.open_next.Goals as goal

pub open_rows-requires-clause-all : goal.open_rows-requires-clause-all
open_rows-requires-clause-all c =
    (front_room (λ v. v.items) (inside_with c.requires.room.0 (length c.args.keys.now)) c.in-Some.rows c.pop_front.new.self.items c.args.rooms.now.items c.in-Some.ensures.items c.requires.room.1).all

pub open_rows-requires-clause-empty : goal.open_rows-requires-clause-empty
open_rows-requires-clause-empty c = λ n room at.
    let A = front_room (λ v. v.items) (inside_with c.requires.room.0 (length c.args.keys.now)) c.in-Some.rows c.pop_front.new.self.items c.args.rooms.now.items c.in-Some.ensures.items c.requires.room.1 in
    let R = A.each n room at in
    record { no_from = R.no_from; no_into = R.no_into }

pub returns-clause-takes : goal.returns-clause-takes
returns-clause-takes c = λ ws A.
    takes_opened c.args.links.now c.open_rows.new.links c.args.keys.now ws c.in-Some.rows.items
    (front_room (λ v. v.items) (inside_with ws (length c.args.keys.now)) c.in-Some.rows c.pop_front.new.self.items c.args.rooms.now.items c.in-Some.ensures.items A) c.open_rows.ensures c.requires.bare

pub returns-clause-others : goal.returns-clause-others
returns-clause-others c = λ k out. c.open_rows.ensures.others k (λ n at. out n at)
