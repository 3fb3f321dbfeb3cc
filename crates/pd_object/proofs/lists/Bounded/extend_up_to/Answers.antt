use Rattle.std.proofs.Common.{◌≡◌, ◌-◌, ◌++◌, length, min, ◌∙◌, arith}
use Rattle.pd_object.proofs.ListLemmas.{grown_up_to, cut_short}
use Rattle.pd_object.proofs.lists.Bounded.extend_up_to.Goals as goal

pub returns-clause-items : goal.returns-clause-items
returns-clause-items g c =
    let count : c.min-count.result ≡ min (c.args.most - length c.args.self.now) (length c.args.items.now) = omega arith in
    c.append.ensures.items ∙ (rw c.self.view_is (grown_up_to c.args.self.now c.args.items.now c.args.most c.min-count.result c.requires.within count))

pub returns-clause-small : goal.returns-clause-small
returns-clause-small g c = cut_short c.args.most (c.args.self.now ++ c.args.items.now) c.append.new.list.items (returns-clause-items g c)
