use Rattle.pd_wire.proofs.Rings.{puts_attach}
use Rattle.pd_wire.proofs.links.attach.Goals as goal

pub returns-clause-attaches : goal.returns-clause-attaches
returns-clause-attaches c =
    puts_attach _ _ _ _ _ _ _ _ _ _ _ c.requires.end_apart c.requires.after_apart c.requires.before_apart
    c.link_of-next.ensures c.link_of-last.ensures c.link_of-head.ensures
    c.put.ensures.puts c.put-2.ensures.puts c.put-3.ensures.puts c.put-4.ensures.puts
