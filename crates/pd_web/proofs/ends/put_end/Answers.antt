use Rattle.std.proofs.Common.{sym, subst}
use Rattle.pd_web.specs.declared.sockets.Sockets.{Sockets}
use Rattle.pd_web.specs.Sockets.{GivesIn}
use Rattle.pd_web.proofs.EndLemmas.{gives_at}
use Rattle.pd_web.proofs.ends.put_end.Goals as goal

pub returns : goal.returns
returns c =
    let at = c.index-sockets-spot.is in
    let P : Sockets → Type 0 = λ own. GivesIn own c.put_end_in.new.own c.args.spot.side c.args.spot.port c.args.end in
    gives_at c.args.sockets.now c.index-sockets-spot.result c.put_end_in.new.own c.args.spot c.args.end at c.requires (subst P (sym at) c.put_end_in.ensures)
