use Rattle.std.proofs.Common.{◌≡◌, Some, subst, arith}
use Rattle.std.proofs.lemmas.Result.{on_ok_weaker}
use Rattle.pd_web.specs.declared.joints.Joint.{Joint}
use Rattle.pd_web.specs.declared.sockets.Spot.{Spot}
use Rattle.pd_web.specs.Sockets.{end_at}
use Rattle.pd_web.specs.Lines.{line_from, IsJoint}
use Rattle.pd_web.proofs.SocketLemmas.{tied_still, keeps_more}
use Rattle.pd_web.proofs.WireLemmas.{holds_grown}
use Rattle.pd_web.proofs.CountLemmas.{wires_alike}
use Rattle.pd_web.proofs.LineLemmas.{laid_line}
use Rattle.pd_web.proofs.wires.join_ports.Goals as goal

pub returns-clause-tied : goal.returns-clause-tied
returns-clause-tied c = on_ok_weaker c.join.result (λ same. tied_still _ _ _ _ same c.in_ok-sink.ensures.tied) c.join.ensures.ends

pub returns-clause-laid : goal.returns-clause-laid
returns-clause-laid c = λ ls l.
    let all = c.end_for-2.new.sockets in
    let line = c.args.line in
    let first = c.in_ok-source.ensures in
    let then = c.in_ok-sink.ensures in
    let P : Spot → Type 0 = λ s. end_at c.end_for.new.sockets s ≡ Some c.in_ok-source.source in
    let Q : Spot → Type 0 = λ s. end_at all s ≡ Some c.in_ok-sink.sink in
    let joint : Joint = record { source = c.in_ok-source.source; sink = c.in_ok-sink.sink } in
    let at : IsJoint all joint line = record {
      from = then.keeps.ends (line_from line) c.in_ok-source.source (subst P c.from.ensures first.is);
      to = subst Q c.to.ensures then.is;
    } in
    let keeps = keeps_more c.args.sockets.now c.end_for.new.sockets all first.keeps then.keeps in
    on_ok_weaker c.join.result (λ h. laid_line c.args.sockets.now all c.join.new.book l.joints ls joint line keeps at l.lines h)
    (c.join.ensures.holds l.joints (holds_grown _ _ _ _ l.joints then.grows (holds_grown _ _ _ _ l.joints first.grows l.held)))

pub returns-clause-counted : goal.returns-clause-counted
returns-clause-counted c =
    let first = wires_alike c.args.book.now c.end_for.new.book c.in_ok-source.ensures.grows.wires in
    let then = wires_alike c.end_for.new.book c.end_for-2.new.book c.in_ok-sink.ensures.grows.wires in
    on_ok_weaker c.join.result (λ h. omega (arith, first, then, h)) c.join.ensures.more
