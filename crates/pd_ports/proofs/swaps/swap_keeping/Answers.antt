use Rattle.std.proofs.Common.{set, Some, sym, ap, ◌∙◌, subst}
use Rattle.std.proofs.lemmas.Option.{same_Some, slice_get-get_or}
use Rattle.pd_grove.specs.declared.ports.Side.{Side}
use Rattle.pd_web.specs.declared.sockets.Sockets.{Sockets}
use Rattle.pd_web.specs.Sockets.{side_ports}
use Rattle.pd_ports.specs.Refits.{MovesEnds}
use Rattle.pd_ports.proofs.RefitLemmas.{swapped, set_is, set_else, set_count}
use Rattle.pd_ports.proofs.swaps.swap_keeping.Goals as goal

pub returns : goal.returns
returns c =
    let all = c.args.sockets.now.items in
    let key = c.args.key in
    let was = c.index_mut.result.now in
    let rest = c.move_ends.new.old in
    let own = c.move_ends.new.own in
    let at = slice_get-get_or all key was c.requires.here ∙ ap (λ (x : Sockets). Some x) (sym c.index_mut.ensures.value) in
    let left = same_Some rest c.swap_sockets.result (sym (set_is all key rest c.requires.here) ∙ c.swap_sockets.ensures.was) in
    let P : Sockets → Type 0 = λ x. (side : Side) → MovesEnds (side_ports side was) (side_ports side c.args.own) (side_ports side x) (side_ports side own) in
    swapped all (set all key rest) c.swap_sockets.new.sockets.items key was c.args.own own c.swap_sockets.result at (subst P left c.move_ends.ensures.moves) c.move_ends.ensures.made
    (λ k ne. set_else all key rest k ne) (set_count all key rest) c.swap_sockets.ensures.puts
