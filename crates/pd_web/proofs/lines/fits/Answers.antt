use Rattle.std.proofs.Common.{Option, slice_get, ap, ◌∙◌}
use Rattle.std.specs.Option.{option_copied}
use Rattle.pd_grove.specs.declared.ports.Side.TheVariants.{Outlets}
use Rattle.pd_tree.specs.Ports.{joins}
use Rattle.pd_web.specs.declared.sockets.Port.{Port}
use Rattle.pd_web.specs.Lines.{made_under, port_numbered, signal_of}
use Rattle.pd_web.proofs.LineLemmas.{fits_is}
use Rattle.pd_web.proofs.lines.fits.Goals as goal

pub returns : goal.returns
returns c =
    let all = c.args.sockets.now in
    let keys = c.args.keys.now in
    let w = c.args.wire.now in
    let made = made_under all (slice_get keys w.sink) in
    let source : Option Port = option_copied c.port_under-source.result in
    let sink : Option Port = option_copied c.port_under-sink.result in
    c.fits_between.ensures ∙ ap (λ b. joins b (signal_of source) (signal_of sink)) c.made_under-is_made.ensures
    ∙ ap (λ (o : Option Port). joins made (signal_of o) (signal_of sink)) c.port_under-source.ensures
    ∙ ap (λ (o : Option Port). joins made (signal_of (port_numbered all keys Outlets w.source w.outlet)) (signal_of o)) c.port_under-sink.ensures
    ∙ fits_is all keys w
