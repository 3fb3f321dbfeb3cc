use Rattle.std.proofs.Common.{ℕ, List, sym, ap, ◌∙◌}
use Rattle.std.specs.Option.{option_copied}
use Rattle.pd_tree.specs.Ports.{fits as fits_in}
use Rattle.pd_grove.specs.Telling.{keys_in}
use Rattle.pd_web.specs.declared.sockets.Sockets.{Sockets}
use Rattle.pd_web.specs.Lines.{laid_boxes}
use Rattle.pd_web.specs.Hops.{boxes_told}
use Rattle.pd_web.proofs.web.Web.fits.Goals as goal

pub returns-in-Some : goal.returns-in-Some
returns-in-Some c =
    c.fits.ensures ∙ ap (λ (all : List Sockets). fits_in (laid_boxes all c.as_slice-in-Some.result.now) c.args.wire.now) c.as_slice.ensures.value
    ∙ ap (λ (keys : List ℕ). fits_in (boxes_told c.args.self.now keys) c.args.wire.now) c.as_slice-in-Some.ensures.value
    ∙ ap (λ o. fits_in (boxes_told c.args.self.now (keys_in o)) c.args.wire.now) (sym (sym c.board.ensures ∙ ap option_copied c.in-Some.is))
