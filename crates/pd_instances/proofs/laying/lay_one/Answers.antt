use Rattle.std.proofs.Common.{[], sym, ◌∙◌}
use Rattle.pd_instances.proofs.WireLemmas.{row_same, takes_rest}
use Rattle.pd_web.specs.Canvases.{keys_at}
use Rattle.pd_instances.proofs.StepLemmas.{lays_none, lays_one, line_lies, line_takes, rows_out, still_takes, still_wired}
use Rattle.pd_instances.proofs.laying.lay_one.Goals as goal

pub lay_line-requires-clause-route : goal.lay_line-requires-clause-route
lay_line-requires-clause-route c =
    line_lies c.args.grove.now c.args.web.now c.args.links.now c.args.canvas c.args.wire.now c.requires.wired c.requires.made c.line_between-line.result c.line_between-line.ensures
    (sym c.fits.ensures ∙ c.if-not-fits.false)

pub lay_line-requires-clause-takes : goal.lay_line-requires-clause-takes
lay_line-requires-clause-takes c =
    line_takes c.args.grove.now c.args.web.now c.args.links.now c.args.canvas c.args.wire.now c.requires.wired c.requires.made c.line_between-line.result c.line_between-line.ensures
    (sym c.fits.ensures ∙ c.if-not-fits.false) [] c.requires.takes

pub returns-then-not-fits-clause-lays : goal.returns-then-not-fits-clause-lays
returns-then-not-fits-clause-lays c =
    lays_none c.args.grove.now c.args.web.now c.args.links.now c.args.canvas c.args.wire.now c.requires.wired c.requires.made (sym c.fits.ensures ∙ c.if-not-fits.true)

pub returns-then-not-fits-clause-takes : goal.returns-then-not-fits-clause-takes
returns-then-not-fits-clause-takes c = λ ws T. takes_rest c.args.links.now (keys_at c.args.grove.now c.args.canvas) c.args.wire.now ws T

pub returns-then-not-fits-clause-others : goal.returns-then-not-fits-clause-others
returns-then-not-fits-clause-others c = λ k out. row_same c.args.links.now k

pub returns-clause-lays : goal.returns-clause-lays
returns-clause-lays c =
    lays_one c.args.grove.now c.args.web.now c.args.links.now c.args.canvas c.args.wire.now c.requires.wired c.requires.made c.line_between-line.result c.line_between-line.ensures
    (sym c.fits.ensures ∙ c.if-not-fits.false) c.lay_line.new.web c.lay_line.new.links c.lay_line.ensures.joins c.lay_line.ensures.signal c.lay_line.ensures.control

pub returns-clause-wired : goal.returns-clause-wired
returns-clause-wired c =
    still_wired c.args.grove.now c.args.web.now c.args.links.now c.args.canvas c.args.wire.now c.requires.wired c.requires.made c.line_between-line.result c.line_between-line.ensures
    (sym c.fits.ensures ∙ c.if-not-fits.false) c.lay_line.new.web c.lay_line.new.links c.lay_line.ensures.joins c.lay_line.ensures.signal c.lay_line.ensures.control

pub returns-clause-takes : goal.returns-clause-takes
returns-clause-takes c =
    still_takes c.args.grove.now c.args.web.now c.args.links.now c.args.canvas c.args.wire.now c.requires.wired c.requires.made c.line_between-line.result c.line_between-line.ensures
    (sym c.fits.ensures ∙ c.if-not-fits.false) c.lay_line.new.web c.lay_line.new.links c.lay_line.ensures.joins c.lay_line.ensures.signal c.lay_line.ensures.control

pub returns-clause-others : goal.returns-clause-others
returns-clause-others c =
    rows_out c.args.grove.now c.args.web.now c.args.links.now c.args.canvas c.args.wire.now c.requires.wired c.requires.made c.line_between-line.result c.line_between-line.ensures
    (sym c.fits.ensures ∙ c.if-not-fits.false) c.lay_line.new.web c.lay_line.new.links c.lay_line.ensures.joins c.lay_line.ensures.signal c.lay_line.ensures.control
