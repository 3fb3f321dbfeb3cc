use Rattle.std.proofs.Common.{sym}
use Rattle.pd_message.specs.Room.{run_of}
use Rattle.pd_message.proofs.TextLemmas.{text_step, text_end}
use Rattle.pd_message.proofs.segments.run_text.Goals as goal

pub returns-in-Some-clause-run : goal.returns-in-Some-clause-run
returns-in-Some-clause-run c =
    text_step c.args.args.now (run_of c.args.symbols.now c.args.out.now) (run_of c.run_segment.new.symbols c.run_segment.new.out) (run_of c.run_all_named.new.symbols c.run_all_named.new.out)
    c.args.text.now c.before-in-Some.result.now c.behind.result.now c.in-Some.place (sym c.in-Some.ensures) c.before-in-Some.ensures c.behind.ensures c.run_segment.ensures.run c.run_all_named.ensures.run

pub returns-in-None-clause-run : goal.returns-in-None-clause-run
returns-in-None-clause-run c =
    text_end c.args.args.now (run_of c.args.symbols.now c.args.out.now) (run_of c.run_segment-in-None.new.symbols c.run_segment-in-None.new.out) c.args.text.now (sym c.in-None.ensures) c.run_segment-in-None.ensures.run
