use Rattle.pd_again_law.proofs.Runs.{lawful_fair}
use Rattle.pd_play.specs.Runs.{run_of}
use Rattle.pd_faithful.proofs.StepLemmas.{run_stepped}
use Rattle.pd_faithful.proofs.laws.scripts_are_steps.Goals as goal

pub returns : goal.returns
returns c = λ ending text p h l. run_stepped (record {
  guards = record {
    freely = c.delivery_passes_nothing_over.ensures.freely;
    order = c.delivery_passes_nothing_over.ensures.order;
    values = c.messages_keep_values.ensures.delivery;
    sizes = c.messages_keep_sizes.ensures.delivery;
    lasts = c.order_lasts.ensures;
    keeps = c.blocks_stay_in_order.ensures.kept;
    sounds = c.blocks_stay_in_order.ensures.sounds;
    begins = λ names name atoms first n h. c.commands_begin_in_order.ensures.message names name atoms first n h;
  };
  reads = c.tables_go_on.ensures;
  sends = c.commands_begin_in_order.ensures.read;
}) ending text p h (lawful_fair (run_of ending text p).passage.edits l)
