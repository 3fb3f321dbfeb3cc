use Rattle.pd_clock.specs.Rates.{samples}
use Rattle.pd_again_law.specs.Runs.{Passage, opened}
use Rattle.pd_again_law.proofs.Runs.{lawful_first, lawful_second, lawful_fair}
use Rattle.pd_play.specs.Runs.{Run, run_of}
use Rattle.pd_play.specs.Patches.{start}
use Rattle.pd_faithful.proofs.FreeLemmas.{run_free}
use Rattle.pd_faithful.proofs.WholeLemmas.{opens_steady, whole_free}
use Rattle.pd_faithful.proofs.laws.scripts_pass_nothing_over.Goals as goal

pub returns-clause-freely : goal.returns-clause-freely
returns-clause-freely c = λ ending text p h l. run_free (record {
  guards = record {
    freely = c.delivery_passes_nothing_over.ensures.freely;
    order = c.delivery_passes_nothing_over.ensures.order;
    values = c.messages_keep_values.ensures.delivery;
    sizes = c.messages_keep_sizes.ensures.delivery;
    lasts = c.order_lasts.ensures;
    keeps = c.blocks_stay_in_order.ensures.kept;
    sounds = c.blocks_stay_in_order.ensures.sounds;
    begins = λ names name atoms first n h. c.commands_begin_in_order.ensures.message names name atoms first n h;
  };
  reads = c.tables_go_on.ensures;
  sends = c.commands_begin_in_order.ensures.read;
}) ending text p h (lawful_fair (run_of ending text p).passage.edits l)

pub returns-clause-opens : goal.returns-clause-opens
returns-clause-opens c = opens_steady (record {
  laws = record {
    guards = record {
      freely = c.delivery_passes_nothing_over.ensures.freely;
      order = c.delivery_passes_nothing_over.ensures.order;
      values = c.messages_keep_values.ensures.delivery;
      sizes = c.messages_keep_sizes.ensures.delivery;
      lasts = c.order_lasts.ensures;
      keeps = c.blocks_stay_in_order.ensures.kept;
      sounds = c.blocks_stay_in_order.ensures.sounds;
      begins = λ names name atoms first n h. c.commands_begin_in_order.ensures.message names name atoms first n h;
    };
    reads = c.tables_go_on.ensures;
    sends = c.commands_begin_in_order.ensures.read;
  };
  steady = c.opening_is_steady.ensures.steady;
  freely = c.opening_is_steady.ensures.freely;
})

pub returns-clause-whole : goal.returns-clause-whole
returns-clause-whole c = λ holds name rate d names table p base edits ending text g l.
    let o : Passage = opened name p table base edits in
    let run : Run = run_of ending text (start o.stage (samples rate)) in
    whole_free (record {
      laws = record {
        guards = record {
          freely = c.delivery_passes_nothing_over.ensures.freely;
          order = c.delivery_passes_nothing_over.ensures.order;
          values = c.messages_keep_values.ensures.delivery;
          sizes = c.messages_keep_sizes.ensures.delivery;
          lasts = c.order_lasts.ensures;
          keeps = c.blocks_stay_in_order.ensures.kept;
          sounds = c.blocks_stay_in_order.ensures.sounds;
          begins = λ names name atoms first n h. c.commands_begin_in_order.ensures.message names name atoms first n h;
        };
        reads = c.tables_go_on.ensures;
        sends = c.commands_begin_in_order.ensures.read;
      };
      steady = c.opening_is_steady.ensures.steady;
      freely = c.opening_is_steady.ensures.freely;
    })
    holds name rate d names table p base edits ending text g (lawful_first o.edits run.passage.edits l) (lawful_fair run.passage.edits (lawful_second o.edits run.passage.edits l))
