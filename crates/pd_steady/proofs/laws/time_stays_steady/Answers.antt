use Rattle.pd_steady.proofs.EventLemmas.{Guards}
use Rattle.pd_steady.proofs.TimeLemmas.{advanced_free, finished_free}
use Rattle.pd_steady.proofs.FairLemmas.{lawful_fair}
use Rattle.pd_steady.proofs.laws.time_stays_steady.Goals as goal

pub returns : goal.returns
returns c =
    let g : Guards = record {
      freely = c.delivery_passes_nothing_over.ensures.freely;
      order = c.delivery_passes_nothing_over.ensures.order;
      values = c.messages_keep_values.ensures.delivery;
      sizes = c.messages_keep_sizes.ensures.delivery;
      lasts = c.order_lasts.ensures;
      keeps = c.blocks_stay_in_order.ensures.kept;
      sounds = c.blocks_stay_in_order.ensures.sounds;
      begins = λ names name atoms first n h. c.commands_begin_in_order.ensures.message names name atoms first n h;
    } in
    record {
      advances = λ most to s top l h w. (advanced_free g most top to s l h (lawful_fair _ w)).steady (lawful_fair _ w);
      advances_freely = λ most to s top l h w. (advanced_free g most top to s l h (lawful_fair _ w)).same;
      finishes = λ most s top h w. (finished_free g most s top h (lawful_fair _ w)).steady (lawful_fair _ w);
      finishes_freely = λ most s top h w. (finished_free g most s top h (lawful_fair _ w)).same;
    }
