use Rattle.pd_steady.proofs.EventLemmas.{Guards}
use Rattle.pd_steady.proofs.RunLemmas.{commanded_free}
use Rattle.pd_steady.proofs.FairLemmas.{lawful_fair}
use Rattle.pd_steady.proofs.laws.commands_stay_steady.Goals as goal

pub returns : goal.returns
returns c =
    let g : Guards = record {
      freely = c.delivery_passes_nothing_over.ensures.freely;
      order = c.delivery_passes_nothing_over.ensures.order;
      values = c.messages_keep_values.ensures.delivery;
      sizes = c.messages_keep_sizes.ensures.delivery;
      lasts = c.order_lasts.ensures;
      keeps = c.blocks_stay_in_order.ensures.kept;
      sounds = c.blocks_stay_in_order.ensures.sounds;
      begins = λ names name atoms first n h. c.commands_begin_in_order.ensures.message names name atoms first n h;
    } in
    record {
      steady = λ most k s h i l. (commanded_free g most k s h i (lawful_fair _ l)).steady (lawful_fair _ l);
      freely = λ most k s h i l. (commanded_free g most k s h i (lawful_fair _ l)).same;
    }
