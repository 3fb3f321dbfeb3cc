use Rattle.std.proofs.Common.{[]}
use Rattle.pd_engine.specs.Opening.{growth_of}
use Rattle.pd_ends_law.proofs.OpenLemmas.{grown_open}
use Rattle.pd_sound_law.proofs.ReadyLemmas.{planted_few, ready_grown}
use Rattle.pd_steady.proofs.KeyLemmas.{fresh_rows}
use Rattle.pd_steady.proofs.EventLemmas.{Guards}
use Rattle.pd_steady.proofs.RunLemmas.{first_steady, opened_free, at_first, first_names_in}
use Rattle.pd_steady.proofs.FairLemmas.{lawful_fair}
use Rattle.pd_engine.proofs.WholeLemmas.{first_both}
use Rattle.pd_steady.proofs.laws.opening_is_steady.Goals as goal

pub returns : goal.returns
returns c =
    let g : Guards = record {
      freely = c.delivery_passes_nothing_over.ensures.freely;
      order = c.delivery_passes_nothing_over.ensures.order;
      values = c.messages_keep_values.ensures.delivery;
      sizes = c.messages_keep_sizes.ensures.delivery;
      lasts = c.order_lasts.ensures;
      keeps = c.blocks_stay_in_order.ensures.kept;
      sounds = c.blocks_stay_in_order.ensures.sounds;
      begins = λ names name atoms first n h. c.commands_begin_in_order.ensures.message names name atoms first n h;
    } in
    record {
      first = λ holds name rate d names table p base most ahead x.
          first_steady most name p table base ahead (c.grown_patches_are_near.ensures p table name rate (growth_of name d x.files) x.tree x.fresh)
          (c.grown_patches_are_in_order.ensures.order x.files.files name d x.files.names table 1001 rate p 0 [] at_first (first_names_in x.files.names x.table) x.proper x.found x.tree x.fresh)
          (c.grown_patches_are_in_order.ensures.sounds x.files.files name d x.files.names table 1001 rate p [] (first_names_in x.files.names x.table) x.proper x.found x.tree x.fresh)
          (ready_grown p table name rate x.fresh (planted_few x.files.files name d x.files.names table 1001 rate p x.proper x.found x.tree) (c.what_is_made_has_sizes.ensures.patches p table name rate (growth_of name d x.files) x.tree x.fresh))
          (fresh_rows p table name rate x.fresh) (record { each = grown_open p rate 0 0 x.fresh.states }) (first_both holds name rate d names table p base ahead x);
      steady = λ holds name rate d names table p base most ahead x l. (opened_free g most name p table base ahead
          (c.grown_patches_are_near.ensures p table name rate (growth_of name d x.files) x.tree x.fresh)
          (c.grown_patches_are_in_order.ensures.order x.files.files name d x.files.names table 1001 rate p 0 [] at_first (first_names_in x.files.names x.table) x.proper x.found x.tree x.fresh)
          (c.grown_patches_are_in_order.ensures.sounds x.files.files name d x.files.names table 1001 rate p [] (first_names_in x.files.names x.table) x.proper x.found x.tree x.fresh)
          (ready_grown p table name rate x.fresh (planted_few x.files.files name d x.files.names table 1001 rate p x.proper x.found x.tree) (c.what_is_made_has_sizes.ensures.patches p table name rate (growth_of name d x.files) x.tree x.fresh)) (fresh_rows p table name rate x.fresh) (record { each = grown_open p rate 0 0 x.fresh.states }) (first_both holds name rate d names table p base ahead x) (lawful_fair _ l)).steady (lawful_fair _ l);
      freely = λ holds name rate d names table p base ahead x l. (opened_free g 0 name p table base ahead
          (c.grown_patches_are_near.ensures p table name rate (growth_of name d x.files) x.tree x.fresh)
          (c.grown_patches_are_in_order.ensures.order x.files.files name d x.files.names table 1001 rate p 0 [] at_first (first_names_in x.files.names x.table) x.proper x.found x.tree x.fresh)
          (c.grown_patches_are_in_order.ensures.sounds x.files.files name d x.files.names table 1001 rate p [] (first_names_in x.files.names x.table) x.proper x.found x.tree x.fresh)
          (ready_grown p table name rate x.fresh (planted_few x.files.files name d x.files.names table 1001 rate p x.proper x.found x.tree) (c.what_is_made_has_sizes.ensures.patches p table name rate (growth_of name d x.files) x.tree x.fresh)) (fresh_rows p table name rate x.fresh) (record { each = grown_open p rate 0 0 x.fresh.states }) (first_both holds name rate d names table p base ahead x) (lawful_fair _ l)).same;
    }
