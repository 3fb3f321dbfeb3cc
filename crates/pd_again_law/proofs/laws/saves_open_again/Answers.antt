use Rattle.std.proofs.Common.{◌+◌}
use Rattle.pd_steady.specs.PassedOn.{block_units}
use Rattle.pd_steady.specs.Runs.{own_ways}
use Rattle.pd_steady.specs.Steps.{run_by}
use Rattle.pd_steady.proofs.EventLemmas.{Guards}
use Rattle.pd_steady.proofs.FairLemmas.{lawful_fair}
use Rattle.pd_again_law.proofs.StandLemmas.{EditLaws}
use Rattle.pd_again_law.proofs.FoundLemmas.{run_found}
use Rattle.pd_again_law.proofs.AgainLemmas.{first_good, saves_again}
use Rattle.pd_again_law.proofs.laws.saves_open_again.Goals as goal

pub returns : goal.returns
returns c = λ holds name rate d names table p base most steps ahead x top k l.
    let guards : Guards = record {
      freely = c.delivery_passes_nothing_over.ensures.freely;
      order = c.delivery_passes_nothing_over.ensures.order;
      values = c.messages_keep_values.ensures.delivery;
      sizes = c.messages_keep_sizes.ensures.delivery;
      lasts = c.order_lasts.ensures;
      keeps = c.blocks_stay_in_order.ensures.kept;
      sounds = c.blocks_stay_in_order.ensures.sounds;
      begins = λ names name atoms first n h. c.commands_begin_in_order.ensures.message names name atoms first n h;
    } in
    let edits : EditLaws = record {
      puts = record {
        names = c.boxes_come_into_trees.ensures.names;
        runs = c.boxes_come_into_trees.ensures.runs;
        again = c.boxes_come_into_trees.ensures.again;
        holds = c.boxes_come_into_trees.ensures.holds;
        fit = c.boxes_come_into_trees.ensures.fit;
        owners = c.boxes_come_into_trees.ensures.owners;
        boxes = c.counts_follow_boxes.ensures.boxes;
        sound = c.counts_follow_boxes.ensures.sound;
        proper = c.boxes_can_be_saved.ensures.proper;
        contents = c.boxes_can_be_saved.ensures.contents;
      };
      takes = record {
        runs = c.boxes_go_from_trees.ensures.runs;
        again = c.boxes_go_from_trees.ensures.again;
        holds = c.boxes_go_from_trees.ensures.holds;
        fit = c.boxes_go_from_trees.ensures.fit;
        owners = c.boxes_go_from_trees.ensures.owners;
        boxes = c.counts_follow_deletes.ensures.boxes;
        sound = c.counts_follow_deletes.ensures.sound;
        proper = c.shorter_documents_can_be_saved.ensures.proper;
        contents = c.shorter_documents_can_be_saved.ensures.contents;
      };
      shifts = record {
        runs = c.trees_follow_moves.ensures.runs;
        boxes = c.trees_follow_moves.ensures.boxes;
        sound = c.trees_follow_moves.ensures.sound;
        zeros = c.trees_follow_moves.ensures.zeros;
        fit = c.wires_follow_moves.ensures.fit;
        owners = c.names_follow_moves.ensures;
        again = c.moved_trees_grow_again.ensures.again;
        holds = c.moved_trees_grow_again.ensures.holds;
        proper = c.moved_documents_can_be_saved.ensures.proper;
        contents = c.moved_documents_can_be_saved.ensures.contents;
      };
      retypes = record {
        names = c.boxes_become_others_in_trees.ensures.names;
        runs = c.boxes_become_others_in_trees.ensures.runs;
        again = c.boxes_become_others_in_trees.ensures.again;
        zeros = c.boxes_become_others_in_trees.ensures.zeros;
        holds = c.boxes_become_others_in_trees.ensures.holds;
        fit = c.boxes_become_others_in_trees.ensures.fit;
        owners = c.boxes_become_others_in_trees.ensures.owners;
        boxes = c.counts_follow_retypes.ensures.boxes;
        sound = c.counts_follow_retypes.ensures.sound;
        proper = c.retyped_boxes_can_be_saved.ensures.proper;
        contents = c.retyped_boxes_can_be_saved.ensures.contents;
      };
    } in
    saves_again c.documents_tell_trees.ensures.document c.written_read.ensures x.files.files rate name (most + block_units) (run_by own_ways name p table base ahead steps).edits
    (run_found x.files.files rate name guards edits name p table base ahead steps (Unit {0}) most top
    (first_good holds name rate d names p table base x (Unit {0}) most ahead (c.opening_is_steady.ensures.first holds name rate d names table p base most ahead x))
    k (lawful_fair _ l))
