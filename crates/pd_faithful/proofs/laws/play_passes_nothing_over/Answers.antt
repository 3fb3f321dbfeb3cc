use Rattle.pd_faithful.proofs.WholeLemmas.{opened_free, made_free}
use Rattle.pd_faithful.proofs.laws.play_passes_nothing_over.Goals as goal

pub returns-clause-opened : goal.returns-clause-opened
returns-clause-opened c = opened_free (record {
  laws = record {
    guards = record {
      freely = c.delivery_passes_nothing_over.ensures.freely;
      order = c.delivery_passes_nothing_over.ensures.order;
      values = c.messages_keep_values.ensures.delivery;
      sizes = c.messages_keep_sizes.ensures.delivery;
      lasts = c.order_lasts.ensures;
      keeps = c.blocks_stay_in_order.ensures.kept;
      sounds = c.blocks_stay_in_order.ensures.sounds;
      begins = λ names name atoms first n h. c.commands_begin_in_order.ensures.message names name atoms first n h;
    };
    reads = c.tables_go_on.ensures;
    sends = c.commands_begin_in_order.ensures.read;
  };
  steady = c.opening_is_steady.ensures.steady;
  freely = c.opening_is_steady.ensures.freely;
}) (record {
  first = c.opening_is_steady.ensures.first;
  edits = record {
    puts = record {
      names = c.boxes_come_into_trees.ensures.names;
      runs = c.boxes_come_into_trees.ensures.runs;
      again = c.boxes_come_into_trees.ensures.again;
      holds = c.boxes_come_into_trees.ensures.holds;
      fit = c.boxes_come_into_trees.ensures.fit;
      owners = c.boxes_come_into_trees.ensures.owners;
      boxes = c.counts_follow_boxes.ensures.boxes;
      sound = c.counts_follow_boxes.ensures.sound;
      proper = c.boxes_can_be_saved.ensures.proper;
      contents = c.boxes_can_be_saved.ensures.contents;
    };
    takes = record {
      runs = c.boxes_go_from_trees.ensures.runs;
      again = c.boxes_go_from_trees.ensures.again;
      holds = c.boxes_go_from_trees.ensures.holds;
      fit = c.boxes_go_from_trees.ensures.fit;
      owners = c.boxes_go_from_trees.ensures.owners;
      boxes = c.counts_follow_deletes.ensures.boxes;
      sound = c.counts_follow_deletes.ensures.sound;
      proper = c.shorter_documents_can_be_saved.ensures.proper;
      contents = c.shorter_documents_can_be_saved.ensures.contents;
    };
    shifts = record {
      runs = c.trees_follow_moves.ensures.runs;
      boxes = c.trees_follow_moves.ensures.boxes;
      sound = c.trees_follow_moves.ensures.sound;
      zeros = c.trees_follow_moves.ensures.zeros;
      fit = c.wires_follow_moves.ensures.fit;
      owners = c.names_follow_moves.ensures;
      again = c.moved_trees_grow_again.ensures.again;
      holds = c.moved_trees_grow_again.ensures.holds;
      proper = c.moved_documents_can_be_saved.ensures.proper;
      contents = c.moved_documents_can_be_saved.ensures.contents;
    };
    retypes = record {
      names = c.boxes_become_others_in_trees.ensures.names;
      runs = c.boxes_become_others_in_trees.ensures.runs;
      again = c.boxes_become_others_in_trees.ensures.again;
      zeros = c.boxes_become_others_in_trees.ensures.zeros;
      holds = c.boxes_become_others_in_trees.ensures.holds;
      fit = c.boxes_become_others_in_trees.ensures.fit;
      owners = c.boxes_become_others_in_trees.ensures.owners;
      boxes = c.counts_follow_retypes.ensures.boxes;
      sound = c.counts_follow_retypes.ensures.sound;
      proper = c.retyped_boxes_can_be_saved.ensures.proper;
      contents = c.retyped_boxes_can_be_saved.ensures.contents;
    };
  };
  tells = c.documents_tell_trees.ensures.document;
  reads = c.written_read.ensures;
})

pub returns-clause-made : goal.returns-clause-made
returns-clause-made c = made_free (record {
  laws = record {
    guards = record {
      freely = c.delivery_passes_nothing_over.ensures.freely;
      order = c.delivery_passes_nothing_over.ensures.order;
      values = c.messages_keep_values.ensures.delivery;
      sizes = c.messages_keep_sizes.ensures.delivery;
      lasts = c.order_lasts.ensures;
      keeps = c.blocks_stay_in_order.ensures.kept;
      sounds = c.blocks_stay_in_order.ensures.sounds;
      begins = λ names name atoms first n h. c.commands_begin_in_order.ensures.message names name atoms first n h;
    };
    reads = c.tables_go_on.ensures;
    sends = c.commands_begin_in_order.ensures.read;
  };
  steady = c.opening_is_steady.ensures.steady;
  freely = c.opening_is_steady.ensures.freely;
}) (record {
  first = c.opening_is_steady.ensures.first;
  edits = record {
    puts = record {
      names = c.boxes_come_into_trees.ensures.names;
      runs = c.boxes_come_into_trees.ensures.runs;
      again = c.boxes_come_into_trees.ensures.again;
      holds = c.boxes_come_into_trees.ensures.holds;
      fit = c.boxes_come_into_trees.ensures.fit;
      owners = c.boxes_come_into_trees.ensures.owners;
      boxes = c.counts_follow_boxes.ensures.boxes;
      sound = c.counts_follow_boxes.ensures.sound;
      proper = c.boxes_can_be_saved.ensures.proper;
      contents = c.boxes_can_be_saved.ensures.contents;
    };
    takes = record {
      runs = c.boxes_go_from_trees.ensures.runs;
      again = c.boxes_go_from_trees.ensures.again;
      holds = c.boxes_go_from_trees.ensures.holds;
      fit = c.boxes_go_from_trees.ensures.fit;
      owners = c.boxes_go_from_trees.ensures.owners;
      boxes = c.counts_follow_deletes.ensures.boxes;
      sound = c.counts_follow_deletes.ensures.sound;
      proper = c.shorter_documents_can_be_saved.ensures.proper;
      contents = c.shorter_documents_can_be_saved.ensures.contents;
    };
    shifts = record {
      runs = c.trees_follow_moves.ensures.runs;
      boxes = c.trees_follow_moves.ensures.boxes;
      sound = c.trees_follow_moves.ensures.sound;
      zeros = c.trees_follow_moves.ensures.zeros;
      fit = c.wires_follow_moves.ensures.fit;
      owners = c.names_follow_moves.ensures;
      again = c.moved_trees_grow_again.ensures.again;
      holds = c.moved_trees_grow_again.ensures.holds;
      proper = c.moved_documents_can_be_saved.ensures.proper;
      contents = c.moved_documents_can_be_saved.ensures.contents;
    };
    retypes = record {
      names = c.boxes_become_others_in_trees.ensures.names;
      runs = c.boxes_become_others_in_trees.ensures.runs;
      again = c.boxes_become_others_in_trees.ensures.again;
      zeros = c.boxes_become_others_in_trees.ensures.zeros;
      holds = c.boxes_become_others_in_trees.ensures.holds;
      fit = c.boxes_become_others_in_trees.ensures.fit;
      owners = c.boxes_become_others_in_trees.ensures.owners;
      boxes = c.counts_follow_retypes.ensures.boxes;
      sound = c.counts_follow_retypes.ensures.sound;
      proper = c.retyped_boxes_can_be_saved.ensures.proper;
      contents = c.retyped_boxes_can_be_saved.ensures.contents;
    };
  };
  tells = c.documents_tell_trees.ensures.document;
  reads = c.written_read.ensures;
})
