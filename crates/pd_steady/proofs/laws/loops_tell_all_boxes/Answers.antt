use Rattle.std.proofs.Common.{refl}
use Rattle.pd_library.specs.Files.{answer_in}
use Rattle.pd_patch.specs.declared.patch.Patch.{Patch}
use Rattle.pd_wiring.specs.Changes.{CanRewire}
use Rattle.pd_stage.specs.Times.{with_wires}
use Rattle.pd_steady.proofs.ToldLemmas.{tree_short}
use Rattle.pd_steady.proofs.LoopLemmas.{notices_told}
use Rattle.pd_steady.proofs.MadeLemmas.{rewires_with, made_at, made_told, put_told, all_put_told, take_told, move_told, move_around, retype_short}
use Rattle.pd_steady.proofs.laws.loops_tell_all_boxes.Goals as goal

pub returns : goal.returns
returns c = record {
  opened = λ holds name rate d names table p base g.
      notices_told p g.tree.tree g.tree.stands g.tree.shallow (c.orders_are_short.ensures (answer_in g.files.files) name d g.files.names table 1001 rate p g.tree g.fresh);
  edited = λ s t. record {
    rewired = λ path e m made.
        let q : Patch = with_wires t.patch made.new.web made.new.links made.new.orders in
        let can : CanRewire q = rewires_with c.rewiring_asks_alike.ensures t.patch s path e m t.of made in
        made_told made.new made.canvas (λ o order. tree_short s t q refl can.orders path made.canvas o (made_at t.patch s path e m t.of made) order);
    put = λ path e m made. put_told s path e m t made made.box.canvas;
    around = λ path e m canvas made at. put_told s path e m t made canvas;
    within = λ path e m made. all_put_told s path e m t made _;
    taken = λ path number m made. take_told s path number m t made made.box.canvas;
    taken_around = λ path number m canvas made at. take_told s path number m t made canvas;
    moved = λ path number x y m made. move_told s path number x y m t made;
    moved_around = λ path number x y m canvas made at. move_around s path number x y m t made canvas at;
    retyped = λ path number text m made. made_told made.new made.box.canvas (λ o order. retype_short s path number text m t made o order);
  };
}
