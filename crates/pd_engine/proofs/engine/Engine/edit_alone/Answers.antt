use Rattle.std.proofs.Common.{◌≡◌, refl, sym, ◌∙◌, inl}
use Rattle.std.specs.Prelude.{None, Some}
use Rattle.std.proofs.lemmas.Result.{on_err_weaker}
use Rattle.pd_queue.specs.Entries.{wire_edit}
use Rattle.pd_script.specs.Edits.{deleted, moved}
use Rattle.pd_stage.specs.Choices.{base_of, Edits}
use Rattle.pd_engine.specs.Stages.{stage_at}
use Rattle.pd_engine.proofs.CommandLemmas.{if_ok_weaker}
use Rattle.pd_engine.proofs.RewireLemmas.{IsKept, puts_sure, ready_sure}
use Rattle.pd_engine.proofs.MakingLemmas.{own_wire, edited_so, edited_part, edits_kept, edits_within}
use Rattle.pd_engine.proofs.RetypingLemmas.{rest_retypes}
use Rattle.pd_engine.proofs.engine.Engine.edit_alone.Goals as goal

pub retype_own-requires : goal.retype_own-requires
retype_own-requires g c =
    let stays : deleted c.args.edit.now ≡ None = sym c.deleted.ensures ∙ c.in_default.is in
    let rests : moved c.args.edit.now ≡ None = sym c.moved.ensures ∙ c.in_default-moved.is in
    rest_retypes c.args.edit.now c.requires stays rests (sym c.wire_edit.ensures ∙ c.in_default-wire_edit.is)

pub make-done-requires-clause-rewires : goal.make-done-requires-clause-rewires
make-done-requires-clause-rewires g c = (puts_sure c.args.self.now.patch c.args.self.now.puts).runs

pub invariant_of-self : goal.invariant_of-self
invariant_of-self g c =
    let e = c.args.self.now in
    let some : wire_edit c.args.edit.now ≡ Some c.in-Some-wire_edit.wire = sym c.wire_edit.ensures ∙ c.in-Some-wire_edit.is in
    let d = c.make-done.ensures.edits c.args.edit.now some in
    let k : IsKept c.make-done.new.patch (record e.counts { wires = c.make-done.new.wires }) =
    edits_kept e.patch c.make-done.new.patch e.counts c.make-done.new.wires c.args.path.now c.args.edit.now c.make-done.result c.args.steps.now c.make-done.new.steps d c.make-done.ensures.rewires
    c.make-done.ensures.counted (record { puts = e.puts; meet = e.meet; counted = e.counted; zero = e.zero }) in
    record {
      puts = k.puts;
      meet = k.meet;
      counted = k.counted;
      within = edits_within e.patch c.make-done.new.patch e.counts c.make-done.new.wires c.args.path.now c.args.edit.now c.make-done.result c.args.steps.now c.make-done.new.steps d e.counted
          c.make-done.ensures.counted e.within;
      zero = k.zero;
      found = e.found;
    }

pub returns-clause-ok : goal.returns-clause-ok
returns-clause-ok g c =
    let e = c.args.self.now in
    let some : wire_edit c.args.edit.now ≡ Some c.in-Some-wire_edit.wire = sym c.wire_edit.ensures ∙ c.in-Some-wire_edit.is in
    if_ok_weaker c.tell.result (λ o so samples. so samples (g.H.Shelf.holds c.args.shelf.now) (g.H.Shelf.faults c.args.shelf.now))
    (edited_so c.tell.result (Edits None c.args.path.now c.args.edit.now) c.args.path.now c.args.edit.now (own_wire (Edits None c.args.path.now c.args.edit.now) c.args.path.now c.args.edit.now c.in-Some-wire_edit.wire (inl refl) some) e.file.items e.symbols (base_of e.library e.counts) e.time e.block_end e.fired e.tally
    e.patch c.make-done.new.patch c.make-done.new.wires e.counted c.make-done.ensures.counted (stage_at c.tell.new.self) c.make-done.result (g.L.Sink.taken c.args.lines.now) (g.L.Sink.taken c.tell.new.lines) c.args.steps.now c.make-done.new.steps
    (ready_sure e.patch e.puts e.meet) c.make-done.ensures.rewires (c.make-done.ensures.edits c.args.edit.now some) c.tell.ensures.stage c.tell.ensures.ok c.tell.ensures.answer)

pub returns-clause-err : goal.returns-clause-err
returns-clause-err g c =
    let e = c.args.self.now in
    let some : wire_edit c.args.edit.now ≡ Some c.in-Some-wire_edit.wire = sym c.wire_edit.ensures ∙ c.in-Some-wire_edit.is in
    on_err_weaker c.tell.result (λ so samples. so samples (g.H.Shelf.holds c.args.shelf.now) (g.H.Shelf.faults c.args.shelf.now))
    (edited_part c.tell.result (Edits None c.args.path.now c.args.edit.now) c.args.path.now c.args.edit.now (own_wire (Edits None c.args.path.now c.args.edit.now) c.args.path.now c.args.edit.now c.in-Some-wire_edit.wire (inl refl) some) e.file.items e.symbols (base_of e.library e.counts) e.time e.block_end e.fired e.tally
    e.patch c.make-done.new.patch c.make-done.new.wires e.counted c.make-done.ensures.counted (stage_at c.tell.new.self) c.make-done.result (g.L.Sink.taken c.args.lines.now) (g.L.Sink.taken c.tell.new.lines) c.args.steps.now c.make-done.new.steps
    (ready_sure e.patch e.puts e.meet) c.make-done.ensures.rewires (c.make-done.ensures.edits c.args.edit.now some) c.tell.ensures.stage c.tell.ensures.err)
